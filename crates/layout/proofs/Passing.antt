-- What passing a file's tests gives. Assumes nothing.
use mathlib.Core.Path.{◌≡◌, refl, sym, subst, ◌∙◌}
use mathlib.Core.Bool.{Bool, true, false, ◌||◌}
use mathlib.Core.List.{List}
use Prim.Native.Nat.{ℕ, zero, suc, ◌+◌, ◌*◌, ◌/◌, ◌%◌, ◌<◌}
use native.Mathlib.Omega.{arith}
use borrow.Author.Tests.{leb-false, eqb-true}
use lib.Dec.{T, leb}
use lib.ListN.{get_or}
use Rattle.lists.proofs.Firsts.{first_before}
use Rattle.paper.specs.Tests.{judge}
use Rattle.paper.specs.File.{bad_triangle, first_bad, trailer, file_v, file_t, file_sizes, file_triangles, file_tests}
use Rattle.paper.proofs.Judged.{Passed, judge_all, sized}
use Rattle.paper.proofs.Passing.{file_numbered}
use Rattle.layout.specs.Laid.{any_from, LaidOut}
use Rattle.layout.proofs.Trailer.{bad_is, bad_missing, ranged}

-- ── 15 ──

neither : (a b : Bool) → (a || b) ≡ false → (a ≡ false) × (b ≡ false)
neither true b e = absurd (subst T e tt)
neither false b e = (refl, e)

below : (n a b c : ℕ) → any_from n a b c ≡ false → (a < n) × (b < n) × (c < n)
below n a b c e =
    let x = neither (leb n a) (leb n b || (leb n c || false)) e in
    let y = neither (leb n b) (leb n c || false) x.1 in
    let z = neither (leb n c) false y.1 in
    (leb-false n a x.0, leb-false n b y.0, leb-false n c z.0)

module _ (nv nt : ℕ) (ts : List ℕ) (none : first_bad nv nt ts ≡ nt) where
  pub none_bad : (k : ℕ) → k < nt → bad_triangle nv ts k ≡ false
  unfolding first_bad
  none_bad k l = first_before (bad_triangle nv ts) nt k (subst (λ (n : ℕ). k < n) (sym none) l)

  -- each index is below V
  corner : (k r i : ℕ) → k < nt → r < 3 → i ≡ 3 * k + r → get_or ts i 0 < nv
  corner k r i l h e = go r h e
    where
      low : (get_or ts (3 * k) 0 < nv) × (get_or ts (3 * k + 1) 0 < nv) × (get_or ts (3 * k + 2) 0 < nv)
      low = below nv (get_or ts (3 * k) 0) (get_or ts (3 * k + 1) 0) (get_or ts (3 * k + 2) 0) (sym (bad_is nv ts k) ∙ none_bad k l)

      at : (j : ℕ) → get_or ts j 0 < nv → i ≡ j → get_or ts i 0 < nv
      at j h e = rw e h

      go : (r : ℕ) → r < 3 → i ≡ 3 * k + r → get_or ts i 0 < nv
      go zero h e = at (3 * k) low.0 (omega arith)
      go (suc zero) h e = at (3 * k + 1) low.1 (omega arith)
      go (suc (suc zero)) h e = at (3 * k + 2) low.2 (omega arith)
      go (suc (suc (suc r))) h e = absurd (omega arith)

  pub index_below : (i : ℕ) → i < 3 * nt → get_or ts i 0 < nv
  index_below i h = corner (i / 3) (i % 3) i (omega arith) (omega arith) (omega arith)

-- the indices settle it
pub first_same : (nv nt : ℕ) (ts us : List ℕ) → ((i : ℕ) → i < 3 * nt → get_or us i 0 ≡ get_or ts i 0)
    → first_bad nv nt ts ≡ nt → first_bad nv nt us ≡ nt
first_same nv nt ts us same none =
    sym
    (bad_missing nv nt us
    (λ k h.
    bad_is nv us k
    ∙ (rw (same (3 * k) (omega arith), same (3 * k + 1) (omega arith), same (3 * k + 2) (omega arith)) (sym (bad_is nv ts k))
    ∙ none_bad nv nt ts none k h)))

-- ── a file that passes its tests ──

pub passed_laid : (bs : List ℕ) → Passed (file_tests bs) → LaidOut bs
unfolding file_tests
passed_laid bs a =
    let none : first_bad (file_v bs) (file_t bs) (file_triangles bs) ≡ file_t bs = eqb-true _ _ a.1.1.1.1.0 in
    record {
      marked = eqb-true (trailer 2 bs 22) 21331 a.1.0;
      ranged = ranged bs a.1.1.1.0;
      sized = sized (file_sizes bs) a.1.1.0;
      good = none;
      below = index_below (file_v bs) (file_t bs) (file_triangles bs) none;
    }

pub laid_out : (bs : List ℕ) → (judge (file_tests bs)).number ≡ 0 → LaidOut bs
laid_out bs e = passed_laid bs (judge_all (file_tests bs) (file_numbered bs) e)
