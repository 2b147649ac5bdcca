-- What a search promises, of any outcome that its contract allows. Assumes nothing.
use mathlib.Core.Path.{◌≡◌, refl, sym, ap, subst, ◌∙◌}
use mathlib.Core.Bool.{Bool, true, false, cond}
use mathlib.Core.List.{List, [], ◌∷◌, ◌++◌}
use Prim.Native.Nat.{ℕ, ◌<◌}
use native.Mathlib.Decide.{ℕ_discrete}
use native.Mathlib.Omega.{arith}
use lib.Dec.{T, eqb, leb}
use lib.ListN.{length}
use borrow.Author.Tests.{ne_eqb, leb-false}
use Rattle.lists.specs.Lists.{over, is_in}
use Rattle.lists.proofs.Counts.{pick}
use Rattle.lists.proofs.Within.{t_to_false, list_in}
use Rattle.paper.specs.declared.Verdict.{Verdict}
use Rattle.paper.specs.Lattice.{Lattice, cubes, crossed, visited}
use Rattle.paper.specs.Tests.{Test, verdict, judge}
use Rattle.paper.specs.Room.{lengths, output_after}
use Rattle.paper.specs.Build.{shape_tests}
use Rattle.paper.specs.Within.{Sized}
use Rattle.paper.proofs.Judged.{judge_all, judge_past, judge_stop, judge_among, sized}
use Rattle.paper.proofs.Passing.{shape_numbered}
use Rattle.tray.specs.declared.Found.{Found}
use Rattle.tray.specs.Pieces.{lowest_cubes, plain_scan, Lent, piece_tests, find_number, found_in, lent_after, Finds}
use Rattle.tray.proofs.Scanning.{scan_lowest, one_piece}
use Rattle.std.specs.Prelude.{Result, Ok, Err}
use Rattle.paper.specs.declared.Refusal.{Refusal}
use Rattle.paper.specs.declared.Refusal.TheVariants.{Axes, SampleCount, WorkRoom, NoCube, NotCrossed, VertexRoom, TriangleRoom, ByteRoom, CountLimit, ShortFile, Mark}
use Rattle.paper.specs.declared.Refusal.TheVariants.{Layout, Index, OtherSizes, Record, Triangle, Absent, Grey, LevelOrder, Coordinate, Scale}
use Rattle.paper.specs.Refused.{verdict_of}
use Rattle.paper.proofs.Refusals.{some_number}
use Rattle.paper.proofs.Told.{placed, number_one}
use Rattle.tray.specs.declared.FindError.{FindError}
use Rattle.tray.specs.declared.FindError.TheVariants.{Refused, ListRoom}
use Rattle.tray.specs.Told.{found_told}

-- any two outcomes agree
pub finds_agree : {L : Lattice} {before : Lent} {r r' : Found} {after after' : Lent} → Finds L before r after → Finds L before r' after'
    → (r ≡ r') × (after ≡ after')
finds_agree a b = (a.answer ∙ sym b.answer, a.left ∙ sym b.left)

-- no number but 1, 2 and 3 is the shape's
module _ (L : Lattice) (l : Lent) where
  abbrev shape : List Test
  shape = shape_tests L (lengths l.work)

  abbrev rest : List Test
  rest = piece_tests (length (plain_scan L)) (length l.list)

  shaped : is_in (1 ∷ 2 ∷ 3 ∷ []) (find_number L l) ≡ false → Sized L.size × (find_number L l ≡ (judge rest).number)
  unfolding find_number shape_tests
  shaped h = go (ℕ_discrete (judge shape).number 0)
    where
      go : Dec ((judge shape).number ≡ 0) → Sized L.size × ((judge (shape ++ rest)).number ≡ (judge rest).number)
      go (yes e) = (
        sized L.size (judge_all shape (shape_numbered L (lengths l.work)) e).0,
        ap (λ (v : Verdict). v.number) (judge_past shape rest (shape_numbered L (lengths l.work)) e),
      )
      go (no n) =
          absurd (subst T (ap (is_in (1 ∷ 2 ∷ 3 ∷ [])) (ap (λ (v : Verdict). v.number) (sym (judge_stop shape rest n))) ∙ h)
          (judge_among (λ k. T (is_in (1 ∷ 2 ∷ 3 ∷ []) k)) shape (tt, (tt, (tt, tt))) (λ z. absurd (n z))))

module _ {L : Lattice} {before : Lent} {r : Found} {after : Lent} (f : Finds L before r after) where
  number_is : r.number ≡ find_number L before
  unfolding found_in
  number_is = ap (λ (v : Found). v.number) f.answer

  pieces_are : r.pieces ≡ (found_in L before).pieces
  pieces_are = ap (λ (v : Found). v.pieces) f.answer

  -- a number that tells how many: the shape is sound
  shape_of : (n : ℕ) → r.number ≡ n → is_in (1 ∷ 2 ∷ 3 ∷ []) n ≡ false → Sized L.size × ((judge (rest L before)).number ≡ n)
  shape_of n e h =
      let q : find_number L before ≡ n = sym number_is ∙ e in
      let s = shaped L before (ap (is_in (1 ∷ 2 ∷ 3 ∷ [])) q ∙ h) in
      (s.0, sym s.1 ∙ q)

  -- 0: the list holds the lowest cube of each piece, by rising number, and the count is how many they are
  pub listed : r.number ≡ 0 → (after.list ≡ over (lowest_cubes L) before.list) × (r.pieces ≡ length (lowest_cubes L))
  unfolding found_in lent_after output_after
  listed e =
      let q : find_number L before ≡ 0 = sym number_is ∙ e in
      let w = scan_lowest L (shape_of 0 e refl).0 in (
        ap (λ (l : Lent). l.list) f.left
            ∙ (ap (λ (n : ℕ). cond (eqb n 0) (over (plain_scan L) before.list) before.list) q
            ∙ ap (λ (l : List ℕ). over l before.list) w),
        pieces_are ∙ (ap (λ (n : ℕ). cond (is_in (0 ∷ 20 ∷ []) n) (length (plain_scan L)) 0) q ∙ ap length w),
      )

  -- a refusal leaves the list
  pub untouched : (r.number ≡ 0 → ⊥) → after.list ≡ before.list
  unfolding lent_after output_after
  untouched h =
      ap (λ (l : Lent). l.list) f.left
      ∙ ap (λ (b : Bool). cond b (over (plain_scan L) before.list) before.list)
      (ne_eqb (find_number L before) 0 (λ q. h (number_is ∙ q)))

  -- 20: there are more pieces than the list holds, and the count is how many they are
  pub too_many : r.number ≡ 20 → (r.pieces ≡ length (lowest_cubes L)) × (length before.list < length (lowest_cubes L))
  unfolding found_in piece_tests
  too_many e =
      let q : find_number L before ≡ 20 = sym number_is ∙ e in
      let s = shape_of 20 e refl in
      let w = ap length (scan_lowest L s.0) in (
        pieces_are ∙ (ap (λ (n : ℕ). cond (is_in (0 ∷ 20 ∷ []) n) (length (plain_scan L)) 0) q ∙ w),
        subst (λ (n : ℕ). length before.list < n) w
            (go (leb 1 (length (plain_scan L))) (leb (length (plain_scan L)) (length before.list)) refl s.1),
      )
    where
      go : (a b : Bool) → leb (length (plain_scan L)) (length before.list) ≡ b
          → (cond a (cond b (verdict 0 0) (verdict 20 0)) (verdict 5 0)).number ≡ 20 → length before.list < length (plain_scan L)
      go true true g h = absurd (omega arith)
      go true false g h = leb-false (length (plain_scan L)) (length before.list) g
      go false b g h = absurd (omega arith)

  -- 5: no cube is crossed
  pub none_crossed : r.number ≡ 5 → (k : ℕ) → k < cubes L.size → crossed L k ≡ false
  unfolding piece_tests
  none_crossed e k h =
      let s = shape_of 5 e refl in
      t_to_false (crossed L k)
      (λ c.
      let one = one_piece L s.0 k h c in
      let p = pick (λ c. is_in (visited L c) k) (plain_scan L) (λ z. omega (arith, one)) in
      none (plain_scan L) p.0 (list_in p.1)
      (go (leb 1 (length (plain_scan L))) (leb (length (plain_scan L)) (length before.list)) refl s.1))
    where
      go : (a b : Bool) → leb 1 (length (plain_scan L)) ≡ a → (cond a (cond b (verdict 0 0) (verdict 20 0)) (verdict 5 0)).number ≡ 5
          → length (plain_scan L) < 1
      go true true g h = absurd (omega arith)
      go true false g h = absurd (omega arith)
      go false b g h = leb-false 1 (length (plain_scan L)) g

      none : (l : List ℕ) (c : ℕ) → T (is_in l c) → length l < 1 → ⊥
      none [] c t h = t
      none (x ∷ l) c t h = omega arith

-- ── a search's answer as a Result: where its contract allows one outcome, it allows one Result ──

-- 20 is the list's alone
not_twenty : (e : Refusal) → (verdict_of e).number ≡ 20 → ⊥
not_twenty Axes h = absurd (omega (arith, h))
not_twenty SampleCount h = absurd (omega (arith, h))
not_twenty WorkRoom h = absurd (omega (arith, h))
not_twenty NoCube h = absurd (omega (arith, h))
not_twenty NotCrossed h = absurd (omega (arith, h))
not_twenty VertexRoom h = absurd (omega (arith, h))
not_twenty TriangleRoom h = absurd (omega (arith, h))
not_twenty ByteRoom h = absurd (omega (arith, h))
not_twenty CountLimit h = absurd (omega (arith, h))
not_twenty ShortFile h = absurd (omega (arith, h))
not_twenty Mark h = absurd (omega (arith, h))
not_twenty Layout h = absurd (omega (arith, h))
not_twenty (Index i) h = absurd (omega (arith, h))
not_twenty OtherSizes h = absurd (omega (arith, h))
not_twenty (Record i) h = absurd (omega (arith, h))
not_twenty (Triangle i) h = absurd (omega (arith, h))
not_twenty Absent h = absurd (omega (arith, h))
not_twenty (Grey i) h = absurd (omega (arith, h))
not_twenty LevelOrder h = absurd (omega (arith, h))
not_twenty (Coordinate i) h = absurd (omega (arith, h))
not_twenty Scale h = absurd (omega (arith, h))

found_one : (r s : Result ℕ FindError) → placed (found_told r).number ≡ false → found_told r ≡ found_told s → r ≡ s
found_one (Ok m) (Ok n) p h = ap (λ (f : Found). Ok f.pieces) h
found_one (Ok m) (Err (Refused f)) p h = absurd (omega (arith, some_number f, ap (λ (f : Found). f.number) h))
found_one (Ok m) (Err (ListRoom n)) p h = absurd (omega (arith, ap (λ (f : Found). f.number) h))
found_one (Err (Refused e)) (Ok n) p h = absurd (omega (arith, some_number e, ap (λ (f : Found). f.number) h))
found_one (Err (Refused e)) (Err (Refused f)) p h =
    ap (λ (e : Refusal). Err (Refused e)) (number_one e f p (ap (λ (f : Found). f.number) h))
found_one (Err (Refused e)) (Err (ListRoom n)) p h = absurd (not_twenty e (ap (λ (f : Found). f.number) h))
found_one (Err (ListRoom m)) (Ok n) p h = absurd (omega (arith, ap (λ (f : Found). f.number) h))
found_one (Err (ListRoom m)) (Err (Refused f)) p h = absurd (not_twenty f (sym (ap (λ (f : Found). f.number) h)))
found_one (Err (ListRoom m)) (Err (ListRoom n)) p h = ap (λ (f : Found). Err (ListRoom f.pieces)) h

unplaced_number : (L : Lattice) (l : Lent) → placed (find_number L l) ≡ false
unfolding find_number shape_tests piece_tests
unplaced_number L l =
    judge_among (λ n. placed n ≡ false) (shape L l ++ rest L l) (refl, (refl, (refl, (refl, (refl, tt))))) (λ z. refl)

pub find_results : {L : Lattice} {before : Lent} {r r' : Result ℕ FindError} {after after' : Lent}
    → Finds L before (found_told r) after → Finds L before (found_told r') after' → (r ≡ r') × (after ≡ after')
find_results {L} {before} {r} {r'} a b =
    let w = finds_agree a b in
    (found_one r r' (ap placed (number_is a) ∙ unplaced_number L before) w.0, w.1)
