-- Signed numbers that the machine compares, the four numbers of a record, two records that are the same, and an edge among n.
-- Assumes nothing.
use mathlib.Core.Path.{◌≡◌, refl, sym, ap, subst, ◌∙◌}
use mathlib.Core.Bool.{Bool, true, false, cond, ◌&&◌, and-true}
use mathlib.Core.List.{List, [], ◌∷◌}
use Prim.Native.Nat.{ℕ, suc, ◌+◌, ◌*◌, ◌≤◌, ◌<◌}
use native.Mathlib.Omega.{arith}
use lib.IntN.{ℤ, pos, negsuc, nat_abs}
use lib.Signed.{lt_z, non_neg}
use lib.Dec.{T, eqb, eqb→eq, eqb_refl}
use lib.ListN.{length, get_or, take, drop}
use lib.Seq.{drop-cons}
use borrow.Author.Tests.{lt-ltb, le-ltb, ltb-true}
use mir.Syntax.{Width}
use mir.Val.{SFits, to_z, of_z}
use mir.Facts.{to_z-of_z}
use Rattle.std.proofs.Common.{int_eq}
use Rattle.std.proofs.lemmas.Bool.Decides.{Decides-int_eq}
use Rattle.lists.proofs.Closure.{bool_same}
use Rattle.lists.proofs.Member.{t_to_eq, eq_to_t}
use Rattle.paper.specs.Check.{same_number, same_numbers, record_of, edge_of}
use Rattle.paper.proofs.Records.{same_number_law, number_same}
use Rattle.crossing.specs.declared.Vertex.{Vertex}
use Rattle.crossing.specs.Vertex.{numbers}
use Rattle.check_records.specs.Records.{edge_in}

-- the machine compares bits
pub same_bits : {w : Width} (x y : ℤ) → SFits w x → SFits w y → eqb (of_z w x) (of_z w y) ≡ same_number x y
same_bits {w} x y f g =
    bool_same (eqb (of_z w x) (of_z w y)) (same_number x y)
    (λ t. number_same (sym (to_z-of_z f) ∙ (ap (to_z w) (eqb→eq _ _ t) ∙ to_z-of_z g)))
    (λ t. subst (λ (k : ℤ). T (eqb (of_z w x) (of_z w k))) (same_number_law x y t) (eqb_refl (of_z w x)))

-- two numbers are the same, by either test
same_signed : (x y : ℤ) → int_eq x y ≡ same_number x y
same_signed x y =
    bool_same (int_eq x y) (same_number x y) (λ t. number_same ((Decides-int_eq x y).0 (t_to_eq _ t)))
    (λ t. eq_to_t ((Decides-int_eq x y).1 (same_number_law x y t)))

-- and so are two records
pub same_vertex : (v w : Vertex) → (int_eq v.edge w.edge && (int_eq v.x w.x && (int_eq v.y w.y && int_eq v.z w.z)))
    ≡ same_numbers (numbers v) (numbers w)
same_vertex v w i =
    same_signed v.edge w.edge i
    && (same_signed v.x w.x i && (same_signed v.y w.y i && (same_signed v.z w.z ∙ sym (and-true (same_number v.z w.z))) i))

-- a record's four numbers
pub four : (vs : List ℤ) (i : ℕ) → 4 * i + 4 ≤ length vs
    → record_of vs i ≡ get_or vs (4 * i) (pos 0) ∷ get_or vs (4 * i + 1) (pos 0) ∷ get_or vs (4 * i + 2) (pos 0) ∷ get_or vs (4 * i + 3) (pos 0) ∷ []
unfolding record_of
four vs i h =
    let a = 4 * i in
    let e₁ : suc a ≡ a + 1 = omega arith in
    let e₂ : suc (a + 1) ≡ a + 2 = omega arith in
    let e₃ : suc (a + 2) ≡ a + 3 = omega arith in
    ap (take 4)
    (drop-cons vs a (pos 0) (omega arith)
    ∙ ap (λ (l : List ℤ). get_or vs a (pos 0) ∷ l)
    (ap (λ (n : ℕ). drop n vs) e₁ ∙ (drop-cons vs (a + 1) (pos 0) (omega arith)
    ∙ ap (λ (l : List ℤ). get_or vs (a + 1) (pos 0) ∷ l)
    (ap (λ (n : ℕ). drop n vs) e₂ ∙ (drop-cons vs (a + 2) (pos 0) (omega arith)
    ∙ ap (λ (l : List ℤ). get_or vs (a + 2) (pos 0) ∷ l)
    (ap (λ (n : ℕ). drop n vs) e₃ ∙ drop-cons vs (a + 3) (pos 0) (omega arith)))))))

-- the first is its edge
pub edge_is : (v : Vertex) (vs : List ℤ) (i : ℕ) → 4 * i + 4 ≤ length vs → numbers v ≡ record_of vs i → v.edge ≡ edge_of vs i
unfolding edge_of
edge_is v vs i h e = ap (λ (l : List ℤ). get_or l 0 (pos 0)) (e ∙ four vs i h)

-- ── an edge among n ──

pub edge_below_zero : (z : ℤ) (n : ℕ) → lt_z z (pos 0) ≡ true → n ≡ edge_in z n
edge_below_zero (pos m) n e = absurd (omega (arith, ltb-true m 0 e))
edge_below_zero (negsuc m) n e = refl

pub edge_small : (z : ℤ) (n : ℕ) → lt_z z (pos 0) ≡ false → nat_abs z < n → nat_abs z ≡ edge_in z n
edge_small (pos m) n e h = sym (ap (λ (b : Bool). cond b m n) (lt-ltb m n h))
edge_small (negsuc m) n e h = absurd (subst T e tt)

pub edge_big : (z : ℤ) (n : ℕ) → lt_z z (pos 0) ≡ false → n ≤ nat_abs z → n ≡ edge_in z n
edge_big (pos m) n e h = sym (ap (λ (b : Bool). cond b m n) (le-ltb m n h))
edge_big (negsuc m) n e h = absurd (subst T e tt)

pub not_below_zero : (z : ℤ) → lt_z z (pos 0) ≡ false → T (non_neg z)
not_below_zero (pos m) e = tt
not_below_zero (negsuc m) e = absurd (subst T e tt)
