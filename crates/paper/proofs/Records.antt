-- Numbers and records that are the same by the test, and the edge that a record names. Assumes nothing.
use mathlib.Core.Path.{◌≡◌, refl, sym, ap, subst, ◌∙◌}
use mathlib.Core.Bool.{Bool, true, false, cond}
use mathlib.Core.List.{List, [], ◌∷◌}
use Prim.Native.Nat.{ℕ, ◌*◌}
use native.Mathlib.Omega.{arith}
use lib.IntN.{ℤ, pos, negsuc, nat_abs}
use lib.Dec.{T, eqb→eq, eqb_refl}
use lib.ListN.{get_or, drop}
use lib.Seq.{get_or-take, get_or-drop}
use Rattle.lists.proofs.Member.{and_both, and_left, and_right}
use Rattle.paper.specs.declared.Place.{Place}
use Rattle.paper.specs.declared.Rule.{Rule}
use Rattle.paper.specs.Lattice.{Lattice, air_at}
use Rattle.paper.specs.Sheet.{first_end, second_end, record_at, vertex_record}
use Rattle.paper.specs.Check.{same_number, same_numbers, record_of, edge_of}

pub same_number_law : (x y : ℤ) → T (same_number x y) → x ≡ y
same_number_law (pos m) (pos n) t = ap pos (eqb→eq m n t)
same_number_law (pos m) (negsuc n) t = absurd t
same_number_law (negsuc m) (pos n) t = absurd t
same_number_law (negsuc m) (negsuc n) t = ap negsuc (eqb→eq m n t)

same_refl : (x : ℤ) → T (same_number x x)
same_refl (pos m) = eqb_refl m
same_refl (negsuc m) = eqb_refl m

pub number_same : {x y : ℤ} → x ≡ y → T (same_number x y)
number_same {x} {y} e = subst (λ (k : ℤ). T (same_number x k)) e (same_refl x)

pub same_numbers_law : (l m : List ℤ) → T (same_numbers l m) → l ≡ m
same_numbers_law [] [] t = refl
same_numbers_law [] (y ∷ ys) t = absurd t
same_numbers_law (x ∷ xs) [] t = absurd t
same_numbers_law (x ∷ xs) (y ∷ ys) t =
    let e = same_number_law x y (and_left (same_number x y) (same_numbers xs ys) t) in
    let r = same_numbers_law xs ys (and_right (same_number x y) (same_numbers xs ys) t) in
    λ i. e i ∷ r i

numbers_own : (l : List ℤ) → T (same_numbers l l)
numbers_own [] = tt
numbers_own (x ∷ l) = and_both (same_number x x) (same_numbers l l) (same_refl x) (numbers_own l)

pub numbers_same : (l m : List ℤ) → l ≡ m → T (same_numbers l m)
numbers_same l m e = subst (λ (k : List ℤ). T (same_numbers l k)) e (numbers_own l)

-- a vertex record begins with its edge
first_number : (rule : Rule) (L : Lattice) (e : ℕ) → get_or (vertex_record rule L e) 0 (pos 0) ≡ pos e
unfolding vertex_record record_at
first_number rule L e = go (air_at L (first_end L.size e)) (first_end L.size e) (second_end L.size e)
  where
    go : (b : Bool) (u v : Place) → get_or (cond b (record_at rule L e v u) (record_at rule L e u v)) 0 (pos 0) ≡ pos e
    go true u v = refl
    go false u v = refl

-- the edge of a file's record is its first number
record_first : (vs : List ℤ) (i : ℕ) → edge_of vs i ≡ get_or (record_of vs i) 0 (pos 0)
unfolding record_of edge_of
record_first vs i =
    ap (λ (n : ℕ). get_or vs n (pos 0)) (omega arith)
    ∙ sym (get_or-take 4 (drop (4 * i) vs) 0 (pos 0) (omega arith) ∙ get_or-drop (4 * i) vs 0 (pos 0))

pub edges_same : (vs : List ℤ) (i j : ℕ) → record_of vs i ≡ record_of vs j → edge_of vs i ≡ edge_of vs j
edges_same vs i j q = record_first vs i ∙ (ap (λ (l : List ℤ). get_or l 0 (pos 0)) q ∙ sym (record_first vs j))

pub record_edge : (rule : Rule) (L : Lattice) (vs : List ℤ) (i e : ℕ) → record_of vs i ≡ vertex_record rule L e → edge_of vs i ≡ pos e
record_edge rule L vs i e q = record_first vs i ∙ (ap (λ (l : List ℤ). get_or l 0 (pos 0)) q ∙ first_number rule L e)

-- a record of some vertex is that of the vertex on its edge
pub record_named : (rule : Rule) (L : Lattice) (vs : List ℤ) (i e k : ℕ)
    → record_of vs i ≡ vertex_record rule L e → edge_of vs i ≡ pos k → record_of vs i ≡ vertex_record rule L k
record_named rule L vs i e k q f = q ∙ ap (λ (x : ℤ). vertex_record rule L (nat_abs x)) (sym (record_edge rule L vs i e q) ∙ f)

-- two edges with one record are one
pub one_edge : (rule : Rule) (L : Lattice) (e k : ℕ) → vertex_record rule L e ≡ vertex_record rule L k → e ≡ k
one_edge rule L e k q = ap nat_abs (sym (first_number rule L e) ∙ (ap (λ (l : List ℤ). get_or l 0 (pos 0)) q ∙ first_number rule L k))
