-- A triangle that stands at a place of a visited cube has that cube and that place, and no other. Assumes nothing.
use mathlib.Core.Path.{◌≡◌, sym, ap, subst, ◌∙◌}
use mathlib.Core.Bool.{Bool, true, false, cond}
use mathlib.Core.List.{List}
use Prim.Native.Nat.{ℕ, ◌/◌, ◌%◌, ◌≤◌, ◌<◌}
use native.Mathlib.Omega.{arith}
use lib.Dec.{T}
use lib.ListN.{length, get_or}
use borrow.Author.Tests.{ltb-true}
use Rattle.lists.specs.Lists.{range, any, is_in, count}
use Rattle.lists.proofs.Member.{t_to_eq, eq_to_t, in_any, in_range}
use Rattle.lists.proofs.Every.{any_with}
use Rattle.lists.proofs.Runs.{any_first}
use Rattle.paper.specs.declared.Sizes.{Sizes}
use Rattle.paper.specs.declared.Rule.TheVariants.{Down}
use Rattle.paper.specs.Lattice.{Lattice, cubes, cube_no, cube_at, visited}
use Rattle.paper.specs.Tables.{Tri, tri}
use Rattle.paper.specs.Sheet.{cube_triangles}
use Rattle.paper.specs.Within.{Sized, cube_of}
use Rattle.paper.specs.Check.{turned}
use Rattle.paper.proofs.Numbers.{cube_back}
use Rattle.paper.proofs.Edges.{cube_triangles_cube}
use Rattle.paper.proofs.Listing.{parts}
use Rattle.paper.proofs.Finding.{turned_cube}
use Rattle.lists.proofs.Within.{nth_in, in_list, in_run}
use Rattle.lists.proofs.Counts.{sum, part_le, one_member, count_some, count_each, one_place}
use Rattle.pairing.proofs.Turned.{is_turned, turned_is, back}
use Rattle.tetra.specs.Cut.{row_by, row_triangles, triangles_by}
use Rattle.check_triangles.specs.Words.{base_of, word_of}
use Rattle.lists.proofs.Firsts.{first_holds}
use Rattle.check_triangles.specs.Triples.{holder, is_at, place_by, place_in, place_of, Sure}
use Rattle.check_triangles.proofs.Laws.{place_word}
use Rattle.check_triangles.proofs.Meaning.{at_row, placed, cube_worded}
use Rattle.holding.proofs.Complete.{one_alike}

-- ── one place a triangle ──

module _ (z : Sizes) (base m : ℕ) (t : Tri) (few : count (λ u. turned u t) (triangles_by z base m) ≤ 1) where
  abbrev alike : Tri → Bool
  alike u = turned u t

  part : ℕ → List Tri
  part k = row_triangles z base k (row_by m k)

  alike_at : (c : ℕ) → is_at z base m t c ≡ true → (c % 2 < length (part (c / 2))) × T (alike (get_or (part (c / 2)) (c % 2) (tri 0 0 0)))
  unfolding part
  alike_at c e =
      let w = at_row z base m t c e in
      (w.0, turned_is (back (is_turned t (get_or (row_triangles z base (c / 2) (row_by m (c / 2))) (c % 2) (tri 0 0 0)) w.1)))

  all_parts : sum (λ k. count alike (part k)) (range 0 6) ≤ 1
  unfolding triangles_by part
  all_parts = omega (arith, few, count_each alike (λ k. row_triangles z base k (row_by m k)) (range 0 6))

  one_spot : (c d : ℕ) → c < 12 → d < 12 → is_at z base m t c ≡ true → is_at z base m t d ≡ true → c ≡ d
  one_spot c d hc hd ec ed =
      let a = alike_at c ec in
      let b = alike_at d ed in
      let n : ℕ → ℕ = λ k. count alike (part k) in
      let na = count_some alike (nth_in (part (c / 2)) (c % 2) (tri 0 0 0) a.0) a.1 in
      let nb = count_some alike (nth_in (part (d / 2)) (d % 2) (tri 0 0 0) b.0) b.1 in
      let i = in_run 6 (c / 2) (omega arith) in
      let j = in_run 6 (d / 2) (omega arith) in
      let e : c / 2 ≡ d / 2 = one_member n all_parts i j (λ y. omega arith) (λ y. omega arith) in
      let q : c % 2 ≡ d % 2 =
      one_place alike (part (d / 2)) (tri 0 0 0) (c % 2) (d % 2) (omega (arith, all_parts, part_le n j))
      (subst (λ (k : ℕ). c % 2 < length (part k)) e a.0) b.0
      (subst (λ (k : ℕ). T (alike (get_or (part k) (c % 2) (tri 0 0 0)))) e a.1) b.1 in
      omega arith

module _ (L : Lattice) (s : Sized L.size) (start : ℕ) (h : start < cubes L.size) (words : List ℕ)
    (words_are : (k : ℕ) → k < cubes L.size → get_or words k 0 ≡ cond (is_in (visited L start) k) (word_of L k) 0) where
  abbrev z : Sizes
  z = L.size

  -- a cube with a word is visited
  has_word : (k : ℕ) → k < cubes z → (get_or words k 0 ≡ 0 → ⊥) → T (is_in (visited L start) k)
  has_word k l n = go (is_in (visited L start) k) (words_are k l)
    where
      go : (b : Bool) → get_or words k 0 ≡ cond b (word_of L k) 0 → T b
      go true e = tt
      go false e = n e

  -- by either rule
  one_in : (k : ℕ) (t : Tri) → T (is_in (visited L start) k) → count (λ u. turned u t) (cube_triangles L k) ≤ 1
  one_in k t v =
      omega (
        arith,
        subst (λ (us : List Tri). count (λ u. turned u t) us ≤ 1) (parts Down L start).by_edge_law (one_alike Down L s start h t),
        count_each (λ u. turned u t) (cube_triangles L) (visited L start),
        part_le (λ k. count (λ u. turned u t) (cube_triangles L k)) (in_list k (visited L start) v),
      )

  pub sure : Sure z words
  unfolding place_of place_by
  sure = record {
    at = λ k c t hk hc hw ha.
        let v = has_word k hk hw in
        let w = cube_worded L s start words words_are k v in
        let base = base_of z k in
        let m = get_or words k 0 % 256 in
        let here = is_at z base m t in
        let some : T (any here (range 0 12)) = in_any here (range 0 12) c (in_range 0 12 c (omega arith) (omega arith)) (eq_to_t ha) in
        let d = place_by z base m t in
        let found = sym (any_first here 12) ∙ t_to_eq (any here (range 0 12)) some in
        let below : d < 12 = ltb-true d 12 found in
        let u = any_with (λ u. cube_of z u ≡ cube_at z k) (turned t) (cube_triangles L k) (cube_triangles_cube L s k hk)
        (subst (λ (l : List Tri). T (any (turned t) l)) w.triangles (eq_to_t (sym (placed z base m t) ∙ found))) in
        let e : holder z t ≡ k = ap (cube_no z) (sym (turned_cube z t u.0 u.2) ∙ u.1) ∙ cube_back z s k hk in
        let few = subst (λ (l : List Tri). count (λ u. turned u t) l ≤ 1) (sym w.triangles) (one_in k t v) in
        let spot = one_spot z base m t few d c below hc (first_holds here 12 0 12 below) ha in
        (e, ap (λ (j : ℕ). place_in z words j t) e ∙ (sym (place_word z words k t hk hw) ∙ spot));
  }
