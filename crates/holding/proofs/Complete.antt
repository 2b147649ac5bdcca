-- Where tests 17 and 18 are passed, test 19 compares counts. Assumes nothing.
use mathlib.Core.Path.{◌≡◌, refl, sym, ap, ◌∙◌}
use mathlib.Core.Bool.{◌&&◌}
use mathlib.Core.List.Memᴰ.{head as here}
use mathlib.Core.List.{List, [], ◌∷◌, Memᴰ as In}
use Prim.Native.Nat.{ℕ, ◌≤◌, ◌<◌}
use native.Mathlib.Omega.{arith}
use lib.IntN.{ℤ, pos}
use lib.Dec.{eqb, eqb_refl}
use lib.ListN.{length}
use Rattle.lists.specs.Lists.{range, count, any, all}
use Rattle.lists.proofs.Member.{and_both}
use Rattle.lists.proofs.Closure.{length_range}
use Rattle.lists.proofs.Within.{any_member, below}
use Rattle.lists.proofs.Counts.{count_some, count_each, count_le_sum, count_unique, few_along, matched}
use Rattle.paper.specs.declared.Rule.{Rule}
use Rattle.paper.specs.Lattice.{Lattice, cubes}
use Rattle.paper.specs.Tables.{Tri}
use Rattle.paper.specs.Sheet.{vertex_record, sheet_of}
use Rattle.paper.specs.Within.{Sized}
use Rattle.paper.specs.Check.{same_number, turned, edge_of, triangle_of, complete}
use Rattle.paper.proofs.Listing.{edges_unique}
use Rattle.paper.proofs.Records.{same_number_law, record_edge}
use Rattle.paper.proofs.Tested.{Recorded, Listed}
use Rattle.pairing.specs.Pairing.{arrow, around, is_arrow, times}
use Rattle.pairing.proofs.Sheets.{few_by_edge}
use Rattle.pairing.proofs.Turned.{is_turned, turned_is, back, along, hit, hit_turned}

module _ (rule : Rule) (L : Lattice) (start : ℕ) (vs : List ℤ) (nv : ℕ)
    (good : (i : ℕ) → i < nv → Recorded (vertex_record rule L) (sheet_of rule L start) vs i) where
  abbrev edges : List ℕ
  edges = (sheet_of rule L start).edges

  one_edge : (i : ℕ) → In i (range 0 nv) → count (λ e. same_number (edge_of vs i) (pos e)) edges ≡ 1
  one_edge i m =
      let r = good i (below nv i m) in
      ap (λ (x : ℤ). count (λ e. same_number x (pos e)) edges) (record_edge rule L vs i r.edge r.is)
      ∙ count_unique (edges_unique rule L start) r.vertex

  one_record : (e : ℕ) → In e edges → count (λ i. same_number (edge_of vs i) (pos e)) (range 0 nv) ≤ 1
  one_record e m =
      few_along (λ i. same_number (edge_of vs i) (pos e)) nv
      (λ i j h l s t. (good i h).new j l (same_number_law (edge_of vs j) (pos e) t ∙ sym (same_number_law (edge_of vs i) (pos e) s)))

  pub vertices_full : eqb nv (length edges) ≡ all (λ e. any (λ i. same_number (edge_of vs i) (pos e)) (range 0 nv)) edges
  vertices_full =
      ap (λ (n : ℕ). eqb n (length edges)) (sym (length_range 0 nv))
      ∙ matched (λ i e. same_number (edge_of vs i) (pos e)) (range 0 nv) edges one_edge one_record

-- a triangle has its first directed edge
own_hit : (t : Tri) → 0 < hit t.a t.b t
unfolding around is_arrow
own_hit t =
    let b = is_arrow t.a t.b (arrow t.a t.b) in
    count_some (is_arrow t.a t.b) {l = arrow t.a t.b ∷ arrow t.b t.c ∷ arrow t.c t.a ∷ []} (here refl)
    (and_both (eqb t.a t.a) (eqb t.b t.b) (eqb_refl t.a) (eqb_refl t.b))

module _ (rule : Rule) (L : Lattice) (s : Sized L.size) (start : ℕ) (h : start < cubes L.size) where
  abbrev us : List Tri
  us = (sheet_of rule L start).by_edge

  -- the sheet's triangles are not turned into one another: each directed edge occurs once
  pub one_alike : (t : Tri) → count (λ u. turned u t) us ≤ 1
  unfolding times
  one_alike t =
      let a = t.a in
      let b = t.b in
      omega (
        arith,
        count_le_sum (λ u. turned u t) (hit a b) us (λ u q. omega (arith, own_hit t, hit_turned a b (is_turned u t q))),
        count_each (is_arrow a b) around us,
        few_by_edge L s start h rule a b,
      )

module _ (rule : Rule) (L : Lattice) (s : Sized L.size) (start : ℕ) (h : start < cubes L.size) (vs : List ℤ) (ts : List ℕ) (nt : ℕ)
    (good : (i : ℕ) → i < nt → Listed (sheet_of rule L start) vs ts i) where
  abbrev us' : List Tri
  us' = (sheet_of rule L start).by_edge

  abbrev tri_at : ℕ → Tri
  tri_at = triangle_of vs ts

  one_triangle : (i : ℕ) → In i (range 0 nt) → count (λ u. turned u (tri_at i)) us' ≡ 1
  one_triangle i m =
      let w = any_member (turned (tri_at i)) us' (good i (below nt i m)).is in
      let c = count_some (λ u. turned u (tri_at i)) w.1 (turned_is (back (is_turned (tri_at i) w.0 w.2))) in
      omega (arith, one_alike rule L s start h (tri_at i))

  one_naming : (u : Tri) → In u us' → count (λ i. turned u (tri_at i)) (range 0 nt) ≤ 1
  one_naming u m =
      few_along (λ i. turned u (tri_at i)) nt
      (λ i j h l x y. (good i h).new j l (turned_is (along (back (is_turned u (tri_at i) x)) (is_turned u (tri_at j) y))))

  pub triangles_full : eqb nt (length us') ≡ all (λ t. any (λ i. turned t (tri_at i)) (range 0 nt)) us'
  triangles_full =
      ap (λ (n : ℕ). eqb n (length us')) (sym (length_range 0 nt))
      ∙ matched (λ i u. turned u (tri_at i)) (range 0 nt) us' one_triangle one_naming

  pub complete_is : (nv : ℕ) → ((i : ℕ) → i < nv → Recorded (vertex_record rule L) (sheet_of rule L start) vs i)
      → (eqb nv (length (sheet_of rule L start).edges) && eqb nt (length us')) ≡ complete (sheet_of rule L start) vs ts nv nt
  unfolding complete
  complete_is nv g = λ i. vertices_full rule L start vs nv g i && triangles_full i
