-- The numbers of a sheet's vertices and triangles, read as a file's are, give the sheet's records and its triangles by edges.
-- Assumes nothing.
use mathlib.Core.Path.{◌≡◌, sym, ap, ◌∙◌}
use mathlib.Core.List.{List, [], ◌∷◌, ◌++◌, map, map-map}
use Prim.Native.Nat.{ℕ, zero, suc, ◌+◌, ◌*◌, ◌<◌}
use native.Mathlib.Omega.{arith}
use lib.IntN.{ℤ, nat_abs}
use lib.ListN.{length, get_or, take, drop}
use lib.Seq.{take-append_seam, drop-append-add}
use Rattle.lists.specs.Lists.{range, each}
use Rattle.lists.proofs.Every.{all_at, map_same_in}
use Rattle.lists.proofs.Runs.{along_list}
use Rattle.lists.proofs.Within.{members, below}
use Rattle.paper.specs.declared.Rule.{Rule}
use Rattle.paper.specs.Lattice.{Lattice}
use Rattle.paper.specs.Tables.{tri}
use Rattle.paper.specs.Sheet.{Sheet, sheet_of, vertex_record, vertex_words, triangle_words}
use Rattle.paper.specs.Within.{Sized, Below}
use Rattle.paper.specs.Check.{record_of, edge_of, corner_of, triangle_of}
use Rattle.paper.proofs.Listing.{named, parts, indices_below, indices_name, record_length_law, vertex_words_law}
use Rattle.paper.proofs.Records.{record_edge}
use Rattle.tetra.proofs.Laws.{three}

-- ── lists ──

-- along a run as long as a list
run_is : {A B : Type 0} (g : ℕ → B) (f : A → B) (l : List A) (d : A)
    → ((i : ℕ) → i < length l → g i ≡ f (get_or l i d)) → map g (range 0 (length l)) ≡ map f l
run_is g f l d h =
    map_same_in g (λ i. f (get_or l i d)) (range 0 (length l)) (members (range 0 (length l)) (λ i m. h i (below (length l) i m)))
    ∙ (sym (map-map f (λ i. get_or l i d) (range 0 (length l))) ∙ ap (map f) (along_list l d))

-- the four numbers of record i of records one behind the other
record_at_law : (rule : Rule) (L : Lattice) (es : List ℕ) (i : ℕ) → i < length es
    → record_of (each (vertex_record rule L) es) i ≡ vertex_record rule L (get_or es i 0)
unfolding record_of
record_at_law rule L [] i h = absurd (omega arith)
record_at_law rule L (e ∷ es) zero h =
    let r = vertex_record rule L e in
    ap (λ (n : ℕ). take n (r ++ each (vertex_record rule L) es)) (sym (record_length_law rule L e))
    ∙ take-append_seam r (each (vertex_record rule L) es)
record_at_law rule L (e ∷ es) (suc i) h =
    let r = vertex_record rule L e in
    let q : 4 * suc i ≡ length r + 4 * i = omega (arith, record_length_law rule L e) in
    ap (take 4) (ap (λ (n : ℕ). drop n (r ++ each (vertex_record rule L) es)) q ∙ drop-append-add r (each (vertex_record rule L) es) (4 * i))
    ∙ record_at_law rule L es i (omega arith)

-- ── the words of a sheet ──

module _ (rule : Rule) (L : Lattice) (s : Sized L.size) (start : ℕ) where
  abbrev S : Sheet
  S = sheet_of rule L start

  abbrev nv : ℕ
  nv = length S.edges

  abbrev nt : ℕ
  nt = length S.triangles

  abbrev vw : List ℤ
  vw = vertex_words S

  abbrev tw : List ℕ
  tw = triangle_words S

  record_of_law : (i : ℕ) → i < nv → record_of vw i ≡ vertex_record rule L (get_or S.edges i 0)
  record_of_law i h = ap (λ (l : List ℤ). record_of l i) (vertex_words_law rule L start) ∙ record_at_law rule L S.edges i h

  pub records_are : map (record_of vw) (range 0 nv) ≡ S.records
  records_are = run_is (record_of vw) (vertex_record rule L) S.edges 0 record_of_law ∙ sym (parts rule L start).records

  edge_at : (k : ℕ) → k < nv → nat_abs (edge_of vw k) ≡ get_or S.edges k 0
  edge_at k h = ap nat_abs (record_edge rule L vw k (get_or S.edges k 0) (record_of_law k h))

  pub triangles_are : map (triangle_of vw tw) (range 0 nt) ≡ S.by_edge
  unfolding triangle_of corner_of triangle_words named
  triangles_are =
      run_is (triangle_of vw tw) (named (λ i. get_or S.edges i 0)) S.triangles (tri 0 0 0)
      (λ i h.
      let t = get_or S.triangles i (tri 0 0 0) in
      let w = three S.triangles i h in
      let b = all_at (Below nv) S.triangles (tri 0 0 0) (indices_below rule L s start) i h in
      let x = ap (λ (n : ℕ). nat_abs (edge_of vw n)) w.a ∙ edge_at t.a b.a in
      let y = ap (λ (n : ℕ). nat_abs (edge_of vw n)) w.b ∙ edge_at t.b b.b in
      let z = ap (λ (n : ℕ). nat_abs (edge_of vw n)) w.c ∙ edge_at t.c b.c in
      λ j. tri (x j) (y j) (z j))
      ∙ indices_name rule L s start
