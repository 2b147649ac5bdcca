-- Test 16 by its sizes; tests 17 and 19 of the records, and 18 and 19 of the triangles: a file passes them exactly when each of its records
-- and triangles is one of the sheet's, each of the sheet's is one of its own, and no two are alike. Assumes nothing.
use mathlib.Core.Path.{◌≡◌, refl, sym, subst, ◌∙◌, ap}
use mathlib.Core.Bool.{true}
use mathlib.Core.List.Memᴰ.{map as in_map}
use mathlib.Core.List.{List, Memᴰ as In}
use Prim.Native.Nat.{ℕ, ◌≤◌, ◌<◌}
use native.Mathlib.Omega.{arith}
use lib.IntN.{ℤ, pos}
use lib.Dec.{T}
use Rattle.lists.specs.Lists.{range, count}
use Rattle.lists.proofs.Member.{t_to_eq, eq_to_t}
use Rattle.lists.proofs.Within.{same3, of_same3, member_any, any_member, below, in_run, map_in}
use Rattle.lists.proofs.Counts.{count_map, count_same, few}
use Rattle.lists.proofs.Closure.{bool_same}
use Rattle.paper.specs.declared.Sizes.{Sizes}
use Rattle.paper.specs.declared.Rule.{Rule}
use Rattle.paper.specs.Lattice.{Lattice, cubes}
use Rattle.paper.specs.Tables.{Tri}
use Rattle.paper.specs.Sheet.{sheet_of, vertex_record}
use Rattle.paper.specs.Within.{Sized}
use Rattle.paper.specs.Check.{same_numbers, same_sizes, turned, record_of, edge_of, triangle_of}
use Rattle.paper.proofs.Listing.{parts, edges_unique}
use Rattle.paper.proofs.Records.{same_numbers_law, numbers_same, edges_same, record_edge, record_named, one_edge}
use Rattle.paper.proofs.Tested.{Recorded, Listed}
use Rattle.pairing.proofs.Turned.{is_turned, turned_is, back, along, same}
use Rattle.holding.proofs.Alike.{Matching}
use Rattle.holding.proofs.Complete.{one_alike}

-- ── sizes ──

pub same_sizes_law : (y z : Sizes) → same_sizes y z ≡ true → y ≡ z
unfolding same_sizes
same_sizes_law y z e =
    let a = same3 y.nx y.ny y.nz z.nx z.ny z.nz (eq_to_t e) in
    λ i. record { nx = a.0 i; ny = a.1 i; nz = a.2 i }

pub sizes_same : (y z : Sizes) → y ≡ z → same_sizes y z ≡ true
unfolding same_sizes
sizes_same y z e = t_to_eq _ (of_same3 (ap (λ (k : Sizes). k.nx) e) (ap (λ (k : Sizes). k.ny) e) (ap (λ (k : Sizes). k.nz) e))

-- ── records ──

module _ (rule : Rule) (L : Lattice) (start : ℕ) (vs : List ℤ) (nv : ℕ) where
  abbrev edges : List ℕ
  edges = (sheet_of rule L start).edges

  abbrev records : List (List ℤ)
  records = (sheet_of rule L start).records

  -- a record of the sheet is that of a vertex
  of_vertex : (r : List ℤ) → In r records → (e : ℕ) × In e edges × (r ≡ vertex_record rule L e)
  of_vertex r i = map_in (vertex_record rule L) edges r (subst (In r) (parts rule L start).records i)

  vertex_in : (e : ℕ) → In e edges → In (vertex_record rule L e) records
  vertex_in e i = subst (In (vertex_record rule L e)) (sym (parts rule L start).records) (in_map (vertex_record rule L) i)

  pub thin : (r : List ℤ) → count (same_numbers r) records ≤ 1
  thin r =
      subst (λ (n : ℕ). n ≤ 1)
      (sym (ap (count (same_numbers r)) (parts rule L start).records ∙ count_map (same_numbers r) (vertex_record rule L) edges))
      (few (λ e. same_numbers r (vertex_record rule L e)) (edges_unique rule L start)
      (λ a b i j x y. one_edge rule L a b (sym (same_numbers_law r (vertex_record rule L a) x) ∙ same_numbers_law r (vertex_record rule L b) y)))

  abbrev pub Match : Type 0
  Match =
      Matching same_numbers (λ l. numbers_same l l refl) (λ t u h. numbers_same u t (sym (same_numbers_law t u h)))
      (λ t u v h g. numbers_same t v (same_numbers_law t u h ∙ same_numbers_law u v g)) (record_of vs) nv records thin

  -- tests 17 and 19 of the records
  pub record Passes : Type 0 where
    pub good : (i : ℕ) → i < nv → Recorded (vertex_record rule L) (sheet_of rule L start) vs i
    pub full : (e : ℕ) → In e edges → (i : ℕ) × (i < nv) × (edge_of vs i ≡ pos e)

  pub passes_match : Passes → Match
  passes_match p = record {
    sound = λ i h.
        let r = p.good i h in
        member_any (same_numbers (record_of vs i)) (vertex_in r.edge r.vertex)
        (numbers_same (record_of vs i) (vertex_record rule L r.edge) r.is);
    full = λ r m.
        let w = of_vertex r m in
        let v = p.full w.0 w.1 in
        let g = p.good v.0 v.1 in
        member_any (λ i. same_numbers r (record_of vs i)) (in_run nv v.0 v.1)
        (numbers_same r (record_of vs v.0) (w.2 ∙ sym (record_named rule L vs v.0 g.edge w.0 g.is v.2)));
    apart = λ i j h l t. (p.good i h).new j l (sym (edges_same vs i j (same_numbers_law (record_of vs i) (record_of vs j) t)));
  }

  module _ (m : Match) where
    -- a record is that of a vertex of the sheet
    vertex_of : (i : ℕ) → i < nv → (e : ℕ) × In e edges × (record_of vs i ≡ vertex_record rule L e)
    vertex_of i h =
        let w = any_member (same_numbers (record_of vs i)) records (m.sound i h) in
        let v = of_vertex w.0 w.1 in
        (v.0, v.1, same_numbers_law (record_of vs i) w.0 w.2 ∙ v.2)

    pub match_passes : Passes
    match_passes = record {
      good = λ i h.
          let v = vertex_of i h in
          record {
            edge = v.0;
            vertex = v.1;
            is = v.2;
            new = λ j l q.
                let u = vertex_of j (omega arith) in
                let r = record_named rule L vs j u.0 v.0 u.2 (q ∙ record_edge rule L vs i v.0 v.2) in
                m.apart i j h l (numbers_same (record_of vs i) (record_of vs j) (v.2 ∙ sym r));
          };
      full = λ e i.
          let v = any_member (λ k. same_numbers (vertex_record rule L e) (record_of vs k))
          (range 0 nv) (m.full (vertex_record rule L e) (vertex_in e i)) in (
            v.0,
            below nv v.0 v.1,
            record_edge rule L vs v.0 e (sym (same_numbers_law (vertex_record rule L e) (record_of vs v.0) v.2)),
          );
    }

-- ── triangles ──

pub turned_back : (t u : Tri) → T (turned t u) → T (turned u t)
turned_back t u h = turned_is (back (is_turned t u h))

module _ (rule : Rule) (L : Lattice) (s : Sized L.size) (start : ℕ)
    (h : start < cubes L.size) (vs : List ℤ) (ts : List ℕ) (nt : ℕ) where
  abbrev us : List Tri
  us = (sheet_of rule L start).by_edge

  abbrev tri_at : ℕ → Tri
  tri_at = triangle_of vs ts

  pub thin_us : (t : Tri) → count (turned t) us ≤ 1
  thin_us t =
      subst (λ (n : ℕ). n ≤ 1)
      (count_same (λ u. turned u t) (turned t) us (λ u i. bool_same (turned u t) (turned t u) (turned_back u t) (turned_back t u)))
      (one_alike rule L s start h t)

  abbrev pub MatchTri : Type 0
  MatchTri =
      Matching turned (λ t. turned_is (same refl)) turned_back
      (λ t u v h g. turned_is (along (is_turned t u h) (is_turned u v g))) tri_at nt us thin_us

  -- tests 18 and 19 of the triangles
  pub record PassesTri : Type 0 where
    pub good : (i : ℕ) → i < nt → Listed (sheet_of rule L start) vs ts i
    pub full : (t : Tri) → In t us → (i : ℕ) × (i < nt) × T (turned t (tri_at i))

  pub passes_tri : PassesTri → MatchTri
  passes_tri p = record {
    sound = λ i h. (p.good i h).is;
    full = λ t m. let v = p.full t m in member_any (λ i. turned t (tri_at i)) (in_run nt v.0 v.1) v.2;
    apart = λ i j h l t. (p.good i h).new j l t;
  }

  pub tri_passes : MatchTri → PassesTri
  tri_passes m = record {
    good = λ i h. record { is = m.sound i h; new = λ j l t. m.apart i j h l t };
    full = λ t i. let v = any_member (λ k. turned t (tri_at k)) (range 0 nt) (m.full t i) in (v.0, below nt v.0 v.1, v.2);
  }
