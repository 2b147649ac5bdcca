-- Demand 3 of a file that is accepted, by its own records and triangles. Assumes nothing.
use mathlib.Core.Path.{◌≡◌, sym, ap, ◌∙◌, subst}
use mathlib.Core.Bool.{Bool}
use mathlib.Core.List.Memᴰ
use mathlib.Core.List.Memᴰ.{map as in_map}
use mathlib.Core.List.{List, map, Memᴰ as In, map-map}
use Prim.Native.Nat.{ℕ, ◌+◌, ◌*◌, ◌<◌}
use native.Mathlib.Omega.{arith}
use lib.IntN.{ℤ, pos, nat_abs}
use lib.Dec.{T, eqb, leb, eqb→eq, nleb→lt, not_T}
use lib.ListN.{length, get_or}
use Rattle.lists.specs.Lists.{range}
use Rattle.lists.proofs.Every.{map_same_in}
use Rattle.lists.proofs.Runs.{length_along, at_along}
use Rattle.paper.specs.declared.Start.{Start}
use Rattle.paper.specs.declared.Rule.{Rule}
use Rattle.paper.specs.Lattice.{Lattice}
use Rattle.paper.specs.Tables.{Tri, tri}
use Rattle.paper.specs.Sheet.{Sheet, vertex_record, sheet_of}
use Rattle.paper.specs.Build.{start_of}
use Rattle.paper.specs.File.{file_v, file_t, file_vertices, file_triangles, bad_triangle}
use Rattle.paper.specs.Check.{turned, edge_of, corner_of, triangle_of}
use Rattle.paper.proofs.Records.{record_edge}
use Rattle.paper.proofs.Tested.{Recorded}
use Rattle.paper.proofs.Passing.{Accepted}
use Rattle.paper.specs.Within.{Below}
use Rattle.paper.proofs.Listing.{named}
use Rattle.pairing.specs.Pairing.{Paired, OneVertex, Demand3By, file_edges, file_corner, file_corners}
use Rattle.lists.proofs.Within.{members, list_in, in_list, member_any, any_member, below, in_run, map_in}
use Rattle.lists.proofs.Counts.{pick, along_unique, range_unique, count_unique, Unique}
use Rattle.pairing.proofs.Names.{few_times, paired_same, by_number, times_below}
use Rattle.pairing.proofs.Vertices.{one_vertex}
use Rattle.pairing.proofs.Turned.{Turned, is_turned, turned_is, same_times}

module _ (rule : Rule) (L : Lattice) (s : Start) (bs : List ℕ) (acc : Accepted rule L s bs) where
  abbrev start : ℕ
  start = start_of L s

  abbrev S : Sheet
  S = sheet_of rule L start

  abbrev vs : List ℤ
  vs = file_vertices bs

  abbrev ts : List ℕ
  ts = file_triangles bs

  -- ── records ──

  recorded : (i : ℕ) → i < file_v bs → Recorded (vertex_record rule L) S vs i
  recorded = acc.compared.records

  is : (i : ℕ) (h : i < file_v bs) → edge_of vs i ≡ pos (recorded i h).edge
  is i h = let r = recorded i h in record_edge rule L vs i r.edge r.is

  abbrev name_of : ℕ → ℕ
  name_of i = nat_abs (edge_of vs i)

  pub no_sign : (i : ℕ) → i < file_v bs → edge_of vs i ≡ pos (name_of i)
  no_sign i h = is i h ∙ sym (ap (λ (x : ℤ). pos (nat_abs x)) (is i h))

  distinct : Unique (file_edges bs)
  unfolding file_edges
  distinct =
      along_unique name_of (file_v bs)
      (λ i j h l e. (recorded i h).new j l (no_sign j (omega arith) ∙ (ap pos e ∙ sym (no_sign i h))))

  in_file_law : (e : ℕ) → In e S.edges → In e (file_edges bs)
  unfolding file_edges
  in_file_law e i =
      let w = acc.compared.full.vertices e i in
      Memᴰ.cast (sym (ap nat_abs w.2)) (in_map name_of (in_run (file_v bs) w.0 w.1))

  vertices : OneVertex L start (file_edges bs)
  unfolding file_edges
  vertices =
      let o = one_vertex rule L acc.started.sizes start acc.started.start in
      record {
        one = λ e c.
            let m = pick (eqb e) S.edges (λ y. omega (arith, o.one e c, y)) in
            count_unique distinct (in_file_law e (Memᴰ.cast (eqb→eq e m.0 m.2) m.1));
        only = λ e t.
            let m = map_in name_of (range 0 (file_v bs)) e (in_list e (file_edges bs) t) in
            let h = below (file_v bs) m.0 m.1 in
            o.only e (list_in (Memᴰ.cast (m.2 ∙ ap nat_abs (is m.0 h)) (recorded m.0 h).vertex));
      }

  -- ── triangles ──

  file_paired : {apart : ℕ → ℕ → Bool} → Paired apart S.by_edge → Paired apart (map (triangle_of vs ts) (range 0 (file_t bs)))
  file_paired p =
      paired_same
      (same_times (triangle_of vs ts) (range 0 (file_t bs)) (range_unique 0 (file_t bs)) S.by_edge (few_times p) sound full new) p
    where
      sound : (i : ℕ) → In i (range 0 (file_t bs)) → (u : Tri) × In u S.by_edge × Turned (triangle_of vs ts i) u
      sound i j =
          let m = any_member (turned (triangle_of vs ts i)) S.by_edge (acc.compared.triangles i (below (file_t bs) i j)).is in
          (m.0, m.1, is_turned (triangle_of vs ts i) m.0 m.2)

      full : (u : Tri) → In u S.by_edge → (i : ℕ) × In i (range 0 (file_t bs)) × Turned u (triangle_of vs ts i)
      full u j =
          let w = acc.compared.full.triangles u j in
          (w.0, in_run (file_t bs) w.0 w.1, is_turned u (triangle_of vs ts w.0) w.2)

      new : (i j : ℕ) → In i (range 0 (file_t bs)) → In j (range 0 (file_t bs)) → j < i → Turned (triangle_of vs ts i) (triangle_of vs ts j) → ⊥
      new i j a b l t = (acc.compared.triangles i (below (file_t bs) i a)).new j l (turned_is t)

  -- ── by the numbers of the records ──

  edges_length : length (file_edges bs) ≡ file_v bs
  unfolding file_edges
  edges_length = length_along name_of 0 (file_v bs)

  corner_lt : (i j : ℕ) → i < file_t bs → j < 3 → get_or ts (3 * i + j) 0 < file_v bs
  unfolding bad_triangle
  corner_lt i j h k =
      nleb→lt (file_v bs) (get_or ts (3 * i + j) 0)
      (not_T (leb (file_v bs) (get_or ts (3 * i + j) 0))
      (λ t. subst T (acc.indices i h) (member_any (λ j. leb (file_v bs) (get_or ts (3 * i + j) 0)) (in_run 3 j k) t)))

  first_lt : (i : ℕ) → i < file_t bs → get_or ts (3 * i) 0 < file_v bs
  first_lt i h = subst (λ (n : ℕ). get_or ts n 0 < file_v bs) (omega arith) (corner_lt i 0 h (omega arith))

  corners_below : (t : Tri) → In t (file_corners bs) → Below (length (file_edges bs)) t
  unfolding file_corners file_corner
  corners_below t m =
      let q = map_in (file_corner bs) (range 0 (file_t bs)) t m in
      let i = q.0 in
      let h = below (file_t bs) i q.1 in
      let a = first_lt i h in
      let b = corner_lt i 1 h (omega arith) in
      let c = corner_lt i 2 h (omega arith) in
      let e = edges_length in
      subst (Below (length (file_edges bs))) (sym q.2) (record { a = omega arith; b = omega arith; c = omega arith })

  name_is : (n : ℕ) → n < file_v bs → get_or (file_edges bs) n 0 ≡ name_of n
  unfolding file_edges
  name_is n h = at_along name_of 0 (file_v bs) n h

  -- a triangle by records, named by their edges
  named_are : map (named (λ i. get_or (file_edges bs) i 0)) (file_corners bs) ≡ map (triangle_of vs ts) (range 0 (file_t bs))
  unfolding file_corners file_corner named triangle_of corner_of
  named_are =
      map-map (named (λ i. get_or (file_edges bs) i 0)) (file_corner bs) (range 0 (file_t bs))
      ∙ map_same_in (λ i. named (λ i. get_or (file_edges bs) i 0) (file_corner bs i)) (triangle_of vs ts) (range 0 (file_t bs))
      (members (range 0 (file_t bs))
      (λ i m.
      let h = below (file_t bs) i m in
      let a = name_is (get_or ts (3 * i) 0) (first_lt i h) in
      let b = name_is (get_or ts (3 * i + 1) 0) (corner_lt i 1 h (omega arith)) in
      let c = name_is (get_or ts (3 * i + 2) 0) (corner_lt i 2 h (omega arith)) in
      λ j. tri (a j) (b j) (c j)))

  -- where the sheet's directed edges pair up by lattice edges
  pub demand : (apart : ℕ → ℕ → Bool) → Paired apart S.by_edge → Demand3By apart L start (file_edges bs) (file_corners bs)
  demand apart p = record {
    vertices = vertices;
    numbers = times_below (file_edges bs) distinct (file_corners bs) corners_below;
    pairs = by_number (file_edges bs) distinct (file_corners bs) corners_below (subst (Paired apart) (sym named_are) (file_paired p));
  }
