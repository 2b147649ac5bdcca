-- What tests 15 and 17 to 19 say of a file's records and triangles, and back. Assumes nothing.
use mathlib.Core.Path.{◌≡◌, refl, sym, ap, subst, ◌∙◌}
use mathlib.Core.Bool.{Bool, true, false, not, ◌&&◌, ◌||◌}
use mathlib.Core.List.Memᴰ.{map as in_map}
use mathlib.Core.List.{List, map, Memᴰ as In}
use Prim.Native.Nat.{ℕ, ◌<◌}
use lib.IntN.{ℤ, pos}
use lib.Dec.{T, eqb}
use borrow.Author.Tests.{eq-eqb, eqb-true}
use Rattle.lists.specs.Lists.{range, any, all, first}
use Rattle.lists.proofs.Member.{t_to_eq, eq_to_t, and_both, and_left, and_right}
use Rattle.lists.proofs.Firsts.{first_before, first_missing}
use Rattle.lists.proofs.Within.{member_any, any_member, all_in, in_all_test, map_in, below, in_run}
use Rattle.paper.specs.declared.Sizes.{Sizes}
use Rattle.paper.specs.Tables.{Tri}
use Rattle.paper.specs.Sheet.{Sheet, in_file}
use Rattle.paper.specs.File.{bad_triangle, first_bad, file_v, file_t, file_sizes, file_vertices, file_triangles, file_tests}
use Rattle.paper.specs.Check.{same_number, same_numbers, turned, record_of, edge_of, bad_record}
use Rattle.paper.specs.Check.{triangle_of, bad_naming, complete, same_sizes, sheet_tests}
use Rattle.paper.proofs.Judged.{Passed}
use Rattle.paper.proofs.Records.{same_number_law, number_same, same_numbers_law, numbers_same}

-- of two tests, the first holds and the second does not
held : (a b : Bool) → (not a || b) ≡ false → T a × (T b → ⊥)
held true b e = (tt, λ t. subst T e t)
held false b e = absurd (subst T e tt)

holding : (a b : Bool) → T a → (T b → ⊥) → (not a || b) ≡ false
holding true true t h = absurd (h tt)
holding true false t h = refl
holding false b t h = absurd t

-- where the first that passes is none of a run, none of it passes, and back
none_of : (p : ℕ → Bool) (n : ℕ) → eqb (first p n (range 0 n)) n ≡ true → (i : ℕ) → i < n → p i ≡ false
none_of p n e i h = first_before p n i (subst (λ (k : ℕ). i < k) (sym (eqb-true (first p n (range 0 n)) n e)) h)

of_none : (p : ℕ → Bool) (n : ℕ) → ((i : ℕ) → i < n → p i ≡ false) → eqb (first p n (range 0 n)) n ≡ true
of_none p n h = eq-eqb (first p n (range 0 n)) n (sym (first_missing p n h))

-- ── 15 ──

pub indices_passed : (bs : List ℕ) → Passed (file_tests bs) → (i : ℕ) → i < file_t bs → bad_triangle (file_v bs) (file_triangles bs) i ≡ false
unfolding file_tests first_bad
indices_passed bs p = none_of (bad_triangle (file_v bs) (file_triangles bs)) (file_t bs) p.1.1.1.1.0

-- ── 17 ──

-- f gives the record of the vertex on an edge
module _ (f : ℕ → List ℤ) (S : Sheet) (vs : List ℤ) where
  -- record i is that of a vertex of the sheet, and no earlier record has its edge
  pub record Recorded (i : ℕ) : Type 0 where
    pub edge : ℕ
    pub vertex : In edge S.edges
    pub is : record_of vs i ≡ in_file (f edge)
    pub new : (j : ℕ) → j < i → edge_of vs j ≡ edge_of vs i → ⊥

  abbrev among : ℕ → Bool
  among i = any (λ r. same_numbers (record_of vs i) (in_file r)) S.records

  abbrev again : ℕ → Bool
  again i = any (λ j. same_number (edge_of vs j) (edge_of vs i)) (range 0 i)

  module _ (are : S.records ≡ map f S.edges) where
    pub recorded : (i : ℕ) → bad_record S vs i ≡ false → Recorded i
    unfolding bad_record
    recorded i e =
        let h = held (among i) (again i) e in
        let w = any_member (λ r. same_numbers (record_of vs i) (in_file r)) S.records h.0 in
        let v = map_in f S.edges w.0 (subst (In w.0) are w.1) in
        record {
          edge = v.0;
          vertex = v.1;
          is = same_numbers_law (record_of vs i) (in_file w.0) w.2 ∙ ap in_file v.2;
          new = λ j l q. h.1 (member_any (λ j. same_number (edge_of vs j) (edge_of vs i)) (in_run i j l) (number_same q));
        }

    pub recorded_back : (i : ℕ) → Recorded i → bad_record S vs i ≡ false
    unfolding bad_record
    recorded_back i r =
        holding (among i) (again i)
        (member_any (λ r. same_numbers (record_of vs i) (in_file r)) (subst (In (f r.edge)) (sym are) (in_map f r.vertex))
        (numbers_same (record_of vs i) (in_file (f r.edge)) r.is))
        (λ t.
        let w = any_member (λ j. same_number (edge_of vs j) (edge_of vs i)) (range 0 i) t in
        r.new w.0 (below i w.0 w.1) (same_number_law (edge_of vs w.0) (edge_of vs i) w.2))

-- ── 18 ──

module _ (S : Sheet) (vs : List ℤ) (ts : List ℕ) where
  -- triangle i is one of the sheet, and no earlier one is the same
  pub record Listed (i : ℕ) : Type 0 where
    pub is : T (any (turned (triangle_of vs ts i)) S.by_edge)
    pub new : (j : ℕ) → j < i → T (turned (triangle_of vs ts i) (triangle_of vs ts j)) → ⊥

  abbrev repeats : ℕ → Bool
  repeats i = any (λ j. turned (triangle_of vs ts i) (triangle_of vs ts j)) (range 0 i)

  pub listed : (i : ℕ) → bad_naming S vs ts i ≡ false → Listed i
  unfolding bad_naming
  listed i e =
      let h = held (any (turned (triangle_of vs ts i)) S.by_edge) (repeats i) e in
      record { is = h.0; new = λ j l t. h.1 (member_any (λ j. turned (triangle_of vs ts i) (triangle_of vs ts j)) (in_run i j l) t) }

  pub listed_back : (i : ℕ) → Listed i → bad_naming S vs ts i ≡ false
  unfolding bad_naming
  listed_back i r =
      holding (any (turned (triangle_of vs ts i)) S.by_edge) (repeats i) r.is
      (λ t.
      let w = any_member (λ j. turned (triangle_of vs ts i) (triangle_of vs ts j)) (range 0 i) t in
      r.new w.0 (below i w.0 w.1) w.2)

-- ── 19 ──

module _ (S : Sheet) (vs : List ℤ) (ts : List ℕ) (nv nt : ℕ) where
  -- each vertex and each triangle of the sheet is there
  pub record Whole : Type 0 where
    pub vertices : (e : ℕ) → In e S.edges → (i : ℕ) × (i < nv) × (edge_of vs i ≡ pos e)
    pub triangles : (t : Tri) → In t S.by_edge → (i : ℕ) × (i < nt) × T (turned t (triangle_of vs ts i))

  abbrev is_edge : ℕ → Bool
  is_edge e = any (λ i. same_number (edge_of vs i) (pos e)) (range 0 nv)

  abbrev has_triangle : Tri → Bool
  has_triangle t = any (λ i. turned t (triangle_of vs ts i)) (range 0 nt)

  pub whole : complete S vs ts nv nt ≡ true → Whole
  unfolding complete
  whole e =
      let a = all is_edge S.edges in
      let b = all has_triangle S.by_edge in
      record {
        vertices = λ k i.
            let w = any_member (λ i. same_number (edge_of vs i) (pos k)) (range 0 nv) (all_in is_edge (and_left a b (eq_to_t e)) i) in
            (w.0, below nv w.0 w.1, same_number_law (edge_of vs w.0) (pos k) w.2);
        triangles = λ t i.
            let w = any_member (λ i. turned t (triangle_of vs ts i)) (range 0 nt) (all_in has_triangle (and_right a b (eq_to_t e)) i) in
            (w.0, below nt w.0 w.1, w.2);
      }

  pub whole_back : Whole → complete S vs ts nv nt ≡ true
  unfolding complete
  whole_back w =
      let a = all is_edge S.edges in
      let b = all has_triangle S.by_edge in
      t_to_eq (a && b)
      (and_both a b
      (in_all_test is_edge S.edges
      (λ e i.
      let v = w.vertices e i in
      member_any (λ i. same_number (edge_of vs i) (pos e)) (in_run nv v.0 v.1) (number_same v.2)))
      (in_all_test has_triangle S.by_edge
      (λ t i. let v = w.triangles t i in member_any (λ i. turned t (triangle_of vs ts i)) (in_run nt v.0 v.1) v.2)))

-- ── 16 to 19 ──

module _ (z : Sizes) (f : ℕ → List ℤ) (S : Sheet) (bs : List ℕ) where
  pub record Compared : Type 0 where
    pub sizes : same_sizes (file_sizes bs) z ≡ true
    pub records : (i : ℕ) → i < file_v bs → Recorded f S (file_vertices bs) i
    pub triangles : (i : ℕ) → i < file_t bs → Listed S (file_vertices bs) (file_triangles bs) i
    pub full : Whole S (file_vertices bs) (file_triangles bs) (file_v bs) (file_t bs)

  module _ (are : S.records ≡ map f S.edges) where
    pub compared : Passed (sheet_tests z S bs) → Compared
    unfolding sheet_tests
    compared p =
        let vs = file_vertices bs in
        let ts = file_triangles bs in
        record {
          sizes = p.0;
          records = λ i h. recorded f S vs are i (none_of (bad_record S vs) (file_v bs) p.1.0 i h);
          triangles = λ i h. listed S vs ts i (none_of (bad_naming S vs ts) (file_t bs) p.1.1.0 i h);
          full = whole S vs ts (file_v bs) (file_t bs) p.1.1.1.0;
        }

    pub compared_back : Compared → Passed (sheet_tests z S bs)
    unfolding sheet_tests
    compared_back c =
        let vs = file_vertices bs in
        let ts = file_triangles bs in (
          c.sizes,
          (
            of_none (bad_record S vs) (file_v bs) (λ i h. recorded_back f S vs are i (c.records i h)),
            (
              of_none (bad_naming S vs ts) (file_t bs) (λ i h. listed_back S vs ts i (c.triangles i h)),
              (whole_back S vs ts (file_v bs) (file_t bs) c.full, tt),
            ),
          ),
        )
