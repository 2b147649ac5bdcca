-- A record that fails here is one that fails test 17. Assumes nothing.
use mathlib.Core.Path.{◌≡◌, refl, sym, ap, subst, ◌∙◌}
use mathlib.Core.Logic.{inl, inr}
use mathlib.Core.Bool.{Bool, true, false, cond, not, ◌&&◌, ◌||◌}
use mathlib.Core.List.{List, map}
use Prim.Native.Nat.{ℕ, zero, suc, ◌+◌, ◌≤◌, ◌<◌}
use native.Mathlib.Omega.{arith}
use lib.IntN.{ℤ, pos, negsuc}
use lib.Dec.{T, eqb, ltb, eqb→eq, eqb_refl, T_not, not_T}
use lib.ListN.{length, drop}
use borrow.Author.Tests.{lt-ltb, ltb-true, not-false, eqb-false}
use lib.Arith.{lt_of_le-ne}
use Rattle.lists.specs.Lists.{range, any, is_in, first}
use Rattle.lists.proofs.Member.{t_to_eq, eq_to_t, or_cases, or_left, or_right, and_both, and_left}
use Rattle.lists.proofs.Member.{and_right, and3, both3, any_in, in_any, in_range, range_in}
use Rattle.lists.proofs.Every.{All, all_in, all_map, any_map}
use Rattle.lists.proofs.Within.{members, below as run_below}
use Rattle.lists.proofs.Stores.{stored_rest}
use Rattle.lists.proofs.Closure.{bool_same}
use Rattle.lists.proofs.Firsts.{first_before}
use Rattle.paper.specs.declared.Rule.{Rule}
use Rattle.paper.specs.Lattice.{Lattice}
use Rattle.paper.specs.Sheet.{Sheet, vertex_record}
use Rattle.paper.specs.Room.{needed_slots}
use Rattle.paper.specs.Check.{same_number, same_numbers, record_of, edge_of, bad_record}
use Rattle.paper.proofs.Records.{same_number_law, number_same, same_numbers_law, record_edge}
use Rattle.dots.specs.Slots.{used}
use Rattle.check_records.specs.Records.{edge_in, edge_at, good_record, edges_to, slots_after, bad_in, first_bad_in}
use Rattle.check_records.proofs.Laws.{emptied_used}

-- an edge among n
pub edge_in_law : (e n : ℕ) → e < n → edge_in (pos e) n ≡ e
edge_in_law e n h = ap (λ (b : Bool). cond b e n) (lt-ltb e n h)

pub in_edge : (z : ℤ) (e n : ℕ) → edge_in z n ≡ e → e < n → z ≡ pos e
in_edge (pos m) e n q h = go (ltb m n) q
  where
    go : (b : Bool) → cond b m n ≡ e → pos m ≡ pos e
    go true q = ap pos q
    go false q = absurd (omega arith)
in_edge (negsuc m) e n q h = absurd (omega arith)

-- what is along a run
pub in_along : (f : ℕ → ℕ) (i n k : ℕ) → T (is_in (map f (range i n)) k) → (j : ℕ) × (i ≤ j) × (j < i + n) × (f j ≡ k)
in_along f i zero k t = absurd t
in_along f i (suc n) k t =
    elim (or_cases (eqb k (f i)) (is_in (map f (range (suc i) n)) k) t) [
      | inl e ↦ (i, omega arith, omega arith, sym (eqb→eq k (f i) e))
      | inr r ↦ (let w = in_along f (suc i) n k r in (w.0, omega (arith, w.1), omega (arith, w.2), w.3))
    ]

pub along_in : (f : ℕ → ℕ) (i n j : ℕ) → i ≤ j → j < i + n → T (is_in (map f (range i n)) (f j))
along_in f i zero j h g = absurd (omega arith)
along_in f i (suc n) j h g = go (eqb j i) refl (λ l. along_in f (suc i) n j l (omega arith))
  where
    go : (b : Bool) → eqb j i ≡ b → (suc i ≤ j → T (is_in (map f (range (suc i) n)) (f j))) → T (is_in (map f (range i (suc n))) (f j))
    go true e r =
        or_left (eqb (f j) (f i)) (is_in (map f (range (suc i) n)) (f j))
        (subst (λ (k : ℕ). T (eqb (f j) (f k))) (eqb→eq j i (eq_to_t e)) (eqb_refl (f j)))
    go false e r = or_right (eqb (f j) (f i)) (is_in (map f (range (suc i) n)) (f j)) (r (lt_of_le-ne h (λ q. eqb-false j i e (sym q))))

module _ (rule : Rule) (L : Lattice) (S : Sheet) (are : S.records ≡ map (vertex_record rule L) S.edges) (vs : List ℤ) (slots : List ℕ)
    (used_are : (e : ℕ) → e < needed_slots L.size → used slots e ≡ is_in S.edges e)
    (below : All (λ e. e < needed_slots L.size) S.edges) (long : needed_slots L.size ≤ length slots) where
  abbrev n : ℕ
  n = needed_slots L.size

  -- the slot of an edge of the sheet is used until a record has the edge
  slot_is : (i e : ℕ) → e < n → used (slots_after L vs slots i) e ≡ (not (is_in (edges_to L vs i) e) && is_in S.edges e)
  unfolding slots_after
  slot_is i e h = emptied_used (edges_to L vs i) slots e (omega arith) ∙ ap (λ (b : Bool). not (is_in (edges_to L vs i) e) && b) (used_are e h)

  module _ (i : ℕ) where
    abbrev e : ℕ
    e = edge_at L vs i

    abbrev found : Bool
    found = any (λ e. same_numbers (record_of vs i) (vertex_record rule L e)) S.edges

    abbrev earlier : Bool
    earlier = any (λ j. same_number (edge_of vs j) (edge_of vs i)) (range 0 i)

    -- an earlier record with its edge has its slot
    told : T earlier → T (is_in (edges_to L vs i) e)
    unfolding edges_to edge_at
    told t =
        let w = any_in (λ j. same_number (edge_of vs j) (edge_of vs i)) (range 0 i) t in
        let r = range_in 0 i w.0 w.1.0 in
        subst (λ (k : ℕ). T (is_in (map (edge_at L vs) (range 0 i)) k))
        (ap (λ (z : ℤ). edge_in z n) (same_number_law (edge_of vs w.0) (edge_of vs i) w.1.1))
        (along_in (edge_at L vs) 0 i w.0 r.0 r.1)

    tells : e < n → edge_of vs i ≡ pos e → T (is_in (edges_to L vs i) e) → T earlier
    unfolding edges_to edge_at
    tells h q t =
        let w = in_along (edge_at L vs) 0 i e t in
        in_any (λ j. same_number (edge_of vs j) (edge_of vs i)) (range 0 i) w.0 (in_range 0 i w.0 w.1 w.2)
        (number_same (in_edge (edge_of vs w.0) e n w.3 h ∙ sym q))

    at_edge : (k : ℕ) → edge_of vs i ≡ pos k → k < n → e ≡ k
    unfolding edge_at
    at_edge k q h = ap (λ (z : ℤ). edge_in z n) q ∙ edge_in_law k n h

    good_sound : T (good_record rule L vs (slots_after L vs slots i) i) → T (found && not earlier)
    unfolding good_record
    good_sound t =
        let p = and3 (ltb e n) (used (slots_after L vs slots i) e) (same_numbers (record_of vs i) (vertex_record rule L e)) t in
        let h = ltb-true e n (t_to_eq (ltb e n) p.0) in
        let u = subst T (slot_is i e h) p.1 in
        and_both found (not earlier)
        (in_any (λ e. same_numbers (record_of vs i) (vertex_record rule L e)) S.edges e
        (and_right (not (is_in (edges_to L vs i) e)) (is_in S.edges e) u) p.2)
        (not_T earlier (λ a. T_not (is_in (edges_to L vs i) e) (and_left (not (is_in (edges_to L vs i) e)) (is_in S.edges e) u) (told a)))

    good_full : T (found && not earlier) → T (good_record rule L vs (slots_after L vs slots i) i)
    unfolding good_record
    good_full t =
        let w = any_in (λ e. same_numbers (record_of vs i) (vertex_record rule L e)) S.edges (and_left found (not earlier) t) in
        let k = w.0 in
        let q = record_edge rule L vs i k (same_numbers_law (record_of vs i) (vertex_record rule L k) w.1.1) in
        let h : k < n = all_in (λ e. e < n) S.edges below k w.1.0 in
        let m : e ≡ k = at_edge k q h in
        let g : e < n = subst (λ (j : ℕ). j < n) (sym m) h in
        both3 (ltb e n) (used (slots_after L vs slots i) e) (same_numbers (record_of vs i) (vertex_record rule L e)) (eq_to_t (lt-ltb e n g))
        (subst T (sym (slot_is i e g))
        (and_both (not (is_in (edges_to L vs i) e)) (is_in S.edges e)
        (not_T (is_in (edges_to L vs i) e) (λ a. T_not earlier (and_right found (not earlier) t) (tells g (q ∙ ap pos (sym m)) a)))
        (subst (λ (j : ℕ). T (is_in S.edges j)) (sym m) w.1.0)))
        (subst (λ (j : ℕ). T (same_numbers (record_of vs i) (vertex_record rule L j))) (sym m) w.1.1)

    found_is : found ≡ any (same_numbers (record_of vs i)) S.records
    found_is = sym (ap (any (same_numbers (record_of vs i))) are ∙ any_map (same_numbers (record_of vs i)) (vertex_record rule L) S.edges)

    pub bad_is : bad_in rule L vs slots i ≡ bad_record S vs i
    unfolding bad_in bad_record
    bad_is =
        ap not (bool_same (good_record rule L vs (slots_after L vs slots i) i) (found && not earlier) good_sound good_full)
        ∙ (swap found earlier ∙ ap (λ (b : Bool). not b || earlier) found_is)
      where
        swap : (a b : Bool) → not (a && not b) ≡ (not a || b)
        swap true true = refl
        swap true false = refl
        swap false b = refl

  -- so the first such is the one of test 17
  pub first_bad_is : (nv : ℕ) → first_bad_in rule L vs slots nv ≡ first (bad_record S vs) nv (range 0 nv)
  unfolding first_bad_in
  first_bad_is nv j = first (λ i. bad_is i j) nv (range 0 nv)

-- ── before the first ──

module _ (rule : Rule) (L : Lattice) (vs : List ℤ) (slots : List ℕ) (nv : ℕ) where
  pub edge_below : (k : ℕ) → k < first_bad_in rule L vs slots nv → edge_at L vs k < needed_slots L.size
  unfolding first_bad_in bad_in good_record
  edge_below k h =
      let e = edge_at L vs k in
      let n = needed_slots L.size in
      let l = slots_after L vs slots k in
      let p = and3 (ltb e n) (used l e) (same_numbers (record_of vs k) (vertex_record rule L e))
      (eq_to_t {b = good_record rule L vs l k} (not-false (good_record rule L vs l k) (first_before (bad_in rule L vs slots) nv k h))) in
      ltb-true e n (t_to_eq (ltb e n) p.0)

-- past the slots nothing changes
pub first_rest : (rule : Rule) (L : Lattice) (vs : List ℤ) (slots : List ℕ) (nv : ℕ)
    → drop (needed_slots L.size) (slots_after L vs slots (first_bad_in rule L vs slots nv)) ≡ drop (needed_slots L.size) slots
unfolding slots_after edges_to
first_rest rule L vs slots nv =
    let n = needed_slots L.size in
    let i = first_bad_in rule L vs slots nv in
    stored_rest 0 n (map (edge_at L vs) (range 0 i)) slots
    (all_map (λ e. e < n) (edge_at L vs) (range 0 i) (members (range 0 i) (λ k m. edge_below rule L vs slots nv k (run_below i k m))))
