-- One record after the other: its edge, and the slots once it is found. Assumes nothing.
use mathlib.Core.Path.{◌≡◌, refl, sym, ap, subst, ◌∙◌}
use mathlib.Core.Bool.{Bool, true, false, cond, not, ◌&&◌, and-false}
use mathlib.Core.List.{List, [], ◌∷◌, map}
use Prim.Native.Nat.{ℕ, ◌+◌, ◌≤◌, ◌<◌}
use native.Mathlib.Numerals.{add-one}
use native.Mathlib.Omega.{arith}
use lib.IntN.{ℤ}
use lib.Dec.{T, eqb, ltb}
use lib.ListN.{length, get_or, set}
use borrow.Author.Tests.{eq-eqb, ne_eqb, lt-ltb, le-ltb, ltb-true}
use Rattle.lists.specs.Lists.{range, is_in}
use Rattle.lists.proofs.Member.{t_to_eq, eq_to_t, and_left, and_right}
use Rattle.lists.proofs.Runs.{along_snoc}
use Rattle.lists.proofs.Stores.{stored_append, stored_length, stored_at}
use Rattle.paper.specs.declared.Rule.{Rule}
use Rattle.paper.specs.Lattice.{Lattice}
use Rattle.paper.specs.Sheet.{vertex_record}
use Rattle.paper.specs.Room.{needed_slots}
use Rattle.paper.specs.Check.{same_numbers, record_of}
use Rattle.dots.specs.Slots.{used}
use Rattle.check_records.specs.Records.{AllCross, edge_at, good_record, good_edge, emptied, edges_to, slots_after}

-- ── one record ──

module _ (rule : Rule) (L : Lattice) (vs : List ℤ) (slots : List ℕ) (i : ℕ) where
  abbrev n : ℕ
  n = needed_slots L.size

  abbrev e : ℕ
  e = edge_at L vs i

  abbrev same : Bool
  same = same_numbers (record_of vs i) (vertex_record rule L e)

  pub edge_out : e ≡ n → n ≡ good_edge rule L vs slots i
  unfolding good_edge good_record
  edge_out q = rw (le-ltb e n (omega arith))

  pub edge_idle : get_or slots e 0 ≡ 0 → n ≡ good_edge rule L vs slots i
  unfolding good_edge good_record used
  edge_idle q = rw (eq-eqb (get_or slots e 0) 0 q, and-false)

  pub edge_wrong : same ≡ false → n ≡ good_edge rule L vs slots i
  unfolding good_edge good_record
  edge_wrong q = rw (q, and-false)

  pub edge_right : e < n → (get_or slots e 0 ≡ 0 → ⊥) → same ≡ true → e ≡ good_edge rule L vs slots i
  unfolding good_edge good_record used
  edge_right h u q = rw (lt-ltb e n h, ne_eqb (get_or slots e 0) 0 u, q)

  -- what the edge tells
  good_below : T (good_record rule L vs slots i) → e < n
  unfolding good_record
  good_below t = ltb-true e n (t_to_eq (ltb e n) (and_left (ltb e n) (used slots e) (and_left (ltb e n && used slots e) same t)))

  pub record_bad : good_edge rule L vs slots i ≡ n → good_record rule L vs slots i ≡ false
  unfolding good_edge
  record_bad q = go (good_record rule L vs slots i) refl q
    where
      go : (b : Bool) → good_record rule L vs slots i ≡ b → cond b e n ≡ n → b ≡ false
      go true g q = absurd (omega (arith, good_below (eq_to_t g)))
      go false g q = refl

  pub record Found : Type 0 where
    pub good : good_record rule L vs slots i ≡ true
    pub is : good_edge rule L vs slots i ≡ e
    pub below : good_edge rule L vs slots i < n

  pub record_good : (good_edge rule L vs slots i ≡ n → ⊥) → Found
  unfolding good_edge
  record_good q = go (good_record rule L vs slots i) refl
    where
      go : (b : Bool) → good_record rule L vs slots i ≡ b → Found
      go true g = record {
        good = g;
        is = ap (λ (b : Bool). cond b e n) g;
        below = subst (λ (k : ℕ). k < n) (sym (ap (λ (b : Bool). cond b e n) g)) (good_below (eq_to_t g));
      }
      go false g = absurd (q (ap (λ (b : Bool). cond b e n) g))

-- ── slots that become 0 ──

-- a slot is used where it was and is not of the list
pub emptied_used : (es l : List ℕ) (k : ℕ) → k < length l → used (emptied es l) k ≡ (not (is_in es k) && used l k)
unfolding used
emptied_used es l k h = ap (λ (v : ℕ). not (eqb v 0)) (stored_at 0 es l k h) ∙ go (is_in es k)
  where
    go : (b : Bool) → not (eqb (cond b 0 (get_or l k 0)) 0) ≡ (not b && not (eqb (get_or l k 0) 0))
    go true = refl
    go false = refl

-- ── record after record ──

module _ (L : Lattice) (vs : List ℤ) (slots : List ℕ) where
  pub after_none : slots ≡ slots_after L vs slots 0
  unfolding slots_after edges_to
  after_none = refl

  pub after_more : (i : ℕ) → set (slots_after L vs slots i) (edge_at L vs i) 0 ≡ slots_after L vs slots (i + 1)
  unfolding slots_after edges_to
  after_more i =
      sym (ap (λ (n : ℕ). emptied (map (edge_at L vs) (range 0 n)) slots) (add-one i)
      ∙ (ap (λ (es : List ℕ). emptied es slots) (along_snoc (edge_at L vs) i)
      ∙ stored_append 0 (map (edge_at L vs) (range 0 i)) (edge_at L vs i ∷ []) slots))

  pub after_length : (i : ℕ) → length (slots_after L vs slots i) ≡ length slots
  unfolding slots_after
  after_length i = stored_length 0 (edges_to L vs i) slots

  pub after_crossing : (i : ℕ) → needed_slots L.size ≤ length slots → AllCross L slots → AllCross L (slots_after L vs slots i)
  unfolding slots_after
  after_crossing i h c = record {
    at = λ e l t.
        c.at e l
        (and_right (not (is_in (edges_to L vs i) e)) (used slots e) (subst T (emptied_used (edges_to L vs i) slots e (omega arith)) t));
  }
