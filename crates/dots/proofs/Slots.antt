-- What numbered slots hold. Assumes nothing.
use mathlib.Core.Path.{◌≡◌, refl, sym, ap, ◌∙◌}
use mathlib.Core.Logic.{◌⊎◌, inl, inr}
use mathlib.Core.Bool.{Bool, true, false, cond, not}
use mathlib.Core.List.{List, [], ◌∷◌, ◌++◌, map}
use Prim.Native.Nat.{ℕ, suc, ◌+◌, ◌≤◌, ◌<◌}
use native.Mathlib.Omega.{arith}
use native.Mathlib.Numerals.{add-one}
use lib.Dec.{T, eqb, ltb, eqb→eq, eqb-suc-zero}
use lib.ListN.{length, get_or, set, take, drop, length-set, take-append-drop}
use lib.Seq.{length-take-le, get_or-take, get_or-set_same, get_or-set_other}
use borrow.Author.Tests.{lt-ltb, le-ltb}
use Rattle.lists.specs.Lists.{range, cons_if, keep, is_in, rank, over, cleared, Beyond}
use Rattle.lists.proofs.Member.{t_to_eq, eq_to_t, or_cases, or_left, or_right}
use Rattle.lists.proofs.Every.{All, all_weak}
use Rattle.lists.proofs.Within.{eqb_of}
use Rattle.lists.proofs.Rising.{Rising}
use Rattle.lists.proofs.Runs.{rising_ge, length_along, over_along}
use Rattle.lists.proofs.Filled.{filled_all}
use Rattle.lists.proofs.Stores.{cleared_at, cleared_rest, cleared_length, beyond_refl, beyond_trans, beyond_set}
use Rattle.paper.specs.declared.Sizes.{Sizes}
use Rattle.paper.specs.Room.{needed_slots}
use Rattle.dots.specs.Dots.{numbered}
use Rattle.dots.specs.Slots.{used, slots_of}

-- past the first n nothing changes, where the edges are below n
pub numbered_beyond : (n at : ℕ) (es l : List ℕ) → All (λ e. e < n) es → Beyond n l (numbered at es l)
numbered_beyond n at [] l h = beyond_refl n l
numbered_beyond n at (e ∷ es) l h = beyond_trans (beyond_set n l e at h.0) (numbered_beyond n (at + 1) es (set l e at) h.1)

-- a slot of no edge is as it was
pub numbered_other : (at : ℕ) (es l : List ℕ) (e : ℕ) → (T (is_in es e) → ⊥) → get_or (numbered at es l) e 0 ≡ get_or l e 0
numbered_other at [] l e n = refl
numbered_other at (x ∷ es) l e n =
    numbered_other (at + 1) es (set l x at) e (λ t. n (or_right (eqb e x) (is_in es e) t))
    ∙ get_or-set_other l x e at 0 (λ q. n (or_left (eqb e x) (is_in es e) (eqb_of q)))

-- none of a rising list is below its first
rank_none : (b e : ℕ) (l : List ℕ) → e ≤ b → Rising b l → rank l e ≡ 0
rank_none b e [] h r = refl
rank_none b e (x ∷ l) h r =
    ap (λ (c : Bool). length (cons_if c x (keep (λ m. ltb m e) l))) (le-ltb x e (omega (arith, r.0)))
    ∙ rank_none (suc x) e l (omega (arith, r.0)) r.1

-- the slot of an edge has its number
pub numbered_at : (b at : ℕ) (es l : List ℕ) (e : ℕ) → Rising b es → All (λ e. e < length l) es → T (is_in es e)
    → get_or (numbered at es l) e 0 ≡ at + rank es e
numbered_at b at [] l e r h t = absurd t
numbered_at b at (x ∷ es) l e r h t =
    go (or_cases (eqb e x) (is_in es e) t)
    (λ q.
    numbered_at (suc x) (at + 1) es (set l x at) e r.1
    (all_weak (λ e. e < length l) (λ e. e < length (set l x at)) (λ e k. omega (arith, length-set l x at)) es h.1) q)
  where
    go : T (eqb e x) ⊎ T (is_in es e) → (T (is_in es e) → get_or (numbered (at + 1) es (set l x at)) e 0 ≡ at + 1 + rank es e)
        → get_or (numbered (at + 1) es (set l x at)) e 0 ≡ at + rank (x ∷ es) e
    go (inl q) f =
        let p : e ≡ x = eqb→eq e x q in
        let z : at ≡ at + rank (x ∷ es) e = omega (arith, rank_none x e (x ∷ es) (omega arith) (omega arith, r.1)) in
        numbered_other (at + 1) es (set l x at) e (λ t. omega (arith, p, rising_ge es (suc x) e r.1 t))
        ∙ (ap (λ (k : ℕ). get_or (set l k at) e 0) (sym p) ∙ (get_or-set_same l e at 0 (omega (arith, h.0)) ∙ z))
    go (inr q) f =
        let c : rank (x ∷ es) e ≡ suc (rank es e) =
        ap (λ (c : Bool). length (cons_if c x (keep (λ m. ltb m e) es))) (lt-ltb x e (rising_ge es (suc x) e r.1 q)) in
        f q ∙ omega arith

-- ── the slots of a lattice ──

module _ (z : Sizes) (es slots : List ℕ) (r : Rising 0 es) (h : All (λ e. e < needed_slots z) es) (long : needed_slots z ≤ length slots) where
  abbrev n : ℕ
  n = needed_slots z

  abbrev numbers : List ℕ
  numbers = numbered 1 es (cleared n slots)

  number_of : (k : ℕ) → k < n → (b : Bool) → is_in es k ≡ b → get_or numbers k 0 ≡ cond b (rank es k + 1) 0
  number_of k l true e =
      numbered_at 0 1 es (cleared n slots) k r
      (all_weak (λ e. e < n) (λ e. e < length (cleared n slots)) (λ e g. omega (arith, cleared_length n slots long)) es h) (eq_to_t e)
      ∙ omega arith
  number_of k l false e =
      numbered_other 1 es (cleared n slots) k (λ t. true_false (sym (t_to_eq (is_in es k) t) ∙ e)) ∙ cleared_at n slots k l
    where
      true_false : true ≡ false → ⊥
      true_false q = eq_to_t (sym q)

  -- cleared and then numbered from 1 on
  pub numbered_slots : numbers ≡ over (slots_of z es) slots
  unfolding slots_of
  numbered_slots =
      let f : ℕ → ℕ = λ e. cond (is_in es e) (rank es e + 1) 0 in
      let b = numbered_beyond n 1 es (cleared n slots) h in
      let w : length numbers ≡ length slots = b.same_length ∙ cleared_length n slots long in
      let t = length-take-le n numbers (omega arith) in
      let front : take n numbers ≡ map f (range 0 n) = filled_all f n n (take n numbers) (omega arith) (record {
        long = t;
        upto = omega arith;
        front = λ k l. get_or-take n numbers k 0 l ∙ number_of k l (is_in es k) refl;
      }) in
      let rest : drop n numbers ≡ drop (length (map f (range 0 n))) slots =
      b.rest ∙ (cleared_rest n slots ∙ ap (λ (k : ℕ). drop k slots) (sym (length_along f 0 n))) in
      sym (take-append-drop n numbers) ∙ (λ i. front i ++ rest i)

module _ (z : Sizes) (es slots s₀ : List ℕ) (e : slots ≡ over (slots_of z es) s₀) where
  pub slot_at : (k : ℕ) → k < needed_slots z → get_or slots k 0 ≡ cond (is_in es k) (rank es k + 1) 0
  unfolding slots_of
  slot_at k h =
      ap (λ (l : List ℕ). get_or l k 0) e ∙ over_along (λ e. cond (is_in es e) (rank es e + 1) 0) 0 (needed_slots z) s₀ k h

  -- a slot is used where its edge has a vertex
  pub slot_used : (k : ℕ) → k < needed_slots z → used slots k ≡ is_in es k
  unfolding used
  slot_used k h = ap (λ (v : ℕ). not (eqb v 0)) (slot_at k h) ∙ go (is_in es k)
    where
      go : (b : Bool) → not (eqb (cond b (rank es k + 1) 0) 0) ≡ b
      go true = ap not (ap (λ (v : ℕ). eqb v 0) (add-one (rank es k)) ∙ eqb-suc-zero (rank es k))
      go false = refl
