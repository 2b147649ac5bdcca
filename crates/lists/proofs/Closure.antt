-- What `reached` holds is what steps reach: it is closed under steps, and each of it is reached. Assumes nothing.
use mathlib.Core.Path.{◌≡◌, refl, sym, ap, subst, ◌∙◌}
use mathlib.Core.Logic.{◌⊎◌, inl, inr}
use mathlib.Core.Bool.{Bool, true, false, ◌&&◌, ◌||◌}
use mathlib.Core.List.{List, [], ◌∷◌, ◌++◌}
use Prim.Native.Nat.{ℕ, zero, suc, ◌<◌}
use native.Mathlib.Omega.{arith}
use lib.Dec.{T, eqb, eqb→eq, eqb_refl}
use lib.ListN.{length}
use Rattle.lists.specs.Lists.{range, cons_if, keep, any, each, is_in}
use Rattle.lists.specs.Reach.{Reach, here, step, grow, rounds, reached}
use Rattle.lists.proofs.Rising.{keep_le}
use Rattle.lists.proofs.Member.{t_to_eq, or_cases, or_left, or_right, and_both, and_left, and_right}
use Rattle.lists.proofs.Member.{any_append, any_each, any_in, in_any, in_keep, in_range, range_in}

-- of two tests, the second of which passes where the first does: they keep the same, or the second keeps more
data Kept (a b : List ℕ) : Type 0 where
  same : a ≡ b → Kept a b
  more : length a < length b → Kept a b

kept_step : (x : ℕ) (a b : List ℕ) (s t : Bool) → (T s → T t) → Kept a b → Kept (cons_if s x a) (cons_if t x b)
kept_step x a b true true f (same e) = same (ap (λ (l : List ℕ). x ∷ l) e)
kept_step x a b true true f (more h) = more (omega arith)
kept_step x a b true false f k = absurd (f tt)
kept_step x a b false true f (same e) = more (omega (arith, ap length e))
kept_step x a b false true f (more h) = more (omega arith)
kept_step x a b false false f k = k

kept : (p q : ℕ → Bool) (l : List ℕ) → ((k : ℕ) → T (is_in l k) → T (p k) → T (q k)) → Kept (keep p l) (keep q l)
kept p q [] f = same refl
kept p q (x ∷ xs) f =
    kept_step x (keep p xs) (keep q xs) (p x) (q x) (f x (or_left (eqb x x) (is_in xs x) (eqb_refl x)))
    (kept p q xs (λ k h. f k (or_right (eqb k x) (is_in xs k) h)))

some_in : (l : List ℕ) (k : ℕ) → T (is_in l k) → 0 < length l
some_in [] k t = absurd t
some_in (x ∷ xs) k t = omega arith

pub length_range : (i n : ℕ) → length (range i n) ≡ n
length_range i zero = refl
length_range i (suc n) = ap suc (length_range (suc i) n)

pub bool_same : (a b : Bool) → (T a → T b) → (T b → T a) → a ≡ b
bool_same true true f g = refl
bool_same true false f g = absurd (f tt)
bool_same false true f g = absurd (g tt)
bool_same false false f g = refl

pub keep_same : (p q : ℕ → Bool) (l : List ℕ) → ((k : ℕ) → T (is_in l k) → p k ≡ q k) → keep p l ≡ keep q l
keep_same p q [] h = refl
keep_same p q (x ∷ xs) h =
    ap (λ (b : Bool). cons_if b x (keep p xs)) (h x (or_left (eqb x x) (is_in xs x) (eqb_refl x)))
    ∙ ap (cons_if (q x) x) (keep_same p q xs (λ k t. h k (or_right (eqb k x) (is_in xs k) t)))

module _ (next : ℕ → List ℕ) (n : ℕ) where
  -- one more round holds what was held, and what a step leads to
  in_grow : (l : List ℕ) (k : ℕ) → is_in (grow next n l) k ≡ (is_in (range 0 n) k && (is_in l k || any (λ j. is_in (next j) k) l))
  unfolding grow
  in_grow l k =
      in_keep (is_in (l ++ each next l)) (range 0 n) k
      ∙ ap (λ (b : Bool). is_in (range 0 n) k && b)
      (any_append (eqb k) l (each next l) ∙ ap (λ (b : Bool). is_in l k || b) (any_each (eqb k) next l))

  -- every round is made by a test on the numbers below n
  mark : ℕ → ℕ → ℕ → Bool
  mark start zero = is_in (start ∷ [])
  mark start (suc i) = is_in (rounds next n start i ++ each next (rounds next n start i))

  marked : (start i : ℕ) → rounds next n start i ≡ keep (mark start i) (range 0 n)
  unfolding rounds grow mark
  marked start zero = refl
  marked start (suc i) = refl

  in_round : (start i k : ℕ) → is_in (rounds next n start i) k ≡ (is_in (range 0 n) k && mark start i k)
  in_round start i k = ap (λ (l : List ℕ). is_in l k) (marked start i) ∙ in_keep (mark start i) (range 0 n) k

  round_in : (start i k : ℕ) → T (is_in (range 0 n) k) → T (mark start i k) → T (is_in (rounds next n start i) k)
  round_in start i k h g = subst T (sym (in_round start i k)) (and_both (is_in (range 0 n) k) (mark start i k) h g)

  -- a round either adds something or is the last that does
  round : (start i : ℕ) → Kept (rounds next n start i) (rounds next n start (suc i))
  unfolding mark
  round start i =
      subst (λ (l : List ℕ). Kept l (rounds next n start (suc i))) (sym (marked start i))
      (subst (λ (l : List ℕ). Kept (keep (mark start i) (range 0 n)) l) (sym (marked start (suc i)))
      (kept (mark start i) (mark start (suc i)) (range 0 n)
      (λ k h g.
      let l = rounds next n start i in
      subst T (sym (any_append (eqb k) l (each next l))) (or_left (is_in l k) (is_in (each next l) k) (round_in start i k h g)))))

  grow_in : (l : List ℕ) (k : ℕ) → k < n → T (is_in l k || any (λ j. is_in (next j) k) l) → T (is_in (grow next n l) k)
  grow_in l k h t =
      subst T (sym (in_grow l k))
      (and_both (is_in (range 0 n) k) (is_in l k || any (λ j. is_in (next j) k) l) (in_range 0 n k (omega arith) (omega arith)) t)

  first_in : (start : ℕ) → start < n → (i : ℕ) → T (is_in (rounds next n start i) start)
  unfolding mark rounds
  first_in start h zero =
      round_in start zero start (in_range 0 n start (omega arith) (omega arith)) (or_left (eqb start start) false (eqb_refl start))
  first_in start h (suc i) =
      let l = rounds next n start i in
      grow_in l start h (or_left (is_in l start) (any (λ j. is_in (next j) start) l) (first_in start h i))

  settled : (start : ℕ) → start < n → (i : ℕ) → (rounds next n start i ≡ rounds next n start (suc i)) ⊎ (i < length (rounds next n start i))
  unfolding rounds
  settled start h zero = inr (some_in (rounds next n start zero) start (first_in start h zero))
  settled start h (suc i) = go (settled start h i) (round start i)
    where
      go : (rounds next n start i ≡ rounds next n start (suc i)) ⊎ (i < length (rounds next n start i))
          → Kept (rounds next n start i) (rounds next n start (suc i))
          → (rounds next n start (suc i) ≡ rounds next n start (suc (suc i))) ⊎ (suc i < length (rounds next n start (suc i)))
      go (inl e) k = inl (ap (grow next n) e)
      go (inr l) (same e) = inl (ap (grow next n) e)
      go (inr l) (more m) = inr (omega arith)

  stable : (start : ℕ) → start < n → rounds next n start n ≡ rounds next n start (suc n)
  stable start h =
      elim (settled start h n) [
        | inl e ↦ e
        | inr l ↦ absurd (omega (arith, ap length (marked start n), keep_le (mark start n) (range 0 n), length_range 0 n))
      ]

  pub closed : (start : ℕ) → start < n → (j k : ℕ) → T (is_in (reached next n start) j)
      → T (is_in (next j) k) → k < n → T (is_in (reached next n start) k)
  unfolding reached rounds
  closed start h j k tj tk hk =
      let l = rounds next n start n in
      subst (λ (m : List ℕ). T (is_in m k)) (sym (stable start h))
      (grow_in l k hk (or_right (is_in l k) (any (λ j. is_in (next j) k) l) (in_any (λ j. is_in (next j) k) l j tj tk)))

  sound_at : (start i k : ℕ) → T (is_in (rounds next n start i) k) → Reach next start k
  unfolding mark rounds
  sound_at start zero k t =
      elim (or_cases (eqb k start) false (and_right (is_in (range 0 n) k) (mark start zero k) (subst T (in_round start zero k) t)))
      [ inl e ↦ subst (Reach next start) (sym (eqb→eq k start e)) here | inr f ↦ absurd f ]
  sound_at start (suc i) k t = go (λ j. sound_at start i j) (subst T (in_grow (rounds next n start i) k) t)
    where
      go : ((j : ℕ) → T (is_in (rounds next n start i) j) → Reach next start j)
          → T (is_in (range 0 n) k && (is_in (rounds next n start i) k || any (λ j. is_in (next j) k) (rounds next n start i)))
          → Reach next start k
      go ih t =
          let l = rounds next n start i in
          let near = any (λ j. is_in (next j) k) l in
          elim (or_cases (is_in l k) near (and_right (is_in (range 0 n) k) (is_in l k || near) t)) [
            | inl a ↦ ih k a
            | inr a ↦ (let w = any_in (λ j. is_in (next j) k) l a in step (ih w.0 w.1.0) w.1.1)
          ]

  -- each of the list is reached
  pub sound : (start k : ℕ) → T (is_in (reached next n start) k) → Reach next start k
  unfolding reached
  sound start k t = sound_at start n k t

  -- the list is what it keeps of the numbers below n
  pub reached_kept : (start : ℕ) → reached next n start ≡ keep (is_in (reached next n start)) (range 0 n)
  unfolding reached
  reached_kept start =
      marked start n
      ∙ keep_same (mark start n) (is_in (rounds next n start n)) (range 0 n)
      (λ k t. sym (in_round start n k ∙ ap (λ (b : Bool). b && mark start n k) (t_to_eq (is_in (range 0 n) k) t)))

  pub reached_lt : (start k : ℕ) → T (is_in (reached next n start) k) → k < n
  unfolding reached
  reached_lt start k t =
      omega (arith, range_in 0 n k (and_left (is_in (range 0 n) k) (mark start n k) (subst T (in_round start n k) t)))

  -- where steps from things below n lead to things below n
  module _ (bounded : (j k : ℕ) → j < n → T (is_in (next j) k) → k < n) (start : ℕ) (h : start < n) where
    pub reach_lt : {k : ℕ} → Reach next start k → k < n
    reach_lt here = h
    reach_lt (step {j} {k} r t) = bounded j k (reach_lt r) t

    -- each that is reached is in the list
    pub complete : {k : ℕ} → Reach next start k → T (is_in (reached next n start) k)
    unfolding reached
    complete here = first_in start h n
    complete (step {j} {k} r t) = closed start h j k (complete r) t (bounded j k (reach_lt r) t)

    -- marks that hold the start, only what is reached, and with a thing what its steps lead to: those marked are `reached`
    module _ (M : ℕ → Bool) (first : T (M start)) (only : (k : ℕ) → k < n → T (M k) → Reach next start k)
        (over : (j k : ℕ) → j < n → T (M j) → T (is_in (next j) k) → T (M k)) where
      reach_marked : {k : ℕ} → Reach next start k → T (M k)
      reach_marked here = first
      reach_marked (step {j} {k} r t) = over j k (reach_lt r) (reach_marked r) t

      pub marks_are : reached next n start ≡ keep M (range 0 n)
      unfolding reached
      marks_are =
          marked start n
          ∙ keep_same (mark start n) M (range 0 n)
          (λ k i.
          bool_same (mark start n k) (M k)
          (λ t. reach_marked (sound_at start n k (round_in start n k i t)))
          (λ t.
          and_right (is_in (range 0 n) k) (mark start n k)
          (subst T (in_round start n k) (unfold reached in (complete (only k (omega (arith, range_in 0 n k i)) t))))))
