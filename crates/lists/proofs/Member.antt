-- Membership by a test, `is_in l k`, in each of the lists that the definitions make: equations of tests. Assumes nothing.
use mathlib.Core.Path.{◌≡◌, refl, sym, ap, subst, ◌∙◌}
use mathlib.Core.Logic.{◌⊎◌, inl, inr}
use mathlib.Core.Bool.{Bool, true, false, ◌&&◌, ◌||◌, or_assoc, and-false, xor}
use mathlib.Core.List.{List, [], ◌∷◌, ◌++◌}
use Prim.Native.Nat.{ℕ, zero, suc, ◌+◌, ◌≤◌, ◌<◌}
use native.Mathlib.Omega.{arith}
use lib.Dec.{T, eqb, eqb→eq, eqb_refl}
use lib.Arith.{lt_of_le-ne}
use borrow.Author.Tests.{eqb-false}
use Rattle.lists.specs.Lists.{range, cons_if, keep, any, each, is_in}

-- a test that passes is true, and back
pub t_to_eq : (b : Bool) → T b → b ≡ true
t_to_eq true t = refl
t_to_eq false t = absurd t

pub eq_to_t : {b : Bool} → b ≡ true → T b
eq_to_t {b} e = subst T (sym e) tt

pub or_cases : (a b : Bool) → T (a || b) → T a ⊎ T b
or_cases true b t = inl tt
or_cases false b t = inr t

pub or_left : (a b : Bool) → T a → T (a || b)
or_left true b t = tt
or_left false b t = absurd t

pub or_right : (a b : Bool) → T b → T (a || b)
or_right true b t = tt
or_right false b t = t

pub and_both : (a b : Bool) → T a → T b → T (a && b)
and_both true b s t = t
and_both false b s t = s

pub and_left : (a b : Bool) → T (a && b) → T a
and_left true b t = tt
and_left false b t = t

pub and_right : (a b : Bool) → T (a && b) → T b
and_right true b t = t
and_right false b t = absurd t

-- different, either way round
pub xor_turn : (a b : Bool) → xor a b ≡ xor b a
unfolding xor
xor_turn true true = refl
xor_turn true false = refl
xor_turn false true = refl
xor_turn false false = refl

-- three tests at once
pub and3 : (a b c : Bool) → T (a && b && c) → T a × T b × T c
and3 a b c t = (and_left a b (and_left (a && b) c t), and_right a b (and_left (a && b) c t), and_right (a && b) c t)

pub both3 : (a b c : Bool) → T a → T b → T c → T (a && b && c)
both3 a b c x y z = and_both (a && b) c (and_both a b x y) z

-- joined lists
pub any_append : {A : Type 0} (p : A → Bool) (l m : List A) → any p (l ++ m) ≡ (any p l || any p m)
any_append p [] m = refl
any_append p (x ∷ xs) m = ap (λ (b : Bool). p x || b) (any_append p xs m) ∙ sym (or_assoc (p x) (any p xs) (any p m))

pub any_each : {A B : Type 0} (p : B → Bool) (f : A → List B) (l : List A) → any p (each f l) ≡ any (λ a. any p (f a)) l
any_each p f [] = refl
any_each p f (x ∷ xs) = any_append p (f x) (each f xs) ∙ ap (λ (b : Bool). any p (f x) || b) (any_each p f xs)

-- something in the list passes
pub any_some : {A : Type 0} (p : A → Bool) (l : List A) → T (any p l) → (a : A) × T (p a)
any_some p [] t = absurd t
any_some p (x ∷ xs) t = elim (or_cases (p x) (any p xs) t) [ inl a ↦ (x, a) | inr r ↦ any_some p xs r ]

pub any_in : (p : ℕ → Bool) (l : List ℕ) → T (any p l) → (a : ℕ) × (T (is_in l a) × T (p a))
any_in p [] t = absurd t
any_in p (x ∷ xs) t =
    elim (or_cases (p x) (any p xs) t) [
      | inl a ↦ (x, (or_left (eqb x x) (is_in xs x) (eqb_refl x), a))
      | inr r ↦ (let h = any_in p xs r in (h.0, (or_right (eqb h.0 x) (is_in xs h.0) h.1.0, h.1.1)))
    ]

pub in_any : (p : ℕ → Bool) (l : List ℕ) (a : ℕ) → T (is_in l a) → T (p a) → T (any p l)
in_any p [] a t h = absurd t
in_any p (x ∷ xs) a t h =
    elim (or_cases (eqb a x) (is_in xs a) t) [
      | inl e ↦ or_left (p x) (any p xs) (subst (λ (y : ℕ). T (p y)) (eqb→eq a x e) h)
      | inr r ↦ or_right (p x) (any p xs) (in_any p xs a r h)
    ]

-- what a list of at most one thing holds
pub in_cons_if : (b : Bool) (x k : ℕ) → T (is_in (cons_if b x []) k) → T b × (k ≡ x)
in_cons_if true x k t = elim (or_cases (eqb k x) false t) [ inl e ↦ (tt, eqb→eq k x e) | inr f ↦ absurd f ]
in_cons_if false x k t = absurd t

pub cons_if_in : (b : Bool) (x : ℕ) → T b → T (is_in (cons_if b x []) x)
cons_if_in true x t = or_left (eqb x x) false (eqb_refl x)
cons_if_in false x t = absurd t

-- those that passed
keep_head : (p : ℕ → Bool) (x k : ℕ) (l r : List ℕ) (b e : Bool) → p x ≡ b → eqb k x ≡ e → is_in r k ≡ (is_in l k && p k)
    → is_in (cons_if b x r) k ≡ ((e || is_in l k) && p k)
keep_head p x k l r true true hp he h =
    ap (λ (c : Bool). c || is_in r k) he ∙ sym (ap p (eqb→eq k x (eq_to_t he)) ∙ hp)
keep_head p x k l r true false hp he h = ap (λ (c : Bool). c || is_in r k) he ∙ h
keep_head p x k l r false true hp he h =
    let pk : p k ≡ false = ap p (eqb→eq k x (eq_to_t he)) ∙ hp in
    h ∙ (ap (λ (c : Bool). is_in l k && c) pk ∙ (and-false (is_in l k) ∙ sym pk))
keep_head p x k l r false false hp he h = h

pub in_keep : (p : ℕ → Bool) (l : List ℕ) (k : ℕ) → is_in (keep p l) k ≡ (is_in l k && p k)
in_keep p [] k = refl
in_keep p (x ∷ xs) k = keep_head p x k xs (keep p xs) (p x) (eqb k x) refl refl (in_keep p xs k)

-- a run of numbers
here_or : (k i : ℕ) (r b : Bool) → eqb k i ≡ b → ((k ≡ i → ⊥) → T r) → T (b || r)
here_or k i r true e f = tt
here_or k i r false e f = f (eqb-false k i e)

pub in_range : (i n k : ℕ) → i ≤ k → k < i + n → T (is_in (range i n) k)
in_range i zero k h g = absurd (omega arith)
in_range i (suc n) k h g =
    here_or k i (is_in (range (suc i) n) k) (eqb k i) refl (λ ne. in_range (suc i) n k (lt_of_le-ne h (λ e. ne (sym e))) (omega arith))

pub range_in : (i n k : ℕ) → T (is_in (range i n) k) → (i ≤ k) × (k < i + n)
range_in i zero k t = absurd t
range_in i (suc n) k t =
    elim (or_cases (eqb k i) (is_in (range (suc i) n) k) t)
    [ inl e ↦ omega (arith, eqb→eq k i e) | inr r ↦ omega (arith, range_in (suc i) n k r) ]
