-- What is kept of rising numbers rises strictly, and the rank of a number in a list is below its length. Assumes nothing.
use mathlib.Core.Path.{◌≡◌, refl}
use mathlib.Core.Logic.{◌⊎◌, inl, inr}
use mathlib.Core.Bool.{Bool, true, false}
use mathlib.Core.List.{List, [], ◌∷◌}
use Prim.Native.Nat.{ℕ, zero, suc, ◌≤◌, ◌<◌}
use native.Mathlib.Omega.{arith}
use lib.Dec.{T, eqb, ltb, eqb→eq, ltb→lt}
use lib.ListN.{length}
use Rattle.lists.specs.Lists.{range, cons_if, keep, is_in, rank}
use Rattle.lists.proofs.Member.{or_cases, eq_to_t}

-- each is at least the bound and below the next
abbrev pub Rising : ℕ → List ℕ → Type 0
Rising b [] = Unit {0}
Rising b (x ∷ xs) = (b ≤ x) × Rising (suc x) xs

lower : (a b : ℕ) (l : List ℕ) → a ≤ b → Rising b l → Rising a l
lower a b [] h r = tt
lower a b (x ∷ xs) h r = (omega arith, r.1)

pub keep_rising : (p : ℕ → Bool) (i n : ℕ) → Rising i (keep p (range i n))
keep_rising p i zero = tt
keep_rising p i (suc n) = go (p i) (keep_rising p (suc i) n)
  where
    go : (b : Bool) → Rising (suc i) (keep p (range (suc i) n)) → Rising i (cons_if b i (keep p (range (suc i) n)))
    go true r = (omega arith, r)
    go false r = lower i (suc i) (keep p (range (suc i) n)) (omega arith) r

-- what is kept is no longer
pub keep_le : (p : ℕ → Bool) (l : List ℕ) → length (keep p l) ≤ length l
keep_le p [] = omega arith
keep_le p (x ∷ xs) = go (p x) (keep_le p xs)
  where
    go : (b : Bool) → length (keep p xs) ≤ length xs → length (cons_if b x (keep p xs)) ≤ suc (length xs)
    go true h = omega arith
    go false h = omega arith

pub rank_lt : (l : List ℕ) (n : ℕ) → T (is_in l n) → rank l n < length l
rank_lt [] n t = absurd t
rank_lt (x ∷ xs) n t = go (ltb x n) refl (or_cases (eqb n x) (is_in xs n) t) (λ h. rank_lt xs n h)
  where
    go : (b : Bool) → ltb x n ≡ b → T (eqb n x) ⊎ T (is_in xs n) → (T (is_in xs n) → rank xs n < length xs)
        → length (cons_if b x (keep (λ m. ltb m n) xs)) < suc (length xs)
    go true e (inl q) f = absurd (omega (arith, eqb→eq n x q, ltb→lt x n (eq_to_t e)))
    go true e (inr r) f = omega (arith, f r)
    go false e (inl q) f = omega (arith, keep_le (λ m. ltb m n) xs)
    go false e (inr r) f = omega (arith, f r)
