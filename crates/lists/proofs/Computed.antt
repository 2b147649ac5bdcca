-- Tests that antt computes over a whole range, and the rule at each of its points. Assumes nothing.
use mathlib.Core.Path.{◌≡◌, refl, subst}
use mathlib.Core.Bool.{Bool, true, false, ◌&&◌}
use Prim.Native.Nat.{ℕ, zero, suc, ◌<◌}
use native.Mathlib.Omega.{arith}
use native.Mathlib.Decide.{dec_lt}
use lib.Dec.{T}
use Rattle.lists.proofs.Member.{and_left, and_right}

-- at every number below n
abbrev pub upto : ℕ → (ℕ → Bool) → Bool
upto zero f = true
upto (suc n) f = f n && upto n f

pub upto_at : (n : ℕ) (f : ℕ → Bool) → T (upto n f) → (k : ℕ) → k < n → T (f k)
upto_at zero f t k h = absurd (omega arith)
upto_at (suc n) f t k h = go (λ l. upto_at n f (and_right (f n) (upto n f) t) k l) (dec_lt k n)
  where
    go : (k < n → T (f k)) → Dec (k < n) → T (f k)
    go below (yes l) = below l
    go below (no l) = let e : n ≡ k = omega arith in subst (λ (m : ℕ). T (f m)) e (and_left (f n) (upto n f) t)

-- at both sides, at six sides and at eight
abbrev pub both : (Bool → Bool) → Bool
both f = f true && f false

pub both_at : (f : Bool → Bool) → T (both f) → (b : Bool) → T (f b)
both_at f t true = and_left (f true) (f false) t
both_at f t false = and_right (f true) (f false) t

abbrev pub Test6 : Type 0
Test6 = Bool → Bool → Bool → Bool → Bool → Bool → Bool

abbrev pub every6 : Test6 → Bool
every6 f = both λ c. both λ d. both λ e. both λ g. both λ h. both λ i. f c d e g h i

pub every6_at : (f : Test6) → T (every6 f) → (c d e g h i : Bool) → T (f c d e g h i)
every6_at f t c d e g h i =
    both_at (λ i. f c d e g h i)
    (both_at (λ h. both λ i. f c d e g h i)
    (both_at (λ g. both λ h. both λ i. f c d e g h i)
    (both_at (λ e. both λ g. both λ h. both λ i. f c d e g h i)
    (both_at (λ d. both λ e. both λ g. both λ h. both λ i. f c d e g h i)
    (both_at (λ c. both λ d. both λ e. both λ g. both λ h. both λ i. f c d e g h i) t c) d) e) g) h) i

abbrev pub Test8 : Type 0
Test8 = Bool → Bool → Test6

abbrev pub every8 : Test8 → Bool
every8 f = both λ a. both λ b. every6 (f a b)

pub every8_at : (f : Test8) → T (every8 f) → (a b c d e g h i : Bool) → T (f a b c d e g h i)
every8_at f t a b = every6_at (f a b) (both_at (λ b. every6 (f a b)) (both_at (λ a. both λ b. every6 (f a b)) t a) b)

-- six cases
pub below6 : (P : ℕ → Type 0) → P 0 → P 1 → P 2 → P 3 → P 4 → P 5 → (k : ℕ) → k < 6 → P k
below6 P a b c d e g zero h = a
below6 P a b c d e g (suc zero) h = b
below6 P a b c d e g (suc (suc zero)) h = c
below6 P a b c d e g (suc (suc (suc zero))) h = d
below6 P a b c d e g (suc (suc (suc (suc zero)))) h = e
below6 P a b c d e g (suc (suc (suc (suc (suc zero))))) h = g
below6 P a b c d e g (suc (suc (suc (suc (suc (suc k)))))) h = absurd (omega arith)

-- none of five is the sixth
pub sixth : (k : ℕ) → k < 6 → (k ≡ 0 → ⊥) → (k ≡ 1 → ⊥) → (k ≡ 2 → ⊥) → (k ≡ 3 → ⊥) → (k ≡ 4 → ⊥) → k ≡ 5
sixth zero h a b c d e = absurd (a refl)
sixth (suc zero) h a b c d e = absurd (b refl)
sixth (suc (suc zero)) h a b c d e = absurd (c refl)
sixth (suc (suc (suc zero))) h a b c d e = absurd (d refl)
sixth (suc (suc (suc (suc zero)))) h a b c d e = absurd (e refl)
sixth (suc (suc (suc (suc (suc k))))) h a b c d e = omega arith

-- at every pair of numbers below m and n
abbrev pub grid : ℕ → ℕ → (ℕ → ℕ → Bool) → Bool
grid m n f = upto m (λ i. upto n (f i))

pub grid_at : (m n : ℕ) (f : ℕ → ℕ → Bool) → T (grid m n f) → (i j : ℕ) → i < m → j < n → T (f i j)
grid_at m n f t i j hi hj = upto_at n (f i) (upto_at m (λ i. upto n (f i)) t i hi) j hj
