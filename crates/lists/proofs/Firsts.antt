-- The first that passes: what comes before it, that it passes, and when two tests have the same first. Assumes nothing.
use mathlib.Core.Path.{◌≡◌, refl, sym, ap, ◌∙◌}
use mathlib.Core.Bool.{Bool, true, false, cond}
use Prim.Native.Nat.{ℕ, zero, suc, ◌+◌, ◌<◌}
use native.Mathlib.Omega.{arith}
use native.Mathlib.Nat.{zero-add}
use borrow.Author.Count.{below_none, below_more}
use Rattle.lists.specs.Lists.{range, first}
use Rattle.lists.proofs.Runs.{first_at, first_none}

-- what comes before it does not pass
before_from : (p : ℕ → Bool) (d i n : ℕ) → i + n ≡ d → ((k : ℕ) → k < i → p k ≡ false) → (k : ℕ) → k < first p d (range i n) → p k ≡ false
before_from p d i zero e f k h = f k (omega arith)
before_from p d i (suc n) e f k h =
    go (p i) refl h (λ q g. before_from p d (suc i) n (omega arith) (λ k l. below_more (λ k. p k ≡ false) i f q k (omega arith)) k g)
  where
    go : (b : Bool) → p i ≡ b → k < cond b i (first p d (range (suc i) n))
        → (p i ≡ false → k < first p d (range (suc i) n) → p k ≡ false) → p k ≡ false
    go true q h r = f k h
    go false q h r = r q h

pub first_before : (p : ℕ → Bool) (n k : ℕ) → k < first p n (range 0 n) → p k ≡ false
first_before p n k h = before_from p n 0 n (omega arith) (below_none (λ k. p k ≡ false)) k h

-- it is the number that passes and before which none does, or none of the run
pub first_found : (p : ℕ → Bool) (n i : ℕ) → i < n → ((k : ℕ) → k < i → p k ≡ false) → p i ≡ true → i ≡ first p n (range 0 n)
first_found p n i h good bad = sym (first_at p n 0 n i (omega arith) (omega arith) (λ k g l. good k l) bad)

pub first_missing : (p : ℕ → Bool) (n : ℕ) → ((k : ℕ) → k < n → p k ≡ false) → n ≡ first p n (range 0 n)
first_missing p n good = sym (first_none p n 0 n (λ k g l. good k (omega arith)))

-- where it is one of the run, it passes
pub first_holds : (p : ℕ → Bool) (d i n : ℕ) → first p d (range i n) < d → p (first p d (range i n)) ≡ true
first_holds p d i zero h = absurd (omega arith)
first_holds p d i (suc n) h = go (p i) refl h (λ g. first_holds p d (suc i) n g)
  where
    go : (b : Bool) → p i ≡ b → cond b i (first p d (range (suc i) n)) < d
        → (first p d (range (suc i) n) < d → p (first p d (range (suc i) n)) ≡ true) → p (cond b i (first p d (range (suc i) n))) ≡ true
    go true q h f = q
    go false q h f = f h

-- two tests that agree at each number before which the first of them passes nowhere
agree_from : (p q : ℕ → Bool) (d i n : ℕ) → i + n ≡ d → ((j : ℕ) → j < d → ((k : ℕ) → k < j → p k ≡ false) → p j ≡ q j)
    → ((k : ℕ) → k < i → p k ≡ false) → first p d (range i n) ≡ first q d (range i n)
agree_from p q d i zero e f h = refl
agree_from p q d i (suc n) e f h =
    let same = f i (omega arith) h in
    ap (λ (b : Bool). cond b i (first p d (range (suc i) n))) same
    ∙ go (q i)
    (λ g. agree_from p q d (suc i) n (omega arith) f (λ k l. below_more (λ k. p k ≡ false) i h (same ∙ g) k (omega arith)))
    refl
  where
    go : (b : Bool) → (q i ≡ false → first p d (range (suc i) n) ≡ first q d (range (suc i) n)) → q i ≡ b
        → cond b i (first p d (range (suc i) n)) ≡ cond b i (first q d (range (suc i) n))
    go true r g = refl
    go false r g = r g

pub first_agree : (p q : ℕ → Bool) (n : ℕ) → ((j : ℕ) → j < n → ((k : ℕ) → k < j → p k ≡ false) → p j ≡ q j)
    → first p n (range 0 n) ≡ first q n (range 0 n)
first_agree p q n f = agree_from p q n 0 n (zero-add n) f (below_none (λ k. p k ≡ false))
