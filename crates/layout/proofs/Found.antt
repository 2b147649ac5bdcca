-- What `find` over a range finds, as the definitions' `first`. Assumes nothing.
use Rattle.std.proofs.Common.{◌≡◌, ℕ, ◌≤◌, ◌<◌, Bool, true, false, arith, Option, Some, None}
use Rattle.std.specs.Prelude.{unwrap_or, MatchOption}
use Rattle.lists.specs.Lists.{range, first}
use Rattle.lists.proofs.Firsts.{first_found, first_missing}

module _ (p : ℕ → Bool) (n : ℕ) where
  -- the first below n that passes, if there is one
  abbrev pub Found : Option ℕ → Type 0
  Found r =
      MatchOption r ((k : ℕ) → 0 ≤ k → k < n → p k ≡ false)
      (λ i. (0 ≤ i) × (i < n) × (p i ≡ true) × ((k : ℕ) → 0 ≤ k → k < i → p k ≡ false))

  pub found_first : (r : Option ℕ) → Found r → unwrap_or r n ≡ first p n (range 0 n)
  found_first None h = first_missing p n (λ k l. h k (omega arith) l)
  found_first (Some i) h = first_found p n i h.1 (λ k l. h.3 k (omega arith) l) h.2
