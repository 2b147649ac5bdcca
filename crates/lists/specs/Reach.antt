-- What steps lead to from a start: as a meaning, and as a list that computes. Assumes nothing.
use Rattle.std.specs.Prelude.{List, [], ◌∷◌, ◌++◌, ℕ, zero, suc, T}
use Rattle.lists.specs.Lists.{range, keep, each, is_in}

-- the start, and with a thing whatever a step from it leads to
pub data Reach (next : ℕ → List ℕ) (start : ℕ) : ℕ → Type 0 where
  here : Reach next start start
  step : {j k : ℕ} → Reach next start j → T (is_in (next j) k) → Reach next start k

-- of n things: those in the list, and those that a step from one of them leads to
unfoldable pub grow : (ℕ → List ℕ) → ℕ → List ℕ → List ℕ
grow next n l = keep (is_in (l ++ each next l)) (range 0 n)

unfoldable pub rounds : (ℕ → List ℕ) → ℕ → ℕ → ℕ → List ℕ
rounds next n start zero = keep (is_in (start ∷ [])) (range 0 n)
rounds next n start (suc i) = grow next n (rounds next n start i)

-- of n things, those that are reached, by rising number: they are reached in n rounds or never
unfoldable pub reached : (ℕ → List ℕ) → ℕ → ℕ → List ℕ
reached next n start = rounds next n start n
