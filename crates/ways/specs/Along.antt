-- The places of a row that open gates lead to. Assumes nothing.
use Rattle.std.specs.Prelude.{ℕ, suc, ◌<◌}
use Rattle.bits.specs.Words.{On}

-- from those of `from`: place x + 1 of `gate` joins x and x + 1
pub data Along (from gate : ℕ) : ℕ → Type 0 where
  begun : {x : ℕ} → On from x → Along from gate x
  up : {x : ℕ} → Along from gate x → On gate (suc x) → suc x < 64 → Along from gate (suc x)
  down : {x : ℕ} → Along from gate (suc x) → On gate (suc x) → suc x < 64 → Along from gate x

-- w holds exactly these
pub record Filled (from gate w : ℕ) : Type 0 where
  pub within : (x : ℕ) → x < 64 → On w x → Along from gate x
  pub whole : (x : ℕ) → x < 64 → Along from gate x → On w x
