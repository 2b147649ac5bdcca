-- Document 01, "Refusal numbers": tests in order. Assumes nothing.
use Rattle.std.specs.Prelude.{Bool, cond, List, [], ◌∷◌, ℕ}
use Rattle.paper.specs.declared.Verdict.{Verdict}

abbrev pub verdict : ℕ → ℕ → Verdict
verdict n p = record { number = n; place = p }

-- a test: whether it is passed, and the number and place that it gives where it is not
pub record Test : Type 0 where
  pub passed : Bool
  pub otherwise : Verdict

abbrev pub test : ℕ → Bool → Test
test n b = record { passed = b; otherwise = verdict n 0 }

-- "Numbers 15, 17 and 18 also return the first such record, 0-based; elsewhere the place is 0."
abbrev pub test_at : ℕ → ℕ → Bool → Test
test_at n p b = record { passed = b; otherwise = verdict n p }

-- "The first test that fails gives the number.", "Success is 0."
abbrev pub judge : List Test → Verdict
judge [] = verdict 0 0
judge (t ∷ ts) = cond t.passed (judge ts) t.otherwise
