-- A word of octal digits: what its digits are, by a test at each. Assumes nothing.
use mathlib.Core.Path.{◌≡◌, ◌∙◌}
use Prim.Native.Nat.{ℕ, ◌<◌}
use lib.Dec.{T, eqb, eqb→eq}
use Rattle.lists.proofs.Computed.{upto, upto_at}
use Rattle.sides.specs.Pattern.{digit_of}

-- the first n digits of a word are f's
pub digit_is : (w n : ℕ) (f : ℕ → ℕ) (r i : ℕ) → r ≡ digit_of w i → i < n → T (upto n (λ i. eqb (digit_of w i) (f i))) → r ≡ f i
digit_is w n f r i e h t = e ∙ eqb→eq (digit_of w i) (f i) (upto_at n (λ i. eqb (digit_of w i) (f i)) t i h)
