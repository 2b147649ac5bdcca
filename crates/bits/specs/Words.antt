-- Numbers as words of bits, and as the sets of places whose bit is 1. Assumes nothing.
use Rattle.std.specs.Prelude.{Bool, false, ℕ, zero, suc, ◌+◌, ◌-◌, ◌*◌, ◌/◌, ◌%◌, ◌^◌, T, eqb}
use Rattle.std.specs.Int.Bits.{bit_and}
use Rattle.paper.specs.Sheet.{weight}

-- bit x of a word
unfoldable pub bit : ℕ → ℕ → Bool
bit w x = eqb (w / 2 ^ x % 2) 1

-- place x is in a word
abbrev pub On : ℕ → ℕ → Type 0
On w x = T (bit w x)

-- the word whose bit x is f x for each x below n, and 0 from there on
unfoldable pub word : (ℕ → Bool) → ℕ → ℕ
word f zero = 0
word f (suc n) = weight (f 0) 1 + 2 * word (λ x. f (suc x)) n

-- bit x + d and bit x - d of a word, d being 0 or 1
abbrev pub raised : ℕ → ℕ → ℕ → Bool
raised w zero x = bit w x
raised w (suc d) x = bit w (x + 1)

abbrev pub lowered : ℕ → ℕ → ℕ → Bool
lowered w zero x = bit w x
lowered w (suc d) zero = false
lowered w (suc d) (suc x) = bit w x

-- `a & !b` of words of 64 bits: the places of a that are none of b's
abbrev pub less : ℕ → ℕ → ℕ
less a b = bit_and a (2 ^ 64 - 1 - b)

-- the sum of f x over each x below n
unfoldable pub total : (ℕ → ℕ) → ℕ → ℕ
total f zero = 0
total f (suc n) = f 0 + total (λ x. f (suc x)) n
