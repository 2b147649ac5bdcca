-- How many bits a word has is how many places pass. Assumes nothing.
use mathlib.Core.Path.{◌≡◌, refl, sym, ap, ap₂, ◌∙◌}
use mathlib.Core.Bool.{Bool, true, false}
use mathlib.Core.List.{List}
use Prim.Native.Nat.{ℕ, zero, suc, ◌+◌, ◌*◌, ◌/◌, ◌%◌, ◌^◌, ◌<◌}
use native.Mathlib.Omega.{arith}
use native.Mathlib.Nat.{zero-add}
use lib.Count.{ones, ones_step}
use lib.ListN.{length}
use Rattle.lists.specs.Lists.{range, cons_if, keep, count}
use Rattle.paper.specs.Sheet.{weight}
use Rattle.bits.specs.Words.{bit, word}
use Rattle.bits.proofs.Bits.{side_le, word_ext, word_is}

-- of the tests from i on
pub ones_from : (f : ℕ → Bool) (i n : ℕ) → ones (word (λ x. f (i + x)) n) ≡ count f (range i n)
unfolding word ones
ones_from f i zero = refl
ones_from f i (suc n) =
    let w = word (λ x. f (i + suc x)) n in
    let b = f (i + 0) in
    let low : (weight b 1 + 2 * w) % 2 ≡ weight b 1 = omega (arith, side_le b) in
    let high : (weight b 1 + 2 * w) / 2 ≡ w = omega (arith, side_le b) in
    let e : i + 0 ≡ i = omega arith in
    ones_step (weight b 1 + 2 * w)
    ∙ (ap₂ (λ (d v : ℕ). d + ones v) low high
    ∙ (ap₂ (λ (c : Bool) (k : ℕ). weight c 1 + k) (ap f e)
    (ap ones (word_ext (λ x. f (i + suc x)) (λ x. f (suc i + x)) n (λ x l. ap f (omega arith))) ∙ ones_from f (suc i) n)
    ∙ go (f i) (keep f (range (suc i) n))))
  where
    go : (c : Bool) (l : List ℕ) → weight c 1 + length l ≡ length (cons_if c i l)
    go true l = omega arith
    go false l = omega arith

-- of a word made of tests, and of any word of n bits
pub ones_word : (f : ℕ → Bool) (n : ℕ) → ones (word f n) ≡ count f (range 0 n)
ones_word f n = ap ones (word_ext f (λ x. f (0 + x)) n (λ x l. ap f (sym (zero-add x)))) ∙ ones_from f 0 n

pub ones_bits : (w n : ℕ) → w < 2 ^ n → ones w ≡ count (bit w) (range 0 n)
ones_bits w n h = ap ones (word_is w n (bit w) h (λ x l. refl)) ∙ ones_word (bit w) n
