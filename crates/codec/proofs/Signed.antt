-- Signed 32-bit numbers as bits, and back. Assumes nothing.
use mathlib.Core.Path.{◌≡◌, refl, ap, ◌∙◌}
use Prim.Native.Nat.{ℕ, suc, ◌+◌, ◌-◌, ◌%◌, ◌<◌, ◌≤◌}
use native.Mathlib.Omega.{arith}
use borrow.Author.Tests.{le-ltb, lt-ltb}
use lib.Dec.{ltb}
use mathlib.Core.Bool.{Bool, true, false, cond}
use lib.IntN.{ℤ, pos, negsuc, ◌+ℤ◌}
use mir.Syntax.{w16, w32}
use mir.Val.{SFits, of_z, to_z, sel}
use Rattle.lists.specs.Bytes.{signed}
use Rattle.paper.specs.File.{bits32, signed32}
use Rattle.codec.specs.Words.{bits16}

-- x and 2 ^ 32, which is not negative
unfoldable pub raised : ℤ → ℕ
raised (pos n) = n + 4294967296
raised (negsuc n) = 4294967295 - n

pub raised_is : (x : ℤ) → SFits w32 x → x +ℤ pos 4294967296 ≡ pos (raised x)
unfolding raised
raised_is (pos n) f = refl
raised_is (negsuc n) f = rw (le-ltb 4294967296 (suc n) (omega (arith, f.sfits))) (ap pos (omega arith))

pub raised_small : (x : ℤ) → SFits w32 x → raised x < 8589934592
unfolding raised
raised_small (pos n) f = omega (arith, f.sfits)
raised_small (negsuc n) f = omega arith

pub raised_bits : (x : ℤ) → SFits w32 x → raised x % 4294967296 ≡ bits32 x
unfolding raised bits32
raised_bits (pos n) f = omega (arith, f.sfits)
raised_bits (negsuc n) f = omega arith

-- the machine's bits of a signed number, and the signed number that its bits are
pub halves_are : (x : ℤ) → of_z w16 x ≡ bits16 x
unfolding bits16
halves_are (pos n) = refl
halves_are (negsuc n) = omega arith

pub bits_are : (x : ℤ) → of_z w32 x ≡ bits32 x
unfolding bits32
bits_are (pos n) = refl
bits_are (negsuc n) = omega arith

pub half_is : (n : ℕ) → to_z w16 n ≡ signed 32768 n
unfolding signed
half_is n = go (ltb n 32768)
  where
    go : (b : Bool) → sel b (pos n) (negsuc (65536 - suc n)) ≡ cond b (pos n) (negsuc (65535 - n))
    go true = refl
    go false = ap negsuc (omega arith)

pub word_is : (n : ℕ) → to_z w32 n ≡ signed32 n
unfolding signed
word_is n = go (ltb n 2147483648)
  where
    go : (b : Bool) → sel b (pos n) (negsuc (4294967296 - suc n)) ≡ cond b (pos n) (negsuc (4294967295 - n))
    go true = refl
    go false = ap negsuc (omega arith)

pub bits_small : (x : ℤ) → SFits w32 x → bits32 x < 4294967296
unfolding bits32
bits_small (pos n) f = omega (arith, f.sfits)
bits_small (negsuc n) f = omega arith

-- at any width
pub signed_low : (half b : ℕ) → b < half → signed half b ≡ pos b
unfolding signed
signed_low half b h = rw (lt-ltb b half h)

pub signed_high : (half b : ℕ) → half ≤ b → signed half b ≡ negsuc (half + half - 1 - b)
unfolding signed
signed_high half b h = rw (le-ltb b half h)

-- every signed number comes back from its bits
pub signed_bits : (x : ℤ) → SFits w32 x → signed32 (bits32 x) ≡ x
unfolding bits32
signed_bits (pos n) f = signed_low 2147483648 n (omega (arith, f.sfits))
signed_bits (negsuc n) f = signed_high 2147483648 (4294967295 - n) (omega (arith, f.sfits)) ∙ ap negsuc (omega (arith, f.sfits))

-- and all bits from their signed number
pub bits_signed : (b : ℕ) → b < 4294967296 → bits32 (signed32 b) ≡ b
unfolding bits32 signed
bits_signed b h = go (ltb b 2147483648)
  where
    go : (t : Bool) → bits32 (cond t (pos b) (negsuc (4294967295 - b))) ≡ b
    go true = refl
    go false = omega arith
