-- Laws of words of bits, over any width. Assumes nothing.
use mathlib.Core.Path.{◌≡◌, refl, sym, ap, ap₂, subst, ◌∙◌}
use mathlib.Core.Bool.{Bool, true, false, not, xor, ◌&&◌, ◌||◌}
use Prim.Native.Nat.{ℕ, zero, suc, ◌+◌, ◌-◌, ◌*◌, ◌/◌, ◌%◌, ◌^◌, ◌≤◌, ◌<◌}
use native.Mathlib.Omega.{arith}
use native.Mathlib.Nat.{mod-lt, div-one, mod-one, pow-suc, mod-eq_of_lt, mul_assoc, add_comm, zero-add, pow-succ'}
use native.Mathlib.Decide.{dec_lt}
use lib.Arith.{mod-mul, lt-one}
use lib.Bits.{bit_and, bit_or, bit_xor, and_shr, or_shr, xor_shr, and_mod, or_mod, xor_mod, and_mask}
use lib.Dec.{T, eqb, ltb, eqb-zero-suc, eqb-suc-zero, eqb-suc-suc}
use borrow.Author.Tests.{lt-ltb, le-ltb}
use lib.Pow.{pow_pos, shr-shr, shl_exact}
use Rattle.paper.specs.Sheet.{weight}
use Rattle.bits.specs.Words.{bit, word, lowered}

-- ── one bit ──

two_digits : (P : ℕ → Type 0) → P 0 → P 1 → (d : ℕ) → d < 2 → P d
two_digits P a b zero h = a
two_digits P a b (suc zero) h = b
two_digits P a b (suc (suc d)) h = absurd (omega arith)

-- what a bit adds
pub bit_weight : (w x : ℕ) → weight (bit w x) 1 ≡ w / 2 ^ x % 2
unfolding bit
bit_weight w x = two_digits (λ d. weight (eqb d 1) 1 ≡ d) refl refl (w / 2 ^ x % 2) (mod-lt (w / 2 ^ x) (omega arith))

pub bit_zero : (w : ℕ) → bit w 0 ≡ eqb (w % 2) 1
unfolding bit
bit_zero w = ap (λ (n : ℕ). eqb (n % 2) 1) (div-one w)

-- a shift down moves the bits down
pub bit_shr : (w k x : ℕ) → bit (w / 2 ^ k) x ≡ bit w (k + x)
unfolding bit
bit_shr w k x = ap (λ (n : ℕ). eqb (n % 2) 1) (shr-shr w k x)

pub bit_half : (w x : ℕ) → bit (w / 2) x ≡ bit w (x + 1)
bit_half w x = bit_shr w 1 x ∙ ap (bit w) (add_comm 1 x)

pub bit_suc : (w x : ℕ) → bit w (suc x) ≡ bit (w / 2) x
bit_suc w x = sym (bit_half w x ∙ ap (bit w) (omega arith))

pub bit_of_0 : (x : ℕ) → bit 0 x ≡ false
bit_of_0 zero = bit_zero 0
bit_of_0 (suc x) = bit_suc 0 x ∙ bit_of_0 x

-- two bits
pub bit_pair : (w x : ℕ) → w / 2 ^ x % 4 ≡ weight (bit w x) 1 + 2 * weight (bit w (x + 1)) 1
bit_pair w x = omega (arith, bit_weight w x, bit_weight w (x + 1), ap (λ (n : ℕ). n % 2) (shr-shr w x 1))

-- ── the bits of and, or, xor ──

module _ (op : ℕ → ℕ → ℕ) (f : Bool → Bool → Bool)
    (shr : (a b k : ℕ) → op a b / 2 ^ k ≡ op (a / 2 ^ k) (b / 2 ^ k))
    (low : (a b k : ℕ) → op a b % 2 ^ k ≡ op (a % 2 ^ k) (b % 2 ^ k))
    (digit : (a b : ℕ) → a < 2 → b < 2 → eqb (op a b) 1 ≡ f (eqb a 1) (eqb b 1)) where
  bit_op : (a b x : ℕ) → bit (op a b) x ≡ f (bit a x) (bit b x)
  unfolding bit
  bit_op a b x =
      ap (λ (n : ℕ). eqb (n % 2) 1) (shr a b x)
      ∙ ap (λ (n : ℕ). eqb n 1) (low (a / 2 ^ x) (b / 2 ^ x) 1)
      ∙ digit (a / 2 ^ x % 2) (b / 2 ^ x % 2) (mod-lt (a / 2 ^ x) (omega arith)) (mod-lt (b / 2 ^ x) (omega arith))

pub bit_and_law : (a b x : ℕ) → bit (bit_and a b) x ≡ (bit a x && bit b x)
bit_and_law =
    bit_op bit_and ◌&&◌ and_shr and_mod
    (λ a b ha hb. two_digits (λ a. eqb (bit_and a b) 1 ≡ (eqb a 1 && eqb b 1))
    refl (two_digits (λ b. eqb (bit_and 1 b) 1 ≡ eqb b 1) refl refl b hb) a ha)

pub bit_or_law : (a b x : ℕ) → bit (bit_or a b) x ≡ (bit a x || bit b x)
bit_or_law =
    bit_op bit_or ◌||◌ or_shr or_mod
    (λ a b ha hb. two_digits (λ a. eqb (bit_or a b) 1 ≡ (eqb a 1 || eqb b 1))
    refl (two_digits (λ b. eqb (bit_or 1 b) 1 ≡ true) refl refl b hb) a ha)

pub bit_xor_law : (a b x : ℕ) → bit (bit_xor a b) x ≡ xor (bit a x) (bit b x)
unfolding xor
bit_xor_law =
    bit_op bit_xor xor xor_shr xor_mod
    (λ a b ha hb. two_digits (λ a. eqb (bit_xor a b) 1 ≡ xor (eqb a 1) (eqb b 1))
    (two_digits (λ b. eqb (bit_xor 0 b) 1 ≡ xor false (eqb b 1)) refl refl b hb)
    (two_digits (λ b. eqb (bit_xor 1 b) 1 ≡ xor true (eqb b 1)) refl refl b hb) a ha)

-- ── words by their bits ──

pub side_le : (b : Bool) → weight b 1 ≤ 1
side_le true = omega arith
side_le false = omega arith

side_eqb : (b : Bool) → eqb (weight b 1) 1 ≡ b
side_eqb true = refl
side_eqb false = refl

pub word_lt : (f : ℕ → Bool) (n : ℕ) → word f n < 2 ^ n
unfolding word
word_lt f zero = omega arith
word_lt f (suc n) = omega (arith, word_lt (λ x. f (suc x)) n, side_le (f 0), pow-suc 2 n)

pub word_ext : (f g : ℕ → Bool) (n : ℕ) → ((x : ℕ) → x < n → f x ≡ g x) → word f n ≡ word g n
unfolding word
word_ext f g zero h = refl
word_ext f g (suc n) h =
    ap₂ (λ (b : Bool) (w : ℕ). weight b 1 + 2 * w) (h 0 (omega arith))
    (word_ext (λ x. f (suc x)) (λ x. g (suc x)) n (λ x l. h (suc x) (omega arith)))

pub bit_word : (f : ℕ → Bool) (n x : ℕ) → x < n → bit (word f n) x ≡ f x
unfolding word
bit_word f zero x h = absurd (omega arith)
bit_word f (suc n) zero h =
    let e : (weight (f 0) 1 + 2 * word (λ x. f (suc x)) n) % 2 ≡ weight (f 0) 1 = omega (arith, side_le (f 0)) in
    bit_zero _ ∙ ap (λ (d : ℕ). eqb d 1) e ∙ side_eqb (f 0)
bit_word f (suc n) (suc x) h =
    let e : (weight (f 0) 1 + 2 * word (λ x. f (suc x)) n) / 2 ≡ word (λ x. f (suc x)) n = omega (arith, side_le (f 0)) in
    bit_suc _ x ∙ ap (λ (w : ℕ). bit w x) e ∙ bit_word (λ x. f (suc x)) n x (omega arith)

-- a word in two parts: the low m bits, and those from there on
pub word_join : (f : ℕ → Bool) (m n : ℕ) → word f (m + n) ≡ word f m + 2 ^ m * word (λ x. f (m + x)) n
unfolding word
word_join f zero n =
    ap (word f) (zero-add n) ∙ (word_ext f (λ x. f (0 + x)) n (λ x l. ap f (sym (zero-add x))) ∙ omega arith)
word_join f (suc m) n =
    let g : ℕ → Bool = λ x. f (suc x) in
    let e : suc m + n ≡ suc (m + n) = omega arith in
    let w : word (λ x. g (m + x)) n ≡ word (λ x. f (suc m + x)) n = word_ext (λ x. g (m + x)) (λ x. f (suc m + x)) n
    (λ x l. ap f (omega arith)) in
    let r : word g (m + n) ≡ word g m + 2 ^ m * word (λ x. f (suc m + x)) n = word_join g m n ∙ ap (λ (v : ℕ). word g m + 2 ^ m * v) w in
    let p : 2 ^ suc m * word (λ x. f (suc m + x)) n ≡ 2 * (2 ^ m * word (λ x. f (suc m + x)) n) =
    ap (λ (k : ℕ). k * word (λ x. f (suc m + x)) n) (pow-succ' 2 m) ∙ mul_assoc 2 (2 ^ m) (word (λ x. f (suc m + x)) n) in
    ap (word f) e ∙ omega arith

-- a word has no bit at or above its width
pub bit_high : (w n x : ℕ) → w < 2 ^ n → n ≤ x → bit w x ≡ false
bit_high w zero x h l = ap (λ (w : ℕ). bit w x) (lt-one h) ∙ bit_of_0 x
bit_high w (suc n) zero h l = absurd (omega arith)
bit_high w (suc n) (suc x) h l =
    let u : w / 2 < 2 ^ n = omega (arith, pow-suc 2 n) in
    bit_suc w x ∙ bit_high (w / 2) n x u (omega arith)

pub bit_lt : (w n x : ℕ) → w < 2 ^ n → T (bit w x) → x < n
bit_lt w n x h t = go (dec_lt x n)
  where
    go : Dec (x < n) → x < n
    go (yes l) = l
    go (no l) = absurd (subst T (bit_high w n x h (omega arith)) t)

-- any bit of a word that is made of tests
pub bit_inner : (f : ℕ → Bool) (n x : ℕ) → bit (word f n) x ≡ (ltb x n && f x)
bit_inner f n x = go (dec_lt x n)
  where
    go : Dec (x < n) → bit (word f n) x ≡ (ltb x n && f x)
    go (yes l) = bit_word f n x l ∙ ap (λ (b : Bool). b && f x) (sym (lt-ltb x n l))
    go (no l) = bit_high (word f n) n x (word_lt f n) (omega arith) ∙ ap (λ (b : Bool). b && f x) (sym (le-ltb x n (omega arith)))

-- the low n bits of a word
pub word_bits : (w n : ℕ) → w % 2 ^ n ≡ word (bit w) n
unfolding word
word_bits w zero = mod-one w
word_bits w (suc n) =
    let m : w % 2 ^ suc n ≡ w / 2 % 2 ^ n * 2 + w % 2 = ap (λ (k : ℕ). w % k) (pow-suc 2 n) ∙ mod-mul w (pow_pos n) (omega arith) in
    let d : weight (bit w 0) 1 ≡ w % 2 = bit_weight w 0 ∙ ap (λ (k : ℕ). k % 2) (div-one w) in
    let r : w / 2 % 2 ^ n ≡ word (λ x. bit w (suc x)) n = word_bits (w / 2) n
    ∙ word_ext (bit (w / 2)) (λ x. bit w (suc x)) n (λ x l. sym (bit_suc w x)) in
    omega arith

pub masked : (w n : ℕ) → bit_and w (2 ^ n - 1) ≡ word (bit w) n
masked w n = and_mask w n ∙ word_bits w n

-- a shift up by one moves the bits up
double_bit : (w x : ℕ) → bit (w * 2) x ≡ lowered w 1 x
double_bit w zero = let e : w * 2 % 2 ≡ 0 = omega arith in bit_zero (w * 2) ∙ ap (λ (d : ℕ). eqb d 1) e
double_bit w (suc x) = let e : w * 2 / 2 ≡ w = omega arith in bit_suc (w * 2) x ∙ ap (λ (w : ℕ). bit w x) e

pub bit_up : (n w x : ℕ) → x < n → bit (w * 2 % 2 ^ n) x ≡ lowered w 1 x
bit_up n w x h = ap (λ (w : ℕ). bit w x) (word_bits (w * 2) n) ∙ (bit_word (bit (w * 2)) n x h ∙ double_bit w x)

-- a word's complement has the other bits
pub bit_not : (w n x : ℕ) → w < 2 ^ n → x < n → bit (2 ^ n - 1 - w) x ≡ not (bit w x)
bit_not w zero x h l = absurd (omega arith)
bit_not w (suc n) zero h l =
    let e : (2 ^ suc n - 1 - w) % 2 ≡ 1 - w % 2 = omega (arith, pow-suc 2 n) in
    bit_zero (2 ^ suc n - 1 - w)
    ∙ (ap (λ (d : ℕ). eqb d 1) e
    ∙ (two_digits (λ d. eqb (1 - d) 1 ≡ not (eqb d 1)) refl refl (w % 2) (mod-lt w (omega arith)) ∙ ap not (sym (bit_zero w))))
bit_not w (suc n) (suc x) h l =
    let e : (2 ^ suc n - 1 - w) / 2 ≡ 2 ^ n - 1 - w / 2 = omega (arith, pow-suc 2 n) in
    let k : w / 2 < 2 ^ n = omega (arith, pow-suc 2 n) in
    bit_suc (2 ^ suc n - 1 - w) x ∙ (ap (λ (v : ℕ). bit v x) e ∙ (bit_not (w / 2) n x k (omega arith) ∙ ap not (sym (bit_suc w x))))

-- a power of two has one bit
pub bit_pow : (x k : ℕ) → bit (2 ^ x) k ≡ eqb x k
bit_pow zero zero = bit_zero 1
bit_pow zero (suc k) = bit_suc 1 k ∙ (bit_of_0 k ∙ sym (eqb-zero-suc k))
bit_pow (suc x) zero = ap (λ (w : ℕ). bit w 0) (pow-suc 2 x) ∙ (double_bit (2 ^ x) 0 ∙ sym (eqb-suc-zero x))
bit_pow (suc x) (suc k) = ap (λ (w : ℕ). bit w (suc k)) (pow-suc 2 x) ∙ (double_bit (2 ^ x) (suc k) ∙ (bit_pow x k ∙ sym (eqb-suc-suc x k)))

-- `1 << x`
pub shifted_one : (x : ℕ) → x < 64 → 1 * 2 ^ x % 2 ^ 64 ≡ 2 ^ x
shifted_one x h = shl_exact 1 x 64 (omega arith) (omega arith) ∙ omega arith

-- a word of n bits is told by them
pub word_is : (w n : ℕ) (f : ℕ → Bool) → w < 2 ^ n → ((x : ℕ) → x < n → bit w x ≡ f x) → w ≡ word f n
word_is w n f h e = sym (mod-eq_of_lt h) ∙ word_bits w n ∙ word_ext (bit w) f n e

pub word_same : (v w n : ℕ) → v < 2 ^ n → w < 2 ^ n → ((x : ℕ) → x < n → bit v x ≡ bit w x) → v ≡ w
word_same v w n h l e = word_is v n (bit w) h e ∙ sym (word_is w n (bit w) l (λ x k. refl))
