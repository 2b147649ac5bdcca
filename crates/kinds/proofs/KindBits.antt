-- The words of kinds, by their bits. Assumes nothing.
use mathlib.Core.Path.{◌≡◌, refl, sym, ap, ap₂, ◌∙◌}
use mathlib.Core.Bool.{Bool, false, xor, ◌&&◌, ◌||◌, or-false, or_assoc}
use Prim.Native.Nat.{ℕ, ◌*◌, ◌/◌, ◌%◌, ◌^◌, ◌<◌}
use native.Mathlib.Nat.{mod-lt, lt_of_le_of_lt}
use lib.Bits.{bit_and, bit_or, bit_xor, and_le_r, or_lt}
use lib.Pow.{pow_pos}
use Rattle.paper.specs.Tables.{kinds}
use Rattle.paper.specs.Sheet.{ends_of}
use Rattle.rows.specs.declared.Quad.{Quad}
use Rattle.bits.specs.Words.{bit, word, lowered}
use Rattle.bits.proofs.Bits.{bit_half, bit_up, bit_and_law, bit_or_law, bit_xor_law, word_is}
use Rattle.rows.specs.Rows.{corner_bit}
use Rattle.kinds.specs.Kinds.{anchors, cube_bit, kind_bit}

-- one of these words has the bit
one_bit : (w x : ℕ) (a : Bool) → bit w x ≡ a → bit w x ≡ (a || false)
one_bit w x a e = e ∙ sym (or-false a)

two_bits : (v w x : ℕ) (a b : Bool) → bit v x ≡ a → bit w x ≡ b → bit (bit_or v w) x ≡ (a || (b || false))
two_bits v w x a b e f = bit_or_law v w x ∙ ap₂ ◌||◌ e (one_bit w x b f)

four_bits : (u v w y x : ℕ) (a b c d : Bool) → bit u x ≡ a → bit v x ≡ b → bit w x ≡ c → bit y x ≡ d
    → bit (bit_or (bit_or (bit_or u v) w) y) x ≡ (a || (b || (c || (d || false))))
four_bits u v w y x a b c d e f g h =
    bit_or_law (bit_or (bit_or u v) w) y x
    ∙ (ap₂ ◌||◌ (bit_or_law (bit_or u v) w x ∙ ap₂ ◌||◌ (bit_or_law u v x ∙ ap₂ ◌||◌ e f) g) (one_bit y x d h)
    ∙ (or_assoc (a || b) c (d || false) ∙ or_assoc a b (c || (d || false))))

-- the word of a kind: its ends' sides differ, and one of its cubes is visited
kind_word : (g : ℕ → Bool) (s t v : ℕ) → v < 2 ^ 64 → ((x : ℕ) → x < 64 → (xor (bit s x) (bit t x) && bit v x) ≡ g x)
    → bit_and (bit_xor s t) v ≡ word g 64
kind_word g s t v h e =
    word_is (bit_and (bit_xor s t) v) 64 g (lt_of_le_of_lt (and_le_r (bit_xor s t) v) h)
    (λ x l. bit_and_law (bit_xor s t) v x ∙ (ap (λ (b : Bool). b && bit v x) (bit_xor_law s t x) ∙ e x l))

-- v's words fit
pub record Fitting (v : Quad) : Type 0 where
  pub a : v.a < 2 ^ 64
  pub b : v.b < 2 ^ 64
  pub c : v.c < 2 ^ 64
  pub d : v.d < 2 ^ 64

module _ (f v : Quad) (l : Fitting v) where
  four_lt : (a b c d : ℕ) → a < 2 ^ 64 → b < 2 ^ 64 → c < 2 ^ 64 → d < 2 ^ 64 → bit_or (bit_or (bit_or a b) c) d < 2 ^ 64
  four_lt a b c d ha hb hc hd = or_lt 64 (bit_or (bit_or a b) c) d (or_lt 64 (bit_or a b) c (or_lt 64 a b ha hb) hc) hd

  up_lt : (w : ℕ) → w * 2 % 2 ^ 64 < 2 ^ 64
  up_lt w = mod-lt (w * 2) (pow_pos 64)

  -- the cubes at x and one before, in two rows
  both_rows : (w x : ℕ) → x < 64
      → bit (bit_or (bit_or (bit_or v.a (v.a * 2 % 2 ^ 64)) w) (w * 2 % 2 ^ 64)) x
      ≡ (bit v.a x || (lowered v.a 1 x || (bit w x || (lowered w 1 x || false))))
  both_rows w x h = four_bits v.a (v.a * 2 % 2 ^ 64) w (w * 2 % 2 ^ 64) x _ _ _ _ refl (bit_up 64 v.a x h) refl (bit_up 64 w x h)

  pub kind_0 : bit_and (bit_xor f.a (f.a / 2)) (bit_or (bit_or (bit_or v.a v.b) v.c) v.d) ≡ word (kind_bit f v 0) 64
  unfolding kind_bit corner_bit cube_bit ends_of kinds anchors
  kind_0 =
      kind_word (kind_bit f v 0) f.a (f.a / 2) _ (four_lt v.a v.b v.c v.d l.a l.b l.c l.d)
      (λ x h. ap₂ ◌&&◌ (ap (xor (bit f.a x)) (bit_half f.a x)) (four_bits v.a v.b v.c v.d x _ _ _ _ refl refl refl refl))

  pub kind_1 : bit_and (bit_xor f.a f.b) (bit_or (bit_or (bit_or v.a (v.a * 2 % 2 ^ 64)) v.c) (v.c * 2 % 2 ^ 64))
      ≡ word (kind_bit f v 1) 64
  unfolding kind_bit corner_bit cube_bit ends_of kinds anchors
  kind_1 =
      kind_word (kind_bit f v 1) f.a f.b _ (four_lt v.a _ v.c _ l.a (up_lt v.a) l.c (up_lt v.c))
      (λ x h. ap (λ (b : Bool). xor (bit f.a x) (bit f.b x) && b) (both_rows v.c x h))

  pub kind_2 : bit_and (bit_xor f.a f.c) (bit_or (bit_or (bit_or v.a (v.a * 2 % 2 ^ 64)) v.b) (v.b * 2 % 2 ^ 64))
      ≡ word (kind_bit f v 2) 64
  unfolding kind_bit corner_bit cube_bit ends_of kinds anchors
  kind_2 =
      kind_word (kind_bit f v 2) f.a f.c _ (four_lt v.a _ v.b _ l.a (up_lt v.a) l.b (up_lt v.b))
      (λ x h. ap (λ (b : Bool). xor (bit f.a x) (bit f.c x) && b) (both_rows v.b x h))

  pub kind_3 : bit_and (bit_xor f.b f.c) (bit_or v.a (v.a * 2 % 2 ^ 64)) ≡ word (kind_bit f v 3) 64
  unfolding kind_bit corner_bit cube_bit ends_of kinds anchors
  kind_3 =
      kind_word (kind_bit f v 3) f.b f.c _ (or_lt 64 v.a _ l.a (up_lt v.a))
      (λ x h. ap (λ (b : Bool). xor (bit f.b x) (bit f.c x) && b)
      (two_bits v.a (v.a * 2 % 2 ^ 64) x _ _ refl (bit_up 64 v.a x h)))

  pub kind_4 : bit_and (bit_xor (f.a / 2) f.c) (bit_or v.a v.b) ≡ word (kind_bit f v 4) 64
  unfolding kind_bit corner_bit cube_bit ends_of kinds anchors
  kind_4 =
      kind_word (kind_bit f v 4) (f.a / 2) f.c _ (or_lt 64 v.a v.b l.a l.b)
      (λ x h. ap₂ ◌&&◌ (ap (λ (b : Bool). xor b (bit f.c x)) (bit_half f.a x)) (two_bits v.a v.b x _ _ refl refl))

  pub kind_5 : bit_and (bit_xor f.b (f.a / 2)) (bit_or v.a v.c) ≡ word (kind_bit f v 5) 64
  unfolding kind_bit corner_bit cube_bit ends_of kinds anchors
  kind_5 =
      kind_word (kind_bit f v 5) f.b (f.a / 2) _ (or_lt 64 v.a v.c l.a l.c)
      (λ x h. ap₂ ◌&&◌ (ap (xor (bit f.b x)) (bit_half f.a x)) (two_bits v.a v.c x _ _ refl refl))

  pub kind_6 : bit_and (bit_xor (f.b / 2) f.c) v.a ≡ word (kind_bit f v 6) 64
  unfolding kind_bit corner_bit cube_bit ends_of kinds anchors
  kind_6 =
      kind_word (kind_bit f v 6) (f.b / 2) f.c _ l.a
      (λ x h. ap₂ ◌&&◌ (ap (λ (b : Bool). xor b (bit f.c x)) (bit_half f.b x)) (one_bit v.a x _ refl))
