-- The difference times the scale by `f32::abs` and `f32::min`, as `steps` comes by it: it is what `at_most` holds. Assumes nothing.
use mathlib.Core.Path.{◌≡◌, sym, ◌∙◌}
use mathlib.Core.Bool.{true, false, false≢true, and-false}
use mathlib.Core.Logic.{◌⊎◌, inl, inr}
use Prim.Native.Nat.{ℕ, ◌+◌, ◌*◌, ◌/◌, ◌<◌, ◌≤◌, min}
use native.Mathlib.Nat.{mul-one}
use native.Mathlib.Omega.{arith}
use native.Mathlib.Decide.{dec_lt}
use borrow.Author.Tests.{lt-ltb, le-ltb, lt-leb, le-leb, ne_eqb}
use lib.Dec.{T, eqb, leb}
use lib.IntN.{ℤ, pos}
use lib.Ieee.{Float, nan, inf, fin, binary32, mul, of_int, up, down, fits, lt, eq, le, is_nan}
use lib.Ieee.Exact.{HasValue}
use lib.Ieee.Fits.{down_pos}
use Rattle.std.specs.Float.{IsFloatMin, float_min, float_with_sign}
use Rattle.greys.specs.Sample.{held}
use Rattle.greys.specs.Within.{Scale, most, at_most, Bounded}
use Rattle.greys.proofs.Greys.{or_le}
use Rattle.greys.proofs.Product.{product}
use Rattle.greys.proofs.Bounds.{scaled_most}
use Rattle.greys.proofs.Cut.{Value, Plainly, at_most_law, held_plain, fits_sign}

-- the two orders in which a least value may be taken
to_most : (m : ℕ) (e : ℤ) → le (fin false m e) most ≡ leb (m * up e) (32767 * down e)
unfolding le lt eq
to_most m e = rw (mul-one (m * up e)) (or_le (m * up e) (32767 * down e))

from_most : (m : ℕ) (e : ℤ) → le most (fin false m e) ≡ leb (32767 * down e) (m * up e)
unfolding le lt eq
from_most m e = rw (mul-one (m * up e)) (or_le (32767 * down e) (m * up e))

-- of a float below 0, or of −0
low_to_most : (m : ℕ) (e : ℤ) → le (fin true m e) most ≡ true
unfolding le lt eq
low_to_most m e = rw (lt-ltb 0 (m * up e * 1 + 32767 * down e) (omega (arith, down_pos e)))

low_from_most : (m : ℕ) (e : ℤ) → le most (fin true m e) ≡ false
unfolding le lt eq
low_from_most m e = rw (ne_eqb (32767 * down e) 0 (λ q. omega (arith, down_pos e, q))) (and-false (eqb (32767 * down e) (m * up e * 1)))

-- the least of x and 32,767 is x held; where both are as large it may be x itself
pub least_law : (s : ℕ) (e : ℤ) (r : Float) → let x = fin false s e in
    IsFloatMin x most r → (r ≡ at_most x) ⊎ ((r ≡ x) × (s * up e ≡ 32767 * down e))
unfolding at_most lt is_nan
least_law s e r i = elim i [
  | inl q ↦ to q (dec_lt (s * up e) (32767 * down e)) (dec_lt (32767 * down e) (s * up e))
  | inr q ↦ from q (dec_lt (s * up e) (32767 * down e))
]
  where
    to : r ≡ float_min (fin false s e) most → Dec (s * up e < 32767 * down e) → Dec (32767 * down e < s * up e)
        → (r ≡ at_most (fin false s e)) ⊎ ((r ≡ fin false s e) × (s * up e ≡ 32767 * down e))
    to q (yes l) _ =
        inl (q ∙ rw (to_most s e, le-leb (s * up e) (32767 * down e) (omega arith), lt-ltb (s * up e * 1) (32767 * down e) (omega arith)))
    to q (no l) (yes g) =
        inl (q ∙ rw (to_most s e, lt-leb (s * up e) (32767 * down e) g, le-ltb (s * up e * 1) (32767 * down e) (omega arith)))
    to q (no l) (no g) = inr (q ∙ rw (to_most s e, le-leb (s * up e) (32767 * down e) (omega arith)), omega arith)

    from : r ≡ float_min most (fin false s e) → Dec (s * up e < 32767 * down e)
        → (r ≡ at_most (fin false s e)) ⊎ ((r ≡ fin false s e) × (s * up e ≡ 32767 * down e))
    from q (yes l) =
        inl (q ∙ rw (from_most s e, lt-leb (32767 * down e) (s * up e) l, lt-ltb (s * up e * 1) (32767 * down e) (omega arith)))
    from q (no l) =
        inl (q ∙ rw (from_most s e, le-leb (32767 * down e) (s * up e) (omega arith), le-ltb (s * up e * 1) (32767 * down e) (omega arith)))

-- r is x held to 32,767: it stays, or x is 32,767 or more
pub record Kept (x r : Float) (a c : ℕ) : Type 0 where
  pub small : a ≤ 32767 * c
  pub is : r ≡ x

pub record Cut (r : Float) (a c : ℕ) : Type 0 where
  pub large : 32767 * c ≤ a
  pub is : r ≡ most

pub held_law : (x r : Float) (a c : ℕ) → Value x a c → IsFloatMin x most r → Kept x r a c ⊎ Cut r a c
unfolding is_nan
held_law nan r a c v i = absurd v.is
held_law (inf s) r a c v i = absurd v.is
held_law (fin false m e) r a c v i = elim (least_law m e r i) [
  | inl q ↦ elim (at_most_law (fin false m e) a c v) [
    | inl k ↦ inl (record { small = omega (arith, k.small); is = q ∙ k.is })
    | inr k ↦ inr (record { large = k.large; is = q ∙ k.is })
  ]
  | inr q ↦
      inl (record {
        small = scaled_most a c (m * up e) (down e) 32767 (down_pos e) (sym v.is.1) (omega (arith, q.1));
        is = q.0;
      })
]
held_law (fin true m e) r a c v i =
    inl (record {
      small = omega (arith, v.none_is (sym v.is.0));
      is = elim i [
        | inl q ↦ q ∙ rw (low_to_most m e)
        | inr q ↦ q ∙ rw (low_from_most m e)
      ];
    })

-- so it is plain, and its whole part is known
least_value : (x r : Float) (a c : ℕ) → HasValue x false a c → 0 < c → IsFloatMin x most r → Plainly r (min (a / c) 32767)
least_value x r a c v C i =
    held_plain x r a c V
    (elim (held_law x r a c V i) [
      | inl l ↦ inl (l.small, l.is)
      | inr l ↦ inr (l.large, l.is)
    ])
  where
    V : Value x a c
    V = record { sign = false; is = v; none_is = λ q. absurd (false≢true q); over = C }

-- r is the size of d times n, held to 32,767
abbrev pub Stepped : Float → ℕ → Float → Type 0
Stepped d n r = IsFloatMin (mul binary32 (float_with_sign false d) (of_int binary32 (pos n))) most r

-- what `steps` cuts is plain, and its whole part is the size of the sample
pub steps_is : (n : ℕ) → Scale n → (d r : Float) → Bounded 131072 d → T (fits binary32 d) → Stepped d n r → Plainly r (held d n)
unfolding held float_with_sign
steps_is n s nan r h f i = absurd h
steps_is n s (inf t) r h f i = absurd h
steps_is n s (fin t m e) r h f i =
    least_value (mul binary32 (fin false m e) (of_int binary32 (pos n))) r (m * up e * n) (down e) (product false m e n (fits_sign t false m e f) h s)
    (down_pos e) i
