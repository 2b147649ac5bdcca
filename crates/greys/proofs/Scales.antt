-- Scales: the powers of two up to 256 are the divisors of 256. Assumes nothing.
use mathlib.Core.Path.{◌≡◌, refl, sym, subst, ap, ◌∙◌}
use mathlib.Core.Bool.{Bool, true, false, not, ◌&&◌, beq}
use Prim.Native.Nat.{ℕ, ◌%◌, ◌^◌, ◌<◌, ◌≤◌}
use native.Mathlib.Nat.{mod-eq_of_lt}
use native.Mathlib.Omega.{arith}
use native.Mathlib.Decide.{dec_lt}
use borrow.Author.Tests.{ne_eqb}
use lib.Dec.{T, eqb, eqb→eq}
use lib.Pow.{pow_mono}
use Rattle.lists.specs.Lists.{range}
use Rattle.lists.proofs.Computed.{upto, upto_at}
use Rattle.lists.proofs.Member.{t_to_eq, any_in, range_in}
use Rattle.lists.proofs.Within.{t_to_false}
use Rattle.greys.specs.Sample.{is_scale}
use Rattle.greys.specs.Within.{Scale}

-- a scale by its power
pub scale_of : (n : ℕ) → is_scale n ≡ true → Scale n
unfolding is_scale
scale_of n h =
    let p = any_in (λ k. eqb n (2 ^ k)) (range 0 9) (subst T (sym h) tt) in
    let r = range_in 0 9 p.0 p.1.0 in
    record { k = p.0; small = omega (arith, r.1); is = eqb→eq n (2 ^ p.0) p.1.1 }

-- 0 to 256, one by one
abbrev divisor : ℕ → Bool
divisor n = not (eqb n 0) && eqb (256 % n) 0

tried : T (upto 257 (λ n. beq (divisor n) (is_scale n)))
unfolding is_scale
tried = tt

alike : (a b : Bool) → T (beq a b) → a ≡ b
alike true true t = refl
alike true false t = absurd t
alike false true t = absurd t
alike false false t = refl

pub no_scale : (n : ℕ) → n ≡ 0 → false ≡ is_scale n
unfolding is_scale
no_scale n e = rw e

large : (n : ℕ) → 256 < n → is_scale n ≡ false
unfolding is_scale
large n h =
    t_to_false (is_scale n)
    (λ t.
    let s = scale_of n (t_to_eq (is_scale n) t) in
    let q : 2 ^ s.k ≤ 2 ^ 8 = pow_mono {i = s.k} {j = 8} s.small in
    absurd (omega (arith, s.is)))

pub divides : (n : ℕ) → (n ≡ 0 → ⊥) → eqb (256 % n) 0 ≡ is_scale n
divides n h = go (dec_lt 256 n)
  where
    go : Dec (256 < n) → eqb (256 % n) 0 ≡ is_scale n
    go (yes l) = rw (mod-eq_of_lt l, large n l)
    go (no l) =
        ap (λ (b : Bool). not b && eqb (256 % n) 0) (sym (ne_eqb n 0 h))
        ∙ alike (divisor n) (is_scale n) (upto_at 257 (λ n. beq (divisor n) (is_scale n)) tried n (omega arith))
