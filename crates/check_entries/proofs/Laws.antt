-- A crossing from the first end, and edges of a row that rise. Assumes nothing.
use Rattle.std.proofs.Common.{◌≡◌, ℕ, ◌+◌, ◌-◌, ◌*◌, ◌<◌, ◌≤◌, Bool, true, false, cond, T, ℤ, pos, negsuc, ◌+ℤ◌, ◌-ℤ◌, ◌*ℤ◌, nat_abs, sym, refl, ap, ◌∙◌, subst, arith, w32, SFits}
use mathlib.Core.Bool.{xor}
use native.Mathlib.Decide.{dec_lt}
use lib.Signed.{lt_z, non_neg}
use Rattle.paper.specs.declared.Rule.{Rule}
use Rattle.paper.specs.Lattice.{air}
use Rattle.paper.specs.Sheet.{crossing, coordinate}
use Rattle.paper.proofs.Ints.{sub_pos, sub_neg}
use Rattle.crossing.specs.Vertex.{Near}
use Rattle.crossing.proofs.Coordinates.{stepped, stepped_is, fit}
use Rattle.check_entries.specs.Entries.{along, Stepping}

-- ── numbers that are not below 0 ──

pub not_below_zero : (z : ℤ) → lt_z z (pos 0) ≡ false → T (non_neg z)
not_below_zero (pos n) e = tt
not_below_zero (negsuc n) e = absurd (subst T e tt)

pub not_negative : (z : ℤ) → lt_z z (pos 0) ≡ false → z ≡ pos (nat_abs z)
not_negative (pos n) e = refl
not_negative (negsuc n) e = absurd (subst T e tt)

-- ── from the first end ──

other : (a b : Bool) → xor a b ≡ true → cond a b a ≡ false
unfolding xor
other true true e = absurd (subst T (sym e) tt)
other true false e = refl
other false b e = refl

same : (a b : Bool) → xor a b ≡ true → cond a a b ≡ true
unfolding xor
same true b e = refl
same false true e = refl
same false false e = absurd (subst T (sym e) tt)

-- the solid end is solid, the air end air
module _ (a b : ℤ) (h : xor (air a) (air b) ≡ true) where
  air_cond : (c : Bool) → air (cond c b a) ≡ cond c (air b) (air a)
  air_cond true = refl
  air_cond false = refl

  air_cond' : (c : Bool) → air (cond c a b) ≡ cond c (air a) (air b)
  air_cond' true = refl
  air_cond' false = refl

  pub solid_end : air (cond (air a) b a) ≡ false
  solid_end = air_cond (air a) ∙ other (air a) (air b) h

  pub air_end : air (cond (air a) a b) ≡ true
  air_end = air_cond' (air a) ∙ same (air a) (air b) h

-- t from the solid end gives s from the first
pub along_is : (rule : Rule) (a b : ℤ) (s t : ℕ) → s ≤ 65536 → t ≡ cond (air a) (65536 - s) s
    → t ≡ crossing rule (cond (air a) b a) (cond (air a) a b) → s ≡ along rule a b
unfolding along
along_is rule a b s t h = go (air a)
  where
    go : (c : Bool) → t ≡ cond c (65536 - s) s → t ≡ crossing rule (cond c b a) (cond c a b)
        → s ≡ cond c (65536 - crossing rule b a) (crossing rule a b)
    go true e f = omega (arith, e, f)
    go false e f = omega (arith, e, f)

-- ── on one axis ──

shift : (o a b : ℕ) → pos (o + b) -ℤ pos (o + a) ≡ pos b -ℤ pos a
shift o a b = by (dec_lt b a)
  where
    by : Dec (b < a) → pos (o + b) -ℤ pos (o + a) ≡ pos b -ℤ pos a
    by (yes h) = sub_neg (o + b) (o + a) (a - b - 1) (omega arith) ∙ sym (sub_neg b a (a - b - 1) (omega arith))
    by (no h) =
        let e : o + b - (o + a) ≡ b - a = omega arith in
        sub_pos (o + b) (o + a) (omega arith) ∙ (ap pos e ∙ sym (sub_pos b a (omega arith)))

-- from a first end at o + a, towards a second one at o + b
module _ (o a b s from : ℕ) (dir : ℤ) (n : Near (o + a) (o + b)) (few : s ≤ 65536) (f : from ≡ 65536 * (o + a)) (d : dir ≡ pos b -ℤ pos a) where
  d_is : pos (o + b) -ℤ pos (o + a) ≡ dir
  d_is = shift o a b ∙ sym d

  pub stepping : Stepping from dir s
  unfolding stepped
  stepping =
      let F = fit s few (o + a) (o + b) n in
      record {
        low = omega (arith, f, n.low);
        few = few;
        product = subst (λ (d : ℤ). SFits w32 (d *ℤ pos s)) d_is F.product;
        sum = subst (λ (m : ℕ). SFits w32 (pos m +ℤ dir *ℤ pos s)) (sym f)
            (subst (λ (d : ℤ). SFits w32 (pos (65536 * (o + a)) +ℤ d *ℤ pos s)) d_is F.sum);
      }

  pub steps_to_law : pos from +ℤ dir *ℤ pos s ≡ pos (coordinate (o + a) (o + b) s)
  unfolding stepped
  steps_to_law = (λ i. pos (f i) +ℤ d_is' i *ℤ pos s) ∙ stepped_is s few (o + a) (o + b) n
    where
      d_is' : dir ≡ pos (o + b) -ℤ pos (o + a)
      d_is' = sym d_is
