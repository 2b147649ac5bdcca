-- One of the two ends is solid, and t is measured from it. Assumes nothing.
use Rattle.std.proofs.Common.{◌≡◌, ℕ, ◌-◌, ◌≤◌, Bool, true, false, cond, ℤ, ap, ◌∙◌, arith, to_z-of_z, w16, SFits, to_z, of_z}
use Rattle.paper.specs.Lattice.{air}
use Rattle.paper.specs.Sheet.{crossing}
use Rattle.check_entries.proofs.Laws.{solid_end, air_end, along_is}
use Rattle.check_entries.proofs.is_along.Goals as goal
use Rattle.check_entries.proofs.is_along.Goals.{After-from_solid-p}

either : (b : Bool) {x y : ℤ} → SFits w16 x → SFits w16 y → SFits w16 (cond b x y)
either true f g = f
either false f g = g

few : (b : Bool) (s : ℕ) → s ≤ 65536 → cond b (65536 - s) s ≤ 65536
few true s h = omega arith
few false s h = h

module _ (c : goal.After-from_solid-p) where
  told : (c.from_solid-p.result.0 ≡ cond (air c.args.first) c.args.second c.args.first)
      × (c.from_solid-p.result.1 ≡ cond (air c.args.first) c.args.first c.args.second)
      × (c.from_solid-p.result.2 ≡ cond (air c.args.first) (65536 - c.args.s) c.args.s)
  told = rw (to_z-of_z c.ranges.first, to_z-of_z c.ranges.second) at c.from_solid-p.ensures

  -- the ends' values as they are read
  p_is : to_z w16 (of_z w16 c.from_solid-p.result.0) ≡ cond (air c.args.first) c.args.second c.args.first
  p_is = ap (λ (v : ℤ). to_z w16 (of_z w16 v)) told.0 ∙ to_z-of_z (either (air c.args.first) c.ranges.second c.ranges.first)

  q_is : to_z w16 (of_z w16 c.from_solid-p.result.1) ≡ cond (air c.args.first) c.args.first c.args.second
  q_is = ap (λ (v : ℤ). to_z w16 (of_z w16 v)) told.1 ∙ to_z-of_z (either (air c.args.first) c.ranges.first c.ranges.second)

pub is_crossing-requires : goal.is_crossing-requires
is_crossing-requires c =
    let at = (goal.at.is_crossing-requires c).After-from_solid-p in
    let a = c.args in (
      ap air (p_is at) ∙ solid_end a.first a.second c.requires,
      ap air (q_is at) ∙ air_end a.first a.second c.requires,
      omega (arith, (told at).2, few (air a.first) a.s c.if-s-gt65536.false),
    )

pub returns : goal.returns
returns c e =
    let a = c.args in
    let at = (goal.at.returns c).After-from_solid-p in
    let low : a.s ≤ 65536 = omega (arith, c.if-s-gt65536.false) in
    (low, along_is a.rule a.first a.second a.s _ low (told at).2 (c.is_crossing.ensures e ∙ (λ i. crossing a.rule (p_is at i) (q_is at i))))
