-- The end that is air is the one that the record goes towards. Assumes nothing.
use mathlib.Core.Path.{◌≡◌, sym, ap, ◌∙◌}
use Prim.Native.Nat.{◌+◌, ◌*◌}
use native.Mathlib.Omega.{arith}
use mir.Facts.{to_z-of_z}
use mir.Syntax.{w16}
use Rattle.paper.specs.Lattice.{Lattice, lattice, air, value_at, air_at, corner}
use Rattle.paper.specs.Sheet.{ends_of, record_at}
use Rattle.lattice.proofs.Laws.{samples_few}
use Rattle.crossing.proofs.Records.{near, first_air, first_solid, record_air, record_solid}
use Rattle.crossing.proofs.vertex_on.Goals as goal
use Rattle.crossing.proofs.vertex_on.Goals.{After-corner_of-v, After-is_air, Start}

abbrev L : goal.Start → Lattice
L s = let v = s.args.volume.now in lattice v.sizes v.samples.now

-- the two ends, and the side of the first
u_is : (c : goal.After-corner_of-v) → c.corner_of-u.result ≡ corner c.args.p (ends_of c.args.kind).a
u_is c = c.corner_of-u.ensures ∙ ap (corner c.args.p) c.ends-a.ensures.values.0

v_is : (c : goal.After-corner_of-v) → c.corner_of-v.result ≡ corner c.args.p (ends_of c.args.kind).b
v_is c = c.corner_of-v.ensures ∙ ap (corner c.args.p) c.ends-a.ensures.values.1

side_is : (c : goal.After-is_air) → c.is_air.result ≡ air_at (L (goal.at.After-is_air c).Start) (corner c.args.p (ends_of c.args.kind).a)
unfolding air_at
side_is c =
    c.is_air.ensures
    ∙ ap air (to_z-of_z {w = w16} (record { sfits = c.value.type_inv }) ∙ (c.value.ensures ∙ ap (value_at (L (goal.at.After-is_air c).Start)) (u_is (goal.at.After-is_air c).After-corner_of-v)))

pub overflow_mul-e : goal.overflow_mul-e
overflow_mul-e c = omega (arith, c.sample_no.ensures, samples_few _ c.args.volume.now.full.sized)

pub overflow_add-e : goal.overflow_add-e
overflow_add-e c = omega (arith, c.sample_no.ensures, samples_few _ c.args.volume.now.full.sized)

pub value-requires : goal.value-requires
value-requires c = rw (u_is (goal.at.value-requires c).After-corner_of-v) c.requires.1.first

-- both ends are in the lattice, near each other, and the edge's number is small
pub record_of-requires-clause-within : goal.record_of-requires-clause-within
record_of-requires-clause-within c =
    let x = c.requires.1 in
    let s = c.args.volume.now.full.sized in
    let at = (goal.at.record_of-requires-clause-within c).After-corner_of-v in
    rw (u_is at, v_is at) (
      x.second,
      x.first,
      near _ s c.args.p _ _ (omega (arith, c.ends-a.ensures)) (omega (arith, c.ends-a.ensures)) x.second,
      omega (arith, c.sample_no.ensures, samples_few _ s, x.kind),
    )

pub record_of-requires-clause-s_value : goal.record_of-requires-clause-s_value
record_of-requires-clause-s_value c =
    let at = (goal.at.record_of-requires-clause-s_value c).After-corner_of-v in
    let e = sym (side_is (goal.at.record_of-requires-clause-s_value c).After-is_air) ∙ c.if-is_air.true in
    rw (u_is at, v_is at) (first_air (L (goal.at.record_of-requires-clause-s_value c).Start) c.args.p c.args.kind c.requires.0 c.requires.1 e, e)

pub returns-then-is_air : goal.returns-then-is_air
returns-then-is_air c =
    let at = (goal.at.returns-then-is_air c).After-corner_of-v in
    let e = sym (side_is (goal.at.returns-then-is_air c).After-is_air) ∙ c.if-is_air.true in
    let K = L (goal.at.returns-then-is_air c).Start in
    c.record_of.ensures
    ∙ ((λ i. record_at c.args.rule K (7 * c.sample_no.ensures.0 i + c.args.kind) (v_is at i) (u_is at i))
    ∙ sym (record_air K c.args.p c.args.kind c.requires.0 c.requires.1 c.args.rule e))

pub record_of-requires-else-is_air-clause-within : goal.record_of-requires-else-is_air-clause-within
record_of-requires-else-is_air-clause-within c =
    let x = c.requires.1 in
    let s = c.args.volume.now.full.sized in
    let at = (goal.at.record_of-requires-else-is_air-clause-within c).After-corner_of-v in
    rw (u_is at, v_is at) (
      x.first,
      x.second,
      near _ s c.args.p _ _ (omega (arith, c.ends-a.ensures)) (omega (arith, c.ends-a.ensures)) x.first,
      omega (arith, c.sample_no.ensures, samples_few _ s, x.kind),
    )

pub record_of-requires-else-is_air-clause-s_value : goal.record_of-requires-else-is_air-clause-s_value
record_of-requires-else-is_air-clause-s_value c =
    let at = (goal.at.record_of-requires-else-is_air-clause-s_value c).After-corner_of-v in
    let e = sym (side_is (goal.at.record_of-requires-else-is_air-clause-s_value c).After-is_air) ∙ c.if-is_air.false in
    rw (u_is at, v_is at) (e, first_solid (L (goal.at.record_of-requires-else-is_air-clause-s_value c).Start) c.args.p c.args.kind c.requires.0 c.requires.1 e)

pub returns-else-is_air : goal.returns-else-is_air
returns-else-is_air c =
    let at = (goal.at.returns-else-is_air c).After-corner_of-v in
    let e = sym (side_is (goal.at.returns-else-is_air c).After-is_air) ∙ c.if-is_air.false in
    let K = L (goal.at.returns-else-is_air c).Start in
    c.record_of-else-is_air.ensures
    ∙ ((λ i. record_at c.args.rule K (7 * c.sample_no.ensures.0 i + c.args.kind) (u_is at i) (v_is at i))
    ∙ sym (record_solid K c.args.p c.args.kind c.requires.0 c.requires.1 c.args.rule e))
