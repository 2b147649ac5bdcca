-- The record of an edge, by its anchor and kind. Assumes nothing.
use mathlib.Core.Path.{◌≡◌, refl, sym, ap, subst, ◌∙◌}
use mathlib.Core.Bool.{Bool, true, false, cond, xor}
use Prim.Native.Nat.{ℕ, ◌+◌, ◌/◌, ◌%◌, ◌≤◌, ◌<◌}
use native.Mathlib.Omega.{arith}
use lib.Dec.{T}
use Rattle.paper.specs.declared.Sizes.{Sizes}
use Rattle.paper.specs.declared.Place.{Place}
use Rattle.paper.specs.declared.Rule.{Rule}
use Rattle.paper.specs.Lattice.{Lattice, sample_no, sample_at, air_at, corner}
use Rattle.paper.specs.Sheet.{edge_from, anchor_of, kind_in, ends_of, first_end, second_end, split, record_at, vertex_record}
use Rattle.paper.specs.Within.{Sized, SampleIn}
use Rattle.paper.proofs.Numbers.{sample_place}
use Rattle.crossing.specs.Vertex.{Near, NearPlaces, Crosses}

xor_true : (b : Bool) → xor true b ≡ true → b ≡ false
unfolding xor
xor_true true e = absurd (subst T (sym e) tt)
xor_true false e = refl

xor_false : (b : Bool) → xor false b ≡ true → b ≡ true
unfolding xor
xor_false true e = refl
xor_false false e = absurd (subst T (sym e) tt)

-- corners of one cube are near
near_bit : (x a b : ℕ) → a ≤ 1 → b ≤ 1 → x + a < 64 → Near (x + a) (x + b)
near_bit x a b ha hb h = record { low = h; up = omega arith; down = omega arith }

pub near : (z : Sizes) → Sized z → (p : Place) (c d : ℕ) → c < 8 → d < 8 → SampleIn z (corner p c) → NearPlaces (corner p c) (corner p d)
unfolding corner
near z s p c d hc hd i = record {
  x = near_bit p.x (c % 2) (d % 2) (omega arith) (omega arith) (omega (arith, i.x, s.x_high));
  y = near_bit p.y (c / 2 % 2) (d / 2 % 2) (omega arith) (omega arith) (omega (arith, i.y, s.y_high));
  z = near_bit p.z (c / 4) (d / 4) (omega arith) (omega arith) (omega (arith, i.z, s.z_high));
}

module _ (L : Lattice) (p : Place) (k : ℕ) (i : SampleIn L.size p) (x : Crosses L p k) where
  abbrev pub from : Place
  from = corner p (ends_of k).a

  abbrev pub to : Place
  to = corner p (ends_of k).b

  abbrev pub edge : ℕ
  edge = edge_from (sample_no L.size p) k

  seven : edge / 7 ≡ sample_no L.size p
  seven = omega (arith, x.kind)

  kind_is : kind_in edge ≡ k
  kind_is = omega (arith, x.kind)

  anchor : anchor_of L.size edge ≡ p
  unfolding anchor_of
  anchor = ap (sample_at L.size) seven ∙ sample_place L.size p i.x i.y

  -- which end is air decides the order
  pub record_is : (rule : Rule) → vertex_record rule L edge ≡ cond (air_at L from) (record_at rule L edge to from) (record_at rule L edge from to)
  unfolding vertex_record first_end second_end
  record_is rule =
      λ j.
      let u = corner (anchor j) (ends_of (kind_is j)).a in
      let v = corner (anchor j) (ends_of (kind_is j)).b in
      cond (air_at L u) (record_at rule L edge v u) (record_at rule L edge u v)

  pub first_air : air_at L from ≡ true → air_at L to ≡ false
  unfolding split
  first_air e = xor_true (air_at L to) (ap (λ (b : Bool). xor b (air_at L to)) (sym e) ∙ x.sides)

  pub first_solid : air_at L from ≡ false → air_at L to ≡ true
  unfolding split
  first_solid e = xor_false (air_at L to) (ap (λ (b : Bool). xor b (air_at L to)) (sym e) ∙ x.sides)

  pub record_air : (rule : Rule) → air_at L from ≡ true → vertex_record rule L edge ≡ record_at rule L edge to from
  record_air rule e = record_is rule ∙ ap (λ (b : Bool). cond b (record_at rule L edge to from) (record_at rule L edge from to)) e

  pub record_solid : (rule : Rule) → air_at L from ≡ false → vertex_record rule L edge ≡ record_at rule L edge from to
  record_solid rule e = record_is rule ∙ ap (λ (b : Bool). cond b (record_at rule L edge to from) (record_at rule L edge from to)) e
