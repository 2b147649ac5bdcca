-- The four numbers, one by one. Assumes nothing.
use mathlib.Core.Path.{◌≡◌, ap, ◌∙◌}
use Prim.Native.Nat.{ℕ}
use native.Mathlib.Omega.{arith}
use lib.IntN.{ℤ, pos}
use mathlib.Core.List.{List, [], ◌∷◌}
use mir.Facts.{to_z-of_z, to_z_pos}
use mir.Syntax.{w16, w32}
use Rattle.paper.specs.Lattice.{lattice, air, value_at, air_at}
use Rattle.paper.specs.Sheet.{crossing, coordinate, record_at}
use Rattle.crossing.proofs.record_of.Goals as goal

four : {a b c d a' b' c' d' : ℤ} → a ≡ a' → b ≡ b' → c ≡ c' → d ≡ d' → ◌≡◌ {A = List ℤ} (a ∷ b ∷ c ∷ d ∷ []) (a' ∷ b' ∷ c' ∷ d' ∷ [])
four p q r s i = p i ∷ q i ∷ r i ∷ s i ∷ []

pub crossing_of-t-requires : goal.crossing_of-t-requires
unfolding air_at
crossing_of-t-requires c =
    let p = c.requires.s_value in (
      ap air (to_z-of_z {w = w16} (record { sfits = c.value.type_inv }) ∙ c.value.ensures) ∙ p.0,
      ap air (to_z-of_z {w = w16} (record { sfits = c.value-2.type_inv }) ∙ c.value-2.ensures) ∙ p.1,
    )

pub returns : goal.returns
unfolding record_at
returns c =
    let a = c.args in
    let v = a.volume.now in
    let L = lattice v.sizes v.samples.now in
    let p = to_z-of_z {w = w16} (record { sfits = c.value.type_inv }) ∙ c.value.ensures in
    let q = to_z-of_z {w = w16} (record { sfits = c.value-2.type_inv }) ∙ c.value-2.ensures in
    let t : c.crossing_of-t.result ≡ crossing a.rule (value_at L a.s) (value_at L a.a) = c.crossing_of-t.ensures.0 ∙ (λ i. crossing a.rule (p i) (q i)) in
    four (to_z_pos w32 (omega arith))
    (to_z-of_z {w = w32} (record { sfits = c.position.type_inv }) ∙ (c.position.ensures ∙ ap (λ (t : ℕ). pos (coordinate a.s.x a.a.x t)) t))
    (to_z-of_z {w = w32} (record { sfits = c.position-2.type_inv }) ∙ (c.position-2.ensures ∙ ap (λ (t : ℕ). pos (coordinate a.s.y a.a.y t)) t))
    (to_z-of_z {w = w32} (record { sfits = c.position-3.type_inv }) ∙ (c.position-3.ensures ∙ ap (λ (t : ℕ). pos (coordinate a.s.z a.a.z t)) t))
