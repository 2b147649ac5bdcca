-- A bit that is 1, or one that becomes 1. Assumes nothing.
use mathlib.Core.Path.{◌≡◌, refl, sym, ap, ◌∙◌}
use mathlib.Core.Bool.{not}
use Prim.Native.Nat.{ℕ, ◌+◌}
use lib.ListN.{get_or, set}
use Rattle.bits.specs.Words.{bit}
use Rattle.check_triangles.specs.Triples.{fresh_at, noted_at}
use Rattle.check_triangles.proofs.Laws.{power_fits, not_noted}
use Rattle.check_triangles.proofs.note.Goals as goal
use Rattle.check_triangles.proofs.note.Goals.{After-has_bit}

-- what the test says
told : (c : goal.After-has_bit) → not c.has_bit.result ≡ fresh_at c.args.seen.now c.args.at
told c =
    let a = c.args in
    ap not (c.has_bit.ensures ∙ ap (λ (m : ℕ). bit m a.at.place) c.from.ensures) ∙ not_noted a.seen.now a.at

pub returns-then-has_bit : goal.returns-then-has_bit
returns-then-has_bit c = (ap not (sym c.if-has_bit.true) ∙ told (goal.at.returns-then-has_bit c).After-has_bit, refl)

pub returns : goal.returns
unfolding noted_at
returns c =
    let a = c.args in
    let k = a.at.cube in (
      ap not (sym c.if-has_bit.false) ∙ told (goal.at.returns c).After-has_bit,
      λ i. set a.seen.now k (get_or a.seen.now k 0 + (power_fits a.at.place c.requires.2).0 i),
    )
