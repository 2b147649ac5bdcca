-- No cube where y or z is at the bounds, else all but the first and the last. Assumes nothing.
use mathlib.Core.Path.{sym, ap, ◌∙◌}
use Prim.Native.Nat.{ℕ, ◌-◌, ◌%◌}
use Rattle.lowest.proofs.Search.{no_row_y, no_row_z, inner_row}
use Rattle.lowest.proofs.inside_row.Goals as goal
use Rattle.lowest.proofs.inside_row.Goals.{else-is_inner-via-then-is_inner+else-is_inner-2, else-is_inner-via-else-is_inner}

pub returns-then-is_inner-2 : goal.returns-then-is_inner-2
returns-then-is_inner-2 c =
    let a = c.args in
    ap (λ (w : ℕ). w - w % 2) c.low_bits-low.ensures
    ∙ inner_row a.sizes a.y a.z (sym c.is_inner.ensures ∙ c.if-is_inner.true) (sym c.is_inner-then-is_inner.ensures ∙ c.if-is_inner-2.true)

pub returns-else-is_inner : goal.returns-else-is_inner
returns-else-is_inner c =
    let a = c.args in
    elim c.else-is_inner.branch [
      | else-is_inner-via-then-is_inner+else-is_inner-2 w ↦
          no_row_z a.sizes a.y a.z (sym w.is_inner-then-is_inner.ensures ∙ w.if-is_inner-2.false)
      | else-is_inner-via-else-is_inner w ↦ no_row_y a.sizes a.y a.z (sym c.is_inner.ensures ∙ w.if-is_inner.false)
    ]
