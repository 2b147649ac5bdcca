-- Each row so far has the part that the first sample asks for. Assumes nothing.
use mathlib.Core.Path.{◌≡◌, sym, ap, ◌∙◌}
use Prim.Native.Nat.{ℕ, ◌/◌, ◌^◌, ◌≤◌, ◌<◌}
use native.Mathlib.Omega.{arith}
use lib.Bits.{bit_and}
use borrow.Author.Count.{below_more}
use Rattle.bits.specs.Words.{bit}
use Rattle.blocks.specs.Blocks.{OneSide, side_by}
use Rattle.blocks.proofs.Parts.{never}
use Rattle.blocks.proofs.Alike.{part_at, lesser, rows_alike, rows_differ}
use Rattle.blocks.proofs.one_side.Goals as goal
use Rattle.blocks.proofs.one_side.Goals.{At-loop-z}

-- the part of the row at v and u, and whether the block is on one side
abbrev part_in : goal.At-loop-z → ℕ → ℕ → ℕ
part_in c v u = let a = c.args in part_at a.rows.now.sizes a.rows.now.sides.now a.at.x c.mask-m.result v u

abbrev One : goal.At-loop-z → Type 0
One c = let a = c.args in OneSide a.rows.now.sizes a.rows.now.sides.now a.at a.size

module _ (c : goal.At-loop-z) where
  all_alike : ((v u : ℕ) → c.args.at.y ≤ v → v < c.min-y_end.result → c.args.at.z ≤ u → u < c.min-z_end.result
      → part_in c v u ≡ c.all_or_none-like.result)
      → One c
  all_alike h =
      let a = c.args in
      rows_alike a.rows.now.sizes a.rows.now.sides.now a.at a.size _ _ _ _ _ c.has_bit.result (lesser c.min.ensures)
      (lesser c.min-y_end.ensures) (lesser c.min-z_end.ensures) c.mask-m.ensures c.all_or_none-like.ensures h

  one_differs : (v u : ℕ) → c.args.at.y ≤ v → v < c.min-y_end.result → c.args.at.z ≤ u → u < c.min-z_end.result
      → (part_in c v u ≡ c.all_or_none-like.result → ⊥) → One c → ⊥
  unfolding side_by
  one_differs =
      let a = c.args in
      rows_differ a.rows.now.sizes a.rows.now.sides.now a.at a.size _ _ _ _ _ c.has_bit.result (lesser c.min.ensures)
      (lesser c.min-y_end.ensures) (lesser c.min-z_end.ensures) c.mask-m.ensures c.all_or_none-like.ensures c.requires.0
      (c.has_bit.ensures ∙ ap (λ (w : ℕ). bit w a.at.x) c.row_of.ensures)

pub returns-then-part_of-like : goal.returns-then-part_of-like
returns-then-part_of-like c =
    let x = c.args.at.x in
    let at = (goal.at.returns-then-part_of-like c).At-loop-z in
    let e = c.part_of.ensures ∙ ap (λ (w : ℕ). bit_and (w / 2 ^ x) c.mask-m.result) c.row_of-in-loop-y.ensures in (
      λ e. never (sym e),
      λ _. one_differs at c.loop-y.y c.loop-z.z c.loop-y.auto.y (omega arith) c.loop-z.auto.z (omega arith)
          (λ q. c.if-part_of-like.true (e ∙ q)),
    )

pub loop-z-preserved : goal.loop-z-preserved
loop-z-preserved c =
    let a = c.args in
    let at = (goal.at.loop-z-preserved c).At-loop-z in
    below_more (λ (u : ℕ). a.at.z ≤ u → (v : ℕ) → v < c.min-y_end.result → a.at.y ≤ v → part_in at v u ≡ c.all_or_none-like.result)
    c.loop-z.z c.loop-z.invariant (λ h v k j. c.loop-y.invariant v (omega arith) j)

pub returns : goal.returns
returns c =
    (λ e. all_alike (goal.at.returns c).At-loop-z (λ v u hv kv hu ku. c.loop-z.invariant u (omega arith) hu v kv hv), λ e. never e)
