-- Tests 1 to 3, the rows of sides and of cubes that may be visited, and the search past them. Assumes nothing.
use mathlib.Core.Path.{◌≡◌, sym, ap, subst, ◌∙◌}
use mathlib.Core.List.{List}
use Prim.Native.Nat.{ℕ, ◌*◌, ◌≤◌}
use native.Mathlib.Omega.{arith}
use lib.ListN.{length, replicate, length-replicate}
use Rattle.lists.specs.Lists.{over}
use Rattle.paper.specs.declared.Verdict.{Verdict}
use Rattle.paper.specs.Lattice.{Lattice, lattice}
use Rattle.paper.specs.Room.{work}
use Rattle.paper.specs.Within.{Full}
use Rattle.rows.specs.Rows.{HasRows, HasFree, HasBoth, side_rows, fill_rows, free_rows}
use Rattle.rows.proofs.Cubes.{made_rows, made_free}
use Rattle.ways.proofs.Ways.{words_le}
use Rattle.tray.specs.Pieces.{lent}
use Rattle.pieces.proofs.Answers.{stopped, settled}
use Rattle.pieces.proofs.find.Goals as goal

abbrev zeros : List ℕ
zeros = replicate 4096 0

rows_fit : (L : Lattice) → Full L → L.size.ny * L.size.nz ≤ length zeros
rows_fit L f = omega (arith, words_le L.size f.sized, length-replicate {A = ℕ} 4096 0)

made : (L : Lattice) → Full L → (rows fills may : List ℕ) → rows ≡ over (side_rows L) zeros → fills ≡ over (fill_rows L) zeros
    → may ≡ over (free_rows L.size fills) fills → HasBoth L rows may
made L f rows fills may e g h = record {
  sides = subst (HasRows L) (sym e) (made_rows L zeros (rows_fit L f));
  free =
      subst (HasFree L) (sym (h ∙ ap (λ (l : List ℕ). over (free_rows L.size l) l) g)) (made_free L zeros (rows_fit L f));
}

pub returns-in_err-shape : goal.returns-in_err-shape
returns-in_err-shape c =
    let a = c.args in
    stopped (lattice a.sizes a.samples.now) (lent a.list.now (work a.words.now a.waiting.now a.slots.now)) _ _ c.in_err-shape.ensures.answer
    c.from_residual.ensures.1

pub returns : goal.returns
returns c =
    let a = c.args in
    let L = lattice a.sizes a.samples.now in
    let s = c.in_ok-shape.ensures in
    let e = c.sample_rows.ensures in
    let both = made L s.full _ _ _ e.0 e.1 c.free_rows.ensures in
    settled L (lent a.list.now (work a.words.now a.waiting.now a.slots.now)) (ap (λ (v : Verdict). v.number) (sym s.answer)) _ _
    (c.find_past.ensures a.samples.now both)
