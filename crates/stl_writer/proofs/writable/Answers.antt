-- `stl_writer::writable`: the triangles that fit have their records. Assumes nothing.
use Rattle.std.proofs.Common.{arith, sym, ◌∙◌, length}
use Rattle.sheetfile.specs.Taken.{Writable}
use Rattle.sheetfile.proofs.Stored.{counted}
use Rattle.stl.proofs.Answers.{all_named}
use Rattle.stl_writer.proofs.writable.Goals as goal
use Rattle.stl_writer.proofs.writable.Goals.{Else-not-counts_fit}

taken : (c : goal.Else-not-counts_fit) → let a = c.args in Writable a.nv a.nt (length a.vertices.now) (length a.triangles.now)
taken c = counted _ _ _ _ (sym c.counts_fit.ensures ∙ c.if-not-counts_fit.false)

pub invariant_of-sheet : goal.invariant_of-sheet
invariant_of-sheet c =
    record { named = all_named _ _ _ _ (taken (goal.at.invariant_of-sheet c).Else-not-counts_fit) (sym c.in_default.ensures.first) }

pub stl_length-requires : goal.stl_length-requires
stl_length-requires c = omega (arith, taken (goal.at.stl_length-requires c).Else-not-counts_fit)
