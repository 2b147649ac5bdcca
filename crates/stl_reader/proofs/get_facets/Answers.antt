-- One facet more is read. Assumes nothing.
use Rattle.std.proofs.Common.{◌*◌, ◌∙◌, sym, zero-add}
use Rattle.stl.specs.Stl.{nine_at}
use Rattle.stl.proofs.Laws.{run_more, nine_long}
use Rattle.stl_reader.proofs.get_facets.Goals as goal

pub loop-i-preserved : goal.loop-i-preserved
loop-i-preserved c =
    let a = c.args in
    let i = c.loop-i.i in
    c.get_nine.ensures ∙ rw c.loop-i.invariant (run_more (nine_at a.bytes.now) 9 (nine_long _) a.out.now 0 _ i (sym (zero-add (9 * i))))
