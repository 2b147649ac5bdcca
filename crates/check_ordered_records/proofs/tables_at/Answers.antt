-- The tables of the row. Assumes nothing.
use Rattle.check_ordered_records.proofs.RowEdges.{tables}
use Rattle.check_ordered_records.proofs.tables_at.Goals as goal

pub returns : goal.returns
returns c = tables c.args.sizes c.args.y c.args.z
