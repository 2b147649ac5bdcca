-- After i turns the first i numbers are copied. Assumes nothing.
use mathlib.Core.Path.{◌≡◌}
use lib.ListN.{length, take}
use lib.Seq.{sets}
use Rattle.pieces.proofs.put_list.Given as goal

abbrev pub invariant-loop-i : goal.invariant-loop-i
invariant-loop-i l = (length l.list ≡ length l.initial.list) × (l.list ≡ sets l.initial.list 0 (take l.i l.pieces))
