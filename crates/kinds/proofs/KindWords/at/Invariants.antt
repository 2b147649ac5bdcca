-- After each kind its bit stands above those before it. Assumes nothing.
use Prim.Native.Nat.{◌+◌, ◌*◌}
use Rattle.std.proofs.Common.{◌≡◌}
use Rattle.bits.specs.Words.{word}
use Rattle.kinds.specs.Kinds.{is_edge}
use Rattle.kinds.proofs.KindWords.at.Given as goal

abbrev pub invariant-loop-kind : goal.invariant-loop-kind
invariant-loop-kind l = l.ks ≡ word (λ j. is_edge l.self (7 * l.x + j)) l.kind
