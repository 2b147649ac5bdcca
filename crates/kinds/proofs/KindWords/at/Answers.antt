-- After each kind its bit stands above those before it. Assumes nothing.
use mathlib.Core.Path.{◌≡◌, refl, sym, ap, ◌∙◌}
use mathlib.Core.Bool.{Bool, true, false}
use Prim.Native.Nat.{ℕ, ◌+◌, ◌*◌, ◌%◌, ◌^◌}
use native.Mathlib.Omega.{arith}
use mir.Val.{bool_byte}
use Rattle.paper.specs.Sheet.{weight}
use Rattle.bits.specs.Words.{word}
use Rattle.kinds.specs.Kinds.{is_edge}
use Rattle.kinds.proofs.Anchors.{edge_in, kinds_none, kinds_more, kinds_few}
use Rattle.kinds.proofs.KindWords.at.Goals as goal
use Rattle.kinds.proofs.KindWords.at.Goals.{After-from, Start}

-- edge j of the anchor
abbrev edge : goal.Start → ℕ → Bool
edge s j = is_edge s.args.self.now (7 * s.args.x + j)

byte_is : (b : Bool) → bool_byte b ≡ weight b 1
byte_is true = refl
byte_is false = refl

bit_is : (c : goal.After-from) → c.from.result ≡ weight (edge (goal.at.After-from c).Start c.loop-kind.kind) 1
bit_is c =
    c.from.ensures
    ∙ (byte_is c.has_bit.result
    ∙ ap (λ (b : Bool). weight b 1) (c.has_bit.ensures ∙ sym (edge_in c.args.self.now c.args.x c.loop-kind.kind (omega arith))))

-- the next sum
more : (c : goal.After-from) → c.loop-kind.ks + c.from.result * 2 ^ c.loop-kind.kind % 18446744073709551616 ≡ word (edge (goal.at.After-from c).Start) (c.loop-kind.kind + 1)
more c = kinds_more (edge (goal.at.After-from c).Start) c.loop-kind.kind c.loop-kind.ks c.from.result (omega arith) c.loop-kind.invariant (bit_is c)

pub loop-kind-init : goal.loop-kind-init
loop-kind-init c = kinds_none (edge (goal.at.loop-kind-init c).Start)

pub overflow_add-ks : goal.overflow_add-ks
overflow_add-ks c =
    let at = (goal.at.overflow_add-ks c).After-from in
    omega (arith, kinds_few (edge (goal.at.overflow_add-ks c).Start) (c.loop-kind.kind + 1) _ (omega arith) (more at))

pub loop-kind-preserved : goal.loop-kind-preserved
loop-kind-preserved c = more (goal.at.loop-kind-preserved c).After-from

pub returns : goal.returns
returns c =
    let f = edge (goal.at.returns c).Start in
    let e : c.loop-kind.kind ≡ 7 = omega arith in
    let is = c.loop-kind.invariant ∙ ap (word f) e in
    (is, kinds_few f 7 c.loop-kind.ks (omega arith) is)
