-- Slice by slice. Assumes nothing.
use borrow.Author.Rules.{rules}
use mathlib.Core.Path.{◌≡◌, ap, ◌∙◌}
use mathlib.Core.List.{◌++◌}
use Prim.Native.Nat.{ℕ, ◌*◌}
use lib.ListN.{drop}
use Rattle.lists.specs.Lists.{cleared}
use Rattle.paper.specs.Room.{work}
use Rattle.clear.proofs.clear_work.Goals as goal

pub returns : goal.returns
returns c =
    let a = c.args in
    let n = c.cube_count-n.result in
    let m = 7 * c.sample_count.result in
    let words : c.fill.new.self ++ drop n a.words.now ≡ cleared n a.words.now = search rules in
    let waiting : c.fill-2.new.self ++ drop n a.waiting.now ≡ cleared n a.waiting.now = search rules in
    let slots : c.fill-3.new.self ++ drop m a.slots.now ≡ cleared m a.slots.now = search rules in
    let w = words ∙ ap (λ (k : ℕ). cleared k a.words.now) c.cube_count-n.ensures.0 in
    let q = waiting ∙ ap (λ (k : ℕ). cleared k a.waiting.now) c.cube_count-n.ensures.0 in
    let e = slots ∙ ap (λ (k : ℕ). cleared (7 * k) a.slots.now) c.sample_count.ensures.0 in
    λ i. work (w i) (q i) (e i)
