-- Number i of the triangles stands at byte 16 V + 4 i. Assumes nothing.
use mathlib.Core.Path.{sym, ap, ◌∙◌}
use Prim.Native.Nat.{ℕ, ◌+◌, ◌*◌}
use native.Mathlib.Omega.{arith}
use Rattle.lists.specs.Bytes.{field}
use Rattle.layout.proofs.Trailer.{triangle_at}
use Rattle.layout.proofs.SheetFile.triangle_word.Goals as goal

pub returns : goal.returns
returns c =
    let a = c.args in
    let f = a.self.now in
    c.get.ensures
    ∙ (ap (λ (n : ℕ). field 4 f.bytes.now (16 * n + 4 * a.i)) f.counted_v ∙ sym (triangle_at f.bytes.now a.i (omega (arith, f.counted_t))))
