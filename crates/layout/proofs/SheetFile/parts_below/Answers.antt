-- Each number of eight parts is one of a part. Assumes nothing.
use Rattle.std.proofs.Common.{◌≡◌, ℕ, ◌+◌, ◌*◌, ◌/◌, ◌%◌, ◌<◌, List, get_or, arith, subst}
use native.Mathlib.Nat.{div-add-mod', mod-lt, div-lt_iff_lt-mul}
use Rattle.paper.specs.File.{file_triangles}
use Rattle.layout.proofs.SheetFile.parts_below.Goals as goal

in_parts : (ts : List ℕ) (n part : ℕ) → ((k j : ℕ) → k < 8 → j < part → get_or ts (k * part + j) 0 < n) → (j : ℕ) → j < 8 * part → get_or ts j 0 < n
in_parts ts n part h j l =
    let some : 0 < part = omega arith in
    let e : j / part * part + j % part ≡ j = div-add-mod' j part in
    subst (λ (j : ℕ). get_or ts j 0 < n) e (h (j / part) (j % part) ((div-lt_iff_lt-mul some).1 l) (mod-lt j some))

pub returns : goal.returns
returns c e =
    let a = c.args in
    in_parts (file_triangles a.self.now.bytes.now) a.n a.part (λ k j h m. c.loop-i.invariant e k j h (omega (arith, c.loop-i-test.false)))
