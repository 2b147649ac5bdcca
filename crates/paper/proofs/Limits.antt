-- "V is at most 2,000,000 and T at most 4,000,000.": beyond a limit, whatever the slices and the bytes are, writing gives 9 and a file
-- is not laid out. Assumes nothing.
use mathlib.Core.Path.{◌≡◌, ap, ◌∙◌}
use mathlib.Core.Bool.{Bool, true, false, ◌&&◌, and-false}
use mathlib.Core.List.{List}
use Prim.Native.Nat.{ℕ}
use lib.IntN.{ℤ}
use lib.Dec.{leb}
use Rattle.paper.specs.declared.Sizes.{Sizes}
use Rattle.paper.specs.Lattice.{axes}
use Rattle.paper.specs.Tests.{verdict}
use Rattle.paper.specs.Room.{vertex_room, triangle_room}
use Rattle.paper.specs.File.{limits, write_verdict, file_v, file_t, laid_out}

pub over_limit_write : (z : Sizes) (nv nt : ℕ) (vs : List ℤ) (ts : List ℕ) (room : ℕ) → axes z ≡ true → limits nv nt ≡ false
    → write_verdict z nv nt vs ts room ≡ verdict 9 0
unfolding write_verdict
over_limit_write z nv nt vs ts room a l =
    let e : (leb nv (vertex_room vs) && leb nt (triangle_room ts) && limits nv nt) ≡ false =
    ap (λ (b : Bool). leb nv (vertex_room vs) && leb nt (triangle_room ts) && b) l
    ∙ and-false (leb nv (vertex_room vs) && leb nt (triangle_room ts)) in
    rw (a, e)

pub over_limit_file : (bs : List ℕ) → limits (file_v bs) (file_t bs) ≡ false → laid_out bs ≡ false
unfolding laid_out
over_limit_file bs l = rw l
