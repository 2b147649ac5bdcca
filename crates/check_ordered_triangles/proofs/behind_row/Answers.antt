-- The row is written to the front of a slice, and the file compared with it. Assumes nothing.
use mathlib.Core.Path.{◌≡◌, sym, ◌∙◌}
use mathlib.Core.List.{List}
use Prim.Native.Nat.{ℕ, ◌≤◌}
use native.Mathlib.Omega.{arith}
use native.Mathlib.Nat.{zero-add}
use lib.ListN.{length, take, drop}
use lib.Seq.{length-take-le}
use Rattle.paper.specs.File.{file_triangles}
use Rattle.tiles.specs.Tiles.{Source, source, row_tiles_at}
use Rattle.check_ordered.proofs.Laws.{follows_front}
use Rattle.check_ordered_triangles.proofs.Tiles.{row_few}
use Rattle.check_ordered_triangles.proofs.behind_row.Goals as goal
use Rattle.check_ordered_triangles.proofs.behind_row.Goals.{After-put_row_at-n, Start}

abbrev from : goal.Start → Source
from s = let t = s.args.tiling.now in source t.table.now t.counts.now s.args.tiling.now.slots.now

-- the row's numbers
abbrev new : goal.Start → List ℕ
new s = let w = s.args.tiling.now.rows in row_tiles_at (from s) w.sizes w.sides.now w.cubes.now s.args.y s.args.z

few : (s : goal.Start) → length (new s) ≤ 2304
few s =
    let t = s.args.tiling.now in
    let w = t.rows in
    row_few w.sizes w.sized (from s) t.tabled w.sides.now w.cubes.now s.args.y s.args.z

count : (c : goal.After-put_row_at-n) → c.put_row_at-n.result ≡ length (new (goal.at.After-put_row_at-n c).Start)
count c = c.put_row_at-n.ensures.1 ∙ zero-add _

fits : (c : goal.After-put_row_at-n) → c.put_row_at-n.result ≤ length c.put_row_at-n.new.out
fits c = omega (arith, count c, few (goal.at.After-put_row_at-n c).Start, c.requires.at_le_end.1)

pub put_row_at-n-requires-clause-z_in_bounds : goal.put_row_at-n-requires-clause-z_in_bounds
put_row_at-n-requires-clause-z_in_bounds c =
    omega (arith, few (goal.at.put_row_at-n-requires-clause-z_in_bounds c).Start, c.requires.at_le_end.1)

pub overflow_add-at : goal.overflow_add-at
overflow_add-at c =
    let f = c.args.file.now in
    omega (arith, count (goal.at.overflow_add-at c).After-put_row_at-n, few (goal.at.overflow_add-at c).Start, f.counted_t, f.ranged.most_t)

pub slice_bounds-same_words-end : goal.slice_bounds-same_words-end
slice_bounds-same_words-end c = fits (goal.at.slice_bounds-same_words-end c).After-put_row_at-n

pub slice_bounds-same_words-end-2 : goal.slice_bounds-same_words-end-2
slice_bounds-same_words-end-2 c =
    sym (length-take-le c.put_row_at-n.result c.put_row_at-n.new.out (fits (goal.at.slice_bounds-same_words-end-2 c).After-put_row_at-n))

pub returns-then-same_words : goal.returns-then-same_words
returns-then-same_words c =
    let g = (goal.at.returns-then-same_words c).After-put_row_at-n in
    let s = (goal.at.returns-then-same_words c).Start in
    let n = c.put_row_at-n in
    let fs = file_triangles c.args.file.now.bytes.now in
    let l = length-take-le n.result n.new.out (fits g) in
    let h : length (new s) ≤ length c.args.row.now = omega (arith, few s, c.requires.at_le_end.1) in (
      omega arith,
      follows_front fs c.args.at n.result (new s) c.args.row.now n.new.out n.ensures.0 (count g) h
          ((λ i. take (sym l i) (drop c.args.at fs)) ∙ c.same_words.ensures c.if-same_words.true),
    )
