-- The cube that can hold the triangle, and the place there. Assumes nothing.
use mathlib.Core.Path.{◌≡◌, sym, ap, ◌∙◌}
use mathlib.Core.List.{List}
use Prim.Native.Nat.{ℕ, ◌+◌, ◌*◌, ◌<◌, ◌≤◌}
use native.Mathlib.Omega.{arith}
use lib.ListN.{get_or}
use Rattle.lists.proofs.Runs.{at_along}
use Rattle.paper.specs.declared.Sizes.{Sizes}
use Rattle.paper.specs.declared.Place.{Place}
use Rattle.paper.specs.Lattice.{sample_no, cubes, cube_at}
use Rattle.paper.specs.Tables.{Tri}
use Rattle.lattice.proofs.Laws.{samples_few}
use Rattle.tetra.specs.Cut.{tri_of}
use Rattle.check_triangles.specs.Words.{base_of, word_by, words_by}
use Rattle.check_triangles.specs.Triples.{place_from, place_of}
use Rattle.check_triangles.proofs.Laws.{searched, out_of, idle_in, placed_in}
use Rattle.check_triangles.proofs.search.Goals as goal
use Rattle.check_triangles.proofs.search.Goals.{After-cube_at-p, After-sample_no-base, In_ok-pattern, Start}

abbrev words : goal.Start → List ℕ
words s = let w = s.args.rows.now in words_by w.sizes w.sides.now w.cubes.now

abbrev t : goal.Start → Tri
t s = tri_of s.args.t

-- the word of the cube
module _ (c : goal.After-cube_at-p) where
  inside : c.holder_of-cube.result < cubes c.args.rows.now.sizes
  inside = omega (arith, c.if-cube_count-cube.false, c.cube_count.ensures)

  word : let w = c.args.rows.now in
      word_by w.sizes w.sides.now w.cubes.now c.cube_at-p.result
      ≡ get_or (words (goal.at.After-cube_at-p c).Start) c.holder_of-cube.result 0
  unfolding words_by
  word =
      let w = c.args.rows.now in
      let f : Place → ℕ = word_by w.sizes w.sides.now w.cubes.now in
      ap f c.cube_at-p.ensures.0 ∙ sym (at_along (λ k. f (cube_at w.sizes k)) 0 (cubes w.sizes) c.holder_of-cube.result inside)

-- its base, and where a search there leads
module _ (c : goal.After-sample_no-base) where
  base : 7 * c.sample_no-base.result ≡ base_of c.args.rows.now.sizes c.holder_of-cube.result
  unfolding base_of
  base =
      let z = c.args.rows.now.sizes in
      ap (λ (n : ℕ). 7 * n) (c.sample_no-base.ensures.0 ∙ ap (sample_no z) c.cube_at-p.ensures.0)

  has : get_or (words (goal.at.After-sample_no-base c).Start) c.holder_of-cube.result 0 ≡ 256 + c.in_ok-pattern.pattern
  has = sym (word (goal.at.After-sample_no-base c).After-cube_at-p) ∙ c.in_ok-pattern.ensures.0

  small : 7 * c.sample_no-base.result ≤ 2000000
  small = omega (arith, c.sample_no-base.ensures, samples_few c.args.rows.now.sizes c.args.rows.now.sized)

  there : let s = (goal.at.After-sample_no-base c).Start in
      place_from c.args.cut.now.sizes (7 * c.sample_no-base.result) c.in_ok-pattern.pattern (t s) 0
      ≡ place_of c.args.rows.now.sizes (words s) (t s)
  there =
      let s = (goal.at.After-sample_no-base c).Start in
      let z = c.args.rows.now.sizes in
      let k = c.holder_of-cube in
      let m = c.in_ok-pattern in
      let h = inside (goal.at.After-sample_no-base c).After-cube_at-p in
      ap (λ (z : Sizes). place_from z (7 * c.sample_no-base.result) m.pattern (t s) 0) c.requires.0
      ∙ (searched z (words s) k.result (t s) (7 * c.sample_no-base.result) m.pattern h base has m.ensures.1
      ∙ placed_in z (words s) (t s) k.result k.ensures)

pub returns-then-cube_count-cube : goal.returns-then-cube_count-cube
returns-then-cube_count-cube c =
    let s = (goal.at.returns-then-cube_count-cube c).Start in
    out_of _ (words s) (t s) c.holder_of-cube.result c.holder_of-cube.ensures
    (omega (arith, c.if-cube_count-cube.true, c.cube_count.ensures))

pub returns-in_err-pattern : goal.returns-in_err-pattern
returns-in_err-pattern c =
    let s = (goal.at.returns-in_err-pattern c).Start in
    rw c.from_residual.ensures
    (idle_in _ (words s) (t s) c.holder_of-cube.result c.holder_of-cube.ensures
    (sym (word (goal.at.returns-in_err-pattern c).After-cube_at-p) ∙ c.in_err-pattern.ensures))

pub overflow_mul-base : goal.overflow_mul-base
overflow_mul-base c = omega (arith, small (goal.at.overflow_mul-base c).After-sample_no-base)

pub place_from-requires : goal.place_from-requires
place_from-requires c = (small (goal.at.place_from-requires c).After-sample_no-base, omega arith)

pub returns-in_err-place : goal.returns-in_err-place
returns-in_err-place c =
    rw c.from_residual-in_err-place.ensures
    (sym (there (goal.at.returns-in_err-place c).After-sample_no-base) ∙ c.in_err-place.ensures)

pub returns : goal.returns
returns c =
    let g = (goal.at.returns c).After-sample_no-base in
    record {
      place = sym c.in_ok-place.ensures.0 ∙ there g;
      cube = c.holder_of-cube.ensures;
      based = record {
        cube = inside (goal.at.returns c).After-cube_at-p;
        base = base g;
        word = has g;
        pattern = c.in_ok-pattern.ensures.1;
        place = c.in_ok-place.ensures.1;
      };
    }
