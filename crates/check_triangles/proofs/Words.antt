-- What the word of a cube says. Assumes nothing.
use mathlib.Core.Path.{◌≡◌, ap, ap₂, ◌∙◌}
use mathlib.Core.Bool.{Bool, cond}
use mathlib.Core.List.{List}
use Prim.Native.Nat.{ℕ, ◌+◌, ◌%◌, ◌<◌}
use native.Mathlib.Omega.{arith}
use lib.ListN.{get_or}
use Rattle.lists.proofs.Member.{t_to_eq}
use Rattle.lists.specs.Lists.{is_in}
use Rattle.lists.proofs.Runs.{at_along}
use Rattle.paper.specs.Lattice.{Lattice, cubes, cube_at, in_lattice}
use Rattle.paper.specs.Sheet.{cube_triangles}
use Rattle.paper.specs.Within.{Sized}
use Rattle.paper.proofs.Numbers.{cube_inside, cube_back}
use Rattle.paper.proofs.Visits.{lattice_in}
use Rattle.sides.specs.Pattern.{pattern_at}
use Rattle.sides.proofs.Laws.{pattern_lt}
use Rattle.tetra.specs.Cut.{triangles_by}
use Rattle.tetra.proofs.Laws.{cube_triangles_by}
use Rattle.rows.specs.Rows.{HasRows, HasCubes, is_one_of}
use Rattle.rows.proofs.Cubes.{pattern_is}
use Rattle.check_triangles.specs.Words.{base_of, word_of, word_by, words_by}

-- the word that a visited cube has: its pattern, which gives its triangles
pub record Worded (L : Lattice) (word k : ℕ) : Type 0 where
  pub some : word ≡ 0 → ⊥
  pub pattern : word % 256 ≡ pattern_at L (cube_at L.size k)
  pub triangles : triangles_by L.size (base_of L.size k) (word % 256) ≡ cube_triangles L k

pub worded : (L : Lattice) (k word : ℕ) → word ≡ word_of L k → Worded L word k
unfolding word_of base_of
worded L k word e =
    let z = L.size in
    let q : word % 256 ≡ pattern_at L (cube_at z k) = omega (arith, pattern_lt L (cube_at z k)) in
    record { some = λ o. omega arith; pattern = q; triangles = ap (triangles_by z (base_of z k)) q ∙ cube_triangles_by L k }

-- by the rows of a lattice and of some of its cubes
pub words_by_law : (L : Lattice) (rows : List ℕ) → HasRows L rows → (vs vis : List ℕ) → HasCubes L.size vs vis → Sized L.size → (k : ℕ)
    → k < cubes L.size → get_or (words_by L.size rows vis) k 0 ≡ cond (is_in vs k) (word_of L k) 0
unfolding words_by word_by word_of is_one_of
words_by_law L rows H vs vis C s k h =
    let z = L.size in
    let p = cube_at z k in
    let c = cube_inside z s k h in
    let back = cube_back z s k h in
    let there : is_one_of z vs p ≡ is_in vs k = rw (t_to_eq (in_lattice z p) (lattice_in z p c)) (ap (is_in vs) back) in
    at_along (λ k. word_by z rows vis (cube_at z k)) 0 (cubes z) k h
    ∙ ap₂ (λ (b : Bool) (m : ℕ). cond b (256 + m) 0)
    (C.at p.y p.z p.x (omega (arith, c.y)) (omega (arith, c.z)) ∙ there) (pattern_is L rows H p c)
