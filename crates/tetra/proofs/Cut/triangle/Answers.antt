-- The three edges, each by its step. Assumes nothing.
use mathlib.Core.Path.{◌≡◌, sym, ◌∙◌}
use Prim.Native.Nat.{ℕ, ◌+◌, ◌*◌, ◌≤◌, ◌<◌}
use native.Mathlib.Omega.{arith}
use lib.ListN.{get_or}
use Rattle.paper.specs.Tables.{tri}
use Rattle.tetra.specs.Cut.{tet_step, row_edge}
use Rattle.tetra.proofs.Tables.{count_le, edge_six}
use Rattle.tetra.proofs.Laws.{row_step_at, row_triangle, tet_step_small}
use Rattle.tetra.proofs.Cut.triangle.Goals as goal
use Rattle.tetra.proofs.Cut.triangle.Goals.{Start}

module _ (s : goal.Start) where
  -- the triangle is one of two
  two : s.args.j < 2
  two = omega (arith, s.requires.2, count_le s.args.r)

  -- the step at edge k of the row
  at : (i k : ℕ) → i ≡ 96 * s.args.t + (6 * s.args.r + k) → k < 6
      → get_or s.args.self.now.steps i 0 ≡ tet_step s.args.self.now.sizes s.args.t (row_edge s.args.r k)
  at i k e h =
      let cut = s.args.self.now in
      (λ j. get_or (cut.stepped j) (e j) 0) ∙ row_step_at cut.sizes s.args.t s.args.r k s.requires.0 s.requires.1 h

  small : (i k : ℕ) → i ≡ 96 * s.args.t + (6 * s.args.r + k) → k < 6 → get_or s.args.self.now.steps i 0 ≤ 29133
  small i k e h =
      let cut = s.args.self.now in
      let six = edge_six s.args.r k s.requires.1 h in
      omega (arith, at i k e h, tet_step_small cut.sizes cut.sized s.args.t (row_edge s.args.r k) s.requires.0 six)

pub overflow_add-result : goal.overflow_add-result
overflow_add-result c =
    let s = (goal.at.overflow_add-result c).Start in
    let k = 3 * c.args.j in
    omega (arith, small s (96 * c.args.t + 6 * c.args.r + k) k (omega arith) (omega (arith, two s)))

pub overflow_add-result-3 : goal.overflow_add-result-3
overflow_add-result-3 c =
    let s = (goal.at.overflow_add-result-3 c).Start in
    let k = 3 * c.args.j in
    omega (arith, small s (96 * c.args.t + 6 * c.args.r + k + 1) (k + 1) (omega arith) (omega (arith, two s)))

pub overflow_add-result-5 : goal.overflow_add-result-5
overflow_add-result-5 c =
    let s = (goal.at.overflow_add-result-5 c).Start in
    let k = 3 * c.args.j in
    omega (arith, small s (96 * c.args.t + 6 * c.args.r + k + 2) (k + 2) (omega arith) (omega (arith, two s)))

pub returns : goal.returns
returns c =
    let s = (goal.at.returns c).Start in
    let a = c.args in
    let k = 3 * a.j in
    let i = 96 * a.t + 6 * a.r + k in
    let h = two s in
    let e = at s i k (omega arith) (omega arith) in
    let f = at s (i + 1) (k + 1) (omega arith) (omega arith) in
    let g = at s (i + 2) (k + 2) (omega arith) (omega arith) in
    (λ i. tri (a.base + e i) (a.base + f i) (a.base + g i)) ∙ sym (row_triangle a.self.now.sizes a.base a.t a.r a.j c.requires.2)
