-- The place of the cube, and fewer rows than cubes. Assumes nothing.
use mathlib.Core.Path.{◌≡◌, sym, ap, subst, ◌∙◌}
use mathlib.Core.List.{List}
use Prim.Native.Nat.{ℕ}
use native.Mathlib.Omega.{arith}
use lib.Dec.{T}
use lib.ListN.{length}
use Rattle.paper.specs.Lattice.{Lattice, lattice, cube_no, cube_at, visitable, visited}
use Rattle.paper.proofs.Numbers.{cube_back}
use Rattle.rows.specs.Rows.{HasCubes}
use Rattle.ways.proofs.Ways.{rows_few, beyond_more}
use Rattle.spread.proofs.visit.Goals as goal

-- the same cubes, where the is the same
from_same : (L : Lattice) (j k : ℕ) → j ≡ k → (vis : List ℕ) → HasCubes L.size (visited L j) vis → HasCubes L.size (visited L k) vis
from_same L j k e vis h = subst (λ (k : ℕ). HasCubes L.size (visited L k) vis) e h

may_same : (L : Lattice) (j k : ℕ) → j ≡ k → T (visitable L (cube_at L.size k)) → T (visitable L (cube_at L.size j))
may_same L j k e t = subst (λ (k : ℕ). T (visitable L (cube_at L.size k))) (sym e) t

pub flood_from-requires : goal.flood_from-requires
flood_from-requires c =
    let r = c.args.rows.now in
    record { at_in = c.cube_at.ensures.1; empty = (c.requires.empty.0, omega (arith, rows_few r.sizes r.sized, c.requires.empty.1)) }

pub returns : goal.returns
returns c =
    let z = c.args.rows.now.sizes in
    let s = c.args.rows.now.sized in
    let p = c.requires.k_below in
    let f = c.flood_from in
    let e : cube_no z c.cube_at.result ≡ c.args.k =
    ap (cube_no z) c.cube_at.ensures.0 ∙ cube_back z s c.args.k p in
    record {
      stands = λ v h t.
          record {
            below = p;
            sides = h.sides;
            cubes = from_same (lattice z v) _ _ e _ (f.ensures.visits v h (may_same (lattice z v) _ _ e t)).cubes;
          };
      number = λ v h t.
          (f.ensures.visits v h (may_same (lattice z v) _ _ e t)).number ∙ ap (λ (k : ℕ). length (visited (lattice z v) k)) e;
      beyond = beyond_more _ _ _ _ (rows_few z s) f.ensures.on_waiting;
    }
