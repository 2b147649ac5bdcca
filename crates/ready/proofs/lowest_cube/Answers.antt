-- Some cube is wanted where the lowest is one of the cubes. Assumes nothing.
use borrow.Author.Tests.{lt-ltb, le-ltb}
use mathlib.Core.Path.{◌≡◌, refl, ◌∙◌}
use mathlib.Core.Bool.{Bool, true, false}
use Prim.Native.Nat.{ℕ, ◌<◌}
use native.Mathlib.Omega.{arith}
use lib.Dec.{ltb}
use Rattle.std.specs.Prelude.{Option, Some, None, IfSome, unwrap_or, ok_or}
use Rattle.paper.specs.declared.Refusal.TheVariants.{NotCrossed}
use Rattle.paper.specs.declared.Sizes.{Sizes}
use Rattle.paper.specs.Lattice.{Lattice, cubes, crossed, lowest, may_start}
use Rattle.paper.specs.Build.{named, start_of, starts, start_tests}
use Rattle.paper.proofs.Starts.{some_lowest}
use Rattle.rows.specs.Rows.{wanted}
use Rattle.ready.specs.Ready.{unplaced, Chosen}
use Rattle.ready.proofs.lowest_cube.Goals as goal

-- what the tests and the start are without a place
no_place : (z : Sizes) (off : Bool) → named z (unplaced off) ≡ true
no_place z true = refl
no_place z false = refl

some : (L : Lattice) (off : Bool) → starts L (unplaced off) ≡ ltb (lowest L.size (wanted off L)) (cubes L.size)
some L true = some_lowest L.size (may_start L)
some L false = some_lowest L.size (crossed L)

start_is : (L : Lattice) (off : Bool) → lowest L.size (wanted off L) ≡ start_of L (unplaced off)
start_is L true = refl
start_is L false = refl

-- by what is found
chosen : (L : Lattice) (off : Bool) (o : Option ℕ) → IfSome o (λ k. k < cubes L.size)
    → unwrap_or o (cubes L.size) ≡ lowest L.size (wanted off L)
    → Chosen L (unplaced off) (ok_or o NotCrossed)
unfolding start_tests
chosen L off None h e = record {
  answer = rw (no_place L.size off, some L off ∙ le-ltb (lowest L.size (wanted off L)) (cubes L.size) (omega (arith, e)));
  is = tt;
  below = tt;
}
chosen L off (Some k) h e = record {
  answer = rw (no_place L.size off, some L off ∙ lt-ltb (lowest L.size (wanted off L)) (cubes L.size) (omega (arith, e, h)));
  is = e ∙ start_is L off;
  below = h;
}

pub returns-in-Some : goal.returns-in-Some
returns-in-Some c =
    let e = c.in-Some.ensures in
    record { of = λ v h. chosen _ c.args.off (Some c.in-Some.k) e.below (e.lowest v h) }

pub returns-in-None : goal.returns-in-None
returns-in-None c =
    let e = c.in-None.ensures in
    record { of = λ v h. chosen _ c.args.off None e.below (e.lowest v h) }
