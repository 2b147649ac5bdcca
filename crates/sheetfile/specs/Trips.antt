-- What a round trip gives back. Assumes nothing.
use Rattle.std.specs.Prelude.{◌≡◌, List, ℕ, ℤ}
use Rattle.paper.specs.declared.Sizes.{Sizes}
use Rattle.lists.specs.Lists.{over}
use Rattle.paper.specs.declared.Got.{Got}
use Rattle.paper.specs.Tests.{verdict, judge}
use Rattle.paper.specs.File.{file_v, file_t, file_sizes, file_vertices, file_triangles, file_tests}

-- a file that passes its tests and gives these counts, sizes, records and triangles
pub record Holds (bs : List ℕ) (z : Sizes) (nv nt : ℕ) (vs : List ℤ) (ts : List ℕ) : Type 0 where
  pub passes : judge (file_tests bs) ≡ verdict 0 0
  pub count_v : file_v bs ≡ nv
  pub count_t : file_t bs ≡ nt
  pub sizes : file_sizes bs ≡ z
  pub vertices : file_vertices bs ≡ vs
  pub triangles : file_triangles bs ≡ ts

-- a reader's success with these, at the front of what it was lent
pub record Returned (z : Sizes) (nv nt : ℕ) (xs : List ℤ) (ys : List ℕ) (vs : List ℤ)
    (ts : List ℕ) (g : Got) (vs' : List ℤ) (ts' : List ℕ) : Type 0 where
  pub answer : g ≡ record { number = 0; place = 0; vertices = nv; triangles = nt; sizes = z }
  pub vertices : vs' ≡ over xs vs
  pub triangles : ts' ≡ over ys ts
