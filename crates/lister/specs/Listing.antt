-- Document 01, "The listing program": what it reads, its tests and its answer. Assumes nothing.
use Rattle.std.specs.Prelude.{◌≡◌, Bool, cond, ◌&&◌, List, [], ◌∷◌, map, ℕ, ◌+◌, ◌*◌, ℤ, pos, leb, eqb, length, replicate}
use Rattle.lists.specs.Lists.{range}
use Rattle.lists.specs.Bytes.{signed, field}
use Rattle.paper.specs.declared.Sizes.{Sizes}
use Rattle.paper.specs.declared.Built.{Built}
use Rattle.paper.specs.declared.Start.TheVariants.{Lowest}
use Rattle.paper.specs.Lattice.{Lattice, lattice, axes, samples}
use Rattle.paper.specs.Tests.{Test, test, judge}
use Rattle.paper.specs.Sheet.{record_length}
use Rattle.paper.specs.Room.{work}
use Rattle.paper.specs.Build.{Lent, lent, uncounted, built, lent_after}

-- the signed 16-bit number that bits give
abbrev pub signed16 : ℕ → ℤ
signed16 n = signed 32768 n

-- "nx, ny, nz (u16)", "little-endian"
unfoldable pub listed_sizes : List ℕ → Sizes
listed_sizes bs = record { nx = field 2 bs 0; ny = field 2 bs 2; nz = field 2 bs 4 }

-- "and the samples (i16, by sample number)"
unfoldable pub listed_samples : List ℕ → List ℤ
listed_samples bs = map (λ i. signed16 (field 2 bs (6 + 2 * i))) (range 0 (samples (listed_sizes bs)))

unfoldable pub listed_lattice : List ℕ → Lattice
listed_lattice bs = lattice (listed_sizes bs) (listed_samples bs)

-- "Its own room is 8 samples an axis"
unfoldable pub listable : Sizes → Bool
listable z = leb z.nx 8 && leb z.ny 8 && leb z.nz 8

-- "(above that, refusal 1)", "Under six bytes is refusal 1; any wrong byte count after is refusal 2."
unfoldable pub listing_tests : List ℕ → List Test
listing_tests bs =
    test 1 (leb 6 (length bs))
    ∷ test 1 (axes (listed_sizes bs))
    ∷ test 1 (listable (listed_sizes bs))
    ∷ test 2 (eqb (length bs) (6 + 2 * samples (listed_sizes bs)))
    ∷ []

unfoldable pub listing_number : List ℕ → ℕ
listing_number bs = (judge (listing_tests bs)).number

-- "Its own room is .. 1,000 vertices and 2,000 triangles."
abbrev pub vertex_numbers : ℕ
vertex_numbers = record_length * 1000

abbrev pub triangle_numbers : ℕ
triangle_numbers = 3 * 2000

-- what a listing lends: two slices for the sheet, and work room for 8 samples an axis
unfoldable pub listing_room : List ℤ → List ℕ → Lent
listing_room vs ts = lent vs ts (work (replicate 343 0) (replicate 343 0) (replicate 3584 0))

unfoldable pub own_room : Lent
own_room = listing_room (replicate vertex_numbers (pos 0)) (replicate triangle_numbers 0)

-- "and names no start"; "The listing program .. now ask for the old one by name" (02 (iv)), the lowest crossed cube: the answer, the first
-- test that fails, or what a build in that room answers
unfoldable pub listed : List ℕ → Built
listed bs =
    let n = listing_number bs in
    cond (eqb n 0) (built (listed_lattice bs) Lowest own_room) (uncounted n)

-- what the room for the sheet then holds
unfoldable pub listed_after : List ℕ → List ℤ → List ℕ → Lent
listed_after bs vs ts =
    cond (eqb (listing_number bs) 0) (lent_after (listed_lattice bs) Lowest (listing_room vs ts)) (listing_room vs ts)

-- the contract of a listing: its answer, and the sheet that it leaves
pub record Lists (bs : List ℕ) (vs : List ℤ) (ts : List ℕ) (r : Built) (vs' : List ℤ) (ts' : List ℕ) : Type 0 where
  pub answer : r ≡ listed bs
  pub vertices : vs' ≡ (listed_after bs vs ts).vertices
  pub triangles : ts' ≡ (listed_after bs vs ts).triangles
