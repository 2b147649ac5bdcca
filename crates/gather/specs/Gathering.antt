-- What the pass over the cubes holds when it comes to a cube. Assumes nothing.
use Rattle.std.specs.Prelude.{◌≡◌, List, ℕ, ◌+◌, ◌-◌, ◌*◌, ◌≤◌, ◌<◌, ℤ, length}
use Rattle.std.proofs.lemmas.List.Edits.{sets}
use Rattle.lists.specs.Lists.{each, Beyond}
use Rattle.paper.specs.declared.Sizes.{Sizes}
use Rattle.paper.specs.Lattice.{Lattice, lattice, place, cubes, cube_no, crossed, visited}
use Rattle.bits.specs.Words.{bit}
use Rattle.rows.specs.Rows.{HasBoth, HasCubes}
use Rattle.ways.specs.Ways.{rows_of, plan_of}
use Rattle.spread.specs.Flooded.{Closed}
use Rattle.tray.specs.Pieces.{scanned}

-- the rows of cubes that lie in a piece so far, the list of waiting rows, and the list of lowest cubes with how many they are
pub record Held : Type 0 where
  pub vis : List ℕ
  pub waiting : List ℕ
  pub list : List ℕ
  pub count : ℕ

abbrev pub held : List ℕ → List ℕ → List ℕ → ℕ → Held
held v w l n = record { vis = v; waiting = w; list = l; count = n }

-- the pass can go on from cube k: with a cube its piece is marked, and there is room
pub record Fit (z : Sizes) (rows may : List ℕ) (k : ℕ) (h : Held) : Type 0 where
  pub closed : Closed (plan_of z rows may) h.vis
  pub few : h.count ≤ k
  pub wide : rows_of z ≤ length h.waiting
  pub long : cubes z ≤ length h.list

-- the pieces that begin before cube k are marked, and their lowest cubes stand at the front of the list
pub record Gathered (L : Lattice) (k : ℕ) (old : List ℕ) (h : Held) : Type 0 where
  pub cubes : HasCubes L.size (each (visited L) (scanned L k)) h.vis
  pub listed : h.list ≡ sets old 0 (scanned L k)
  pub number : h.count ≡ length (scanned L k)

-- the pass that began with `first` has come to cube k, of any lattice that has these rows, of sides and of cubes that may be
-- visited; where it found nothing nothing waited
pub record Passed (z : Sizes) (rows may : List ℕ) (k : ℕ) (first h : Held) : Type 0 where
  pub gathered : (s : List ℤ) → let L = lattice z s in HasBoth L rows may → Gathered L k first.list h
  pub idle : h.count ≡ 0 → h.waiting ≡ first.waiting
  pub on_waiting : Beyond (rows_of z) first.waiting h.waiting
  pub on_list : Beyond (cubes z) first.list h.list

-- from cube j the pass goes to cube k
pub record Leads (z : Sizes) (rows may : List ℕ) (j k : ℕ) (before after : Held) : Type 0 where
  pub fit : Fit z rows may k after
  pub passed : (first : Held) → Passed z rows may j first before → Passed z rows may k first after

-- m has the crossed cubes of the row at y and w
abbrev pub HasCrossed : Sizes → List ℕ → List ℕ → ℕ → ℕ → ℕ → Type 0
HasCrossed z rows may y w m = (s : List ℤ) → let L = lattice z s in
    HasBoth L rows may → (x : ℕ) → x + 1 < z.nx → bit m x ≡ crossed L (cube_no z (place x y w))

-- the number of the first cube of the row at y and w
abbrev pub row_start : Sizes → ℕ → ℕ → ℕ
row_start z y w = (z.nx - 1) * (y + (z.ny - 1) * w)
