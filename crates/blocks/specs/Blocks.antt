-- Blocks of cubes, their eight parts, and rows of cubes that are marked. Assumes nothing.
use Rattle.std.specs.Prelude.{◌≡◌, Bool, false, cond, ◌&&◌, ◌||◌, List, ℕ, ◌+◌, ◌*◌, ◌/◌, ◌%◌, ◌^◌, ◌≤◌, ◌<◌, T, eqb, leb, ltb, length, get_or, ◌⊎◌}
use Rattle.lists.specs.Lists.{range, keep, any}
use Rattle.paper.specs.declared.Sizes.{Sizes}
use Rattle.paper.specs.declared.Place.{Place}
use Rattle.paper.specs.Lattice.{Lattice, place, air_at, in_lattice, crossed, cubes}
use Rattle.paper.specs.Within.{SampleIn, CubeIn}
use Rattle.bits.specs.Words.{bit}
use Rattle.rows.specs.Rows.{crossed_by}

-- a is one of the n numbers from x on
unfoldable pub within : ℕ → ℕ → ℕ → Bool
within x n a = leb x a && ltb a (x + n)

-- p is one of the n x n x n places from b on
unfoldable pub in_block : Place → ℕ → Place → Bool
in_block b n p = within b.x n p.x && (within b.y n p.y && within b.z n p.z)

-- p is one of the i x j x k places from b on
unfoldable pub in_box : Place → ℕ → ℕ → ℕ → Place → Bool
in_box b i j k p = within b.x i p.x && (within b.y j p.y && within b.z k p.z)

-- where the near half (d = 0) or the far half of an axis begins, each being h long
unfoldable pub half_at : ℕ → ℕ → ℕ → ℕ
half_at a h d = cond (eqb d 0) a (a + h)

-- part k of eight: x within y within z
unfoldable pub part : Place → ℕ → ℕ → Place
part b h k = place (half_at b.x h (k % 2)) (half_at b.y h (k / 2 % 2)) (half_at b.z h (k / 4))

-- p is in one of the first k parts
unfoldable pub in_parts : Place → ℕ → ℕ → Place → Bool
in_parts b h k p = any (λ i. in_block (part b h i) h p) (range 0 k)

-- a block that can be halved down to one cube, and whose numbers stay small
pub record Block (b : Place) (n : ℕ) : Type 0 where
  pub level : ℕ
  pub is : n ≡ 2 ^ level
  pub x : b.x + n ≤ 64
  pub y : b.y + n ≤ 64
  pub z : b.z + n ≤ 64

-- r is the lesser of a and b
abbrev pub Lesser : ℕ → ℕ → ℕ → Type 0
Lesser a b r = (r ≤ a) × (r ≤ b) × ((i : ℕ) → i < a → i < b → i < r)

-- the side of the sample at p, by rows of a lattice of size z
unfoldable pub side_by : Sizes → List ℕ → Place → Bool
side_by z rows p = bit (get_or rows (p.y + z.ny * p.z) 0) p.x

-- the samples of a block of n x n x n cubes, those of the lattice, are all on side s
abbrev pub OnSide : Sizes → List ℕ → Place → ℕ → Bool → Type 0
OnSide z rows b n s = (p : Place) → SampleIn z p → T (in_block b (n + 1) p) → side_by z rows p ≡ s

-- they are all on one side
abbrev pub OneSide : Sizes → List ℕ → Place → ℕ → Type 0
OneSide z rows b n = (s : Bool) × OnSide z rows b n s

-- the same of a lattice
abbrev pub OneSided : Lattice → Place → ℕ → Type 0
OneSided L b n = (s : Bool) × ((p : Place) → SampleIn L.size p → T (in_block b (n + 1) p) → air_at L p ≡ s)

-- the block at b begins beyond the lattice
abbrev pub Outside : Sizes → Place → Type 0
Outside z b = (z.nx ≤ b.x + 1) ⊎ ((z.ny ≤ b.y + 1) ⊎ (z.nz ≤ b.z + 1))

-- no cube of the block is crossed, by rows of sides and of cubes that may be visited
abbrev pub Quiet : Sizes → List ℕ → List ℕ → Place → ℕ → Type 0
Quiet z rows may b n = (p : Place) → CubeIn z p → T (in_block b n p) → crossed_by z rows may p ≡ false

-- at p there is a crossed cube, and p passes t
unfoldable pub crossed_where : Sizes → List ℕ → List ℕ → (Place → Bool) → Place → Bool
crossed_where z rows may t p = in_lattice z p && (t p && crossed_by z rows may p)

-- the places that pass t are marked, the others as they were
pub record Marked (z : Sizes) (t : Place → Bool) (old new : List ℕ) : Type 0 where
  pub long : length new ≡ length old
  pub at : (y w x : ℕ) → y < z.ny → w < z.nz
      → bit (get_or new (y + z.ny * w) 0) x ≡ (t (place x y w) || bit (get_or old (y + z.ny * w) 0) x)

-- the first n words are there, and are 0
pub record Blank (n : ℕ) (l : List ℕ) : Type 0 where
  pub fit : n ≤ length l
  pub none : (r : ℕ) → r < n → get_or l r 0 ≡ 0

-- the crossed cubes of a lattice, by rising number
unfoldable pub crossed_cubes : Lattice → List ℕ
crossed_cubes L = keep (crossed L) (range 0 (cubes L.size))
