-- A vertex record by the ends of its edge as the edge's kind orders them, from tables of the seven kinds. Assumes nothing.
use Rattle.std.specs.Prelude.{◌≡◌, ℕ, ◌+◌, ◌-◌, ◌*◌, ◌/◌, ◌%◌, ◌<◌, ◌≤◌, Bool, cond, T, List, length, ℤ, pos, ◌+ℤ◌, ◌-ℤ◌, ◌*ℤ◌, FitsSigned, slice_index, slice_index_or}
use Rattle.std.specs.Int.{w32}
use Rattle.paper.specs.declared.Sizes.{Sizes}
use Rattle.paper.specs.declared.Rule.{Rule}
use Rattle.paper.specs.Lattice.{Lattice, air, place}
use Rattle.paper.specs.Sheet.{ends_of, crossing, vertex_record}
use Rattle.lattice.specs.Steps.{corner_step}
use Rattle.bits.specs.Words.{bit}
use Rattle.crossing.specs.Vertex.{Crosses}

-- how far a crossing is from the first end, by the values of both ends
unfoldable pub along : Rule → ℤ → ℤ → ℕ
along rule a b = cond (air a) (65536 - crossing rule b a) (crossing rule a b)

-- s units from a coordinate in a direction, as an i32
pub record Stepping (from : ℕ) (dir : ℤ) (s : ℕ) : Type 0 where
  pub low : from < 2147483648
  pub few : s ≤ 65536
  pub product : FitsSigned w32 (dir *ℤ pos s)
  pub sum : FitsSigned w32 (pos from +ℤ dir *ℤ pos s)

-- for each kind: how far its ends are from the anchor, by the numbers of samples; 65,536 times its first end's coordinates, x from the
-- anchor on; the directions of the three axes; a number of its records
pub record Ends (z : Sizes) (y w : ℕ) (off from : List ℕ) (dirs : List ℤ) (main : List ℕ) : Type 0 where
  pub first : (k : ℕ) → k < 7 → slice_index off (2 * k) ≡ corner_step z (ends_of k).a
  pub second : (k : ℕ) → k < 7 → slice_index off (2 * k + 1) ≡ corner_step z (ends_of k).b
  pub from_x : (k : ℕ) → k < 7 → slice_index from (3 * k) ≡ 65536 * ((ends_of k).a % 2)
  pub from_y : (k : ℕ) → k < 7 → slice_index from (3 * k + 1) ≡ 65536 * (y + (ends_of k).a / 2 % 2)
  pub from_z : (k : ℕ) → k < 7 → slice_index from (3 * k + 2) ≡ 65536 * (w + (ends_of k).a / 4)
  pub dir_x : (k : ℕ) → k < 7 → slice_index_or dirs (3 * k) (pos 0) ≡ pos ((ends_of k).b % 2) -ℤ pos ((ends_of k).a % 2)
  pub dir_y : (k : ℕ) → k < 7 → slice_index_or dirs (3 * k + 1) (pos 0) ≡ pos ((ends_of k).b / 2 % 2) -ℤ pos ((ends_of k).a / 2 % 2)
  pub dir_z : (k : ℕ) → k < 7 → slice_index_or dirs (3 * k + 2) (pos 0) ≡ pos ((ends_of k).b / 4) -ℤ pos ((ends_of k).a / 4)
  pub number : (k : ℕ) → k < 7 → slice_index main k ≤ 3

-- and as long as they must be
pub record Long (os fs : List ℕ) (ds : List ℤ) (ms gs xs : List ℕ) : Type 0 where
  pub off : 14 ≤ length os
  pub from : 21 ≤ length fs
  pub dirs : 21 ≤ length ds
  pub main : 7 ≤ length ms
  pub org : 7 ≤ length gs
  pub mask : 7 ≤ length xs

-- ── one record ──

-- the seven words ks of a row of anchors have edge e, counted from the row's first
abbrev pub has_edge : List ℕ → ℕ → Bool
has_edge ks e = bit (slice_index ks (e % 7)) (e / 7)

-- the first n of a row's edges change sides where ks has them
pub record RowCrosses (L : Lattice) (y z n : ℕ) (ks : List ℕ) : Type 0 where
  pub at : (e : ℕ) → e < n → T (has_edge ks e) → Crosses L (place (e / 7) y z) (e % 7)

-- record i of a file's is, by a rule, that of edge e of a row, which has it, and e is at least low
pub record Entry (rule : Rule) (L : Lattice) (ks : List ℕ) (fs : List ℤ) (row i low e : ℕ) : Type 0 where
  pub has : T (has_edge ks e)
  pub rises : low ≤ e
  pub numbers : (j : ℕ) → j < 4 → slice_index_or fs (4 * i + j) (pos 0) ≡ slice_index_or (vertex_record rule L (row + e)) j (pos 0)
