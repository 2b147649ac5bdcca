-- Gates and doors of rows of cubes, made from rows of sides and of the cubes that may be visited: row r = y + ny·z of cubes lies between
-- the words r, r + 1, r + ny and r + ny + 1. Assumes nothing.
use Rattle.std.specs.Prelude.{Bool, cond, ◌&&◌, List, ℕ, zero, suc, ◌+◌, ◌-◌, ◌*◌, ◌/◌, ◌%◌, ◌<◌, ltb, get_or}
use Rattle.std.specs.Int.Bits.{bit_and}
use Rattle.paper.specs.declared.Sizes.{Sizes}
use Rattle.rows.specs.declared.Quad.{Quad}
use Rattle.rows.specs.Rows.{quad_at, gate_row, face_row}
use Rattle.ways.specs.Plan.{Plan}
use Rattle.ways.specs.declared.Out.{Out}

-- the places x at which the face between cubes x - 1 and x is mixed, and both may be visited
abbrev pub gate_at : Sizes → List ℕ → List ℕ → ℕ → ℕ
gate_at z rows may r = gate_row (quad_at rows z.ny r) (get_or may r 0)

-- whether there is a way out of row r at the low and the high y end and at the low and the high z end, and the row that it leads to
unfoldable pub is_way : Sizes → ℕ → ℕ → Bool
is_way z r zero = ltb 0 (r % z.ny)
is_way z r (suc zero) = ltb (r % z.ny + 2) z.ny
is_way z r (suc (suc zero)) = ltb 0 (r / z.ny)
is_way z r (suc (suc (suc k))) = ltb (r / z.ny + 2) z.nz

unfoldable pub next_row : Sizes → ℕ → ℕ → ℕ
next_row z r zero = r - 1
next_row z r (suc zero) = r + 1
next_row z r (suc (suc zero)) = r - z.ny
next_row z r (suc (suc (suc k))) = r + z.ny

-- none out of row r leads nowhere, by a door that is closed
abbrev pub no_way : ℕ → Out
no_way r = record { to = r; door = 0 }

-- a way out of row r: where there is one, to another row, by a door
abbrev pub way_by : Bool → ℕ → ℕ → ℕ → Out
way_by there to r door = record { to = cond there to r; door = cond there door 0 }

-- way k, by the mixed ones of the faces k + 2
abbrev pub way_at : Sizes → Quad → ℕ → ℕ → Out
way_at z q r k = way_by (is_way z r k) (next_row z r k) r (face_row q (k + 2))

-- where it leads, and its door to the cubes that may be visited there
abbrev pub beside_by : Sizes → Quad → ℕ → ℕ → ℕ
beside_by z q r k = (way_at z q r k).to

abbrev pub door_by : Sizes → List ℕ → Quad → ℕ → ℕ → ℕ
door_by z may q r k = bit_and (way_at z q r k).door (get_or may (beside_by z q r k) 0)

abbrev pub beside_at : Sizes → List ℕ → ℕ → ℕ → ℕ
beside_at z rows r = beside_by z (quad_at rows z.ny r) r

abbrev pub door_at : Sizes → List ℕ → List ℕ → ℕ → ℕ → ℕ
door_at z rows may r = door_by z may (quad_at rows z.ny r) r

-- how many words there are
abbrev pub words : Sizes → ℕ
words z = z.ny * z.nz

-- how many rows of cubes there are
abbrev pub rows_of : Sizes → ℕ
rows_of z = (z.ny - 1) * (z.nz - 1)

-- the test of a row of cubes
unfoldable pub is_row : Sizes → ℕ → Bool
is_row z r = ltb (r % z.ny + 1) z.ny && ltb (r / z.ny + 1) z.nz

-- r is a row of cubes
pub record RowIn (z : Sizes) (r : ℕ) : Type 0 where
  pub inner : r % z.ny + 1 < z.ny
  pub outer : r / z.ny + 1 < z.nz

abbrev pub plan_of : Sizes → List ℕ → List ℕ → Plan
plan_of z rows may = record {
  size = words z;
  room = rows_of z;
  is_row = is_row z;
  gate = gate_at z rows may;
  door = door_at z rows may;
  beside = beside_at z rows;
}
