-- Axis by axis. Assumes nothing.
use Rattle.std.proofs.Common.{◌≡◌, ℕ, zero, suc, ◌+◌, ◌*◌, ◌/◌, ◌%◌, ◌≤◌, get_or, ℤ, pos, ◌+ℤ◌, ◌-ℤ◌, ◌*ℤ◌, sym, ◌∙◌, subst, arith, to_z-of_z, w32, SFits, to_z, of_z}
use Rattle.paper.specs.Lattice.{corner}
use Rattle.paper.specs.Sheet.{ends_of, coordinate}
use Rattle.paper.specs.File.{file_vertices}
use Rattle.crossing.specs.Vertex.{Near}
use Rattle.check_entries.specs.Entries.{Stepping, Ends}
use Rattle.check_entries.proofs.Laws.{stepping, steps_to_law}
use Rattle.check_entries.proofs.Vertices.{ends_lt}
use Rattle.check_entries.proofs.Lines.same_places.Goals as goal
use Rattle.check_entries.proofs.Lines.same_places.Goals.{Start, then-stands, else-stands}

-- a direction
dir_fits : (a b : ℕ) → a ≤ 1 → b ≤ 1 → SFits w32 (pos b -ℤ pos a)
dir_fits zero zero h k = record { sfits = omega arith }
dir_fits zero (suc zero) h k = record { sfits = omega arith }
dir_fits (suc zero) zero h k = record { sfits = omega arith }
dir_fits (suc zero) (suc zero) h k = record { sfits = omega arith }
dir_fits (suc (suc a)) b h k = absurd (omega arith)
dir_fits a (suc (suc b)) h k = absurd (omega arith)

-- as it is read
read : (z : ℤ) (a b : ℕ) → a ≤ 1 → b ≤ 1 → z ≡ pos b -ℤ pos a → to_z w32 (of_z w32 z) ≡ pos b -ℤ pos a
read z a b h k e = to_z-of_z (subst (SFits w32) (sym e) (dir_fits a b h k)) ∙ e

module _ (s : goal.Start) where
  abbrev a : ℕ
  a = (ends_of s.args.kind).a

  abbrev b : ℕ
  b = (ends_of s.args.kind).b

  abbrev x : ℕ
  x = s.args.x

  abbrev y : ℕ
  y = s.args.self.now.y

  abbrev z : ℕ
  z = s.args.self.now.z

  abbrev at : ℕ
  at = 3 * s.args.kind

  -- where the edge starts, and its directions as they are read
  abbrev from : ℕ → ℕ
  from i = get_or s.args.self.now.from.now i 0

  abbrev dir : ℕ → ℤ
  dir i = to_z w32 (of_z w32 (get_or s.args.self.now.dirs.now i (pos 0)))

  abbrev number : ℕ → ℤ
  number j = get_or (file_vertices s.args.file.now.bytes.now) (4 * s.args.i + j) (pos 0)

  abbrev E : Ends s.args.self.now.sizes y z s.args.self.now.off.now s.args.self.now.from.now s.args.self.now.dirs.now s.args.self.now.main.now
  E = s.args.self.now.ends

  abbrev AtX : Type 0
  AtX = number 1 ≡ pos (coordinate (x + a % 2) (x + b % 2) s.args.s)

  abbrev AtY : Type 0
  AtY = number 2 ≡ pos (coordinate (y + a / 2 % 2) (y + b / 2 % 2) s.args.s)

  near_x : Near (x + a % 2) (x + b % 2)
  unfolding corner
  near_x = s.requires.near_places.x

  near_y : Near (y + a / 2 % 2) (y + b / 2 % 2)
  unfolding corner
  near_y = s.requires.near_places.y

  near_z : Near (z + a / 4) (z + b / 4)
  unfolding corner
  near_z = s.requires.near_places.z

  from_x : 65536 * x + from at ≡ 65536 * (x + a % 2)
  from_x = omega (arith, E.from_x s.args.kind s.requires.few.1)

  dir_x : dir at ≡ pos (b % 2) -ℤ pos (a % 2)
  dir_x = read _ (a % 2) (b % 2) (omega arith) (omega arith) (E.dir_x s.args.kind s.requires.few.1)

  dir_y : dir (at + 1) ≡ pos (b / 2 % 2) -ℤ pos (a / 2 % 2)
  dir_y = read _ (a / 2 % 2) (b / 2 % 2) (omega arith) (omega arith) (E.dir_y s.args.kind s.requires.few.1)

  dir_z : dir (at + 2) ≡ pos (b / 4) -ℤ pos (a / 4)
  dir_z =
      let e = ends_lt s.args.kind s.requires.few.1 in
      read _ (a / 4) (b / 4) (omega (arith, e.0)) (omega (arith, e.1)) (E.dir_z s.args.kind s.requires.few.1)

  -- the steps of the three axes, and where they lead
  step_x : Stepping (65536 * x + from at) (dir at) s.args.s
  step_x = stepping x (a % 2) (b % 2) s.args.s _ _ near_x s.requires.few.3 from_x dir_x

  leads_x : pos (65536 * x + from at) +ℤ dir at *ℤ pos s.args.s ≡ pos (coordinate (x + a % 2) (x + b % 2) s.args.s)
  leads_x = steps_to_law x (a % 2) (b % 2) s.args.s _ _ near_x s.requires.few.3 from_x dir_x

  step_y : Stepping (from (at + 1)) (dir (at + 1)) s.args.s
  step_y = stepping y (a / 2 % 2) (b / 2 % 2) s.args.s _ _ near_y s.requires.few.3 (E.from_y s.args.kind s.requires.few.1) dir_y

  leads_y : pos (from (at + 1)) +ℤ dir (at + 1) *ℤ pos s.args.s ≡ pos (coordinate (y + a / 2 % 2) (y + b / 2 % 2) s.args.s)
  leads_y = steps_to_law y (a / 2 % 2) (b / 2 % 2) s.args.s _ _ near_y s.requires.few.3 (E.from_y s.args.kind s.requires.few.1) dir_y

  step_z : Stepping (from (at + 2)) (dir (at + 2)) s.args.s
  step_z = stepping z (a / 4) (b / 4) s.args.s _ _ near_z s.requires.few.3 (E.from_z s.args.kind s.requires.few.1) dir_z

  leads_z : pos (from (at + 2)) +ℤ dir (at + 2) *ℤ pos s.args.s ≡ pos (coordinate (z + a / 4) (z + b / 4) s.args.s)
  leads_z = steps_to_law z (a / 4) (b / 4) s.args.s _ _ near_z s.requires.few.3 (E.from_z s.args.kind s.requires.few.1) dir_z

pub stands-requires : goal.stands-requires
stands-requires c = (omega (arith, c.requires.few.0), step_x (goal.at.stands-requires c).Start)

pub stands-requires-then-stands : goal.stands-requires-then-stands
stands-requires-then-stands c = (omega (arith, c.requires.few.0), step_y (goal.at.stands-requires-then-stands c).Start)

pub stands-requires-then-stands-2 : goal.stands-requires-then-stands-2
stands-requires-then-stands-2 c = (omega (arith, c.requires.few.0), step_z (goal.at.stands-requires-then-stands-2 c).Start)

pub returns-then-stands-2 : goal.returns-then-stands-2
unfolding corner
returns-then-stands-2 c e =
    let s = (goal.at.returns-then-stands-2 c).Start in
    let before : AtX s × AtY s = elim c.if-stands.branch [
      | then-stands w ↦ (
        c.stands.ensures w.if-stands.true ∙ leads_x s,
        w.stands-then-stands.ensures (sym w.value-is ∙ c.if-stands-2.true) ∙ leads_y s,
      )
      | else-stands w ↦ let q = w.value-is in let r = c.if-stands-2.true in cc
    ] in
    (before.0, before.1, c.stands-then-stands-2.ensures e ∙ leads_z s)
