-- Numbers that stand in a file's, one behind the other. Assumes nothing.
use Rattle.std.specs.Prelude.{◌≡◌, List, map, ℕ, ◌+◌, ◌*◌, ◌≤◌, ℤ, length, take, drop}
use Rattle.lists.specs.Lists.{range, keep, each, Beyond}
use Rattle.paper.specs.declared.Rule.{Rule}
use Rattle.paper.specs.Lattice.{Lattice}
use Rattle.paper.specs.Room.{needed_slots}
use Rattle.paper.specs.Sheet.{vertex_record}
use Rattle.dots.specs.Dots.{numbered, Numbers}
use Rattle.check_entries.specs.Entries.{has_edge}

-- the numbers ts stand in fs from place `at` on, and next is the place behind them
pub record Follows {A : Type 0} (fs : List A) (at : ℕ) (ts : List A) (next : ℕ) : Type 0 where
  pub is : take (length ts) (drop at fs) ≡ ts
  pub next_is : next ≡ at + length ts

-- the vertices of the edges es, by a rule, stand in a file's numbers from vertex `at` on, and the slots of es are numbered from there
pub record Listed (rule : Rule) (L : Lattice) (es : List ℕ) (fs : List ℤ) (at : ℕ) (before : List ℕ) (next : ℕ) (after : List ℕ) : Type 0 where
  pub follows : Follows fs (4 * at) (each (vertex_record rule L) es) (4 * next)
  pub numbers : Numbers es at before next after

-- so they are where next is at most nv, and in any case only slots of edges are written
pub record Listing (rule : Rule) (L : Lattice) (es : List ℕ) (fs : List ℤ) (nv at : ℕ) (before : List ℕ) (next : ℕ) (after : List ℕ) : Type 0 where
  pub listed : next ≤ nv → Listed rule L es fs at before next after
  pub beyond : Beyond (needed_slots L.size) before after

-- the edges that the seven words of a row have of its first n, counted from its first
abbrev pub kept : List ℕ → ℕ → List ℕ
kept ks n = keep (has_edge ks) (range 0 n)

-- these edges are n, their vertices stand in a file's numbers from vertex `at` on, and their slots are numbered from there; row is the
-- number of the row's first edge
pub record Entered (rule : Rule) (L : Lattice) (ks : List ℕ) (fs : List ℤ) (row wide at n : ℕ) (before after : List ℕ) : Type 0 where
  pub count : n ≡ length (kept ks wide)
  pub follows : Follows fs (4 * at) (each (λ e. vertex_record rule L (row + e)) (kept ks wide)) (4 * (at + n))
  pub slots : after ≡ numbered at (map (λ e. row + e) (kept ks wide)) before
