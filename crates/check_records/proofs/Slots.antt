-- The used ones of the numbered slots change sides, as the sheet's edges do. Assumes nothing.
use mathlib.Core.Path.{◌≡◌, subst}
use mathlib.Core.List.{List}
use Prim.Native.Nat.{ℕ}
use lib.Dec.{T}
use Rattle.lists.specs.Lists.{over}
use Rattle.paper.specs.Lattice.{Lattice}
use Rattle.paper.specs.Sheet.{anchor_of}
use Rattle.dots.specs.Dots.{Crossed}
use Rattle.dots.specs.Slots.{slots_of}
use Rattle.dots.proofs.Slots.{slot_used}
use Rattle.check_records.specs.Records.{AllCross}

pub all_cross : (L : Lattice) (es slots s₀ : List ℕ) → slots ≡ over (slots_of L.size es) s₀ → Crossed L es → AllCross L slots
unfolding anchor_of
all_cross L es slots s₀ e c = record { at = λ k h t. c.at k (subst T (slot_used L.size es slots s₀ e k h) t) }
