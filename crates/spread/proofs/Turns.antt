-- The turns of a flood along the gates and doors of words. Assumes nothing.
use mathlib.Core.Path.{◌≡◌, ap, subst, ◌∙◌}
use mathlib.Core.List.{List}
use mathlib.Core.Logic.{inr}
use Prim.Native.Nat.{ℕ, suc, ◌+◌, ◌-◌, ◌*◌, ◌%◌, ◌^◌, ◌≤◌, ◌<◌}
use native.Mathlib.Omega.{arith}
use lib.Count.{ones}
use lib.Bits.{bit_or}
use lib.ListN.{length, get_or, set}
use Rattle.lists.specs.Lists.{Beyond}
use Rattle.lists.specs.Reach.{here}
use Rattle.paper.specs.declared.Sizes.{Sizes}
use Rattle.paper.specs.Within.{Sized}
use Rattle.rows.specs.declared.Quad.{Quad}
use Rattle.bits.specs.Words.{less}
use Rattle.bits.proofs.Bits.{shifted_one}
use Rattle.rows.specs.Rows.{quad_at, gate_row}
use Rattle.ways.specs.Along.{Filled}
use Rattle.ways.specs.Plan.{Plan}
use Rattle.ways.specs.Flow.{Flow, flow, wait, sends, Roomy}
use Rattle.ways.specs.Ways.{gate_at, door_by, beside_by, door_at, beside_at, words, rows_of, is_row, RowIn, plan_of}
use Rattle.spread.specs.Flooded.{Empty, Closed, cell, room, Flooded}
use Rattle.ways.proofs.Laws.{lit, blank_le, Kept, wait_kept}
use Rattle.spread.proofs.Going.{Ground, Turn, turn_start, turn_row, turn_roomy, turn_count, turn_bound, turn_less, turn}
use Rattle.spread.proofs.Finish.{Reached, ground, settled, finished, emptied}
use Rattle.ways.proofs.Ways.{row_lt, row_on, row_test, row_in, rows_count, into, words_le}

module _ (z : Sizes) (rows may : List ℕ) (q x : ℕ) where
  abbrev P : Plan
  P = plan_of z rows may

  module _ (vis₀ : List ℕ) where
    abbrev Reaches : ℕ → ℕ → Type 0
    Reaches = Reached P q x vis₀

    grounded : Closed P vis₀ → Ground P Reaches
    grounded =
        ground P q x vis₀ (λ r h. row_lt z r (row_in z r h))
        (λ r k h _. row_test z (beside_at z rows r k) (row_on z (quad_at rows z.ny r) r k (row_in z r h)))

    -- the invariant of the loop
    abbrev pub Flooding : List ℕ → List ℕ → List ℕ → Flow → ℕ → Type 0
    Flooding = Turn P Reaches q x vis₀

  -- what a turn leaves: with the row at i off the list, what was due there spread to `full` by the four words around it
  pub record Turned (vis₀ due₀ w₀ vis due w : List ℕ) (h i seen : ℕ) (four : Quad) (full : ℕ) : Type 0 where
    pub roomy : Roomy (words z) (rows_of z) (is_row z) (flow (set due (get_or w i 0) 0) w i)
    pub few : let r = get_or w i 0 in seen + ones (less full (get_or vis r 0)) ≤ 262144
    pub next : (t : Flow) → let r = get_or w i 0 in
        let new = less full (get_or vis r 0) in
        let grown = set vis r (bit_or (get_or vis r 0) new) in
        t ≡ sends grown (door_by z may four r) (beside_by z four r) new 4 (flow (set due r 0) w i)
        → (5 * (64 * words z - lit (words z) grown) + t.height < 5 * (64 * words z - lit (words z) vis) + h)
        × ((k : ℕ) → k ≡ ones new → Flooding vis₀ due₀ w₀ grown t (seen + k))

  module _ (sized : Sized z) (row : RowIn z q) (hx : x < 64) where
    small : words z < 2 ^ 32
    small = omega (arith, words_le z sized)

    into_words : (r k : ℕ) → r < words z → k < 4 → beside_at z rows r k < words z
    into_words r k h _ = into z (quad_at rows z.ny r) r k (omega (arith, sized.y_low)) h

    pub roomy_start : (due w : List ℕ) → Empty (words z) due → rows_of z ≤ length w → Roomy (words z) (rows_of z) (is_row z) (flow due w 0)
    roomy_start due w e h = record {
      due_fit = e.fit;
      waiting_fit = h;
      small = small;
      room = omega
          (arith, blank_le (is_row z) 0 (words z) due, rows_count z sized);
    }

    pub first_kept : (due w : List ℕ) (m : ℕ) (t : Flow) → Empty (words z) due → rows_of z ≤ length w → t ≡ wait q m (flow due w 0)
        → Kept (words z) (rows_of z) (is_row z) 1 (flow due w 0) t
    first_kept due w m t e h p = rw p (wait_kept (words z) (rows_of z) (is_row z) q m (flow due w 0) (roomy_start due w e h)
        (row_lt z q row) (row_test z q row))

    pub flooding_start : (vis due w : List ℕ) (t : Flow) → Closed P vis → Empty (words z) due → rows_of z ≤ length w
        → t ≡ wait q ((1 * 2 ^ x) % 2 ^ 64) (flow due w 0) → Flooding vis t.due t.waiting vis t 0
    flooding_start vis due w t a b h p =
        turn_start P (Reaches vis) (grounded vis a) q x vis due w (row_test z q row) hx (inr here) (settled P q x vis a into_words)
        (roomy_start due w b h) b.none t (p ∙ ap (λ (m : ℕ). wait q m (flow due w 0)) (shifted_one x hx))

    -- one turn
    module _ (vis₀ : List ℕ) (C : Closed P vis₀) (due₀ w₀ vis due w : List ℕ) (h i seen : ℕ) (e : h ≡ suc i)
        (u : Flooding vis₀ due₀ w₀ vis (flow due w h) seen) where
      G : Ground P (Reaches vis₀)
      G = grounded vis₀ C

      abbrev at : ℕ
      at = get_or w i 0

      pub at_row : RowIn z at
      at_row = row_in z at (turn_row P (Reaches vis₀) G q x vis₀ due₀ w₀ vis due w h i seen hx e u)

      -- the four words around it, its gates, and what they lead to
      module _ (four : Quad) (is : four ≡ quad_at rows z.ny at) (gates full : ℕ)
          (by : gates ≡ gate_row four (get_or may at 0)) (l : full < 2 ^ 64)
          (F : Filled (get_or due at 0) gates full) where
        gate_is : gates ≡ gate_at z rows may at
        gate_is = by ∙ ap (λ (f : Quad). gate_row f (get_or may at 0)) is

        F' : Filled (get_or due at 0) (gate_at z rows may at) full
        F' = subst (λ (g : ℕ). Filled (get_or due at 0) g full) gate_is F

        abbrev new : ℕ
        new = less full (get_or vis at 0)

        abbrev grown : List ℕ
        grown = set vis at (bit_or (get_or vis at 0) new)

        abbrev popped : Flow
        popped = flow (set due at 0) w i

        pub at_roomy : Roomy (words z) (rows_of z) (is_row z) popped
        at_roomy =
            turn_roomy P (Reaches vis₀) G q x vis₀ due₀ w₀ vis due w h i seen hx e u full l F'

        pub seen_le : seen + ones new ≤ 262144
        seen_le =
            omega (
              arith,
              turn_count P (Reaches vis₀) G q x vis₀ due₀ w₀ vis due w h i seen hx e u full l F',
              turn_bound P (Reaches vis₀) G q x vis₀ due₀ w₀ vis due w h i seen hx e u full l F',
              words_le z sized,
            )

        module _ (t : Flow) (s : t ≡ sends grown (door_by z may four at) (beside_by z four at) new 4 popped) where
          s' : t ≡ sends grown (door_at z rows may at) (beside_at z rows at) new 4 popped
          s' = s ∙ ap (λ (f : Quad). sends grown (door_by z may f at) (beside_by z f at) new 4 popped) is

          pub less_left : 5 * (64 * words z - lit (words z) grown) + t.height < 5 * (64 * words z - lit (words z) vis) + h
          less_left =
              turn_less P (Reaches vis₀) G q x vis₀ due₀ w₀ vis due w h i seen hx e u full l F' t s'

          pub flooding_more : (k : ℕ) → k ≡ ones new → Flooding vis₀ due₀ w₀ grown t (seen + k)
          flooding_more k c =
              rw c
              (turn P (Reaches vis₀) G q x vis₀ due₀ w₀ vis due w h i seen hx e u full l F' t s')

        pub turn_law : Turned vis₀ due₀ w₀ vis due w h i seen four full
        turn_law = record { roomy = at_roomy; few = seen_le; next = λ t s. (less_left t s, flooding_more t s) }

    -- the loop is left
    module _ (vis₀ : List ℕ) (C : Closed P vis₀) (due₀ w₀ w₁ vis : List ℕ) (s : Flow) (seen : ℕ) (e : s.height ≡ 0)
        (u : Flooding vis₀ due₀ w₁ vis s seen) (d : Beyond (rows_of z) w₀ w₁) where
      pub flooding_done : Flooded P (cell q x) (room vis₀ w₀) (room vis s.waiting) seen
      flooding_done =
          finished P q x vis₀ C (grounded vis₀ C) hx (row_lt z q row) into_words due₀ w₀ w₁
          vis s seen e u d

      pub due_done : Empty (words z) s.due
      due_done = record {
        fit = u.going.roomy.due_fit;
        none =
            emptied P q x vis₀ C (grounded vis₀ C) hx (row_lt z q row) into_words due₀ w₀ w₁
            vis s seen e u d;
      }
