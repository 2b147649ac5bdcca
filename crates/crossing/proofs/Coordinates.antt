-- The signed step from the solid end towards the air end gives the coordinate. Assumes nothing.
use mathlib.Core.Path.{◌≡◌, refl, sym, subst, ap, ◌∙◌}
use Prim.Native.Nat.{ℕ, zero, suc, ◌+◌, ◌-◌, ◌*◌, ◌<◌, ◌≤◌}
use native.Mathlib.Omega.{arith}
use native.Mathlib.Decide.{dec_lt}
use lib.IntN.{ℤ, pos, negsuc, neg_ℤ, ◌+ℤ◌, ◌-ℤ◌, ◌*ℤ◌}
use mir.Syntax.{w32}
use mir.Val.{SFits}
use borrow.Author.Tests.{eq-eqb, ne_eqb, lt-ltb, le-ltb}
use Rattle.paper.specs.Sheet.{coordinate}
use Rattle.crossing.specs.Vertex.{Near}
use Rattle.paper.proofs.Ints.{sub_pos, sub_neg}

-- the coordinate as the machine adds it up
unfoldable pub stepped : ℕ → ℕ → ℕ → ℤ
stepped s e t = pos (65536 * s) +ℤ (pos e -ℤ pos s) *ℤ pos t

-- the step towards the air end, the step times t, and the coordinate, each as an i32
pub record Fit (s e t : ℕ) : Type 0 where
  pub step : SFits w32 (pos e -ℤ pos s)
  pub product : SFits w32 ((pos e -ℤ pos s) *ℤ pos t)
  pub sum : SFits w32 (stepped s e t)

up_step : (s : ℕ) → pos (s + 1) -ℤ pos s ≡ pos 1
up_step s = sub_pos (s + 1) s (omega arith) ∙ ap pos (omega arith)

same_step : (s : ℕ) → pos s -ℤ pos s ≡ pos 0
same_step s = sub_pos s s (omega arith) ∙ ap pos (omega arith)

down_step : (e : ℕ) → pos e -ℤ pos (e + 1) ≡ negsuc 0
down_step e = sub_neg e (e + 1) 0 (omega arith)

-- the coordinate where the air end is above, level, below
coord_up : (s t : ℕ) → stepped s (s + 1) t ≡ pos (65536 * s + t)
unfolding stepped
coord_up s t = rw (up_step s) (ap pos (omega arith))

coord_same : (s t : ℕ) → stepped s s t ≡ pos (65536 * s)
unfolding stepped
coord_same s t = rw (same_step s) (ap pos (omega arith))

coord_down : (e t : ℕ) → t ≤ 65536 → stepped (e + 1) e t ≡ pos (65536 * (e + 1) - t)
unfolding stepped
coord_down e t h = rw (down_step e) (sub_pos (65536 * (e + 1)) (1 * t) (omega arith) ∙ ap pos (omega arith))

-- one of the three
pub three : (P : ℕ → ℕ → Type 0) → ((s : ℕ) → s < 64 → P s (s + 1)) → ((s : ℕ) → s < 64 → P s s) → ((e : ℕ) → e < 63 → P (e + 1) e) → (s e : ℕ) → Near s e → P s e
three P u l d s e h =
    by (dec_lt s e) (dec_lt e s)
  where
    by : Dec (s < e) → Dec (e < s) → P s e
    by (yes a) k =
        let q : s + 1 ≡ e = omega (arith, h.up) in
        subst (λ (x : ℕ). P s x) q (u s h.low)
    by (no a) (yes b) =
        let q : e + 1 ≡ s = omega (arith, h.down) in
        subst (λ (x : ℕ). P x e) q (d e (omega (arith, h.low)))
    by (no a) (no b) =
        let q : s ≡ e = omega arith in
        subst (λ (x : ℕ). P s x) q (l s h.low)

pub fit : (t : ℕ) → t ≤ 65536 → (s e : ℕ) → Near s e → Fit s e t
fit t ht = three (λ s e. Fit s e t)
    (λ s h. record { step = rw (up_step s) (record { sfits = omega arith }); product = rw (up_step s) (record { sfits = omega arith }); sum = rw (coord_up s t) (record { sfits = omega arith }) })
    (λ s h. record { step = rw (same_step s) (record { sfits = omega arith }); product = rw (same_step s) (record { sfits = omega arith }); sum = rw (coord_same s t) (record { sfits = omega arith }) })
    (λ e h. record { step = rw (down_step e) (record { sfits = omega arith }); product = rw (down_step e) (minus (1 * t) (omega arith)); sum = rw (coord_down e t (omega arith)) (record { sfits = omega arith }) })
  where
    minus : (n : ℕ) → n ≤ 65536 → SFits w32 (neg_ℤ (pos n))
    minus zero h = record { sfits = omega arith }
    minus (suc n) h = record { sfits = omega arith }

-- it is the definition's
pub stepped_is : (t : ℕ) → t ≤ 65536 → (s e : ℕ) → Near s e → stepped s e t ≡ pos (coordinate s e t)
unfolding coordinate
stepped_is t ht =
    three (λ s e. stepped s e t ≡ pos (coordinate s e t))
    (λ s h. coord_up s t ∙ sym (rw (ne_eqb s (s + 1) (λ e. omega arith), lt-ltb s (s + 1) (omega arith))))
    (λ s h. coord_same s t ∙ sym (rw (eq-eqb s s refl)))
    (λ e h. coord_down e t (omega arith) ∙ sym (rw (ne_eqb (e + 1) e (λ q. omega arith), le-ltb (e + 1) e (omega arith))))
