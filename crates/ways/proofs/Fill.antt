-- Filling a row: one round adds what lies behind one open gate; where a round adds nothing, all is filled. Assumes nothing.
use mathlib.Core.Path.{◌≡◌, refl, sym, subst, ◌∙◌}
use mathlib.Core.Logic.{⊎_elim}
use Prim.Native.Nat.{ℕ, zero, suc, ◌-◌, ◌*◌, ◌/◌, ◌%◌, ◌^◌, ◌≤◌, ◌<◌}
use native.Mathlib.Omega.{arith}
use lib.Dec.{T}
use lib.Bits.{bit_and, bit_or, or_add_and, and_le_l, and_le_r, or_lt}
use Rattle.bits.specs.Words.{On}
use Rattle.bits.proofs.Bits.{bit_suc, bit_up, bit_lt}
use Rattle.bits.proofs.Places.{on_and, and_on, on_or_left, on_or_right, or_on}
use Rattle.ways.specs.Along.{Along, begun, up, down, Filled}

-- f, and what one gate leads to from it: `f | ((f << 1) & gate) | ((f & gate) >> 1)`
unfoldable pub round : ℕ → ℕ → ℕ
round f gate = bit_or (bit_or f (bit_and ((f * 2 ^ 1) % 2 ^ 64) gate)) (bit_and f gate / 2 ^ 1)

or_ge : (a b : ℕ) → a ≤ bit_or a b
or_ge a b = omega (arith, or_add_and a b, and_le_r a b)

pub round_ge : (f gate : ℕ) → f ≤ round f gate
unfolding round
round_ge f gate =
    let a = bit_and ((f * 2 ^ 1) % 2 ^ 64) gate in
    omega (arith, or_ge f a, or_ge (bit_or f a) (bit_and f gate / 2 ^ 1))

pub round_lt : (f gate : ℕ) → f < 2 ^ 64 → gate < 2 ^ 64 → round f gate < 2 ^ 64
unfolding round
round_lt f gate h g =
    let a = bit_and ((f * 2 ^ 1) % 2 ^ 64) gate in
    let p : a < 2 ^ 64 = omega (arith, and_le_r ((f * 2 ^ 1) % 2 ^ 64) gate) in
    let q : bit_and f gate / 2 ^ 1 < 2 ^ 64 = omega (arith, and_le_l f gate) in
    or_lt 64 (bit_or f a) (bit_and f gate / 2 ^ 1) (or_lt 64 f a h p) q

module _ (f gate : ℕ) where
  abbrev higher : ℕ
  higher = bit_and ((f * 2 ^ 1) % 2 ^ 64) gate

  abbrev lower : ℕ
  lower = bit_and f gate / 2 ^ 1

  pub round_keeps : (x : ℕ) → On f x → On (round f gate) x
  unfolding round
  round_keeps x p = on_or_left (bit_or f higher) lower x (on_or_left f higher x p)

  round_up : (x : ℕ) → suc x < 64 → On f x → On gate (suc x) → On (round f gate) (suc x)
  unfolding round
  round_up x h p q =
      on_or_left (bit_or f higher) lower (suc x)
      (on_or_right f higher (suc x) (on_and ((f * 2 ^ 1) % 2 ^ 64) gate (suc x) (subst T (sym (bit_up 64 f (suc x) h)) p) q))

  round_down : (x : ℕ) → On f (suc x) → On gate (suc x) → On (round f gate) x
  unfolding round
  round_down x p q = on_or_right (bit_or f higher) lower x (subst T (bit_suc (bit_and f gate) x) (on_and f gate (suc x) p q))

  -- what a round holds is reached where what it began with is
  module _ (from : ℕ) (s : (x : ℕ) → x < 64 → On f x → Along from gate x) where
    from_below : (x : ℕ) → x < 64 → On higher x → Along from gate x
    from_below zero h p = absurd (subst T (bit_up 64 f 0 (omega arith)) (and_on ((f * 2 ^ 1) % 2 ^ 64) gate 0 p).0)
    from_below (suc x) h p =
        let q = and_on ((f * 2 ^ 1) % 2 ^ 64) gate (suc x) p in
        up (s x (omega arith) (subst T (bit_up 64 f (suc x) h) q.0)) q.1 h

    from_above : (x : ℕ) → x < 64 → f < 2 ^ 64 → On lower x → Along from gate x
    from_above x h l p =
        let q = and_on f gate (suc x) (subst T (sym (bit_suc (bit_and f gate) x)) p) in
        let k = bit_lt f 64 (suc x) l q.0 in
        down (s (suc x) k q.0) q.1 k

    pub round_within : (x : ℕ) → x < 64 → f < 2 ^ 64 → On (round f gate) x → Along from gate x
    unfolding round
    round_within x h l p =
        ⊎_elim (λ q. ⊎_elim (s x h) (from_below x h) (or_on f higher x q)) (from_above x h l) (or_on (bit_or f higher) lower x p)

    -- a round that adds nothing
    pub round_all : ((x : ℕ) → x < 64 → On from x → On f x) → round f gate ≡ f → Filled from gate f
    round_all b e = record { within = s; whole = λ x h a. go h a }
      where
        go : {x : ℕ} → x < 64 → Along from gate x → On f x
        go {x} h (begun p) = b x h p
        go h (up {x} a q l) = subst (λ (w : ℕ). On w (suc x)) e (round_up x l (go (omega arith) a) q)
        go h (down {x} a q l) = subst (λ (w : ℕ). On w x) e (round_down x (go l a) q)

-- ── as the loop bit it: f so far, g one round more ──

pub record Filling (from gate f g : ℕ) : Type 0 where
  pub next : g ≡ round f gate
  pub fits : f < 2 ^ 64
  pub gates : gate < 2 ^ 64
  pub within : (x : ℕ) → x < 64 → On f x → Along from gate x
  pub first : (x : ℕ) → x < 64 → On from x → On f x

pub filling_start : (from gate : ℕ) → from < 2 ^ 64 → gate < 2 ^ 64 → Filling from gate from (round from gate)
filling_start from gate h g = record { next = refl; fits = h; gates = g; within = λ x l p. begun p; first = λ x l p. p }

module _ (from gate f g : ℕ) (s : Filling from gate f g) where
  pub filling_more : Filling from gate g (round g gate)
  filling_more = record {
    next = refl;
    fits = subst (λ (w : ℕ). w < 2 ^ 64) (sym s.next) (round_lt f gate s.fits s.gates);
    gates = s.gates;
    within = λ x h p. round_within f gate from s.within x h s.fits (subst (λ (w : ℕ). On w x) s.next p);
    first = λ x h p. subst (λ (w : ℕ). On w x) (sym s.next) (round_keeps f gate x (s.first x h p));
  }

  pub filling_less : (g ≡ f → ⊥) → 2 ^ 64 - g < 2 ^ 64 - f
  filling_less q = omega (arith, s.next, round_ge f gate, filling_more.fits)

  pub filling_all : g ≡ f → Filled from gate f
  filling_all e = round_all f gate from s.within s.first (sym s.next ∙ e)
