-- What (vii) asks, said of the contract and the definitions: a sample is above 0 exactly when its voxel is below the level; none is the
-- fill; the cut is exact; a refusal writes nothing; any two outcomes agree. Assumes nothing.
use mathlib.Core.Path.{◌≡◌, refl, sym, subst, ap, ◌∙◌}
use mathlib.Core.Bool.{Bool, true, false, not, cond, ◌&&◌}
use mathlib.Core.List.{List, ◌++◌, map, append-nil}
use Prim.Native.Nat.{ℕ, zero, suc, ◌*◌, ◌/◌, ◌<◌, ◌≤◌, min, max}
use native.Mathlib.Nat.{mul_right_comm, zero-mul, mul-pos}
use native.Mathlib.Omega.{arith}
use borrow.Author.Tests.{lt-ltb, le-ltb, ne_eqb, eq-eqb}
use lib.Dec.{T, ltb}
use lib.IntN.{ℤ, pos, negsuc, neg_ℤ}
use lib.ListN.{length, get_or, drop, length-map}
use lib.Seq.{drop-length}
use lib.Signed.{lt_z}
use lib.Ieee.{Float, nan, inf, fin, binary32, fits, sub, add, lt, up, down}
use lib.Ieee.Exact.{HasValue}
use lib.Ieee.Fits.{up_pos, down_pos, div-fits}
use lib.Ieee.Nearest.{div_same}
use lib.Ieee.Positive.{first_pos}
use Rattle.lists.proofs.Runs.{get_d_map_lt}
use Rattle.paper.specs.declared.Verdict.{Verdict}
use Rattle.paper.specs.Room.{output_after}
use Rattle.greys.specs.declared.Level.{Level}
use Rattle.greys.specs.declared.Level.TheVariants.{Halfway}
use Rattle.greys.specs.Level.{level_of}
use Rattle.greys.specs.Sample.{none, held, cut_of, sample_of}
use Rattle.greys.specs.Convert.{samples_of, Converts}
use Rattle.greys.specs.Within.{Bounded}
use Rattle.greys.proofs.Bounds.{difference_bounded}
use Rattle.greys.proofs.Converting.{fine}
use Rattle.greys.proofs.Signs.{sample_side, side_kept}
use Rattle.std.specs.Prelude.{Result}
use Rattle.paper.specs.declared.Refusal.{Refusal}
use Rattle.paper.specs.Refused.{verdict_told}
use Rattle.paper.proofs.Told.{told_one}

-- ── any two outcomes agree ──

pub converts_agree : {l : Level} {n : ℕ} {vs : List Float} {before after after' : List ℤ} {r r' : Verdict}
    → Converts l n vs before r after → Converts l n vs before r' after' → (r ≡ r') × (after ≡ after')
converts_agree c c' = (c.answer ∙ sym c'.answer, c.left ∙ sym c'.left)

-- as Results too
pub convert_results : {l : Level} {n : ℕ} {vs : List Float} {before after after' : List ℤ} {r r' : Result (Unit {0}) Refusal}
    → Converts l n vs before (verdict_told r) after → Converts l n vs before (verdict_told r') after' → (r ≡ r') × (after ≡ after')
convert_results {r = r} {r' = r'} a b = let w = converts_agree a b in (told_one r r' w.0, w.1)

-- ── "cut towards zero and held to ±32,767; where d is above 0 the sample is at least 1" ──

no_factor : (a w : ℕ) → 0 < w → a * w ≡ 0 → a ≡ 0
no_factor zero w W e = refl
no_factor (suc a) w W e = let p : 0 < suc a * w = mul-pos (omega arith) W in absurd (omega arith)

-- where d is ±a / c, however it is written
module _ (a c n : ℕ) (C : 0 < c) where
  pub held_value : (d : Float) (s : Bool) → HasValue d s a c → held d n ≡ min (a * n / c) 32767
  unfolding held
  held_value nan s v = absurd v
  held_value (inf t) s v = absurd v
  held_value (fin t m e) s v =
      let q : m * up e * n * c ≡ a * n * down e =
      mul_right_comm (m * up e) n c ∙ ap (λ (k : ℕ). k * n) v.1 ∙ mul_right_comm a (down e) n in
      ap (λ (k : ℕ). min k 32767) (div_same (m * up e * n) (down e) (a * n) c (down_pos e) C q)

  above_zero : (m : ℕ) (u w : ℕ) → 0 < u → 0 < w → m * u * c ≡ a * w → ltb (0 * w) (m * u * 1) ≡ ltb 0 a
  above_zero zero u w U W e =
      let q : a * w ≡ 0 = sym e ∙ ap (λ (k : ℕ). k * c) (zero-mul u) ∙ zero-mul c in
      le-ltb (0 * w) (0 * u * 1) (omega (arith, zero-mul u)) ∙ sym (le-ltb 0 a (omega (arith, no_factor a w W q)))
  above_zero (suc m) u w U W e =
      let p : 0 < suc m * u = mul-pos (omega arith) U in
      let q : 0 < a = first_pos a w (subst (λ (k : ℕ). 0 < k) e (mul-pos p C)) in
      lt-ltb (0 * w) (suc m * u * 1) (omega (arith, zero-mul w)) ∙ sym (lt-ltb 0 a q)

  pub above_value : (d : Float) (s : Bool) → HasValue d s a c → lt none d ≡ (not s && ltb 0 a)
  unfolding lt
  above_value nan s v = absurd v
  above_value (inf t) s v = absurd v
  above_value (fin true m e) s v = rw (← v.0)
  above_value (fin false m e) s v = rw (← v.0) (above_zero m (up e) (down e) (up_pos e) (down_pos e) v.1)

  pub cut_exact : (d : Float) (s : Bool) → HasValue d s a c
      → cut_of d n ≡ cond (not s && ltb 0 a) (pos (max 1 (min (a * n / c) 32767))) (neg_ℤ (pos (min (a * n / c) 32767)))
  unfolding cut_of
  cut_exact d s v = rw (held_value d s v, above_value d s v)

-- d is a number, and this is its sample
pub record Exactly (d : Float) (n : ℕ) (sample : ℤ) : Type 0 where
  pub sign : Bool
  pub a : ℕ
  pub c : ℕ
  pub over : 0 < c
  pub value : HasValue d sign a c
  pub is : sample ≡ cond (not sign && ltb 0 a) (pos (max 1 (min (a * n / c) 32767))) (neg_ℤ (pos (min (a * n / c) 32767)))

of_number : (d : Float) (n : ℕ) → Bounded 131072 d → Exactly d n (cut_of d n)
of_number nan n h = absurd h
of_number (inf s) n h = absurd h
of_number (fin s m e) n h =
    record {
      sign = s;
      a = m * up e;
      c = down e;
      over = down_pos e;
      value = (refl, refl);
      is = cut_exact (m * up e) (down e) n (down_pos e) (fin s m e) s (refl, refl);
    }

-- ── no sample is −32,768 ──

low : (c : ℕ) → c ≤ 32767 → neg_ℤ (pos c) ≡ negsuc 32767 → ⊥
low zero h e = let z : ◌≡◌ {A = ℕ} 0 1 = cc in omega arith
low (suc c) h e = let z : c ≡ 32767 = cc in omega arith

held_most : (d : Float) (n : ℕ) → held d n ≤ 32767
unfolding held
held_most nan n = omega arith
held_most (inf s) n = omega arith
held_most (fin s m e) n = omega arith

pub cut_no_fill : (d : Float) (n : ℕ) → cut_of d n ≡ negsuc 32767 → ⊥
unfolding cut_of
cut_no_fill d n = go (lt none d)
  where
    go : (b : Bool) → cond b (pos (max 1 (held d n))) (neg_ℤ (pos (held d n))) ≡ negsuc 32767 → ⊥
    go true e = let z : ◌≡◌ {A = ℕ} 0 1 = cc in omega arith
    go false e = low (held d n) (held_most d n) e

-- ── what a conversion leaves ──

-- what is lent are f32: each float is one
pub record Singles (l : Level) (vs : List Float) : Type 0 where
  pub level : T (fits binary32 (level_of l))
  pub voxels : (i : ℕ) → i < length vs → T (fits binary32 (get_or vs i nan))

-- a level of f32 greys is an f32
pub halfway_fits : (a m : Float) → T (fits binary32 (level_of (Halfway a m)))
unfolding level_of
halfway_fits a m = div-fits binary32 (add binary32 a m) (fin false 1 (pos 1))

module _ {l : Level} {n : ℕ} {vs : List Float} {before after : List ℤ} {r : Verdict} (c : Converts l n vs before r after) where
  -- a refusal writes nothing
  pub refused_as_was : (r.number ≡ 0 → ⊥) → after ≡ before
  unfolding output_after
  refused_as_was h = c.left ∙ rw (← c.answer, ne_eqb r.number 0 h)

  module _ (e : r.number ≡ 0) where
    -- the slices are of one length, and the samples are all that it then holds
    pub as_long : length vs ≡ length before
    as_long = (fine l n vs before r c.answer e).1

    pub all_samples : after ≡ samples_of l n vs
    unfolding output_after samples_of
    all_samples =
        let new = map (sample_of (level_of l) n) vs in
        let k : length new ≡ length before = length-map vs (sample_of (level_of l) n) ∙ as_long in
        c.left
        ∙ rw (← c.answer, eq-eqb r.number 0 e)
        (ap (λ (j : ℕ). new ++ drop j before) k ∙ ap (λ (rest : List ℤ). new ++ rest) (drop-length before) ∙ append-nil new)

    pub each_sample : (i : ℕ) → i < length vs → get_or after i (pos 0) ≡ sample_of (level_of l) n (get_or vs i nan)
    unfolding samples_of
    each_sample i h =
        ap (λ (s : List ℤ). get_or s i (pos 0)) all_samples ∙ get_d_map_lt (sample_of (level_of l) n) vs i (pos 0) nan h

    -- d is a number, ±a / c, and the sample is a · n / c, cut, held and at least 1 where d is above 0
    pub each_exactly : (i : ℕ) → i < length vs → Exactly (sub binary32 (level_of l) (get_or vs i nan)) n (get_or after i (pos 0))
    unfolding sample_of
    each_exactly i h =
        let f = (fine l n vs before r c.answer e).0 in
        let d = sub binary32 (level_of l) (get_or vs i nan) in
        subst (Exactly d n) (sym (each_sample i h))
        (of_number d n (difference_bounded (level_of l) (get_or vs i nan) f.level_grey (f.greys i h)))

    -- a sample is above 0 exactly when its voxel is below the level
    pub above_exactly : Singles l vs → (i : ℕ) → i < length vs → lt_z (pos 0) (get_or after i (pos 0)) ≡ lt (get_or vs i nan) (level_of l)
    above_exactly f i h =
        ap (λ (z : ℤ). lt_z (pos 0) z) (each_sample i h) ∙ side_kept (level_of l) (get_or vs i nan) n f.level (f.voxels i h)

    -- and exactly when level − voxel, as f32 rounds it, is above 0
    pub above_difference : (i : ℕ) → i < length vs
        → lt_z (pos 0) (get_or after i (pos 0)) ≡ lt none (sub binary32 (level_of l) (get_or vs i nan))
    unfolding sample_of
    above_difference i h =
        ap (λ (z : ℤ). lt_z (pos 0) z) (each_sample i h) ∙ sample_side (sub binary32 (level_of l) (get_or vs i nan)) n

    -- none is the fill
    pub no_fill_law : (i : ℕ) → i < length vs → get_or after i (pos 0) ≡ negsuc 32767 → ⊥
    unfolding sample_of
    no_fill_law i h q = cut_no_fill (sub binary32 (level_of l) (get_or vs i nan)) n (sym (each_sample i h) ∙ q)
