-- One triangle after the other: its cube, its place there, and the bits. Assumes nothing.
use mathlib.Core.Path.{◌≡◌, refl, sym, ap, subst, ◌∙◌}
use mathlib.Core.Bool.{Bool, true, false, cond, not, ◌&&◌, and-false}
use mathlib.Core.List.{List}
use Prim.Native.Nat.{ℕ, zero, suc, ◌+◌, ◌-◌, ◌*◌, ◌/◌, ◌%◌, ◌^◌, ◌≤◌, ◌<◌}
use native.Mathlib.Nat.{mul_comm, pow-suc, div-div-eq-div-mul}
use native.Mathlib.Decide.{ℕ_discrete}
use native.Mathlib.Numerals.{add-one}
use native.Mathlib.Omega.{arith}
use lib.IntN.{ℤ, pos, negsuc, nat_abs}
use lib.Dec.{T, eqb, ltb, eqb→eq, ltb→lt}
use lib.Signed.{non_neg}
use lib.ListN.{length, get_or, set, length-set}
use lib.Seq.{get_or-set_same, get_or-set_other}
use borrow.Author.Tests.{eq-eqb, ne_eqb, lt-ltb, le-ltb, ltb-true, eqb-true, eqb-false}
use Rattle.lists.specs.Lists.{range, first}
use Rattle.lists.proofs.Firsts.{first_holds}
use Rattle.lists.proofs.Computed.{upto_at}
use Rattle.paper.specs.declared.Sizes.{Sizes}
use Rattle.paper.specs.Lattice.{cubes, cube_at}
use Rattle.paper.specs.Tables.{Tri}
use Rattle.paper.specs.Check.{triangle_of}
use Rattle.paper.specs.Within.{Sized}
use Rattle.paper.proofs.Judged.{both}
use Rattle.paper.proofs.Numbers.{sample_lt, cube_inside}
use Rattle.lattice.proofs.Laws.{low_in, samples_few}
use Rattle.sides.specs.Pattern.{bit_of}
use Rattle.bits.specs.Words.{bit}
use Rattle.check_records.specs.Records.{edge_in}
use Rattle.check_triangles.specs.Words.{base_of}
use Rattle.check_triangles.specs.declared.Spot.{Spot}
use Rattle.check_triangles.specs.Triples.{holder, is_at, place_from, place_by, place_in, place_of, Sure, Based}
use Rattle.check_triangles.specs.Triples.{Found, fresh, noted, fresh_at, noted_at, Small, seen_after}

-- ── numbers ──

pub power_fits : (c : ℕ) → c < 12 → (1 * 2 ^ c % 4294967296 ≡ 2 ^ c) × (2 ^ c ≤ 2048)
power_fits c h =
    let e = eqb→eq (1 * 2 ^ c % 4294967296) (2 ^ c) (upto_at 12 (λ c. eqb (1 * 2 ^ c % 4294967296) (2 ^ c)) tt c h) in
    let l = ltb→lt (2 ^ c) 2049 (upto_at 12 (λ c. ltb (2 ^ c) 2049) tt c h) in
    (e, omega arith)

-- an edge that is among n is the record's
pub named_is : (z : ℤ) (n : ℕ) → edge_in z n < n → edge_in z n ≡ nat_abs z
named_is (pos m) n h = go (ltb m n) h
  where
    go : (b : Bool) → cond b m n < n → cond b m n ≡ m
    go true h = refl
    go false h = absurd (omega arith)
named_is (negsuc m) n h = absurd (omega arith)

pub named_positive : (z : ℤ) (n : ℕ) → edge_in z n < n → T (non_neg z)
named_positive (pos m) n h = tt
named_positive (negsuc m) n h = absurd (omega arith)

-- ── a place in a cube ──

module _ (z : Sizes) (base m : ℕ) (t : Tri) where
  pub from_here : (c : ℕ) → c < 12 → is_at z base m t c ≡ true → c ≡ place_from z base m t c
  unfolding place_from
  from_here c h e =
      let n : 12 - c ≡ suc (11 - c) = omega arith in
      rw (n, e)

  pub from_next : (c : ℕ) → c < 12 → is_at z base m t c ≡ false → place_from z base m t c ≡ place_from z base m t (c + 1)
  unfolding place_from
  from_next c h e =
      let n : 12 - c ≡ suc (11 - c) = omega arith in
      let k : 11 - c ≡ 12 - (c + 1) = omega arith in
      rw (n, e) (λ i. first (is_at z base m t) 12 (range (sym (add-one c) i) (k i)))

  pub from_end : (c : ℕ) → 12 ≤ c → 12 ≡ place_from z base m t c
  unfolding place_from
  from_end c h =
      let n : 12 - c ≡ 0 = omega arith in
      rw n

  pub from_holds : (i : ℕ) → place_from z base m t i < 12 → is_at z base m t (place_from z base m t i) ≡ true
  unfolding place_from
  from_holds i h = first_holds (is_at z base m t) 12 i (12 - i) h

module _ (z : Sizes) (words : List ℕ) (k : ℕ) (t : Tri) where
  pub place_out : cubes z ≤ k → 12 ≡ place_in z words k t
  unfolding place_in
  place_out h = rw (le-ltb k (cubes z) h)

  pub place_idle : get_or words k 0 ≡ 0 → 12 ≡ place_in z words k t
  unfolding place_in
  place_idle e = rw (eq-eqb (get_or words k 0) 0 e, and-false)

  pub place_word : k < cubes z → (get_or words k 0 ≡ 0 → ⊥) → place_by z (base_of z k) (get_or words k 0 % 256) t ≡ place_in z words k t
  unfolding place_in
  place_word h e = rw (lt-ltb k (cubes z) h, ne_eqb (get_or words k 0) 0 e)

  -- a place says that the cube is one of the lattice
  pub place_cube : place_in z words k t < 12 → k < cubes z
  unfolding place_in
  place_cube h = go (ltb k (cubes z)) refl h
    where
      go : (b : Bool) → ltb k (cubes z) ≡ b
          → cond (b && not (eqb (get_or words k 0) 0)) (place_by z (base_of z k) (get_or words k 0 % 256) t) 12 < 12 → k < cubes z
      go true e h = ltb-true k (cubes z) e
      go false e h = absurd (omega arith)

-- ── bits ──

-- bit c of a number, by halving
double : (c : ℕ) → 2 ^ suc c ≡ 2 * 2 ^ c
double c = pow-suc 2 c ∙ mul_comm (2 ^ c) 2

half : (m c : ℕ) → bit_of m (suc c) ≡ bit_of (m / 2) c
unfolding bit_of
half m c = ap (λ (q : ℕ). q % 2) (ap (λ (p : ℕ). m / p) (double c) ∙ sym (div-div-eq-div-mul m 2 (2 ^ c)))

lowest : (m : ℕ) → bit_of m 0 ≡ m % 2
unfolding bit_of
lowest m = omega arith

-- a bit that is 0 becomes 1, and the others stay
pub bit_set : (c d m : ℕ) → bit_of m c ≡ 0 → bit_of (m + 2 ^ c) d ≡ cond (eqb d c) 1 (bit_of m d)
bit_set zero zero m h = lowest (m + 2 ^ 0) ∙ omega (arith, lowest m)
bit_set zero (suc d) m h =
    rw (ne_eqb (suc d) 0 (λ e. omega arith))
    (half (m + 2 ^ 0) d ∙ (ap (λ (q : ℕ). bit_of q d) (let e : (m + 1) / 2 ≡ m / 2 = omega (arith, lowest m) in e) ∙ sym (half m d)))
bit_set (suc c) zero m h =
    rw (ne_eqb 0 (suc c) (λ e. omega arith)) (lowest (m + 2 ^ suc c) ∙ (omega (arith, double c) ∙ sym (lowest m)))
bit_set (suc c) (suc d) m h =
    half (m + 2 ^ suc c) d
    ∙ (ap (λ (q : ℕ). bit_of q d) (let e : (m + 2 ^ suc c) / 2 ≡ m / 2 + 2 ^ c = omega (arith, double c) in e)
    ∙ (bit_set c d (m / 2) (sym (half m c) ∙ h) ∙ (λ i. cond (sym (same_suc d c) i) 1 (sym (half m d) i))))
  where
    same_suc : (d c : ℕ) → eqb (suc d) (suc c) ≡ eqb d c
    same_suc d c = go (ℕ_discrete d c)
      where
        go : Dec (d ≡ c) → eqb (suc d) (suc c) ≡ eqb d c
        go (yes e) = eq-eqb (suc d) (suc c) (ap suc e) ∙ sym (eq-eqb d c e)
        go (no e) = ne_eqb (suc d) (suc c) (λ q. e (omega arith)) ∙ sym (ne_eqb d c e)

-- as a test of a word
bit_free : (m c : ℕ) → not (bit m c) ≡ eqb (bit_of m c) 0
unfolding bit bit_of
bit_free m c = go (m / 2 ^ c % 2) (omega arith)
  where
    go : (b : ℕ) → b < 2 → not (eqb b 1) ≡ eqb b 0
    go zero h = refl
    go (suc zero) h = refl
    go (suc (suc b)) h = absurd (omega arith)

pub not_noted : (seen : List ℕ) (s : Spot) → not (bit (get_or seen s.cube 0) s.place) ≡ fresh_at seen s
unfolding fresh_at
not_noted seen s = bit_free (get_or seen s.cube 0) s.place

-- and n bits stay n
set_small : (n c m : ℕ) → c < n → m < 2 ^ n → bit_of m c ≡ 0 → m + 2 ^ c < 2 ^ n
set_small zero c m h l e = absurd (omega arith)
set_small (suc n) zero m h l e =
    let g : m + 1 < 2 ^ suc n = omega (arith, double n, lowest m) in
    g
set_small (suc n) (suc c) m h l e =
    let g = set_small n c (m / 2) (omega arith) (omega (arith, double n)) (sym (half m c) ∙ e) in
    omega (arith, double n, double c)

-- what a fresh triangle has
pub record Fresh (z : Sizes) (words seen : List ℕ) (t : Tri) : Type 0 where
  pub place : place_of z words t < 12
  pub cube : holder z t < cubes z
  pub bit : bit_of (get_or seen (holder z t) 0) (place_of z words t) ≡ 0

pub is_fresh : (z : Sizes) (words seen : List ℕ) (t : Tri) → fresh z words seen t ≡ true → Fresh z words seen t
unfolding fresh place_of
is_fresh z words seen t e =
    let c = place_of z words t in
    let p = both (ltb c 12) (eqb (bit_of (get_or seen (holder z t) 0) c) 0) e in
    let h : place_in z words (holder z t) t < 12 = ltb-true c 12 p.0 in
    record { place = h; cube = place_cube z words (holder z t) t h; bit = eqb-true _ _ p.1 }

pub noted_small : (z : Sizes) (words seen : List ℕ) (t : Tri) → cubes z ≤ length seen → Fresh z words seen t → Small (cubes z) seen
    → Small (cubes z) (noted z words seen t)
unfolding noted
noted_small z words seen t h f s = record { at = λ k l. go k l (ℕ_discrete k (holder z t)) }
  where
    go : (k : ℕ) → k < cubes z → Dec (k ≡ holder z t)
        → get_or (set seen (holder z t) (get_or seen (holder z t) 0 + 2 ^ place_of z words t)) k 0 < 4096
    go k l (yes e) =
        let g = set_small 12 (place_of z words t) (get_or seen (holder z t) 0) f.place (s.at (holder z t) f.cube) f.bit in
        rw (e, get_or-set_same seen (holder z t) (get_or seen (holder z t) 0 + 2 ^ place_of z words t) 0 (omega (arith, f.cube))) g
    go k l (no e) = rw (get_or-set_other seen (holder z t) k (get_or seen (holder z t) 0 + 2 ^ place_of z words t) 0 e) (s.at k l)

-- ── the spot of a triangle ──

pub base_few : (z : Sizes) → Sized z → (k : ℕ) → k < cubes z → base_of z k ≤ 2000000
unfolding base_of
base_few z s k h = omega (arith, sample_lt z (cube_at z k) (low_in z (cube_at z k) (cube_inside z s k h)), samples_few z s)

module _ (z : Sizes) (words : List ℕ) (k : ℕ) (t : Tri) where
  -- a search from the first place on
  pub place_is : k < cubes z → cond (eqb (get_or words k 0) 0) 12 (place_from z (base_of z k) (get_or words k 0 % 256) t 0) ≡ place_in z words k t
  unfolding place_in place_from place_by
  place_is h = rw (lt-ltb k (cubes z) h) (go (eqb (get_or words k 0) 0))
    where
      go : (b : Bool) → let p = place_by z (base_of z k) (get_or words k 0 % 256) t in cond b 12 p ≡ cond (not b) p 12
      go true = refl
      go false = refl

  -- what any search finds in a cube is where the triangle is
  pub near_found : (i word r : ℕ) → Sure z words → k < cubes z → ((word ≡ 0 → ⊥) → word ≡ get_or words k 0)
      → r ≡ cond (eqb word 0) 12 (place_from z (base_of z k) (word % 256) t i) → r < 12
      → (holder z t ≡ k) × (place_of z words t ≡ r)
  near_found i word r s hk is e h = go (eqb word 0) refl e
    where
      go : (b : Bool) → eqb word 0 ≡ b → r ≡ cond b 12 (place_from z (base_of z k) (word % 256) t i)
          → (holder z t ≡ k) × (place_of z words t ≡ r)
      go true q e = absurd (omega arith)
      go false q e =
          let some = eqb-false word 0 q in
          let w = is some in
          s.at k r t hk h (λ o. some (w ∙ o))
          (subst (λ (n : ℕ). is_at z (base_of z k) (n % 256) t r ≡ true) w
          (subst (λ (c : ℕ). is_at z (base_of z k) (word % 256) t c ≡ true) (sym e)
          (from_holds z (base_of z k) (word % 256) t i (omega arith))))

-- a search from the first place on in a cube that has a word
pub searched : (z : Sizes) (words : List ℕ) (k : ℕ) (t : Tri) (base m : ℕ) → k < cubes z → base ≡ base_of z k
    → get_or words k 0 ≡ 256 + m → m < 256 → place_from z base m t 0 ≡ place_in z words k t
unfolding place_from place_by
searched z words k t base m h b w l =
    let e : m ≡ get_or words k 0 % 256 = omega arith in
    (λ i. first (is_at z (b i) (e i) t) 12 (range 0 12)) ∙ place_word z words k t h (λ o. absurd (omega arith))

module _ (z : Sizes) (words : List ℕ) (t : Tri) where
  -- what any search finds in a spot's cube is where the triangle is
  pub spot_found : (s : Spot) (i c : ℕ) → Sure z words → Based z words s → place_from z s.base s.pattern t i ≡ c → c < 12
      → Found z words t (record { cube = s.cube; base = s.base; pattern = s.pattern; place = c })
  spot_found s i c S b e h =
      let word = get_or words s.cube 0 in
      let m : s.pattern ≡ word % 256 = omega (arith, b.word, b.pattern) in
      let some : word ≡ 0 → ⊥ = λ o. absurd (omega (arith, b.word)) in
      let is : c ≡ cond (eqb word 0) 12 (place_from z (base_of z s.cube) (word % 256) t i) =
      rw (ne_eqb word 0 some) (sym e ∙ (λ j. place_from z (b.base j) (m j) t i)) in
      let p = near_found z words s.cube t i word c S b.cube (λ o. refl) is h in
      record {
        place = sym p.1;
        cube = sym p.0;
        based = record { cube = b.cube; base = b.base; word = b.word; pattern = b.pattern; place = h };
      }

  -- no place, in no cube or in one that is not visited
  pub out_of : (k : ℕ) → k ≡ holder z t → cubes z ≤ k → place_of z words t ≡ 12
  unfolding place_of
  out_of k e h = ap (λ (k : ℕ). place_in z words k t) (sym e) ∙ sym (place_out z words k t h)

  pub idle_in : (k : ℕ) → k ≡ holder z t → get_or words k 0 ≡ 0 → place_of z words t ≡ 12
  unfolding place_of
  idle_in k e h = ap (λ (k : ℕ). place_in z words k t) (sym e) ∙ sym (place_idle z words k t h)

  pub placed_in : (k : ℕ) → k ≡ holder z t → place_in z words k t ≡ place_of z words t
  unfolding place_of
  placed_in k e = ap (λ (k : ℕ). place_in z words k t) e

module _ (z : Sizes) (words seen : List ℕ) (t : Tri) where
  pub found_fresh : (s : Spot) → Found z words t s → fresh_at seen s ≡ fresh z words seen t
  unfolding fresh_at fresh
  found_fresh s f =
      rw (lt-ltb (place_of z words t) 12 (omega (arith, f.place, f.based.place)))
      (λ i. eqb (bit_of (get_or seen (f.cube i) 0) (f.place i)) 0)

  pub found_noted : (s : Spot) → Found z words t s → noted_at seen s ≡ noted z words seen t
  unfolding noted_at noted
  found_noted s f i = set seen (f.cube i) (get_or seen (f.cube i) 0 + 2 ^ (f.place i))

  pub lost_fresh : place_of z words t ≡ 12 → fresh z words seen t ≡ false
  unfolding fresh
  lost_fresh e = rw (le-ltb (place_of z words t) 12 (omega arith))

-- ── triangle after triangle ──

module _ (z : Sizes) (words : List ℕ) (vs : List ℤ) (ts seen : List ℕ) where
  pub after_none : seen ≡ seen_after z words vs ts seen 0
  unfolding seen_after
  after_none = refl

  pub after_more : (i : ℕ) → noted z words (seen_after z words vs ts seen i) (triangle_of vs ts i) ≡ seen_after z words vs ts seen (i + 1)
  unfolding seen_after
  after_more i = rw (add-one i)

  pub after_length : (i : ℕ) → length (seen_after z words vs ts seen i) ≡ length seen
  unfolding seen_after noted
  after_length zero = refl
  after_length (suc i) = length-set (seen_after z words vs ts seen i) _ _ ∙ after_length i
