-- The search for the lowest crossed cube, of all or of those off the bounds, row by row. Assumes nothing.
use mathlib.Core.Path.{◌≡◌, refl, sym, ap, ap₂, subst, ◌∙◌}
use mathlib.Core.Bool.{Bool, true, false, cond, not, ◌&&◌}
use mathlib.Core.List.{List}
use Rattle.std.specs.Prelude.{Option, None}
use Prim.Native.Nat.{ℕ, zero, suc, ◌+◌, ◌-◌, ◌*◌, ◌%◌, ◌^◌, ◌≤◌, ◌<◌}
use native.Mathlib.Omega.{arith}
use native.Mathlib.Decide.{dec_lt}
use lib.Dec.{T, eqb, ltb, lt→ltb}
use lib.Pow.{pow_pos}
use borrow.Author.Tests.{eqb-true, ne_eqb, lt-ltb}
use Rattle.lists.proofs.Member.{and_both, and_right, and3}
use Rattle.lists.proofs.Within.{t_to_false}
use Rattle.lists.proofs.Closure.{bool_same}
use Rattle.lists.proofs.Runs.{first_at, first_none}
use Rattle.paper.specs.declared.Sizes.{Sizes}
use Rattle.paper.specs.declared.Place.{Place}
use Rattle.paper.specs.Lattice.{Lattice, place, crossed, cubes, cube_no, cube_at, lowest, inner, inside, may_start}
use Rattle.paper.specs.Within.{Sized, CubeIn}
use Rattle.paper.proofs.Numbers.{cube_place, cube_inside, cube_back, cube_lt}
use Rattle.paper.proofs.Starts.{inside_of}
use Rattle.bits.specs.Words.{bit}
use Rattle.bits.proofs.Bits.{bit_of_0, bit_and_law, bit_inner, bit_not, bit_pow, word_is}
use Rattle.rows.specs.Rows.{HasBoth, crossed_by, inside_row, wanted, wanted_row, wanted_by, looked_at}
use Rattle.rows.proofs.Cubes.{crossed_is, crossed_at, row_bit}

-- the lowest cube that passes a test, by numbers: none below the number of cubes, or one with none below it
module _ (z : Sizes) (t : ℕ → Bool) (k : ℕ) (below : (j : ℕ) → j < k → t j ≡ false) where
  none : k ≡ cubes z → k ≡ lowest z t
  unfolding lowest
  none e = e ∙ sym (first_none t (cubes z) 0 (cubes z) (λ j a b. below j (omega arith)))

  found : k < cubes z → t k ≡ true → k ≡ lowest z t
  unfolding lowest
  found l e = sym (first_at t (cubes z) 0 (cubes z) k (omega arith) (omega arith) (λ j a b. below j b) e)

-- counters of rows within layers
pub next : (w h k y z : ℕ) → k ≡ w * (y + h * z) → y ≡ h → k ≡ w * (h * (z + 1))
next w h k y z e q = e ∙ (ap (λ (y : ℕ). w * (y + h * z)) q ∙ omega arith)

pub full : (L : Lattice) (k z : ℕ) → z ≡ L.size.nz - 1 → k ≡ (L.size.nx - 1) * ((L.size.ny - 1) * z) → k ≡ cubes L.size
unfolding cubes
full L k z h e = e ∙ ap (λ (z : ℕ). (L.size.nx - 1) * ((L.size.ny - 1) * z)) h

-- where none of the bits looked at is set, none is
pub none_looked : (m n : ℕ) → ((i : ℕ) → i < looked_at m n → bit m i ≡ false) → (i : ℕ) → i < n → bit m i ≡ false
unfolding looked_at
none_looked m n h i l = go (eqb m 0) refl
  where
    go : (b : Bool) → eqb m 0 ≡ b → bit m i ≡ false
    go true e = ap (λ (m : ℕ). bit m i) (eqb-true m 0 e) ∙ bit_of_0 i
    go false e = let q : n ≡ cond (eqb m 0) 0 n = sym (ap (λ (b : Bool). cond b 0 n) e) in h i (omega arith)

pub looked_le : (m n : ℕ) → looked_at m n ≤ n
unfolding looked_at
looked_le m n = go (eqb m 0)
  where
    go : (b : Bool) → cond b 0 n ≤ n
    go true = omega arith
    go false = omega arith

-- a row of the cubes that are off the bounds, bit by bit
pub inside_bit : (n : Sizes) (y z x : ℕ) → bit (inside_row n y z) x ≡ inside n (place x y z)
unfolding inside_row
inside_bit n y z x =
    let p = place x y z in
    let low = ltb x (n.nx - 2) in
    bit_inner (λ x. inside n (place x y z)) (n.nx - 2) x
    ∙ bool_same (low && inside n p) (inside n p) (and_right low (inside n p))
    (λ t. and_both low (inside n p) (lt→ltb x (n.nx - 2) (omega (arith, (inside_of n p t).x_high))) t)

-- none of the row is where its y or its z is at the bounds; else all below nx − 2 but the first are
module _ (n : Sizes) (y z : ℕ) where
  no_row : ((x : ℕ) → inside n (place x y z) ≡ false) → 0 ≡ inside_row n y z
  unfolding inside_row
  no_row h = word_is 0 (n.nx - 2) (λ x. inside n (place x y z)) (pow_pos (n.nx - 2)) (λ x l. bit_of_0 x ∙ sym (h x))

  pub no_row_y : inner n.ny y ≡ false → 0 ≡ inside_row n y z
  unfolding inside
  no_row_y e = no_row (λ x. t_to_false _ (λ t. subst T e (and3 (inner n.nx x) (inner n.ny y) (inner n.nz z) t).1))

  pub no_row_z : inner n.nz z ≡ false → 0 ≡ inside_row n y z
  unfolding inside
  no_row_z e = no_row (λ x. t_to_false _ (λ t. subst T e (and3 (inner n.nx x) (inner n.ny y) (inner n.nz z) t).2))

  pub inner_row : inner n.ny y ≡ true → inner n.nz z ≡ true
      → let low = 2 ^ (n.nx - 2) - 1 in low - low % 2 ≡ inside_row n y z
  unfolding inside_row inside inner
  inner_row hy hz =
      let m = n.nx - 2 in
      let low = 2 ^ m - 1 in
      word_is (low - low % 2) m (λ x. inside n (place x y z)) (omega (arith, pow_pos m))
      (λ x l.
      let k : m ≡ suc (m - 1) = omega arith in
      let e : low % 2 ≡ 1 = omega (arith, ap (λ (k : ℕ). 2 ^ k) k, pow_pos (m - 1)) in
      bit_not (low % 2) m x (omega (arith, pow_pos m)) l
      ∙ (ap (λ (v : ℕ). not (bit v x)) e
      ∙ (ap not (bit_pow 0 x)
      ∙ (positive x ∙ sym (rw (hy, hz, lt-ltb (x + 2) n.nx (omega arith)) (alone (ltb 0 x)))))))
    where
      alone : (b : Bool) → (b && true && true && true) ≡ b
      alone true = refl
      alone false = refl

      positive : (x : ℕ) → not (eqb 0 x) ≡ ltb 0 x
      positive zero = refl
      positive (suc x) = ap not (ne_eqb 0 (suc x) (λ e. omega arith)) ∙ sym (lt-ltb 0 (suc x) (omega arith))

-- off the bounds or not
module _ (off : Bool) (z : Sizes) (rows may : List ℕ) where
  -- no cube below k is wanted
  abbrev pub Clear : ℕ → Type 0
  Clear k = (j : ℕ) → j < k → wanted_by off z rows may (cube_at z j) ≡ false

  -- the wanted cubes of a row
  abbrev pub wanted_at : ℕ → ℕ → ℕ
  wanted_at y w = wanted_row off z y w (crossed_at z rows may y w)

  pub wanted_bit : (m y w x : ℕ) → m ≡ wanted_at y w → bit m x ≡ wanted_by off z rows may (place x y w)
  unfolding wanted_row wanted_by
  wanted_bit m y w x e = ap (λ (m : ℕ). bit m x) e ∙ go off
    where
      c : bit (crossed_at z rows may y w) x ≡ crossed_by z rows may (place x y w)
      c = row_bit z rows may (crossed_at z rows may y w) y w x refl

      go : (b : Bool) → bit (wanted_row b z y w (crossed_at z rows may y w)) x ≡ wanted_by b z rows may (place x y w)
      go true = bit_and_law (crossed_at z rows may y w) (inside_row z y w) x ∙ ap₂ ◌&&◌ c (inside_bit z y w x)
      go false = c

  -- with the first n cubes of the row at y and w
  pub clear_row : (m y w n : ℕ) → m ≡ wanted_at y w → y < z.ny - 1 → n ≤ z.nx - 1
      → Clear ((z.nx - 1) * (y + (z.ny - 1) * w)) → ((x : ℕ) → x < n → bit m x ≡ false) → Clear (n + (z.nx - 1) * (y + (z.ny - 1) * w))
  unfolding cube_no
  clear_row m y w n e hy hn c h j l = go (dec_lt j ((z.nx - 1) * (y + (z.ny - 1) * w)))
    where
      go : Dec (j < (z.nx - 1) * (y + (z.ny - 1) * w)) → wanted_by off z rows may (cube_at z j) ≡ false
      go (yes k) = c j k
      go (no k) =
          let x = j - (z.nx - 1) * (y + (z.ny - 1) * w) in
          let q : j ≡ x + (z.nx - 1) * (y + (z.ny - 1) * w) = omega arith in
          let hx : x < n = omega arith in
          ap (wanted_by off z rows may) (ap (cube_at z) q ∙ cube_place z (place x y w) (omega arith) hy)
          ∙ (sym (wanted_bit m y w x e) ∙ h x hx)

-- nothing is found, and no cube below k is wanted
pub record Seeking (off : Bool) (z : Sizes) (rows may : List ℕ) (found : Option ℕ) (k : ℕ) : Type 0 where
  pub none : found ≡ None
  pub clear : Clear off z rows may k

-- nothing is found, and no bit of m below x is set
pub record Looking (m : ℕ) (found : Option ℕ) (x : ℕ) : Type 0 where
  pub none : found ≡ None
  pub clear : (i : ℕ) → i < x → bit m i ≡ false

-- ── what that says of the lattice ──

module _ (off : Bool) (L : Lattice) (rows may : List ℕ) (s : Sized L.size) (h : HasBoth L rows may) where
  wanted_is : (p : Place) → CubeIn L.size p → wanted_by off L.size rows may p ≡ wanted off L (cube_no L.size p)
  unfolding wanted_by may_start
  wanted_is p i = go off
    where
      c : crossed_by L.size rows may p ≡ crossed L (cube_no L.size p)
      c = crossed_is L rows h.sides p i may h.free

      go : (b : Bool) → wanted_by b L.size rows may p ≡ wanted b L (cube_no L.size p)
      go true = ap₂ ◌&&◌ c (ap (inside L.size) (sym (cube_place L.size p (omega (arith, i.x)) (omega (arith, i.y)))))
      go false = c

  wanted_no : (j : ℕ) → j < cubes L.size → wanted off L j ≡ wanted_by off L.size rows may (cube_at L.size j)
  wanted_no j l =
      sym (wanted_is (cube_at L.size j) (cube_inside L.size s j l) ∙ ap (wanted off L) (cube_back L.size s j l))

  pub none_lowest : Clear off L.size rows may (cubes L.size) → cubes L.size ≡ lowest L.size (wanted off L)
  none_lowest c = none L.size (wanted off L) (cubes L.size) (λ j l. wanted_no j l ∙ c j l) refl

  pub found_lowest : (p : Place) → CubeIn L.size p → Clear off L.size rows may (cube_no L.size p)
      → wanted_by off L.size rows may p ≡ true → cube_no L.size p ≡ lowest L.size (wanted off L)
  found_lowest p i c t =
      let n = cube_no L.size p in
      let l : n < cubes L.size = cube_lt L.size p i in
      found L.size (wanted off L) n (λ j g. wanted_no j (omega arith) ∙ c j g) l (sym (wanted_is p i) ∙ t)
