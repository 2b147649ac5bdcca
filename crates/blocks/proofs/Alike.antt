-- Rows whose bits are alike over a block. Assumes nothing.
use mathlib.Core.Path.{◌≡◌, sym, ap, transport, ◌∙◌}
use mathlib.Core.Bool.{Bool, true, false, cond, not}
use mathlib.Core.List.{List}
use Prim.Native.Nat.{ℕ, ◌+◌, ◌-◌, ◌*◌, ◌/◌, ◌^◌, ◌≤◌, ◌<◌, min}
use native.Mathlib.Omega.{arith}
use lib.Bits.{bit_and}
use lib.Dec.{T}
use lib.Pow.{pow_pos}
use lib.ListN.{length, get_or, replicate, length-replicate}
use Rattle.lists.specs.Lists.{over}
use Rattle.paper.specs.declared.Sizes.{Sizes}
use Rattle.paper.specs.declared.Place.{Place}
use Rattle.paper.specs.Lattice.{Lattice, place, air_at, crossed, cubes, cube_at}
use Rattle.paper.specs.Within.{Sized, SampleIn, CubeIn}
use Rattle.paper.proofs.Numbers.{cube_inside, cube_back}
use Rattle.bits.specs.Words.{bit, word}
use Rattle.rows.specs.Rows.{HasRows, HasFree, side_row, side_rows}
use Rattle.bits.proofs.Bits.{bit_shr, bit_of_0, bit_not, bit_word, word_ext, word_is, masked}
use Rattle.rows.proofs.Cubes.{made_rows, made_free, crossed_is}
use Rattle.blocks.specs.Blocks.{in_block, OneSided, Lesser, side_by, OneSide}
use Rattle.blocks.proofs.Parts.{block_inside, inside_block, one_side_quiet}

-- std's `min` is the lesser
pub lesser : {a b r : ℕ} → r ≡ min a b → Lesser a b r
lesser e = (omega arith, omega arith, λ i h k. omega arith)

-- the side of a sample by rows is that of the lattice
side_is : (L : Lattice) (rows : List ℕ) → HasRows L rows → (p : Place) → SampleIn L.size p → side_by L.size rows p ≡ air_at L p
unfolding side_by side_row
side_is L rows h p i =
    ap (λ (w : ℕ). bit w p.x) (h.at p.y p.z i.y i.z)
    ∙ bit_word (λ x. air_at L (place x p.y p.z)) L.size.nx p.x i.x

-- and so is what is on one side: no cube of such a block is crossed
module _ (L : Lattice) (rows : List ℕ) (h : HasRows L rows) (b : Place) (n : ℕ) where
  sided_one : OneSided L b n → OneSide L.size rows b n
  sided_one o = (o.0, λ p i t. side_is L rows h p i ∙ o.1 p i t)

  none_crossed : (may : List ℕ) → HasFree L may → Sized L.size → OneSided L b n → (k : ℕ) → k < cubes L.size
      → T (in_block b n (cube_at L.size k))
      → crossed L k ≡ false
  none_crossed may g s o k l t =
      let z = L.size in
      let c = cube_inside z s k l in
      sym (crossed_is L rows h (cube_at z k) c may g ∙ ap (crossed L) (cube_back z s k l))
      ∙ one_side_quiet z rows may b n (sided_one o) (cube_at z k) c t

-- "a block whose samples are all on one side is passed over": no cube of it is crossed
pub one_side_none : (L : Lattice) → Sized L.size → (b : Place) (n : ℕ) → OneSided L b n → (k : ℕ) → k < cubes L.size
    → T (in_block b n (cube_at L.size k)) → crossed L k ≡ false
one_side_none L s b n o k l t =
    let size = L.size.ny * L.size.nz in
    let old = replicate {A = ℕ} size 0 in
    let h : size ≤ length old = omega (arith, length-replicate {A = ℕ} size 0) in
    none_crossed L (over (side_rows L) old) (made_rows L old h) b n _ (made_free L old h) s o k l t

-- all of n bits, or none
all_or_none : (s : Bool) (n : ℕ) → cond s (2 ^ n - 1) 0 ≡ word (λ _. s) n
all_or_none true n =
    let e : 2 ^ n - 1 ≡ 2 ^ n - 1 - 0 = omega arith in
    word_is (2 ^ n - 1) n (λ _. true) (omega (arith, pow_pos n))
    (λ x l. ap (λ (w : ℕ). bit w x) e ∙ (bit_not 0 n x (pow_pos n) l ∙ ap not (bit_of_0 x)))
all_or_none false n = word_is 0 n (λ _. false) (pow_pos n) (λ x l. bit_of_0 x)

-- a word whose n bits from x on are all s, by its masked part
module _ (w x n : ℕ) (s : Bool) where
  pub part_alike : bit_and (w / 2 ^ x) (2 ^ n - 1) ≡ cond s (2 ^ n - 1) 0 → (i : ℕ) → i < n → bit w (x + i) ≡ s
  part_alike e i l =
      sym (bit_word (bit (w / 2 ^ x)) n i l ∙ bit_shr w x i)
      ∙ (ap (λ (v : ℕ). bit v i) (sym (masked (w / 2 ^ x) n) ∙ (e ∙ all_or_none s n)) ∙ bit_word (λ _. s) n i l)

  pub alike_part : ((i : ℕ) → i < n → bit w (x + i) ≡ s) → bit_and (w / 2 ^ x) (2 ^ n - 1) ≡ cond s (2 ^ n - 1) 0
  alike_part h = masked (w / 2 ^ x) n ∙ (word_ext (bit (w / 2 ^ x)) (λ _. s) n (λ i l. bit_shr w x i ∙ h i l) ∙ sym (all_or_none s n))

-- the part of the row at y and w that a block looks at
abbrev pub part_at : Sizes → List ℕ → ℕ → ℕ → ℕ → ℕ → ℕ
part_at z rows x m y w = bit_and (get_or rows (y + z.ny * w) 0 / 2 ^ x) m

-- a block of n x n x n cubes at b: k samples on the x axis, up to ye and ze on the others, all alike like the first
module _ (z : Sizes) (rows : List ℕ) (b : Place) (n k ye ze m like : ℕ) (s : Bool)
    (lx : Lesser (n + 1) (z.nx - b.x) k) (ly : Lesser (b.y + n + 1) z.ny ye) (lz : Lesser (b.z + n + 1) z.nz ze)
    (em : m ≡ 2 ^ k - 1) (el : like ≡ cond s m 0) where
  goal_is : (w : ℕ) → (bit_and (w / 2 ^ b.x) m ≡ like) ≡ (bit_and (w / 2 ^ b.x) (2 ^ k - 1) ≡ cond s (2 ^ k - 1) 0)
  goal_is w = let e : like ≡ cond s (2 ^ k - 1) 0 = el ∙ ap (λ (v : ℕ). cond s v 0) em in λ i. bit_and (w / 2 ^ b.x) (em i) ≡ e i

  pub rows_alike : ((y w : ℕ) → b.y ≤ y → y < ye → b.z ≤ w → w < ze → part_at z rows b.x m y w ≡ like) → OneSide z rows b n
  unfolding side_by
  rows_alike h = (
    s,
    λ p i t.
        let c = block_inside b (n + 1) p t in
        let d = p.x - b.x in
        let e : p.x ≡ b.x + d = omega (arith, c.x.low) in
        let w = get_or rows (p.y + z.ny * p.z) 0 in
        let ky = ly.2 p.y (omega (arith, c.y.high)) i.y in
        let kz = lz.2 p.z (omega (arith, c.z.high)) i.z in
        let r = h p.y p.z c.y.low ky c.z.low kz in
        ap (bit w) e ∙ part_alike w b.x k s (transport (goal_is w) r) d (lx.2 d (omega (arith, c.x.high)) (omega (arith, i.x))),
  )

  pub rows_differ : CubeIn z b → s ≡ side_by z rows b → (y w : ℕ) → b.y ≤ y → y < ye → b.z ≤ w → w < ze
      → (part_at z rows b.x m y w ≡ like → ⊥) → OneSide z rows b n → ⊥
  unfolding side_by
  rows_differ c e y w hy ky hz kz q (s', h) =
      let f : s' ≡ s = sym (e ∙ h b (record { x = omega (arith, c.x); y = omega (arith, c.y); z = omega (arith, c.z) })
      (inside_block b (n + 1) b (record {
        x = record { low = omega arith; high = omega arith };
        y = record { low = omega arith; high = omega arith };
        z = record { low = omega arith; high = omega arith };
      }))) in
      let v = get_or rows (y + z.ny * w) 0 in
      q (transport (sym (goal_is v)) (alike_part v b.x k s (λ i l.
      h (place (b.x + i) y w) (record { x = omega (arith, lx.1); y = omega (arith, ly.1); z = omega (arith, lz.1) })
      (inside_block b (n + 1) (place (b.x + i) y w) (record {
        x = record { low = omega arith; high = omega (arith, lx.0) };
        y = record { low = hy; high = omega (arith, ly.0) };
        z = record { low = hz; high = omega (arith, lz.0) };
      })) ∙ f)))
