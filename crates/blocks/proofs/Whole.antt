-- The block of 64 at (0, 0, 0) is the whole lattice. Assumes nothing.
use mathlib.Core.Path.{◌≡◌, refl, sym, ap, ◌∙◌}
use mathlib.Core.Bool.{Bool, true, false, ◌&&◌, ◌||◌, or-false}
use mathlib.Core.List.{List}
use Prim.Native.Nat.{ℕ, ◌+◌, ◌*◌}
use native.Mathlib.Omega.{arith}
use lib.ListN.{get_or}
use Rattle.lists.specs.Lists.{range, is_in}
use Rattle.lists.proofs.Member.{t_to_eq, eq_to_t, in_keep, in_range}
use Rattle.paper.specs.declared.Sizes.{Sizes}
use Rattle.paper.specs.declared.Place.{Place}
use Rattle.paper.specs.Lattice.{Lattice, place, in_lattice, crossed, cubes, cube_no}
use Rattle.paper.specs.Within.{Sized, CubeIn}
use Rattle.paper.proofs.Numbers.{cube_lt}
use Rattle.paper.proofs.Visits.{in_lattice_law, lattice_in}
use Rattle.bits.specs.Words.{bit}
use Rattle.bits.proofs.Bits.{bit_of_0}
use Rattle.rows.specs.Rows.{HasBoth, row_no, is_one_of, HasCubes, crossed_by}
use Rattle.rows.proofs.Cubes.{crossed_is}
use Rattle.rows.proofs.Making.{row_lt}
use Rattle.blocks.specs.Blocks.{in_block, Block, crossed_where, Marked, Blank, crossed_cubes}
use Rattle.blocks.proofs.Parts.{inside_block}

pub whole_block : Block (place 0 0 0) 64
whole_block = record { level = 6; is = refl; x = omega arith; y = omega arith; z = omega arith }

module _ (L : Lattice) where
  abbrev z : Sizes
  z = L.size

  -- a crossed cube is one of the crossed cubes
  crossed_in_law : (p : Place) → CubeIn z p → is_in (crossed_cubes L) (cube_no z p) ≡ crossed L (cube_no z p)
  unfolding crossed_cubes
  crossed_in_law p c =
      let k = cube_no z p in
      in_keep (crossed L) (range 0 (cubes z)) k
      ∙ ap (λ (b : Bool). b && crossed L k)
      (t_to_eq (is_in (range 0 (cubes z)) k) (in_range 0 (cubes z) k (omega arith) (omega (arith, cube_lt z p c))))

  -- what words that have the crossed cubes say of a cube
  pub found_crossed : (found : List ℕ) → HasCubes z (crossed_cubes L) found → (p : Place) → CubeIn z p
      → bit (get_or found (row_no z p) 0) p.x ≡ crossed L (cube_no z p)
  unfolding is_one_of
  found_crossed found h p c =
      h.at p.y p.z p.x (omega (arith, c.y)) (omega (arith, c.z))
      ∙ (ap (λ (b : Bool). b && is_in (crossed_cubes L) (cube_no z p)) (t_to_eq (in_lattice z p) (lattice_in z p c)) ∙ crossed_in_law p c)

  module _ (rows may : List ℕ) (s : Sized L.size) (h : HasBoth L rows may) where
    whole_is : (p : Place) → crossed_where z rows may (in_block (place 0 0 0) 64) p ≡ is_one_of z (crossed_cubes L) p
    unfolding crossed_where is_one_of
    whole_is p = go (in_lattice z p) refl
      where
        go : (b : Bool) → in_lattice z p ≡ b
            → (b && (in_block (place 0 0 0) 64 p && crossed_by z rows may p)) ≡ (b && is_in (crossed_cubes L) (cube_no z p))
        go false e = refl
        go true e =
            let c = in_lattice_law z p (eq_to_t e) in
            let i = t_to_eq (in_block (place 0 0 0) 64 p) (inside_block (place 0 0 0) 64 p (record {
              x = record { low = omega arith; high = omega (arith, c.x, s.x_high) };
              y = record { low = omega arith; high = omega (arith, c.y, s.y_high) };
              z = record { low = omega arith; high = omega (arith, c.z, s.z_high) };
            })) in
            ap (λ (d : Bool). d && crossed_by z rows may p) i ∙ (crossed_is L rows h.sides p c may h.free ∙ sym (crossed_in_law p c))

    pub whole_cubes : (l m : List ℕ) → Blank (z.ny * z.nz) l → Marked z (crossed_where z rows may (in_block (place 0 0 0) 64)) l m
        → HasCubes z (crossed_cubes L) m
    whole_cubes l m o a = record {
      at = λ y w x hy hw.
          a.at y w x hy hw
          ∙ ((λ i. whole_is (place x y w) i || (ap (λ (v : ℕ). bit v x) (o.none (y + z.ny * w) (row_lt z y w hy hw)) ∙ bit_of_0 x) i)
          ∙ or-false (is_one_of z (crossed_cubes L) (place x y w)));
    }
