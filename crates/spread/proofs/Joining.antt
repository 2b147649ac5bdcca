-- The gates and doors of rows mean document 01's faces between cubes that may be visited. Assumes nothing.
use mathlib.Core.Path.{◌≡◌, refl, sym, ap, ap₂, subst, ◌∙◌}
use mathlib.Core.Bool.{Bool, true, false, cond, ◌&&◌, and_comm}
use mathlib.Core.List.{List}
use Prim.Native.Nat.{ℕ, zero, suc, ◌+◌, ◌-◌, ◌*◌, ◌/◌, ◌%◌, ◌<◌}
use native.Mathlib.Omega.{arith}
use lib.Dec.{T, ltb, ltb→lt, lt→ltb}
use lib.Arith.{digits_lt}
use lib.Bits.{bit_and}
use lib.ListN.{get_or, replicate, get_or-replicate, length-replicate}
use Rattle.lists.proofs.Member.{t_to_eq, eq_to_t, and3, and_both, and_left, and_right}
use Rattle.lists.proofs.Within.{t_to_false}
use Rattle.lists.proofs.Closure.{bool_same}
use Rattle.paper.specs.declared.Sizes.{Sizes}
use Rattle.paper.specs.declared.Place.{Place}
use Rattle.paper.specs.Lattice.{Lattice, Face, place, mixed_at, in_lattice, visitable, faces, face_at}
use Rattle.paper.specs.Within.{Sized, CubeIn}
use Rattle.paper.proofs.Visits.{in_lattice_law, lattice_in, visitable_in}
use Rattle.bits.specs.Words.{bit}
use Rattle.bits.proofs.Bits.{bit_and_law, bit_of_0}
use Rattle.rows.specs.Rows.{HasBoth, row_no, quad_at, across_in, face_row}
use Rattle.rows.proofs.Cubes.{gate_bit, face_bit, face_is, high_is}
use Rattle.ways.specs.Ways.{is_way, next_row, gate_at, door_at, beside_at, words, RowIn, plan_of}
use Rattle.spread.specs.Flooded.{Empty}
use Rattle.ways.proofs.Ways.{row_lt, words_le, into}
use Rattle.spread.proofs.Visiting.{row_y, row_z, open_at, same_x, Joined}

module _ (z : Sizes) (p : Place) (h : CubeIn z p) where
  abbrev r : ℕ
  r = row_no z p

  at_y : r % z.ny ≡ p.y
  at_y = row_y z p (omega (arith, h.y))

  at_z : r / z.ny ≡ p.z
  at_z = row_z z p (omega (arith, h.y))

  pub row_of_law : RowIn z r
  row_of_law = record { inner = omega (arith, at_y, h.y); outer = omega (arith, at_z, h.z) }

  -- there is a way where there is a cube beyond the face
  way_is : (k : ℕ) → k < 4 → is_way z r k ≡ ((face_at p (k + 2)).there && in_lattice z (face_at p (k + 2)).beyond)
  unfolding is_way face_at faces
  way_is zero l =
      bool_same (ltb 0 (r % z.ny)) _
      (λ t. let a = ltb→lt 0 (r % z.ny) t in
      and_both (ltb 0 p.y) _ (lt→ltb 0 p.y (omega (arith, at_y)))
      (lattice_in z (face_at p 2).beyond (record { x = h.x; y = omega (arith, h.y); z = h.z })))
      (λ t. let a = ltb→lt 0 p.y (and_left (ltb 0 p.y) _ t) in lt→ltb 0 (r % z.ny) (omega (arith, at_y)))
  way_is (suc zero) l =
      bool_same (ltb (r % z.ny + 2) z.ny) _
      (λ t. let a = ltb→lt (r % z.ny + 2) z.ny t in
      lattice_in z (face_at p 3).beyond (record { x = h.x; y = omega (arith, at_y); z = h.z }))
      (λ t. let i = in_lattice_law z (face_at p 3).beyond t in lt→ltb (r % z.ny + 2) z.ny (omega (arith, at_y, i.y)))
  way_is (suc (suc zero)) l =
      bool_same (ltb 0 (r / z.ny)) _
      (λ t. let a = ltb→lt 0 (r / z.ny) t in
      and_both (ltb 0 p.z) _ (lt→ltb 0 p.z (omega (arith, at_z)))
      (lattice_in z (face_at p 4).beyond (record { x = h.x; y = h.y; z = omega (arith, h.z) })))
      (λ t. let a = ltb→lt 0 p.z (and_left (ltb 0 p.z) _ t) in lt→ltb 0 (r / z.ny) (omega (arith, at_z)))
  way_is (suc (suc (suc zero))) l =
      bool_same (ltb (r / z.ny + 2) z.nz) _
      (λ t. let a = ltb→lt (r / z.ny + 2) z.nz t in
      lattice_in z (face_at p 5).beyond (record { x = h.x; y = h.y; z = omega (arith, at_z) }))
      (λ t. let i = in_lattice_law z (face_at p 5).beyond t in lt→ltb (r / z.ny + 2) z.nz (omega (arith, at_z, i.z)))
  way_is (suc (suc (suc (suc k)))) l = absurd (omega arith)

  -- and it leads to the row of that cube
  next_is : (k : ℕ) → k < 4 → T (face_at p (k + 2)).there → next_row z r k ≡ row_no z (face_at p (k + 2)).beyond
  unfolding next_row face_at faces
  next_is zero l t = let a = ltb→lt 0 p.y t in omega arith
  next_is (suc zero) l t = omega arith
  next_is (suc (suc zero)) l t =
      let a = ltb→lt 0 p.z t in
      let e : p.z ≡ p.z - 1 + 1 = omega arith in
      omega (arith, ap (λ (n : ℕ). z.ny * n) e)
  next_is (suc (suc (suc zero))) l t = omega arith
  next_is (suc (suc (suc (suc k)))) l t = absurd (omega arith)

pub row_small : (z : Sizes) (p : Place) → Sized z → CubeIn z p → (row_no z p < 4096) × (z.ny * p.z < 4096)
row_small z p s h =
    let l = row_lt z (row_no z p) (row_of_law z p h) in
    let w = words_le z s in
    (omega arith, omega arith)

-- words that were never written
pub fresh : (z : Sizes) → Sized z → Empty (words z) (replicate 4096 0)
fresh z s = record {
  fit = omega (arith, words_le z s, length-replicate {A = ℕ} 4096 0);
  none = λ r h. get_or-replicate 4096 r 0 0 (omega (arith, words_le z s));
}

module _ (L : Lattice) (s : Sized L.size) (rows may : List ℕ) (H : HasBoth L rows may) where
  abbrev z : Sizes
  z = L.size

  gate_is : (p : Place) → CubeIn z p
      → bit (gate_at z rows may (row_no z p)) (suc p.x)
      ≡ (visitable L p && visitable L (face_at p 1).beyond && mixed_at L p (face_at p 1).corners)
  unfolding face_at faces
  gate_is p h =
      let q = quad_at rows z.ny (row_no z p) in
      let m = get_or may (row_no z p) 0 in
      let e : suc p.x ≡ p.x + 1 = omega arith in
      let a = H.free.at p.y p.z p.x h.y h.z in
      let b = ap (bit m) e ∙ H.free.at p.y p.z (p.x + 1) h.y h.z in
      gate_bit q m p.x (omega (arith, h.x, s.x_high))
      ∙ ap₂ ◌&&◌ (ap₂ ◌&&◌ b a ∙ and_comm (visitable L (face_at p 1).beyond) (visitable L p))
      (ap (across_in q) e ∙ high_is L rows H.sides p h)

  module _ (p : Place) (k : ℕ) (h : CubeIn z p) (l : k < 4) where
    abbrev f : Face
    f = face_at p (k + 2)

    abbrev m : ℕ
    m = face_row (quad_at rows z.ny (row_no z p)) (k + 2)

    mixed_is : bit m p.x ≡ mixed_at L p f.corners
    mixed_is = face_bit (quad_at rows z.ny (row_no z p)) k l p.x ∙ face_is L rows H.sides p h k l

    go : (b : Bool) → is_way z (row_no z p) k ≡ b
        → bit (bit_and (cond b m 0) (get_or may (cond b (next_row z (row_no z p) k) (row_no z p)) 0)) p.x
        ≡ (f.there && visitable L f.beyond && mixed_at L p f.corners)
    go true e =
        let t = eq_to_t (sym (way_is z p h k l) ∙ e) in
        let there = and_left f.there (in_lattice z f.beyond) t in
        let i = in_lattice_law z f.beyond (and_right f.there (in_lattice z f.beyond) t) in
        let free = H.free.at f.beyond.y f.beyond.z p.x i.y i.z in
        let x = same_x p k l in
        let w = get_or may (next_row z (row_no z p) k) 0 in
        bit_and_law m w p.x
        ∙ (ap₂ ◌&&◌ mixed_is
        (ap (λ (r : ℕ). bit (get_or may r 0) p.x) (next_is z p h k l there) ∙ free
        ∙ (λ i. visitable L (place (sym x i) f.beyond.y f.beyond.z)))
        ∙ (and_comm (mixed_at L p f.corners) (visitable L f.beyond)
        ∙ ap (λ (b : Bool). b && visitable L f.beyond && mixed_at L p f.corners) (sym (t_to_eq f.there there))))
    go false e =
        let w = get_or may (row_no z p) 0 in
        bit_and_law 0 w p.x ∙ ap (λ (b : Bool). b && bit w p.x) (bit_of_0 p.x)
        ∙ sym (t_to_false _ (λ t.
        let u = and3 f.there (visitable L f.beyond) (mixed_at L p f.corners) t in
        let i = lattice_in z f.beyond (visitable_in L f.beyond u.1) in
        subst T (sym (way_is z p h k l) ∙ e) (and_both f.there (in_lattice z f.beyond) u.0 i)))

    door_is : bit (door_at z rows may (row_no z p) k) p.x ≡ open_at L p (k + 2)
    door_is = go (is_way z (row_no z p) k) refl

  beside_is : (p : Place) (k : ℕ) → CubeIn z p → k < 4 → T (open_at L p (k + 2))
      → beside_at z rows (row_no z p) k ≡ row_no z (face_at p (k + 2)).beyond
  beside_is p k h l t =
      let f = face_at p (k + 2) in
      let w = and3 f.there (visitable L f.beyond) (mixed_at L p f.corners) t in
      let i = lattice_in z f.beyond (visitable_in L f.beyond w.1) in
      let e : is_way z (row_no z p) k ≡ true = way_is z p h k l ∙ t_to_eq _ (and_both f.there (in_lattice z f.beyond) w.0 i) in
      ap (λ (b : Bool). cond b (next_row z (row_no z p) k) (row_no z p)) e ∙ next_is z p h k l w.0

  pub joined : Joined L (plan_of z rows may)
  joined = record {
    gates = gate_is;
    doors = door_is;
    beside = beside_is;
    within = λ y w hy hw. omega (arith, digits_lt hw hy);
    into = λ r k l _. into z (quad_at rows z.ny r) r k (omega (arith, s.y_low)) l;
  }
