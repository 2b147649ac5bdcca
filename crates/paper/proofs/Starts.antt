-- The lowest cube that passes a test; and document 02 (iv), the cubes that may be the start where none is named. Assumes nothing.
use mathlib.Core.Path.{◌≡◌, sym, ◌∙◌}
use mathlib.Core.Bool.{Bool, true, false, ◌&&◌}
use mathlib.Core.List.{List, [], ◌∷◌}
use Prim.Native.Nat.{ℕ, ◌+◌, ◌-◌, ◌<◌}
use native.Mathlib.Omega.{arith}
use lib.Dec.{T, ltb, ltb→lt, lt→ltb}
use Rattle.lists.specs.Lists.{range, any, all}
use Rattle.lists.proofs.Member.{eq_to_t, and_both, and_left, and_right, and3, both3}
use Rattle.lists.proofs.Runs.{any_first}
use Rattle.lists.proofs.Closure.{bool_same}
use Rattle.lists.proofs.Firsts.{first_holds, first_before}
use Rattle.paper.specs.declared.Sizes.{Sizes}
use Rattle.paper.specs.declared.Place.{Place}
use Rattle.paper.specs.Lattice.{Lattice, place, cubes, cube_at, in_lattice, Face, faces}
use Rattle.paper.specs.Lattice.{face_at, crossed, lowest, inner, inside, may_start}
use Rattle.paper.specs.Within.{CubeInside}
use Rattle.paper.proofs.Visits.{in_lattice_law, lattice_in}

module _ (z : Sizes) (t : ℕ → Bool) where
  -- one passes where the lowest is one of the cubes
  pub some_lowest : any t (range 0 (cubes z)) ≡ ltb (lowest z t) (cubes z)
  unfolding lowest
  some_lowest = any_first t (cubes z)

  pub lowest_lt : any t (range 0 (cubes z)) ≡ true → lowest z t < cubes z
  lowest_lt h = ltb→lt (lowest z t) (cubes z) (eq_to_t (sym some_lowest ∙ h))

  -- then it passes, and no lower cube does
  pub lowest_passes : lowest z t < cubes z → T (t (lowest z t))
  unfolding lowest
  lowest_passes h = eq_to_t (first_holds t (cubes z) 0 (cubes z) h)

  pub none_lower : (j : ℕ) → j < lowest z t → t j ≡ false
  unfolding lowest
  none_lower = first_before t (cubes z)

-- ── "none of its six faces in the lattice's bounds" ──

inner_of : (n x : ℕ) → T (inner n x) → (0 < x) × (x + 2 < n)
unfolding inner
inner_of n x t =
    (ltb→lt 0 x (and_left (ltb 0 x) (ltb (x + 2) n) t), ltb→lt (x + 2) n (and_right (ltb 0 x) (ltb (x + 2) n) t))

of_inner : (n x : ℕ) → 0 < x → x + 2 < n → T (inner n x)
unfolding inner
of_inner n x a b = and_both (ltb 0 x) (ltb (x + 2) n) (lt→ltb 0 x a) (lt→ltb (x + 2) n b)

pub inside_of : (z : Sizes) (p : Place) → T (inside z p) → CubeInside z p
unfolding inside
inside_of z p t =
    let e = and3 (inner z.nx p.x) (inner z.ny p.y) (inner z.nz p.z) t in
    let a = inner_of z.nx p.x e.0 in
    let b = inner_of z.ny p.y e.1 in
    let c = inner_of z.nz p.z e.2 in
    record { x_low = a.0; x_high = a.1; y_low = b.0; y_high = b.1; z_low = c.0; z_high = c.1 }

pub of_inside : (z : Sizes) (p : Place) → CubeInside z p → T (inside z p)
unfolding inside
of_inside z p h =
    both3 (inner z.nx p.x) (inner z.ny p.y) (inner z.nz p.z) (of_inner z.nx p.x h.x_low h.x_high)
    (of_inner z.ny p.y h.y_low h.y_high) (of_inner z.nz p.z h.z_low h.z_high)

-- the same by the faces themselves: beyond each of the six is a cube of the lattice
abbrev six : Face → Face → Face → Face → Face → Face → List Face
six a b c d e f = a ∷ b ∷ c ∷ d ∷ e ∷ f ∷ []

module _ (t : Face → Bool) (a b c d e f : Face) where
  all_six : T (t a) → T (t b) → T (t c) → T (t d) → T (t e) → T (t f) → T (all t (six a b c d e f))
  all_six ha hb hc hd he hf =
      and_both (t a) (all t (b ∷ c ∷ d ∷ e ∷ f ∷ [])) ha
      (and_both (t b) (all t (c ∷ d ∷ e ∷ f ∷ [])) hb
      (and_both (t c) (all t (d ∷ e ∷ f ∷ [])) hc
      (and_both (t d) (all t (e ∷ f ∷ [])) hd (and_both (t e) (all t (f ∷ [])) he (and_both (t f) true hf tt)))))

  six_all : T (all t (six a b c d e f)) → T (t a) × T (t b) × T (t c) × T (t d) × T (t e) × T (t f)
  six_all h =
      let h₁ = and_right (t a) (all t (b ∷ c ∷ d ∷ e ∷ f ∷ [])) h in
      let h₂ = and_right (t b) (all t (c ∷ d ∷ e ∷ f ∷ [])) h₁ in
      let h₃ = and_right (t c) (all t (d ∷ e ∷ f ∷ [])) h₂ in
      let h₄ = and_right (t d) (all t (e ∷ f ∷ [])) h₃ in
      let h₅ = and_right (t e) (all t (f ∷ [])) h₄ in (
        and_left (t a) (all t (b ∷ c ∷ d ∷ e ∷ f ∷ [])) h,
        and_left (t b) (all t (c ∷ d ∷ e ∷ f ∷ [])) h₁,
        and_left (t c) (all t (d ∷ e ∷ f ∷ [])) h₂,
        and_left (t d) (all t (e ∷ f ∷ [])) h₃,
        and_left (t e) (all t (f ∷ [])) h₄,
        and_left (t f) true h₅,
      )

module _ (z : Sizes) (p : Place) where
  abbrev joined : Face → Bool
  joined f = f.there && in_lattice z f.beyond

  there : (x y w : ℕ) → x + 1 < z.nx → y + 1 < z.ny → w + 1 < z.nz → T (in_lattice z (place x y w))
  there x y w a b c = lattice_in z (place x y w) (record { x = a; y = b; z = c })

  low : (n : ℕ) (q : Place) → 0 < n → T (in_lattice z q) → T (ltb 0 n && in_lattice z q)
  low n q h t = and_both (ltb 0 n) (in_lattice z q) (lt→ltb 0 n h) t

  all_joined : T (inside z p) → T (all joined (faces p))
  unfolding faces face_at
  all_joined t =
      let h = inside_of z p t in
      let x = p.x in
      let y = p.y in
      let w = p.z in
      let hx : x + 1 < z.nx = omega (arith, h.x_high) in
      let hy : y + 1 < z.ny = omega (arith, h.y_high) in
      let hw : w + 1 < z.nz = omega (arith, h.z_high) in
      all_six joined (face_at p 0) (face_at p 1) (face_at p 2) (face_at p 3) (face_at p 4) (face_at p 5)
      (low x (place (x - 1) y w) h.x_low (there (x - 1) y w (omega arith) hy hw))
      (there (x + 1) y w (omega (arith, h.x_high)) hy hw)
      (low y (place x (y - 1) w) h.y_low (there x (y - 1) w hx (omega arith) hw))
      (there x (y + 1) w hx (omega (arith, h.y_high)) hw)
      (low w (place x y (w - 1)) h.z_low (there x y (w - 1) hx hy (omega arith)))
      (there x y (w + 1) hx hy (omega (arith, h.z_high)))

  above : (n : ℕ) (q : Place) → T (ltb 0 n && in_lattice z q) → 0 < n
  above n q t = ltb→lt 0 n (and_left (ltb 0 n) (in_lattice z q) t)

  joined_all : T (all joined (faces p)) → T (inside z p)
  unfolding faces face_at
  joined_all t =
      let x = p.x in
      let y = p.y in
      let w = p.z in
      let e = six_all joined (face_at p 0) (face_at p 1) (face_at p 2) (face_at p 3) (face_at p 4) (face_at p 5) t in
      of_inside z p
      (record {
        x_low = above x (place (x - 1) y w) e.0;
        x_high = omega (arith, (in_lattice_law z (place (x + 1) y w) e.1).x);
        y_low = above y (place x (y - 1) w) e.2;
        y_high = omega (arith, (in_lattice_law z (place x (y + 1) w) e.3).y);
        z_low = above w (place x y (w - 1)) e.4;
        z_high = omega (arith, (in_lattice_law z (place x y (w + 1)) e.5).z);
      })

  pub inside_joined : inside z p ≡ all (λ f. f.there && in_lattice z f.beyond) (faces p)
  inside_joined = bool_same (inside z p) (all joined (faces p)) all_joined joined_all

-- a cube may be the start where it is crossed and inside
module _ (L : Lattice) (k : ℕ) where
  pub may_crossed : T (may_start L k) → T (crossed L k)
  unfolding may_start
  may_crossed = and_left (crossed L k) (inside L.size (cube_at L.size k))

  pub may_inside : T (may_start L k) → CubeInside L.size (cube_at L.size k)
  unfolding may_start
  may_inside t = inside_of L.size (cube_at L.size k) (and_right (crossed L k) (inside L.size (cube_at L.size k)) t)

  pub may_start_law : T (crossed L k) → CubeInside L.size (cube_at L.size k) → T (may_start L k)
  unfolding may_start
  may_start_law t h = and_both (crossed L k) (inside L.size (cube_at L.size k)) t (of_inside L.size (cube_at L.size k) h)
