-- Steps "into a neighbour across a shared face": the cube beyond a face shares the face's four corners, and a step leads back.
-- Assumes nothing.
use mathlib.Core.Path.{◌≡◌, refl, sym, ap, subst, ◌∙◌}
use mathlib.Core.Bool.{false, ◌&&◌}
use mathlib.Core.List.{List, [], ◌∷◌, map, map-map}
use Prim.Native.Nat.{ℕ, zero, suc, ◌+◌, ◌-◌, ◌*◌, ◌/◌, ◌%◌, ◌<◌}
use native.Mathlib.Omega.{arith}
use lib.Dec.{T, eqb, ltb→lt, lt→ltb}
use lib.ListN.{length}
use Rattle.lists.specs.Lists.{each, is_in}
use Rattle.lists.proofs.Member.{and3, both3, any_each, in_cons_if, cons_if_in}
use Rattle.lists.proofs.Every.{any_at, at_any}
use Rattle.paper.specs.declared.Place.{Place}
use Rattle.paper.specs.Lattice.{Lattice, Face, place, face, air_at, cubes, cube_no, cube_at, corner}
use Rattle.paper.specs.Lattice.{mixed, mixed_at, visitable, faces, face_at, step_over, steps}
use Rattle.paper.specs.Within.{Sized}
use Rattle.paper.proofs.Numbers.{cube_back, cube_place}
use Rattle.paper.proofs.Visits.{visitable_in}

-- the other end of the same axis
abbrev pub opposite : ℕ → ℕ
opposite i = i + 1 - 2 * (i % 2)

-- g, of the cube beyond f, is the face f of the cube at p: it leads back, and has the same samples
pub record Shared (p : Place) (f g : Face) : Type 0 where
  pub there : T g.there
  pub back : g.beyond ≡ p
  pub samples : map (corner f.beyond) g.corners ≡ map (corner p) f.corners

-- the cube beyond a face shares the face's four corners: they are those of its own opposite face
pub face_shared : (p : Place) (i : ℕ) → i < 6 → T (face_at p i).there → Shared p (face_at p i) (face_at (face_at p i).beyond (opposite i))
unfolding faces face_at corner
face_shared p zero h t =
    let g = ltb→lt 0 p.x t in
    let back : p.x - 1 + 1 ≡ p.x = omega arith in
    let same : p.x - 1 + 1 ≡ p.x + 0 = omega arith in
    record {
      there = tt;
      back = λ i. place (back i) p.y p.z;
      samples = ap (λ (x : ℕ). map (λ c. place x (p.y + c / 2 % 2) (p.z + c / 4)) (0 ∷ 2 ∷ 4 ∷ 6 ∷ [])) same;
    }
face_shared p (suc zero) h t =
    let back : p.x + 1 - 1 ≡ p.x = omega arith in
    let same : p.x + 1 + 0 ≡ p.x + 1 = omega arith in
    record {
      there = lt→ltb 0 (p.x + 1) (omega arith);
      back = λ i. place (back i) p.y p.z;
      samples = ap (λ (x : ℕ). map (λ c. place x (p.y + c / 2 % 2) (p.z + c / 4)) (0 ∷ 2 ∷ 4 ∷ 6 ∷ [])) same;
    }
face_shared p (suc (suc zero)) h t =
    let g = ltb→lt 0 p.y t in
    let back : p.y - 1 + 1 ≡ p.y = omega arith in
    let same : p.y - 1 + 1 ≡ p.y + 0 = omega arith in
    record {
      there = tt;
      back = λ i. place p.x (back i) p.z;
      samples = ap (λ (y : ℕ). map (λ c. place (p.x + c % 2) y (p.z + c / 4)) (0 ∷ 1 ∷ 4 ∷ 5 ∷ [])) same;
    }
face_shared p (suc (suc (suc zero))) h t =
    let back : p.y + 1 - 1 ≡ p.y = omega arith in
    let same : p.y + 1 + 0 ≡ p.y + 1 = omega arith in
    record {
      there = lt→ltb 0 (p.y + 1) (omega arith);
      back = λ i. place p.x (back i) p.z;
      samples = ap (λ (y : ℕ). map (λ c. place (p.x + c % 2) y (p.z + c / 4)) (0 ∷ 1 ∷ 4 ∷ 5 ∷ [])) same;
    }
face_shared p (suc (suc (suc (suc zero)))) h t =
    let g = ltb→lt 0 p.z t in
    let back : p.z - 1 + 1 ≡ p.z = omega arith in
    let same : p.z - 1 + 1 ≡ p.z + 0 = omega arith in
    record {
      there = tt;
      back = λ i. place p.x p.y (back i);
      samples = ap (λ (z : ℕ). map (λ c. place (p.x + c % 2) (p.y + c / 2 % 2) z) (0 ∷ 1 ∷ 2 ∷ 3 ∷ [])) same;
    }
face_shared p (suc (suc (suc (suc (suc zero))))) h t =
    let back : p.z + 1 - 1 ≡ p.z = omega arith in
    let same : p.z + 1 + 0 ≡ p.z + 1 = omega arith in
    record {
      there = lt→ltb 0 (p.z + 1) (omega arith);
      back = λ i. place p.x p.y (back i);
      samples = ap (λ (z : ℕ). map (λ c. place (p.x + c % 2) (p.y + c / 2 % 2) z) (0 ∷ 1 ∷ 2 ∷ 3 ∷ [])) same;
    }
face_shared p (suc (suc (suc (suc (suc (suc i)))))) h t = absurd (omega arith)

-- ── steps ──

mixed_samples : (L : Lattice) (p : Place) (cs : List ℕ) → mixed_at L p cs ≡ mixed (map (air_at L) (map (corner p) cs))
unfolding mixed_at
mixed_samples L p cs = ap mixed (sym (map-map (air_at L) (corner p) cs))

six : (p : Place) → length (faces p) ≡ 6
unfolding faces
six p = refl

-- a step leads back to the cube that it came from, where that may be visited
pub step_back : (L : Lattice) → Sized L.size → (j k : ℕ) → j < cubes L.size → T (visitable L (cube_at L.size j))
    → T (is_in (steps L j) k) → T (is_in (steps L k) j)
unfolding steps step_over face_at
step_back L s j k hj v t =
    let z = L.size in
    let p = cube_at z j in
    let w = any_at (λ f. is_in (step_over L p f) k) (faces p) (face [] false p) (subst T (any_each (eqb k) (step_over L p) (faces p)) t) in
    let i = w.0 in
    let hi : i < 6 = omega (arith, w.1, six p) in
    let f = face_at p i in
    let b = f.beyond in
    let e = in_cons_if (f.there && visitable L b && mixed_at L p f.corners) (cube_no z b) k w.2 in
    let m = and3 f.there (visitable L b) (mixed_at L p f.corners) e.0 in
    let g = face_at b (opposite i) in
    let r = face_shared p i hi m.0 in
    let hb = visitable_in L b m.1 in
    let place_k : cube_at z k ≡ b = ap (cube_at z) e.1 ∙ cube_place z b (omega (arith, hb)) (omega (arith, hb)) in
    let same : mixed_at L b g.corners ≡ mixed_at L p f.corners =
    mixed_samples L b g.corners
    ∙ (ap (λ (l : List Place). mixed (map (air_at L) l)) r.samples ∙ sym (mixed_samples L p f.corners)) in
    let inside : T (visitable L g.beyond) = subst (λ (q : Place). T (visitable L q)) (sym r.back) v in
    let number : cube_no z g.beyond ≡ j = ap (cube_no z) r.back ∙ cube_back z s j hj in
    let open_way : T (g.there && visitable L g.beyond && mixed_at L b g.corners) =
    both3 g.there (visitable L g.beyond) (mixed_at L b g.corners) r.there inside (subst T (sym same) m.2) in
    let over : T (is_in (step_over L b g) j) =
    subst (λ (n : ℕ). T (is_in (step_over L b g) n)) number
    (cons_if_in (g.there && visitable L g.beyond && mixed_at L b g.corners) (cube_no z g.beyond) open_way) in
    subst (λ (q : Place). T (is_in (each (step_over L q) (faces q)) j)) (sym place_k)
    (subst T (sym (any_each (eqb j) (step_over L b) (faces b)))
    (at_any (λ f. is_in (step_over L b f) j) (faces b) (face [] false b) (opposite i) (omega (arith, six b)) over))
