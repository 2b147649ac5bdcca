-- A listing that is not refused lies within its room. Assumes nothing.
use mathlib.Core.Path.{◌≡◌, refl, sym, ◌∙◌}
use mathlib.Core.Bool.{Bool, true, false, cond}
use mathlib.Core.List.{List}
use Prim.Native.Nat.{ℕ, ◌*◌, ◌≤◌}
use native.Mathlib.Omega.{arith}
use lib.Dec.{eqb}
use lib.IntN.{ℤ, pos}
use lib.ListN.{length, drop, length-append, length-drop, length-replicate}
use borrow.Author.Tests.{eqb-true}
use Rattle.lists.specs.Lists.{over}
use Rattle.paper.specs.declared.Start.{Start}
use Rattle.paper.specs.declared.Start.TheVariants.{Lowest}
use Rattle.paper.specs.declared.Built.{Built}
use Rattle.paper.specs.Lattice.{Lattice}
use Rattle.paper.specs.Sheet.{Sheet, vertex_words, triangle_words}
use Rattle.paper.specs.Room.{vertex_room, triangle_room, output_after}
use Rattle.paper.specs.Build.{Lent, start_of, build_rule, sheet_from, build_number, uncounted, built, lent_after}
use Rattle.paper.proofs.Listing.{vertex_words_length, triangle_words_length}
use Rattle.paper.proofs.Passing.{built_number, built_zero, built_fits}
use Rattle.lister.specs.Listing.{listed_lattice, listing_number, vertex_numbers, triangle_numbers}
use Rattle.lister.specs.Listing.{listing_room, own_room, listed, listed_after, Lists}
use Rattle.std.specs.Prelude.{Result}
use Rattle.paper.specs.declared.BuildError.{BuildError}
use Rattle.paper.specs.declared.SheetCounts.{SheetCounts}
use Rattle.paper.specs.Refused.{built_told}
use Rattle.paper.proofs.Judged.{judge_among}
use Rattle.paper.proofs.Told.{Telling, telling, telling_uncounted, built_one}
use Rattle.lister.specs.Listing.{listing_tests}

-- the counted vertices and triangles stand in slices of these lengths
pub record Fits (r : Built) (nv nt : ℕ) : Type 0 where
  pub vertices : 4 * r.vertices ≤ nv
  pub triangles : 3 * r.triangles ≤ nt

build_fits : (L : Lattice) (s : Start) (l : Lent) → (built L s l).number ≡ 0
    → Fits (built L s l) (length l.vertices) (length l.triangles)
build_fits L s l e =
    let f = built_fits L s l e in
    rw (built_zero L s l e) (record { vertices = omega (arith, f.0); triangles = omega (arith, f.1) })

pub listing_fits : (bs : List ℕ) → (listed bs).number ≡ 0 → Fits (listed bs) vertex_numbers triangle_numbers
unfolding listed own_room listing_room
listing_fits bs = go (eqb (listing_number bs) 0) refl
  where
    go : (b : Bool) → eqb (listing_number bs) 0 ≡ b
        → (cond b (built (listed_lattice bs) Lowest own_room) (uncounted (listing_number bs))).number ≡ 0
        → Fits (cond b (built (listed_lattice bs) Lowest own_room) (uncounted (listing_number bs))) vertex_numbers triangle_numbers
    go true q e =
        let f = build_fits (listed_lattice bs) Lowest own_room e in
        record {
          vertices = omega (arith, f.vertices, length-replicate {A = ℤ} vertex_numbers (pos 0));
          triangles = omega (arith, f.triangles, length-replicate {A = ℕ} triangle_numbers 0);
        }
    go false q e = record { vertices = omega arith; triangles = omega arith }

-- what is left is as long as it was
output_length : {A : Type 0} (n : ℕ) (new old : List A) → (n ≡ 0 → length new ≤ length old) → length (output_after n new old) ≡ length old
unfolding output_after
output_length n new old h = go (eqb n 0) refl
  where
    go : (b : Bool) → eqb n 0 ≡ b → length (cond b (over new old) old) ≡ length old
    go true e =
        let l = h (eqb-true n 0 e) in
        omega (arith, length-append new (drop (length new) old), length-drop (length new) old)
    go false e = refl

module _ (L : Lattice) (s : Start) (l : Lent) where
  abbrev S : Sheet
  S = sheet_from L s

  fits_in : build_number L s l ≡ 0 → (length S.edges ≤ vertex_room l.vertices) × (length S.triangles ≤ triangle_room l.triangles)
  fits_in e = built_fits L s l (built_number L s l ∙ e)

  left_vertices : length (lent_after L s l).vertices ≡ length l.vertices
  unfolding lent_after
  left_vertices =
      output_length (build_number L s l) (vertex_words S) l.vertices
      (λ e. omega (arith, (fits_in e).0, vertex_words_length build_rule L (start_of L s)))

  left_triangles : length (lent_after L s l).triangles ≡ length l.triangles
  unfolding lent_after
  left_triangles =
      output_length (build_number L s l) (triangle_words S) l.triangles (λ e. omega (arith, (fits_in e).1, triangle_words_length S))

module _ (bs : List ℕ) (vs : List ℤ) (ts : List ℕ) where
  by_number : (f : Lent → ℕ) → f (lent_after (listed_lattice bs) Lowest (listing_room vs ts)) ≡ f (listing_room vs ts)
      → f (listed_after bs vs ts) ≡ f (listing_room vs ts)
  unfolding listed_after
  by_number f h = go (eqb (listing_number bs) 0)
    where
      go : (b : Bool)
          → f (cond b (lent_after (listed_lattice bs) Lowest (listing_room vs ts)) (listing_room vs ts)) ≡ f (listing_room vs ts)
      go true = h
      go false = refl

  pub listed_vertices : length (listed_after bs vs ts).vertices ≡ length vs
  unfolding listing_room
  listed_vertices = by_number (λ l. length l.vertices) (left_vertices (listed_lattice bs) Lowest (listing_room vs ts))

  pub listed_triangles : length (listed_after bs vs ts).triangles ≡ length ts
  unfolding listing_room
  listed_triangles = by_number (λ l. length l.triangles) (left_triangles (listed_lattice bs) Lowest (listing_room vs ts))

-- any two outcomes that the contract of a listing allows agree
pub lists_agree : (bs : List ℕ) (vs : List ℤ) (ts : List ℕ) (r₁ r₂ : Built) (vs₁ vs₂ : List ℤ) (ts₁ ts₂ : List ℕ)
    → Lists bs vs ts r₁ vs₁ ts₁ → Lists bs vs ts r₂ vs₂ ts₂ → (r₁ ≡ r₂) × (vs₁ ≡ vs₂) × (ts₁ ≡ ts₂)
lists_agree bs vs ts r₁ r₂ vs₁ vs₂ ts₁ ts₂ a b =
    (a.answer ∙ sym b.answer, a.vertices ∙ sym b.vertices, a.triangles ∙ sym b.triangles)

-- as Results too
telling_listed : (bs : List ℕ) → Telling (listed bs)
unfolding listed listing_number listing_tests
telling_listed bs = go (eqb (listing_number bs) 0)
  where
    go : (b : Bool) → Telling (cond b (built (listed_lattice bs) Lowest own_room) (uncounted (listing_number bs)))
    go true = telling (listed_lattice bs) Lowest own_room
    go false =
        judge_among (λ n. Telling (uncounted n)) (listing_tests bs)
        (telling_uncounted 1 refl refl, (telling_uncounted 1 refl refl, (telling_uncounted 1 refl refl, (telling_uncounted 2 refl refl, tt))))
        (λ z. telling_uncounted 0 refl refl)

pub list_results : (bs : List ℕ) (vs : List ℤ) (ts : List ℕ) (r₁ r₂ : Result SheetCounts BuildError) (vs₁ vs₂ : List ℤ) (ts₁ ts₂ : List ℕ)
    → Lists bs vs ts (built_told r₁) vs₁ ts₁ → Lists bs vs ts (built_told r₂) vs₂ ts₂ → (r₁ ≡ r₂) × (vs₁ ≡ vs₂) × (ts₁ ≡ ts₂)
list_results bs vs ts r₁ r₂ vs₁ vs₂ ts₁ ts₂ a b =
    let w = lists_agree bs vs ts _ _ vs₁ vs₂ ts₁ ts₂ a b in
    (built_one (listed bs) (telling_listed bs) r₁ r₂ a.answer b.answer, w.1, w.2)
