-- The bytes of corners and facets: as they are stored one after another, and that corners come back from them. Assumes nothing.
use mathlib.Core.Path.{◌≡◌, refl, ap, ◌∙◌}
use mathlib.Core.Bool.{Bool, true, ◌&&◌}
use mathlib.Core.List.{List, [], ◌∷◌, ◌++◌}
use Prim.Native.Nat.{ℕ, ◌+◌, ◌≤◌}
use native.Mathlib.Nat.{add_assoc}
use native.Mathlib.Omega.{arith}
use lib.Dec.{T}
use lib.IntN.{ℤ}
use lib.ListN.{length, take, drop, length-append}
use lib.Seq.{sets}
use lib.Ieee.{Float, binary32, fits, of_bits, to_bits}
use lib.Ieee.Bits.{of_bits-to_bits, to_bits-lt}
use Rattle.lists.specs.Bytes.{le, unle, field}
use Rattle.lists.proofs.Stores.{sets_next}
use Rattle.codec.proofs.Bytes.{unle_le, field_part}
use Rattle.facets.specs.declared.Corner.{Corner}
use Rattle.facets.specs.declared.Facet.{Facet}
use Rattle.facets.specs.Facets.{Bounded, Numbers, corner_of, corner_bytes, corner_at, corner_stands, corner_words}
use Rattle.facets.specs.Facets.{facet_bytes, facet_at, facet_stands, facet_words}
use Rattle.paper.proofs.Judged.{both}
use Rattle.facets.specs.Steps.{is_image}
use Rattle.facets.proofs.Floats.{float_number}
use Rattle.facets.proofs.Images.{float_fits, bounds_are, word_back}

-- ── three tests ──

pub three : (a b c : Bool) → (a && b && c) ≡ true → (a ≡ true) × (b ≡ true) × (c ≡ true)
three a b c e =
    let t = both (a && b) c e in
    let u = both a b t.0 in
    (u.0, u.1, t.1)

pub floats_stand : (c : Corner) → corner_stands c ≡ true → (is_image c.x ≡ true) × (is_image c.y ≡ true) × (is_image c.z ≡ true)
unfolding corner_stands
floats_stand c e = three (is_image c.x) (is_image c.y) (is_image c.z) e

pub corners_stand : (f : Facet) → facet_stands f ≡ true
    → (corner_stands f.a ≡ true) × (corner_stands f.b ≡ true) × (corner_stands f.c ≡ true)
unfolding facet_stands
corners_stand f e = three (corner_stands f.a) (corner_stands f.b) (corner_stands f.c) e

-- ── stores one after another ──

pub corner_length : (c : Corner) → length (corner_bytes c) ≡ 12
unfolding corner_bytes
corner_length c = refl

abbrev pub no_normal : List ℕ
no_normal = le 4 0 ++ le 4 0 ++ le 4 0

pub five : (l : List ℕ) {l₃ l₄ l₅ l₆ l₇ : List ℕ} (at : ℕ) (a b c : Corner)
    → l₃ ≡ sets l at no_normal
    → l₄ ≡ sets l₃ (at + 12) (corner_bytes a) → l₅ ≡ sets l₄ (at + 24) (corner_bytes c) → l₆ ≡ sets l₅ (at + 36) (corner_bytes b)
    → l₇ ≡ sets l₆ (at + 48) (le 2 0) → l₇ ≡ sets l at (facet_bytes a b c)
unfolding facet_bytes
five l at a b c e₃ e₄ e₅ e₆ e₇ =
    let w₁ = no_normal ++ corner_bytes a in
    let w₂ = w₁ ++ corner_bytes c in
    let w₃ = w₂ ++ corner_bytes b in
    let n₁ : length w₁ ≡ 24 = omega (arith, length-append no_normal (corner_bytes a), corner_length a) in
    let n₂ : length w₂ ≡ 36 = omega (arith, length-append w₁ (corner_bytes c), corner_length c) in
    let n₃ : length w₃ ≡ 48 = omega (arith, length-append w₂ (corner_bytes b), corner_length b) in
    sets_next l at (at + 48) w₃ (le 2 0) (omega arith)
    (sets_next l at (at + 36) w₂ (corner_bytes b) (omega arith)
    (sets_next l at (at + 24) w₁ (corner_bytes c) (omega arith)
    (sets_next l at (at + 12) no_normal (corner_bytes a) refl e₃ e₄) e₅) e₆) e₇

-- the normal's three numbers one by one
pub seven : (l : List ℕ) {l₁ l₂ l₃ l₄ l₅ l₆ l₇ : List ℕ} (at : ℕ) (a b c : Corner)
    → l₁ ≡ sets l at (le 4 0) → l₂ ≡ sets l₁ (at + 4) (le 4 0) → l₃ ≡ sets l₂ (at + 8) (le 4 0)
    → l₄ ≡ sets l₃ (at + 12) (corner_bytes a) → l₅ ≡ sets l₄ (at + 24) (corner_bytes c) → l₆ ≡ sets l₅ (at + 36) (corner_bytes b)
    → l₇ ≡ sets l₆ (at + 48) (le 2 0) → l₇ ≡ sets l at (facet_bytes a b c)
seven l at a b c e₁ e₂ e₃ =
    five l at a b c
    (sets_next l at (at + 8) (le 4 0 ++ le 4 0) (le 4 0) refl (sets_next l at (at + 4) (le 4 0) (le 4 0) refl e₁ e₂) e₃)

-- the coordinates of three corners, one after another
pub nine : (l : List ℤ) {l₁ l₂ l₃ : List ℤ} (at : ℕ) (f : Facet)
    → l₁ ≡ sets l at (corner_words f.a)
    → l₂ ≡ sets l₁ (at + 3) (corner_words f.b)
    → l₃ ≡ sets l₂ (at + 6) (corner_words f.c) → l₃ ≡ sets l at (facet_words f)
unfolding facet_words corner_words
nine l at f e₁ e₂ e₃ =
    sets_next l at (at + 6) (corner_words f.a ++ corner_words f.b) (corner_words f.c) refl
    (sets_next l at (at + 3) (corner_words f.a) (corner_words f.b) refl e₁ e₂) e₃

-- ── and back ──

-- each of its floats is one
pub record Held (c : Corner) : Type 0 where
  pub x : T (fits binary32 c.x)
  pub y : T (fits binary32 c.y)
  pub z : T (fits binary32 c.z)

module _ (bs : List ℕ) (at : ℕ) (a b c : Corner) (room : at + 50 ≤ length bs) (is : take 50 (drop at bs) ≡ facet_bytes a b c) where
  float_in : (j : ℕ) (x : Float) → T (fits binary32 x) → j + 4 ≤ 50 → field 4 (facet_bytes a b c) j ≡ unle (le 4 (to_bits binary32 x))
      → of_bits binary32 (field 4 bs (at + j)) ≡ x
  float_in j x f h e =
      ap (of_bits binary32)
      (field_part 4 50 bs at j room h
      ∙ (ap (λ (l : List ℕ). field 4 l j) is ∙ (e ∙ unle_le 4 (to_bits binary32 x) (to_bits-lt binary32 x f))))
      ∙ of_bits-to_bits binary32 x f

  corner_in : (j : ℕ) (d : Corner) → Held d → j + 12 ≤ 50
      → field 4 (facet_bytes a b c) j ≡ unle (le 4 (to_bits binary32 d.x))
      → field 4 (facet_bytes a b c) (j + 4) ≡ unle (le 4 (to_bits binary32 d.y))
      → field 4 (facet_bytes a b c) (j + 8) ≡ unle (le 4 (to_bits binary32 d.z))
      → corner_at bs (at + j) ≡ d
  unfolding corner_at
  corner_in j d f h ex ey ez =
      λ i. record {
        x = float_in j d.x f.x (omega arith) ex i;
        y = (moved 4 ∙ float_in (j + 4) d.y f.y (omega arith) ey) i;
        z = (moved 8 ∙ float_in (j + 8) d.z f.z (omega arith) ez) i;
      }
    where
      moved : (k : ℕ) → of_bits binary32 (field 4 bs (at + j + k)) ≡ of_bits binary32 (field 4 bs (at + (j + k)))
      moved k = ap (λ (m : ℕ). of_bits binary32 (field 4 bs m)) (add_assoc at j k)

  -- a facet's corners come back, in their order
  pub facet_back : Held a → Held b → Held c → facet_at bs at ≡ record { a = a; b = b; c = c }
  unfolding facet_at facet_bytes corner_bytes field
  facet_back fa fb fc =
      λ i. record {
        a = corner_in 12 a fa (omega arith) refl refl refl i;
        b = corner_in 36 b fb (omega arith) refl refl refl i;
        c = corner_in 24 c fc (omega arith) refl refl refl i;
      }

-- ── the corner of three coordinates ──

pub corner_held : (x y z : ℤ) → Held (corner_of x y z)
unfolding corner_of
corner_held x y z = record { x = float_fits _; y = float_fits _; z = float_fits _ }

module _ (x y z : ℤ) (b : Bounded x y z) where
  pub corner_numbers : Numbers (corner_of x y z)
  unfolding corner_of
  corner_numbers =
      record {
        x_number = float_number _ (omega (arith, (bounds_are x b.x_in).0));
        y_number = float_number _ (omega (arith, (bounds_are y b.y_in).0));
        z_number = float_number _ (omega (arith, (bounds_are z b.z_in).0));
      }

  pub corner_stands_law : corner_stands (corner_of x y z) ≡ true
  unfolding corner_stands corner_of
  corner_stands_law = rw ((word_back x b.x_in).0, (word_back y b.y_in).0, (word_back z b.z_in).0)

  pub corner_words_law : corner_words (corner_of x y z) ≡ x ∷ y ∷ z ∷ []
  unfolding corner_words corner_of
  corner_words_law = λ i. (word_back x b.x_in).1 i ∷ (word_back y b.y_in).1 i ∷ (word_back z b.z_in).1 i ∷ []
