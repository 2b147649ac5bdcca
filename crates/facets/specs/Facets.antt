-- Document 02 (i): corners and facets, their bytes and their coordinates. Assumes nothing.
use Rattle.std.specs.Prelude.{◌≡◌, Bool, true, not, ◌&&◌, List, [], ◌∷◌, ◌++◌, ℕ, ◌+◌, T, ℤ}
use Rattle.std.specs.Float.{binary32}
use Rattle.std.specs.Float.Ieee.{of_bits, to_bits, is_nan}
use Rattle.lists.specs.Bytes.{le, field}
use Rattle.facets.specs.declared.Corner.{Corner}
use Rattle.facets.specs.declared.Facet.{Facet}
use Rattle.facets.specs.Steps.{float_of, in_bounds, nat_of, is_image, word_of}

-- ── writing ──

-- three numbers of a sheet that are coordinates
pub record Bounded (x y z : ℤ) : Type 0 where
  pub x_in : in_bounds x ≡ true
  pub y_in : in_bounds y ≡ true
  pub z_in : in_bounds z ≡ true

-- "A corner is one record of three floats.": that of three coordinates
unfoldable pub corner_of : ℤ → ℤ → ℤ → Corner
corner_of x y z = record { x = float_of (nat_of x); y = float_of (nat_of y); z = float_of (nat_of z) }

-- a corner of three numbers
pub record Numbers (c : Corner) : Type 0 where
  pub x_number : T (not (is_nan c.x))
  pub y_number : T (not (is_nan c.y))
  pub z_number : T (not (is_nan c.z))

unfoldable pub corner_bytes : Corner → List ℕ
corner_bytes c = le 4 (to_bits binary32 c.x) ++ le 4 (to_bits binary32 c.y) ++ le 4 (to_bits binary32 c.z)

-- "50 bytes a facet: zero normal, three corners, a zero 16-bit attribute"; "the second and third corner trade places"
unfoldable pub facet_bytes : Corner → Corner → Corner → List ℕ
facet_bytes a b c = le 4 0 ++ le 4 0 ++ le 4 0 ++ corner_bytes a ++ corner_bytes c ++ corner_bytes b ++ le 2 0

-- ── reading ──

unfoldable pub corner_at : List ℕ → ℕ → Corner
corner_at bs at =
    record {
      x = of_bits binary32 (field 4 bs at);
      y = of_bits binary32 (field 4 bs (at + 4));
      z = of_bits binary32 (field 4 bs (at + 8));
    }

-- "in the sheet's corner order"; "ignores header, normal and attribute"
unfoldable pub facet_at : List ℕ → ℕ → Facet
facet_at bs at = record { a = corner_at bs (at + 12); b = corner_at bs (at + 36); c = corner_at bs (at + 24) }

-- all its floats are coordinates'
unfoldable pub corner_stands : Corner → Bool
corner_stands c = is_image c.x && is_image c.y && is_image c.z

unfoldable pub facet_stands : Facet → Bool
facet_stands f = corner_stands f.a && corner_stands f.b && corner_stands f.c

-- "the same integers .., nine to a facet"
unfoldable pub corner_words : Corner → List ℤ
corner_words c = word_of c.x ∷ word_of c.y ∷ word_of c.z ∷ []

unfoldable pub facet_words : Facet → List ℤ
facet_words f = corner_words f.a ++ corner_words f.b ++ corner_words f.c
