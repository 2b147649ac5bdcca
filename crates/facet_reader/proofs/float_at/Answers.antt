-- `facets::float_at` meets its contract. Assumes nothing.
use mathlib.Core.Path.{ap, ◌∙◌}
use Prim.Native.Nat.{ℕ}
use Rattle.facets.specs.Steps.{is_image}
use lib.Ieee.{binary32, of_bits}
use Rattle.facets.proofs.Images.{image_number, number_bits}
use Rattle.facet_reader.proofs.float_at.Goals as goal

pub float_from_bits-result : goal.float_from_bits-result
float_from_bits-result c =
    number_bits _ (image_number _ (ap (λ (b : ℕ). is_image (of_bits binary32 b)) c.get.ensures ∙ c.requires.1))
