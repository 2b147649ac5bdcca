-- Document 02 (vii): greys, and the level. Floats and their operations are the kit's (lib.Ieee): `fin s m e` is m · 2^e, below 0 where s is
-- true, and 2^e is up e / down e. Assumes nothing.
use Rattle.std.specs.Prelude.{Bool, true, false, ◌&&◌, ◌*◌, leb, pos, Float}
use Rattle.std.specs.Float.{nan, inf, fin, binary32}
use Rattle.std.specs.Float.Ieee.{up, down, add, div, lt}
use Rattle.greys.specs.declared.Level.{Level}
use Rattle.greys.specs.declared.Level.TheVariants.{Fixed, Halfway}

-- "not a number or .. beyond ±65,536": neither of these
unfoldable pub is_grey : Float → Bool
is_grey nan = false
is_grey (inf s) = false
is_grey (fin s m e) = leb (m * up e) (65536 * down e)

-- "either as a fixed grey or as halfway between an air grey and a material grey, and halfway is their sum divided by two", each rounded
-- as f32 does
unfoldable pub level_of : Level → Float
level_of (Fixed g) = g
level_of (Halfway air material) = div binary32 (add binary32 air material) (fin false 1 (pos 1))

-- each grey that the level is given by is one
unfoldable pub are_greys : Level → Bool
are_greys (Fixed g) = is_grey g
are_greys (Halfway air material) = is_grey air && is_grey material

-- "22 where air is not below material"
unfoldable pub is_ordered : Level → Bool
is_ordered (Fixed g) = true
is_ordered (Halfway air material) = lt air material
