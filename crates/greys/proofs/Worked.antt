-- Worked values of (vii), in one table with one theorem, by computation: those that were worked by another hand first, then each part of
-- the definitions at its ends. Floats are given by their bits. Assumes nothing.
use mathlib.Core.Path.{◌≡◌, refl}
use mathlib.Core.List.{List, [], ◌∷◌, map}
use Prim.Native.Nat.{ℕ}
use lib.IntN.{ℤ, pos, negsuc}
use lib.ListN.{length, replicate}
use lib.Ieee.{Float, binary32, of_bits, of_fields, odd, round, units, size, span, climb, add, sum, sub, neg, div, lt}
use Rattle.paper.specs.Room.{output_after}
use Rattle.greys.specs.declared.Level.{Level}
use Rattle.greys.specs.declared.Level.TheVariants.{Fixed, Halfway}
use Rattle.greys.specs.Level.{is_grey, level_of, are_greys, is_ordered}
use Rattle.greys.specs.Sample.{is_scale, held, cut_of, sample_of}
use Rattle.greys.specs.Convert.{first_bad, convert_verdict, samples_of}

float : ℕ → Float
unfolding of_bits of_fields odd
float b = of_bits binary32 b

fixed : ℕ → Level
fixed g = Fixed (float g)

halfway : ℕ → ℕ → Level
halfway air material = Halfway (float air) (float material)

-- a call on a slice of sevens, what it answers and what it leaves there
record Outcome : Type 0 where
  pub number : ℕ
  pub place : ℕ
  pub left : List ℤ

record Row : Type 0 where
  pub level : Level
  pub scale : ℕ
  pub voxels : List ℕ
  pub room : ℕ
  pub is : Outcome

sevens : ℕ → List ℤ
sevens n = replicate n (pos 7)

outcome : Row → Outcome
unfolding sevens float is_grey level_of are_greys is_ordered is_scale held cut_of sample_of first_bad convert_verdict
    samples_of output_after of_bits of_fields odd round units size span climb add sum sub neg div lt
outcome r =
    let vs = map float r.voxels in
    let v = convert_verdict r.level r.scale vs r.room in
    record { number = v.number; place = v.place; left = output_after v.number (samples_of r.level r.scale vs) (sevens r.room) }

-- these samples
gives : Level → ℕ → List ℕ → List ℤ → Row
gives l n vs samples =
    record { level = l; scale = n; voxels = vs; room = length vs; is = record { number = 0; place = 0; left = samples } }

-- the number, the place, and the slice as it was
refuses : Level → ℕ → List ℕ → ℕ → ℕ → ℕ → Row
unfolding sevens
refuses l n vs room number place =
    record { level = l; scale = n; voxels = vs; room = room; is = record { number = number; place = place; left = sevens room } }

table : List Row
unfolding fixed halfway float gives refuses
table =
    -- 0.5, 1, 1.5 about 1: 1, 0, 0
    gives (fixed 1065353216) 1 (1056964608 ∷ 1065353216 ∷ 1069547520 ∷ []) (pos 1 ∷ pos 0 ∷ pos 0 ∷ [])
    -- the same halfway between 0 and 2, 256 fold: 128, 0, −128
    ∷ gives (halfway 0 1073741824) 256 (1056964608 ∷ 1065353216 ∷ 1069547520 ∷ []) (pos 128 ∷ pos 0 ∷ negsuc 127 ∷ [])
    -- 100.25, 99.75 about 100, 4 fold: −1, 1
    ∷ gives (fixed 1120403456) 4 (1120436224 ∷ 1120370688 ∷ []) (negsuc 0 ∷ pos 1 ∷ [])
    -- 65,536 and −65,536 about 0, 256 fold: held
    ∷ gives (fixed 0) 256 (1199570944 ∷ 3347054592 ∷ []) (negsuc 32766 ∷ pos 32767 ∷ [])
    -- one step below 1, and 1e-40 above 0: at least 1
    ∷ gives (fixed 1065353216) 1 (1065353215 ∷ []) (pos 1 ∷ [])
    ∷ gives (fixed 71362) 1 (0 ∷ []) (pos 1 ∷ [])
    -- halfway between 2 and 2 is 22, with a voxel that is not a number 21 at its place
    ∷ refuses (halfway 1073741824 1073741824) 1 (0 ∷ []) 1 22 0
    ∷ refuses (halfway 1073741824 1073741824) 1 (0 ∷ 2143289344 ∷ []) 2 21 1
    -- cut towards zero on both sides: 1.5, −1.5, one step below 2, 2, −2
    ∷ gives (fixed 0) 1 (1069547520 ∷ 3217031168 ∷ 1073741823 ∷ 1073741824 ∷ 3221225472 ∷ [])
    (negsuc 0 ∷ pos 1 ∷ negsuc 0 ∷ negsuc 1 ∷ pos 2 ∷ [])
    -- held at 32,767: 32766.998, 32767.5, 32768, −32766.998, −32767.5, −32768
    ∷ gives (fixed 0) 1 (1191181823 ∷ 1191182080 ∷ 1191182336 ∷ 3338665471 ∷ 3338665728 ∷ 3338665984 ∷ [])
    (negsuc 32765 ∷ negsuc 32766 ∷ negsuc 32766 ∷ pos 32766 ∷ pos 32767 ∷ pos 32767 ∷ [])
    -- 16,383.25 and 16,383.75, 2 fold
    ∷ gives (fixed 0) 2 (1182792960 ∷ 1182793472 ∷ 3330276608 ∷ 3330277120 ∷ []) (negsuc 32765 ∷ negsuc 32766 ∷ pos 32766 ∷ pos 32767 ∷ [])
    -- minus zero on either side, the least float on either side
    ∷ gives (fixed 2147483648) 1 (0 ∷ 2147483648 ∷ 1 ∷ 2147483649 ∷ []) (pos 0 ∷ pos 0 ∷ pos 0 ∷ pos 1 ∷ [])
    -- the least normal float and the greatest below, 256 fold
    ∷ gives (fixed 0) 256 (2155872256 ∷ 2155872255 ∷ 8388608 ∷ []) (pos 1 ∷ pos 1 ∷ pos 0 ∷ [])
    -- the difference is rounded: 2 less 2^-30 is 2, and −2 plus 2^-30 is −2
    ∷ gives (fixed 1073741824) 1 (813694976 ∷ []) (pos 2 ∷ [])
    ∷ gives (fixed 3221225472) 1 (2961178624 ∷ []) (negsuc 1 ∷ [])
    -- so is the sum: of one and two least floats half is two, and of 65,536 and one step below it 65,536
    ∷ gives (halfway 1 2) 1 (1 ∷ 2 ∷ []) (pos 1 ∷ pos 0 ∷ [])
    ∷ gives (halfway 1199570943 1199570944) 256 (1199570943 ∷ 1199570944 ∷ []) (pos 1 ∷ pos 0 ∷ [])
    -- every scale
    ∷ gives (fixed 0) 2 (3212836864 ∷ 1065353216 ∷ []) (pos 2 ∷ negsuc 1 ∷ [])
    ∷ gives (fixed 0) 8 (3212836864 ∷ 1065353216 ∷ []) (pos 8 ∷ negsuc 7 ∷ [])
    ∷ gives (fixed 0) 16 (3212836864 ∷ 1065353216 ∷ []) (pos 16 ∷ negsuc 15 ∷ [])
    ∷ gives (fixed 0) 32 (3212836864 ∷ 1065353216 ∷ []) (pos 32 ∷ negsuc 31 ∷ [])
    ∷ gives (fixed 0) 64 (3212836864 ∷ 1065353216 ∷ []) (pos 64 ∷ negsuc 63 ∷ [])
    ∷ gives (fixed 0) 128 (3212836864 ∷ 1065353216 ∷ []) (pos 128 ∷ negsuc 127 ∷ [])
    -- 26 for any other
    ∷ refuses (fixed 0) 0 (0 ∷ []) 1 26 0
    ∷ refuses (fixed 0) 3 (0 ∷ []) 1 26 0
    ∷ refuses (fixed 0) 257 (0 ∷ []) 1 26 0
    ∷ refuses (fixed 0) 512 (0 ∷ []) 1 26 0
    -- 26 before 21 of a grey, that before 21 of a voxel, that before 22, that before 2
    ∷ refuses (fixed 2143289344) 3 (2143289344 ∷ []) 2 26 0
    ∷ refuses (fixed 2139095040) 1 (0 ∷ 2143289344 ∷ []) 1 21 0
    ∷ refuses (halfway 1073741824 2143289344) 1 (0 ∷ 2143289344 ∷ []) 1 21 0
    ∷ refuses (halfway 2143289344 1073741824) 1 (0 ∷ 2143289344 ∷ []) 1 21 0
    ∷ refuses (halfway 1077936128 1073741824) 1 (0 ∷ 0 ∷ 2143289344 ∷ 2143289344 ∷ []) 1 21 2
    ∷ refuses (halfway 1077936128 1073741824) 1 (0 ∷ []) 0 22 0
    -- 2 where the slice is longer, or shorter
    ∷ refuses (fixed 1065353216) 1 (0 ∷ []) 2 2 0
    ∷ refuses (fixed 1065353216) 1 (0 ∷ 0 ∷ []) 1 2 0
    -- no voxels
    ∷ gives (fixed 1065353216) 1 [] []
    -- greys end at 65,536
    ∷ gives (fixed 1199570944) 1 (1199570944 ∷ 3347054592 ∷ []) (pos 0 ∷ pos 32767 ∷ [])
    ∷ refuses (fixed 1199570945) 1 (0 ∷ []) 1 21 0
    ∷ refuses (fixed 0) 1 (0 ∷ 1199570945 ∷ []) 2 21 1
    ∷ refuses (fixed 0) 1 (3347054593 ∷ []) 1 21 0
    ∷ refuses (fixed 0) 1 (0 ∷ 0 ∷ 2139095040 ∷ []) 3 21 2
    ∷ refuses (fixed 0) 1 (4286578688 ∷ []) 1 21 0
    ∷ refuses (fixed 0) 1 (4290772993 ∷ []) 1 21 0
    ∷ refuses (halfway 3347054592 3347054593) 1 (0 ∷ []) 1 21 0
    ∷ refuses (halfway 3347054593 0) 1 (0 ∷ []) 1 21 0
    -- minus zero is not below zero; one step is
    ∷ refuses (halfway 2147483648 0) 1 (0 ∷ []) 1 22 0
    ∷ gives (halfway 0 1) 1 (0 ∷ []) (pos 0 ∷ [])
    ∷ []

worked : map outcome table ≡ map (λ r. r.is) table
unfolding outcome table sevens fixed halfway float gives refuses
worked = refl
