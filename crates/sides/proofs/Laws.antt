-- What a pattern says of its cube: each rule is one test that antt computes over all 256 patterns. Assumes nothing.
use mathlib.Core.Path.{◌≡◌, ap, ◌∙◌}
use mathlib.Core.Bool.{Bool, false}
use mathlib.Core.List.{List, [], ◌∷◌, map}
use Prim.Native.Nat.{ℕ, ◌<◌}
use lib.Dec.{T, eqb, eqb→eq, ltb, ltb→lt}
use lib.ListN.{get_or}
use Rattle.lists.specs.Lists.{range}
use Rattle.lists.proofs.Runs.{at_along}
use Rattle.lists.proofs.Computed.{Test8, every8, every8_at, upto, upto_at}
use Rattle.paper.specs.declared.Place.{Place}
use Rattle.paper.specs.Lattice.{Lattice, air_at, corner}
use Rattle.paper.specs.Sheet.{weight}
use Rattle.sides.specs.Pattern.{bits, pattern_at, bit_of}

-- a rule over the sides of the cube at p
abbrev At8 : Test8 → Lattice → Place → Type 0
At8 f L p =
    T (f (air_at L (corner p 0)) (air_at L (corner p 1)) (air_at L (corner p 2)) (air_at L (corner p 3)) (air_at L (corner p 4))
    (air_at L (corner p 5)) (air_at L (corner p 6)) (air_at L (corner p 7)))

at8 : (f : Test8) → T (every8 f) → (L : Lattice) (p : Place) → At8 f L p
at8 f t L p =
    every8_at f t (air_at L (corner p 0)) (air_at L (corner p 1)) (air_at L (corner p 2)) (air_at L (corner p 3)) (air_at L (corner p 4))
    (air_at L (corner p 5)) (air_at L (corner p 6)) (air_at L (corner p 7))

-- eight sides, and their number
abbrev eight : Bool → Bool → Bool → Bool → Bool → Bool → Bool → Bool → List Bool
eight a b c d e g h i = a ∷ b ∷ c ∷ d ∷ e ∷ g ∷ h ∷ i ∷ []

-- ── patterns are below 256, and have the corners' sides as their bits ──

small_test : Test8
small_test a b c d e g h i = ltb (bits (eight a b c d e g h i)) 256

small_all : T (every8 small_test)
unfolding small_test
small_all = tt

pub pattern_lt : (L : Lattice) (p : Place) → pattern_at L p < 256
unfolding pattern_at small_test
pattern_lt L p = ltb→lt _ 256 (at8 small_test small_all L p)

bit_test : Test8
unfolding bit_of
bit_test a b c d e g h i =
    let l = eight a b c d e g h i in upto 8 (λ j. eqb (bit_of (bits l) j) (weight (get_or l j false) 1))

bit_all : T (every8 bit_test)
unfolding bit_test
bit_all = tt

pub pattern_bit : (L : Lattice) (p : Place) (c : ℕ) → c < 8 → bit_of (pattern_at L p) c ≡ weight (air_at L (corner p c)) 1
unfolding pattern_at bit_test
pattern_bit L p c h =
    eqb→eq _ _ (upto_at 8 (λ j. eqb (bit_of (pattern_at L p) j) (weight (get_or (map (λ c. air_at L (corner p c)) (range 0 8)) j false) 1))
    (at8 bit_test bit_all L p) c h)
    ∙ ap (λ (b : Bool). weight b 1) (at_along (λ c. air_at L (corner p c)) false 8 c h)
