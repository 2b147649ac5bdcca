-- What inner functions need, and what they give. Assumes nothing.
use Rattle.std.specs.Prelude.{◌≡◌, true, false, cond, List, ℕ, ◌*◌, ◌/◌, ◌^◌, ◌≤◌, ◌<◌, pos, length, get_or, Float}
use Rattle.std.specs.Float.{nan, inf, fin}
use Rattle.std.specs.Float.Ieee.{up, down, lt, neg}
use Rattle.greys.specs.Level.{is_grey}
use Rattle.greys.specs.Sample.{none}

-- a scale by its power
pub record Scale (n : ℕ) : Type 0 where
  pub k : ℕ
  pub small : k ≤ 8
  pub is : n ≡ 2 ^ k

-- d without its sign
unfoldable pub size_of : Float → Float
size_of d = cond (lt d none) (neg d) d

abbrev pub most : Float
most = fin false 32767 (pos 0)

-- x, and 32,767 where it is not below
unfoldable pub at_most : Float → Float
at_most x = cond (lt x most) x most

-- a float from 0 to 32,767, minus zero among them, and its whole part
abbrev pub Plain : Float → Type 0
Plain nan = ⊥
Plain (inf s) = ⊥
Plain (fin s m e) = (s ≡ true → m ≡ 0) × (m * up e ≤ 32767 * down e)

unfoldable pub whole : Float → ℕ
whole nan = 0
whole (inf s) = 0
whole (fin s m e) = m * up e / down e

-- a number within ±b
abbrev pub Bounded : ℕ → Float → Type 0
Bounded b nan = ⊥
Bounded b (inf s) = ⊥
Bounded b (fin s m e) = m * up e ≤ b * down e

-- what passes the tests
abbrev pub AllGreys : List Float → Type 0
AllGreys vs = (i : ℕ) → i < length vs → is_grey (get_or vs i nan) ≡ true

pub record Fine (level : Float) (n : ℕ) (vs : List Float) : Type 0 where
  pub scale : Scale n
  pub level_grey : is_grey level ≡ true
  pub greys : AllGreys vs
