-- A directed edge by its test. Assumes nothing.
use mathlib.Core.Path.{◌≡◌}
use Prim.Native.Nat.{ℕ}
use lib.Dec.{T, eqb, eqb→eq}
use Rattle.lists.proofs.Member.{and_both, and_left, and_right}
use Rattle.lists.proofs.Within.{eqb_of}
use Rattle.pairing.specs.Pairing.{Arrow, is_arrow}

pub is_arrow_law : (m n : ℕ) (d : Arrow) → T (is_arrow m n d) → (d.from ≡ m) × (d.to ≡ n)
unfolding is_arrow
is_arrow_law m n d t =
    (eqb→eq d.from m (and_left (eqb d.from m) (eqb d.to n) t), eqb→eq d.to n (and_right (eqb d.from m) (eqb d.to n) t))

pub arrow_is : {m n : ℕ} {d : Arrow} → d.from ≡ m → d.to ≡ n → T (is_arrow m n d)
unfolding is_arrow
arrow_is {m} {n} {d} a b = and_both (eqb d.from m) (eqb d.to n) (eqb_of a) (eqb_of b)
