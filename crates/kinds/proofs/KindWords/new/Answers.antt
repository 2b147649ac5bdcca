-- Each word has the bits of its kind. Assumes nothing.
use mathlib.Core.List.{[], ◌∷◌}
use native.Mathlib.Omega.{arith}
use Rattle.kinds.specs.Kinds.{kinds_of}
use Rattle.kinds.proofs.KindBits.{Fitting, kind_0, kind_1, kind_2, kind_3, kind_4, kind_5, kind_6}
use Rattle.kinds.proofs.KindWords.new.Goals as goal

pub returns : goal.returns
unfolding kinds_of
returns c =
    let f = c.args.f in
    let v = c.args.v in
    let l : Fitting v = record { a = omega arith; b = omega arith; c = omega arith; d = omega arith } in
    λ i. record {
      words =
          kind_0 f v l i
          ∷ kind_1 f v l i
          ∷ kind_2 f v l i
          ∷ kind_3 f v l i
          ∷ kind_4 f v l i
          ∷ kind_5 f v l i
          ∷ kind_6 f v l i
          ∷ [];
    }
