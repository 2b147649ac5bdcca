-- Tests in order: what it tells that all are passed, or that one is not. Assumes nothing.
use mathlib.Core.Path.{◌≡◌, refl, sym, subst}
use mathlib.Core.Bool.{Bool, true, false, cond, ◌&&◌}
use mathlib.Core.List.{List, [], ◌∷◌, ◌++◌}
use Prim.Native.Nat.{ℕ, ◌<◌}
use native.Mathlib.Omega.{arith}
use borrow.Author.Tests.{le-leb}
use lib.Dec.{T}
use Rattle.lists.proofs.Every.{All}
use Rattle.paper.specs.declared.Sizes.{Sizes}
use Rattle.paper.specs.Lattice.{axis, axes}
use Rattle.paper.specs.Tests.{Test, verdict, judge}
use Rattle.paper.specs.Within.{Sized}
use Rattle.paper.proofs.Visits as Visits

pub both : (a b : Bool) → (a && b) ≡ true → (a ≡ true) × (b ≡ true)
both true b e = (refl, e)
both false b e = absurd (subst T (sym e) tt)

-- no test gives the number 0 where it fails
abbrev pub Numbered : List Test → Type 0
Numbered [] = Unit {0}
Numbered (t ∷ ts) = (0 < t.otherwise.number) × Numbered ts

-- the first test is passed, and so are the others
judge_first : (t : Test) (ts : List Test) → 0 < t.otherwise.number
    → (judge (t ∷ ts)).number ≡ 0 → (t.passed ≡ true) × ((judge ts).number ≡ 0)
judge_first t ts h = go t.passed
  where
    go : (b : Bool) → (cond b (judge ts) t.otherwise).number ≡ 0 → (b ≡ true) × ((judge ts).number ≡ 0)
    go true e = (refl, e)
    go false e = absurd (omega arith)

abbrev pub Passed : List Test → Type 0
Passed [] = Unit {0}
Passed (t ∷ ts) = (t.passed ≡ true) × Passed ts

pub numbered_both : (l m : List Test) → Numbered l → Numbered m → Numbered (l ++ m)
numbered_both [] m h k = k
numbered_both (t ∷ ts) m h k = (h.0, numbered_both ts m h.1 k)

pub passed_both : (l m : List Test) → Passed (l ++ m) → Passed l × Passed m
passed_both [] m h = (tt, h)
passed_both (t ∷ ts) m h =
    let p = passed_both ts m h.1 in
    ((h.0, p.0), p.1)

-- the number 0 says that all are passed
pub judge_all : (l : List Test) → Numbered l → (judge l).number ≡ 0 → Passed l
judge_all [] h e = tt
judge_all (t ∷ ts) h e =
    let p = judge_first t ts h.0 e in
    (p.0, judge_all ts h.1 p.1)

pub both_passed : (l m : List Test) → Passed l → Passed m → Passed (l ++ m)
both_passed [] m h k = k
both_passed (t ∷ l) m h k = (h.0, both_passed l m h.1 k)

pub passed_judge : (l : List Test) → Passed l → judge l ≡ verdict 0 0
passed_judge [] p = refl
passed_judge (t ∷ ts) p = rw p.0 (passed_judge ts p.1)

-- further tests count where all of the first are passed
pub judge_past : (l m : List Test) → Numbered l → (judge l).number ≡ 0 → judge (l ++ m) ≡ judge m
judge_past [] m h e = refl
judge_past (t ∷ ts) m h e =
    let p = judge_first t ts h.0 e in
    rw p.0 (judge_past ts m h.1 p.1)

-- and do not where one is not
pub judge_stop : (l m : List Test) → ((judge l).number ≡ 0 → ⊥) → judge (l ++ m) ≡ judge l
judge_stop [] m h = absurd (h refl)
judge_stop (t ∷ ts) m h = go t.passed h (λ k. judge_stop ts m k)
  where
    go : (b : Bool) → ((cond b (judge ts) t.otherwise).number ≡ 0 → ⊥) → (((judge ts).number ≡ 0 → ⊥) → judge (ts ++ m) ≡ judge ts)
        → cond b (judge (ts ++ m)) t.otherwise ≡ cond b (judge ts) t.otherwise
    go true k f = f k
    go false k f = refl

-- the number 0 has the place 0
pub judge_none : (l : List Test) → Numbered l → (judge l).number ≡ 0 → judge l ≡ verdict 0 0
judge_none l h e = passed_judge l (judge_all l h e)

-- what holds of each test's number, and of 0, holds of the answer's
pub judge_among : (P : ℕ → Type 0) (l : List Test) → All (λ t. P t.otherwise.number) l
    → ((judge l).number ≡ 0 → P 0) → P (judge l).number
judge_among P [] h z = z refl
judge_among P (t ∷ l) h z = go t.passed z (λ q. judge_among P l h.1 q)
  where
    go : (b : Bool) → ((cond b (judge l) t.otherwise).number ≡ 0 → P 0)
        → (((judge l).number ≡ 0 → P 0) → P (judge l).number) → P (cond b (judge l) t.otherwise).number
    go true q r = r q
    go false q r = h.0

-- where no test has a place, neither has the answer
pub judge_placeless : (l : List Test) → All (λ t. t.otherwise.place ≡ 0) l → (judge l).place ≡ 0
judge_placeless [] h = refl
judge_placeless (t ∷ l) h = go t.passed (judge_placeless l h.1)
  where
    go : (b : Bool) → (judge l).place ≡ 0 → (cond b (judge l) t.otherwise).place ≡ 0
    go true e = e
    go false e = h.0

-- test 1
pub sized : (z : Sizes) → axes z ≡ true → Sized z
sized z e = Visits.sized z (subst T (sym e) tt)

pub sized_axes : (z : Sizes) → Sized z → axes z ≡ true
unfolding axes axis
sized_axes z s =
    rw (
      le-leb 2 z.nx s.x_low,
      le-leb z.nx 64 s.x_high,
      le-leb 2 z.ny s.y_low,
      le-leb z.ny 64 s.y_high,
      le-leb 2 z.nz s.z_low,
      le-leb z.nz 64 s.z_high,
    )
