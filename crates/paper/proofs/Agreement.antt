-- Any two outcomes that the contract of an entry point allows agree: answers, and what every lent slice then holds. Assumes nothing.
use mathlib.Core.Path.{◌≡◌, sym, ◌∙◌}
use mathlib.Core.List.{List}
use Prim.Native.Nat.{ℕ}
use lib.IntN.{ℤ}
use Rattle.paper.specs.declared.Sizes.{Sizes}
use Rattle.paper.specs.declared.Start.{Start}
use Rattle.paper.specs.declared.Built.{Built}
use Rattle.paper.specs.declared.Wrote.{Wrote}
use Rattle.paper.specs.declared.Got.{Got}
use Rattle.paper.specs.declared.Verdict.{Verdict}
use Rattle.paper.specs.declared.Rule.{Rule}
use Rattle.paper.specs.Lattice.{Lattice}
use Rattle.paper.specs.Room.{Work}
use Rattle.paper.specs.Build.{Lent, Builds}
use Rattle.paper.specs.File.{Writes, Reads}
use Rattle.paper.specs.Check.{Checks}

-- two things that are both a third
one : {A : Type 0} {x y z : A} → x ≡ z → y ≡ z → x ≡ y
one e f = e ∙ sym f

pub builds_agree : {L : Lattice} {s : Start} {before : Lent} {r r' : Built} {after after' : Lent}
    → Builds L s before r after → Builds L s before r' after' → (r ≡ r') × (after ≡ after')
builds_agree a b = (one a.answer b.answer, one a.left b.left)

pub writes_agree : {z : Sizes} {nv nt : ℕ} {vs : List ℤ} {ts before : List ℕ} {r r' : Wrote} {after after' : List ℕ}
    → Writes z nv nt vs ts before r after → Writes z nv nt vs ts before r' after' → (r ≡ r') × (after ≡ after')
writes_agree a b = (one a.answer b.answer, one a.left b.left)

pub reads_agree : {bs : List ℕ} {vs : List ℤ} {ts : List ℕ} {r r' : Got} {us us' : List ℤ} {ss ss' : List ℕ}
    → Reads bs vs ts r us ss → Reads bs vs ts r' us' ss' → (r ≡ r') × (us ≡ us') × (ss ≡ ss')
reads_agree a b = (one a.answer b.answer, one a.vertices b.vertices, one a.triangles b.triangles)

pub checks_agree : {rule : Rule} {L : Lattice} {s : Start} {bs : List ℕ} {before : Work} {r r' : Verdict} {after after' : Work}
    → Checks rule L s bs before r after → Checks rule L s bs before r' after' → (r ≡ r') × (after ≡ after')
checks_agree a b = (one a.answer b.answer, one a.left b.left)
