-- Tests and their flags. Assumes nothing.
use mathlib.Core.Path.{◌≡◌, sym, ◌∙◌}
use mathlib.Core.Bool.{Bool, true, false, not}
use borrow.Author.Tests.{not-true, not-false}

-- of `if !f(x)`, where f's answer t is the test s
pub fails : {t s : Bool} → t ≡ s → not t ≡ true → s ≡ false
fails {t} {s} e h = sym e ∙ not-true t h

pub passes : {t s : Bool} → t ≡ s → not t ≡ false → s ≡ true
passes {t} {s} e h = sym e ∙ not-false t h
