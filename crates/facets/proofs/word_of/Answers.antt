-- `facets::word_of` meets its contract. Assumes nothing.
use mathlib.Core.Path.{◌∙◌}
use native.Mathlib.Omega.{arith}
use mir.Syntax.{w32}
use mir.Facts.{to_z_pos}
use lib.Dec.{T}
use lib.Ieee.{binary32, fits}
use Rattle.facets.proofs.Images.{candidate_word}
use borrow.Author.Rules.{rules}
use Rattle.facets.proofs.word_of.Goals as goal
use Rattle.facets.proofs.word_of.Goals.{Start}

held : (c : goal.Start) → T (fits binary32 c.args.x)
held c = search rules

pub returns : goal.returns
returns c = to_z_pos w32 (omega arith) ∙ candidate_word _ (held (goal.at.returns c).Start) _ c.candidate.ensures c.requires
