-- Document 02 (vii): the samples of a volume in f32, and the tests before. Assumes nothing.
use Rattle.std.specs.Prelude.{◌≡◌, not, List, [], ◌∷◌, map, ℕ, eqb, ℤ, length, get_or, Float}
use Rattle.std.specs.Float.{nan}
use Rattle.lists.specs.Lists.{range, first}
use Rattle.paper.specs.declared.Verdict.{Verdict}
use Rattle.paper.specs.Tests.{test, test_at, judge}
use Rattle.paper.specs.Room.{output_after}
use Rattle.greys.specs.declared.Level.{Level}
use Rattle.greys.specs.Level.{is_grey, level_of, are_greys, is_ordered}
use Rattle.greys.specs.Sample.{is_scale, sample_of}

-- "a voxel, that is not a number or is beyond ±65,536, with its place": the first such voxel, or their count
unfoldable pub first_bad : List Float → ℕ
first_bad vs = first (λ i. not (is_grey (get_or vs i nan))) (length vs) (range 0 (length vs))

-- "Refusals, in this order: 26 for a bad scale; 21 for a grey, then a voxel, .. with its place (a grey's is 0); 22 where air is not below
-- material; 2 where the two slices differ in length.", room being the length of the other
unfoldable pub convert_verdict : Level → ℕ → List Float → ℕ → Verdict
convert_verdict l n vs room =
    judge
    (test 26 (is_scale n)
    ∷ test 21 (are_greys l)
    ∷ test_at 21 (first_bad vs) (eqb (first_bad vs) (length vs))
    ∷ test 22 (is_ordered l)
    ∷ test 2 (eqb (length vs) room)
    ∷ [])

-- "Samples go to a lent i16 slice": one for each voxel, in their order
unfoldable pub samples_of : Level → ℕ → List Float → List ℤ
samples_of l n vs = map (sample_of (level_of l) n) vs

-- the contract: the answer, and what the lent slice holds; a refusal leaves it as it was
pub record Converts (l : Level) (n : ℕ) (vs : List Float) (before : List ℤ) (r : Verdict) (after : List ℤ) : Type 0 where
  pub answer : r ≡ convert_verdict l n vs (length before)
  pub left : after ≡ output_after (convert_verdict l n vs (length before)).number (samples_of l n vs) before
