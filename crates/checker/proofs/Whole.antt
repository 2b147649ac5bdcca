-- The answer of a check, and what it leaves, from the answers of its parts. Assumes nothing.
use mathlib.Core.Path.{◌≡◌, refl, sym, ap, ◌∙◌}
use mathlib.Core.Bool.{Bool, true, false, cond}
use mathlib.Core.List.{List, ◌++◌}
use Prim.Native.Nat.{ℕ}
use lib.ListN.{drop}
use Rattle.paper.specs.declared.Start.{Start}
use Rattle.paper.specs.declared.Verdict.{Verdict}
use Rattle.paper.specs.declared.Rule.{Rule}
use Rattle.paper.specs.Lattice.{Lattice}
use Rattle.paper.specs.Sheet.{sheet_of}
use Rattle.paper.specs.Room.{Work, Lengths, lengths, clears, clean, work_after}
use Rattle.paper.specs.Tests.{Test, verdict, judge}
use Rattle.paper.specs.Build.{start_of, sample_tests}
use Rattle.paper.specs.File.{file_sizes, file_tests}
use Rattle.paper.specs.Check.{same_sizes, sheet_tests, checked, checked_after, Checks}
use Rattle.paper.proofs.Judged.{Numbered, numbered_both, judge_past, judge_stop, judge_among}
use Rattle.paper.proofs.Passing.{sample_numbered, file_numbered, work_kept, work_cleared}
use Rattle.check_any_order.specs.Checked.{last_tests}

-- ── tests one behind the other ──

module _ (a b c : List Test) where
  pub judge_first : ((judge a).number ≡ 0 → ⊥) → judge (a ++ b ++ c) ≡ judge a
  judge_first h =
      let e = judge_stop a b h in
      judge_stop (a ++ b) c (λ q. h (sym (ap (λ (v : Verdict). v.number) e) ∙ q)) ∙ e

  pub judge_second : Numbered a → (judge a).number ≡ 0 → ((judge b).number ≡ 0 → ⊥) → judge (a ++ b ++ c) ≡ judge b
  judge_second n z h =
      let e = judge_past a b n z in
      judge_stop (a ++ b) c (λ q. h (sym (ap (λ (v : Verdict). v.number) e) ∙ q)) ∙ e

  pub judge_third : Numbered a → Numbered b → (judge a).number ≡ 0 → (judge b).number ≡ 0 → judge (a ++ b ++ c) ≡ judge c
  judge_third n m z y =
      let e = judge_past a b n z in
      judge_past (a ++ b) c (numbered_both a b n m) (ap (λ (v : Verdict). v.number) e ∙ y)

-- ── what is left ──

pub last_clears : (rule : Rule) (L : Lattice) (start : ℕ) (bs : List ℕ) → clears (judge (last_tests rule L start bs)).number ≡ true
unfolding last_tests sheet_tests
last_clears rule L start bs = judge_among (λ n. clears n ≡ true) (last_tests rule L start bs) (refl, (refl, (refl, tt))) (λ z. refl)

-- ── the whole ──

module _ (rule : Rule) (L : Lattice) (s : Start) (bs : List ℕ) (n : Lengths) where
  abbrev a : List Test
  a = sample_tests L s n

  abbrev c : List Test
  c = sheet_tests L.size (sheet_of rule L (start_of L s)) bs

  pub checked_samples : ((judge a).number ≡ 0 → ⊥) → checked rule L s bs n ≡ judge a
  unfolding checked
  checked_samples h = judge_first a (file_tests bs) c h

  pub checked_file : (judge a).number ≡ 0 → ((judge (file_tests bs)).number ≡ 0 → ⊥) → checked rule L s bs n ≡ judge (file_tests bs)
  unfolding checked
  checked_file z h = judge_second a (file_tests bs) c (sample_numbered L s n) z h

  checked_sheet : (judge a).number ≡ 0 → (judge (file_tests bs)).number ≡ 0 → checked rule L s bs n ≡ judge c
  unfolding checked
  checked_sheet z y = judge_third a (file_tests bs) c (sample_numbered L s n) (file_numbered bs) z y

  pub checked_sizes : (judge a).number ≡ 0 → (judge (file_tests bs)).number ≡ 0 → same_sizes (file_sizes bs) L.size ≡ false
      → checked rule L s bs n ≡ verdict 16 0
  unfolding sheet_tests
  checked_sizes z y f = checked_sheet z y ∙ ap (λ (b : Bool). cond b (judge (drop 1 c)) (verdict 16 0)) f

  pub checked_last : (judge a).number ≡ 0 → (judge (file_tests bs)).number ≡ 0 → same_sizes (file_sizes bs) L.size ≡ true
      → checked rule L s bs n ≡ judge (last_tests rule L (start_of L s) bs)
  unfolding sheet_tests last_tests
  checked_last z y f = checked_sheet z y ∙ ap (λ (b : Bool). cond b (judge (drop 1 c)) (verdict 16 0)) f

-- the answer of a check, and what it then leaves: work room as it was, or clear
module _ (rule : Rule) (L : Lattice) (s : Start) (bs : List ℕ) (before : Work) (r : Verdict)
    (is : r ≡ checked rule L s bs (lengths before)) where
  pub kept : clears r.number ≡ false → Checks rule L s bs before r before
  unfolding checked_after
  kept e = record {
    answer = is;
    left = sym (ap (λ (v : Verdict). work_after v.number L.size before) (sym is) ∙ work_kept r.number L.size before e);
  }

  pub emptied : clears r.number ≡ true → (after : Work) → after ≡ clean L.size before → Checks rule L s bs before r after
  unfolding checked_after
  emptied e after c = record {
    answer = is;
    left = c ∙ sym (ap (λ (v : Verdict). work_after v.number L.size before) (sym is) ∙ work_cleared r.number L.size before e);
  }
