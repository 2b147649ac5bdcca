-- Laws of the loop and of the tests. Assumes nothing.
use mathlib.Core.Path.{◌≡◌, refl, sym, subst, ap, ◌∙◌}
use mathlib.Core.Bool.{Bool, true, false, not}
use mathlib.Core.List.{List, [], ◌∷◌, ◌++◌, map}
use Prim.Native.Nat.{ℕ, zero, suc, ◌≤◌, ◌<◌}
use native.Mathlib.Nat.{le_of_suc-le-suc}
use native.Mathlib.Omega.{arith}
use borrow.Author.Tests.{eqb-true, eq-eqb, ne_eqb, not-false}
use lib.Dec.{eqb}
use lib.IntN.{ℤ}
use lib.ListN.{length, get_or, take, drop, set, length-map}
use lib.Seq.{take-length}
use lib.Ieee.{Float, nan}
use Rattle.lists.specs.Lists.{over}
use Rattle.std.specs.Prelude.{Option, Some, None, MatchOption, unwrap_or}
use Rattle.lists.proofs.Firsts.{first_before, first_found, first_missing}
use Rattle.paper.specs.declared.Verdict.{Verdict}
use Rattle.paper.specs.Tests.{Test, test, test_at, judge}
use Rattle.paper.specs.Room.{output_after}
use Rattle.paper.proofs.Judged.{Numbered, Passed, judge_all}
use Rattle.greys.specs.declared.Level.{Level}
use Rattle.greys.specs.Level.{is_grey, level_of, are_greys, is_ordered}
use Rattle.greys.specs.Sample.{is_scale, sample_of}
use Rattle.greys.specs.Convert.{first_bad, convert_verdict, samples_of, Converts}
use Rattle.greys.specs.Within.{AllGreys, Fine}
use Rattle.greys.proofs.Scales.{scale_of}
use Rattle.greys.proofs.Bounds.{level_grey}

-- ── the loop ──

module _ {A B : Type 0} (f : A → B) where
  -- one more is stored
  pub store_more : (z : A) (i : ℕ) (xs : List A) (old : List B) → i < length xs → i < length old
      → set (map f (take i xs) ++ drop i old) i (f (get_or xs i z)) ≡ map f (take (suc i) xs) ++ drop (suc i) old
  store_more z zero (x ∷ xs) (o ∷ old) h k = refl
  store_more z (suc i) (x ∷ xs) (o ∷ old) h k =
      ap (λ (l : List B). f x ∷ l) (store_more z i xs old (le_of_suc-le-suc h) (le_of_suc-le-suc k))
  store_more z i [] old h k = absurd (omega arith)
  store_more z i (x ∷ xs) [] h k = absurd (omega arith)

  -- all are
  pub store_all : (i : ℕ) (xs : List A) (old : List B) → i ≡ length xs → map f (take i xs) ++ drop i old ≡ over (map f xs) old
  store_all i xs old e =
      ap (λ (k : ℕ). map f (take k xs) ++ drop k old) e
      ∙ ap (λ (l : List A). map f l ++ drop (length xs) old) (take-length xs)
      ∙ ap (λ (k : ℕ). map f xs ++ drop k old) (sym (length-map xs f))

-- ── the tests ──

pub all_greys : (vs : List Float) → first_bad vs ≡ length vs → AllGreys vs
unfolding first_bad
all_greys vs e i h =
    not-false _ (first_before (λ k. not (is_grey (get_or vs k nan))) (length vs) i (subst (λ (n : ℕ). i < n) (sym e) h))

-- whether voxel i is no grey
abbrev pub bad_at : List Float → ℕ → Bool
bad_at vs i = not (is_grey (get_or vs i nan))

-- the place of the first voxel that is no grey, or none
pub first_is : (vs : List Float) (r : Option ℕ)
    → MatchOption r ((k : ℕ) → 0 ≤ k → k < length vs → bad_at vs k ≡ false)
    (λ i. (0 ≤ i) × (i < length vs) × (bad_at vs i ≡ true) × ((k : ℕ) → 0 ≤ k → k < i → bad_at vs k ≡ false))
    → unwrap_or r (length vs) ≡ first_bad vs
unfolding first_bad
first_is vs None good = first_missing _ _ (λ k h. good k (omega arith) h)
first_is vs (Some i) h = first_found _ _ i h.1 (λ k g. h.3 k (omega arith) g) h.2

module _ (l : Level) (n : ℕ) (vs : List Float) where
  abbrev pub convert_tests : ℕ → ℕ → List Test
  convert_tests bad room =
      test 26 (is_scale n)
      ∷ test 21 (are_greys l)
      ∷ test_at 21 bad (eqb bad (length vs))
      ∷ test 22 (is_ordered l)
      ∷ test 2 (eqb (length vs) room)
      ∷ []

  -- by the place that was found
  pub convert_tests_law : (bad room : ℕ) → bad ≡ first_bad vs → convert_verdict l n vs room ≡ judge (convert_tests bad room)
  unfolding convert_verdict
  convert_tests_law bad room e = rw e

  numbered : (bad room : ℕ) → Numbered (convert_tests bad room)
  numbered bad room = (omega arith, (omega arith, (omega arith, (omega arith, (omega arith, tt)))))

  module _ (before : List ℤ) (v : Verdict) (is : v ≡ convert_verdict l n vs (length before)) where
    pub refused : (v.number ≡ 0 → ⊥) → Converts l n vs before v before
    unfolding output_after
    refused h = record { answer = is; left = rw (← is, ne_eqb v.number 0 h) }

    module _ (h : v.number ≡ 0) where
      -- all tests are passed
      pub fine : Fine (level_of l) n vs × (length vs ≡ length before)
      fine =
          let t = convert_tests (first_bad vs) (length before) in
          let q : judge t ≡ v = sym (is ∙ convert_tests_law (first_bad vs) (length before) refl) in
          let a : Passed t = judge_all t (numbered (first_bad vs) (length before)) (ap (λ (w : Verdict). w.number) q ∙ h) in (
            record {
              scale = scale_of n a.0;
              level_grey = level_grey l a.1.0;
              greys = all_greys vs (eqb-true _ _ a.1.1.0);
            },
            eqb-true _ _ a.1.1.1.1.0,
          )

      pub done : (after : List ℤ) → after ≡ over (map (sample_of (level_of l) n) vs) before → Converts l n vs before v after
      unfolding output_after samples_of
      done after e = record { answer = is; left = rw (← is, eq-eqb v.number 0 h) e }
