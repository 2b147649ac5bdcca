-- An answer is told by the documents' numbers: where these allow one outcome, they allow one Result. Assumes nothing.
use mathlib.Core.Path.{◌≡◌, refl, sym, ap, subst, ◌∙◌}
use mathlib.Core.Bool.{Bool, true, false, cond, ◌||◌}
use mathlib.Core.List.{List, [], ◌∷◌, ◌++◌}
use Prim.Native.Nat.{ℕ, ◌<◌}
use native.Mathlib.Decide.{ℕ_discrete}
use native.Mathlib.Omega.{arith}
use lib.Dec.{T, eqb}
use lib.ListN.{length}
use lib.IntN.{ℤ}
use Rattle.std.specs.Prelude.{Result, Ok, Err}
use Rattle.lists.specs.Lists.{is_in}
use Rattle.lists.specs.Reach.{here}
use Rattle.paper.specs.declared.Refusal.{Refusal}
use Rattle.paper.specs.declared.Refusal.TheVariants.{Axes, SampleCount, WorkRoom, NoCube, NotCrossed, TriangleRoom as NoTriangleRoom, VertexRoom as NoVertexRoom}
use Rattle.paper.specs.declared.Refusal.TheVariants.{ByteRoom, CountLimit, ShortFile, Mark, Layout, Index, OtherSizes, Record, Triangle, Absent, Grey, LevelOrder, Coordinate, Scale}
use Rattle.paper.specs.declared.SheetCounts.{SheetCounts}
use Rattle.paper.specs.declared.BuildError.{BuildError}
use Rattle.paper.specs.declared.BuildError.TheVariants.{Refused, VertexRoom, TriangleRoom}
use Rattle.paper.specs.declared.Contents.{Contents}
use Rattle.paper.specs.declared.Sizes.{Sizes}
use Rattle.paper.specs.declared.Start.{Start}
use Rattle.paper.specs.declared.Rule.{Rule}
use Rattle.paper.specs.declared.Verdict.{Verdict}
use Rattle.paper.specs.declared.Built.{Built}
use Rattle.paper.specs.declared.Wrote.{Wrote}
use Rattle.paper.specs.declared.Got.{Got}
use Rattle.paper.specs.Lattice.{Lattice, visited}
use Rattle.paper.specs.Tests.{Test, verdict, judge}
use Rattle.paper.specs.Room.{Work, lengths, vertex_room, triangle_room, room_tests}
use Rattle.paper.specs.Build.{Lent, start_of, build_rule, sheet_from, shape_tests, start_tests, sample_tests, counts, counted, uncounted, built, build_number, Builds}
use Rattle.paper.specs.File.{Writes, Reads}
use Rattle.paper.specs.Check.{Checks}
use Rattle.paper.specs.Refused.{verdict_of, verdict_told, built_told, wrote_told, got_told}
use Rattle.paper.proofs.Refusals.{some_number}
use Rattle.paper.proofs.Visits.{visited_exactly}
use Rattle.paper.proofs.Listing.{parts}
use Rattle.paper.proofs.Judged.{judge_among, judge_stop}
use Rattle.paper.proofs.Passing.{sample_tests_law}
use Rattle.paper.proofs.Agreement.{builds_agree, writes_agree, reads_agree, checks_agree}

-- ── a refusal by its number and place ──

abbrev refusal_at : ℕ → ℕ → Refusal
refusal_at n i =
    cond (eqb n 1) Axes (cond (eqb n 2) SampleCount (cond (eqb n 3) WorkRoom (cond (eqb n 4) NoCube (cond (eqb n 5) NotCrossed
    (cond (eqb n 6) NoVertexRoom (cond (eqb n 7) NoTriangleRoom (cond (eqb n 8) ByteRoom (cond (eqb n 9) CountLimit
    (cond (eqb n 11) ShortFile (cond (eqb n 12) Mark (cond (eqb n 14) Layout (cond (eqb n 15) (Index i) (cond (eqb n 16) OtherSizes
    (cond (eqb n 17) (Record i) (cond (eqb n 18) (Triangle i) (cond (eqb n 19) Absent (cond (eqb n 21) (Grey i)
    (cond (eqb n 22) LevelOrder (cond (eqb n 25) (Coordinate i) Scale)))))))))))))))))))

abbrev refusal_of : Verdict → Refusal
refusal_of v = refusal_at v.number v.place

back : (e : Refusal) → refusal_of (verdict_of e) ≡ e
back Axes = refl
back SampleCount = refl
back WorkRoom = refl
back NoCube = refl
back NotCrossed = refl
back NoVertexRoom = refl
back NoTriangleRoom = refl
back ByteRoom = refl
back CountLimit = refl
back ShortFile = refl
back Mark = refl
back Layout = refl
back (Index i) = refl
back OtherSizes = refl
back (Record i) = refl
back (Triangle i) = refl
back Absent = refl
back (Grey i) = refl
back LevelOrder = refl
back (Coordinate i) = refl
back Scale = refl

pub verdict_one : (e f : Refusal) → verdict_of e ≡ verdict_of f → e ≡ f
verdict_one e f h = sym (back e) ∙ (ap refusal_of h ∙ back f)

-- no refusal of these numbers has a place
abbrev pub placed : ℕ → Bool
placed n = is_in (15 ∷ 17 ∷ 18 ∷ 21 ∷ 25 ∷ []) n

pub placeless : (e : Refusal) → placed (verdict_of e).number ≡ false → (verdict_of e).place ≡ 0
placeless Axes h = refl
placeless SampleCount h = refl
placeless WorkRoom h = refl
placeless NoCube h = refl
placeless NotCrossed h = refl
placeless NoVertexRoom h = refl
placeless NoTriangleRoom h = refl
placeless ByteRoom h = refl
placeless CountLimit h = refl
placeless ShortFile h = refl
placeless Mark h = refl
placeless Layout h = refl
placeless (Index i) h = absurd (subst T h tt)
placeless OtherSizes h = refl
placeless (Record i) h = absurd (subst T h tt)
placeless (Triangle i) h = absurd (subst T h tt)
placeless Absent h = refl
placeless (Grey i) h = absurd (subst T h tt)
placeless LevelOrder h = refl
placeless (Coordinate i) h = absurd (subst T h tt)
placeless Scale h = refl

-- so the number alone tells which
pub number_one : (e f : Refusal) → placed (verdict_of e).number ≡ false → (verdict_of e).number ≡ (verdict_of f).number → e ≡ f
number_one e f h n =
    let p = placeless e h ∙ sym (placeless f (ap placed (sym n) ∙ h)) in
    verdict_one e f (λ i. verdict (n i) (p i))

-- ── Results of a refusal ──

pub told_one : (r s : Result (Unit {0}) Refusal) → verdict_told r ≡ verdict_told s → r ≡ s
told_one (Ok _) (Ok _) h = refl
told_one (Ok _) (Err f) h = absurd (omega (arith, some_number f, ap (λ (v : Verdict). v.number) h))
told_one (Err e) (Ok _) h = absurd (omega (arith, some_number e, ap (λ (v : Verdict). v.number) h))
told_one (Err e) (Err f) h = ap Err (verdict_one e f h)

pub wrote_one : (r s : Result ℕ Refusal) → wrote_told r ≡ wrote_told s → r ≡ s
wrote_one (Ok m) (Ok n) h = ap (λ (w : Wrote). Ok w.bytes) h
wrote_one (Ok _) (Err f) h = absurd (omega (arith, some_number f, ap (λ (w : Wrote). w.number) h))
wrote_one (Err e) (Ok _) h = absurd (omega (arith, some_number e, ap (λ (w : Wrote). w.number) h))
wrote_one (Err e) (Err f) h = ap Err (verdict_one e f (ap (λ (w : Wrote). verdict w.number w.place) h))

pub got_one : (r s : Result Contents Refusal) → got_told r ≡ got_told s → r ≡ s
got_one (Ok c) (Ok d) h = ap (λ (g : Got). Ok (record { vertices = g.vertices; triangles = g.triangles; sizes = g.sizes })) h
got_one (Ok _) (Err f) h = absurd (omega (arith, some_number f, ap (λ (g : Got). g.number) h))
got_one (Err e) (Ok _) h = absurd (omega (arith, some_number e, ap (λ (g : Got). g.number) h))
got_one (Err e) (Err f) h = ap Err (verdict_one e f (ap (λ (g : Got). verdict g.number g.place) h))

-- ── of a build ──

-- what tells one Result of a build: no number with a place, and cubes where there are counts beside a refusal
pub record Telling (b : Built) : Type 0 where
  pub unplaced : placed b.number ≡ false
  pub counted : T (is_in (6 ∷ 7 ∷ []) b.number) → 0 < b.cubes

-- the numbers are those of one; a refusal that is no refusal of room has no cubes
refused_room : (e : Refusal) (c : SheetCounts) (n : ℕ) (b : Built) → Telling b → built_told (Err (Refused e)) ≡ b → b.number ≡ n
    → T (is_in (6 ∷ 7 ∷ []) n) → ⊥
refused_room e c n b t h k i =
    let some = t.counted (subst (λ (m : ℕ). T (is_in (6 ∷ 7 ∷ []) m)) (sym k) i) in
    omega (arith, some, ap (λ (b : Built). b.cubes) h)

pub built_one : (b : Built) → Telling b → (r s : Result SheetCounts BuildError) → built_told r ≡ b → built_told s ≡ b → r ≡ s
built_one b t r s h k = go r s h k (h ∙ sym k)
  where
    number : {r s : Built} → r ≡ s → r.number ≡ s.number
    number q = ap (λ (b : Built). b.number) q

    counts_of : Built → SheetCounts
    counts_of b = record { vertices = b.vertices; triangles = b.triangles; cubes = b.cubes }

    go : (r s : Result SheetCounts BuildError) → built_told r ≡ b → built_told s ≡ b → built_told r ≡ built_told s → r ≡ s
    go (Ok c) (Ok d) h k q = ap (λ (b : Built). Ok (counts_of b)) q
    go (Ok c) (Err (Refused f)) h k q = absurd (omega (arith, some_number f, number q))
    go (Ok c) (Err (VertexRoom d)) h k q = absurd (omega (arith, number q))
    go (Ok c) (Err (TriangleRoom d)) h k q = absurd (omega (arith, number q))
    go (Err (Refused e)) (Ok d) h k q = absurd (omega (arith, some_number e, number q))
    go (Err (Refused e)) (Err (Refused f)) h k q =
        ap (λ (e : Refusal). Err (Refused e)) (number_one e f (ap placed (number h) ∙ t.unplaced) (number q))
    go (Err (Refused e)) (Err (VertexRoom d)) h k q = absurd (refused_room e d 6 b t h (sym (number k)) tt)
    go (Err (Refused e)) (Err (TriangleRoom d)) h k q = absurd (refused_room e d 7 b t h (sym (number k)) tt)
    go (Err (VertexRoom c)) (Ok d) h k q = absurd (omega (arith, number q))
    go (Err (VertexRoom c)) (Err (Refused f)) h k q = absurd (refused_room f c 6 b t k (sym (number h)) tt)
    go (Err (VertexRoom c)) (Err (VertexRoom d)) h k q = ap (λ (b : Built). Err (VertexRoom (counts_of b))) q
    go (Err (VertexRoom c)) (Err (TriangleRoom d)) h k q = absurd (omega (arith, number q))
    go (Err (TriangleRoom c)) (Ok d) h k q = absurd (omega (arith, number q))
    go (Err (TriangleRoom c)) (Err (Refused f)) h k q = absurd (refused_room f c 7 b t k (sym (number h)) tt)
    go (Err (TriangleRoom c)) (Err (VertexRoom d)) h k q = absurd (omega (arith, number q))
    go (Err (TriangleRoom c)) (Err (TriangleRoom d)) h k q = ap (λ (b : Built). Err (TriangleRoom (counts_of b))) q

-- an answer without counts tells one where it is one of document 01's numbers below 6
pub telling_uncounted : (n : ℕ) → placed n ≡ false → is_in (6 ∷ 7 ∷ []) n ≡ false → Telling (uncounted n)
telling_uncounted n p h = record { unplaced = p; counted = λ t. absurd (subst T h t) }

-- a number that is 6 or 7 counts
counts_late : (n : ℕ) → T (is_in (6 ∷ 7 ∷ []) n) → counts n ≡ false → ⊥
counts_late n t e = go (eqb n 0) (is_in (6 ∷ 7 ∷ []) n) t e
  where
    go : (a b : Bool) → T b → (a || b) ≡ false → ⊥
    go true b t e = subst T e tt
    go false b t e = subst T e t

nonempty : (l : List ℕ) (k : ℕ) → T (is_in l k) → 0 < length l
nonempty [] k t = absurd t
nonempty (x ∷ l) k t = omega arith

-- "true counts at 0, 6 and 7": there the start is crossed, and so visited
module _ (L : Lattice) (s : Start) (l : Lent) where
  abbrev first_tests : List Test
  first_tests = sample_tests L s (lengths l.work)

  abbrev late_tests : List Test
  late_tests =
      let S = sheet_from L s in
      room_tests (length S.edges) (length S.triangles) (vertex_room l.vertices) (triangle_room l.triangles)

  unplaced_number : placed (build_number L s l) ≡ false
  unfolding build_number sample_tests shape_tests start_tests room_tests
  unplaced_number =
      judge_among (λ n. placed n ≡ false) (first_tests ++ late_tests)
      (refl, (refl, (refl, (refl, (refl, (refl, (refl, tt))))))) (λ z. refl)

  -- no number of 1 to 5 is 6 or 7
  early : ((judge first_tests).number ≡ 0 → ⊥) → is_in (6 ∷ 7 ∷ []) (judge first_tests).number ≡ false
  unfolding sample_tests shape_tests start_tests
  early n =
      judge_among (λ n. is_in (6 ∷ 7 ∷ []) n ≡ false) first_tests (refl, (refl, (refl, (refl, (refl, tt))))) (λ z. absurd (n z))

  late : T (is_in (6 ∷ 7 ∷ []) (build_number L s l)) → (judge first_tests).number ≡ 0
  unfolding build_number
  late t = go (ℕ_discrete (judge first_tests).number 0)
    where
      go : Dec ((judge first_tests).number ≡ 0) → (judge first_tests).number ≡ 0
      go (yes e) = e
      go (no n) =
          absurd (subst T (ap (is_in (6 ∷ 7 ∷ [])) (ap (λ (v : Verdict). v.number) (judge_stop first_tests late_tests n)) ∙ early n) t)

  some_visits : (judge first_tests).number ≡ 0 → 0 < (sheet_from L s).visits
  some_visits e =
      let d = sample_tests_law L s (lengths l.work) e in
      let k = start_of L s in
      omega (arith, (parts build_rule L k).visits, nonempty (visited L k) k ((visited_exactly L k d.start k).listed here))

  pub telling : Telling (built L s l)
  unfolding built
  telling = go (counts (build_number L s l)) refl
    where
      n : ℕ
      n = build_number L s l

      go : (b : Bool) → counts n ≡ b → Telling (cond b (counted n (sheet_from L s)) (uncounted n))
      go true e = record { unplaced = unplaced_number; counted = λ t. some_visits (late t) }
      go false e = record { unplaced = unplaced_number; counted = λ t. absurd (counts_late n t e) }

-- ── any two outcomes of an entry point agree, as Results too ──

pub build_results : {L : Lattice} {s : Start} {before : Lent} {r r' : Result SheetCounts BuildError} {after after' : Lent}
    → Builds L s before (built_told r) after → Builds L s before (built_told r') after' → (r ≡ r') × (after ≡ after')
build_results {L} {s} {before} {r} {r'} a b =
    (built_one (built L s before) (telling L s before) r r' a.answer b.answer, (builds_agree a b).1)

pub write_results : {z : Sizes} {nv nt : ℕ} {vs : List ℤ} {ts before : List ℕ} {r r' : Result ℕ Refusal} {after after' : List ℕ}
    → Writes z nv nt vs ts before (wrote_told r) after → Writes z nv nt vs ts before (wrote_told r') after'
    → (r ≡ r') × (after ≡ after')
write_results {r = r} {r' = r'} a b = let w = writes_agree a b in (wrote_one r r' w.0, w.1)

pub read_results : {bs : List ℕ} {vs : List ℤ} {ts : List ℕ} {r r' : Result Contents Refusal} {us us' : List ℤ} {ss ss' : List ℕ}
    → Reads bs vs ts (got_told r) us ss → Reads bs vs ts (got_told r') us' ss' → (r ≡ r') × (us ≡ us') × (ss ≡ ss')
read_results {r = r} {r' = r'} a b = let w = reads_agree a b in (got_one r r' w.0, w.1, w.2)

pub check_results : {rule : Rule} {L : Lattice} {s : Start} {bs : List ℕ} {before : Work} {r r' : Result (Unit {0}) Refusal} {after after' : Work}
    → Checks rule L s bs before (verdict_told r) after → Checks rule L s bs before (verdict_told r') after'
    → (r ≡ r') × (after ≡ after')
check_results {r = r} {r' = r'} a b = let w = checks_agree a b in (told_one r r' w.0, w.1)
