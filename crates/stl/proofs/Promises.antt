-- What (i) asks, said of the contracts and the definitions: a written float stands for exactly its coordinate / 65,536; what was written
-- reads back as the same integers; a float is taken exactly where a coordinate gives it; any two outcomes agree. Assumes nothing.
use mathlib.Core.Path.{◌≡◌, sym, subst, ap, ◌∙◌}
use mathlib.Core.Bool.{true, false}
use mathlib.Core.List.{List}
use Prim.Native.Nat.{ℕ, ◌+◌, ◌*◌, ◌<◌, ◌≤◌}
use native.Mathlib.Omega.{arith}
use lib.IntN.{ℤ, pos}
use lib.ListN.{length, get_or, take, drop}
use lib.Seq.{take-append_seam}
use lib.Ieee.{Float, binary32, of_bits, to_bits}
use lib.Ieee.Bits.{to_bits-of_bits, of_bits-to_bits, of_bits-fits}
use lib.Ieee.Exact.{HasValue}
use Rattle.paper.specs.Room.{output_after}
use Rattle.lists.specs.Lists.{range, each, over}
use Rattle.paper.specs.declared.Wrote.{Wrote}
use Rattle.facets.specs.declared.Corner.{Corner}
use Rattle.facets.specs.Steps.{float_of, in_bounds, scaled, is_image, nat_of}
use Rattle.facets.specs.Facets.{corner_of}
use Rattle.facets.proofs.Floats.{exact, scaled_float}
use Rattle.facets.proofs.Images.{float_fits, float_is_image, image_is_float, image_number, bounds_are}
use Rattle.stl.specs.declared.Loaded.{Loaded}
use Rattle.stl.specs.Stl.{number_of, vertex_corner, vertex_within, nine_of, stl_bytes, stl_write_verdict, stl_wrote, StlWrites}
use Rattle.stl.specs.Stl.{stl_facet, stl_loaded, StlReads}
use Rattle.stl.specs.Within.{Fine}
use Rattle.stl.proofs.Laws.{file_long, vertex_bounded, corners_within}
use Rattle.stl.proofs.Answers.{fine, write_none, sound_verdict}
use Rattle.stl.proofs.Written.{written_count, written_facet, written_words, written_sound}
use Rattle.std.specs.Prelude.{Result, Ok, Err}
use Rattle.paper.specs.declared.Refusal.{Refusal}
use Rattle.paper.specs.Tests.{verdict}
use Rattle.paper.specs.Refused.{wrote_told}
use Rattle.paper.proofs.Refusals.{some_number}
use Rattle.paper.proofs.Told.{verdict_one, wrote_one}
use Rattle.stl.specs.Told.{loaded_told}

-- ── "nothing may be rounded" ──

-- the float of a coordinate is not negative and is exactly n / 65,536
pub stands_for : (n : ℕ) → n ≤ 4128768 → HasValue (float_of n) false n 65536
stands_for n h = exact n (omega arith)

-- no two coordinates have one float
pub float_one : (m n : ℕ) → m ≤ 4128768 → n ≤ 4128768 → float_of m ≡ float_of n → m ≡ n
float_one m n h k e = sym (scaled_float m (omega arith)) ∙ (ap scaled e ∙ scaled_float n (omega arith))

-- ── "a float that no such coordinate gives (minus zero too)" ──

-- 32 bits are taken exactly where they are those of a coordinate's float
pub taken_bits : (b : ℕ) → b < 4294967296 → is_image (of_bits binary32 b) ≡ true → (n : ℕ) × (n ≤ 4128768) × (b ≡ to_bits binary32 (float_of n))
taken_bits b h e =
    let x = of_bits binary32 b in
    let i = image_is_float x (of_bits-fits binary32 b) e in
    (scaled x, i.0, sym (to_bits-of_bits binary32 b h (image_number x e)) ∙ ap (to_bits binary32) i.1)

pub bits_taken : (b n : ℕ) → n ≤ 4128768 → b ≡ to_bits binary32 (float_of n) → is_image (of_bits binary32 b) ≡ true
bits_taken b n h e =
    ap (λ (k : ℕ). is_image (of_bits binary32 k)) e ∙ (ap is_image (of_bits-to_bits binary32 (float_of n) (float_fits n)) ∙ float_is_image n h)

-- ── what was written ──

-- a float is exactly an integer of the sheet / 65,536
abbrev pub StandsFor : Float → ℤ → Type 0
StandsFor f w = (n : ℕ) × (w ≡ pos n) × HasValue f false n 65536

-- the three floats of a corner are exactly the coordinates of vertex v
pub record Exactly (c : Corner) (vs : List ℤ) (v : ℕ) : Type 0 where
  pub x : StandsFor c.x (number_of vs v 1)
  pub y : StandsFor c.y (number_of vs v 2)
  pub z : StandsFor c.z (number_of vs v 3)

word_exact : (w : ℤ) → in_bounds w ≡ true → StandsFor (float_of (nat_of w)) w
word_exact w e =
    let b = bounds_are w e in
    (nat_of w, b.1, stands_for (nat_of w) b.0)

vertex_exact : (vs : List ℤ) (v : ℕ) → vertex_within vs v ≡ true → Exactly (vertex_corner vs v) vs v
unfolding vertex_corner corner_of
vertex_exact vs v e =
    let b = vertex_bounded vs v e in
    record { x = word_exact _ b.x_in; y = word_exact _ b.y_in; z = word_exact _ b.z_in }

-- a reader's success with these integers, at the front of what it was lent
pub record Returned (nt : ℕ) (words before : List ℤ) (g : Loaded) (after : List ℤ) : Type 0 where
  pub answer : g ≡ record { number = 0; place = 0; facets = nt }
  pub left : after ≡ over words before

module _ {nv nt : ℕ} {vs : List ℤ} {ts before after : List ℕ} {r : Wrote}
    (w : StlWrites nv nt vs ts before r after) (h : r.number ≡ 0) where
  passed : (stl_write_verdict nv nt vs ts (length before)).number ≡ 0
  unfolding stl_wrote
  passed = ap (λ (x : Wrote). x.number) (sym w.answer) ∙ h

  takes : Fine nt vs ts (length before)
  takes = fine nv nt vs ts before _ (λ i. stl_write_verdict nv nt vs ts (length before)) passed

  -- the bytes that a writer says it wrote are the file
  pub written : take r.bytes after ≡ stl_bytes nt vs ts
  unfolding stl_wrote output_after
  written =
      let file = stl_bytes nt vs ts in
      let n = write_none nv nt vs ts before _ (λ i. stl_write_verdict nv nt vs ts (length before)) passed in
      let b : r.bytes ≡ length file = ap (λ (x : Wrote). x.bytes) w.answer ∙ rw n (sym (file_long nt vs ts)) in
      let a : after ≡ over file before = w.left ∙ rw n in
      ap (take r.bytes) a ∙ (ap (λ (k : ℕ). take k (over file before)) b ∙ take-append_seam file (drop (length file) before))

  -- each float of each facet is exactly its coordinate / 65,536, the corners in the sheet's order
  pub written_exact : (i : ℕ) → i < nt
      → let f = stl_facet (take r.bytes after) i in
      Exactly f.a vs (get_or ts (3 * i) 0) × Exactly f.b vs (get_or ts (3 * i + 1) 0) × Exactly f.c vs (get_or ts (3 * i + 2) 0)
  written_exact i l =
      let e = corners_within vs ts i (takes.within i l) in
      rw (written, written_facet nt vs ts i l) (vertex_exact vs _ e.0, vertex_exact vs _ e.1, vertex_exact vs _ e.2)

  -- read with room, it gives the same integers, nine to a triangle, in the sheet's corner order
  pub read_of_written : {us us' : List ℤ} {g : Loaded} → StlReads (take r.bytes after) us g us' → 9 * nt ≤ length us
      → Returned nt (each (nine_of vs ts) (range 0 nt)) us g us'
  unfolding stl_loaded output_after
  read_of_written {us} {us'} {g} reads room =
      let file = stl_bytes nt vs ts in
      let q : StlReads file us g us' = subst (λ (l : List ℕ). StlReads l us g us') written reads in
      let n = sound_verdict file (length us) (written_sound nt vs ts takes.most takes.within (length us) room) in
      record {
        answer = q.answer ∙ rw (n, written_count nt vs ts takes.most);
        left = q.left ∙ rw (n, written_words nt vs ts takes.most takes.within);
      }

-- ── any two outcomes agree ──

pub stl_writes_agree : {nv nt : ℕ} {vs : List ℤ} {ts before : List ℕ} {r r' : Wrote} {after after' : List ℕ}
    → StlWrites nv nt vs ts before r after → StlWrites nv nt vs ts before r' after' → (r ≡ r') × (after ≡ after')
stl_writes_agree w w' = (w.answer ∙ sym w'.answer, w.left ∙ sym w'.left)

pub stl_reads_agree : {bs : List ℕ} {before : List ℤ} {r r' : Loaded} {after after' : List ℤ}
    → StlReads bs before r after → StlReads bs before r' after' → (r ≡ r') × (after ≡ after')
stl_reads_agree w w' = (w.answer ∙ sym w'.answer, w.left ∙ sym w'.left)

-- as Results too
pub stl_write_results : {nv nt : ℕ} {vs : List ℤ} {ts before : List ℕ} {r r' : Result ℕ Refusal} {after after' : List ℕ}
    → StlWrites nv nt vs ts before (wrote_told r) after → StlWrites nv nt vs ts before (wrote_told r') after'
    → (r ≡ r') × (after ≡ after')
stl_write_results {r = r} {r' = r'} a b = let w = stl_writes_agree a b in (wrote_one r r' w.0, w.1)

loaded_one : (r s : Result ℕ Refusal) → loaded_told r ≡ loaded_told s → r ≡ s
loaded_one (Ok m) (Ok n) h = ap (λ (l : Loaded). Ok l.facets) h
loaded_one (Ok _) (Err f) h = absurd (omega (arith, some_number f, ap (λ (l : Loaded). l.number) h))
loaded_one (Err e) (Ok _) h = absurd (omega (arith, some_number e, ap (λ (l : Loaded). l.number) h))
loaded_one (Err e) (Err f) h = ap Err (verdict_one e f (ap (λ (l : Loaded). verdict l.number l.place) h))

pub stl_read_results : {bs : List ℕ} {before : List ℤ} {r r' : Result ℕ Refusal} {after after' : List ℤ}
    → StlReads bs before (loaded_told r) after → StlReads bs before (loaded_told r') after' → (r ≡ r') × (after ≡ after')
stl_read_results {r = r} {r' = r'} a b = let w = stl_reads_agree a b in (loaded_one r r' w.0, w.1)
