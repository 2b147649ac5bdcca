-- The answer of a listing, refused or built, and its samples. Assumes nothing.
use mathlib.Core.Path.{◌≡◌, refl, sym, ap, ◌∙◌}
use mathlib.Core.List.{List, map}
use Prim.Native.Nat.{ℕ, ◌+◌, ◌*◌, ◌/◌, ◌≤◌}
use native.Mathlib.Omega.{arith}
use borrow.Author.Tests.{ne_eqb}
use lib.IntN.{ℤ, pos}
use lib.ListN.{length, take, drop, length-replicate}
use lib.Seq.{sets, take_at}
use Rattle.lists.specs.Lists.{range}
use Rattle.lists.specs.Bytes.{field}
use Rattle.lists.proofs.Runs.{length_along}
use Rattle.lists.proofs.Stores.{sets_front}
use Rattle.paper.specs.declared.Sizes.{Sizes}
use Rattle.paper.specs.declared.Built.{Built}
use Rattle.paper.specs.declared.Start.TheVariants.{Lowest}
use Rattle.paper.specs.declared.Refusal.{Refusal}
use Rattle.paper.specs.declared.Verdict.{Verdict}
use Rattle.paper.specs.Refused.{verdict_of}
use Rattle.paper.specs.Tests.{verdict, judge}
use Rattle.paper.proofs.Refusals.{some_number}
use Rattle.paper.specs.Lattice.{Lattice, lattice, samples}
use Rattle.paper.specs.Sheet.{record_length}
use Rattle.paper.specs.Build.{uncounted, built, lent_after}
use Rattle.paper.proofs.Passing.{built_same}
use Rattle.lister.specs.Listing.{signed16, listed_sizes, listed_samples, listed_lattice, listing_tests, listing_number, vertex_numbers}
use Rattle.lister.specs.Listing.{triangle_numbers, listing_room, own_room, listed, listed_after, Lists}

-- the samples, as many as the sizes say
pub samples_listed : (bs : List ℕ) (n : ℕ) → n ≡ samples (listed_sizes bs)
    → map (λ i. signed16 (field 2 bs (6 + 2 * i))) (range 0 n) ≡ listed_samples bs
unfolding listed_samples
samples_listed bs n e = ap (λ (k : ℕ). map (λ i. signed16 (field 2 bs (6 + 2 * i))) (range 0 k)) e

-- the samples, read to the front of a list and taken from it
pub samples_are : (bs : List ℕ) (n : ℕ) (l : List ℤ) → n ≡ samples (listed_sizes bs) → n ≤ length l
    → take n (sets l 0 (map (λ i. signed16 (field 2 bs (6 + 2 * i))) (range 0 n))) ≡ listed_samples bs
unfolding listed_samples
samples_are bs n l e h =
    let f : ℕ → ℤ = λ i. signed16 (field 2 bs (6 + 2 * i)) in
    let k = length_along f 0 n in
    ap (take n) (sets_front l (map f (range 0 n)) (omega (arith, k)))
    ∙ (take_at (map f (range 0 n)) (drop (length (map f (range 0 n))) l) n k ∙ ap (λ (j : ℕ). map f (range 0 j)) e)

-- an answer is that of the listing's own room
pub own_built : (L : Lattice) (vs : List ℤ) (ts : List ℕ) → length vs ≡ vertex_numbers → length ts ≡ triangle_numbers
    → built L Lowest (listing_room vs ts) ≡ built L Lowest own_room
unfolding listing_room own_room
own_built L vs ts ev et =
    (built_same L Lowest (listing_room vs ts) own_room
    (ap (λ (n : ℕ). n / record_length) (ev ∙ sym (length-replicate {A = ℤ} vertex_numbers (pos 0))))
    (ap (λ (n : ℕ). n / 3) (et ∙ sym (length-replicate {A = ℕ} triangle_numbers 0))) refl).0

pub list_refused : (bs : List ℕ) (vs : List ℤ) (ts : List ℕ) (n : ℕ)
    → n ≡ listing_number bs → (n ≡ 0 → ⊥) → Lists bs vs ts (uncounted n) vs ts
unfolding listed listed_after listing_room
list_refused bs vs ts n e h =
    let q = ne_eqb (listing_number bs) 0 (λ z. h (e ∙ z)) in
    record { answer = rw q (ap uncounted e); vertices = rw q; triangles = rw q }

pub list_done : (bs : List ℕ) (vs : List ℤ) (ts : List ℕ) → length vs ≡ vertex_numbers → length ts ≡ triangle_numbers → listing_number bs ≡ 0
    → (z : Sizes) → z ≡ listed_sizes bs → (xs : List ℤ) → xs ≡ listed_samples bs
    → (r : Built) → r ≡ built (lattice z xs) Lowest (listing_room vs ts)
    → (vs' : List ℤ) → vs' ≡ (lent_after (lattice z xs) Lowest (listing_room vs ts)).vertices
    → (ts' : List ℕ) → ts' ≡ (lent_after (lattice z xs) Lowest (listing_room vs ts)).triangles
    → Lists bs vs ts r vs' ts'
unfolding listed listed_after listed_lattice
list_done bs vs ts hv ht e z ez xs ex r er vs' ev ts' et =
    let l : lattice z xs ≡ listed_lattice bs = λ i. lattice (ez i) (ex i) in
    record {
      answer = rw e (er ∙ (ap (λ (l : _). built l Lowest (listing_room vs ts)) l ∙ own_built (listed_lattice bs) vs ts hv ht));
      vertices = rw e (ev ∙ ap (λ (l : _). (lent_after l Lowest (listing_room vs ts)).vertices) l);
      triangles = rw e (et ∙ ap (λ (l : _). (lent_after l Lowest (listing_room vs ts)).triangles) l);
    }

-- by what the tests answer
number_is : (bs : List ℕ) (v : Verdict) → v ≡ judge (listing_tests bs) → v.number ≡ listing_number bs
unfolding listing_number
number_is bs v e = ap (λ (v : Verdict). v.number) e

pub list_err : (bs : List ℕ) (vs : List ℤ) (ts : List ℕ) (e : Refusal)
    → verdict_of e ≡ judge (listing_tests bs) → Lists bs vs ts (uncounted (verdict_of e).number) vs ts
list_err bs vs ts e is = list_refused bs vs ts (verdict_of e).number (number_is bs (verdict_of e) is) (λ z. omega (arith, some_number e))

pub list_ok : (bs : List ℕ) (vs : List ℤ) (ts : List ℕ) → length vs ≡ vertex_numbers → length ts ≡ triangle_numbers
    → verdict 0 0 ≡ judge (listing_tests bs)
    → (z : Sizes) → z ≡ listed_sizes bs → (xs : List ℤ) → xs ≡ listed_samples bs
    → (r : Built) → r ≡ built (lattice z xs) Lowest (listing_room vs ts)
    → (vs' : List ℤ) → vs' ≡ (lent_after (lattice z xs) Lowest (listing_room vs ts)).vertices
    → (ts' : List ℕ) → ts' ≡ (lent_after (lattice z xs) Lowest (listing_room vs ts)).triangles
    → Lists bs vs ts r vs' ts'
list_ok bs vs ts hv ht is = list_done bs vs ts hv ht (sym (number_is bs (verdict 0 0) is))
