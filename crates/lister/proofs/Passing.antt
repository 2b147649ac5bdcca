-- What passing the listing's tests gives. Assumes nothing.
use mathlib.Core.Path.{◌≡◌, sym, ap}
use mathlib.Core.Bool.{true, ◌&&◌}
use mathlib.Core.List.{List}
use Prim.Native.Nat.{ℕ, ◌+◌, ◌*◌, ◌≤◌}
use native.Mathlib.Nat.{mul-le-mul}
use native.Mathlib.Omega.{arith}
use borrow.Author.Tests.{leb-true, eqb-true}
use lib.Dec.{leb}
use lib.ListN.{length}
use Rattle.paper.specs.declared.Sizes.{Sizes}
use Rattle.paper.specs.Lattice.{samples}
use Rattle.paper.specs.declared.Verdict.{Verdict}
use Rattle.paper.specs.Tests.{verdict, judge}
use Rattle.paper.specs.Within.{Sized}
use Rattle.paper.proofs.Judged.{Numbered, judge_all, both, sized}
use Rattle.lister.specs.Listing.{listed_sizes, listable, listing_tests, listing_number}

-- bytes that pass: the sizes are sizes, the samples few, and the bytes as many as they take
pub record Readable (bs : List ℕ) : Type 0 where
  pub sized : Sized (listed_sizes bs)
  pub few : samples (listed_sizes bs) ≤ 512
  pub long : length bs ≡ 6 + 2 * samples (listed_sizes bs)

few_samples : (z : Sizes) → listable z ≡ true → samples z ≤ 512
unfolding listable samples
few_samples z e =
    let a = both (leb z.nx 8 && leb z.ny 8) (leb z.nz 8) e in
    let b = both (leb z.nx 8) (leb z.ny 8) a.0 in
    let layer : z.ny * z.nz ≤ 8 * 8 = mul-le-mul {n₂ = 8} {m₂ = 8} (leb-true z.ny 8 b.1) (leb-true z.nz 8 a.1) in
    mul-le-mul {n₂ = 8} {m₂ = 64} (leb-true z.nx 8 b.0) layer

numbered : (bs : List ℕ) → Numbered (listing_tests bs)
unfolding listing_tests
numbered bs = (omega arith, (omega arith, (omega arith, (omega arith, tt))))

pub readable : (bs : List ℕ) → listing_number bs ≡ 0 → Readable bs
unfolding listing_tests listing_number
readable bs e =
    let p = judge_all (listing_tests bs) (numbered bs) e in
    record {
      sized = sized (listed_sizes bs) p.1.0;
      few = few_samples (listed_sizes bs) p.1.1.0;
      long = eqb-true (length bs) (6 + 2 * samples (listed_sizes bs)) p.1.1.1.0;
    }

-- by what the tests answer
pub readable_ok : (bs : List ℕ) → verdict 0 0 ≡ judge (listing_tests bs) → Readable bs
unfolding listing_number
readable_ok bs e = readable bs (ap (λ (v : Verdict). v.number) (sym e))
