-- Each triangle before i is fresh in its turn, and the bits are those after i. Assumes nothing.
use mathlib.Core.Path.{◌≡◌, sym, ap, subst, ◌∙◌}
use mathlib.Core.Bool.{not, true, false}
use mathlib.Core.List.{List}
use Prim.Native.Nat.{ℕ}
use native.Mathlib.Omega.{arith}
use lib.IntN.{ℤ}
use borrow.Author.Count.{below_more}
use Rattle.lists.proofs.Firsts.{first_found, first_missing}
use Rattle.paper.specs.declared.Sizes.{Sizes}
use Rattle.paper.specs.Lattice.{cubes}
use Rattle.paper.specs.File.{file_t, file_vertices, file_triangles}
use Rattle.paper.specs.Check.{triangle_of}
use Rattle.tetra.specs.Cut.{tri_of}
use Rattle.check_triangles.specs.Words.{words_by}
use Rattle.check_triangles.specs.Triples.{Found, fresh, noted, Small, seen_after, bad_in, first_bad_in}
use Rattle.check_triangles.proofs.Laws.{is_fresh, noted_small, found_fresh, found_noted, lost_fresh, after_none, after_more}
use Rattle.check_triangles.proofs.first_bad.Goals as goal
use Rattle.check_triangles.proofs.first_bad.Goals.{After-note, After-triangle, At-loop-i, Start}

module _ (s : goal.Start) where
  abbrev z : Sizes
  z = s.args.rows.now.sizes

  abbrev words : List ℕ
  words = let w = s.args.rows.now in words_by w.sizes w.sides.now w.cubes.now

  abbrev vs : List ℤ
  vs = file_vertices s.args.file.now.bytes.now

  abbrev ts : List ℕ
  ts = file_triangles s.args.file.now.bytes.now

  abbrev nt : ℕ
  nt = file_t s.args.file.now.bytes.now

-- whether the triangle is fresh by the bits as they are, and after i triangles
now_or_then : (c : goal.After-triangle) → let s = (goal.at.After-triangle c).Start in
    fresh (z s) (words s) c.loop-i.seen (tri_of c.triangle.result)
    ≡ fresh (z s) (words s) (seen_after (z s) (words s) (vs s) (ts s) c.args.seen.now c.loop-i.i) (triangle_of (vs s) (ts s) c.loop-i.i)
now_or_then c =
    let s = (goal.at.After-triangle c).Start in
    λ j. fresh (z s) (words s) (c.loop-i.invariant.bits j) (c.triangle.ensures.0 j)

-- the first that is not fresh
ends : (c : goal.After-triangle) → let s = (goal.at.After-triangle c).Start in
    fresh (z s) (words s) c.loop-i.seen (tri_of c.triangle.result) ≡ false
    → c.loop-i.i ≡ first_bad_in (z s) (words s) (vs s) (ts s) c.args.seen.now (nt s)
unfolding first_bad_in bad_in
ends c e =
    let s = (goal.at.After-triangle c).Start in
    first_found (bad_in (z s) (words s) (vs s) (ts s) c.args.seen.now) (nt s) c.loop-i.i
    (omega (arith, c.args.file.now.counted_t)) c.loop-i.invariant.good (ap not (sym (now_or_then c) ∙ e))

-- where it stands, and what the bits say
found : (c : goal.After-note) → let s = (goal.at.After-note c).Start in
    Found (z s) (words s) (tri_of c.triangle.result) c.in-Some.at
found c = c.in-Some.ensures

told : (c : goal.After-note) → let s = (goal.at.After-note c).Start in
    c.note.result ≡ fresh (z s) (words s) c.loop-i.seen (tri_of c.triangle.result)
told c =
    let s = (goal.at.After-note c).Start in
    c.note.ensures.0 ∙ found_fresh (z s) (words s) c.loop-i.seen (tri_of c.triangle.result) c.in-Some.at (found c)

pub loop-i-init : goal.loop-i-init
loop-i-init c = record {
  bits = after_none _ _ _ _ _;
  good = λ k h. absurd (omega arith);
  small = c.requires.room.1;
  based = tt;
}

pub returns-in_default-clause-first : goal.returns-in_default-clause-first
returns-in_default-clause-first c =
    let s = (goal.at.returns-in_default-clause-first c).Start in
    let t = tri_of c.triangle.result in (
      ends (goal.at.returns-in_default-clause-first c).After-triangle (lost_fresh (z s) (words s) c.loop-i.seen t c.in_default.ensures),
      c.loop-i.invariant.bits,
    )

pub returns-then-not-note-clause-first : goal.returns-then-not-note-clause-first
returns-then-not-note-clause-first c =
    let b = c.if-not-note.true in (
      ends (goal.at.returns-then-not-note-clause-first c).After-triangle
          (sym (told (goal.at.returns-then-not-note-clause-first c).After-note) ∙ b),
      (rw b at c.note.ensures.1) ∙ c.loop-i.invariant.bits,
    )

pub loop-i-preserved : goal.loop-i-preserved
unfolding bad_in
loop-i-preserved c =
    let s = (goal.at.loop-i-preserved c).Start in
    let g = (goal.at.loop-i-preserved c).After-note in
    let l = c.loop-i in
    let t = tri_of c.triangle.result in
    let b = c.if-not-note.false in
    let e = (rw b at c.note.ensures.1) ∙ found_noted (z s) (words s) l.seen t c.in-Some.at (found g) in
    let q : fresh (z s) (words s) l.seen t ≡ true = sym (told g) ∙ b in
    let f = is_fresh (z s) (words s) l.seen t q in
    record {
      bits =
          e
          ∙ ((λ j. noted (z s) (words s) (l.invariant.bits j) (c.triangle.ensures.0 j))
          ∙ after_more (z s) (words s) (vs s) (ts s) c.args.seen.now l.i);
      good = below_more _ _ l.invariant.good (ap not (sym (now_or_then (goal.at.loop-i-preserved c).After-triangle) ∙ q));
      small =
          subst (Small (cubes (z s))) (sym e)
          (noted_small (z s) (words s) l.seen t (omega (arith, c.requires.room.0)) f l.invariant.small);
      based = (found g).based;
    }

pub returns-clause-first : goal.returns-clause-first
unfolding first_bad_in
returns-clause-first c =
    let s = (goal.at.returns-clause-first c).Start in
    let e : c.loop-i.i ≡ nt s = omega (arith, c.args.file.now.counted_t) in (
      first_missing (bad_in (z s) (words s) (vs s) (ts s) c.args.seen.now) (nt s) (λ k h. c.loop-i.invariant.good k (omega arith)),
      c.loop-i.invariant.bits ∙ ap (seen_after (z s) (words s) (vs s) (ts s) c.args.seen.now) e,
    )
