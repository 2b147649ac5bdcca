-- The values at both ends, t from the first, and the positions. Assumes nothing.
use Rattle.std.proofs.Common.{◌≡◌, ℕ, ◌+◌, ◌*◌, ◌<◌, ◌≤◌, length, get_or, pos, sym, ap, ◌∙◌, subst, arith, to_z-of_z, w16, SFits, to_z, of_z}
use mathlib.Core.Bool.{xor}
use Rattle.paper.specs.declared.Place.{Place}
use Rattle.paper.specs.declared.Sizes.{Sizes}
use Rattle.paper.specs.Lattice.{Lattice, lattice, air, value_at, air_at, place, corner, sample_no}
use Rattle.paper.specs.Sheet.{ends_of, split, vertex_record}
use Rattle.paper.specs.File.{file_vertices}
use Rattle.paper.proofs.Numbers.{sample_lt}
use Rattle.lattice.proofs.Laws.{corner_no, samples_few}
use Rattle.crossing.specs.Vertex.{NearPlaces}
use Rattle.crossing.proofs.Records.{near}
use Rattle.check_entries.specs.Entries.{along, Ends}
use Rattle.check_entries.proofs.Vertices.{seen, record_along, ends_lt, behind_first}
use Rattle.check_entries.proofs.Lines.same_vertex.Goals as goal
use Rattle.check_entries.proofs.Lines.same_vertex.Goals.{Start}

module _ (s : goal.Start) where
  abbrev n : Sizes
  n = s.args.volume.now.sizes

  abbrev L : Lattice
  L = lattice n s.args.volume.now.samples.now

  abbrev y : ℕ
  y = s.args.self.now.y

  abbrev z : ℕ
  z = s.args.self.now.z

  abbrev p : Place
  p = place s.args.x y z

  abbrev kind : ℕ
  kind = s.args.kind

  abbrev u : Place
  u = corner p (ends_of kind).a

  abbrev v : Place
  v = corner p (ends_of kind).b

  abbrev at : ℕ
  at = s.args.self.now.here + s.args.x

  -- where the two values stand
  abbrev first_at : ℕ
  first_at = at + get_or s.args.self.now.off.now (2 * kind) 0

  abbrev second_at : ℕ
  second_at = at + get_or s.args.self.now.off.now (2 * kind + 1) 0

  few : kind < 7
  few = s.requires.crosses.1.kind

  E : Ends n y z s.args.self.now.off.now s.args.self.now.from.now s.args.self.now.dirs.now s.args.self.now.main.now
  E = subst (λ (n : Sizes). Ends n y z s.args.self.now.off.now s.args.self.now.from.now s.args.self.now.dirs.now s.args.self.now.main.now) s.requires.sizes s.args.self.now.ends

  anchor_no : at ≡ sample_no n p
  unfolding sample_no
  anchor_no =
      let h : s.args.self.now.here ≡ n.nx * (y + n.ny * z) =
      s.args.self.now.placed.2 ∙ ap (λ (n : Sizes). n.nx * (y + n.ny * z)) s.requires.sizes in
      omega (arith, h)

  first_no : first_at ≡ sample_no n u
  first_no = omega (arith, anchor_no, E.first kind few, corner_no n p (ends_of kind).a)

  second_no : second_at ≡ sample_no n v
  second_no = omega (arith, anchor_no, E.second kind few, corner_no n p (ends_of kind).b)

  first_lt : first_at < length s.args.volume.now.samples.now
  first_lt = omega (arith, first_no, s.args.volume.now.full.count, sample_lt n u s.requires.crosses.1.first)

  second_lt : second_at < length s.args.volume.now.samples.now
  second_lt = omega (arith, second_no, s.args.volume.now.full.count, sample_lt n v s.requires.crosses.1.second)

  small : length s.args.volume.now.samples.now ≤ 262144
  small = omega (arith, s.args.volume.now.full.count, samples_few n s.args.volume.now.full.sized)

  -- and what they are
  first_value : SFits w16 (get_or s.args.volume.now.samples.now first_at (pos 0))
      → to_z w16 (of_z w16 (get_or s.args.volume.now.samples.now first_at (pos 0))) ≡ value_at L u
  unfolding value_at
  first_value f = to_z-of_z {w = w16} f ∙ ap (λ (i : ℕ). get_or s.args.volume.now.samples.now i (pos 0)) first_no

  second_value : SFits w16 (get_or s.args.volume.now.samples.now second_at (pos 0))
      → to_z w16 (of_z w16 (get_or s.args.volume.now.samples.now second_at (pos 0))) ≡ value_at L v
  unfolding value_at
  second_value f = to_z-of_z {w = w16} f ∙ ap (λ (i : ℕ). get_or s.args.volume.now.samples.now i (pos 0)) second_no

  beside : NearPlaces u v
  beside =
      let e = ends_lt kind few in
      near n s.args.volume.now.full.sized p (ends_of kind).a (ends_of kind).b e.0 e.1 s.requires.crosses.1.first

pub overflow_add-first : goal.overflow_add-first
overflow_add-first c = record { fits = omega (arith, first_lt (goal.at.overflow_add-first c).Start, small (goal.at.overflow_add-first c).Start) }

pub offset_bounds-volume-at : goal.offset_bounds-volume-at
offset_bounds-volume-at c = record { fits = omega (arith, first_lt (goal.at.offset_bounds-volume-at c).Start, small (goal.at.offset_bounds-volume-at c).Start) }

pub bounds-volume-at : goal.bounds-volume-at
bounds-volume-at c = first_lt (goal.at.bounds-volume-at c).Start

pub overflow_add-second-2 : goal.overflow_add-second-2
overflow_add-second-2 c = record { fits = omega (arith, second_lt (goal.at.overflow_add-second-2 c).Start, small (goal.at.overflow_add-second-2 c).Start) }

pub offset_bounds-volume-at-2 : goal.offset_bounds-volume-at-2
offset_bounds-volume-at-2 c = record { fits = omega (arith, second_lt (goal.at.offset_bounds-volume-at-2 c).Start, small (goal.at.offset_bounds-volume-at-2 c).Start) }

pub bounds-volume-at-2 : goal.bounds-volume-at-2
bounds-volume-at-2 c = second_lt (goal.at.bounds-volume-at-2 c).Start

pub is_along-requires : goal.is_along-requires
unfolding split air_at
is_along-requires c =
    let s = (goal.at.is_along-requires c).Start in
    let f = first_value s (record { sfits = c.first-2-1.given }) in
    let g = second_value s (record { sfits = c.second-2-1.given }) in
    (λ i. xor (air (f i)) (air (g i))) ∙ c.requires.crosses.1.sides

pub same_places-requires-clause-near_places : goal.same_places-requires-clause-near_places
same_places-requires-clause-near_places c = beside (goal.at.same_places-requires-clause-near_places c).Start

pub returns-then-is_along : goal.returns-then-is_along
returns-then-is_along c e =
    let s = (goal.at.returns-then-is_along c).Start in
    let r = c.same_places.ensures e in
    let f = first_value s (record { sfits = c.first-2-1.given }) in
    let g = second_value s (record { sfits = c.second-2-1.given }) in
    let a = (c.is_along.ensures c.if-is_along.true).1 ∙ (λ i. along c.args.rule (f i) (g i)) in
    let told = seen c.args.rule (L s) (p s) (kind s) c.requires.crosses.0 c.requires.crosses.1 (beside s) in
    let q : vertex_record c.args.rule (L s) (7 * at s + kind s) ≡ told c.told-s.result =
    ap (λ (m : ℕ). vertex_record c.args.rule (L s) (7 * m + kind s)) (anchor_no s)
    ∙ (record_along c.args.rule (L s) (p s) (kind s) c.requires.crosses.0 c.requires.crosses.1 (beside s) ∙ ap told (sym a)) in
    behind_first (file_vertices c.args.file.now.bytes.now) _ (4 * c.args.i) _ _ _ _ q r.0 r.1 r.2
