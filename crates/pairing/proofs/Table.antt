-- The directed sides of one cube's triangles, by the sides of its eight corners: what computation over all 256 patterns shows. The tables
-- are document 01's. Assumes nothing.
use mathlib.Core.Path.{◌≡◌, refl, sym, ap, ◌∙◌, subst}
use mathlib.Core.Bool.{Bool, true, false, not, cond, ◌&&◌, ◌||◌, and_comm}
use mathlib.Core.List.{List, [], ◌∷◌, ◌++◌, map, Memᴰ as In}
use mathlib.Core.Logic.{◌⊎◌, inl, inr}
use Prim.Native.Nat.{ℕ, suc, ◌+◌, ◌-◌, ◌*◌, ◌/◌, ◌%◌, ◌<◌, min}
use lib.Dec.{T, eqb, ltb, eqb→eq, ltb→lt}
use lib.ListN.{get_or, get_or-map}
use Rattle.lists.specs.Lists.{range, keep, any, all, each, count}
use Rattle.lists.proofs.Member.{t_to_eq, or_cases, and_both, and_left, and_right, and3, both3}
use Rattle.lists.proofs.Every.{all_test, all_get_d, each_map}
use Rattle.lists.proofs.Computed.{every6, every6_at}
use Rattle.paper.specs.declared.Place.{Place}
use Rattle.paper.specs.Lattice.{place, corner, mixed}
use Rattle.paper.specs.Tables.{Ends, Tet, Tri, ends, tri, tets, rows, tet_edges, kinds, low, joins, kind_of}
use Rattle.paper.specs.Sheet.{row_of}
use Rattle.pairing.specs.Pairing.{Arrow, around}
use Rattle.lists.proofs.Within.{holds, eqb_of, all_in, all_each, all_map, each_each, map_each, map_in}
use Rattle.lists.proofs.Counts.{count_step, count_keep}

-- an edge of a cube as one number, its code: 8 times the corner at its anchor, plus its kind
unfoldable pub code : Ends → ℕ
code e = 8 * low e + kind_of e

unfoldable pub code_at : Tet → ℕ → ℕ
code_at t i = code (get_or (tet_edges t) (i - 1) (ends 0 0))

-- a row's triangle by codes
unfoldable pub code_tri : Tet → Tri → Tri
code_tri t r = tri (code_at t r.a) (code_at t r.b) (code_at t r.c)

-- the ends of an edge, from the corner that its code is told from
unfoldable pub span : ℕ → List Place
span u =
    let k = get_or kinds (u % 8) (ends 0 0) in
    let p = corner (place 0 0 0) (u / 8) in
    corner p k.a ∷ corner p k.b ∷ []

abbrev pub flat_x : ℕ → ℕ → Bool
flat_x u w = all (λ p. eqb p.x 0) (span u ++ span w)

abbrev pub flat_y : ℕ → ℕ → Bool
flat_y u w = all (λ p. eqb p.y 0) (span u ++ span w)

abbrev pub flat_z : ℕ → ℕ → Bool
flat_z u w = all (λ p. eqb p.z 0) (span u ++ span w)

-- the axis that two edges do not leave, as the number of the corner along it; 0 where there is none
unfoldable pub flat : ℕ → ℕ → ℕ
flat u w = cond (flat_x u w) 1 (cond (flat_y u w) 2 (cond (flat_z u w) 4 0))

-- a directed side of a cube: the corner o at the least of both anchors, both edges from there, and the axis that they do not leave
pub record Side : Type 0 where
  pub o : ℕ
  pub u : ℕ
  pub w : ℕ
  pub f : ℕ

unfoldable pub side_of : Arrow → Side
side_of d =
    let o = low (ends (d.from / 8) (d.to / 8)) in
    let u = d.from - 8 * o in
    let w = d.to - 8 * o in
    record { o = o; u = u; w = w; f = flat u w }

unfoldable pub same : ℕ → ℕ → ℕ → Side → Bool
same o u w d = eqb u d.u && eqb w d.w && eqb o d.o

-- ── each side by itself ──

-- the code c from a cube's corner 0 is u from its corner o
abbrev moved : ℕ → ℕ → ℕ → List Bool
moved o u c =
    eqb (o % 2 + u / 8 % 2) (c / 8 % 2) ∷ eqb (o / 2 % 2 + u / 8 / 2 % 2) (c / 8 / 2 % 2) ∷ eqb (o / 4 + u / 8 / 4) (c / 8 / 4)
    ∷ eqb (u % 8) (c % 8) ∷ ltb c 64 ∷ ltb (u % 8) 7 ∷ []

-- two codes told from the least of their anchors; on each axis an end stands there, and they leave two axes at least
abbrev shaped : ℕ → ℕ → List Bool
shaped u w =
    eqb (min (u / 8 % 2) (w / 8 % 2)) 0 ∷ eqb (min (u / 8 / 2 % 2) (w / 8 / 2 % 2)) 0 ∷ eqb (min (u / 8 / 4) (w / 8 / 4)) 0
    ∷ any (λ p. eqb p.x 0) (span u ++ span w) ∷ any (λ p. eqb p.y 0) (span u ++ span w) ∷ any (λ p. eqb p.z 0) (span u ++ span w)
    ∷ not (flat_x u w && flat_y u w) ∷ not (flat_x u w && flat_z u w) ∷ not (flat_y u w && flat_z u w)
    ∷ eqb (flat w u) (flat u w) ∷ []

abbrev tests : List Bool → Bool
tests l = all (λ b. b) l

abbrev neatness : Arrow → List Bool
neatness d =
    let s = side_of d in
    tests (moved s.o s.u d.from) ∷ tests (moved s.o s.w d.to)
    ∷ tests (shaped s.u s.w) ∷ tests (shaped s.w s.u) ∷ []

unfoldable pub neat : Arrow → Bool
neat d = tests (neatness d)

all_neat : T (all (λ t. all (λ r. all neat (each around (map (code_tri t) r))) rows) tets)
unfolding neat side_of flat span around code_tri code_at code tets rows tet_edges kinds low joins kind_of corner
all_neat = tt

-- ── the sides of a cube together ──

-- a tetrahedron with the sides of each of its rows
pub record Cell : Type 0 where
  pub a : ℕ
  pub b : ℕ
  pub c : ℕ
  pub d : ℕ
  pub rows : List (List Side)

unfoldable pub cell_of : Tet → Cell
cell_of t = record { a = t.a; b = t.b; c = t.c; d = t.d; rows = map (λ r. map side_of (each around (map (code_tri t) r))) rows }

unfoldable pub cells : List Cell
cells = map cell_of tets

-- the sides of a cube whose corners have the sides s
unfoldable pub sides_in : List Cell → (ℕ → Bool) → List Side
sides_in cs s = each (λ k. get_or k.rows (row_of (s k.a) (s k.b) (s k.c) (s k.d)) []) cs

-- a cube's low and high face across an axis is mixed
unfoldable pub low_face : ℕ → (ℕ → Bool) → Bool
low_face f s =
    cond (eqb f 1) (mixed (s 0 ∷ s 2 ∷ s 4 ∷ s 6 ∷ []))
    (cond (eqb f 2) (mixed (s 0 ∷ s 1 ∷ s 4 ∷ s 5 ∷ [])) (mixed (s 0 ∷ s 1 ∷ s 2 ∷ s 3 ∷ [])))

unfoldable pub high_face : ℕ → (ℕ → Bool) → Bool
high_face f s =
    cond (eqb f 1) (mixed (s 1 ∷ s 3 ∷ s 5 ∷ s 7 ∷ []))
    (cond (eqb f 2) (mixed (s 2 ∷ s 3 ∷ s 6 ∷ s 7 ∷ [])) (mixed (s 4 ∷ s 5 ∷ s 6 ∷ s 7 ∷ [])))

-- a side stands at corner 0 or across its axis; it is there once; its reverse is there just where it has no axis; its face is mixed
abbrev standing : (ℕ → Bool) → List Side → Side → List Bool
standing s l d =
    (eqb d.o 0 || eqb d.o d.f)
    ∷ eqb (count (same d.o d.u d.w) l) 1
    ∷ eqb (count (same d.o d.w d.u) l) (cond (eqb d.f 0) 1 0)
    ∷ (eqb d.f 0 || cond (eqb d.o 0) (low_face d.f s) (high_face d.f s))
    ∷ []

unfoldable pub good : (ℕ → Bool) → List Side → Side → Bool
good s l d = tests (standing s l d)

-- those in the low and in the high face across an axis
unfoldable pub lows : ℕ → List Side → List Side
lows f l = keep (λ d. eqb d.o 0 && eqb d.f f) l

unfoldable pub highs : ℕ → List Side → List Side
highs f l = keep (λ d. eqb d.o f) l

unfoldable pub alike : List Side → List Side → Bool
alike [] [] = true
alike [] (y ∷ ys) = false
alike (x ∷ xs) [] = false
alike (x ∷ xs) (y ∷ ys) = eqb x.u y.u && eqb x.w y.w && eqb x.o y.o && alike xs ys

-- those of the first turned and told from the face's corner are the second
unfoldable pub turned : ℕ → List Side → List Side → Bool
turned f [] [] = true
turned f [] (y ∷ ys) = false
turned f (x ∷ xs) [] = false
turned f (x ∷ xs) (y ∷ ys) = eqb x.w y.u && eqb x.u y.w && eqb x.o f && eqb y.o 0 && turned f xs ys

-- the sides in a low face by the sides of its four corners, one list for each of the 16 patterns; ws has a corner's weight in a pattern
unfoldable pub face_sides : List Cell → ℕ → List ℕ → List (List Side)
face_sides cs f ws = map (λ n. lows f (sides_in cs (λ c. eqb (n / get_or ws c 1 % 2) 1))) (range 0 16)

unfoldable pub face_x : List Cell → List (List Side)
face_x cs = face_sides cs 1 (8 ∷ 8 ∷ 4 ∷ 4 ∷ 2 ∷ 2 ∷ 1 ∷ 1 ∷ [])

unfoldable pub face_y : List Cell → List (List Side)
face_y cs = face_sides cs 2 (8 ∷ 4 ∷ 8 ∷ 4 ∷ 2 ∷ 1 ∷ 2 ∷ 1 ∷ [])

unfoldable pub face_z : List Cell → List (List Side)
face_z cs = face_sides cs 4 (8 ∷ 4 ∷ 2 ∷ 1 ∷ 8 ∷ 4 ∷ 2 ∷ 1 ∷ [])

-- the pattern of a low face and of a high face
unfoldable pub low_row : ℕ → (ℕ → Bool) → ℕ
low_row f s =
    cond (eqb f 1) (row_of (s 0) (s 2) (s 4) (s 6)) (cond (eqb f 2) (row_of (s 0) (s 1) (s 4) (s 5)) (row_of (s 0) (s 1) (s 2) (s 3)))

unfoldable pub high_row : ℕ → (ℕ → Bool) → ℕ
high_row f s =
    cond (eqb f 1) (row_of (s 1) (s 3) (s 5) (s 7)) (cond (eqb f 2) (row_of (s 2) (s 3) (s 6) (s 7)) (row_of (s 4) (s 5) (s 6) (s 7)))

-- what a face's sides are depends on its four corners only, and those of a high face are turned
unfoldable pub faced : List (List Side) → ℕ → (ℕ → Bool) → List Side → Bool
faced t f s l = alike (lows f l) (get_or t (low_row f s) []) && turned f (highs f l) (get_or t (high_row f s) [])

abbrev cube_tests : List (List Side) → List (List Side) → List (List Side) → (ℕ → Bool) → List Side → List Bool
cube_tests x y z s l = all (good s l) l ∷ faced x 1 s l ∷ faced y 2 s l ∷ faced z 4 s l ∷ []

unfoldable pub test : List Cell → List (List Side) → List (List Side) → List (List Side) → (ℕ → Bool) → Bool
test cs x y z s = let l = sides_in cs s in tests (cube_tests x y z s l)

abbrev pub pick8 : Bool → Bool → Bool → Bool → Bool → Bool → Bool → Bool → ℕ → Bool
pick8 a b c d e g h i n = get_or (a ∷ b ∷ c ∷ d ∷ e ∷ g ∷ h ∷ i ∷ []) n false

-- all patterns that begin with two given sides; the tables are computed once for each such part
abbrev part : Bool → Bool → Bool
part a b =
    let cs = cells in
    let x = face_x cs in
    let y = face_y cs in
    let z = face_z cs in
    every6 λ c d e g h i. test cs x y z (pick8 a b c d e g h i)

part_tt : T (part true true)
unfolding cells cell_of face_x face_y face_z face_sides test faced low_row high_row good lows highs turned alike sides_in same flat
    span side_of code_tri code_at code row_of tets rows tet_edges kinds low joins kind_of corner mixed low_face high_face around
part_tt = tt

part_tf : T (part true false)
unfolding cells cell_of face_x face_y face_z face_sides test faced low_row high_row good lows highs turned alike sides_in same flat
    span side_of code_tri code_at code row_of tets rows tet_edges kinds low joins kind_of corner mixed low_face high_face around
part_tf = tt

part_ft : T (part false true)
unfolding cells cell_of face_x face_y face_z face_sides test faced low_row high_row good lows highs turned alike sides_in same flat
    span side_of code_tri code_at code row_of tets rows tet_edges kinds low joins kind_of corner mixed low_face high_face around
part_ft = tt

part_ff : T (part false false)
unfolding cells cell_of face_x face_y face_z face_sides test faced low_row high_row good lows highs turned alike sides_in same flat
    span side_of code_tri code_at code row_of tets rows tet_edges kinds low joins kind_of corner mixed low_face high_face around
part_ff = tt

parts : (a b : Bool) → T (part a b)
parts true true = part_tt
parts true false = part_tf
parts false true = part_ft
parts false false = part_ff

abbrev passes : Bool → Bool → Bool → Bool → Bool → Bool → Bool → Bool → Bool
passes a b c d e g h i = test cells (face_x cells) (face_y cells) (face_z cells) (pick8 a b c d e g h i)

each_pattern : (a b c d e g h i : Bool) → T (passes a b c d e g h i)
each_pattern a b = every6_at (passes a b) (parts a b)

-- ── a cube whose corners have any sides ──

-- its directed edges by codes, and its sides
unfoldable pub tris_in : (ℕ → Bool) → List Tri
tris_in s = each (λ t. map (code_tri t) (get_or rows (row_of (s t.a) (s t.b) (s t.c) (s t.d)) [])) tets

unfoldable pub arrows_in : (ℕ → Bool) → List Arrow
arrows_in s = each around (tris_in s)

unfoldable pub sides : (ℕ → Bool) → List Side
sides s = sides_in cells s

pub sides_are : (s : ℕ → Bool) → map side_of (arrows_in s) ≡ sides s
unfolding arrows_in tris_in sides sides_in cells cell_of
sides_are s =
    ap (map side_of) (each_each around (λ t. map (code_tri t) (at t)) tets)
    ∙ map_each side_of (λ t. each around (map (code_tri t) (at t))) tets
    ∙ sym (each_map (λ k. get_or k.rows (row_of (s k.a) (s k.b) (s k.c) (s k.d)) []) cell_of tets ∙ go tets)
  where
    row : Tet → ℕ
    row t = row_of (s t.a) (s t.b) (s t.c) (s t.d)

    at : Tet → List Tri
    at t = get_or rows (row t) []

    go : (l : List Tet) → each (λ t. get_or (map (λ r. map side_of (each around (map (code_tri t) r))) rows) (row t) []) l
        ≡ each (λ t. map side_of (each around (map (code_tri t) (at t)))) l
    go [] = refl
    go (t ∷ l) =
        λ i. get_or-map (λ r. map side_of (each around (map (code_tri t) r))) rows (row t) [] i ++ go l i

neat_in : (s : ℕ → Bool) → T (all neat (arrows_in s))
unfolding arrows_in tris_in
neat_in s =
    subst (λ l. T (all neat l)) (sym (each_each around (λ t. map (code_tri t) (at t)) tets))
    (all_each neat (λ t. each around (map (code_tri t) (at t))) tets (go tets all_neat))
  where
    at : Tet → List Tri
    at t = get_or rows (row_of (s t.a) (s t.b) (s t.c) (s t.d)) []

    go : (l : List Tet) → T (all (λ t. all (λ r. all neat (each around (map (code_tri t) r))) rows) l)
        → T (all (λ t. all neat (each around (map (code_tri t) (at t)))) l)
    go [] q = tt
    go (t ∷ l) q =
        let p = all (λ r. all neat (each around (map (code_tri t) r))) rows in
        let r = all (λ t. all (λ r. all neat (each around (map (code_tri t) r))) rows) l in
        and_both (all neat (each around (map (code_tri t) (at t)))) (all (λ t. all neat (each around (map (code_tri t) (at t)))) l)
        (all_get_d (λ l. T (all neat (each around (map (code_tri t) l)))) rows [] tt
        (all_test (λ l. all neat (each around (map (code_tri t) l))) rows (and_left p r q))
        (row_of (s t.a) (s t.b) (s t.c) (s t.d)))
        (go l (and_right p r q))

-- eight corners decide all of it
by_corners : (s : ℕ → Bool) → T (test cells (face_x cells) (face_y cells) (face_z cells) s)
unfolding test faced low_row high_row sides_in cells cell_of tets good low_face high_face
by_corners s = each_pattern (s 0) (s 1) (s 2) (s 3) (s 4) (s 5) (s 6) (s 7)

-- ── what it says ──

-- an axis, as the number of the corner along it
abbrev pub Axis : ℕ → Type 0
Axis f = (f ≡ 1) ⊎ ((f ≡ 2) ⊎ (f ≡ 4))

pub flat_cases : (u w : ℕ) → (flat u w ≡ 0) ⊎ Axis (flat u w)
unfolding flat
flat_cases u w = go (flat_x u w) (flat_y u w) (flat_z u w)
  where
    go : (a b c : Bool) → (◌≡◌ {A = ℕ} (cond a 1 (cond b 2 (cond c 4 0))) 0) ⊎ Axis (cond a 1 (cond b 2 (cond c 4 0)))
    go true b c = inr (inl refl)
    go false true c = inr (inr (inl refl))
    go false false true = inr (inr (inr refl))
    go false false false = inl refl

-- each directed edge of a cube by its side
pub record Good (s : ℕ → Bool) (o u w : ℕ) : Type 0 where
  pub own : (o ≡ 0) ⊎ (o ≡ flat u w)
  pub once : count (same o u w) (sides s) ≡ 1
  pub turn : count (same o w u) (sides s) ≡ cond (eqb (flat u w) 0) 1 0
  pub face : T (eqb (flat u w) 0 || cond (eqb o 0) (low_face (flat u w) s) (high_face (flat u w) s))

goods : (s : ℕ → Bool) → T (all (λ d. good s (sides s) (side_of d)) (arrows_in s))
unfolding test sides
goods s =
    subst T (all_map (good s (sides s)) side_of (arrows_in s))
    (subst (λ l. T (all (good s (sides s)) l)) (sym (sides_are s))
    (holds (cube_tests (face_x cells) (face_y cells) (face_z cells) s (sides s)) (by_corners s) 0))

is_good : (s : ℕ → Bool) (d : Arrow) → T (good s (sides s) (side_of d)) → Good s (side_of d).o (side_of d).u (side_of d).w
unfolding good side_of
is_good s d t =
    let e = side_of d in
    let l = standing s (sides s) e in
    record {
      own = elim (or_cases (eqb e.o 0) (eqb e.o e.f) (holds l t 0)) [ inl a ↦ inl (eqb→eq _ _ a) | inr b ↦ inr (eqb→eq _ _ b) ];
      once = eqb→eq _ _ (holds l t 1);
      turn = eqb→eq _ _ (holds l t 2);
      face = holds l t 3;
    }

-- the code c from a cube's corner is u from its corner o
pub record Moved (o u c : ℕ) : Type 0 where
  pub x : o % 2 + u / 8 % 2 ≡ c / 8 % 2
  pub y : o / 2 % 2 + u / 8 / 2 % 2 ≡ c / 8 / 2 % 2
  pub z : o / 4 + u / 8 / 4 ≡ c / 8 / 4
  pub kind : u % 8 ≡ c % 8
  pub small : c < 64
  pub seven : u % 8 < 7

-- two codes told from the least of their anchors
pub record Shape (u w : ℕ) : Type 0 where
  pub x : min (u / 8 % 2) (w / 8 % 2) ≡ 0
  pub y : min (u / 8 / 2 % 2) (w / 8 / 2 % 2) ≡ 0
  pub z : min (u / 8 / 4) (w / 8 / 4) ≡ 0
  pub some_x : T (any (λ p. eqb p.x 0) (span u ++ span w))
  pub some_y : T (any (λ p. eqb p.y 0) (span u ++ span w))
  pub some_z : T (any (λ p. eqb p.z 0) (span u ++ span w))
  pub not_xy : T (not (flat_x u w && flat_y u w))
  pub not_xz : T (not (flat_x u w && flat_z u w))
  pub not_yz : T (not (flat_y u w && flat_z u w))
  pub turn : flat w u ≡ flat u w

pub record Neat (d : Arrow) : Type 0 where
  pub from : Moved (side_of d).o (side_of d).u d.from
  pub to : Moved (side_of d).o (side_of d).w d.to
  pub shape : Shape (side_of d).u (side_of d).w
  pub reverse : Shape (side_of d).w (side_of d).u

is_moved : (o u c : ℕ) → T (tests (moved o u c)) → Moved o u c
is_moved o u c t =
    let l = moved o u c in
    record {
      x = eqb→eq _ _ (holds l t 0);
      y = eqb→eq _ _ (holds l t 1);
      z = eqb→eq _ _ (holds l t 2);
      kind = eqb→eq _ _ (holds l t 3);
      small = ltb→lt _ _ (holds l t 4);
      seven = ltb→lt _ _ (holds l t 5);
    }

is_shape : (u w : ℕ) → T (tests (shaped u w)) → Shape u w
is_shape u w t =
    let l = shaped u w in
    record {
      x = eqb→eq _ _ (holds l t 0);
      y = eqb→eq _ _ (holds l t 1);
      z = eqb→eq _ _ (holds l t 2);
      some_x = holds l t 3;
      some_y = holds l t 4;
      some_z = holds l t 5;
      not_xy = holds l t 6;
      not_xz = holds l t 7;
      not_yz = holds l t 8;
      turn = eqb→eq _ _ (holds l t 9);
    }

is_neat : (d : Arrow) → T (neat d) → Neat d
unfolding neat
is_neat d t =
    let l = neatness d in
    let s = side_of d in
    record {
      from = is_moved s.o s.u d.from (holds l t 0);
      to = is_moved s.o s.w d.to (holds l t 1);
      shape = is_shape s.u s.w (holds l t 2);
      reverse = is_shape s.w s.u (holds l t 3);
    }

-- both of each directed edge of a cube
pub good_at : (s : ℕ → Bool) (d : Arrow) → In d (arrows_in s) → Good s (side_of d).o (side_of d).u (side_of d).w
good_at s d i = is_good s d (all_in (λ d. good s (sides s) (side_of d)) (goods s) i)

pub neat_at : (s : ℕ → Bool) (d : Arrow) → In d (arrows_in s) → Neat d
neat_at s d i = is_neat d (all_in neat (neat_in s) i)

pub record Is (o u w : ℕ) (d : Side) : Type 0 where
  pub offset : o ≡ d.o
  pub first : u ≡ d.u
  pub second : w ≡ d.w

pub is_same : (o u w : ℕ) (d : Side) → T (same o u w d) → Is o u w d
unfolding same
is_same o u w d t =
    let e = and3 (eqb u d.u) (eqb w d.w) (eqb o d.o) t in
    record { offset = eqb→eq o d.o e.2; first = eqb→eq u d.u e.0; second = eqb→eq w d.w e.1 }

pub same_is : (o u w : ℕ) (d : Side) → Is o u w d → T (same o u w d)
unfolding same
same_is o u w d e = both3 (eqb u d.u) (eqb w d.w) (eqb o d.o) (eqb_of e.first) (eqb_of e.second) (eqb_of e.offset)

-- the sides of a low face by its pattern
abbrev pub table_of : ℕ → List (List Side)
table_of f = cond (eqb f 1) (face_x cells) (cond (eqb f 2) (face_y cells) (face_z cells))

faces_at : (f : ℕ) → Axis f → (s : ℕ → Bool) → T (faced (table_of f) f s (sides s))
unfolding test sides
faces_at f (inl e) s =
    subst (λ (k : ℕ). T (faced (table_of k) k s (sides s))) (sym e)
    (holds (cube_tests (face_x cells) (face_y cells) (face_z cells) s (sides s)) (by_corners s) 1)
faces_at f (inr (inl e)) s =
    subst (λ (k : ℕ). T (faced (table_of k) k s (sides s))) (sym e)
    (holds (cube_tests (face_x cells) (face_y cells) (face_z cells) s (sides s)) (by_corners s) 2)
faces_at f (inr (inr e)) s =
    subst (λ (k : ℕ). T (faced (table_of k) k s (sides s))) (sym e)
    (holds (cube_tests (face_x cells) (face_y cells) (face_z cells) s (sides s)) (by_corners s) 3)

bump : {a b : Bool} {m n : ℕ} → a ≡ b → m ≡ n → cond a (suc m) m ≡ cond b (suc n) n
bump e h = λ i. cond (e i) (suc (h i)) (h i)

count_alike : (o u w : ℕ) (xs ys : List Side) → T (alike xs ys) → count (same o u w) xs ≡ count (same o u w) ys
unfolding alike same
count_alike o u w [] [] t = refl
count_alike o u w [] (y ∷ ys) t = absurd t
count_alike o u w (x ∷ xs) [] t = absurd t
count_alike o u w (x ∷ xs) (y ∷ ys) t =
    let a = eqb x.u y.u in
    let b = eqb x.w y.w in
    let c = eqb x.o y.o in
    let r = alike xs ys in
    let h = and_left (a && b && c) r t in
    let eu = eqb→eq x.u y.u (and_left a b (and_left (a && b) c h)) in
    let ew = eqb→eq x.w y.w (and_right a b (and_left (a && b) c h)) in
    let eo = eqb→eq x.o y.o (and_right (a && b) c h) in
    count_step (same o u w) x xs
    ∙ bump {a = same o u w x} {b = same o u w y} (λ i. eqb u (eu i) && eqb w (ew i) && eqb o (eo i))
    (count_alike o u w xs ys (and_right (a && b && c) r t))
    ∙ sym (count_step (same o u w) y ys)

count_turned : (f u w : ℕ) (xs ys : List Side) → T (turned f xs ys) → count (same f u w) xs ≡ count (same 0 w u) ys
unfolding turned same
count_turned f u w [] [] t = refl
count_turned f u w [] (y ∷ ys) t = absurd t
count_turned f u w (x ∷ xs) [] t = absurd t
count_turned f u w (x ∷ xs) (y ∷ ys) t =
    let a = eqb x.w y.u in
    let b = eqb x.u y.w in
    let c = eqb x.o f in
    let d = eqb y.o 0 in
    let r = turned f xs ys in
    let h = and_left (a && b && c && d) r t in
    let g = and_left (a && b && c) d h in
    let ew = eqb→eq x.w y.u (and_left a b (and_left (a && b) c g)) in
    let eu = eqb→eq x.u y.w (and_right a b (and_left (a && b) c g)) in
    let ef : eqb f x.o ≡ true = t_to_eq (eqb f x.o) (eqb_of (sym (eqb→eq x.o f (and_right (a && b) c g)))) in
    let ez : true ≡ eqb 0 y.o = sym (t_to_eq (eqb 0 y.o) (eqb_of (sym (eqb→eq y.o 0 (and_right (a && b && c) d h))))) in
    count_step (same f u w) x xs
    ∙ bump {a = same f u w x} {b = same 0 w u y}
    ((λ i. eqb u (eu i) && eqb w (ew i) && ef i) ∙ (λ i. and_comm (eqb u y.w) (eqb w y.u) i && ez i))
    (count_turned f u w xs ys (and_right (a && b && c && d) r t))
    ∙ sym (count_step (same 0 w u) y ys)

-- a side's axis is that of its edges
honest : (s : ℕ → Bool) (d : Side) → In d (sides s) → d.f ≡ flat d.u d.w
unfolding side_of
honest s d i =
    let m = map_in side_of (arrows_in s) d (subst (In d) (sym (sides_are s)) i) in
    subst (λ (k : Side). k.f ≡ flat k.u k.w) (sym m.2) refl

-- where the low face of one cube is the high face of another, a side of it in one is its reverse in the other
pub across : (f : ℕ) → Axis f → (u w : ℕ) → flat w u ≡ f → (s s' : ℕ → Bool) → low_row f s' ≡ high_row f s
    → count (same f u w) (sides s) ≡ count (same 0 w u) (sides s')
unfolding faced lows highs
across f ax u w e s s' h =
    let p = faces_at f ax s in
    let q = faces_at f ax s' in
    sym (count_keep (same f u w) (λ d. eqb d.o f) (sides s) (λ d i t. eqb_of (sym (is_same f u w d t).offset)))
    ∙ count_turned f u w (highs f (sides s)) (get_or (table_of f) (high_row f s) [])
    (and_right (alike (lows f (sides s)) (get_or (table_of f) (low_row f s) []))
    (turned f (highs f (sides s)) (get_or (table_of f) (high_row f s) [])) p)
    ∙ ap (λ (n : ℕ). count (same 0 w u) (get_or (table_of f) n [])) (sym h)
    ∙ sym (count_alike 0 w u (lows f (sides s')) (get_or (table_of f) (low_row f s') [])
    (and_left (alike (lows f (sides s')) (get_or (table_of f) (low_row f s') []))
    (turned f (highs f (sides s')) (get_or (table_of f) (high_row f s') [])) q))
    ∙ count_keep (same 0 w u) (λ d. eqb d.o 0 && eqb d.f f) (sides s') low_one
  where
    low_one : (d : Side) → In d (sides s') → T (same 0 w u d) → T (eqb d.o 0 && eqb d.f f)
    low_one d i t =
        let q = is_same 0 w u d t in
        and_both (eqb d.o 0) (eqb d.f f) (eqb_of (sym q.offset))
        (eqb_of (honest s' d i ∙ (λ j. flat (sym q.first j) (sym q.second j)) ∙ e))
