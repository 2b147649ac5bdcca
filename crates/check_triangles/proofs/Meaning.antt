-- A triangle that fails here is one that fails test 18. Assumes nothing.
use mathlib.Core.Path.{◌≡◌, refl, sym, ap, subst, ◌∙◌}
use mathlib.Core.Bool.{Bool, true, false, cond, not, ◌&&◌, ◌||◌}
use mathlib.Core.List.{List}
use Prim.Native.Nat.{ℕ, zero, suc, ◌+◌, ◌*◌, ◌/◌, ◌%◌, ◌^◌, ◌≤◌, ◌<◌}
use native.Mathlib.Nat.{zero-div}
use native.Mathlib.Omega.{arith}
use native.Mathlib.Decide.{ℕ_discrete}
use lib.IntN.{ℤ}
use lib.Dec.{T, eqb, ltb, eqb→eq, lt→ltb, ltb→lt}
use lib.ListN.{length, get_or, set, drop}
use lib.Seq.{get_or-set_same, get_or-set_other, drop-set-lt}
use borrow.Author.Tests.{eq-eqb, ne_eqb, ltb-true, ltb-false, not-false}
use Rattle.lists.specs.Lists.{range, any, is_in, first}
use Rattle.lists.proofs.Member.{t_to_eq, eq_to_t, and_both, and_left, and_right, any_each, any_in, in_any, in_range, range_in}
use Rattle.lists.proofs.Every.{any_at, at_any}
use Rattle.lists.proofs.Closure.{bool_same}
use Rattle.lists.proofs.Within.{any_agree, below}
use Rattle.lists.proofs.Runs.{any_snoc, any_first}
use Rattle.lists.proofs.Firsts.{first_agree, first_before, first_holds}
use Rattle.paper.specs.declared.Sizes.{Sizes}
use Rattle.paper.specs.declared.Rule.{Rule}
use Rattle.paper.specs.Lattice.{Lattice, cubes, cube_no, visited}
use Rattle.paper.specs.Tables.{Tri, tri}
use Rattle.paper.specs.Sheet.{Sheet, sheet_of, cube_triangles}
use Rattle.paper.specs.Within.{Sized}
use Rattle.paper.specs.Check.{turned, triangle_of, bad_naming}
use Rattle.paper.proofs.Visits.{visited_lt}
use Rattle.paper.proofs.Finding.{turned_cube, in_sheet}
use Rattle.pairing.proofs.Turned.{is_turned, turned_is, back, along}
use Rattle.sides.specs.Pattern.{bit_of}
use Rattle.tetra.specs.Cut.{row_by, row_count, row_triangles, triangles_by}
use Rattle.tetra.proofs.Tables.{count_le, row_length}
use Rattle.check_triangles.specs.Words.{base_of, word_of}
use Rattle.check_triangles.specs.Triples.{holder, is_at, place_by, place_in, place_of, fresh, noted, seen_after, bad_in, first_bad_in}
use Rattle.check_triangles.proofs.Words.{Worded, worded}
use Rattle.check_triangles.proofs.Laws.{Fresh, is_fresh, bit_set, after_length, place_cube, place_out, place_idle, place_word}

-- ── turned triangles ──

turned_both : (t u v : Tri) → T (turned t v) → T (turned u v) → T (turned t u)
turned_both t u v a b = turned_is (along (is_turned t v a) (back (is_turned u v b)))

turned_alike : (t u : Tri) → T (turned t u) → (g : Tri) → turned t g ≡ turned u g
turned_alike t u h g =
    bool_same (turned t g) (turned u g) (λ a. turned_is (along (back (is_turned t u h)) (is_turned t g a)))
    (λ a. turned_is (along (is_turned t u h) (is_turned u g a)))

-- ── the places of a cube hold its triangles ──

-- what stands at a place is one of its row's triangles
pub at_row : (z : Sizes) (base m : ℕ) (t : Tri) (c : ℕ) → is_at z base m t c ≡ true
    → let l = row_triangles z base (c / 2) (row_by m (c / 2)) in (c % 2 < length l) × T (turned t (get_or l (c % 2) (tri 0 0 0)))
unfolding is_at
at_row z base m t c e =
    let r = row_by m (c / 2) in
    let a = ltb (c % 2) (row_count r) in
    let b = turned t (get_or (row_triangles z base (c / 2) r) (c % 2) (tri 0 0 0)) in
    let w : T (a && b) = eq_to_t e in
    (omega (arith, ltb→lt (c % 2) (row_count r) (and_left a b w), row_length z base (c / 2) r), and_right a b w)

module _ (z : Sizes) (base m : ℕ) (t : Tri) where
  part : ℕ → List Tri
  part k = row_triangles z base k (row_by m k)

  places_sound : T (any (is_at z base m t) (range 0 12)) → T (any (λ k. any (turned t) (part k)) (range 0 6))
  unfolding part
  places_sound h =
      let w = any_in (is_at z base m t) (range 0 12) h in
      let c = w.0 in
      let b : c < 12 = omega (arith, range_in 0 12 c w.1.0) in
      let v = at_row z base m t c (t_to_eq (is_at z base m t c) w.1.1) in
      in_any (λ k. any (turned t) (part k)) (range 0 6) (c / 2) (in_range 0 6 (c / 2) (omega arith) (omega arith))
      (at_any (turned t) (part (c / 2)) (tri 0 0 0) (c % 2) v.0 v.1)

  places_full : T (any (λ k. any (turned t) (part k)) (range 0 6)) → T (any (is_at z base m t) (range 0 12))
  unfolding is_at part
  places_full h =
      let w = any_in (λ k. any (turned t) (part k)) (range 0 6) h in
      let k = w.0 in
      let b : k < 6 = omega (arith, range_in 0 6 k w.1.0) in
      let v = any_at (turned t) (part k) (tri 0 0 0) w.1.1 in
      let j = v.0 in
      let l : j < row_count (row_by m k) = omega (arith, v.1, row_length z base k (row_by m k)) in
      let c = 2 * k + j in
      let s : j < 2 = omega (arith, count_le (row_by m k)) in
      let d : c / 2 ≡ k = omega arith in
      let r : c % 2 ≡ j = omega arith in
      in_any (is_at z base m t) (range 0 12) c (in_range 0 12 c (omega arith) (omega arith))
      (subst (λ (x : ℕ). T (ltb (c % 2) (row_count (row_by m x)) && turned t (get_or (row_triangles z base x (row_by m x)) (c % 2) (tri 0 0 0))))
      (sym d)
      (subst (λ (y : ℕ). T (ltb y (row_count (row_by m k)) && turned t (get_or (part k) y (tri 0 0 0)))) (sym r)
      (and_both (ltb j (row_count (row_by m k))) (turned t (get_or (part k) j (tri 0 0 0))) (lt→ltb _ _ l) v.2)))

  -- t has a place exactly when it is one of the cube's triangles
  pub placed : ltb (place_by z base m t) 12 ≡ any (turned t) (triangles_by z base m)
  unfolding place_by triangles_by part
  placed =
      sym (any_first (is_at z base m t) 12)
      ∙ (bool_same (any (is_at z base m t) (range 0 12)) (any (λ k. any (turned t) (part k)) (range 0 6)) places_sound places_full
      ∙ sym (any_each (turned t) (λ k. row_triangles z base k (row_by m k)) (range 0 6)))

-- ── two triangles of the sheet are turned alike exactly when they have one cube and one place ──

module _ (z : Sizes) (words : List ℕ) (t u : Tri) where
  alike_holder : T (turned t u) → holder z t ≡ holder z u
  alike_holder h = ap (cube_no z) (sym (turned_cube z t u h))

  alike_place : T (turned t u) → place_of z words t ≡ place_of z words u
  unfolding place_of place_in place_by is_at
  alike_place h =
      let base = base_of z in
      (λ j. place_in z words (alike_holder h j) t)
      ∙ (λ j.
      let k = holder z u in
      let word = get_or words k 0 in
      let m = word % 256 in
      cond (ltb k (cubes z) && not (eqb word 0))
      (first
      (λ c.
      let r = row_by m (c / 2) in
      ltb (c % 2) (row_count r) && turned_alike t u h (get_or (row_triangles z (base k) (c / 2) r) (c % 2) (tri 0 0 0)) j)
      12 (range 0 12))
      12)

place_of_law : (z : Sizes) (words : List ℕ) (t : Tri) → place_of z words t < 12 → holder z t < cubes z
unfolding place_of
place_of_law z words t h = place_cube z words (holder z t) t h

-- what stands at a triangle's place
spot : Sizes → List ℕ → ℕ → ℕ → Tri
spot z words k c =
    let r = row_by (get_or words k 0 % 256) (c / 2) in
    get_or (row_triangles z (base_of z k) (c / 2) r) (c % 2) (tri 0 0 0)

at_spot : (z : Sizes) (words : List ℕ) (k : ℕ) (t : Tri) → place_in z words k t < 12 → T (turned t (spot z words k (place_in z words k t)))
unfolding place_in place_by is_at spot
at_spot z words k t h = go (ltb k (cubes z) && not (eqb (get_or words k 0) 0)) h
  where
    go : (b : Bool) → cond b (place_by z (base_of z k) (get_or words k 0 % 256) t) 12 < 12
        → T (turned t (spot z words k (cond b (place_by z (base_of z k) (get_or words k 0 % 256) t) 12)))
    go true h =
        let c = place_by z (base_of z k) (get_or words k 0 % 256) t in
        and_right (ltb (c % 2) (row_count (row_by (get_or words k 0 % 256) (c / 2)))) (turned t (spot z words k c))
        (eq_to_t {b = is_at z (base_of z k) (get_or words k 0 % 256) t c} (first_holds (is_at z (base_of z k) (get_or words k 0 % 256) t) 12 0 12 h))
    go false h = absurd (omega arith)

module _ (z : Sizes) (words : List ℕ) (t u : Tri) (ht : place_of z words t < 12) (hu : place_of z words u < 12) where
  pub same_spot : (eqb (holder z t) (holder z u) && eqb (place_of z words t) (place_of z words u)) ≡ turned t u
  unfolding place_of
  same_spot =
      let a = eqb (holder z t) (holder z u) in
      let b = eqb (place_of z words t) (place_of z words u) in
      bool_same (a && b) (turned t u)
      (λ h.
      let k = eqb→eq (holder z t) (holder z u) (and_left a b h) in
      let c = eqb→eq (place_of z words t) (place_of z words u) (and_right a b h) in
      turned_both t u (spot z words (holder z u) (place_of z words u))
      (subst (λ (j : ℕ). T (turned t (spot z words j (place_of z words u)))) k
      (subst (λ (j : ℕ). T (turned t (spot z words (holder z t) j))) c (at_spot z words (holder z t) t ht)))
      (at_spot z words (holder z u) u hu))
      (λ h. and_both a b (eq_to_t (eq-eqb _ _ (alike_holder z words t u h))) (eq_to_t (eq-eqb _ _ (alike_place z words t u h))))

-- ── the bits tell which places have been seen ──

module _ (z : Sizes) (words : List ℕ) (vs : List ℤ) (ts seen : List ℕ) (long : cubes z ≤ length seen)
    (blank : (k : ℕ) → k < cubes z → get_or seen k 0 ≡ 0) where
  abbrev tri_at : ℕ → Tri
  tri_at = triangle_of vs ts

  abbrev after : ℕ → List ℕ
  after = seen_after z words vs ts seen

  -- triangle j has cube k and place c
  hits : ℕ → ℕ → ℕ → Bool
  hits k c j = eqb k (holder z (tri_at j)) && eqb c (place_of z words (tri_at j))

  good : (i : ℕ) → bad_in z words vs ts seen i ≡ false → Fresh z words (after i) (tri_at i)
  unfolding bad_in
  good i h = is_fresh z words (after i) (tri_at i) (not-false _ h)

  -- one triangle more
  bit_more : (k c i : ℕ) → Fresh z words (after i) (tri_at i)
      → bit_of (get_or (after (suc i)) k 0) c ≡ cond (hits k c i) 1 (bit_of (get_or (after i) k 0) c)
  unfolding seen_after noted hits
  bit_more k c i f = go (ℕ_discrete k (holder z (tri_at i)))
    where
      old : List ℕ
      old = seen_after z words vs ts seen i

      h : ℕ
      h = holder z (tri_at i)

      new : ℕ
      new = get_or old h 0 + 2 ^ place_of z words (tri_at i)

      go : Dec (k ≡ h)
          → bit_of (get_or (set old h new) k 0) c ≡ cond (eqb k h && eqb c (place_of z words (tri_at i))) 1 (bit_of (get_or old k 0) c)
      go (yes e) =
          rw (eq-eqb k h e)
          (ap (λ (j : ℕ). bit_of (get_or (set old h new) j 0) c) e
          ∙ (ap (λ (v : ℕ). bit_of v c) (get_or-set_same old h new 0 (omega (arith, f.cube, long, after_length z words vs ts seen i)))
          ∙ (bit_set (place_of z words (tri_at i)) c (get_or old h 0) f.bit
          ∙ ap (λ (j : ℕ). cond (eqb c (place_of z words (tri_at i))) 1 (bit_of (get_or old j 0) c)) (sym e))))
      go (no e) = rw (ne_eqb k h e) (ap (λ (v : ℕ). bit_of v c) (get_or-set_other old h k new 0 e))

  bits : (k c i : ℕ) → k < cubes z → ((j : ℕ) → j < i → bad_in z words vs ts seen j ≡ false)
      → bit_of (get_or (after i) k 0) c ≡ cond (any (hits k c) (range 0 i)) 1 0
  unfolding seen_after bit_of
  bits k c zero l g = ap (λ (v : ℕ). v / 2 ^ c % 2) (blank k l) ∙ ap (λ (v : ℕ). v % 2) (zero-div (2 ^ c))
  bits k c (suc i) l g =
      unfold bit_of in
      (bit_more k c i (good i (g i (omega arith)))
      ∙ (ap (λ (v : ℕ). cond (hits k c i) 1 v) (bits k c i l (λ j h. g j (omega arith)))
      ∙ (join (hits k c i) (any (hits k c) (range 0 i)) ∙ ap (λ (b : Bool). cond b 1 0) (sym (any_snoc (hits k c) i)))))
    where
      join : (a b : Bool) → ◌≡◌ {A = ℕ} (cond a 1 (cond b 1 0)) (cond (b || a) 1 0)
      join true true = refl
      join true false = refl
      join false true = refl
      join false false = refl

  -- ── test 18 ──

  module _ (S : Sheet) (in_it : (t : Tri) → ltb (place_of z words t) 12 ≡ any (turned t) S.by_edge) where
    repeats : (i : ℕ) → ((j : ℕ) → j < i → bad_in z words vs ts seen j ≡ false) → place_of z words (tri_at i) < 12
        → any (hits (holder z (tri_at i)) (place_of z words (tri_at i))) (range 0 i) ≡ any (λ j. turned (tri_at i) (tri_at j)) (range 0 i)
    unfolding hits
    repeats i g h =
        any_agree (hits (holder z (tri_at i)) (place_of z words (tri_at i))) (λ j. turned (tri_at i) (tri_at j)) (range 0 i)
        (λ j m. same_spot z words (tri_at i) (tri_at j) h (good j (g j (below i j m))).place)

    pub bad_is : (i : ℕ) → ((j : ℕ) → j < i → bad_in z words vs ts seen j ≡ false) → bad_in z words vs ts seen i ≡ bad_naming S vs ts i
    unfolding bad_in bad_naming fresh
    bad_is i g = go (ltb (place_of z words (tri_at i)) 12) refl
      where
        c : ℕ
        c = place_of z words (tri_at i)

        k : ℕ
        k = holder z (tri_at i)

        bit_zero : (b : Bool) → not (eqb (cond b 1 0) 0) ≡ b
        bit_zero true = refl
        bit_zero false = refl

        go : (b : Bool) → ltb c 12 ≡ b
            → not (ltb c 12 && eqb (bit_of (get_or (after i) k 0) c) 0)
            ≡ (not (any (turned (tri_at i)) S.by_edge) || any (λ j. turned (tri_at i) (tri_at j)) (range 0 i))
        go true e =
            let h = ltb-true c 12 e in
            rw (e, ← (in_it (tri_at i)), e)
            (ap (λ (v : ℕ). not (eqb v 0)) (bits k c i (place_of_law z words (tri_at i) h) g)
            ∙ (bit_zero (any (hits k c) (range 0 i)) ∙ repeats i g h))
        go false e = rw (e, ← (in_it (tri_at i)), e)

-- ── the words of the visited cubes give the sheet's triangles ──

module _ (L : Lattice) (s : Sized L.size) (start : ℕ) (words : List ℕ)
    (words_are : (k : ℕ) → k < cubes L.size → get_or words k 0 ≡ cond (is_in (visited L start) k) (word_of L k) 0) where
  abbrev size : Sizes
  size = L.size

  pub cube_worded : (k : ℕ) → T (is_in (visited L start) k) → Worded L (get_or words k 0) k
  cube_worded k v =
      worded L k (get_or words k 0)
      (words_are k (visited_lt L start k v) ∙ ap (λ (b : Bool). cond b (word_of L k) 0) (t_to_eq (is_in (visited L start) k) v))

  cube_places : (k : ℕ) (t : Tri) → T (is_in (visited L start) k) → ltb (place_in size words k t) 12 ≡ any (turned t) (cube_triangles L k)
  cube_places k t v =
      let w = cube_worded k v in
      ap (λ (c : ℕ). ltb c 12) (sym (place_word size words k t (visited_lt L start k v) w.some))
      ∙ (placed size (base_of size k) (get_or words k 0 % 256) t ∙ ap (any (turned t)) w.triangles)

  no_places : (k : ℕ) (t : Tri) → is_in (visited L start) k ≡ false → ltb (place_in size words k t) 12 ≡ false
  no_places k t v = ap (λ (c : ℕ). ltb c 12) (sym (go (ltb k (cubes size)) refl))
    where
      go : (b : Bool) → ltb k (cubes size) ≡ b → 12 ≡ place_in size words k t
      go true e = place_idle size words k t (words_are k (ltb-true k (cubes size) e) ∙ ap (λ (b : Bool). cond b (word_of L k) 0) v)
      go false e = place_out size words k t (ltb-false k (cubes size) e)

  pub in_sheet_is : (rule : Rule) (t : Tri) → ltb (place_of size words t) 12 ≡ any (turned t) (sheet_of rule L start).by_edge
  unfolding place_of
  in_sheet_is rule t = go (is_in (visited L start) (holder size t)) refl ∙ sym (in_sheet rule L s start t)
    where
      go : (b : Bool) → is_in (visited L start) (holder size t) ≡ b
          → ltb (place_in size words (holder size t) t) 12
          ≡ (is_in (visited L start) (holder size t) && any (turned t) (cube_triangles L (holder size t)))
      go true e = cube_places (holder size t) t (eq_to_t e) ∙ sym (ap (λ (b : Bool). b && any (turned t) (cube_triangles L (holder size t))) e)
      go false e = no_places (holder size t) t e ∙ sym (ap (λ (b : Bool). b && any (turned t) (cube_triangles L (holder size t))) e)

  -- so the first bad triangle is the one of test 18
  pub first_bad_is : (rule : Rule) (vs : List ℤ) (ts seen : List ℕ)
      → cubes size ≤ length seen → ((k : ℕ) → k < cubes size → get_or seen k 0 ≡ 0) → (nt : ℕ)
      → first_bad_in size words vs ts seen nt ≡ first (bad_naming (sheet_of rule L start) vs ts) nt (range 0 nt)
  unfolding first_bad_in
  first_bad_is rule vs ts seen long blank nt =
      first_agree (bad_in size words vs ts seen) (bad_naming (sheet_of rule L start) vs ts) nt
      (λ i l g. bad_is size words vs ts seen long blank (sheet_of rule L start) (in_sheet_is rule) i g)

-- ── past the cubes nothing changes ──

pub after_rest : (z : Sizes) (words : List ℕ) (vs : List ℤ) (ts seen : List ℕ) (i : ℕ)
    → ((j : ℕ) → j < i → bad_in z words vs ts seen j ≡ false) → drop (cubes z) (seen_after z words vs ts seen i) ≡ drop (cubes z) seen
unfolding seen_after noted bad_in
after_rest z words vs ts seen zero g = refl
after_rest z words vs ts seen (suc i) g =
    let f = is_fresh z words (seen_after z words vs ts seen i) (triangle_of vs ts i) (not-false _ (g i (omega arith))) in
    drop-set-lt (cubes z) (seen_after z words vs ts seen i) (holder z (triangle_of vs ts i)) _ f.cube
    ∙ after_rest z words vs ts seen i (λ j h. g j (omega arith))

pub first_rest : (z : Sizes) (words : List ℕ) (vs : List ℤ) (ts seen : List ℕ) (nt : ℕ)
    → drop (cubes z) (seen_after z words vs ts seen (first_bad_in z words vs ts seen nt)) ≡ drop (cubes z) seen
unfolding first_bad_in
first_rest z words vs ts seen nt = after_rest z words vs ts seen _ (first_before (bad_in z words vs ts seen) nt)
