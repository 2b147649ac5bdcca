-- Triangles read from any corner: two lists of triangles, each of which has the other's up to turning and no two turned alike, have the
-- same directed edges. Assumes nothing.
use mathlib.Core.Path.{◌≡◌, refl, sym, ap, ◌∙◌, subst}
use mathlib.Core.Bool.{Bool, true, false, ◌||◌}
use mathlib.Core.List.{List, [], map, Memᴰ as In}
use mathlib.Core.Logic.{inl, inr}
use Prim.Native.Nat.{ℕ, zero, suc, ◌≤◌, ◌<◌}
use native.Mathlib.Omega.{arith}
use lib.Dec.{T}
use lib.ListN.{length}
use Rattle.lists.specs.Lists.{cons_if, count}
use Rattle.lists.proofs.Member.{or_cases, or_left, or_right}
use Rattle.paper.specs.Tables.{Tri, tri}
use Rattle.paper.specs.Check.{same_triangle, turned}
use Rattle.pairing.specs.Pairing.{Arrow, arrow, around, is_arrow, times}
use Rattle.lists.proofs.Within.{same3, of_same3}
use Rattle.lists.proofs.Counts.{sum, sum_none, sum_some, part_le, one_member, sum_map, count_each, Unique, sum_one, by_order}

abbrev rot : Tri → Tri
rot t = tri t.b t.c t.a

pub data Turned (t u : Tri) : Type 0 where
  same : t ≡ u → Turned t u
  once : rot t ≡ u → Turned t u
  twice : rot (rot t) ≡ u → Turned t u

same_triangle_law : (t u : Tri) → T (same_triangle t u) → t ≡ u
unfolding same_triangle
same_triangle_law t u h =
    let e = same3 t.a t.b t.c u.a u.b u.c h in
    λ i. tri (e.0 i) (e.1 i) (e.2 i)

triangle_same : {t u : Tri} → t ≡ u → T (same_triangle t u)
unfolding same_triangle
triangle_same {t} {u} e =
    of_same3 (ap (λ (s : Tri). s.a) e) (ap (λ (s : Tri). s.b) e) (ap (λ (s : Tri). s.c) e)

pub is_turned : (t u : Tri) → T (turned t u) → Turned t u
unfolding turned
is_turned t u h =
    elim (or_cases (same_triangle t u || same_triangle (rot t) u) (same_triangle (rot (rot t)) u) h) [
      | inl x ↦ elim (or_cases (same_triangle t u) (same_triangle (rot t) u) x) [
        | inl y ↦ same (same_triangle_law t u y)
        | inr y ↦ once (same_triangle_law (rot t) u y)
      ]
      | inr x ↦ twice (same_triangle_law (rot (rot t)) u x)
    ]

pub turned_is : {t u : Tri} → Turned t u → T (turned t u)
unfolding turned
turned_is {t} {u} (same e) =
    or_left (same_triangle t u || same_triangle (rot t) u) (same_triangle (rot (rot t)) u)
    (or_left (same_triangle t u) (same_triangle (rot t) u) (triangle_same e))
turned_is {t} {u} (once e) =
    or_left (same_triangle t u || same_triangle (rot t) u) (same_triangle (rot (rot t)) u)
    (or_right (same_triangle t u) (same_triangle (rot t) u) (triangle_same e))
turned_is {t} {u} (twice e) = or_right (same_triangle t u || same_triangle (rot t) u) (same_triangle (rot (rot t)) u) (triangle_same e)

pub back : {t u : Tri} → Turned t u → Turned u t
back (same e) = same (sym e)
back (once e) = twice (ap (λ (s : Tri). rot (rot s)) (sym e))
back (twice e) = once (ap rot (sym e))

pub along : {t u v : Tri} → Turned t u → Turned u v → Turned t v
along (same e) (same f) = same (e ∙ f)
along (same e) (once f) = once (ap rot e ∙ f)
along (same e) (twice f) = twice (ap (λ (s : Tri). rot (rot s)) e ∙ f)
along (once e) (same f) = once (e ∙ f)
along (once e) (once f) = twice (ap rot e ∙ f)
along (once e) (twice f) = same (ap (λ (s : Tri). rot (rot s)) e ∙ f)
along (twice e) (same f) = twice (e ∙ f)
along (twice e) (once f) = same (ap rot e ∙ f)
along (twice e) (twice f) = once (ap (λ (s : Tri). rot (rot s)) e ∙ f)

-- how often a triangle has a directed edge
abbrev pub hit : ℕ → ℕ → Tri → ℕ
hit m n t = count (is_arrow m n) (around t)

hit_rot : (m n : ℕ) (t : Tri) → hit m n t ≡ hit m n (rot t)
unfolding around
hit_rot m n t = go _ _ _ (is_arrow m n (arrow t.a t.b)) (is_arrow m n (arrow t.b t.c)) (is_arrow m n (arrow t.c t.a))
  where
    go : (x y w : Arrow) (a b c : Bool)
        → length (cons_if a x (cons_if b y (cons_if c w []))) ≡ length (cons_if b y (cons_if c w (cons_if a x [])))
    go x y w true true true = refl
    go x y w true true false = refl
    go x y w true false true = refl
    go x y w true false false = refl
    go x y w false true true = refl
    go x y w false true false = refl
    go x y w false false true = refl
    go x y w false false false = refl

pub hit_turned : (m n : ℕ) {t u : Tri} → Turned t u → hit m n t ≡ hit m n u
hit_turned m n (same e) = ap (hit m n) e
hit_turned m n {t} (once e) = hit_rot m n t ∙ ap (hit m n) e
hit_turned m n {t} (twice e) = hit_rot m n t ∙ hit_rot m n (rot t) ∙ ap (hit m n) e

module _ (tri_at : ℕ → Tri) (l : List ℕ) (distinct : Unique l) (us : List Tri) (few : (m n : ℕ) → times us m n ≤ 1)
    (sound : (i : ℕ) → In i l → (u : Tri) × In u us × Turned (tri_at i) u)
    (full : (u : Tri) → In u us → (i : ℕ) × In i l × Turned u (tri_at i))
    (apart : (i j : ℕ) → In i l → In j l → j < i → Turned (tri_at i) (tri_at j) → ⊥) where
  sums : (ts : List Tri) (m n : ℕ) → times ts m n ≡ sum (hit m n) ts
  unfolding times
  sums ts m n = count_each (is_arrow m n) around ts

  pub same_times : (m n : ℕ) → times (map tri_at l) m n ≡ times us m n
  same_times m n = sums (map tri_at l) m n ∙ sum_map (hit m n) tri_at l ∙ go (sum (hit m n) us) refl ∙ sym (sums us m n)
    where
      go : (k : ℕ) → sum (hit m n) us ≡ k → sum (λ i. hit m n (tri_at i)) l ≡ sum (hit m n) us
      go zero e =
          sum_none (λ i. hit m n (tri_at i)) l
          (λ i j p.
          let u = sound i j in
          p (hit_turned m n u.2 ∙ (let q : hit m n u.0 ≤ sum (hit m n) us = part_le (hit m n) u.1 in omega arith)))
          ∙ sym e
      go (suc k) e =
          let few' : sum (hit m n) us ≤ 1 = omega (arith, few m n, sums us m n) in
          let w = sum_some (hit m n) us (λ y. omega arith) in
          let v = full w.0 w.1 in
          let some : hit m n w.0 ≡ 0 → ⊥ = w.2 in
          sum_one (λ i. hit m n (tri_at i)) distinct v.0 v.1 (λ i j p. only w.0 w.1 some v.0 v.1 v.2 few' i j p)
          ∙ sym (hit_turned m n v.2)
          ∙ (let q : hit m n w.0 ≤ sum (hit m n) us = part_le (hit m n) w.1 in omega arith)
        where
          only : (u : Tri) → In u us → (hit m n u ≡ 0 → ⊥) → (c : ℕ) → In c l
              → Turned u (tri_at c) → sum (hit m n) us ≤ 1 → (i : ℕ) → In i l → (hit m n (tri_at i) ≡ 0 → ⊥) → i ≡ c
          only u a b c d t h i j p =
              let s = sound i j in
              let q : s.0 ≡ u = one_member (hit m n) h s.1 a (λ y. p (hit_turned m n s.2 ∙ y)) b in
              let r : Turned (tri_at i) (tri_at c) = along (subst (Turned (tri_at i)) q s.2) t in
              by_order (λ i c. In i l × In c l × Turned (tri_at i) (tri_at c))
              (λ i c g q. apart i c q.0 q.1 g q.2) (λ i c q. (q.1, q.0, back q.2)) i c
              (j, d, r)
