-- Finding a triangle in the sheet: its edges give the one cube that can hold it, read from any corner. Assumes nothing.
use mathlib.Core.Path.{◌≡◌, refl, sym, ap, subst, ◌∙◌}
use mathlib.Core.Logic.{inl, inr}
use mathlib.Core.Bool.{Bool, false, ◌&&◌, ◌||◌}
use Prim.Native.Nat.{ℕ, min}
use native.Mathlib.Omega.{arith}
use lib.Dec.{T, eqb, eqb→eq}
use borrow.Author.Tests.{eq-eqb, ne_eqb}
use Rattle.lists.specs.Lists.{any, is_in}
use Rattle.lists.proofs.Member.{or_cases, and_both, and_left, and_right, and3, any_each, any_in, in_any}
use Rattle.lists.proofs.Every.{any_with}
use Rattle.lists.proofs.Closure.{bool_same}
use Rattle.paper.specs.declared.Sizes.{Sizes}
use Rattle.paper.specs.declared.Rule.{Rule}
use Rattle.paper.specs.Lattice.{Lattice, place, cube_no, cube_at, visited}
use Rattle.paper.specs.Tables.{Tri, tri}
use Rattle.paper.specs.Sheet.{anchor_of, cube_triangles, sheet_by, sheet_of}
use Rattle.paper.specs.Check.{same_triangle, turned}
use Rattle.paper.specs.Within.{Sized, cube_of}
use Rattle.paper.proofs.Numbers.{cube_back}
use Rattle.paper.proofs.Visits.{visited_lt}
use Rattle.paper.proofs.Edges.{cube_triangles_cube}

-- ── turned triangles ──

-- a mirrored triangle is not a turned one
pub mirrored : (a b c : ℕ) → (a ≡ b → ⊥) → (b ≡ c → ⊥) → (c ≡ a → ⊥) → turned (tri a b c) (tri a c b) ≡ false
unfolding turned same_triangle
mirrored a b c ab bc ca = rw (eq-eqb a a refl, ne_eqb b c bc, ne_eqb b a (λ e. ab (sym e)), ne_eqb c a ca)

-- a turned triangle gives the same cube

turn_min : (a b c : ℕ) → min (min b c) a ≡ min (min a b) c
turn_min a b c = omega arith

turn_cube : (z : Sizes) (a b c : ℕ) → cube_of z (tri b c a) ≡ cube_of z (tri a b c)
unfolding cube_of
turn_cube z a b c =
    let p = anchor_of z a in
    let q = anchor_of z b in
    let r = anchor_of z c in
    λ i. place (turn_min p.x q.x r.x i) (turn_min p.y q.y r.y i) (turn_min p.z q.z r.z i)

same_cube : (z : Sizes) (t u : Tri) → T (same_triangle t u) → cube_of z u ≡ cube_of z t
unfolding same_triangle
same_cube z t u h =
    let e = and3 (eqb t.a u.a) (eqb t.b u.b) (eqb t.c u.c) h in
    let a = sym (eqb→eq t.a u.a e.0) in
    let b = sym (eqb→eq t.b u.b e.1) in
    let c = sym (eqb→eq t.c u.c e.2) in
    λ i. cube_of z (tri (a i) (b i) (c i))

pub turned_cube : (z : Sizes) (t u : Tri) → T (turned t u) → cube_of z u ≡ cube_of z t
unfolding turned
turned_cube z t u h =
    let s = same_triangle t u in
    let s₁ = same_triangle (tri t.b t.c t.a) u in
    let s₂ = same_triangle (tri t.c t.a t.b) u in
    elim (or_cases (s || s₁) s₂ h) [
      | inl g ↦ elim (or_cases s s₁ g) [
        | inl e ↦ same_cube z t u e
        | inr e ↦ same_cube z (tri t.b t.c t.a) u e ∙ turn_cube z t.a t.b t.c
      ]
      | inr e ↦ same_cube z (tri t.c t.a t.b) u e ∙ sym (turn_cube z t.c t.a t.b)
    ]

-- ── the cube that can hold a triangle ──

-- a triangle, read from any corner, is in the sheet exactly when the cube that its edges give is visited and has it
pub in_sheet : (rule : Rule) (L : Lattice) → Sized L.size → (start : ℕ) (t : Tri)
    → any (turned t) (sheet_of rule L start).by_edge
    ≡ (is_in (visited L start) (cube_no L.size (cube_of L.size t))
    && any (turned t) (cube_triangles L (cube_no L.size (cube_of L.size t))))
unfolding sheet_of sheet_by
in_sheet rule L s start t =
    let z = L.size in
    let vs = visited L start in
    let k = cube_no z (cube_of z t) in
    let has : ℕ → Bool = λ j. any (turned t) (cube_triangles L j) in
    any_each (turned t) (cube_triangles L) vs
    ∙ bool_same (any has vs) (is_in vs k && has k)
    (λ h.
    let w = any_in has vs h in
    let j = w.0 in
    let hj = visited_lt L start j w.1.0 in
    let v = any_with (λ u. cube_of z u ≡ cube_at z j) (turned t) (cube_triangles L j) (cube_triangles_cube L s j hj) w.1.1 in
    let e : j ≡ k = sym (cube_back z s j hj) ∙ ap (cube_no z) (sym v.1 ∙ turned_cube z t v.0 v.2) in
    and_both (is_in vs k) (has k) (subst (λ (n : ℕ). T (is_in vs n)) e w.1.0) (subst (λ (n : ℕ). T (has n)) e w.1.1))
    (λ h. in_any has vs k (and_left (is_in vs k) (has k) h) (and_right (is_in vs k) (has k) h))
