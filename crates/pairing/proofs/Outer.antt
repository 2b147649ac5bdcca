-- Where the ends of two known edges stand: in an unshared face, or in an outer face, just where their reverse is missing. Assumes nothing.
use mathlib.Core.Path.{◌≡◌, refl, sym, ap, ◌∙◌, subst}
use mathlib.Core.Bool.{Bool, true, false, not, cond, ◌&&◌, ◌||◌, or-false, and-true}
use mathlib.Core.List.Memᴰ.{map as in_map}
use mathlib.Core.List.{List, [], ◌∷◌, ◌++◌, map, Memᴰ as In, map-append}
use mathlib.Core.Logic.{inl, inr}
use Prim.Native.Nat.{ℕ, ◌+◌, ◌-◌, ◌/◌, ◌%◌, ◌<◌, min}
use native.Mathlib.Omega.{arith}
use lib.Dec.{T, eqb, eqb→eq, eqb_refl}
use borrow.Author.Tests.{eqb-false}
use Rattle.lists.specs.Lists.{any, all}
use Rattle.lists.proofs.Member.{t_to_eq, and_both, and_left, and_right}
use Rattle.lists.proofs.Closure.{bool_same}
use Rattle.paper.specs.declared.Sizes.{Sizes}
use Rattle.paper.specs.declared.Place.{Place}
use Rattle.paper.specs.Lattice.{place, corner, in_lattice}
use Rattle.paper.specs.Within.{CubeIn}
use Rattle.paper.specs.Sheet.{ends_of, first_end, second_end}
use Rattle.paper.proofs.Visits.{in_lattice_law, lattice_in}
use Rattle.pairing.specs.Visitable.{edge_ends, in_outer_face, outer, meet, shared, in_unshared, unshared}
use Rattle.lists.proofs.Within.{t_to_false, eqb_of, any_member, all_in, in_all_test, all_map}
use Rattle.pairing.proofs.Table.{span, flat, flat_x, flat_y, flat_z}
use Rattle.pairing.proofs.Edges.{number, Edge, kind_of_law, anchor_of_law}
use Rattle.pairing.proofs.Sides.{Known}
use Rattle.pairing.proofs.Whole.{lone, Near, along, off, shared_after, shared_before, is_shared}

abbrev add : Place → Place → Place
add m q = place (m.x + q.x) (m.y + q.y) (m.z + q.z)

-- places moved by m stand at v on an axis just where m does and they did not leave it
level : (g : Place → ℕ) (m : Place) → ((q : Place) → g (add m q) ≡ g m + g q) → (v : ℕ) (ps : List Place) → T (any (λ q. eqb (g q) 0) ps)
    → all (λ p. eqb (g p) v) (map (add m) ps) ≡ (all (λ q. eqb (g q) 0) ps && eqb (g m) v)
level g m h v ps t = bool_same (all (λ p. eqb (g p) v) (map (add m) ps)) (all (λ q. eqb (g q) 0) ps && eqb (g m) v) to from
  where
    at : T (all (λ p. eqb (g p) v) (map (add m) ps)) → (q : Place) → In q ps → g m + g q ≡ v
    at s q i = sym (h q) ∙ eqb→eq (g (add m q)) v (all_in (λ p. eqb (g p) v) s (in_map (add m) i))

    to : T (all (λ p. eqb (g p) v) (map (add m) ps)) → T (all (λ q. eqb (g q) 0) ps && eqb (g m) v)
    to s =
        let o = any_member (λ q. eqb (g q) 0) ps t in
        let e : g o.0 ≡ 0 = eqb→eq (g o.0) 0 o.2 in
        let b : g m + g o.0 ≡ v = at s o.0 o.1 in
        let a : g m ≡ v = omega arith in
        and_both (all (λ q. eqb (g q) 0) ps) (eqb (g m) v)
        (in_all_test (λ q. eqb (g q) 0) ps (λ q i. eqb_of {a = g q} {b = 0} (omega (arith, at s q i)))) (eqb_of a)

    from : T (all (λ q. eqb (g q) 0) ps && eqb (g m) v) → T (all (λ p. eqb (g p) v) (map (add m) ps))
    from s =
        let a : g m ≡ v = eqb→eq (g m) v (and_right (all (λ q. eqb (g q) 0) ps) (eqb (g m) v) s) in
        subst T (sym (all_map (λ p. eqb (g p) v) (add m) ps))
        (in_all_test (λ q. eqb (g (add m q)) v) ps
        (λ q i.
        let e : g q ≡ 0 = eqb→eq (g q) 0 (all_in (λ q. eqb (g q) 0) (and_left (all (λ q. eqb (g q) 0) ps) (eqb (g m) v) s) i) in
        eqb_of {a = g (add m q)} {b = v} (h q ∙ omega arith)))

told : (m : Place) (b c : ℕ) → corner (corner m b) c ≡ add m (corner (corner (place 0 0 0) b) c)
unfolding corner
told m b c =
    let x : m.x + b % 2 + c % 2 ≡ m.x + (0 + b % 2 + c % 2) = omega arith in
    let y : m.y + b / 2 % 2 + c / 2 % 2 ≡ m.y + (0 + b / 2 % 2 + c / 2 % 2) = omega arith in
    let w : m.z + b / 4 + c / 4 ≡ m.z + (0 + b / 4 + c / 4) = omega arith in
    λ i. place (x i) (y i) (w i)

ends_are : (z : Sizes) {m : Place} {u : ℕ} → Edge z m u → edge_ends z (number z m u) ≡ map (add m) (span u)
unfolding edge_ends first_end second_end ends_of span
ends_are z {m} {u} e =
    let k = ends_of (u % 8) in
    (λ i. corner (anchor_of_law z e i) (ends_of (kind_of_law z e i)).a ∷ corner (anchor_of_law z e i) (ends_of (kind_of_law z e i)).b ∷ [])
    ∙ (λ i. told m (u / 8) k.a i ∷ told m (u / 8) k.b i ∷ [])

-- which of three faces it is, by the axis that is not left
by_axis : (may : Place → Bool) (m : Place) (a b c p q r : Bool) → T (not (a && b)) → T (not (a && c)) → T (not (b && c))
    → let f : ℕ = cond a 1 (cond b 2 (cond c 4 0)) in
    (f ≡ 1 → p ≡ not (shared may 1 m)) → (f ≡ 2 → q ≡ not (shared may 2 m))
    → (f ≡ 4 → r ≡ not (shared may 4 m)) → (a && p || b && q || c && r) ≡ lone may f m
by_axis may m true true c p q r s t v f g h = absurd s
by_axis may m true false true p q r s t v f g h = absurd t
by_axis may m true false false p q r s t v f g h = or-false (p || false) ∙ or-false p ∙ f refl
by_axis may m false true true p q r s t v f g h = absurd v
by_axis may m false true false p q r s t v f g h = or-false q ∙ g refl
by_axis may m false false true p q r s t v f g h = h refl
by_axis may m false false false p q r s t v f g h = refl

-- ── the faces of a lattice's cubes that no two of them share: those at the first and at the last sample of an axis ──

-- v is a coordinate below n
rim : (v n : ℕ) (b : Bool) → v < n → (T b → (0 < v) × (v + 1 < n)) → (0 < v → v + 1 < n → T b) → (eqb v 0 || eqb v (n - 1)) ≡ not b
rim v n true h to from =
    let t = to tt in
    (λ i. t_to_false (eqb v 0) (λ y. omega (arith, eqb→eq v 0 y, t)) i
    || t_to_false (eqb v (n - 1)) (λ y. omega (arith, eqb→eq v (n - 1) y, t)) i)
rim v n false h to from = go (eqb v 0) refl (eqb v (n - 1)) refl
  where
    go : (a : Bool) → eqb v 0 ≡ a → (c : Bool) → eqb v (n - 1) ≡ c → (a || c) ≡ true
    go true p c q = refl
    go false p true q = refl
    go false p false q =
        let x : v ≡ 0 → ⊥ = eqb-false v 0 p in
        let y : v ≡ n - 1 → ⊥ = eqb-false v (n - 1) q in
        absurd (from (omega arith) (omega arith))

module _ (z : Sizes) (m : Place) where
  -- the two cubes that share a face
  pair : (a : ℕ) → T (shared (in_lattice z) a m)
      → CubeIn z m × ((d : Place) × ((d.x + a % 2 ≡ m.x) × (d.y + a / 2 % 2 ≡ m.y) × (d.z + a / 4 ≡ m.z)))
  pair a t =
      let b = shared_before (in_lattice z) a m t in
      (in_lattice_law z m (shared_after (in_lattice z) a m t), (b.cube, off a b.cube m b.there))

  share : (a : ℕ) → CubeIn z m → (d : Place) → CubeIn z d → d.x + a % 2 ≡ m.x
      → d.y + a / 2 % 2 ≡ m.y → d.z + a / 4 ≡ m.z → T (shared (in_lattice z) a m)
  share a h d k x y w = is_shared (in_lattice z) a m (lattice_in z m h) d (along a d m.x m.y m.z x y w) (lattice_in z d k)

  near_lt : {a : ℕ} → Near z a m → (m.x + 1 < z.nx + a % 2) × (m.y + 1 < z.ny + a / 2 % 2) × (m.z + 1 < z.nz + a / 4)
  near_lt {a} n =
      let f = off n.o n.cube m n.there in
      let i = n.inside in
      elim n.own [
        | inl e ↦ omega (arith, f, i, e)
        | inr e ↦ subst (λ (k : ℕ). (m.x + 1 < z.nx + k % 2) × (m.y + 1 < z.ny + k / 2 % 2) × (m.z + 1 < z.nz + k / 4)) e
            (omega (arith, f, i))
      ]

  rim_x : Near z 1 m → (eqb m.x 0 || eqb m.x (z.nx - 1)) ≡ not (shared (in_lattice z) 1 m)
  rim_x n =
      let b = near_lt n in
      rim m.x z.nx (shared (in_lattice z) 1 m) (omega (arith, b)) (λ t. omega (arith, pair 1 t))
      (λ h l.
      share 1 (record { x = omega (arith, b); y = omega (arith, b); z = omega (arith, b) }) (place (m.x - 1) m.y m.z)
      (record { x = omega (arith, b); y = omega (arith, b); z = omega (arith, b) }) (omega arith) (omega arith) (omega arith))

  rim_y : Near z 2 m → (eqb m.y 0 || eqb m.y (z.ny - 1)) ≡ not (shared (in_lattice z) 2 m)
  rim_y n =
      let b = near_lt n in
      rim m.y z.ny (shared (in_lattice z) 2 m) (omega (arith, b)) (λ t. omega (arith, pair 2 t))
      (λ h l.
      share 2 (record { x = omega (arith, b); y = omega (arith, b); z = omega (arith, b) }) (place m.x (m.y - 1) m.z)
      (record { x = omega (arith, b); y = omega (arith, b); z = omega (arith, b) }) (omega arith) (omega arith) (omega arith))

  rim_z : Near z 4 m → (eqb m.z 0 || eqb m.z (z.nz - 1)) ≡ not (shared (in_lattice z) 4 m)
  rim_z n =
      let b = near_lt n in
      rim m.z z.nz (shared (in_lattice z) 4 m) (omega (arith, b)) (λ t. omega (arith, pair 4 t))
      (λ h l.
      share 4 (record { x = omega (arith, b); y = omega (arith, b); z = omega (arith, b) }) (place m.x m.y (m.z - 1))
      (record { x = omega (arith, b); y = omega (arith, b); z = omega (arith, b) }) (omega arith) (omega arith) (omega arith))

and_or : (a b c : Bool) → (a && b || a && c) ≡ (a && (b || c))
and_or true b c = refl
and_or false b c = refl

module _ (z : Sizes) (air : Place → Bool) {e f : ℕ} {m : Place} {u w : ℕ} (k : Known z air e f m u w) where
  abbrev both : List Place
  both = span u ++ span w

  ends_of_law : edge_ends z e ++ edge_ends z f ≡ map (add m) both
  ends_of_law =
      (λ i. edge_ends z (k.e_is i) ++ edge_ends z (k.f_is i))
      ∙ (λ i. ends_are z k.first i ++ ends_are z k.second i) ∙ sym (map-append (add m) (span u) (span w))

  meet_is : meet z e f ≡ m
  unfolding meet corner
  meet_is =
      let s = k.shape in
      let x : min (m.x + u / 8 % 2) (m.x + w / 8 % 2) ≡ m.x = omega (arith, s.x) in
      let y : min (m.y + u / 8 / 2 % 2) (m.y + w / 8 / 2 % 2) ≡ m.y = omega (arith, s.y) in
      let v : min (m.z + u / 8 / 4) (m.z + w / 8 / 4) ≡ m.z = omega (arith, s.z) in
      (λ i. meet z (k.e_is i) (k.f_is i))
      ∙ (λ i.
      let p = anchor_of_law z k.first i in
      let q = anchor_of_law z k.second i in
      place (min p.x q.x) (min p.y q.y) (min p.z q.z))
      ∙ (λ i. place (x i) (y i) (v i))

  at_x : (v : ℕ) → all (λ p. eqb p.x v) (map (add m) both) ≡ (flat_x u w && eqb m.x v)
  at_x v = level (λ p. p.x) m (λ q. refl) v both k.shape.some_x

  at_y : (v : ℕ) → all (λ p. eqb p.y v) (map (add m) both) ≡ (flat_y u w && eqb m.y v)
  at_y v = level (λ p. p.y) m (λ q. refl) v both k.shape.some_y

  at_z : (v : ℕ) → all (λ p. eqb p.z v) (map (add m) both) ≡ (flat_z u w && eqb m.z v)
  at_z v = level (λ p. p.z) m (λ q. refl) v both k.shape.some_z

  here_it_is : (b : Bool) (n : ℕ) → (b && eqb n n) ≡ b
  here_it_is b n = ap (λ (c : Bool). b && c) (t_to_eq (eqb n n) (eqb_refl n)) ∙ and-true b

  pub unshared_is : (may : Place → Bool) → unshared z may e f ≡ lone may (flat u w) m
  unfolding unshared in_unshared flat
  unshared_is may =
      (λ i. in_unshared may (meet_is i) (ends_of_law i))
      ∙ (λ i. at_x m.x i && not (shared may 1 m) || at_y m.y i && not (shared may 2 m) || at_z m.z i && not (shared may 4 m))
      ∙ (λ i.
      here_it_is (flat_x u w) m.x i && not (shared may 1 m) || here_it_is (flat_y u w) m.y i && not (shared may 2 m)
      || here_it_is (flat_z u w) m.z i && not (shared may 4 m))
      ∙ by_axis may m (flat_x u w) (flat_y u w) (flat_z u w) (not (shared may 1 m)) (not (shared may 2 m)) (not (shared may 4 m))
      k.shape.not_xy k.shape.not_xz k.shape.not_yz (λ t. refl) (λ t. refl) (λ t. refl)

  pub outer_is : Near z (flat u w) m → outer z e f ≡ lone (in_lattice z) (flat u w) m
  unfolding outer in_outer_face flat
  outer_is n =
      (λ i. in_outer_face z (ends_of_law i))
      ∙ (λ i. (at_x 0 i || at_x (z.nx - 1) i) || (at_y 0 i || at_y (z.ny - 1) i) || (at_z 0 i || at_z (z.nz - 1) i))
      ∙ (λ i.
      and_or (flat_x u w) (eqb m.x 0) (eqb m.x (z.nx - 1)) i || and_or (flat_y u w) (eqb m.y 0) (eqb m.y (z.ny - 1)) i
      || and_or (flat_z u w) (eqb m.z 0) (eqb m.z (z.nz - 1)) i)
      ∙ by_axis (in_lattice z) m (flat_x u w) (flat_y u w) (flat_z u w)
      (eqb m.x 0 || eqb m.x (z.nx - 1)) (eqb m.y 0 || eqb m.y (z.ny - 1)) (eqb m.z 0 || eqb m.z (z.nz - 1))
      k.shape.not_xy k.shape.not_xz k.shape.not_yz
      (λ q. rim_x z m (subst (λ (a : ℕ). Near z a m) q n)) (λ q. rim_y z m (subst (λ (a : ℕ). Near z a m) q n))
      (λ q. rim_z z m (subst (λ (a : ℕ). Near z a m) q n))
