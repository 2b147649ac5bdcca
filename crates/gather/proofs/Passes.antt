-- The pass over the cubes, cube by cube: one begins a piece or does not. Assumes nothing.
use mathlib.Core.Path.{◌≡◌, refl, sym, ap, subst, ◌∙◌}
use mathlib.Core.Bool.{Bool, true, false, not, ◌&&◌}
use mathlib.Core.List.{List, [], ◌∷◌, ◌++◌, append-nil}
use Prim.Native.Nat.{ℕ, zero, suc, ◌+◌, ◌-◌, ◌*◌, ◌^◌, ◌≤◌, ◌<◌}
use native.Mathlib.Numerals.{add-one}
use native.Mathlib.Nat.{mul-add}
use native.Mathlib.Omega.{arith}
use lib.Dec.{T}
use lib.IntN.{ℤ}
use lib.ListN.{length, get_or, set, length-set, length-append}
use lib.Seq.{sets}
use Rattle.lists.specs.Lists.{cons_if, each, is_in}
use Rattle.lists.proofs.Member.{t_to_eq, eq_to_t, and_left}
use Rattle.lists.proofs.Runs.{each_append}
use Rattle.lists.proofs.Stores.{sets_next, beyond_trans, beyond_set}
use Rattle.paper.specs.declared.Sizes.{Sizes}
use Rattle.paper.specs.declared.Place.{Place}
use Rattle.paper.specs.Lattice.{Lattice, lattice, place, in_lattice, visitable, cubes, cube_no, crossed, visited}
use Rattle.paper.specs.Within.{Sized, CubeIn}
use Rattle.paper.proofs.Numbers.{cube_lt, cube_place}
use Rattle.paper.proofs.Visits.{lattice_in, crossed_visitable}
use Rattle.bits.specs.Words.{bit, less}
use Rattle.bits.proofs.Bits.{bit_and_law, bit_not, bit_of_0}
use Rattle.rows.specs.Rows.{row_no, is_one_of, HasBoth, HasCubes}
use Rattle.rows.proofs.Making.{row_lt}
use Rattle.ways.specs.Ways.{words, plan_of}
use Rattle.spread.specs.Flooded.{Empty, cell, room, Flooded}
use Rattle.spread.proofs.Visiting.{has_more}
use Rattle.spread.proofs.Joining.{joined}
use Rattle.tray.specs.Pieces.{begins, scanned}
use Rattle.gather.specs.Gathering.{Held, held, Fit, Gathered, Leads, HasCrossed, row_start}
use Rattle.tray.proofs.Scanning.{scan_more}

-- ── from cube to cube ──

module _ (z : Sizes) (rows may : List ℕ) where
  pub leads_none : (k : ℕ) (h : Held) → Fit z rows may k h → Leads z rows may k k h h
  leads_none k h f = record { fit = f; passed = λ first p. p }

  pub leads_join : (i j k : ℕ) (a b c : Held) → Leads z rows may i j a b → Leads z rows may j k b c → Leads z rows may i k a c
  leads_join i j k a b c l m = record { fit = m.fit; passed = λ first p. m.passed first (l.passed first p) }

  -- the same cubes by other numbers
  pub leads_at : {i j k l : ℕ} {a b : Held} → i ≡ k → j ≡ l → Leads z rows may i j a b → Leads z rows may k l a b
  leads_at {i} {j} {k} {l} {a} {b} e f h =
      subst (λ (n : ℕ). Leads z rows may n l a b) e (subst (λ (n : ℕ). Leads z rows may i n a b) f h)

  pub fit_at : {k l : ℕ} {h : Held} → k ≡ l → Fit z rows may k h → Fit z rows may l h
  fit_at {h = h} e f = subst (λ (n : ℕ). Fit z rows may n h) e f

  -- on from there
  pub leads_more : {i j k l m : ℕ} {a b c : Held} → Leads z rows may i j a b → j ≡ k → Leads z rows may k l b c → l ≡ m
      → Leads z rows may i m a c
  leads_more {i} {j} {k} {l} {m} {a} {b} {c} h e g f = leads_join i k m a b c (leads_at refl e h) (leads_at refl f g)

-- a pass along cubes: what it holds, nothing due, and no slice of another length
pub record Walk (z : Sizes) (rows may : List ℕ) (j k : ℕ) (before after : Held) (due₀ due : List ℕ) : Type 0 where
  pub leads : Leads z rows may j k before after
  pub empty : Empty (words z) due
  pub same_vis : length after.vis ≡ length before.vis
  pub same_due : length due ≡ length due₀
  pub same_waiting : length after.waiting ≡ length before.waiting
  pub same_list : length after.list ≡ length before.list

pub walk_none : (z : Sizes) (rows may : List ℕ) (k : ℕ) (h : Held) (due : List ℕ) → Fit z rows may k h → Empty (words z) due
    → Walk z rows may k k h h due due
walk_none z rows may k h due f e = record {
  leads = leads_none z rows may k h f;
  empty = e;
  same_vis = refl;
  same_due = refl;
  same_waiting = refl;
  same_list = refl;
}

pub walk_more : (z : Sizes) (rows may : List ℕ) {i j k l : ℕ} {a b c : Held} {due₀ due₁ due : List ℕ} → Walk z rows may i j a b due₀ due₁
    → j ≡ k → Walk z rows may k l b c due₁ due → Walk z rows may i l a c due₀ due
walk_more z rows may {i} {j} {k} {l} {a} {b} {c} w e m = record {
  leads = leads_more z rows may w.leads e m.leads refl;
  empty = m.empty;
  same_vis = m.same_vis ∙ w.same_vis;
  same_due = m.same_due ∙ w.same_due;
  same_waiting = m.same_waiting ∙ w.same_waiting;
  same_list = m.same_list ∙ w.same_list;
}

pub walk_to : (z : Sizes) (rows may : List ℕ) {i j k l : ℕ} {a b : Held} {due₀ due : List ℕ} → i ≡ k → j ≡ l
    → Walk z rows may i j a b due₀ due → Walk z rows may k l a b due₀ due
walk_to z rows may {i} {j} {k} {l} {a} {b} {due₀} {due} e f w =
    subst (λ (n : ℕ). Walk z rows may n l a b due₀ due) e (subst (λ (n : ℕ). Walk z rows may i n a b due₀ due) f w)

-- ── one cube ──

-- a crossed cube may be visited
free_of : (L : Lattice) (p : Place) → CubeIn L.size p → T (crossed L (cube_no L.size p)) → T (visitable L p)
free_of L p i c =
    let z = L.size in
    subst (λ (b : Place). T (visitable L b)) (cube_place z p (omega (arith, i.x)) (omega (arith, i.y)))
    (crossed_visitable L (cube_no z p) c)

module _ (z : Sizes) (sized : Sized z) (rows may : List ℕ) (p : Place) (i : CubeIn z p) (m : ℕ) (C : HasCrossed z rows may p.y p.z m)
    (h : Held) (f : Fit z rows may (cube_no z p) h) where
  abbrev k : ℕ
  k = cube_no z p

  abbrev left : ℕ
  left = less m (get_or h.vis (row_no z p) 0)

  row_in : row_no z p < z.ny * z.nz
  row_in = row_lt z p.y p.z (omega (arith, i.y)) (omega (arith, i.z))

  -- what is left of the row says whether it begins a piece
  module _ (s : List ℤ) (H : HasBoth (lattice z s) rows may) (old : List ℕ) (g : Gathered (lattice z s) k old h) where
    abbrev L : Lattice
    L = lattice z s

    left_is : bit left p.x ≡ begins L (scanned L k) k
    unfolding begins is_one_of
    left_is =
        let v = get_or h.vis (row_no z p) 0 in
        let pieces = each (visited L) (scanned L k) in
        let marked : bit v p.x ≡ is_in pieces k =
        g.cubes.at p.y p.z p.x (omega (arith, i.y)) (omega (arith, i.z))
        ∙ ap (λ (b : Bool). b && is_in pieces k) (t_to_eq (in_lattice z p) (lattice_in z p i)) in
        bit_and_law m (2 ^ 64 - 1 - v) p.x
        ∙ (λ j. C s H p.x i.x j
        && (bit_not v 64 p.x (f.closed.words (row_no z p) row_in) (omega (arith, i.x, sized.x_high)) ∙ ap not marked) j)

    skip_scan : bit left p.x ≡ false → scanned L (k + 1) ≡ scanned L k
    skip_scan e =
        ap (scanned L) (add-one k)
        ∙ (scan_more L k ∙ (ap (λ (b : Bool). scanned L k ++ cons_if b k []) (sym left_is ∙ e) ∙ append-nil (scanned L k)))

    take_scan : bit left p.x ≡ true → scanned L (k + 1) ≡ scanned L k ++ (k ∷ [])
    take_scan e =
        ap (scanned L) (add-one k)
        ∙ (scan_more L k ∙ ap (λ (b : Bool). scanned L k ++ cons_if b k []) (sym left_is ∙ e))

    is_crossed : bit left p.x ≡ true → T (crossed L k)
    unfolding begins
    is_crossed e = and_left (crossed L k) (not (is_in (each (visited L) (scanned L k)) k)) (eq_to_t (sym left_is ∙ e))

  -- it begins none
  pub leads_skip : bit left p.x ≡ false → Leads z rows may k (k + 1) h h
  leads_skip e = record {
    fit = record { closed = f.closed; few = omega (arith, f.few); wide = f.wide; long = f.long };
    passed = λ first q. record {
      gathered = λ s H.
          let g = q.gathered s H in
          let n = sym (skip_scan s H first.list g e) in
          record {
            cubes = subst (λ (l : List ℕ). HasCubes z (each (visited (lattice z s)) l) h.vis) n g.cubes;
            listed = g.listed ∙ ap (sets first.list 0) n;
            number = g.number ∙ ap length n;
          };
      idle = q.idle;
      on_waiting = q.on_waiting;
      on_list = q.on_list;
    };
  }

  -- it begins one, which is marked, and is listed
  module _ (e : bit left p.x ≡ true) (vis waiting : List ℕ) (n : ℕ)
      (F : Flooded (plan_of z rows may) (cell (row_no z p) p.x) (room h.vis h.waiting) (room vis waiting) n) where
    abbrev after : Held
    after = held vis waiting (set h.list h.count k) (h.count + 1)

    below : h.count < cubes z
    below = omega (arith, f.few, cube_lt z p i)

    more_cubes : (s : List ℤ) → HasBoth (lattice z s) rows may → (old : List ℕ) → Gathered (lattice z s) k old h
        → HasCubes z (each (visited (lattice z s)) (scanned (lattice z s) (k + 1))) vis
    more_cubes s H old g =
        let M = lattice z s in
        let l = scanned M k in
        let q : each (visited M) l ++ visited M k ≡ each (visited M) (scanned M (k + 1)) =
        sym (ap (each (visited M)) (take_scan s H old g e)
        ∙ (each_append (visited M) l (k ∷ []) ∙ ap (λ (r : List ℕ). each (visited M) l ++ r) (append-nil (visited M k)))) in
        subst (λ (r : List ℕ). HasCubes z r vis) q
        (has_more M sized (plan_of z rows may) (joined M sized rows may H) p (free_of M p i (is_crossed s H old g e)) _ _ n F
        (each (visited M) l) g.cubes)

    taken : Leads z rows may k (k + 1) h after
    taken = record {
      fit = record {
        closed = F.closed;
        few = omega (arith, f.few);
        wide = omega (arith, f.wide, F.on_waiting.same_length);
        long = omega (arith, f.long, length-set h.list h.count k);
      };
      passed = λ first q. record {
        gathered = λ s H.
            let g = q.gathered s H in
            let l = scanned (lattice z s) k in
            let t = take_scan s H first.list g e in
            let at : 0 + length l ≡ h.count = omega (arith, g.number) in
            record {
              cubes = more_cubes s H first.list g;
              listed = sets_next first.list 0 h.count l (k ∷ []) at g.listed refl ∙ ap (sets first.list 0) (sym t);
              number = omega (arith, g.number, ap length t, length-append l (k ∷ []));
            };
        idle = λ z. absurd (omega arith);
        on_waiting = beyond_trans q.on_waiting F.on_waiting;
        on_list = beyond_trans q.on_list (beyond_set (cubes z) h.list h.count k below);
      };
    }

    pub leads_take : (v : ℕ) → v ≡ k → Leads z rows may k (k + 1) h (held vis waiting (set h.list h.count v) (h.count + 1))
    leads_take v e =
        subst (λ (n : ℕ). Leads z rows may k (k + 1) h (held vis waiting (set h.list h.count n) (h.count + 1))) (sym e) taken

-- ── rows and layers ──

pub cube_in_row : (z : Sizes) (x y w : ℕ) → cube_no z (place x y w) ≡ row_start z y w + x
unfolding cube_no
cube_in_row z x y w = omega arith

pub next_cube : (z : Sizes) (x y w : ℕ) → cube_no z (place x y w) + 1 ≡ row_start z y w + (x + 1)
next_cube z x y w = omega (arith, cube_in_row z x y w)

pub next_row : (z : Sizes) (y w : ℕ) → row_start z y w + (z.nx - 1) ≡ row_start z (y + 1) w
next_row z y w =
    let e : y + 1 + (z.ny - 1) * w ≡ y + (z.ny - 1) * w + 1 = omega arith in
    sym (ap (λ (n : ℕ). (z.nx - 1) * n) e ∙ omega (arith, mul-add (z.nx - 1) (y + (z.ny - 1) * w) 1))

pub next_layer : (z : Sizes) (w : ℕ) → row_start z (z.ny - 1) w ≡ row_start z 0 (w + 1)
next_layer z w =
    let e : z.ny - 1 + (z.ny - 1) * w ≡ 0 + (z.ny - 1) * (w + 1) = omega (arith, mul-add (z.ny - 1) w 1) in
    ap (λ (n : ℕ). (z.nx - 1) * n) e

pub first_cube : (z : Sizes) → 0 ≡ row_start z 0 0
first_cube z = omega arith

pub all_cubes : (z : Sizes) → row_start z 0 (z.nz - 1) ≡ cubes z
unfolding cubes
all_cubes z = let e : 0 + (z.ny - 1) * (z.nz - 1) ≡ (z.ny - 1) * (z.nz - 1) = omega arith in ap (λ (n : ℕ). (z.nx - 1) * n) e

-- a row of which nothing is left begins no piece
module _ (z : Sizes) (sized : Sized z) (rows may : List ℕ) (y w m : ℕ) (hy : y + 1 < z.ny) (hw : w + 1 < z.nz)
    (C : HasCrossed z rows may y w m) (h : Held) (none : less m (get_or h.vis (y + z.ny * w) 0) ≡ 0)
    (f : Fit z rows may (row_start z y w) h) where
  leads_some : (n : ℕ) → n ≤ z.nx - 1 → Leads z rows may (row_start z y w) (row_start z y w + n) h h
  leads_some zero l =
      let e : row_start z y w ≡ row_start z y w + 0 = omega arith in
      leads_at z rows may refl e (leads_none z rows may (row_start z y w) h f)
  leads_some (suc n) l =
      let so_far = leads_some n (omega arith) in
      let p = place n y w in
      let i : CubeIn z p = record { x = omega arith; y = hy; z = hw } in
      let g = fit_at z rows may (sym (cube_in_row z n y w)) so_far.fit in
      let e : row_start z y w + (n + 1) ≡ row_start z y w + suc n = omega arith in
      leads_join z rows may _ _ _ h h h so_far
      (leads_at z rows may (cube_in_row z n y w) (next_cube z n y w ∙ e)
      (leads_skip z sized rows may p i m C h g (ap (λ (v : ℕ). bit v n) none ∙ bit_of_0 n)))

  pub leads_row : Leads z rows may (row_start z y w) (row_start z y w + (z.nx - 1)) h h
  leads_row = leads_some (z.nx - 1) (omega arith)
