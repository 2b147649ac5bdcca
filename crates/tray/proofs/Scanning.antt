-- What a plain scan lists: the lowest cube of each piece; and each crossed cube lies in exactly one piece that it lists. Assumes nothing.
use mathlib.Core.Path.{◌≡◌, refl, sym, ap, subst, ◌∙◌}
use mathlib.Core.Bool.{Bool, true, false, not, ◌&&◌}
use mathlib.Core.List.{List, [], ◌++◌}
use mathlib.Core.Logic.{◌⊎◌, inl, inr, ⊎_elim}
use Prim.Native.Nat.{ℕ, zero, suc, ◌≤◌, ◌<◌}
use native.Mathlib.Decide.{ℕ_discrete, dec_lt}
use native.Mathlib.Omega.{arith}
use lib.Dec.{T, eqb, leb, leb→le, le→leb, T_not, not_T}
use Rattle.lists.specs.Lists.{range, cons_if, keep, count, any, all, each, is_in}
use Rattle.lists.proofs.Member.{or_cases, or_left, or_right, and_both, and_left, and_right}
use Rattle.lists.proofs.Member.{any_append, any_each, any_in, in_any, in_cons_if, cons_if_in, in_keep, range_in}
use Rattle.lists.proofs.Closure.{bool_same}
use Rattle.lists.proofs.Runs.{keep_snoc}
use Rattle.lists.proofs.Rising.{keep_rising}
use Rattle.lists.proofs.Within.{all_in, in_all_test, list_in, in_list}
use Rattle.lists.proofs.Counts.{Unique, rising_unique, few, count_some}
use Rattle.paper.specs.Lattice.{Lattice, cubes, crossed, visited}
use Rattle.paper.specs.Within.{Sized}
use Rattle.tray.specs.Pieces.{is_lowest, lowest_cubes, begins, scanned, plain_scan}
use Rattle.tray.proofs.Meeting.{holds_own, piece_crossed, pieces_meet}

-- ── step by step ──

module _ (L : Lattice) where
  pub scan_more : (k : ℕ) → scanned L (suc k) ≡ scanned L k ++ cons_if (begins L (scanned L k) k) k []
  unfolding scanned
  scan_more k = refl

  -- in a piece that begins at one of these cubes
  pub in_pieces : (l : List ℕ) (k : ℕ) → is_in (each (visited L) l) k ≡ any (λ c. is_in (visited L c) k) l
  in_pieces l k = any_each (eqb k) (visited L) l

module _ (L : Lattice) (s : Sized L.size) where
  abbrev N : ℕ
  N = cubes L.size

  scan_in : (n c : ℕ) → T (is_in (scanned L n) c) → (c < n) × T (crossed L c)
  unfolding scanned begins
  scan_in zero c t = absurd t
  scan_in (suc n) c t =
      let l = scanned L n in
      let m = cons_if (begins L l n) n [] in
      ⊎_elim
      (λ a. let i = scan_in n c a in (omega (arith, i.0), i.1))
      (λ a.
      let e = in_cons_if (begins L l n) n c a in
      let k = and_left (crossed L n) (not (is_in (each (visited L) l) n)) e.0 in
      (omega (arith, e.1), subst (λ (k : ℕ). T (crossed L k)) (sym e.1) k))
      (or_cases (is_in l c) (is_in m c) (subst T (any_append (eqb c) l m) t))

  -- a crossed cube lies in a piece that was listed, or that begins at it
  module _ (old : List ℕ) (n k : ℕ) where
    abbrev p : ℕ → Bool
    p c = is_in (visited L c) k

    abbrev new : List ℕ
    new = cons_if (begins L old n) n []

    joined : T (any p old) ⊎ T (any p new) → T (any p (old ++ new))
    joined u = subst T (sym (any_append p old new)) (⊎_elim (or_left (any p old) (any p new)) (or_right (any p old) (any p new)) u)

    begun : k ≡ n → n < N → T (crossed L n) → (b : Bool) → any (λ c. is_in (visited L c) n) old ≡ b → T (any p (old ++ new))
    unfolding begins
    begun e h c true q = joined (inl (subst (λ (i : ℕ). T (any (λ c. is_in (visited L c) i) old)) (sym e) (subst T (sym q) tt)))
    begun e h c false q =
        let b : T (begins L old n) = and_both (crossed L n) (not (is_in (each (visited L) old) n)) c
        (subst (λ (d : Bool). T (not d)) (sym (in_pieces L old n ∙ q)) tt) in
        let own : T (p n) = subst (λ (i : ℕ). T (is_in (visited L n) i)) (sym e) (holds_own L s n h c) in
        joined (inr (in_any p new n (cons_if_in (begins L old n) n b) own))

  -- a crossed cube below n lies in a piece that the scan lists by then
  covered : (n k : ℕ) → n ≤ N → k < n → T (crossed L k) → T (any (λ c. is_in (visited L c) k) (scanned L n))
  unfolding scanned
  covered zero k h l c = absurd (omega arith)
  covered (suc n) k h l c = go (ℕ_discrete k n) (covered n k (omega arith))
    where
      go : Dec (k ≡ n) → (k < n → T (crossed L k) → T (any (λ c. is_in (visited L c) k) (scanned L n)))
          → T (any (λ c. is_in (visited L c) k) (scanned L n ++ cons_if (begins L (scanned L n) n) n []))
      go (yes e) i =
          begun (scanned L n) n k e (omega arith) (subst (λ (j : ℕ). T (crossed L j)) e c)
          (any (λ c. is_in (visited L c) n) (scanned L n)) refl
      go (no f) i = joined (scanned L n) n k (inl (i (omega arith) c))

  -- what begins a piece is the lowest cube of its piece, and the other way round
  begins_is : (n : ℕ) → n < N → begins L (scanned L n) n ≡ is_lowest L n
  unfolding begins is_lowest
  begins_is n h =
      let old = scanned L n in
      let met = is_in (each (visited L) old) n in
      let low = all (leb n) (visited L n) in
      bool_same (crossed L n && not met) (crossed L n && low)
      (λ t.
      let c = and_left (crossed L n) (not met) t in
      and_both (crossed L n) low c
      (in_all_test (leb n) (visited L n) (λ j i. le→leb n j (above j c (and_right (crossed L n) (not met) t) (list_in i)))))
      (λ t.
      let c = and_left (crossed L n) low t in
      and_both (crossed L n) (not met) c
      (not_T met (λ u. none c (and_right (crossed L n) low t) (subst T (in_pieces L old n) u))))
    where
      above : (j : ℕ) → T (crossed L n) → T (not (is_in (each (visited L) (scanned L n)) n)) → T (is_in (visited L n) j) → n ≤ j
      above j c f t = elim (dec_lt j n) [
        | yes l ↦ absurd (T_not (is_in (each (visited L) (scanned L n)) n) f (again l))
        | no l ↦ omega arith
      ]
        where
          again : j < n → T (is_in (each (visited L) (scanned L n)) n)
          again l =
              let i = piece_crossed L s n h c j t in
              let w = any_in (λ b. is_in (visited L b) j) (scanned L n) (covered n j (omega arith) l i.0) in
              let b = w.0 in
              let d = scan_in n b w.1.0 in
              subst T (sym (in_pieces L (scanned L n) n))
              (in_any (λ b. is_in (visited L b) n) (scanned L n) b w.1.0
              (pieces_meet L s b n j (omega (arith, d.0)) d.1 h c w.1.1 t))

      none : T (crossed L n) → T (all (leb n) (visited L n)) → T (any (λ b. is_in (visited L b) n) (scanned L n)) → ⊥
      none c low u =
          let w = any_in (λ b. is_in (visited L b) n) (scanned L n) u in
          let b = w.0 in
          let d = scan_in n b w.1.0 in
          let hb : b < N = omega (arith, d.0) in
          let m = pieces_meet L s n b n h c hb d.1 (holds_own L s n h c) w.1.1 in
          let g = leb→le n b (all_in (leb n) low (in_list b (visited L n) m)) in
          omega (arith, d.0)

  scan_is : (n : ℕ) → n ≤ N → scanned L n ≡ keep (is_lowest L) (range 0 n)
  unfolding scanned
  scan_is zero h = refl
  scan_is (suc n) h =
      (λ i. scan_is n (omega arith) i ++ cons_if (begins_is n (omega arith) i) n []) ∙ sym (keep_snoc (is_lowest L) n)

  -- ── the theorems ──

  -- "The list equals a plain scan's": the scan lists the lowest cube of each piece, by rising number
  pub scan_lowest : plain_scan L ≡ lowest_cubes L
  unfolding plain_scan lowest_cubes
  scan_lowest = scan_is N (omega arith)

  -- each listed cube is crossed, and the lowest of its piece
  pub listed_lowest : (c : ℕ) → T (is_in (plain_scan L) c) → T (crossed L c) × (c < N) × ((j : ℕ) → T (is_in (visited L c) j) → c ≤ j)
  unfolding lowest_cubes is_lowest
  listed_lowest c t =
      let k = subst T (ap (λ (l : List ℕ). is_in l c) scan_lowest ∙ in_keep (is_lowest L) (range 0 N) c) t in
      let r = range_in 0 N c (and_left (is_in (range 0 N) c) (is_lowest L c) k) in
      let m = and_right (is_in (range 0 N) c) (is_lowest L c) k in (
        and_left (crossed L c) (all (leb c) (visited L c)) m,
        omega (arith, r.1),
        λ j i. leb→le c j (all_in (leb c) (and_right (crossed L c) (all (leb c) (visited L c)) m) (in_list j (visited L c) i)),
      )

  scan_unique : Unique (plain_scan L)
  unfolding lowest_cubes
  scan_unique = subst Unique (sym scan_lowest) (rising_unique 0 (keep (is_lowest L) (range 0 N)) (keep_rising (is_lowest L) 0 N))

  -- every crossed cube lies in exactly one listed piece
  pub one_piece : (k : ℕ) → k < N → T (crossed L k) → count (λ c. is_in (visited L c) k) (plain_scan L) ≡ 1
  unfolding plain_scan
  one_piece k h c =
      let p : ℕ → Bool = λ c. is_in (visited L c) k in
      let w = any_in p (plain_scan L) (covered N k (omega arith) h c) in
      let most = few p scan_unique (λ a b i j t u. same a b (list_in i) (list_in j) t u) in
      let least = count_some p (in_list w.0 (plain_scan L) w.1.0) w.1.1 in
      omega (arith, most, least)
    where
      same : (a b : ℕ) → T (is_in (plain_scan L) a) → T (is_in (plain_scan L) b) → T (is_in (visited L a) k) → T (is_in (visited L b) k) → a ≡ b
      same a b i j t u =
          let x = listed_lowest a i in
          let y = listed_lowest b j in
          let ab = x.2 b (pieces_meet L s a b k x.1 x.0 y.1 y.0 t u) in
          let ba = y.2 a (pieces_meet L s b a k y.1 y.0 x.1 x.0 u t) in
          omega arith
