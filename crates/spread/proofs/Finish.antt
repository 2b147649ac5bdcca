-- Where nothing waits, the visited cubes are those that steps reach, and they are counted. Assumes nothing.
use mathlib.Core.Path.{◌≡◌, refl, sym, ap, ap₂, subst, ◌∙◌}
use mathlib.Core.Bool.{Bool, true, false, not, ◌&&◌, ◌||◌}
use mathlib.Core.List.{List, [], ◌∷◌, ◌++◌}
use mathlib.Core.Logic.{◌⊎◌, inl, inr, ⊎_elim}
use Prim.Native.Nat.{ℕ, zero, suc, ◌+◌, ◌-◌, ◌*◌, ◌/◌, ◌%◌, ◌^◌, ◌≤◌, ◌<◌}
use native.Mathlib.Omega.{arith}
use lib.Dec.{T, eqb, ltb, ltb→lt, lt→ltb}
use lib.Count.{ones}
use lib.ListN.{length, get_or, length-append}
use Rattle.lists.proofs.Stores.{beyond_trans}
use Rattle.lists.specs.Lists.{range, keep, cons_if, each, is_in, Beyond}
use Rattle.lists.specs.Reach.{Reach, here, step, reached}
use Rattle.lists.proofs.Member.{or_cases, or_left, or_right, and_both, and_left, and_right, any_append}
use Rattle.lists.proofs.Member.{any_each, any_in, in_any, in_cons_if, cons_if_in, in_range, range_in}
use Rattle.lists.proofs.Runs.{range_join, keep_append}
use Rattle.lists.proofs.Closure.{bool_same, keep_same, sound, complete, reach_lt, reached_kept}
use Rattle.bits.specs.Words.{bit, On}
use Rattle.bits.proofs.Bits.{word_is}
use Rattle.bits.proofs.Counts.{ones_from}
use Rattle.bits.proofs.Places.{on_zero}
use Rattle.ways.specs.Plan.{Plan}
use Rattle.ways.specs.Flow.{Flow}
use Rattle.spread.specs.Flooded.{Empty, cell, steps_from, steps, marks, Closed, room, Flooded}
use Rattle.ways.proofs.Laws.{lit}
use Rattle.spread.proofs.Going.{Ground, Settled, Turn, all_done, landed, left_across}

pub cell_row : (r x : ℕ) → x < 64 → cell r x / 64 ≡ r
cell_row r x h = omega arith

pub cell_place : (r x : ℕ) → x < 64 → cell r x % 64 ≡ x
cell_place r x h = omega arith

-- ── counting the places of words ──

count_bits : (M : ℕ → Bool) (k w a : ℕ) → w < 2 ^ k → ((x : ℕ) → x < k → M (a + x) ≡ bit w x) → length (keep M (range a k)) ≡ ones w
count_bits M k w a h f = sym (ap ones (word_is w k (λ x. M (a + x)) h (λ x l. sym (f x l))) ∙ ones_from M a k)

count_rows : (M : ℕ → Bool) (n a : ℕ) (l : List ℕ) → n ≤ length l → ((r : ℕ) → r < n → get_or l r 0 < 2 ^ 64)
    → ((r x : ℕ) → r < n → x < 64 → M (a + cell r x) ≡ bit (get_or l r 0) x) → length (keep M (range a (64 * n))) ≡ lit n l
unfolding lit
count_rows M zero a l h w f = refl
count_rows M (suc n) a [] h w f = absurd (omega arith)
count_rows M (suc n) a (v ∷ vs) h w f =
    let e : 64 * suc n ≡ 64 + 64 * n = omega arith in
    let k : length (keep M (range a (64 * suc n))) ≡ length (keep M (range a 64)) + length (keep M (range (a + 64) (64 * n))) =
    ap (λ (m : ℕ). length (keep M (range a m))) e
    ∙ (ap (λ (m : List ℕ). length (keep M m)) (range_join a 64 (64 * n))
    ∙ (ap length (keep_append M (range a 64) (range (a + 64) (64 * n)))
    ∙ length-append (keep M (range a 64)) (keep M (range (a + 64) (64 * n))))) in
    let i = count_rows M n (a + 64) vs (omega arith) (λ r l. w (suc r) (omega arith))
    (λ r x l g. let z : a + 64 + cell r x ≡ a + cell (suc r) x = omega arith in ap M z ∙ f (suc r) x (omega arith) g) in
    let b = count_bits M 64 v a (w 0 (omega arith)) (λ x l. let z : a + x ≡ a + cell 0 x = omega arith in ap M z ∙ f 0 x (omega arith) l) in
    omega (arith, k, i, b)

-- of those that pass either of two tests, those that pass the first, and the others
count_either : (a b : ℕ → Bool) (l : List ℕ)
    → length (keep (λ k. a k || b k) l) ≡ length (keep a l) + length (keep (λ k. b k && not (a k)) l)
count_either a b [] = refl
count_either a b (x ∷ l) = go (a x) (b x) (count_either a b l)
  where
    go : (c d : Bool) → length (keep (λ k. a k || b k) l) ≡ length (keep a l) + length (keep (λ k. b k && not (a k)) l)
        → length (cons_if (c || d) x (keep (λ k. a k || b k) l))
        ≡ length (cons_if c x (keep a l)) + length (cons_if (d && not c) x (keep (λ k. b k && not (a k)) l))
    go true true h = omega arith
    go true false h = omega arith
    go false true h = omega arith
    go false false h = omega arith

keep_keep : (p q : ℕ → Bool) (l : List ℕ) → keep q (keep p l) ≡ keep (λ k. p k && q k) l
keep_keep p q [] = refl
keep_keep p q (x ∷ l) = go (p x) (keep_keep p q l)
  where
    go : (b : Bool) → keep q (keep p l) ≡ keep (λ k. p k && q k) l
        → keep q (cons_if b x (keep p l)) ≡ cons_if (b && q x) x (keep (λ k. p k && q k) l)
    go true h = ap (cons_if (q x) x) h
    go false h = h

-- marks at a cell
pub at_cell : (vis : List ℕ) (r y : ℕ) → y < 64 → marks vis (cell r y) ≡ bit (get_or vis r 0) y
at_cell vis r y h = ap₂ (λ (a b : ℕ). bit (get_or vis a 0) b) (cell_row r y h) (cell_place r y h)

-- words that mark nothing
pub empty_closed : (P : Plan) (vis : List ℕ) → Empty P.size vis → Closed P vis
empty_closed P vis e = record {
  fit = e.fit;
  words = λ r h. rw (e.none r h) (omega arith);
  over = λ j k h m _. absurd (on_zero (j % 64) (subst (λ (w : ℕ). On w (j % 64)) (e.none (j / 64) (omega arith)) m));
}

module _ (P : Plan) where
  abbrev n : ℕ
  n = P.size

  abbrev gate : ℕ → ℕ
  gate = P.gate

  abbrev door : ℕ → ℕ → ℕ
  door = P.door

  abbrev beside : ℕ → ℕ → ℕ
  beside = P.beside

  -- ── steps by their kind ──

  pub data Stepped (r x k : ℕ) : Type 0 where
    rose : suc x < 64 → On (gate r) (suc x) → k ≡ cell r (suc x) → Stepped r x k
    fell : (y : ℕ) → x ≡ suc y → On (gate r) x → k ≡ cell r y → Stepped r x k
    went : (j : ℕ) → j < 4 → On (door r j) x → k ≡ cell (beside r j) x → Stepped r x k

  abbrev ups : ℕ → ℕ → List ℕ
  ups r x = cons_if (ltb (suc x) 64 && bit (gate r) (suc x)) (cell r (suc x)) []

  abbrev downs : ℕ → ℕ → List ℕ
  downs r x = cons_if (ltb 0 x && bit (gate r) x) (cell r (x - 1)) []

  abbrev through : ℕ → ℕ → ℕ → List ℕ
  through r x j = cons_if (bit (door r j) x) (cell (beside r j) x) []

  in_steps : (r x k : ℕ) → T (is_in (steps_from P r x) k) → Stepped r x k
  unfolding steps_from
  in_steps r x k t =
      ⊎_elim
      (λ a.
      let b = in_cons_if (ltb (suc x) 64 && bit (gate r) (suc x)) (cell r (suc x)) k a in
      rose (ltb→lt (suc x) 64 (and_left (ltb (suc x) 64) (bit (gate r) (suc x)) b.0))
      (and_right (ltb (suc x) 64) (bit (gate r) (suc x)) b.0) b.1)
      (λ a.
      ⊎_elim
      (λ c.
      let b = in_cons_if (ltb 0 x && bit (gate r) x) (cell r (x - 1)) k c in
      let p = ltb→lt 0 x (and_left (ltb 0 x) (bit (gate r) x) b.0) in
      fell (x - 1) (omega arith) (and_right (ltb 0 x) (bit (gate r) x) b.0) b.1)
      (λ c.
      let b = any_in (λ j. is_in (through r x j) k) (range 0 4) (subst T (any_each (eqb k) (through r x) (range 0 4)) c) in
      let d = in_cons_if (bit (door r b.0) x) (cell (beside r b.0) x) k b.1.1 in
      went b.0 (omega (arith, range_in 0 4 b.0 b.1.0)) d.0 d.1)
      (or_cases (is_in (downs r x) k) (is_in (each (through r x) (range 0 4)) k)
      (subst T (any_append (eqb k) (downs r x) (each (through r x) (range 0 4))) a)))
      (or_cases (is_in (ups r x) k) (is_in (downs r x ++ each (through r x) (range 0 4)) k)
      (subst T (any_append (eqb k) (ups r x) (downs r x ++ each (through r x) (range 0 4))) t))

  steps_in : (r x k : ℕ) → Stepped r x k → T (is_in (steps_from P r x) k)
  unfolding steps_from
  steps_in r x k s = subst T (sym (any_append (eqb k) (ups r x) (downs r x ++ each (through r x) (range 0 4)))) (go s)
    where
      later : T (is_in (downs r x) k) ⊎ T (is_in (each (through r x) (range 0 4)) k)
          → T (is_in (ups r x) k || is_in (downs r x ++ each (through r x) (range 0 4)) k)
      later p =
          or_right (is_in (ups r x) k) (is_in (downs r x ++ each (through r x) (range 0 4)) k)
          (subst T (sym (any_append (eqb k) (downs r x) (each (through r x) (range 0 4))))
          (⊎_elim (or_left (is_in (downs r x) k) (is_in (each (through r x) (range 0 4)) k))
          (or_right (is_in (downs r x) k) (is_in (each (through r x) (range 0 4)) k)) p))

      go : Stepped r x k → T (is_in (ups r x) k || is_in (downs r x ++ each (through r x) (range 0 4)) k)
      go (rose h p e) =
          or_left (is_in (ups r x) k) (is_in (downs r x ++ each (through r x) (range 0 4)) k)
          (subst (λ (m : ℕ). T (is_in (ups r x) m)) (sym e)
          (cons_if_in (ltb (suc x) 64 && bit (gate r) (suc x)) (cell r (suc x))
          (and_both (ltb (suc x) 64) (bit (gate r) (suc x)) (lt→ltb (suc x) 64 h) p)))
      go (fell y d p e) =
          let z : cell r (x - 1) ≡ k = omega arith in
          later
          (inl
          (subst (λ (m : ℕ). T (is_in (downs r x) m)) z
          (cons_if_in (ltb 0 x && bit (gate r) x) (cell r (x - 1)) (and_both (ltb 0 x) (bit (gate r) x) (lt→ltb 0 x (omega arith)) p))))
      go (went j h p e) =
          later
          (inr
          (subst T (sym (any_each (eqb k) (through r x) (range 0 4)))
          (in_any (λ i. is_in (through r x i) k) (range 0 4) j (in_range 0 4 j (omega arith) (omega arith))
          (subst (λ (m : ℕ). T (is_in (through r x j) m)) (sym e) (cons_if_in (bit (door r j) x) (cell (beside r j) x) p)))))

  pub from_cell : (r x k : ℕ) → x < 64 → Stepped r x k → T (is_in (steps P (cell r x)) k)
  unfolding steps
  from_cell r x k h s =
      subst T (sym (ap₂ (λ (a b : ℕ). is_in (steps_from P a b) k) (cell_row r x h) (cell_place r x h))) (steps_in r x k s)

  pub by_cell : (j k : ℕ) → T (is_in (steps P j) k) → Stepped (j / 64) (j % 64) k
  unfolding steps
  by_cell j k t = in_steps (j / 64) (j % 64) k t

  -- a step leads to a cube of the n rows
  pub steps_lt : ((r k : ℕ) → r < n → k < 4 → beside r k < n) → (j k : ℕ) → j < 64 * n → T (is_in (steps P j) k) → k < 64 * n
  steps_lt into j k h t = go (by_cell j k t)
    where
      go : Stepped (j / 64) (j % 64) k → k < 64 * n
      go (rose l p z) = omega arith
      go (fell y l p z) = omega arith
      go (went i l p z) = let m = into (j / 64) i (omega arith) l in omega arith

  -- words that were marked before, and steps from them
  module _ (vis : List ℕ) (C : Closed P vis) (r : ℕ) (hr : r < n) where
    from_marked : (y k t w : ℕ) → y < 64 → w < 64 → Stepped r y k → k ≡ cell t w → On (get_or vis r 0) y → On (get_or vis t 0) w
    from_marked y k t w hy hw s e p =
        subst T (at_cell vis t w hw)
        (subst (λ (i : ℕ). T (marks vis i)) e
        (C.over (cell r y) k (omega arith) (subst T (sym (at_cell vis r y hy)) p) (from_cell r y k hy s)))

  module _ (q x : ℕ) (vis₀ : List ℕ) where
    -- a cube was marked before, or is reached
    abbrev pub Reached : ℕ → ℕ → Type 0
    Reached r y = On (get_or vis₀ r 0) y ⊎ Reach (steps P) (cell q x) (cell r y)

    -- steps lead from cubes that are reached to cubes that are reached
    pub ground : ((r : ℕ) → P.is_row r ≡ true → r < n) → ((r k : ℕ) → P.is_row r ≡ true → k < 4 → P.is_row (beside r k) ≡ true)
        → Closed P vis₀ → Ground P Reached
    ground lt on C = record {
      row_lt = lt;
      row_on = on;
      rises = λ r y hr h p a.
          let hy : y < 64 = omega arith in
          ⊎_elim (λ m. inl (from_marked vis₀ C r (lt r hr) y (cell r (suc y)) r (suc y) hy h (rose h p refl) refl m))
          (λ m. inr (step m (from_cell r y (cell r (suc y)) hy (rose h p refl)))) a;
      falls = λ r y hr h p a.
          let hy : y < 64 = omega arith in
          ⊎_elim (λ m. inl (from_marked vis₀ C r (lt r hr) (suc y) (cell r y) r y h hy (fell y refl p refl) refl m))
          (λ m. inr (step m (from_cell r (suc y) (cell r y) h (fell y refl p refl)))) a;
      goes = λ r y k hr hy h p a.
          ⊎_elim (λ m. inl (from_marked vis₀ C r (lt r hr) y (cell (beside r k) y) (beside r k) y hy hy (went k h p refl) refl m))
          (λ m. inr (step m (from_cell r y (cell (beside r k) y) hy (went k h p refl)))) a;
    }

    pub settled : Closed P vis₀ → ((r k : ℕ) → r < n → k < 4 → beside r k < n) → Settled P Reached vis₀
    settled C into = record {
      fit = C.fit;
      words = C.words;
      known = λ r y _ _ p. inl p;
      rises = λ r y hr h p m. let hy : y < 64 = omega arith in
          from_marked vis₀ C r hr y (cell r (suc y)) r (suc y) hy h (rose h p refl) refl m;
      falls = λ r y hr h p m. let hy : y < 64 = omega arith in
          from_marked vis₀ C r hr (suc y) (cell r y) r y h hy (fell y refl p refl) refl m;
      goes = λ r y j hr hy h p m. from_marked vis₀ C r hr y (cell (beside r j) y) (beside r j) y hy hy (went j h p refl) refl m;
    }

    -- the loop is left
    module _ (C : Closed P vis₀) (G : Ground P Reached) (hx : x < 64) (hq : q < n) (into : (r k : ℕ) → r < n → k < 4 → beside r k < n)
        (due₀ w₀ w₁ vis : List ℕ) (s : Flow) (seen : ℕ) (e : s.height ≡ 0) (u : Turn P Reached q x vis₀ due₀ w₁ vis s seen)
        (d : Beyond P.room w₀ w₁) where
      abbrev M : ℕ → Bool
      M = marks vis

      cell_on : (r y k : ℕ) → y < 64 → k ≡ cell r y → On (get_or vis r 0) y → T (M k)
      cell_on r y k h z p = subst (λ (i : ℕ). T (M i)) (sym z) (subst T (sym (at_cell vis r y h)) p)

      bounded : (j k : ℕ) → j < 64 * n → T (is_in (steps P j) k) → k < 64 * n
      bounded = steps_lt into

      closed : (j k : ℕ) → j < 64 * n → T (M j) → T (is_in (steps P j) k) → T (M k)
      closed j k h m t = go (by_cell j k t)
        where
          go : Stepped (j / 64) (j % 64) k → T (M k)
          go (rose l p z) =
              let hr : j / 64 < n = omega arith in
              cell_on (j / 64) (suc (j % 64)) k l z
              (landed P Reached G q x vis₀ due₀ w₁ vis s seen e u (j / 64) (suc (j % 64)) hr (u.going.rising (j / 64) (j % 64) hr l p m))
          go (fell y l p z) =
              let hr : j / 64 < n = omega arith in
              let hy : suc y < 64 = omega arith in
              let hy' : y < 64 = omega arith in
              cell_on (j / 64) y k hy' z
              (landed P Reached G q x vis₀ due₀ w₁ vis s seen e u (j / 64) y hr
              (u.going.falling (j / 64) y hr hy (subst (λ (i : ℕ). On (gate (j / 64)) i) l p)
              (subst (λ (i : ℕ). On (get_or vis (j / 64) 0) i) l m)))
          go (went i l p z) =
              let hr : j / 64 < n = omega arith in
              let hy : j % 64 < 64 = omega arith in
              cell_on (beside (j / 64) i) (j % 64) k hy z
              (left_across P Reached G q x vis₀ due₀ w₁ vis s seen e u (j / 64) (j % 64) i hr hy l (into (j / 64) i hr l) p m)

      start_lt : cell q x < 64 * n
      start_lt = omega arith

      reach_on : {k : ℕ} → Reach (steps P) (cell q x) k → T (M k)
      reach_on here =
          cell_on q x (cell q x) hx refl (landed P Reached G q x vis₀ due₀ w₁ vis s seen e u q x hq u.begun)
      reach_on (step {j} {k} a t) = closed j k (reach_lt (steps P) (64 * n) bounded (cell q x) start_lt a) (reach_on a) t

      abbrev R : ℕ → Bool
      R = is_in (reached (steps P) (64 * n) (cell q x))

      -- what is marked now was marked before or is reached
      either_is : (k : ℕ) → k < 64 * n → M k ≡ (marks vis₀ k || R k)
      either_is k h =
          let z : cell (k / 64) (k % 64) ≡ k = omega arith in
          bool_same (M k) (marks vis₀ k || R k)
          (λ t.
          ⊎_elim (or_left (marks vis₀ k) (R k))
          (λ a. or_right (marks vis₀ k) (R k)
          (subst (λ (i : ℕ). T (R i)) z (complete (steps P) (64 * n) bounded (cell q x) start_lt a)))
          (u.going.sound (k / 64) (k % 64) (omega arith) (omega arith) (inl t)))
          (λ t.
          ⊎_elim (u.older (k / 64) (k % 64)) (λ a. reach_on (sound (steps P) (64 * n) (cell q x) k a)) (or_cases (marks vis₀ k) (R k) t))

      all_is : (l : List ℕ) → n ≤ length l → ((r : ℕ) → r < n → get_or l r 0 < 2 ^ 64) → length (keep (marks l) (range 0 (64 * n))) ≡ lit n l
      all_is l f w =
          count_rows (marks l) n 0 l f w (λ r y hr hy. let z : 0 + cell r y ≡ cell r y = omega arith in ap (marks l) z ∙ at_cell l r y hy)

      seen_is : seen ≡ length (keep (λ k. not (marks vis₀ k)) (reached (steps P) (64 * n) (cell q x)))
      seen_is =
          let before = all_is vis₀ C.fit C.words in
          let after = all_is vis u.going.vis_fit u.going.words in
          let both = ap length (keep_same M (λ k. marks vis₀ k || R k) (range 0 (64 * n))
          (λ k i. either_is k (omega (arith, range_in 0 (64 * n) k i)))) in
          let parts = count_either (marks vis₀) R (range 0 (64 * n)) in
          let rest : length (keep (λ k. not (marks vis₀ k)) (reached (steps P) (64 * n) (cell q x)))
          ≡ length (keep (λ k. R k && not (marks vis₀ k)) (range 0 (64 * n))) =
          ap (λ (l : List ℕ). length (keep (λ k. not (marks vis₀ k)) l)) (reached_kept (steps P) (64 * n) (cell q x))
          ∙ ap length (keep_keep R (λ k. not (marks vis₀ k)) (range 0 (64 * n))) in
          omega (arith, before, after, both, parts, rest, u.count)

      pub finished : Flooded P (cell q x) (room vis₀ w₀) (room vis s.waiting) seen
      finished = record {
        marked = λ r y hr hy. record {
          within = λ p. u.going.sound r y hr hy (inl p);
          older = u.older r y;
          whole = λ a. subst T (at_cell vis r y hy) (reach_on a);
        };
        closed = record { fit = u.going.vis_fit; words = u.going.words; over = closed };
        number = seen_is;
        on_vis = u.on_vis;
        on_waiting = beyond_trans d u.on_waiting;
      }

      -- nothing is due
      pub emptied : (r : ℕ) → r < n → get_or s.due r 0 ≡ 0
      emptied = all_done P Reached G q x vis₀ due₀ w₁ vis s seen e u
