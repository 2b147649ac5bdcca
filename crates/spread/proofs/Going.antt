-- The invariant of a flood by rows, that each act of the flood keeps it, and what it says where nothing waits. Assumes nothing.
use mathlib.Core.Path.{◌≡◌, sym, ap, subst, ◌∙◌}
use mathlib.Core.Bool.{true}
use mathlib.Core.List.{List}
use mathlib.Core.Logic.{◌⊎◌, inl, inr, ⊎_elim}
use Prim.Native.Nat.{ℕ, zero, suc, ◌+◌, ◌-◌, ◌*◌, ◌≤◌, ◌<◌, ◌^◌}
use native.Mathlib.Nat.{eq-or-lt_of_le}
use native.Mathlib.Decide.{ℕ_discrete}
use native.Mathlib.Omega.{arith}
use lib.Bits.{bit_and, bit_or, and_le_l, or_lt}
use lib.Count.{ones}
use lib.ListN.{length, get_or, set, length-set}
use lib.Seq.{get_or-set_same, get_or-set_other}
use Rattle.lists.proofs.Stores.{beyond_refl, beyond_trans, beyond_set}
use Rattle.lists.specs.Lists.{Beyond}
use Rattle.bits.specs.Words.{On, less}
use Rattle.bits.proofs.Places.{on_bit, bit_on, on_and, and_on, on_or_left, on_or_right, or_on}
use Rattle.bits.proofs.Places.{on_zero, less_cases, less_on, ones_less, ones_some, ones_zero}
use Rattle.ways.specs.Along.{Along, begun, up, down, Filled}
use Rattle.ways.specs.Plan.{Plan}
use Rattle.ways.specs.Flow.{Flow, flow, wait, sends, Roomy}
use Rattle.ways.proofs.Laws.{set_cases, blank_set, lit, lit_set, lit_le, wait_elim, wait_keeps}
use Rattle.ways.proofs.Laws.{wait_adds, wait_only, Kept, wait_room, wait_kept, sends_kept, sends_none}

-- row r stands below h in w
abbrev pub Waits : List ℕ → ℕ → ℕ → Type 0
Waits w h r = (i : ℕ) × (i < h) × (get_or w i 0 ≡ r)

-- cube x of row r is visited or due
abbrev pub Lands : List ℕ → List ℕ → ℕ → ℕ → Type 0
Lands vis due r x = On (get_or vis r 0) x ⊎ On (get_or due r 0) x

-- ways lead from rows of cubes to rows of cubes, and steps from cubes that are reached to cubes that are reached
pub record Ground (P : Plan) (Reached : ℕ → ℕ → Type 0) : Type 0 where
  pub row_lt : (r : ℕ) → P.is_row r ≡ true → r < P.size
  pub row_on : (r k : ℕ) → P.is_row r ≡ true → k < 4 → P.is_row (P.beside r k) ≡ true
  pub rises : (r x : ℕ) → P.is_row r ≡ true → suc x < 64 → On (P.gate r) (suc x) → Reached r x → Reached r (suc x)
  pub falls : (r x : ℕ) → P.is_row r ≡ true → suc x < 64 → On (P.gate r) (suc x) → Reached r (suc x) → Reached r x
  pub goes : (r x k : ℕ) → P.is_row r ≡ true → x < 64 → k < 4 → On (P.door r k) x → Reached r x → Reached (P.beside r k) x

module _ (P : Plan) (Reached : ℕ → ℕ → Type 0) where
  abbrev n : ℕ
  n = P.size

  abbrev gate : ℕ → ℕ
  gate = P.gate

  abbrev door : ℕ → ℕ → ℕ
  door = P.door

  abbrev beside : ℕ → ℕ → ℕ
  beside = P.beside

  abbrev Row : ℕ → Type 0
  Row r = P.is_row r ≡ true

  -- every step from a visited cube leads to a cube that is visited or due, but from the cubes f of row c over door k and later
  pub record Going (c f k : ℕ) (vis : List ℕ) (s : Flow) : Type 0 where
    pub roomy : Roomy n P.room P.is_row s
    pub vis_fit : n ≤ length vis
    pub words : (r : ℕ) → r < n → get_or vis r 0 < 2 ^ 64
    pub sound : (r x : ℕ) → r < n → x < 64 → Lands vis s.due r x → Reached r x
    pub rising : (r x : ℕ) → r < n → suc x < 64 → On (gate r) (suc x) → On (get_or vis r 0) x → Lands vis s.due r (suc x)
    pub falling : (r x : ℕ) → r < n → suc x < 64 → On (gate r) (suc x) → On (get_or vis r 0) (suc x) → Lands vis s.due r x
    pub across : (r x j : ℕ) → r < n → x < 64 → j < 4 → On (door r j) x → On (get_or vis r 0) x
        → Lands vis s.due (beside r j) x ⊎ ((r ≡ c) × On f x × (k ≤ j))
    pub waits : (i : ℕ) → i < s.height → Row (get_or s.waiting i 0)
    pub listed : (r : ℕ) → r < n → (get_or s.due r 0 ≡ 0) ⊎ Waits s.waiting s.height r

  module _ (G : Ground P Reached) where
    -- ── places become due ──

    module _ (c f k : ℕ) (vis : List ℕ) (s : Flow) (g : Going c f k vis s) (to m : ℕ) (row : Row to) where
      in_due : to < length s.due
      in_due = omega (arith, G.row_lt to row, g.roomy.due_fit)

      stays : (r x : ℕ) → Lands vis s.due r x → Lands vis (wait to m s).due r x
      stays r x p = ⊎_elim inl (λ q. inr (wait_keeps to m s in_due r x q)) p

      pub wait_going : ((x : ℕ) → x < 64 → On m x → Reached to x) → Going c f k vis (wait to m s)
      wait_going b = record {
        roomy = (wait_kept n P.room P.is_row to m s g.roomy (G.row_lt to row) row).roomy;
        vis_fit = g.vis_fit;
        words = g.words;
        sound = λ r x hr hx p.
            ⊎_elim (λ q. g.sound r x hr hx (inl q))
            (λ q. ⊎_elim (λ a. g.sound r x hr hx (inr a)) (λ a. rw a.0 (b x hx a.1)) (wait_only to m s in_due r x q)) p;
        rising = λ r x hr hx q p. stays r (suc x) (g.rising r x hr hx q p);
        falling = λ r x hr hx q p. stays r x (g.falling r x hr hx q p);
        across = λ r x j hr hx hj q p. ⊎_elim (λ a. inl (stays (beside r j) x a)) inr (g.across r x j hr hx hj q p);
        waits = waits;
        listed = listed;
      }
        where
          waits : (i : ℕ) → i < (wait to m s).height → Row (get_or (wait to m s).waiting i 0)
          waits =
              wait_elim to m s (λ t. (i : ℕ) → i < t.height → Row (get_or t.waiting i 0)) (λ _. g.waits)
              (λ _ e i h.
              let l : s.height < length s.waiting = omega
              (arith, wait_room n P.room P.is_row to m s g.roomy (G.row_lt to row) row e, g.roomy.waiting_fit) in
              ⊎_elim (λ q. rw q.1 row)
              (λ q. let h' : i < s.height = omega (arith, q.0) in rw q.1 (g.waits i h')) (set_cases s.waiting s.height to i l))
              (λ _ _. g.waits)

          listed : (r : ℕ) → r < n → (get_or (wait to m s).due r 0 ≡ 0) ⊎ Waits (wait to m s).waiting (wait to m s).height r
          listed =
              wait_elim to m s (λ t. (r : ℕ) → r < n → (get_or t.due r 0 ≡ 0) ⊎ Waits t.waiting t.height r) (λ _. g.listed)
              (λ _ e r hr.
              let l : s.height < length s.waiting = omega
              (arith, wait_room n P.room P.is_row to m s g.roomy (G.row_lt to row) row e, g.roomy.waiting_fit) in
              ⊎_elim (λ q. inr (s.height, omega arith, get_or-set_same s.waiting s.height to 0 l ∙ sym q.0))
              (λ q. ⊎_elim (λ z. inl (q.1 ∙ z)) (λ w. inr (later r w)) (g.listed r hr))
              (set_cases s.due to (bit_or (get_or s.due to 0) m) r in_due))
              (λ _ e r hr.
              ⊎_elim
              (λ q. ⊎_elim (λ z. absurd (e (ap (λ (i : ℕ). get_or s.due i 0) (sym q.0) ∙ z))) inr (g.listed r hr))
              (λ q. ⊎_elim (λ z. inl (q.1 ∙ z)) inr (g.listed r hr))
              (set_cases s.due to (bit_or (get_or s.due to 0) m) r in_due))
            where
              later : (r : ℕ) → Waits s.waiting s.height r → Waits (set s.waiting s.height to) (s.height + 1) r
              later r (i, l, e) =
                  let q : i ≡ s.height → ⊥ = λ z. omega arith in (i, omega arith, get_or-set_other s.waiting s.height i to 0 q ∙ e)

    -- ── through the doors of a row ──

    -- door k of row c is done
    going_more : (c f k : ℕ) (vis : List ℕ) (s : Flow) → Going c f k vis s
        → ((x : ℕ) → x < 64 → On f x → On (door c k) x → Lands vis s.due (beside c k) x) → Going c f (suc k) vis s
    going_more c f k vis s g m = record {
      roomy = g.roomy;
      vis_fit = g.vis_fit;
      words = g.words;
      sound = g.sound;
      rising = g.rising;
      falling = g.falling;
      across = λ r x j hr hx hj q p.
          ⊎_elim inl
          (λ a. ⊎_elim (λ e. inl (at r x j hx q a.0 a.1 e)) (λ l. inr (a.0, a.1, l)) (eq-or-lt_of_le a.2))
          (g.across r x j hr hx hj q p);
      waits = g.waits;
      listed = g.listed;
    }
      where
        at : (r x j : ℕ) → x < 64 → On (door r j) x → r ≡ c → On f x → k ≡ j → Lands vis s.due (beside r j) x
        at r x j hx q e p z =
            subst (λ (i : ℕ). On (door i j) x → Lands vis s.due (beside i j) x) (sym e)
            (subst (λ (i : ℕ). On (door c i) x → Lands vis s.due (beside c i) x) z (m x hx p)) q

    -- where every door of a row is done, which row it was does not matter
    going_any : (c f d e : ℕ) (vis : List ℕ) (s : Flow) → Going c f 4 vis s → Going d e 4 vis s
    going_any c f d e vis s g = record {
      roomy = g.roomy;
      vis_fit = g.vis_fit;
      words = g.words;
      sound = g.sound;
      rising = g.rising;
      falling = g.falling;
      across = λ r x j hr hx hj q p. ⊎_elim inl (λ a. absurd (let l = a.2 in omega arith)) (g.across r x j hr hx hj q p);
      waits = g.waits;
      listed = g.listed;
    }

    module _ (c f : ℕ) (vis : List ℕ) (s : Flow) (row : Row c) (b : (x : ℕ) → x < 64 → On f x → Reached c x) (g : Going c f 0 vis s) where
      going_sends : (k : ℕ) → k ≤ 4 → Going c f k vis (sends vis (door c) (beside c) f k s)
      unfolding sends
      going_sends zero h = g
      going_sends (suc k) h =
          let l : k ≤ 4 = omega arith in
          let i = going_sends k l in
          let t = sends vis (door c) (beside c) f k s in
          let to = beside c k in
          let m = less (bit_and f (door c k)) (get_or vis to 0) in
          let q = G.row_on c k row h in
          going_more c f k vis (wait to m t)
          (wait_going c f k vis t i to m q
          (λ x hx p. let a = and_on f (door c k) x (less_on (bit_and f (door c k)) (get_or vis to 0) x p) in G.goes c x k row hx h a.1
          (b x hx a.0)))
          (λ x hx p d.
          ⊎_elim inl (λ a. inr (wait_adds to m t (in_due c f k vis t i to m q) x a))
          (less_cases (bit_and f (door c k)) (get_or vis to 0) x (g.words to (G.row_lt to q)) hx (on_and f (door c k) x p d)))

      sends_stays : (k : ℕ) → k ≤ 4 → (r x : ℕ) → Lands vis s.due r x → Lands vis (sends vis (door c) (beside c) f k s).due r x
      unfolding sends
      sends_stays zero h r x p = p
      sends_stays (suc k) h r x p =
          let l : k ≤ 4 = omega arith in
          let to = beside c k in
          stays c f k vis (sends vis (door c) (beside c) f k s) (going_sends k l) to (less (bit_and f (door c k)) (get_or vis to 0))
          (G.row_on c k row h) r x
          (sends_stays k l r x p)

    -- ── the last row that waits is taken off the list: what its gates lead to from its due cubes is visited ──

    module _ (c e : ℕ) (vis due w : List ℕ) (h : ℕ) (g : Going c e 4 vis (flow due w (suc h))) (full : ℕ) (l : full < 2 ^ 64)
        (F : Filled (get_or due (get_or w h 0) 0) (gate (get_or w h 0)) full) where
      abbrev r : ℕ
      r = get_or w h 0

      abbrev v : ℕ
      v = get_or vis r 0

      -- the cubes that are visited now
      abbrev pub fresh : ℕ
      fresh = less full v

      abbrev vis' : List ℕ
      vis' = set vis r (bit_or v fresh)

      abbrev due' : List ℕ
      due' = set due r 0

      row : Row r
      row = g.waits h (omega arith)

      r_lt : r < n
      r_lt = G.row_lt r row

      r_is : P.is_row (0 + r) ≡ true
      r_is = let e : 0 + r ≡ r = omega arith in ap P.is_row e ∙ row

      in_vis : r < length vis
      in_vis = omega (arith, r_lt, g.vis_fit)

      in_due_r : r < length due
      in_due_r = omega (arith, r_lt, g.roomy.due_fit)

      along : {x : ℕ} → x < 64 → Along (get_or due r 0) (gate r) x → Reached r x
      along {x} hx (begun p) = g.sound r x r_lt hx (inr p)
      along hx (up {x} a q m) = G.rises r x row m q (along (omega arith) a)
      along hx (down {x} a q m) = G.falls r x row m q (along m a)

      pub fresh_reached : (x : ℕ) → x < 64 → On fresh x → Reached r x
      fresh_reached x hx p = along hx (F.within x hx (less_on full v x p))

      newly : (x : ℕ) → x < 64 → On full x → On (get_or vis' r 0) x
      newly x hx p =
          rw (get_or-set_same vis r (bit_or v fresh) 0 in_vis)
          (⊎_elim (on_or_left v fresh x) (on_or_right v fresh x) (less_cases full v x (g.words r r_lt) hx p))

      pub pop_keeps : (q x : ℕ) → On (get_or vis q 0) x → On (get_or vis' q 0) x
      pop_keeps q x p =
          ⊎_elim (λ a. rw a.1 (on_or_left v fresh x (subst (λ (i : ℕ). On (get_or vis i 0) x) a.0 p))) (λ a. rw a.1 p)
          (set_cases vis r (bit_or v fresh) q in_vis)

      pub pop_stays : (q x : ℕ) → x < 64 → Lands vis due q x → Lands vis' due' q x
      pop_stays q x hx (inl p) = inl (pop_keeps q x p)
      pop_stays q x hx (inr p) =
          ⊎_elim
          (λ a.
          inl
          (subst (λ (i : ℕ). On (get_or vis' i 0) x) (sym a.0)
          (newly x hx (F.whole x hx (begun (subst (λ (i : ℕ). On (get_or due i 0) x) a.0 p))))))
          (λ a. inr (rw a.1 p)) (set_cases due r 0 q in_due_r)

      back : (q x : ℕ) → On (get_or vis' q 0) x → On (get_or vis q 0) x ⊎ ((q ≡ r) × On fresh x)
      back q x p =
          ⊎_elim
          (λ a.
          ⊎_elim (λ b. inl (subst (λ (i : ℕ). On (get_or vis i 0) x) (sym a.0) b)) (λ b. inr (a.0, b)) (or_on v fresh x (rw a.1 at p)))
          (λ a. inl (rw a.1 at p)) (set_cases vis r (bit_or v fresh) q in_vis)

      pop_going : Going r fresh 0 vis' (flow due' w h)
      pop_going = record {
        roomy =
            let o = g.roomy in
            record {
              due_fit = omega (arith, length-set due r 0);
              waiting_fit = o.waiting_fit;
              small = o.small;
              room = omega (arith, blank_set P.is_row 0 n due r 0 r_lt o.due_fit r_is, o.room);
            };
        vis_fit = omega (arith, length-set vis r (bit_or v fresh), g.vis_fit);
        words = λ q hq.
            ⊎_elim (λ a. rw a.1 (or_lt 64 v fresh (g.words r r_lt) (omega (arith, and_le_l full ((2 ^ 64 - 1) - v)))))
            (λ a. rw a.1 (g.words q hq)) (set_cases vis r (bit_or v fresh) q in_vis);
        sound = λ q x hq hx p.
            ⊎_elim
            (λ a.
            ⊎_elim (λ b. g.sound q x hq hx (inl b)) (λ b. rw b.0 (fresh_reached x hx b.1)) (back q x a))
            (λ a.
            ⊎_elim (λ b. absurd (on_zero x (rw b.1 at a))) (λ b. g.sound q x hq hx (inr (rw b.1 at a)))
            (set_cases due r 0 q in_due_r)) p;
        rising = λ q x hq hx t p.
            ⊎_elim (λ b. pop_stays q (suc x) hx (g.rising q x hq hx t b))
            (λ b.
            inl
            (subst (λ (i : ℕ). On (gate i) (suc x) → On (get_or vis' i 0) (suc x)) (sym b.0)
            (λ t'. newly (suc x) hx (F.whole (suc x) hx (up (F.within x (omega arith) (less_on full v x b.1)) t' hx))) t))
            (back q x p);
        falling = λ q x hq hx t p.
            ⊎_elim (λ b. pop_stays q x (omega arith) (g.falling q x hq hx t b))
            (λ b.
            inl
            (subst (λ (i : ℕ). On (gate i) (suc x) → On (get_or vis' i 0) x) (sym b.0)
            (λ t'.
            let hx' : x < 64 = omega arith in
            newly x hx' (F.whole x hx' (down (F.within (suc x) hx (less_on full v (suc x) b.1)) t' hx))) t)) (back q (suc x) p);
        across = λ q x j hq hx hj t p.
            ⊎_elim
            (λ b.
            ⊎_elim (λ a. inl (pop_stays (beside q j) x hx a)) (λ a. absurd (let z = a.2 in omega arith)) (g.across q x j hq hx hj t b))
            (λ b. inr (b.0, b.1, omega arith)) (back q x p);
        waits = λ i hi. g.waits i (omega arith);
        listed = λ q hq.
            ⊎_elim (λ a. inl a.1) (λ a. ⊎_elim (λ z. inl (a.1 ∙ z)) (λ z. inr (off q a.0 z)) (g.listed q hq))
            (set_cases due r 0 q in_due_r);
      }
        where
          off : (q : ℕ) → (q ≡ r → ⊥) → Waits w (suc h) q → Waits w h q
          off q a (i, hi, e) =
              let le : i ≤ h = omega arith in
              ⊎_elim (λ z. absurd (a (sym e ∙ ap (λ (k : ℕ). get_or w k 0) z))) (λ z. (i, z, e)) (eq-or-lt_of_le le)

  -- ── as the loop bit it ──

  -- words as they stand before: what they mark is reached, and every step from it leads to what they mark
  pub record Settled (vis : List ℕ) : Type 0 where
    pub fit : n ≤ length vis
    pub words : (r : ℕ) → r < n → get_or vis r 0 < 2 ^ 64
    pub known : (r x : ℕ) → r < n → x < 64 → On (get_or vis r 0) x → Reached r x
    pub rises : (r x : ℕ) → r < n → suc x < 64 → On (gate r) (suc x) → On (get_or vis r 0) x → On (get_or vis r 0) (suc x)
    pub falls : (r x : ℕ) → r < n → suc x < 64 → On (gate r) (suc x) → On (get_or vis r 0) (suc x) → On (get_or vis r 0) x
    pub goes : (r x j : ℕ) → r < n → x < 64 → j < 4 → On (door r j) x → On (get_or vis r 0) x → On (get_or vis (beside r j) 0) x

  -- cube x of row q was the first, seen cubes are visited since
  pub record Turn (q x : ℕ) (vis₀ due₀ w₀ vis : List ℕ) (s : Flow) (seen : ℕ) : Type 0 where
    pub going : Going 0 0 4 vis s
    pub begun : Lands vis s.due q x
    pub older : (r y : ℕ) → On (get_or vis₀ r 0) y → On (get_or vis r 0) y
    pub count : lit n vis₀ + seen ≡ lit n vis
    pub on_vis : Beyond n vis₀ vis
    pub on_due : Beyond n due₀ s.due
    pub on_waiting : Beyond P.room w₀ s.waiting

  module _ (G : Ground P Reached) where
    -- one cube is due
    module _ (q x : ℕ) (vis due w : List ℕ) (row : Row q) (hx : x < 64) (first : Reached q x) (old : Settled vis)
        (room : Roomy n P.room P.is_row (flow due w 0)) (no_due : (r : ℕ) → r < n → get_or due r 0 ≡ 0) where
      empty_going : Going 0 0 4 vis (flow due w 0)
      empty_going = record {
        roomy = room;
        vis_fit = old.fit;
        words = old.words;
        sound = λ r y h hy p. ⊎_elim (old.known r y h hy) (λ a. absurd (on_zero y (rw (no_due r h) at a))) p;
        rising = λ r y h hy g p. inl (old.rises r y h hy g p);
        falling = λ r y h hy g p. inl (old.falls r y h hy g p);
        across = λ r y j h hy hj d p. inl (inl (old.goes r y j h hy hj d p));
        waits = λ i h. absurd (omega arith);
        listed = λ r h. inl (no_due r h);
      }

      pub turn_start : (t : Flow) → t ≡ wait q (2 ^ x) (flow due w 0) → Turn q x vis t.due t.waiting vis t 0
      turn_start t e = record {
        going =
            rw e
            (wait_going G 0 0 4 vis (flow due w 0) empty_going q (2 ^ x) row
            (λ y _ p. subst (λ (z : ℕ). Reached q z) (sym (bit_on x y p)) first));
        begun =
            rw e
            (inr (wait_adds q (2 ^ x) (flow due w 0) (in_due G 0 0 4 vis (flow due w 0) empty_going q (2 ^ x) row) x (on_bit x)));
        older = λ r y p. p;
        count = omega arith;
        on_vis = beyond_refl n vis;
        on_due = beyond_refl n t.due;
        on_waiting = beyond_refl P.room t.waiting;
      }

    -- one turn: the last row that waits is taken off
    module _ (q x : ℕ) (vis₀ due₀ w₀ vis due w : List ℕ) (h i seen : ℕ) (hx : x < 64) (e : h ≡ suc i)
        (u : Turn q x vis₀ due₀ w₀ vis (flow due w h) seen) where
      more : Going 0 0 4 vis (flow due w (suc i))
      more = rw e at u.going

      abbrev at : ℕ
      at = get_or w i 0

      pub turn_row : Row at
      turn_row = more.waits i (omega arith)

      pub turn_word : get_or vis at 0 < 2 ^ 64
      turn_word = more.words at (G.row_lt at turn_row)

      module _ (full : ℕ) (l : full < 2 ^ 64) (F : Filled (get_or due at 0) (gate at) full) where
        abbrev new : ℕ
        new = less full (get_or vis at 0)

        abbrev grown : List ℕ
        grown = set vis at (bit_or (get_or vis at 0) new)

        abbrev popped : Flow
        popped = flow (set due at 0) w i

        going_popped : Going at new 0 grown popped
        going_popped = pop_going G 0 0 vis due w i more full l F

        pub turn_roomy : Roomy n P.room P.is_row popped
        turn_roomy = going_popped.roomy

        pub turn_count : lit n vis₀ + (seen + ones new) ≡ lit n grown
        turn_count =
            omega (
              arith,
              u.count,
              lit_set n vis at (bit_or (get_or vis at 0) new) (G.row_lt at turn_row) more.vis_fit,
              ones_less full
                  (get_or vis at 0) turn_word,
            )

        pub turn_bound : lit n grown ≤ 64 * n
        turn_bound = lit_le n grown going_popped.words

        module _ (t : Flow) (s : t ≡ sends grown (door at) (beside at) new 4 popped) where
          kept : Kept n P.room P.is_row 4 popped t
          kept = rw s (sends_kept n P.room P.is_row grown (door at) (beside at) new 4 popped
              (λ j hj. let b = G.row_on at j turn_row hj in (G.row_lt (beside at j) b, b)) turn_roomy)

          -- what is not visited yet counts five times, a row that waits once
          pub turn_less : 5 * (64 * n - lit n grown) + t.height < 5 * (64 * n - lit n vis) + h
          turn_less = go (ℕ_discrete new 0)
            where
              go : Dec (new ≡ 0) → 5 * (64 * n - lit n grown) + t.height < 5 * (64 * n - lit n vis) + h
              go (yes z) =
                  let same : t ≡ popped = s ∙ (ap (λ (f : ℕ). sends grown (door at) (beside at) f 4 popped) z
                  ∙ sends_none grown (door at) (beside at) 4 popped) in
                  let high : t.height ≡ i = ap (λ (a : Flow). a.height) same in
                  omega (arith, turn_count, u.count, ap ones z, ones_zero)
              go (no f) = omega (arith, turn_count, u.count, turn_bound, ones_some new f, kept.higher)

          pub turn : Turn q x vis₀ due₀ w₀ grown t (seen + ones new)
          turn = record {
            going =
                going_any G at new 0 0 grown t
                (rw s (going_sends G at new grown popped turn_row (fresh_reached G 0 0 vis due w i more full l F) going_popped 4
                (omega arith)));
            begun =
                rw s
                (sends_stays G at new grown popped turn_row (fresh_reached G 0 0 vis due w i more full l F) going_popped 4 (omega arith) q x
                (pop_stays G 0 0 vis due w i more full l F q x hx u.begun));
            older = λ r y p. pop_keeps G 0 0 vis due w i more full l F r y (u.older r y p);
            count = turn_count;
            on_vis = beyond_trans u.on_vis (beyond_set n vis at (bit_or (get_or vis at 0) new) (G.row_lt at turn_row));
            on_due =
                beyond_trans u.on_due (beyond_trans (beyond_set n due at 0 (G.row_lt at turn_row)) kept.on_due);
            on_waiting = beyond_trans u.on_waiting kept.on_waiting;
          }

    -- nothing waits: nothing is due, and every step from a visited cube leads to a visited cube
    module _ (q x : ℕ) (vis₀ due₀ w₀ vis : List ℕ) (s : Flow) (seen : ℕ) (e : s.height ≡ 0) (u : Turn q x vis₀ due₀ w₀ vis s seen) where
      pub all_done : (r : ℕ) → r < n → get_or s.due r 0 ≡ 0
      all_done r h = ⊎_elim (λ z. z) (λ w. absurd (let l = w.1 in omega arith)) (u.going.listed r h)

      pub landed : (r y : ℕ) → r < n → Lands vis s.due r y → On (get_or vis r 0) y
      landed r y h p = ⊎_elim (λ a. a) (λ a. absurd (on_zero y (rw (all_done r h) at a))) p

      pub left_across : (r y j : ℕ) → r < n → y < 64 → j < 4 → beside r j < n → On (door r j) y → On (get_or vis r 0) y
          → On (get_or vis (beside r j) 0) y
      left_across r y j hr hy hj hb d p =
          ⊎_elim (landed (beside r j) y hb) (λ a. absurd (let l = a.2 in omega arith)) (u.going.across r y j hr hy hj d p)
