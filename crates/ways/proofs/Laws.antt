-- Laws of `wait` and `sends`: what they make due, what they count, what they keep. Assumes nothing.
use mathlib.Core.Path.{◌≡◌, refl, sym, ap, subst, ◌∙◌}
use mathlib.Core.Bool.{Bool, true, false, cond}
use mathlib.Core.List.{List, [], ◌∷◌}
use mathlib.Core.Logic.{◌⊎◌, inl, inr, ⊎_elim}
use Prim.Native.Nat.{ℕ, zero, suc, ◌+◌, ◌*◌, ◌≤◌, ◌<◌, ◌^◌}
use native.Mathlib.Nat.{not-suc-le-zero, le_of_suc-le-suc, add-zero}
use native.Mathlib.Decide.{ℕ_discrete}
use native.Mathlib.Numerals.{add-one}
use native.Mathlib.Omega.{arith}
use lib.Dec.{eqb}
use Rattle.lists.proofs.Stores.{beyond_refl, beyond_trans, beyond_set}
use Rattle.lists.specs.Lists.{range, keep, cons_if, Beyond}
use lib.Bits.{bit_and, bit_or, or_add_and, and_le_l}
use lib.Count.{ones, ones-le}
use lib.ListN.{length, get_or, set}
use lib.Seq.{get_or-set_same, get_or-set_other}
use borrow.Author.Tests.{eqb-true, eqb-false}
use Rattle.bits.specs.Words.{On, less}
use Rattle.bits.proofs.Places.{on_zero, on_or_left, on_or_right, or_on}
use Rattle.ways.specs.Flow.{Flow, flow, wait, sends, blank, one_if_zero, Roomy}

-- a store, read at its own place and at another
pub set_cases : (l : List ℕ) (i v j : ℕ) → i < length l
    → ((j ≡ i) × (get_or (set l i v) j 0 ≡ v)) ⊎ ((j ≡ i → ⊥) × (get_or (set l i v) j 0 ≡ get_or l j 0))
set_cases l i v j h = go (ℕ_discrete j i)
  where
    go : Dec (j ≡ i) → ((j ≡ i) × (get_or (set l i v) j 0 ≡ v)) ⊎ ((j ≡ i → ⊥) × (get_or (set l i v) j 0 ≡ get_or l j 0))
    go (yes p) = inl (p, rw p (get_or-set_same l i v 0 h))
    go (no q) = inr (q, get_or-set_other l i j v 0 q)

-- ── what is kept past the first n ──

-- ── counting ──

one_if : (v : ℕ) → (v ≡ 0 → ⊥) → one_if_zero v ≡ 0
one_if zero h = absurd (h refl)
one_if (suc v) h = refl

-- a store changes one word
pub blank_set : (row : ℕ → Bool) (i n : ℕ) (m : List ℕ) (d v : ℕ) → d < n → n ≤ length m → row (i + d) ≡ true
    → blank row i n (set m d v) + one_if_zero (get_or m d 0) ≡ blank row i n m + one_if_zero v
unfolding blank
blank_set row i zero m d v h f r = absurd (not-suc-le-zero h)
blank_set row i (suc n) [] d v h f r = absurd (not-suc-le-zero f)
blank_set row i (suc n) (x ∷ xs) zero v h f r =
    let e : row i ≡ true = ap row (sym (add-zero i)) ∙ r in
    omega (arith, ap (λ (b : Bool). cond b (one_if_zero x) 0) e, ap (λ (b : Bool). cond b (one_if_zero v) 0) e)
blank_set row i (suc n) (x ∷ xs) (suc d) v h f r =
    let e : suc i + d ≡ i + suc d = omega arith in
    let ih = blank_set row (suc i) n xs d v (le_of_suc-le-suc h) (le_of_suc-le-suc f) (ap row e ∙ r) in omega arith

pub blank_le : (row : ℕ → Bool) (i n : ℕ) (m : List ℕ) → blank row i n m ≤ length (keep row (range i n))
unfolding blank
blank_le row i zero m = omega arith
blank_le row i (suc n) [] = omega arith
blank_le row i (suc n) (x ∷ xs) = go (row i) x (blank_le row (suc i) n xs)
  where
    go : (b : Bool) (v : ℕ) → blank row (suc i) n xs ≤ length (keep row (range (suc i) n))
        → cond b (one_if_zero v) 0 + blank row (suc i) n xs ≤ length (cons_if b i (keep row (range (suc i) n)))
    go true zero h = omega arith
    go true (suc v) h = omega arith
    go false v h = omega arith

-- how many places the first n words have
unfoldable pub lit : ℕ → List ℕ → ℕ
lit zero xs = 0
lit (suc n) [] = 0
lit (suc n) (x ∷ xs) = ones x + lit n xs

pub lit_set : (n : ℕ) (m : List ℕ) (d v : ℕ) → d < n → n ≤ length m → lit n (set m d v) + ones (get_or m d 0) ≡ lit n m + ones v
unfolding lit
lit_set zero m d v h f = absurd (not-suc-le-zero h)
lit_set (suc n) [] d v h f = absurd (not-suc-le-zero f)
lit_set (suc n) (x ∷ xs) zero v h f = omega arith
lit_set (suc n) (x ∷ xs) (suc d) v h f =
    let ih = lit_set n xs d v (le_of_suc-le-suc h) (le_of_suc-le-suc f) in omega arith

pub lit_le : (n : ℕ) (m : List ℕ) → ((r : ℕ) → r < n → get_or m r 0 < 2 ^ 64) → lit n m ≤ 64 * n
unfolding lit
lit_le zero m f = omega arith
lit_le (suc n) [] f = omega arith
lit_le (suc n) (x ∷ xs) f =
    let ih = lit_le n xs (λ r h. f (suc r) (omega arith)) in
    omega (arith, ones-le 64 x (f 0 (omega arith)))

-- ── `wait` by its three cases ──

or_some : (a b : ℕ) → (b ≡ 0 → ⊥) → bit_or a b ≡ 0 → ⊥
or_some a b q e = q (omega (arith, or_add_and a b, and_le_l a b, e))

module _ (to m : ℕ) (s : Flow) where
  abbrev fuller : List ℕ
  fuller = set s.due to (bit_or (get_or s.due to 0) m)

  pub wait_elim : (P : Flow → Type 0)
      → (m ≡ 0 → P s)
      → ((m ≡ 0 → ⊥) → get_or s.due to 0 ≡ 0 → P (flow fuller (set s.waiting s.height to) (s.height + 1)))
      → ((m ≡ 0 → ⊥) → (get_or s.due to 0 ≡ 0 → ⊥) → P (flow fuller s.waiting s.height))
      → P (wait to m s)
  unfolding wait
  wait_elim P none new old = go (eqb m 0) refl (eqb (get_or s.due to 0) 0) refl
    where
      go : (a : Bool) → eqb m 0 ≡ a → (b : Bool) → eqb (get_or s.due to 0) 0 ≡ b
          → P (cond a s (cond b (flow fuller (set s.waiting s.height to) (s.height + 1)) (flow fuller s.waiting s.height)))
      go true p b q = none (eqb-true m 0 p)
      go false p true q = new (eqb-false m 0 p) (eqb-true (get_or s.due to 0) 0 q)
      go false p false q = old (eqb-false m 0 p) (eqb-false (get_or s.due to 0) 0 q)

  pub wait_none : m ≡ 0 → wait to m s ≡ s
  wait_none e = wait_elim (λ t. t ≡ s) (λ _. refl) (λ q _. absurd (q e)) (λ q _. absurd (q e))

  pub wait_new : (m ≡ 0 → ⊥) → get_or s.due to 0 ≡ 0 → wait to m s ≡ flow fuller (set s.waiting s.height to) (s.height + 1)
  wait_new q e =
      wait_elim (λ t. t ≡ flow fuller (set s.waiting s.height to) (s.height + 1)) (λ z. absurd (q z)) (λ _ _. refl)
      (λ _ f. absurd (f e))

  pub wait_old : (m ≡ 0 → ⊥) → (get_or s.due to 0 ≡ 0 → ⊥) → wait to m s ≡ flow fuller s.waiting s.height
  wait_old q e = wait_elim (λ t. t ≡ flow fuller s.waiting s.height) (λ z. absurd (q z)) (λ _ f. absurd (e f)) (λ _ _. refl)

  -- what is due after it
  module _ (l : to < length s.due) where
    fuller_keeps : (r x : ℕ) → On (get_or s.due r 0) x → On (get_or fuller r 0) x
    fuller_keeps r x p =
        ⊎_elim (λ q. rw q.1 (on_or_left (get_or s.due to 0) m x (subst (λ (i : ℕ). On (get_or s.due i 0) x) q.0 p)))
        (λ q. rw q.1 p)
        (set_cases s.due to (bit_or (get_or s.due to 0) m) r l)

    fuller_adds : (x : ℕ) → On m x → On (get_or fuller to 0) x
    fuller_adds x p = rw (get_or-set_same s.due to (bit_or (get_or s.due to 0) m) 0 l) (on_or_right (get_or s.due to 0) m x p)

    fuller_only : (r x : ℕ) → On (get_or fuller r 0) x → On (get_or s.due r 0) x ⊎ ((r ≡ to) × On m x)
    fuller_only r x p =
        ⊎_elim
        (λ q.
        ⊎_elim (λ a. inl (subst (λ (i : ℕ). On (get_or s.due i 0) x) (sym q.0) a)) (λ a. inr (q.0, a))
        (or_on (get_or s.due to 0) m x (rw q.1 at p)))
        (λ q. inl (rw q.1 at p)) (set_cases s.due to (bit_or (get_or s.due to 0) m) r l)

    pub wait_keeps : (r x : ℕ) → On (get_or s.due r 0) x → On (get_or (wait to m s).due r 0) x
    wait_keeps r x p =
        wait_elim (λ t. On (get_or t.due r 0) x) (λ _. p) (λ _ _. fuller_keeps r x p) (λ _ _. fuller_keeps r x p)

    pub wait_adds : (x : ℕ) → On m x → On (get_or (wait to m s).due to 0) x
    wait_adds x p =
        wait_elim (λ t. On (get_or t.due to 0) x) (λ e. absurd (on_zero x (rw e at p))) (λ _ _. fuller_adds x p) (λ _ _. fuller_adds x p)

    pub wait_only : (r x : ℕ) → On (get_or (wait to m s).due r 0) x → On (get_or s.due r 0) x ⊎ ((r ≡ to) × On m x)
    wait_only r x =
        wait_elim (λ t. On (get_or t.due r 0) x → On (get_or s.due r 0) x ⊎ ((r ≡ to) × On m x)) (λ _. inl) (λ _ _. fuller_only r x)
        (λ _ _. fuller_only r x)

-- ── what is kept ──

-- `s` is what `s₀` was past the first n, and bit at most g rows more
pub record Kept (n cap : ℕ) (row : ℕ → Bool) (g : ℕ) (s₀ s : Flow) : Type 0 where
  pub roomy : Roomy n cap row s
  pub on_due : Beyond n s₀.due s.due
  pub on_waiting : Beyond cap s₀.waiting s.waiting
  pub higher : s.height ≤ s₀.height + g

kept_refl : (n cap : ℕ) (row : ℕ → Bool) (g : ℕ) (s : Flow) → Roomy n cap row s → Kept n cap row g s s
kept_refl n cap row g s r = record {
  roomy = r;
  on_due = beyond_refl n s.due;
  on_waiting = beyond_refl cap
      s.waiting;
  higher = omega arith;
}

module _ (n cap : ℕ) (row : ℕ → Bool) (to m : ℕ) (s : Flow) (q : Roomy n cap row s) (l : to < n) (is : row to ≡ true) where
  is' : row (0 + to) ≡ true
  is' = let e : 0 + to ≡ to = omega arith in ap row e ∙ is

  -- a row that does not wait leaves room for itself
  pub wait_room : get_or s.due to 0 ≡ 0 → s.height < cap
  wait_room e =
      let b = blank_set row 0 n s.due to 1 l q.due_fit is' in
      omega (arith, b, ap one_if_zero e, q.room)

  abbrev v : ℕ
  v = bit_or (get_or s.due to 0) m

  pub wait_kept : Kept n cap row 1 s (wait to m s)
  wait_kept =
      wait_elim to m s (λ t. Kept n cap row 1 s t) (λ _. kept_refl n cap row 1 s q)
      (λ a e.
      let h = wait_room e in
      let b = blank_set row 0 n s.due to v l q.due_fit is' in
      let o = one_if v (or_some (get_or s.due to 0) m a) in
      let d = beyond_set n s.due to v l in
      let w = beyond_set cap s.waiting s.height to h in
      record {
        roomy = record {
          due_fit = omega arith;
          waiting_fit = omega arith;
          small = q.small;
          room = omega (arith, b, o, ap one_if_zero e, q.room);
        };
        on_due = d;
        on_waiting = w;
        higher = omega arith;
      })
      (λ a e.
      let b = blank_set row 0 n s.due to v l q.due_fit is' in
      let o = one_if v (or_some (get_or s.due to 0) m a) in
      let d = beyond_set n s.due to v l in
      record {
        roomy = record {
          due_fit = omega arith;
          waiting_fit = q.waiting_fit;
          small = q.small;
          room = omega (arith, b, o, one_if (get_or s.due to 0) e, q.room);
        };
        on_due = d;
        on_waiting = beyond_refl cap s.waiting;
        higher = omega arith;
      })

module _ (n cap : ℕ) (row : ℕ → Bool) (vis : List ℕ) (door beside : ℕ → ℕ) (f : ℕ) where
  pub sends_kept : (k : ℕ) (s : Flow) → ((j : ℕ) → j < k → (beside j < n) × (row (beside j) ≡ true)) → Roomy n cap row s
      → Kept n cap row k s (sends vis door beside f k s)
  unfolding sends
  sends_kept zero s b r = kept_refl n cap row 0 s r
  sends_kept (suc k) s b r =
      let p = sends_kept k s (λ j h. b j (omega arith)) r in
      let m = less (bit_and f (door k)) (get_or vis (beside k) 0) in
      let t = sends vis door beside f k s in
      let a = b k (omega arith) in
      let w = wait_kept n cap row (beside k) m t p.roomy a.0 a.1 in
      record {
        roomy = w.roomy;
        on_due = beyond_trans p.on_due w.on_due;
        on_waiting = beyond_trans p.on_waiting w.on_waiting;
        higher = omega (arith, p.higher, w.higher);
      }

  -- the same, as a loop over k bit them
  pub sends_kept_of : (k : ℕ) (s : Flow) {t : Flow} → t ≡ sends vis door beside f k s
      → ((j : ℕ) → j < k → (beside j < n) × (row (beside j) ≡ true))
      → Roomy n cap row s → Kept n cap row k s t
  sends_kept_of k s e b r = rw e (sends_kept k s b r)

  pub sends_step : (k : ℕ) (s t u : Flow) → t ≡ sends vis door beside f k s
      → u ≡ wait (beside k) (less (bit_and f (door k)) (get_or vis (beside k) 0)) t → u ≡ sends vis door beside f (k + 1) s
  unfolding sends
  sends_step k s t u p r =
      r ∙ (ap (wait (beside k) (less (bit_and f (door k)) (get_or vis (beside k) 0))) p
      ∙ ap (λ (j : ℕ). sends vis door beside f j s) (sym (add-one k)))

-- no place, nothing sent
pub sends_none : (vis : List ℕ) (door beside : ℕ → ℕ) (k : ℕ) (s : Flow) → sends vis door beside 0 k s ≡ s
unfolding sends
sends_none vis door beside zero s = refl
sends_none vis door beside (suc k) s = wait_none (beside k) 0 (sends vis door beside 0 k s) refl ∙ sends_none vis door beside k s
