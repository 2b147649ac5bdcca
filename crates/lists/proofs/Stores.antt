-- Stores: of one run behind the other, of one value at many places, of 0 at the front, and of straight-line code. Assumes nothing.
use mathlib.Core.Path.{◌≡◌, refl, sym, ap, ◌∙◌}
use mathlib.Core.Bool.{Bool, true, false, cond, ◌||◌}
use mathlib.Core.List.{List, [], ◌∷◌, ◌++◌}
use Prim.Native.Nat.{ℕ, suc, ◌+◌, ◌*◌, ◌≤◌, ◌<◌}
use native.Mathlib.Omega.{arith}
use native.Mathlib.Nat.{add-zero, zero-add}
use native.Mathlib.Numerals.{add-one}
use lib.Dec.{eqb}
use lib.ListN.{length, get_or, drop, set, replicate, length-set, length-append}
use lib.ListN.{length-replicate, length-drop, get_or-replicate, get_or-append}
use lib.Seq.{sets, sets-eq, drop_at, drop-set-lt, get_or-set_same, get_or-set_other}
use borrow.Author.Tests.{eqb-true, eqb-false}
use Rattle.lists.specs.Lists.{each, is_in, over, stored, cleared, Beyond}
use Rattle.lists.proofs.Every.{All, each_length}
use Rattle.lists.proofs.Runs.{each_append}

module _ {A : Type 0} where
  pub sets_join : (l a b : List A) (i : ℕ) → sets (sets l i a) (i + length a) b ≡ sets l i (a ++ b)
  sets_join l [] b i = ap (λ (j : ℕ). sets l j b) (add-zero i)
  sets_join l (x ∷ a) b i =
      let e : i + suc (length a) ≡ suc i + length a = omega arith in
      ap (λ (j : ℕ). sets (sets (set l i x) (suc i) a) j b) e ∙ sets_join (set l i x) a b (suc i)

  -- one list stored after another
  pub sets_next : (l : List A) {l₁ l₂ : List A} (at to : ℕ) (a b : List A) → at + length a ≡ to → l₁ ≡ sets l at a → l₂ ≡ sets l₁ to b
      → l₂ ≡ sets l at (a ++ b)
  sets_next l at to a b n e f =
      f ∙ (ap (λ (m : List A). sets m to b) e ∙ (ap (λ (k : ℕ). sets (sets l at a) k b) (sym n) ∙ sets_join l a b at))

  pub sets_front : (l a : List A) → length a ≤ length l → sets l 0 a ≡ over a l
  sets_front l a h = sets-eq a l 0 (omega arith) ∙ ap (λ (n : ℕ). a ++ drop n l) (zero-add (length a))

-- things that take k entries each: those of b behind those of a, which stand from the at-th on
pub each_behind : {A B : Type 0} (f : A → List B) (k : ℕ) → ((x : A) → length (f x) ≡ k) → (at : ℕ) (l : List B) (a b : List A)
    → sets (sets l (k * at) (each f a)) (k * (at + length a)) (each f b) ≡ sets l (k * at) (each f (a ++ b))
each_behind f k long at l a b =
    let e : k * (at + length a) ≡ k * at + length (each f a) = omega (arith, each_length f k long a) in
    ap (λ (j : ℕ). sets (sets l (k * at) (each f a)) j (each f b)) e
    ∙ (sets_join l (each f a) (each f b) (k * at) ∙ ap (sets l (k * at)) (sym (each_append f a b)))

-- ── one value at many places ──

module _ (v : ℕ) where
  pub stored_append : (a b l : List ℕ) → stored v (a ++ b) l ≡ stored v b (stored v a l)
  stored_append [] b l = refl
  stored_append (e ∷ a) b l = stored_append a b (set l e v)

  pub stored_length : (es l : List ℕ) → length (stored v es l) ≡ length l
  stored_length [] l = refl
  stored_length (e ∷ es) l = stored_length es (set l e v) ∙ length-set l e v

  pub stored_at : (es l : List ℕ) (e : ℕ) → e < length l → get_or (stored v es l) e 0 ≡ cond (is_in es e) v (get_or l e 0)
  stored_at [] l e h = refl
  stored_at (x ∷ es) l e h = stored_at es (set l x v) e (omega (arith, length-set l x v)) ∙ go (eqb e x) refl
    where
      stay : (b : Bool) → cond b v v ≡ v
      stay true = refl
      stay false = refl

      go : (b : Bool) → eqb e x ≡ b → cond (is_in es e) v (get_or (set l x v) e 0) ≡ cond (b || is_in es e) v (get_or l e 0)
      go true q =
          let p : e ≡ x = eqb-true e x q in
          ap (cond (is_in es e) v) (ap (λ (k : ℕ). get_or (set l k v) e 0) (sym p) ∙ get_or-set_same l e v 0 h) ∙ stay (is_in es e)
      go false q = ap (cond (is_in es e) v) (get_or-set_other l x e v 0 (eqb-false e x q))

  pub stored_rest : (n : ℕ) (es l : List ℕ) → All (λ e. e < n) es → drop n (stored v es l) ≡ drop n l
  stored_rest n [] l h = refl
  stored_rest n (x ∷ es) l h = stored_rest n es (set l x v) h.1 ∙ drop-set-lt n l x v h.0

-- ── a front that is 0 ──

module _ (n : ℕ) (l : List ℕ) where
  pub cleared_at : (k : ℕ) → k < n → get_or (cleared n l) k 0 ≡ 0
  cleared_at k h =
      get_or-append (replicate n 0) (drop n l) 0 k (omega (arith, length-replicate {A = ℕ} n 0)) ∙ get_or-replicate n k 0 0 h

  pub cleared_rest : drop n (cleared n l) ≡ drop n l
  cleared_rest = drop_at (replicate n 0) (drop n l) n (length-replicate n 0)

  pub cleared_length : n ≤ length l → length (cleared n l) ≡ length l
  cleared_length h = length-append (replicate n 0) (drop n l) ∙ omega (arith, length-replicate {A = ℕ} n 0, length-drop n l)

-- ── what is left past a front ──

pub beyond_refl : (n : ℕ) (l : List ℕ) → Beyond n l l
beyond_refl n l = record { same_length = refl; rest = refl }

pub beyond_trans : {n : ℕ} {a b c : List ℕ} → Beyond n a b → Beyond n b c → Beyond n a c
beyond_trans p q = record { same_length = q.same_length ∙ p.same_length; rest = q.rest ∙ p.rest }

pub beyond_set : (n : ℕ) (l : List ℕ) (i v : ℕ) → i < n → Beyond n l (set l i v)
beyond_set n l i v h = record { same_length = length-set l i v; rest = drop-set-lt n l i v h }

pub beyond_cleared : (n : ℕ) (l : List ℕ) → n ≤ length l → Beyond n l (cleared n l)
beyond_cleared n l h = record { same_length = cleared_length n l h; rest = cleared_rest n l }

-- a clear leaves what it would have left before
pub clear_beyond : (n : ℕ) (l m : List ℕ) → Beyond n l m → cleared n m ≡ cleared n l
clear_beyond n l m b = ap (λ (r : List ℕ). replicate n 0 ++ r) b.rest

-- ── straight-line code ──

module _ {A : Type 0} (l : List A) (i : ℕ) (a b : A) where
  pub sets2 : set (set l i a) (i + 1) b ≡ sets l i (a ∷ b ∷ [])
  sets2 = rw add-one

  pub sets3 : (c : A) → set (set (set l i a) (i + 1) b) (i + 2) c ≡ sets l i (a ∷ b ∷ c ∷ [])
  sets3 c =
      let e₁ : i + 1 ≡ suc i = omega arith in
      let e₂ : i + 2 ≡ suc (suc i) = omega arith in
      rw (e₁, e₂)

  pub sets4 : (c d : A) → set (set (set (set l i a) (i + 1) b) (i + 2) c) (i + 3) d ≡ sets l i (a ∷ b ∷ c ∷ d ∷ [])
  sets4 c d =
      let e₁ : i + 1 ≡ suc i = omega arith in
      let e₂ : i + 2 ≡ suc (suc i) = omega arith in
      let e₃ : i + 3 ≡ suc (suc (suc i)) = omega arith in
      rw (e₁, e₂, e₃)
