-- Numbers compared one by one, and runs of them one behind the other. Assumes nothing.
use mathlib.Core.Path.{◌≡◌, refl, sym, ap, subst, ◌∙◌}
use mathlib.Core.Bool.{Bool, true}
use mathlib.Core.List.{List, [], ◌++◌}
use Prim.Native.Nat.{ℕ, ◌+◌, ◌≤◌, ◌<◌}
use native.Mathlib.Omega.{arith}
use lib.ListN.{length, get_or, take, drop, length-append, length-drop}
use lib.Seq.{length-take-le, take_all, take-add, drop-drop, get_or-take, get_or-drop, ext_get_or, take-append_seam, sets}
use borrow.Author.Count.{below_more}
use Rattle.lists.specs.Lists.{range, each}
use Rattle.lists.proofs.Runs.{each_more}
use Rattle.lists.proofs.Stores.{sets_front}
use Rattle.check_ordered.specs.Ordered.{Follows}

module _ {A : Type 0} (d : A) (fs ws : List A) (at : ℕ) where
  -- the numbers from `at` on are the first i of ws, where `same` says so
  pub record Alike (n i : ℕ) (same : Bool) : Type 0 where
    pub upto : i ≤ n
    pub so_far : same ≡ true → (k : ℕ) → k < i → get_or fs (at + k) d ≡ get_or ws k d

  pub alike_none : (n : ℕ) → Alike n 0 true
  alike_none n = record { upto = omega arith; so_far = λ e k h. absurd (omega arith) }

  pub alike_more : (n i : ℕ) (same r : Bool) → Alike n i same → i < n
      → (r ≡ true → (same ≡ true) × (get_or fs (at + i) d ≡ get_or ws i d)) → Alike n (i + 1) r
  alike_more n i same r a h f = record {
    upto = omega arith;
    so_far = λ e. below_more (λ k. get_or fs (at + k) d ≡ get_or ws k d) i (a.so_far (f e).0) (f e).1;
  }

  pub alike_all : (n i : ℕ) (same : Bool) → Alike n i same → n ≤ i → at + n ≤ length fs → n ≤ length ws
      → same ≡ true → take n (drop at fs) ≡ take n ws
  alike_all n i same a g hf hw e =
      let lf = length-take-le n (drop at fs) (omega (arith, length-drop at fs)) in
      let lw = length-take-le n ws hw in
      ext_get_or d (take n (drop at fs)) (take n ws) (lf ∙ sym lw)
      (λ k h.
      let l : k < n = omega arith in
      get_or-take n (drop at fs) k d l ∙ (get_or-drop at fs k d ∙ (a.so_far e k (omega (arith, a.upto)) ∙ sym (get_or-take n ws k d l))))

-- ── runs of numbers one behind the other ──

module _ {A : Type 0} (fs : List A) where
  pub follows_none : (at : ℕ) → Follows fs at [] at
  follows_none at = record { is = refl; next_is = omega arith }

  pub follows_join : (at m n : ℕ) (a b : List A) → Follows fs at a m → Follows fs m b n → Follows fs at (a ++ b) n
  follows_join at m n a b f g = record {
    is =
        ap (λ (k : ℕ). take k (drop at fs)) (length-append a b)
        ∙ (take-add (length a) (length b) (drop at fs)
        ∙ ((λ i. f.is i ++ take (length b) (drop-drop (length a) at fs i))
        ∙ (ap (λ (k : ℕ). a ++ take (length b) (drop k fs)) (sym f.next_is) ∙ ap (λ (l : List A). a ++ l) g.is)));
    next_is = omega (arith, f.next_is, g.next_is, length-append a b);
  }

  -- all there are
  pub follows_all : (ts : List A) (next : ℕ) → Follows fs 0 ts next → next ≡ length fs → fs ≡ ts
  follows_all ts next f e = sym (take_all (length ts) fs (omega (arith, f.next_is))) ∙ f.is

  -- numbers that a front of a slice has
  pub follows_front : (at n : ℕ) (ts old new : List A) → new ≡ sets old 0 ts → n ≡ length ts → length ts ≤ length old
      → take n (drop at fs) ≡ take n new → Follows fs at ts (at + n)
  follows_front at n ts old new e q h t = record {
    is =
        ap (λ (k : ℕ). take k (drop at fs)) (sym q)
        ∙ (t
        ∙ ((λ i. take (q i) (e i)) ∙ (ap (take (length ts)) (sets_front old ts h) ∙ take-append_seam ts (drop (length ts) old))));
    next_is = ap (λ (k : ℕ). at + k) q;
  }

-- k of n runs are there, and the file reaches to the end
pub record Found {A : Type 0} (f : ℕ → List A) (fs : List A) (at end n k next : ℕ) : Type 0 where
  pub upto : k ≤ n
  pub within : next ≤ end
  pub follows : Follows fs at (each f (range 0 k)) next

module _ {A : Type 0} (f : ℕ → List A) (fs : List A) (at end n : ℕ) where
  pub found_none : at ≤ end → Found f fs at end n 0 at
  found_none h = record { upto = omega arith; within = h; follows = follows_none fs at }

  pub found_more : (k next next' : ℕ) → Found f fs at end n k next → k < n → next' ≤ end → Follows fs next (f k) next'
      → Found f fs at end n (k + 1) next'
  found_more k next next' g h l w = record {
    upto = omega arith;
    within = l;
    follows =
        subst (λ (ts : List A). Follows fs at ts next') (sym (each_more f k))
        (follows_join fs at next next' (each f (range 0 k)) (f k) g.follows w);
  }

  pub found_all : (k next : ℕ) → Found f fs at end n k next → n ≤ k → Follows fs at (each f (range 0 n)) next
  found_all k next g h =
      let q : k ≡ n = omega (arith, g.upto) in
      subst (λ (k : ℕ). Follows fs at (each f (range 0 k)) next) q g.follows
