-- A list of n entries that a loop fills from the front. Assumes nothing.
use mathlib.Core.Path.{◌≡◌, sym, ap, ◌∙◌}
use mathlib.Core.List.{List, map}
use Prim.Native.Nat.{ℕ, ◌+◌, ◌≤◌, ◌<◌}
use native.Mathlib.Omega.{arith}
use native.Mathlib.Decide.{ℕ_discrete}
use lib.ListN.{length, get_or, set, length-set}
use lib.Seq.{ext_get_or, get_or-set_same, get_or-set_other}
use Rattle.lists.specs.Lists.{range}
use Rattle.lists.proofs.Runs.{length_along, at_along}

-- the first i of the n entries are f's
pub record Filled (f : ℕ → ℕ) (n i : ℕ) (l : List ℕ) : Type 0 where
  pub long : length l ≡ n
  pub upto : i ≤ n
  pub front : (k : ℕ) → k < i → get_or l k 0 ≡ f k

module _ (f : ℕ → ℕ) (n : ℕ) where
  pub filled_none : (l : List ℕ) → length l ≡ n → Filled f n 0 l
  filled_none l e = record { long = e; upto = omega arith; front = λ k h. absurd (omega arith) }

  pub filled_more : (i v : ℕ) (l : List ℕ) → Filled f n i l → i < n → v ≡ f i → Filled f n (i + 1) (set l i v)
  filled_more i v l w h e = record {
    long = length-set l i v ∙ w.long;
    upto = omega arith;
    front = λ k hk. go k hk (ℕ_discrete k i);
  }
    where
      go : (k : ℕ) → k < i + 1 → Dec (k ≡ i) → get_or (set l i v) k 0 ≡ f k
      go k hk (yes q) = ap (λ (k : ℕ). get_or (set l i v) k 0) q ∙ (get_or-set_same l i v 0 (omega (arith, w.long)) ∙ (e ∙ ap f (sym q)))
      go k hk (no q) = get_or-set_other l i k v 0 q ∙ w.front k (omega arith)

  pub filled_all : (i : ℕ) (l : List ℕ) → n ≤ i → Filled f n i l → l ≡ map f (range 0 n)
  filled_all i l h w =
      ext_get_or 0 l (map f (range 0 n)) (w.long ∙ sym (length_along f 0 n))
      (λ k hk. w.front k (omega (arith, w.long)) ∙ sym (at_along f 0 n k (omega (arith, w.long))))
