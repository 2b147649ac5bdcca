-- The vertices of rows of edges in a file's numbers, one row behind the other. Assumes nothing.
use mathlib.Core.Path.{◌≡◌, refl, sym, ap, subst, ◌∙◌}
use mathlib.Core.List.{List, [], ◌++◌}
use Prim.Native.Nat.{ℕ, ◌+◌, ◌-◌, ◌*◌, ◌≤◌, ◌<◌}
use native.Mathlib.Omega.{arith}
use lib.IntN.{ℤ}
use lib.ListN.{length, length-append}
use Rattle.lists.specs.Lists.{range, keep, each, Beyond}
use Rattle.lists.proofs.Runs.{range_join, keep_append, each_append, each_more}
use Rattle.lists.proofs.Stores.{beyond_refl, beyond_trans}
use Rattle.paper.specs.declared.Rule.{Rule}
use Rattle.paper.specs.Lattice.{Lattice}
use Rattle.paper.specs.Sheet.{vertex_record}
use Rattle.paper.specs.Room.{needed_slots}
use Rattle.kinds.specs.declared.KindWords.{KindWords}
use Rattle.kinds.specs.Kinds.{seven, is_edge}
use Rattle.check_entries.specs.Entries.{has_edge}
use Rattle.dots.specs.Dots.{numbered}
use Rattle.dots.proofs.Laws.{numbered_join}
use Rattle.check_ordered.specs.Ordered.{Follows, Listed, Listing, kept}
use Rattle.check_ordered.proofs.Laws.{follows_none, follows_join, follows_all}

-- ── one row behind the other ──

module _ (rule : Rule) (L : Lattice) (fs : List ℤ) (nv : ℕ) where
  -- none
  pub listing_none : (at : ℕ) (l : List ℕ) → Listing rule L [] fs nv at l at l
  listing_none at l = record {
    listed = λ h. record { follows = follows_none fs (4 * at); numbers = record { slots = refl; next_is = omega arith } };
    beyond = beyond_refl (needed_slots L.size) l;
  }

  -- some behind others that the file has
  pub listing_join : (at m n : ℕ) (a b k l j : List ℕ) → m ≤ nv → Listing rule L a fs nv at k m l → Listing rule L b fs nv m l n j
      → Listing rule L (a ++ b) fs nv at k n j
  listing_join at m n a b k l j h A B =
      let p = A.listed h in
      record {
        listed = λ g.
            let q = B.listed g in
            record {
              follows =
                  subst (λ (ts : List ℤ). Follows fs (4 * at) ts (4 * n)) (sym (each_append (vertex_record rule L) a b))
                  (follows_join fs (4 * at) (4 * m) (4 * n) (each (vertex_record rule L) a) (each (vertex_record rule L) b) p.follows q.follows);
              numbers = record {
                slots =
                    q.numbers.slots
                    ∙ ((λ i. numbered (p.numbers.next_is i) b (p.numbers.slots i)) ∙ numbered_join at a b k);
                next_is = omega (arith, p.numbers.next_is, q.numbers.next_is, length-append a b);
              };
            };
        beyond = beyond_trans A.beyond B.beyond;
      }

-- ── one row ──

module _ (rule : Rule) (L : Lattice) (fs : List ℤ) (nv at : ℕ) (es before : List ℕ) where
  -- the file differs
  pub listing_differs : (r : ℕ) (after : List ℕ) → nv < r → Beyond (needed_slots L.size) before after → Listing rule L es fs nv at before r after
  listing_differs r after h b = record { listed = λ g. absurd (omega arith); beyond = b }

  -- the file has it, where its edges are named otherwise
  pub listing_same : (es' : List ℕ) (r : ℕ) (after : List ℕ) → es' ≡ es → Listed rule L es' fs at before r after
      → Beyond (needed_slots L.size) before after → Listing rule L es fs nv at before r after
  listing_same es' r after q l b = record { listed = λ g. subst (λ (es : List ℕ). Listed rule L es fs at before r after) q l; beyond = b }

-- the words of a row have no fewer edges in all than of its first m
pub kept_few : (k : KindWords) (m : ℕ) → m ≤ 448 → length (kept (seven k) m) ≤ length (keep (is_edge k) (range 0 448))
unfolding is_edge
kept_few k m h =
    let n = 448 - m in
    let e : m + n ≡ 448 = omega arith in
    let l = keep (has_edge (seven k)) (range (0 + m) n) in
    let q : keep (has_edge (seven k)) (range 0 448) ≡ kept (seven k) m ++ l =
    ap (λ (n : ℕ). keep (has_edge (seven k)) (range 0 n)) (sym e)
    ∙ (ap (keep (has_edge (seven k))) (range_join 0 m n) ∙ keep_append (has_edge (seven k)) (range 0 m) (range (0 + m) n)) in
    omega (arith, ap length q, length-append (kept (seven k) m) l)

-- ── runs of rows ──

-- the file has k of m
pub record Going (rule : Rule) (L : Lattice) (f : ℕ → List ℕ) (fs : List ℤ) (nv at m k next : ℕ) (before after : List ℕ) : Type 0 where
  pub upto : k ≤ m
  pub within : next ≤ nv
  pub listing : Listing rule L (each f (range 0 k)) fs nv at before next after

module _ (rule : Rule) (L : Lattice) (f : ℕ → List ℕ) (fs : List ℤ) (nv at m : ℕ) (l : List ℕ) where
  pub going_none : at ≤ nv → Going rule L f fs nv at m 0 at l l
  going_none h = record { upto = omega arith; within = h; listing = listing_none rule L fs nv at l }

  module _ (k next : ℕ) (j : List ℕ) (g : Going rule L f fs nv at m k next l j) where
    pub going_long : length j ≡ length l
    going_long = g.listing.beyond.same_length

    -- one more
    pub going_more : (next' : ℕ) (i : List ℕ) → k < m → next' ≤ nv → Listing rule L (f k) fs nv next j next' i
        → Going rule L f fs nv at m (k + 1) next' l i
    going_more next' i h w B = record {
      upto = omega arith;
      within = w;
      listing =
          subst (λ (es : List ℕ). Listing rule L es fs nv at l next' i) (sym (each_more f k))
          (listing_join rule L fs nv at next next' (each f (range 0 k)) (f k) l j i g.within g.listing B);
    }

    -- the file differs in one more
    pub going_differs : (next' : ℕ) (i : List ℕ) → nv < next' → Listing rule L (f k) fs nv next j next' i → (es : List ℕ)
        → Listing rule L es fs nv at l next' i
    going_differs next' i h B es = record { listed = λ w. absurd (omega arith); beyond = beyond_trans g.listing.beyond B.beyond }

    pub going_all : m ≤ k → Listing rule L (each f (range 0 m)) fs nv at l next j
    going_all h =
        let q : k ≡ m = omega (arith, g.upto) in
        subst (λ (k : ℕ). Listing rule L (each f (range 0 k)) fs nv at l next j) q g.listing

-- all that the file has
pub listing_all : (rule : Rule) (L : Lattice) (es : List ℕ) (fs : List ℤ) (nv next : ℕ) (l j : List ℕ) → Listing rule L es fs nv 0 l next j
    → length fs ≡ 4 * nv → next ≡ nv → (fs ≡ each (vertex_record rule L) es) × (j ≡ numbered 0 es l)
listing_all rule L es fs nv next l j A h e =
    let w = A.listed (omega arith) in
    let ts = each (vertex_record rule L) es in
    let z : 4 * 0 ≡ 0 = omega arith in
    let q : 4 * next ≡ length fs = omega arith in
    (follows_all fs ts (4 * next) (subst (λ (k : ℕ). Follows fs k ts (4 * next)) z w.follows) q, w.numbers.slots)
