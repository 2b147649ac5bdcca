-- Vertices one behind the other: in general, and kind by kind. Assumes nothing.
use mathlib.Core.Path.{◌≡◌, refl, sym, ap, subst, ◌∙◌}
use mathlib.Core.Bool.{Bool, true, false, cond}
use mathlib.Core.List.{List, [], ◌∷◌, ◌++◌, append-nil}
use Prim.Native.Nat.{ℕ, suc, ◌+◌, ◌-◌, ◌*◌, ◌≤◌, ◌<◌}
use native.Mathlib.Omega.{arith}
use lib.Dec.{T, eqb}
use lib.IntN.{ℤ}
use lib.ListN.{length, set, length-set, length-append}
use lib.Seq.{sets, length-sets}
use Rattle.lists.specs.Lists.{range, each, is_in}
use Rattle.lists.proofs.Member.{any_each, in_any, in_range}
use Rattle.lists.proofs.Runs.{each_more, each_prefix}
use Rattle.lists.proofs.Stores.{each_behind}
use Rattle.paper.specs.declared.Rule.{Rule}
use Rattle.paper.specs.Lattice.{Lattice}
use Rattle.paper.specs.Sheet.{vertex_record}
use Rattle.paper.proofs.Listing.{record_length_law}
use Rattle.bits.specs.Words.{bit}
use Rattle.dots.specs.Dots.{edge_at, numbered, Drawn, drawn, Draws, Numbers, Crossed, Roomy}

-- ── slots ──

pub numbered_join : (at : ℕ) (a b l : List ℕ) → numbered (at + length a) b (numbered at a l) ≡ numbered at (a ++ b) l
numbered_join at [] b l = let e : at + 0 ≡ at = omega arith in ap (λ (n : ℕ). numbered n b l) e
numbered_join at (x ∷ a) b l =
    let e : at + suc (length a) ≡ at + 1 + length a = omega arith in
    ap (λ (n : ℕ). numbered n b (numbered (at + 1) a (set l x at))) e ∙ numbered_join (at + 1) a b (set l x at)

pub numbered_length : (at : ℕ) (es l : List ℕ) → length (numbered at es l) ≡ length l
numbered_length at [] l = refl
numbered_length at (x ∷ es) l = numbered_length (at + 1) es (set l x at) ∙ length-set l x at

-- ── vertices and slots ──

module _ (rule : Rule) (L : Lattice) (first at : ℕ) (d : Drawn) where
  pub draws_none : Draws rule L [] first at d at d
  draws_none = record { vertices = refl; slots = refl; next_is = omega arith }

  -- some behind others
  pub draws_more : (a b : List ℕ) (n m : ℕ) (e f : Drawn) → first ≤ at → Draws rule L a first at d n e → Draws rule L b first n e m f
      → Draws rule L (a ++ b) first at d m f
  draws_more a b n m e f h A B = record {
    vertices =
        let q : n - first ≡ at - first + length a = omega (arith, A.next_is) in
        B.vertices
        ∙ ((λ i. sets (A.vertices i) (4 * q i) (each (vertex_record rule L) b))
        ∙ each_behind (vertex_record rule L) 4 (record_length_law rule L) (at - first) d.vertices a b);
    slots = B.slots ∙ ((λ i. numbered (A.next_is i) b (A.slots i)) ∙ numbered_join at a b d.slots);
    next_is = omega (arith, A.next_is, B.next_is, length-append a b);
  }

  pub draws_long : (es : List ℕ) (n : ℕ) (e : Drawn) → Draws rule L es first at d n e
      → (length e.vertices ≡ length d.vertices) × (length e.slots ≡ length d.slots)
  draws_long es n e A = (
    ap length A.vertices ∙ length-sets d.vertices (4 * (at - first)) (each (vertex_record rule L) es),
    ap length A.slots
        ∙ numbered_length at es d.slots,
  )

-- one vertex
pub draws_one : (rule : Rule) (L : Lattice) (first at e : ℕ) (d : Drawn) (v : List ℤ) → v ≡ vertex_record rule L e
    → Draws rule L (e ∷ []) first at d (at + 1) (drawn (sets d.vertices (4 * (at - first)) v) (set d.slots e at))
draws_one rule L first at e d v q = record {
  vertices = ap (sets d.vertices (4 * (at - first))) (q ∙ sym (append-nil (vertex_record rule L e)));
  slots = refl;
  next_is = omega arith;
}

-- the same edges by another name
pub draws_same : (rule : Rule) (L : Lattice) (first at : ℕ) (d : Drawn) (n : ℕ) (e : Drawn) (a b : List ℕ) → a ≡ b
    → Draws rule L a first at d n e
    → Draws rule L b first at d n e
draws_same rule L first at d n e a b q A = subst (λ (es : List ℕ). Draws rule L es first at d n e) q A

-- none, where nothing is to be drawn
pub draws_empty : (rule : Rule) (L : Lattice) (first at : ℕ) (d : Drawn) (es : List ℕ) → [] ≡ es → Draws rule L es first at d at d
draws_empty rule L first at d es e = subst (λ (es : List ℕ). Draws rule L es first at d at d) e (draws_none rule L first at d)

-- ── a run of things with edges ──

-- n of m things are drawn
pub record Drawing (rule : Rule) (L : Lattice) (f : ℕ → List ℕ) (m first at n next : ℕ) (before after : Drawn) : Type 0 where
  pub upto : n ≤ m
  pub draws : Draws rule L (each f (range 0 n)) first at before next after

module _ (rule : Rule) (L : Lattice) (f : ℕ → List ℕ) (m first at : ℕ) where
  pub drawing_none : (d : Drawn) → Drawing rule L f m first at 0 at d d
  drawing_none d = record { upto = omega arith; draws = draws_none rule L first at d }

  module _ (n next : ℕ) (d e : Drawn) (D : Drawing rule L f m first at n next d e) where
    -- the slices are as long as before
    pub drawing_long : (length e.vertices ≡ length d.vertices) × (length e.slots ≡ length d.slots)
    drawing_long = draws_long rule L first at d (each f (range 0 n)) next e D.draws

    -- there is room for the next
    pub drawing_room : (needed : ℕ) → Roomy (each f (range 0 m)) first at needed (length d.vertices) (length d.slots) → n < m
        → Roomy (f n) first next needed (length e.vertices) (length e.slots)
    drawing_room needed r h =
        let q = D.draws.next_is in
        let w = drawing_long in
        let a = ap length (each_more f n) in
        let b = length-append (each f (range 0 n)) (f n) in
        let p = each_prefix f (n + 1) m (omega arith) in
        record {
          since = omega (arith, r.since, q);
          room = omega (arith, r.since, r.room, q, a, b, p, w.0);
          enough = omega (arith, r.enough, w.1);
          small = omega (arith, r.small, q, a, b, p);
        }

    -- one more
    pub drawing_more : (k : ℕ) (g : Drawn) → first ≤ at → n < m → Draws rule L (f n) first next e k g
        → Drawing rule L f m first at (n + 1) k d g
    drawing_more k g s h A = record {
      upto = omega arith;
      draws =
          subst (λ (es : List ℕ). Draws rule L es first at d k g) (sym (each_more f n))
          (draws_more rule L first at d (each f (range 0 n)) (f n) next k e g s D.draws A);
    }

    -- all
    pub drawing_all : (n < m → ⊥) → Draws rule L (each f (range 0 m)) first at d next e
    drawing_all h =
        let q : n ≡ m = omega (arith, D.upto) in
        subst (λ (k : ℕ). Draws rule L (each f (range 0 k)) first at d next e) q D.draws

-- n of m things are numbered
pub record Numbering (f : ℕ → List ℕ) (m at n next : ℕ) (before after : List ℕ) : Type 0 where
  pub upto : n ≤ m
  pub numbers : Numbers (each f (range 0 n)) at before next after

module _ (f : ℕ → List ℕ) (m at : ℕ) (l : List ℕ) where
  pub numbering_none : Numbering f m at 0 at l l
  numbering_none = record { upto = omega arith; numbers = record { slots = refl; next_is = omega arith } }

  module _ (n next : ℕ) (k : List ℕ) (N : Numbering f m at n next l k) where
    pub numbering_long : length k ≡ length l
    numbering_long = ap length N.numbers.slots ∙ numbered_length at (each f (range 0 n)) l

    -- the next number, and what it will be, are at most the last
    pub numbering_few : n < m → next + length (f n) ≤ at + length (each f (range 0 m))
    numbering_few h =
        omega (
          arith,
          N.numbers.next_is,
          ap length (each_more f n),
          length-append (each f (range 0 n)) (f n),
          each_prefix f (n + 1) m (omega arith),
        )

    pub numbering_more : (to : ℕ) (j : List ℕ) → n < m → Numbers (f n) next k to j → Numbering f m at (n + 1) to l j
    numbering_more to j h A = record {
      upto = omega arith;
      numbers = subst (λ (es : List ℕ). Numbers es at l to j) (sym (each_more f n)) (record {
        slots =
            A.slots
            ∙ ((λ i. numbered (N.numbers.next_is i) (f n) (N.numbers.slots i)) ∙ numbered_join at (each f (range 0 n)) (f n) l);
        next_is = omega (arith, N.numbers.next_is, A.next_is, length-append (each f (range 0 n)) (f n));
      });
    }

    pub numbering_all : (n < m → ⊥) → Numbers (each f (range 0 m)) at l next k
    numbering_all h =
        let q : n ≡ m = omega (arith, N.upto) in
        subst (λ (i : ℕ). Numbers (each f (range 0 i)) at l next k) q N.numbers

-- what is drawn is numbered
pub draws_numbers : (rule : Rule) (L : Lattice) (es : List ℕ) (first at : ℕ) (d : Drawn) (n : ℕ) (e : Drawn)
    → Draws rule L es first at d n e
    → Numbers es at d.slots n e.slots
draws_numbers rule L es first at d n e A = record { slots = A.slots; next_is = A.next_is }

-- each of a run changes sides, where all do
pub crossed_part : (L : Lattice) (f : ℕ → List ℕ) (m n : ℕ) → n < m → Crossed L (each f (range 0 m)) → Crossed L (f n)
crossed_part L f m n h c = record {
  at = λ e t.
      c.at e
      (subst T (sym (any_each (eqb e) f (range 0 m)))
      (in_any (λ k. is_in (f k) e) (range 0 m) n (in_range 0 m n (omega arith) (omega arith)) t));
}

-- ── kinds ──

pub kind_on : (ks base kind : ℕ) → bit ks kind ≡ true → ((base + kind) ∷ []) ≡ edge_at ks base kind
unfolding edge_at
kind_on ks base kind e = sym (ap (λ (b : Bool). cond b ((base + kind) ∷ []) []) e)

pub kind_off : (ks base kind : ℕ) → bit ks kind ≡ false → [] ≡ edge_at ks base kind
unfolding edge_at
kind_off ks base kind e = sym (ap (λ (b : Bool). cond b ((base + kind) ∷ []) []) e)

-- the vertex of a kind
pub draws_kind : (rule : Rule) (L : Lattice) (first at ks base kind : ℕ) (d : Drawn) (v vs : List ℤ)
    → vs ≡ sets d.vertices (4 * (at - first)) v
    → v ≡ vertex_record rule L (base + kind) → bit ks kind ≡ true
    → Draws rule L (edge_at ks base kind) first at d (at + 1) (drawn vs (set d.slots (base + kind) at))
draws_kind rule L first at ks base kind d v vs e q t =
    let after : List ℤ → Drawn = λ w. drawn w (set d.slots (base + kind) at) in
    let put = sets d.vertices (4 * (at - first)) v in
    subst (λ (w : List ℤ). Draws rule L (edge_at ks base kind) first at d (at + 1) (after w)) (sym e)
    (subst (λ (es : List ℕ). Draws rule L es first at d (at + 1) (after put)) (kind_on ks base kind t)
    (draws_one rule L first at (base + kind) d v q))
