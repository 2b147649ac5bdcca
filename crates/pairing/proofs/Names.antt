-- Triangles whose corners are named otherwise: where names tell corners apart, pairing by names is pairing by corners. Assumes nothing.
use mathlib.Core.Path.{◌≡◌, refl, sym, ap, ◌∙◌, subst}
use mathlib.Core.Bool.{Bool}
use mathlib.Core.List.Memᴰ.{head as here}
use mathlib.Core.List.Memᴰ.{tail as there}
use mathlib.Core.List.{List, map, Memᴰ as In}
use Prim.Native.Nat.{ℕ, zero, suc, ◌≤◌, ◌<◌}
use native.Mathlib.Omega.{arith}
use lib.Dec.{eqb, eqb_refl}
use lib.ListN.{length, get_or}
use Rattle.lists.specs.Lists.{each, count}
use Rattle.lists.proofs.Every.{each_map}
use Rattle.lists.proofs.Closure.{bool_same}
use Rattle.paper.specs.Tables.{Tri}
use Rattle.paper.specs.Within.{Below}
use Rattle.paper.proofs.Listing.{named}
use Rattle.pairing.specs.Pairing.{Arrow, arrow, around, is_arrow, times, Paired}
use Rattle.lists.proofs.Within.{eqb_of, map_each, each_in, nth_in}
use Rattle.lists.proofs.Counts.{pick, count_map, count_same, count_unique, one_place, Unique}
use Rattle.pairing.proofs.Arrows.{is_arrow_law, arrow_is}

unfoldable pub named_arrow : (ℕ → ℕ) → Arrow → Arrow
named_arrow f d = arrow (f d.from) (f d.to)

pub around_named : (f : ℕ → ℕ) (l : List Tri) → each around (map (named f) l) ≡ map (named_arrow f) (each around l)
unfolding around named named_arrow
around_named f l = each_map around (named f) l ∙ sym (map_each (named_arrow f) around l)

-- a directed edge occurs at most once
pub few_times : {apart : ℕ → ℕ → Bool} {ts : List Tri} → Paired apart ts → (m n : ℕ) → times ts m n ≤ 1
few_times {ts = ts} p m n = go (times ts m n) refl
  where
    go : (k : ℕ) → times ts m n ≡ k → times ts m n ≤ 1
    go zero e = omega arith
    go (suc k) e = omega (arith, p.once m n (omega arith))

-- triangles with the same directed edges
pub paired_same : {apart : ℕ → ℕ → Bool} {ts us : List Tri} → ((m n : ℕ) → times ts m n ≡ times us m n) → Paired apart us → Paired apart ts
paired_same h p = record {
  once = λ m n k. h m n ∙ p.once m n (omega (arith, h m n));
  reverse = λ m n k. h n m ∙ p.reverse m n (omega (arith, h m n));
}

unique_at : {l : List ℕ} → Unique l → (i j d : ℕ) → i < length l → j < length l → get_or l i d ≡ get_or l j d → i ≡ j
unique_at {l} u i j d h k e =
    let x = get_or l i d in
    one_place (eqb x) l d i j (omega (arith, count_unique u (nth_in l i d h))) h k (eqb_refl x) (eqb_of e)

-- vertices named by a list without a repeat
module _ (es : List ℕ) (distinct : Unique es) (ts : List Tri) (below : (t : Tri) → In t ts → Below (length es) t) where
  abbrev pub name : ℕ → ℕ
  name i = get_or es i 0

  arrow_below : (d : Arrow) → In d (each around ts) → (d.from < length es) × (d.to < length es)
  unfolding around
  arrow_below d i =
      let m = each_in around ts i in
      let h = below m.0 m.1 in
      go m.0 h m.2
    where
      go : (t : Tri) → Below (length es) t → In d (around t) → (d.from < length es) × (d.to < length es)
      go t h (here e) = subst (λ (k : Arrow). (k.from < length es) × (k.to < length es)) (sym e) (omega (arith, h))
      go t h (there (here e)) = subst (λ (k : Arrow). (k.from < length es) × (k.to < length es)) (sym e) (omega (arith, h))
      go t h (there (there (here e))) = subst (λ (k : Arrow). (k.from < length es) × (k.to < length es)) (sym e) (omega (arith, h))
      go t h (there (there (there i))) = elim i [ ]

  pub times_below : (i j : ℕ) → 0 < times ts i j → (i < length es) × (j < length es)
  unfolding times
  times_below i j h =
      let m = pick (is_arrow i j) (each around ts) (λ e. omega arith) in
      let q = is_arrow_law i j m.0 m.2 in
      let b = arrow_below m.0 m.1 in
      (subst (λ (k : ℕ). k < length es) q.0 b.0, subst (λ (k : ℕ). k < length es) q.1 b.1)

  times_named : (i j : ℕ) → i < length es → j < length es → times (map (named name) ts) (name i) (name j) ≡ times ts i j
  unfolding times named_arrow
  times_named i j hi hj =
      ap (count (is_arrow (name i) (name j))) (around_named name ts)
      ∙ count_map (is_arrow (name i) (name j)) (named_arrow name) (each around ts)
      ∙ count_same (λ d. is_arrow (name i) (name j) (named_arrow name d)) (is_arrow i j) (each around ts)
      (λ d m.
      let b = arrow_below d m in
      bool_same (is_arrow (name i) (name j) (named_arrow name d)) (is_arrow i j d)
      (λ t.
      let q = is_arrow_law (name i) (name j) (named_arrow name d) t in
      arrow_is (unique_at distinct d.from i 0 b.0 hi q.0) (unique_at distinct d.to j 0 b.1 hj q.1))
      (λ t. let q = is_arrow_law i j d t in arrow_is (ap name q.0) (ap name q.1)))

  pub by_number : {apart : ℕ → ℕ → Bool} → Paired apart (map (named name) ts) → Paired (λ i j. apart (name i) (name j)) ts
  by_number p = record {
    once = λ i j h.
        let b = times_below i j h in
        let e = times_named i j b.0 b.1 in
        sym e ∙ p.once (name i) (name j) (omega (arith, e));
    reverse = λ i j h.
        let b = times_below i j h in
        let e = times_named i j b.0 b.1 in
        sym (times_named j i b.1 b.0) ∙ p.reverse (name i) (name j) (omega (arith, e));
  }
