-- Things along a run and things of a list, under a test that tells which are alike: where no two of the list are alike, each is as often
-- on either side exactly when each of the run is alike to one of the list, each of the list to one of the run, and no two of the run
-- are alike. Assumes nothing.
use mathlib.Core.Path.{◌≡◌, refl, sym, ◌∙◌}
use mathlib.Core.Bool.{Bool}
use mathlib.Core.List.{List, map, Memᴰ as In}
use Prim.Native.Nat.{ℕ, zero, suc, ◌≤◌, ◌<◌}
use native.Mathlib.Omega.{arith}
use lib.Dec.{T}
use Rattle.lists.specs.Lists.{range, any, count}
use Rattle.lists.proofs.Within.{member_any, any_member, below, in_run}
use Rattle.lists.proofs.Counts.{pick, count_some, count_one, count_map, few_along}

module _ {B : Type 0} (alike : B → B → Bool) (own : (t : B) → T (alike t t)) (back : (t u : B) → T (alike t u) → T (alike u t))
    (along : (t u v : B) → T (alike t u) → T (alike u v) → T (alike t v)) (f : ℕ → B) (n : ℕ) (us : List B)
    (thin : (t : B) → count (alike t) us ≤ 1) where
  -- each of the run is one of the list, each of the list one of the run, and no two of the run are alike
  pub record Matching : Type 0 where
    pub sound : (i : ℕ) → i < n → T (any (alike (f i)) us)
    pub full : (u : B) → In u us → T (any (λ i. alike u (f i)) (range 0 n))
    pub apart : (i j : ℕ) → i < n → j < i → T (alike (f i) (f j)) → ⊥

  abbrev Often : Type 0
  Often = (t : B) → count (alike t) (map f (range 0 n)) ≡ count (alike t) us

  module _ (m : Matching) where
    once : (t : B) → count (λ i. alike t (f i)) (range 0 n) ≤ 1
    once t = few_along (λ i. alike t (f i)) n (λ i j h l x y. m.apart i j h l (along (f i) t (f j) (back t (f i) x) y))

    pub often : Often
    often t =
        count_map (alike t) f (range 0 n) ∙ go (count (λ i. alike t (f i)) (range 0 n)) (count (alike t) us) refl refl (once t) (thin t)
      where
        in_list : 0 < count (λ i. alike t (f i)) (range 0 n) → 0 < count (alike t) us
        in_list h =
            let w = pick (λ i. alike t (f i)) (range 0 n) (λ q. omega arith) in
            let v = any_member (alike (f w.0)) us (m.sound w.0 (below n w.0 w.1)) in
            count_some (alike t) v.1 (along t (f w.0) v.0 w.2 v.2)

        in_turn : 0 < count (alike t) us → 0 < count (λ i. alike t (f i)) (range 0 n)
        in_turn h =
            let w = pick (alike t) us (λ q. omega arith) in
            let v = any_member (λ i. alike w.0 (f i)) (range 0 n) (m.full w.0 w.1) in
            count_some (λ i. alike t (f i)) v.1 (along t w.0 (f v.0) w.2 v.2)

        go : (a b : ℕ) → count (λ i. alike t (f i)) (range 0 n) ≡ a → count (alike t) us ≡ b → a ≤ 1 → b ≤ 1 → a ≡ b
        go zero zero d e x y = refl
        go zero (suc b) d e x y = absurd (omega (arith, in_turn (omega arith)))
        go (suc a) zero d e x y = absurd (omega (arith, in_list (omega arith)))
        go (suc a) (suc b) d e x y = omega arith

  module _ (o : Often) where
    hits : (t : B) → count (λ i. alike t (f i)) (range 0 n) ≡ count (alike t) us
    hits t = sym (count_map (alike t) f (range 0 n)) ∙ o t

    pub matching : Matching
    matching = record {
      sound = λ i h.
          let c = count_some (λ j. alike (f i) (f j)) (in_run n i h) (own (f i)) in
          let w = pick (alike (f i)) us (λ q. omega (arith, hits (f i))) in
          member_any (alike (f i)) w.1 w.2;
      full = λ u m.
          let c = count_some (alike u) m (own u) in
          let w = pick (λ i. alike u (f i)) (range 0 n) (λ q. omega (arith, hits u)) in
          member_any (λ i. alike u (f i)) w.1 w.2;
      apart = λ i j h l t.
          let e = count_one (λ k. alike (f i) (f k)) (omega (arith, hits (f i), thin (f i)))
          (in_run n i h) (in_run n j (omega arith)) (own (f i)) t in
          omega arith;
    }
