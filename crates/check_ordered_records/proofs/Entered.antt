-- Records whose edges rise, each of them one of a row's, and as many as the row has: they are the row's. Assumes nothing.
use mathlib.Core.Path.{◌≡◌, refl, sym, ap, subst, ◌∙◌}
use mathlib.Core.Logic.{◌⊎◌, inl, inr}
use mathlib.Core.Bool.{true}
use mathlib.Core.List.{List, [], ◌∷◌, ◌++◌, map, append-nil, map-append}
use Prim.Native.Nat.{ℕ, suc, ◌+◌, ◌*◌, ◌/◌, ◌≤◌, ◌<◌}
use native.Mathlib.Omega.{arith}
use lib.Dec.{T, eqb, eqb→eq}
use lib.IntN.{ℤ, pos}
use lib.ListN.{length, set, take, drop, length-append, length-map}
use lib.Seq.{take_all}
use Rattle.lists.specs.Lists.{range, each, is_in, Beyond}
use Rattle.lists.proofs.Member.{or_cases, and_both, in_keep, in_range}
use Rattle.lists.proofs.Every.{All, all_append, all_weak}
use Rattle.lists.proofs.Rising.{Rising, keep_rising}
use Rattle.lists.proofs.Runs.{each_append, rising_ge}
use Rattle.lists.proofs.Stores.{beyond_refl, beyond_trans, beyond_set}
use Rattle.paper.specs.declared.Rule.{Rule}
use Rattle.paper.specs.declared.Sizes.{Sizes}
use Rattle.paper.specs.Lattice.{Lattice, place, sample_no, samples}
use Rattle.paper.proofs.Numbers.{sample_lt}
use Rattle.paper.specs.Sheet.{vertex_record}
use Rattle.paper.specs.Room.{needed_slots}
use Rattle.paper.proofs.Listing.{record_length_law}
use Rattle.dots.specs.Dots.{numbered}
use Rattle.dots.proofs.Laws.{numbered_join}
use Rattle.check_entries.specs.Entries.{has_edge, Entry}
use Rattle.check_ordered.specs.Ordered.{Follows, kept, Entered}
use Rattle.check_ordered.proofs.Laws.{Alike, alike_all, follows_none, follows_join}

-- ── lists that rise ──

-- what is above x is not x
later : (x b : ℕ) (es fs : List ℕ) → x < b → Rising b fs → All (λ e. T (is_in (x ∷ es) e)) fs → All (λ e. T (is_in es e)) fs
later x b es [] h r m = tt
later x b es (f ∷ fs) h r m = (go (or_cases (eqb f x) (is_in es f) m.0), later x (suc f) es fs (omega (arith, r.0)) r.1 m.1)
  where
    go : T (eqb f x) ⊎ T (is_in es f) → T (is_in es f)
    go (inl q) = absurd (omega (arith, eqb→eq f x q, r.0))
    go (inr q) = q

-- rising numbers of a rising list are no more than that has
few : (b : ℕ) (es fs : List ℕ) → Rising b es → Rising b fs → All (λ e. T (is_in es e)) fs → length fs ≤ length es
few b es [] re rf m = omega arith
few b [] (f ∷ fs) re rf m = absurd m.0
few b (x ∷ es) (f ∷ fs) re rf m =
    go (or_cases (eqb f x) (is_in es f) m.0) (λ h. few (suc x) es fs re.1 h (later x (suc x) es fs (omega arith) h m.1))
    (λ h. few (suc x) es (f ∷ fs) re.1 (h, rf.1) (later x (suc x) es (f ∷ fs) (omega arith) (h, rf.1) m))
  where
    go : T (eqb f x) ⊎ T (is_in es f) → (Rising (suc x) fs → length fs ≤ length es) → (suc x ≤ f → suc (length fs) ≤ length es)
        → suc (length fs) ≤ suc (length es)
    go (inl q) g k = omega (arith, g (subst (λ (y : ℕ). Rising (suc y) fs) (eqb→eq f x q) rf.1))
    go (inr q) g k = omega (arith, k (rising_ge es (suc x) f re.1 q))

-- as many as it has are all
all_of : (b : ℕ) (es fs : List ℕ) → Rising b es → Rising b fs → All (λ e. T (is_in es e)) fs → length es ≤ length fs → fs ≡ es
all_of b [] [] re rf m h = refl
all_of b (x ∷ es) [] re rf m h = absurd (omega arith)
all_of b [] (f ∷ fs) re rf m h = absurd m.0
all_of b (x ∷ es) (f ∷ fs) re rf m h =
    go (or_cases (eqb f x) (is_in es f) m.0) (λ r. all_of (suc x) es fs re.1 r (later x (suc x) es fs (omega arith) r m.1) (omega (arith, h)))
    (λ l. few (suc x) es (f ∷ fs) re.1 (l, rf.1) (later x (suc x) es (f ∷ fs) (omega arith) (l, rf.1) m))
  where
    go : T (eqb f x) ⊎ T (is_in es f) → (Rising (suc x) fs → fs ≡ es) → (suc x ≤ f → suc (length fs) ≤ length es)
        → ◌≡◌ {A = List ℕ} (f ∷ fs) (x ∷ es)
    go (inl q) g k =
        let e = eqb→eq f x q in
        λ i. e i ∷ g (subst (λ (y : ℕ). Rising (suc y) fs) e rf.1) i
    go (inr q) g k = absurd (omega (arith, h, k (rising_ge es (suc x) f re.1 q)))

-- one more behind
rising_more : (b m : ℕ) (l : List ℕ) → Rising b l → All (λ e. e < m) l → b ≤ m → Rising b (l ++ (m ∷ []))
rising_more b m [] r a h = (h, tt)
rising_more b m (x ∷ l) r a h = (r.0, rising_more (suc x) m l r.1 a.1 (omega (arith, a.0)))

-- ── records so far ──

module _ (rule : Rule) (L : Lattice) (ks : List ℕ) (fs : List ℤ) (row wide at : ℕ) (before : List ℕ) where
  abbrev vertex : ℕ → List ℤ
  vertex e = vertex_record rule L (row + e)

  -- the edges of the first i records are below low
  pub record Entering (n i low : ℕ) (after : List ℕ) : Type 0 where
    pub edges : List ℕ
    pub long : length edges ≡ i
    pub upto : i ≤ n
    pub lowest : low ≤ wide
    pub rising : Rising 0 edges
    pub under : All (λ e. e < low) edges
    pub among : All (λ e. T (is_in (kept ks wide) e)) edges
    pub follows : Follows fs (4 * at) (each vertex edges) (4 * (at + i))
    pub slots : after ≡ numbered at (map (λ e. row + e) edges) before
    pub beyond : Beyond (needed_slots L.size) before after

  pub entering_none : (n : ℕ) → Entering n 0 0 before
  entering_none n = record {
    edges = [];
    long = refl;
    upto = omega arith;
    lowest = omega arith;
    rising = tt;
    under = tt;
    among = tt;
    follows = let e : 4 * at ≡ 4 * (at + 0) = omega arith in subst (Follows fs (4 * at) []) e (follows_none fs (4 * at));
    slots = refl;
    beyond = beyond_refl (needed_slots L.size) before;
  }

  -- one record of a file's
  one_follows : (i low e : ℕ) → Entry rule L ks fs row (at + i) low e → 4 * (at + i) + 4 ≤ length fs
      → Follows fs (4 * (at + i)) (each vertex (e ∷ [])) (4 * (at + (i + 1)))
  one_follows i low e E room =
      let long = record_length_law rule L (row + e) in
      let a : Alike (pos 0) fs (vertex e) (4 * (at + i)) 4 4 true = record { upto = omega arith; so_far = λ q k h. E.numbers k h } in
      let t = alike_all (pos 0) fs (vertex e) (4 * (at + i)) 4 4 true a (omega arith) room (omega (arith, long)) refl ∙ take_all 4 (vertex e) (omega (arith, long)) in
      subst (λ (l : List ℤ). Follows fs (4 * (at + i)) l (4 * (at + (i + 1)))) (sym (append-nil (vertex e)))
      (record { is = ap (λ (k : ℕ). take k (drop (4 * (at + i)) fs)) long ∙ t; next_is = omega (arith, long) })

  pub entering_more : (n i low e : ℕ) (after after' : List ℕ) → Entering n i low after → Entry rule L ks fs row (at + i) low e → e < wide
      → i < n → 4 * (at + n) ≤ length fs → row + e < needed_slots L.size → after' ≡ set after (row + e) (at + i) → Entering n (i + 1) (e + 1) after'
  entering_more n i low e after after' G E w h room s q = record {
    edges = G.edges ++ (e ∷ []);
    long = omega (arith, length-append G.edges (e ∷ []), G.long);
    upto = omega arith;
    lowest = omega arith;
    rising = rising_more 0 e G.edges G.rising (all_weak (λ x. x < low) (λ x. x < e) (λ x l. omega (arith, E.rises)) G.edges G.under) (omega arith);
    under = all_append (λ x. x < e + 1) G.edges (e ∷ []) (all_weak (λ x. x < low) (λ x. x < e + 1) (λ x l. omega (arith, E.rises)) G.edges G.under) (omega arith, tt);
    among =
        all_append (λ x. T (is_in (kept ks wide) x)) G.edges (e ∷ []) G.among
        (subst T (sym (in_keep (has_edge ks) (range 0 wide) e)) (and_both (is_in (range 0 wide) e) (has_edge ks e) (in_range 0 wide e (omega arith) (omega arith)) E.has), tt);
    follows =
        subst (λ (l : List ℤ). Follows fs (4 * at) l (4 * (at + (i + 1)))) (sym (each_append vertex G.edges (e ∷ [])))
        (follows_join fs (4 * at) (4 * (at + i)) (4 * (at + (i + 1))) (each vertex G.edges) (each vertex (e ∷ [])) G.follows (one_follows i low e E (omega arith)));
    slots =
        let m = map-append (λ e. row + e) G.edges (e ∷ []) in
        let k : at + i ≡ at + length (map (λ e. row + e) G.edges) = omega (arith, G.long, length-map G.edges (λ e. row + e)) in
        q
        ∙ ((λ j. set (G.slots j) (row + e) (k j))
        ∙ (numbered_join at (map (λ e. row + e) G.edges) ((row + e) ∷ []) before ∙ ap (λ (l : List ℕ). numbered at l before) (sym m)));
    beyond = subst (Beyond (needed_slots L.size) before) (sym q) (beyond_trans G.beyond (beyond_set (needed_slots L.size) after (row + e) (at + i) s));
  }

  pub entering_all : (n i low : ℕ) (after : List ℕ) → Entering n i low after → n ≤ i → length (kept ks wide) ≤ n
      → Entered rule L ks fs row wide at n before after
  entering_all n i low after G h few =
      let same : G.edges ≡ kept ks wide =
      all_of 0 (kept ks wide) G.edges (keep_rising (has_edge ks) 0 wide) G.rising G.among (omega (arith, G.long, G.upto)) in
      let k : i ≡ n = omega (arith, G.upto) in
      record {
        count = omega (arith, G.long, ap length same);
        follows = moved same k G.follows;
        slots = G.slots ∙ ap (λ (l : List ℕ). numbered at (map (λ e. row + e) l) before) same;
      }
    where
      moved : {l m : List ℕ} {i n : ℕ} → l ≡ m → i ≡ n → Follows fs (4 * at) (each vertex l) (4 * (at + i)) → Follows fs (4 * at) (each vertex m) (4 * (at + n))
      moved {l} {m} {i} {n} e k f = subst (λ (i : ℕ). Follows fs (4 * at) (each vertex m) (4 * (at + i))) k (subst (λ (l : List ℕ). Follows fs (4 * at) (each vertex l) (4 * (at + i))) e f)

-- ── numbers of a row ──

pub in_row : (z : Sizes) (y w here : ℕ) → y < z.ny → w < z.nz → here ≡ z.nx * (y + z.ny * w) → (x : ℕ) → x < z.nx → here + x < samples z
unfolding sample_no
in_row z y w here hy hw e x h = omega (arith, e, sample_lt z (place x y w) (record { x = h; y = hy; z = hw }))

-- its edges are edges of the lattice
pub edge_in_row : (z : Sizes) (y w here : ℕ) → y < z.ny → w < z.nz → here ≡ z.nx * (y + z.ny * w) → (e : ℕ) → e < 7 * z.nx
    → 7 * here + e < needed_slots z
edge_in_row z y w here hy hw q e h = omega (arith, in_row z y w here hy hw q (e / 7) (omega arith))
