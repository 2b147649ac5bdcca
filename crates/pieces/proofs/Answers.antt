-- The answer of a search and what it leaves, refusal by refusal. Assumes nothing.
use mathlib.Core.Path.{◌≡◌, refl, sym, ap, subst, ◌∙◌}
use mathlib.Core.Bool.{Bool, true, false, cond, and-false}
use mathlib.Core.List.{List, [], ◌∷◌}
use Prim.Native.Nat.{ℕ, ◌+◌, ◌-◌, ◌*◌, ◌≤◌}
use native.Mathlib.Nat.{mul-le-mul}
use native.Mathlib.Omega.{arith}
use lib.Dec.{leb}
use lib.IntN.{ℤ}
use lib.ListN.{length, take, drop}
use lib.Seq.{sets, length-take-le, take-append_seam}
use borrow.Author.Tests.{ne_eqb, le-leb}
use Rattle.lists.specs.Lists.{over, cleared, Beyond}
use Rattle.lists.proofs.Stores.{sets_front, beyond_refl, clear_beyond}
use Rattle.paper.specs.declared.Sizes.{Sizes}
use Rattle.paper.specs.declared.Verdict.{Verdict}
use Rattle.paper.specs.Lattice.{Lattice, lattice, place, in_lattice, samples, cubes}
use Rattle.paper.specs.Tests.{Test, judge, verdict}
use Rattle.paper.specs.Room.{Work, work, lengths, needed, needed_slots, clears, front_after, work_after, clean, output_after}
use Rattle.paper.specs.Build.{shape_tests}
use Rattle.paper.specs.Within.{Sized}
use Rattle.paper.proofs.Judged.{judge_past, judge_stop, judge_among}
use Rattle.paper.proofs.Passing.{shape_numbered, work_kept, work_cleared}
use Rattle.bits.specs.Words.{bit}
use Rattle.bits.proofs.Bits.{bit_of_0}
use Rattle.rows.specs.Rows.{is_one_of, HasBoth}
use Rattle.rows.proofs.Making.{row_lt}
use Rattle.ways.specs.Ways.{words, rows_of, plan_of}
use Rattle.spread.specs.Flooded.{Empty}
use Rattle.ways.proofs.Ways.{rows_few, beyond_more}
use Rattle.spread.proofs.Finish.{empty_closed}
use Rattle.std.specs.Prelude.{Result, Ok, Err, IsErrAnd}
use Rattle.paper.specs.declared.Refusal.{Refusal}
use Rattle.paper.specs.Refused.{verdict_of}
use Rattle.paper.proofs.Refusals.{some_number}
use Rattle.tray.specs.declared.Found.{Found}
use Rattle.tray.specs.declared.FindError.{FindError}
use Rattle.tray.specs.declared.FindError.TheVariants.{Refused, ListRoom}
use Rattle.tray.specs.Told.{found_told}
use Rattle.tray.specs.Pieces.{scanned, plain_scan, Lent, lent, piece_tests, find_number}
use Rattle.tray.specs.Pieces.{tells, found_at, found_in, as_building, left_at, lent_after, Finds}
use Rattle.gather.specs.Gathering.{Held, held, Fit, Gathered, Passed, Leads}
use Rattle.pieces.specs.Past.{FindsPast}

-- ── where the pass begins ──

-- there is a slot for each cube
pub cubes_few_slots : (z : Sizes) → Sized z → cubes z ≤ needed_slots z
unfolding cubes samples
cubes_few_slots z s =
    let a : (z.ny - 1) * (z.nz - 1) ≤ z.ny * z.nz = mul-le-mul (omega arith) (omega arith) in
    let b : (z.nx - 1) * ((z.ny - 1) * (z.nz - 1)) ≤ z.nx * (z.ny * z.nz) = mul-le-mul (omega arith) a in
    omega arith

module _ (z : Sizes) (s : Sized z) (rows may vis waiting slots : List ℕ) (none : Empty (words z) vis) where
  abbrev begun : Held
  begun = held vis waiting slots 0

  pub fit_begun : needed z ≤ length waiting → needed_slots z ≤ length slots → Fit z rows may 0 begun
  fit_begun w l = record {
    closed = empty_closed (plan_of z rows may) vis none;
    few = omega arith;
    wide = omega (arith, rows_few z s);
    long = omega (arith, cubes_few_slots z s);
  }

  passed_begun : Passed z rows may 0 begun begun
  unfolding scanned is_one_of
  passed_begun = record {
    gathered = λ v h. record {
      cubes = record {
        at = λ y w x hy hw.
            ap (λ (n : ℕ). bit n x) (none.none (y + z.ny * w) (row_lt z y w hy hw))
            ∙ (bit_of_0 x ∙ sym (and-false (in_lattice z (place x y w))));
      };
      listed = refl;
      number = refl;
    };
    idle = λ _. refl;
    on_waiting = beyond_refl (rows_of z) waiting;
    on_list = beyond_refl (cubes z) slots;
  }

  -- ── where it ends ──

  module _ (h : Held) (lead : Leads z rows may 0 (cubes z) begun h) where
    passed : Passed z rows may (cubes z) begun h
    passed = lead.passed begun passed_begun

    pub on_waiting : Beyond (needed z) waiting h.waiting
    on_waiting = beyond_more (rows_of z) (needed z) waiting h.waiting (rows_few z s) passed.on_waiting

    pub on_slots : Beyond (needed_slots z) slots h.list
    on_slots = beyond_more (cubes z) (needed_slots z) slots h.list (cubes_few_slots z s) passed.on_list

    pub count_few : h.count ≤ length h.list
    count_few = omega (arith, lead.fit.few, lead.fit.long)

    module _ (v : List ℤ) (H : HasBoth (lattice z v) rows may) where
      abbrev L : Lattice
      L = lattice z v

      G : Gathered L (cubes z) slots h
      G = passed.gathered v H

      count_is : h.count ≡ length (plain_scan L)
      unfolding plain_scan
      count_is = G.number

      list_is : h.list ≡ sets slots 0 (plain_scan L)
      unfolding plain_scan
      list_is = G.listed

      -- no piece
      module _ (e : h.count ≡ 0) (cube_words list : List ℕ) where
        none_listed : plain_scan L ≡ []
        none_listed = empty (plain_scan L) (sym count_is ∙ e)
          where
            empty : (l : List ℕ) → length l ≡ 0 → l ≡ []
            empty [] q = refl
            empty (x ∷ l) q = absurd (omega arith)

        pub finds_none : FindsPast L (lent list (work cube_words waiting slots)) (record { number = 5; pieces = 0 })
            (lent list (work cube_words h.waiting h.list))
        unfolding piece_tests output_after front_after
        finds_none =
            let n = (judge (piece_tests (length (plain_scan L)) (length list))).number in
            let five : n ≡ 5 = ap (λ (l : List ℕ). (judge (piece_tests (length l) (length list))).number) none_listed in
            let w = passed.idle e in
            let l : h.list ≡ slots = list_is ∙ ap (sets slots 0) none_listed in
            record {
              answer = sym (ap (λ (k : ℕ). found_at k (length (plain_scan L))) five);
              left =
                  (λ i. lent list (work cube_words (w i) (l i)))
                  ∙ sym (ap (λ (k : ℕ). left_at k L (lent list (work cube_words waiting slots))) five);
            }

      -- some pieces
      module _ (some : h.count ≡ 0 → ⊥) (cube_words list list' : List ℕ) (r : ℕ) (is : r ≡ cond (leb h.count (length list)) 0 20)
          (put : list' ≡ output_after r (take h.count h.list) list) (w : Work)
          (clear : w ≡ clean z (work cube_words h.waiting h.list)) where
        abbrev before : Lent
        before = lent list (work cube_words waiting slots)

        taken : take h.count h.list ≡ plain_scan L
        taken =
            let fits : length (plain_scan L) ≤ length slots = omega (arith, count_few, count_is, passed.on_list.same_length) in
            (λ i. take (count_is i) (list_is i))
            ∙ (ap (take (length (plain_scan L))) (sets_front slots (plain_scan L) fits)
            ∙ take-append_seam (plain_scan L) (drop (length (plain_scan L)) slots))

        number_is : r ≡ (judge (piece_tests (length (plain_scan L)) (length list))).number
        unfolding piece_tests
        number_is =
            let N = length (plain_scan L) in
            let fits = leb N (length list) in
            is
            ∙ ((λ i. cond (leb (count_is i) (length list)) 0 20)
            ∙ sym (ap (λ (b : Bool). (cond b (cond fits (verdict 0 0) (verdict 20 0)) (verdict 5 0)).number)
            (le-leb 1 N (omega (arith, count_is))) ∙ inner fits))
          where
            inner : (b : Bool) → (cond b (verdict 0 0) (verdict 20 0)).number ≡ cond b 0 20
            inner true = refl
            inner false = refl

        -- 0 and 20 tell how many, and clear
        both : (P : ℕ → Type 0) → P 0 → P 20 → P r
        both P p q = subst P (sym is) (go (leb h.count (length list)))
          where
            go : (b : Bool) → P (cond b 0 20)
            go true = p
            go false = q

        pub finds_some : FindsPast L before (record { number = r; pieces = h.count }) (lent list' w)
        finds_some =
            let N = length (plain_scan L) in
            let told : tells r ≡ true = both (λ n. tells n ≡ true) refl refl in
            let clear_r : clears (as_building r) ≡ true = both (λ n. clears (as_building n) ≡ true) refl refl in
            let a : ◌≡◌ {A = Found} (record { number = r; pieces = h.count }) (found_at r N) =
            λ i. record { number = r; pieces = (count_is ∙ sym (ap (λ (b : Bool). cond b N 0) told)) i } in
            let l : list' ≡ output_after r (plain_scan L) list = put ∙ ap (λ (m : List ℕ). output_after r m list) taken in
            let q = clear_beyond (needed z) waiting h.waiting on_waiting in
            let t = clear_beyond (needed_slots z) slots h.list on_slots in
            let c : w ≡ work_after (as_building r) z (work cube_words waiting slots) =
            clear
            ∙ ((λ i. work (cleared (needed z) cube_words) (q i) (t i))
            ∙ sym (work_cleared (as_building r) z (work cube_words waiting slots) clear_r)) in
            record {
              answer = a ∙ ap (λ (k : ℕ). found_at k N) number_is;
              left = (λ i. lent (l i) (c i)) ∙ ap (λ (k : ℕ). left_at k L before) number_is;
            }

      -- by the answer of what lists them
      module _ (some : h.count ≡ 0 → ⊥) (cube_words list list' : List ℕ) (r : Result ℕ FindError)
          (is : let m = length (take h.count h.list) in r ≡ cond (leb m (length list)) (Ok m) (Err (ListRoom m)))
          (put : list' ≡ output_after (found_told r).number (take h.count h.list) list) (w : Work)
          (clear : w ≡ clean z (work cube_words h.waiting h.list)) where
        abbrev number : ℕ
        number = cond (leb h.count (length list)) 0 20

        long : length (take h.count h.list) ≡ h.count
        long = length-take-le h.count h.list (omega (arith, count_few, passed.on_list.same_length))

        told : ◌≡◌ {A = Found} (found_told r) (record { number = number; pieces = h.count })
        told =
            ap found_told (is ∙ (λ i. cond (leb (long i) (length list)) (Ok (long i)) (Err (ListRoom (long i)))))
            ∙ go (leb h.count (length list))
          where
            go : (b : Bool) → ◌≡◌ {A = Found} (found_told (cond b (Ok h.count) (Err (ListRoom h.count)))) (record { number = cond b 0 20; pieces = h.count })
            go true = refl
            go false = refl

        pub finds_told : FindsPast L (lent list (work cube_words waiting slots)) (found_told r) (lent list' w)
        finds_told =
            let p = put ∙ ap (λ (f : Found). output_after f.number (take h.count h.list) list) told in
            subst (λ (f : Found). FindsPast L (lent list (work cube_words waiting slots)) f (lent list' w)) (sym told)
            (finds_some some cube_words list list' number refl p w clear)

-- ── tests 1 to 3 ──

module _ (L : Lattice) (l : Lent) where
  abbrev shape : List Test
  shape = shape_tests L (lengths l.work)

  abbrev rest : List Test
  rest = piece_tests (length (plain_scan L)) (length l.list)

  -- a refusal of the shape touches nothing
  pub refused : (r : ℕ) → r ≡ (judge shape).number → (r ≡ 0 → ⊥) → Finds L l (record { number = r; pieces = 0 }) l
  unfolding find_number found_in lent_after output_after shape_tests
  refused r e h =
      let no : (judge shape).number ≡ 0 → ⊥ = λ q. h (e ∙ q) in
      let n : find_number L l ≡ r = ap (λ (v : Verdict). v.number) (judge_stop shape rest no) ∙ sym e in
      let silent : tells r ≡ false =
      ap tells e ∙ judge_among (λ n. tells n ≡ false) shape (refl, (refl, (refl, tt))) (λ z. absurd (no z)) in
      let keeps : clears (as_building r) ≡ false =
      ap (λ (n : ℕ). clears (as_building n)) e
      ∙ judge_among (λ n. clears (as_building n) ≡ false) shape (refl, (refl, (refl, tt))) (λ z. absurd (no z)) in
      let q = ne_eqb r 0 h in
      let N = length (plain_scan L) in
      record {
        answer = sym (ap (λ (k : ℕ). found_at k N) n ∙ (λ i. record { number = r; pieces = cond (silent i) N 0 }));
        left =
            sym (ap (λ (k : ℕ). left_at k L l) n
            ∙ (λ i. lent (cond (q i) (over (plain_scan L) l.list) l.list) (work_kept (as_building r) L.size l.work keeps i)));
      }

  pub stopped : (e : Refusal) (r : Result ℕ FindError) → verdict_of e ≡ judge shape → IsErrAnd r (λ x. x ≡ Refused e)
      → Finds L l (found_told r) l
  stopped e (Ok n) q h = absurd h
  stopped e (Err x) q h =
      subst (λ (f : Found). Finds L l f l) (sym (ap (λ (y : FindError). found_told (Err y)) h))
      (refused (verdict_of e).number (ap (λ (v : Verdict). v.number) q) (λ z. omega (arith, some_number e)))

  -- past them
  pub settled : (judge shape).number ≡ 0 → (r : Found) (after : Lent) → FindsPast L l r after → Finds L l r after
  unfolding find_number found_in lent_after
  settled p r after f =
      let n : find_number L l ≡ (judge rest).number =
      ap (λ (v : Verdict). v.number) (judge_past shape rest (shape_numbered L (lengths l.work)) p) in
      record {
        answer = f.answer ∙ sym (ap (λ (k : ℕ). found_at k (length (plain_scan L))) n);
        left = f.left ∙ sym (ap (λ (k : ℕ). left_at k L l) n);
      }
