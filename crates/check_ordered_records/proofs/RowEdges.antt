-- The edges of a row by its seven words, and the tables of the seven kinds. Assumes nothing.
use mathlib.Core.Path.{◌≡◌, refl, sym, ap, subst, ◌∙◌}
use mathlib.Core.Bool.{Bool, true, false, cond}
use mathlib.Core.List.{List, [], ◌∷◌, ◌++◌, map, map-append}
use Prim.Native.Nat.{ℕ, zero, suc, ◌+◌, ◌*◌, ◌/◌, ◌%◌, ◌≤◌, ◌<◌}
use native.Mathlib.Omega.{arith}
use lib.Dec.{T, eqb, eqb_refl}
use lib.IntN.{ℤ, pos, negsuc, ◌-ℤ◌}
use lib.ListN.{get_or}
use Rattle.lists.specs.Lists.{range, cons_if, keep, each, is_in}
use Rattle.lists.proofs.Member.{in_any, and_both, in_keep, in_range}
use Rattle.lists.proofs.Every.{any_map}
use Rattle.lists.proofs.Runs.{range_join, keep_append, each_more}
use Rattle.paper.specs.declared.Sizes.{Sizes}
use Rattle.paper.specs.declared.Place.{Place}
use Rattle.paper.specs.Lattice.{Lattice, place, sample_no, sample_at}
use Rattle.paper.specs.Tables.{kinds}
use Rattle.paper.specs.Sheet.{ends_of, anchor_of, kind_in}
use Rattle.paper.proofs.Numbers.{sample_place}
use Rattle.lattice.specs.Steps.{corner_step}
use Rattle.bits.specs.Words.{bit, word}
use Rattle.bits.proofs.Bits.{bit_word}
use Rattle.crossing.specs.Vertex.{Crosses}
use Rattle.kinds.specs.declared.KindWords.{KindWords}
use Rattle.kinds.specs.Kinds.{seven, is_edge}
use Rattle.dots.specs.Dots.{edge_at, edges_at, anchor_edges, row_edges, Crossed}
use Rattle.check_entries.specs.Entries.{Ends, has_edge, RowCrosses}
use Rattle.check_ordered.specs.Ordered.{kept}

-- ── edges by words ──

-- n parts of w numbers each, from b on, all moved by row
run_moved : (row : ℕ) (p : ℕ → Bool) (f : ℕ → List ℕ) (b w n : ℕ) → ((x : ℕ) → x < n → f x ≡ map (λ e. row + e) (keep p (range (b + w * x) w)))
    → each f (range 0 n) ≡ map (λ e. row + e) (keep p (range b (w * n)))
run_moved row p f b w zero h = let e : 0 ≡ w * 0 = omega arith in ap (λ (k : ℕ). map (λ e. row + e) (keep p (range b k))) e
run_moved row p f b w (suc n) h =
    let g : ℕ → ℕ = λ e. row + e in
    let s : suc n ≡ n + 1 = omega arith in
    let e : w * n + w ≡ w * suc n = omega arith in
    let r : each f (range 0 n) ≡ map g (keep p (range b (w * n))) = run_moved row p f b w n (λ x l. h x (omega arith)) in
    let l : f n ≡ map g (keep p (range (b + w * n) w)) = h n (omega arith) in
    ap (λ (k : ℕ). each f (range 0 k)) s
    ∙ (each_more f n
    ∙ ((λ i. r i ++ l i)
    ∙ (sym (map-append g (keep p (range b (w * n))) (keep p (range (b + w * n) w)))
    ∙ (ap (map g) (sym (keep_append p (range b (w * n)) (range (b + w * n) w)))
    ∙ (ap (λ (r : List ℕ). map g (keep p r)) (sym (range_join b (w * n) w)) ∙ ap (λ (k : ℕ). map g (keep p (range b k))) e)))))

-- the edges of an anchor
anchor_kept : (k : KindWords) (row x : ℕ) → anchor_edges k row x ≡ map (λ e. row + e) (keep (has_edge (seven k)) (range (7 * x) 7))
unfolding anchor_edges edges_at edge_at is_edge
anchor_kept k row x = run_moved row (has_edge (seven k)) (edge_at ks (row + 7 * x)) (7 * x) 1 7 one
  where
    ks : ℕ
    ks = word (λ j. is_edge k (7 * x + j)) 7

    go : (c : Bool) (e m : ℕ) → e ≡ row + m → cond c (e ∷ []) [] ≡ map (λ e. row + e) (cons_if c m [])
    go true e m q = λ i. q i ∷ []
    go false e m q = refl

    one : (j : ℕ) → j < 7 → cond (bit ks j) ((row + 7 * x + j) ∷ []) [] ≡ map (λ e. row + e) (keep (has_edge (seven k)) (range (7 * x + 1 * j) 1))
    one j l =
        let e : 7 * x + j ≡ 7 * x + 1 * j = omega arith in
        ap (λ (b : Bool). cond b ((row + 7 * x + j) ∷ []) []) (bit_word (λ j. is_edge k (7 * x + j)) 7 j l)
        ∙ (go (is_edge k (7 * x + j)) (row + 7 * x + j) (7 * x + j) (omega arith) ∙ ap (λ (m : ℕ). map (λ e. row + e) (cons_if (is_edge k m) m [])) e)

-- and of a row
pub row_kept : (k : KindWords) (row n : ℕ) → row_edges k row n ≡ map (λ e. row + e) (kept (seven k) (7 * n))
unfolding row_edges
row_kept k row n =
    run_moved row (has_edge (seven k)) (anchor_edges k row) 0 7 n
    (λ x h. let e : 7 * x ≡ 0 + 7 * x = omega arith in anchor_kept k row x ∙ ap (λ (b : ℕ). map (λ e. row + e) (keep (has_edge (seven k)) (range b 7))) e)

-- where they change sides
pub row_crosses : (L : Lattice) (k : KindWords) (y w here : ℕ) → y < L.size.ny → here ≡ L.size.nx * (y + L.size.ny * w)
    → Crossed L (row_edges k (7 * here) L.size.nx) → RowCrosses L y w (7 * L.size.nx) (seven k)
unfolding anchor_of sample_no
row_crosses L k y w here hy q C = record {
  at = λ e h t.
      let row = 7 * here in
      let l = kept (seven k) (7 * L.size.nx) in
      let i : T (is_in l e) =
      subst T (sym (in_keep (has_edge (seven k)) (range 0 (7 * L.size.nx)) e))
      (and_both (is_in (range 0 (7 * L.size.nx)) e) (has_edge (seven k) e) (in_range 0 (7 * L.size.nx) e (omega arith) (omega arith)) t) in
      let m : T (is_in (map (λ e. row + e) l) (row + e)) =
      subst T (sym (any_map (eqb (row + e)) (λ e. row + e) l)) (in_any (λ x. eqb (row + e) (row + x)) l e i (eqb_refl (row + e))) in
      let c = C.at (row + e) (subst (λ (es : List ℕ). T (is_in es (row + e))) (sym (row_kept k row L.size.nx)) m) in
      let p : Place = place (e / 7) y w in
      let d : (row + e) / 7 ≡ sample_no L.size p = omega (arith, q) in
      let a : anchor_of L.size (row + e) ≡ p = ap (sample_at L.size) d ∙ sample_place L.size p (omega arith) hy in
      let b : kind_in (row + e) ≡ e % 7 = omega arith in
      subst (λ (j : ℕ). Crosses L p j) b (subst (λ (p : Place). Crosses L p (kind_in (row + e))) a c);
}

-- ── tables ──

below7 : (P : ℕ → Type 0) → P 0 → P 1 → P 2 → P 3 → P 4 → P 5 → P 6 → (k : ℕ) → k < 7 → P k
below7 P a b c d e f g zero l = a
below7 P a b c d e f g (suc zero) l = b
below7 P a b c d e f g (suc (suc zero)) l = c
below7 P a b c d e f g (suc (suc (suc zero))) l = d
below7 P a b c d e f g (suc (suc (suc (suc zero)))) l = e
below7 P a b c d e f g (suc (suc (suc (suc (suc zero))))) l = f
below7 P a b c d e f g (suc (suc (suc (suc (suc (suc zero)))))) l = g
below7 P a b c d e f g (suc (suc (suc (suc (suc (suc (suc k))))))) l = absurd (omega arith)

abbrev pub offs : Sizes → List ℕ
offs z = (0) ∷ (1) ∷ (0) ∷ z.nx ∷ (0) ∷ (z.nx * z.ny) ∷ z.nx ∷ (z.nx * z.ny) ∷ (1) ∷ (z.nx * z.ny) ∷ z.nx ∷ (1) ∷ (z.nx + 1) ∷ (z.nx * z.ny) ∷ []

abbrev pub froms : ℕ → ℕ → List ℕ
froms y w = (0) ∷ (65536 * y) ∷ (65536 * w) ∷ (0) ∷ (65536 * y) ∷ (65536 * w) ∷ (0) ∷ (65536 * y) ∷ (65536 * w) ∷ (0) ∷ (65536 * y + 65536) ∷ (65536 * w) ∷ (65536) ∷ (65536 * y) ∷ (65536 * w) ∷ (0) ∷ (65536 * y + 65536) ∷ (65536 * w) ∷ (65536) ∷ (65536 * y + 65536) ∷ (65536 * w) ∷ []

abbrev pub turns : List ℤ
turns = pos 1 ∷ pos 0 ∷ pos 0 ∷ pos 0 ∷ pos 1 ∷ pos 0 ∷ pos 0 ∷ pos 0 ∷ pos 1 ∷ pos 0 ∷ negsuc 0 ∷ pos 1 ∷ negsuc 0 ∷ pos 0 ∷ pos 1 ∷ pos 1 ∷ negsuc 0 ∷ pos 0 ∷ negsuc 0 ∷ negsuc 0 ∷ pos 1 ∷ []

abbrev pub mains : List ℕ
mains = 1 ∷ 2 ∷ 3 ∷ 3 ∷ 3 ∷ 1 ∷ 3 ∷ []

pub tables : (z : Sizes) (y w : ℕ) → Ends z y w (offs z) (froms y w) turns mains
unfolding ends_of kinds corner_step
tables z y w = record {
  first = below7 (λ k. get_or (offs z) (2 * k) 0 ≡ corner_step z (ends_of k).a) (omega arith) (omega arith) (omega arith) (omega arith) (omega arith) (omega arith) (omega arith);
  second = below7 (λ k. get_or (offs z) (2 * k + 1) 0 ≡ corner_step z (ends_of k).b) (omega arith) (omega arith) (omega arith) (omega arith) (omega arith) (omega arith) (omega arith);
  from_x = below7 (λ k. get_or (froms y w) (3 * k) 0 ≡ 65536 * ((ends_of k).a % 2)) (omega arith) (omega arith) (omega arith) (omega arith) (omega arith) (omega arith) (omega arith);
  from_y = below7 (λ k. get_or (froms y w) (3 * k + 1) 0 ≡ 65536 * (y + (ends_of k).a / 2 % 2)) (omega arith) (omega arith) (omega arith) (omega arith) (omega arith) (omega arith) (omega arith);
  from_z = below7 (λ k. get_or (froms y w) (3 * k + 2) 0 ≡ 65536 * (w + (ends_of k).a / 4)) (omega arith) (omega arith) (omega arith) (omega arith) (omega arith) (omega arith) (omega arith);
  dir_x = below7 (λ k. get_or turns (3 * k) (pos 0) ≡ pos ((ends_of k).b % 2) -ℤ pos ((ends_of k).a % 2)) (refl) (refl) (refl) (refl) (refl) (refl) (refl);
  dir_y = below7 (λ k. get_or turns (3 * k + 1) (pos 0) ≡ pos ((ends_of k).b / 2 % 2) -ℤ pos ((ends_of k).a / 2 % 2)) (refl) (refl) (refl) (refl) (refl) (refl) (refl);
  dir_z = below7 (λ k. get_or turns (3 * k + 2) (pos 0) ≡ pos ((ends_of k).b / 4) -ℤ pos ((ends_of k).a / 4)) (refl) (refl) (refl) (refl) (refl) (refl) (refl);
  number = below7 (λ k. get_or mains k 0 ≤ 3) (omega arith) (omega arith) (omega arith) (omega arith) (omega arith) (omega arith) (omega arith);
}
