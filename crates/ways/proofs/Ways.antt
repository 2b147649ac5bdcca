-- Ways out of a row: where there is one and where there is none; they lead to rows of cubes. Assumes nothing.
use mathlib.Core.Path.{◌≡◌, refl, sym, ap, subst, ◌∙◌}
use mathlib.Core.Bool.{Bool, true, false, cond, ◌&&◌, and-false}
use mathlib.Core.List.{List}
use Prim.Native.Nat.{ℕ, zero, suc, ◌+◌, ◌-◌, ◌*◌, ◌/◌, ◌%◌, ◌^◌, ◌≤◌, ◌<◌}
use native.Mathlib.Nat.{add-zero, add-mul, mul-suc, suc-mul, mul_comm, mul-pos, mul-le-mul}
use native.Mathlib.Nat.{mul-le-mul_right, mod-lt, div-add-mod', div-lt_iff_lt-mul}
use native.Mathlib.Omega.{arith}
use lib.Dec.{ltb, ltb→lt, lt→ltb}
use lib.Bits.{bit_and, and_le_l, and_le_r}
use lib.ListN.{length, get_or, drop, length-append}
use lib.Seq.{drop-drop}
use lib.Arith.{digits_mod, digits_div}
use borrow.Author.Tests.{ltb-true, le-ltb}
use Rattle.lists.specs.Lists.{range, keep, cons_if, Beyond}
use Rattle.lists.proofs.Member.{t_to_eq, eq_to_t, and_both, and_left, and_right}
use Rattle.lists.proofs.Runs.{range_join, keep_append}
use Rattle.lists.proofs.Rising.{keep_le}
use Rattle.lists.proofs.Closure.{length_range}
use Rattle.paper.specs.declared.Sizes.{Sizes}
use Rattle.paper.specs.Lattice.{cubes}
use Rattle.paper.specs.Room.{needed}
use Rattle.paper.specs.Within.{Sized}
use Rattle.rows.specs.declared.Quad.{Quad}
use Rattle.rows.specs.Rows.{face_row}
use Rattle.ways.specs.declared.Out.{Out}
use Rattle.bits.specs.Words.{less}
use Rattle.ways.specs.Flow.{Flow, wait}
use Rattle.ways.proofs.Laws.{wait_none}
use Rattle.ways.specs.Ways.{is_way, next_row, no_way, way_by, way_at, beside_by, words, rows_of, is_row, RowIn}

module _ (there : Bool) (to r door : ℕ) where
  pub way_on : there ≡ true → ◌≡◌ {A = Out} (record { to = to; door = door }) (way_by there to r door)
  way_on e = ap (λ (b : Bool). way_by b to r door) (sym e)

  pub way_off : there ≡ false → ◌≡◌ {A = Out} (record { to = r; door = 0 }) (way_by there to r door)
  way_off e = ap (λ (b : Bool). way_by b to r door) (sym e)

-- by the number of the door
pub way_at_law : (z : Sizes) (q : Quad) (r : ℕ) {k j m : ℕ} {w : Out} → w ≡ way_by (is_way z r j) (next_row z r j) r m → m ≡ face_row q (k + 2)
    → k ≡ j
    → w ≡ way_at z q r k
way_at_law z q r e f d = e ∙ (λ i. way_by (is_way z r (sym d i)) (next_row z r (sym d i)) r (f i))

-- a send by a way
pub by_way : (vis may : List ℕ) (f : ℕ) (t : Flow) {u : Flow} {v w : Out} → u
    ≡ wait v.to (less (bit_and f (bit_and v.door (get_or may v.to 0))) (get_or vis v.to 0)) t → v ≡ w
    → u ≡ wait w.to (less (bit_and f (bit_and w.door (get_or may w.to 0))) (get_or vis w.to 0)) t
by_way vis may f t e d =
    e ∙ ap (λ (o : Out). wait o.to (less (bit_and f (bit_and o.door (get_or may o.to 0))) (get_or vis o.to 0)) t) d

-- and none where there is none
pub by_no_way : (vis may : List ℕ) (f r : ℕ) (t : Flow) {u : Flow} {w : Out} → u ≡ t → no_way r ≡ w
    → u ≡ wait w.to (less (bit_and f (bit_and w.door (get_or may w.to 0))) (get_or vis w.to 0)) t
by_no_way vis may f r t e d =
    let m = get_or may r 0 in
    let a = bit_and f (bit_and 0 m) in
    let b = 2 ^ 64 - 1 - get_or vis r 0 in
    let none : bit_and a b ≡ 0 = omega (arith, and_le_l 0 m, and_le_r f (bit_and 0 m), and_le_l a b) in
    by_way vis may f t (e ∙ sym (wait_none r (bit_and a b) t none)) d

-- ── ways lead to rows ──

-- q is row r, or lies at y and w, which are below a bound where those of r are
data Beside (z : Sizes) (r q : ℕ) : Type 0 where
  stayed : q ≡ r → Beside z r q
  moved : (y w : ℕ) → q ≡ w * z.ny + y → ((a : ℕ) → a ≤ 1 → r % z.ny + a < z.ny → y + a < z.ny)
      → ((a : ℕ) → a ≤ 1 → r / z.ny + a < z.nz → w + a < z.nz) → Beside z r q

beside_is : (z : Sizes) (q : Quad) (r k : ℕ) → Beside z r (beside_by z q r k)
unfolding is_way next_row
beside_is z q r zero = go (ltb 0 (r % z.ny)) refl
  where
    go : (b : Bool) → ltb 0 (r % z.ny) ≡ b → Beside z r (cond b (r - 1) r)
    go true p =
        let h = ltb-true 0 (r % z.ny) p in
        moved (r % z.ny - 1) (r / z.ny) (omega (arith, div-add-mod' r z.ny)) (λ a l g. omega arith) (λ a l g. g)
    go false p = stayed refl
beside_is z q r (suc zero) = go (ltb (r % z.ny + 2) z.ny) refl
  where
    go : (b : Bool) → ltb (r % z.ny + 2) z.ny ≡ b → Beside z r (cond b (r + 1) r)
    go true p =
        let h = ltb-true (r % z.ny + 2) z.ny p in
        moved (r % z.ny + 1) (r / z.ny) (omega (arith, div-add-mod' r z.ny)) (λ a l g. omega arith) (λ a l g. g)
    go false p = stayed refl
beside_is z q r (suc (suc zero)) = go (ltb 0 (r / z.ny)) refl
  where
    go : (b : Bool) → ltb 0 (r / z.ny) ≡ b → Beside z r (cond b (r - z.ny) r)
    go true p =
        let h = ltb-true 0 (r / z.ny) p in
        let e : r / z.ny ≡ r / z.ny - 1 + 1 = omega arith in
        let m : r / z.ny * z.ny ≡ (r / z.ny - 1 + 1) * z.ny = ap (λ (t : ℕ). t * z.ny) e in
        moved (r % z.ny) (r / z.ny - 1) (omega (arith, m, add-mul (r / z.ny - 1) 1 z.ny, div-add-mod' r z.ny)) (λ a l g. g)
        (λ a l g. omega arith)
    go false p = stayed refl
beside_is z q r (suc (suc (suc k))) = go (ltb (r / z.ny + 2) z.nz) refl
  where
    go : (b : Bool) → ltb (r / z.ny + 2) z.nz ≡ b → Beside z r (cond b (r + z.ny) r)
    go true p =
        let h = ltb-true (r / z.ny + 2) z.nz p in
        moved (r % z.ny) (r / z.ny + 1) (omega (arith, add-mul (r / z.ny) 1 z.ny, div-add-mod' r z.ny)) (λ a l g. g)
        (λ a l g. omega arith)
    go false p = stayed refl

word_lt : (ny nz y w q : ℕ) → y < ny → w < nz → q ≡ w * ny + y → q < ny * nz
word_lt ny nz y w q h g e =
    omega (arith, mul-le-mul_right ny g, add-mul w 1 ny, suc-mul w ny, mul_comm nz ny)

module _ (z : Sizes) where
  pub row_lt : (r : ℕ) → RowIn z r → r < words z
  row_lt r h =
      let i = h.inner in
      let o = h.outer in
      word_lt z.ny z.nz (r % z.ny) (r / z.ny) r (omega arith) (omega arith) (sym (div-add-mod' r z.ny))

  -- the four words around a row
  pub row_quad : (r : ℕ) → RowIn z r → r + z.ny + 1 < words z
  row_quad r h =
      let i = h.inner in
      let o = h.outer in
      word_lt z.ny z.nz (r % z.ny + 1) (r / z.ny + 1) (r + z.ny + 1) (omega arith) (omega arith)
      (omega (arith, div-add-mod' r z.ny, add-mul (r / z.ny) 1 z.ny))

  pub row_on : (q : Quad) (r k : ℕ) → RowIn z r → RowIn z (beside_by z q r k)
  row_on q r k h = go (beside_is z q r k)
    where
      go : {b : ℕ} → Beside z r b → RowIn z b
      go (stayed e) = subst (RowIn z) (sym e) h
      go (moved y w e f g) =
          let i = f 1 (omega arith) h.inner in
          let o = g 1 (omega arith) h.outer in
          let l : y < z.ny = omega arith in
          let a = ap (λ (t : ℕ). t % z.ny) e ∙ digits_mod w l in
          let b = ap (λ (t : ℕ). t / z.ny) e ∙ digits_div w l in
          record { inner = omega arith; outer = omega arith }

  pub into : (q : Quad) (r k : ℕ) → 0 < z.ny → r < words z → beside_by z q r k < words z
  into q r k p h = go (beside_is z q r k)
    where
      go : {b : ℕ} → Beside z r b → b < words z
      go (stayed e) = omega arith
      go (moved y w e f g) =
          let m = mod-lt r p in
          let h' : r < z.nz * z.ny = omega (arith, mul_comm z.nz z.ny) in
          let d = (div-lt_iff_lt-mul p).1 h' in
          let i = f 0 (omega arith) (omega arith) in
          let o = g 0 (omega arith) (omega arith) in
          word_lt z.ny z.nz y w _ (omega arith) (omega arith) e

-- ── what the ways ask ──

pub low_y : (z : Sizes) (r : ℕ) → ltb 0 (r % z.ny) ≡ true → 1 ≤ r
low_y z r e = omega (arith, ltb-true 0 (r % z.ny) e, div-add-mod' r z.ny)

pub low_z : (z : Sizes) (r : ℕ) → ltb 0 (r / z.ny) ≡ true → z.ny ≤ r
low_z z r e =
    let h : 1 ≤ r / z.ny = ltb-true 0 (r / z.ny) e in
    omega (arith, mul-le-mul_right z.ny h, div-add-mod' r z.ny)

pub words_le : (z : Sizes) → Sized z → words z ≤ 4096
words_le z s = mul-le-mul {n₂ = 64} {m₂ = 64} s.y_high s.z_high

pub row_le : (z : Sizes) (r : ℕ) → Sized z → RowIn z r → r ≤ 4096
row_le z r s h = omega (arith, row_lt z r h, words_le z s)

-- ── how many rows of cubes there are ──

pub row_test : (z : Sizes) (r : ℕ) → RowIn z r → is_row z r ≡ true
unfolding is_row
row_test z r h =
    t_to_eq (is_row z r)
    (and_both (ltb (r % z.ny + 1) z.ny) (ltb (r / z.ny + 1) z.nz) (lt→ltb (r % z.ny + 1) z.ny h.inner)
    (lt→ltb (r / z.ny + 1) z.nz h.outer))

pub row_in : (z : Sizes) (r : ℕ) → is_row z r ≡ true → RowIn z r
unfolding is_row
row_in z r e =
    let t = eq_to_t e in
    record {
      inner = ltb→lt (r % z.ny + 1) z.ny (and_left (ltb (r % z.ny + 1) z.ny) (ltb (r / z.ny + 1) z.nz) t);
      outer = ltb→lt (r / z.ny + 1) z.nz (and_right (ltb (r % z.ny + 1) z.ny) (ltb (r / z.ny + 1) z.nz) t);
    }

none_kept : (p : ℕ → Bool) (i n : ℕ) → ((k : ℕ) → k < n → p (i + k) ≡ false) → length (keep p (range i n)) ≡ 0
none_kept p i zero f = refl
none_kept p i (suc n) f =
    let e : p i ≡ false = ap p (sym (add-zero i)) ∙ f 0 (omega arith) in
    let ih = none_kept p (suc i) n (λ k l. let z : suc i + k ≡ i + suc k = omega arith in ap p z ∙ f (suc k) (omega arith)) in
    ap (λ (b : Bool). length (cons_if b i (keep p (range (suc i) n)))) e ∙ ih

module _ (z : Sizes) (s : Sized z) where
  -- no row is at the high y end, none at the high z end
  high_y : (w : ℕ) → is_row z (z.ny * w + (z.ny - 1)) ≡ false
  unfolding is_row
  high_y w =
      let l : z.ny - 1 < z.ny = omega (arith, s.y_low) in
      let e : z.ny * w + (z.ny - 1) ≡ w * z.ny + (z.ny - 1) = omega (arith, mul_comm z.ny w) in
      let m = ap (λ (t : ℕ). t % z.ny) e ∙ digits_mod w l in
      ap (λ (b : Bool). b && ltb ((z.ny * w + (z.ny - 1)) / z.ny + 1) z.nz)
      (le-ltb ((z.ny * w + (z.ny - 1)) % z.ny + 1) z.ny (omega arith))

  high_z : (y : ℕ) → y < z.ny → is_row z (z.ny * (z.nz - 1) + y) ≡ false
  unfolding is_row
  high_z y l =
      let e : z.ny * (z.nz - 1) + y ≡ (z.nz - 1) * z.ny + y = omega (arith, mul_comm z.ny (z.nz - 1)) in
      let m = ap (λ (t : ℕ). t / z.ny) e ∙ digits_div (z.nz - 1) l in
      ap (λ (b : Bool). ltb ((z.ny * (z.nz - 1) + y) % z.ny + 1) z.ny && b)
      (le-ltb ((z.ny * (z.nz - 1) + y) / z.ny + 1) z.nz (omega (arith, m, s.z_low)))
      ∙ and-false (ltb ((z.ny * (z.nz - 1) + y) % z.ny + 1) z.ny)

  abbrev kept : ℕ → ℕ → ℕ
  kept i n = length (keep (is_row z) (range i n))

  kept_join : (a m n : ℕ) → kept a (m + n) ≡ kept a m + kept (a + m) n
  kept_join a m n =
      ap (λ (l : List ℕ). length (keep (is_row z) l)) (range_join a m n)
      ∙ (ap length (keep_append (is_row z) (range a m) (range (a + m) n))
      ∙ length-append (keep (is_row z) (range a m)) (keep (is_row z) (range (a + m) n)))

  layer : (w : ℕ) → kept (z.ny * w) z.ny ≤ z.ny - 1
  layer w =
      let e : z.ny ≡ z.ny - 1 + 1 = omega (arith, s.y_low) in
      let last = none_kept (is_row z) (z.ny * w + (z.ny - 1)) 1
      (λ k l. let q : z.ny * w + (z.ny - 1) + k ≡ z.ny * w + (z.ny - 1) = omega arith in ap (is_row z) q ∙ high_y w) in
      omega (
        arith,
        ap (λ (n : ℕ). kept (z.ny * w) n) e,
        kept_join (z.ny * w) (z.ny - 1) 1,
        last,
        keep_le (is_row z) (range (z.ny * w) (z.ny - 1)),
        length_range (z.ny * w) (z.ny - 1),
      )

  layers : (w : ℕ) → kept 0 (z.ny * w) ≤ (z.ny - 1) * w
  layers zero = let e : z.ny * 0 ≡ 0 = omega arith in omega (arith, ap (λ (n : ℕ). kept 0 n) e)
  layers (suc w) =
      let e : z.ny * suc w ≡ z.ny * w + z.ny = omega arith in
      let f : 0 + z.ny * w ≡ z.ny * w = omega arith in
      omega (
        arith,
        layers w,
        layer w,
        ap (λ (n : ℕ). kept 0 n) e,
        kept_join 0 (z.ny * w) z.ny,
        ap (λ (a : ℕ). kept a z.ny) f,
        mul-suc (z.ny - 1) w,
      )

  pub rows_count : kept 0 (words z) ≤ rows_of z
  rows_count =
      let n : z.nz ≡ z.nz - 1 + 1 = omega (arith, s.z_low) in
      let e : words z ≡ z.ny * (z.nz - 1) + z.ny = ap (λ (t : ℕ). z.ny * t) n ∙ omega arith in
      let f : 0 + z.ny * (z.nz - 1) ≡ z.ny * (z.nz - 1) = omega arith in
      omega (
        arith,
        layers (z.nz - 1),
        ap (λ (n : ℕ). kept 0 n) e,
        kept_join 0 (z.ny * (z.nz - 1)) z.ny,
        ap (λ (a : ℕ). kept a z.ny) f,
        none_kept (is_row z) (z.ny * (z.nz - 1)) z.ny high_z,
      )

  pub rows_some : 0 < rows_of z
  rows_some = mul-pos (omega (arith, s.y_low)) (omega (arith, s.z_low))

-- ── room ──

pub rows_few : (z : Sizes) → Sized z → rows_of z ≤ needed z
unfolding cubes
rows_few z s =
    let w : 1 ≤ z.nx - 1 = omega (arith, s.x_low) in
    let m : rows_of z ≤ rows_of z = omega arith in
    omega (arith, mul-le-mul {n₂ = z.nx - 1} {m₂ = rows_of z} w m)

-- past a longer front there is less to tell
pub beyond_more : (m n : ℕ) (l₀ l : List ℕ) → m ≤ n → Beyond m l₀ l → Beyond n l₀ l
beyond_more m n l₀ l h b =
    let q : m + (n - m) ≡ n = omega arith in
    record {
      same_length = b.same_length;
      rest =
          sym (drop-drop (n - m) m l ∙ ap (λ (k : ℕ). drop k l) q)
          ∙ (ap (drop (n - m)) b.rest ∙ (drop-drop (n - m) m l₀ ∙ ap (λ (k : ℕ). drop k l₀) q));
    }
