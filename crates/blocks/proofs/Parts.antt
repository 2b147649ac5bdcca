-- A block and its eight parts. Assumes nothing.
use mathlib.Core.Path.{◌≡◌, refl, sym, ap, subst, ◌∙◌}
use mathlib.Core.Bool.{Bool, true, false, not, ◌&&◌, ◌||◌, and-false, or-false}
use mathlib.Core.List.{List, [], ◌∷◌}
use mathlib.Core.Logic.{⊎_elim}
use Prim.Native.Nat.{ℕ, zero, suc, ◌+◌, ◌*◌, ◌/◌, ◌^◌, ◌≤◌, ◌<◌}
use native.Mathlib.Omega.{arith}
use native.Mathlib.Numerals.{add-one}
use native.Mathlib.Nat.{pow-suc, mul-add}
use lib.Pow.{pow_pos}
use lib.Dec.{T, leb, ltb}
use lib.ListN.{get_or}
use borrow.Author.Tests.{lt-ltb, le-leb, lt-leb, ltb-true, ltb-false, leb-true}
use Rattle.lists.specs.Lists.{range, any}
use Rattle.lists.proofs.Runs.{any_snoc}
use Rattle.lists.proofs.Member.{eq_to_t}
use Rattle.paper.specs.declared.Sizes.{Sizes}
use Rattle.paper.specs.declared.Place.{Place}
use Rattle.paper.specs.Lattice.{place, mixed, in_lattice}
use Rattle.paper.specs.Within.{CubeIn}
use Rattle.paper.proofs.Judged.{both}
use Rattle.paper.proofs.Visits.{in_lattice_law}
use Rattle.bits.specs.Words.{bit}
use Rattle.rows.specs.Rows.{row_no, quad_at, pairs, crossed_in, crossed_by}
use Rattle.blocks.specs.Blocks.{within, in_block, half_at, part, in_parts, Block, side_by}
use Rattle.blocks.specs.Blocks.{OnSide, OneSide, Outside, Quiet, crossed_where, Marked}
use Rattle.blocks.proofs.Marks.{marked_none, marked_ext, marked_both}

-- ── places in a block ──

pub record In (x n a : ℕ) : Type 0 where
  pub low : x ≤ a
  pub high : a < x + n

pub T_true : (b : Bool) → T b → b ≡ true
T_true false t = elim t [ ]
T_true true t = refl

pub within_in : (x n a : ℕ) → within x n a ≡ true → In x n a
unfolding within
within_in x n a e = let p = both (leb x a) (ltb a (x + n)) e in record { low = leb-true x a p.0; high = ltb-true a (x + n) p.1 }

pub in_within : (x n a : ℕ) → In x n a → within x n a ≡ true
unfolding within
in_within x n a h = ap (λ (b : Bool). b && ltb a (x + n)) (le-leb x a h.low) ∙ lt-ltb a (x + n) h.high

pub record Inside (b : Place) (n : ℕ) (p : Place) : Type 0 where
  pub x : In b.x n p.x
  pub y : In b.y n p.y
  pub z : In b.z n p.z

pub block_inside : (b : Place) (n : ℕ) (p : Place) → T (in_block b n p) → Inside b n p
unfolding in_block
block_inside b n p t =
    let e = both (within b.x n p.x) (within b.y n p.y && within b.z n p.z) (T_true _ t) in
    let f = both (within b.y n p.y) (within b.z n p.z) e.1 in
    record { x = within_in b.x n p.x e.0; y = within_in b.y n p.y f.0; z = within_in b.z n p.z f.1 }

pub inside_block : (b : Place) (n : ℕ) (p : Place) → Inside b n p → T (in_block b n p)
unfolding in_block
inside_block b n p h =
    eq_to_t (λ i. in_within b.x n p.x h.x i && (in_within b.y n p.y h.y i && in_within b.z n p.z h.z i))

-- ── a block is its eight parts ──

-- an axis is two parts of it, and its two halves
pub within_join : (x m n a : ℕ) → within x (m + n) a ≡ (within x m a || within (x + m) n a)
unfolding within
within_join x m n a = go (ltb a (x + m)) refl
  where
    go : (b : Bool) → ltb a (x + m) ≡ b
        → (leb x a && ltb a (x + (m + n))) ≡ ((leb x a && ltb a (x + m)) || (leb (x + m) a && ltb a (x + m + n)))
    go true e =
        let l = ltb-true a (x + m) e in
        (λ i. (leb x a && lt-ltb a (x + (m + n)) (omega arith) i))
        ∙ sym ((λ i. (leb x a && e i) || (lt-leb (x + m) a l i && ltb a (x + m + n))) ∙ or-false (leb x a && true))
    go false e =
        let l = ltb-false a (x + m) e in
        let q : x + (m + n) ≡ x + m + n = omega arith in
        (λ i. (le-leb x a (omega arith) i && ltb a (q i)))
        ∙ sym (λ i. (le-leb x a (omega arith) i && e i) || (le-leb (x + m) a l i && ltb a (x + m + n)))

halves : (x h a : ℕ) → within x (2 * h) a ≡ (within x h a || within (x + h) h a)
halves x h a = let e : 2 * h ≡ h + h = omega arith in ap (λ (n : ℕ). within x n a) e ∙ within_join x h h a

-- eight products of sums, by the test of all 64 cases
every : (Bool → Bool) → Bool
every f = f true && f false

at_each : (f : Bool → Bool) → T (every f) → (b : Bool) → T (f b)
unfolding every
at_each f t true = eq_to_t (both (f true) (f false) (T_true _ t)).0
at_each f t false = eq_to_t (both (f true) (f false) (T_true _ t)).1

same : Bool → Bool → Bool
same true b = b
same false b = not b

same_eq : (a b : Bool) → T (same a b) → a ≡ b
unfolding same
same_eq true true t = refl
same_eq false false t = refl
same_eq false true t = elim t [ ]
same_eq true false t = elim t [ ]

sums : Bool → Bool → Bool → Bool → Bool → Bool → Bool
sums a b c d e f = (a || b) && ((c || d) && (e || f))

products : Bool → Bool → Bool → Bool → Bool → Bool → Bool
products a b c d e f =
    (a && (c && e)) || ((b && (c && e)) || ((a && (d && e)) || ((b && (d && e))
    || ((a && (c && f)) || ((b && (c && f)) || ((a && (d && f)) || ((b && (d && f)) || false)))))))

eight : (a b c d e f : Bool) → sums a b c d e f ≡ products a b c d e f
unfolding every same sums products
eight a b c d e f =
    let g : Bool → Bool → Bool → Bool → Bool → Bool → Bool = λ a b c d e f. same (sums a b c d e f) (products a b c d e f) in
    let t = at_each (λ a. every (λ b. every (λ c. every (λ d. every (λ e. every (λ f. g a b c d e f)))))) tt a in
    let u = at_each (λ b. every (λ c. every (λ d. every (λ e. every (λ f. g a b c d e f))))) t b in
    let v = at_each (λ c. every (λ d. every (λ e. every (λ f. g a b c d e f)))) u c in
    let w = at_each (λ d. every (λ e. every (λ f. g a b c d e f))) v d in
    let x = at_each (λ e. every (λ f. g a b c d e f)) w e in
    same_eq (sums a b c d e f) (products a b c d e f) (at_each (λ f. g a b c d e f) x f)

pub parts_all : (b : Place) (h : ℕ) (p : Place) → in_parts b h 8 p ≡ in_block b (2 * h) p
unfolding in_parts in_block part half_at sums products
parts_all b h p =
    sym ((λ i. halves b.x h p.x i && (halves b.y h p.y i && halves b.z h p.z i))
    ∙ eight (within b.x h p.x) (within (b.x + h) h p.x) (within b.y h p.y) (within (b.y + h) h p.y)
    (within b.z h p.z) (within (b.z + h) h p.z))

pub parts_more : (b : Place) (h k : ℕ) (p : Place) → in_parts b h (k + 1) p ≡ (in_parts b h k p || in_block (part b h k) h p)
unfolding in_parts
parts_more b h k p =
    ap (λ (n : ℕ). any (λ i. in_block (part b h i) h p) (range 0 n)) (add-one k) ∙ any_snoc (λ i. in_block (part b h i) h p) k

-- half of a block's size
pub halved : (b : Place) (n h : ℕ) → Block b n → 1 < n → h ≡ n / 2 → n ≡ 2 * h
halved b n h k l e = go k.level k.is
  where
    go : (v : ℕ) → n ≡ 2 ^ v → n ≡ 2 * h
    go zero q = absurd (omega arith)
    go (suc v) q = omega (arith, pow-suc 2 v)

pub some : (b : Place) (n : ℕ) → Block b n → 1 ≤ n
some b n k = omega (arith, k.is, pow_pos k.level)

pub part_block : (b : Place) (n h : ℕ) → Block b n → 1 < n → h ≡ n / 2 → (p : Place) → p.x ≤ b.x + h → p.y ≤ b.y + h → p.z ≤ b.z + h
    → Block p h
part_block b n h k l e p hx hy hz = go k.level k.is
  where
    go : (v : ℕ) → n ≡ 2 ^ v → Block p h
    go zero q = absurd (omega arith)
    go (suc v) q = record {
      level = v;
      is = omega (arith, pow-suc 2 v);
      x = omega (arith, k.x, halved b n h k l e);
      y = omega (arith, k.y, halved b n h k l e);
      z = omega (arith, k.z, halved b n h k l e);
    }

-- ── a block that is passed over ──

pub never : {A : Type 0} → true ≡ false → A
never e = absurd (subst T e tt)

alike : (s : Bool) → mixed (s ∷ s ∷ s ∷ s ∷ s ∷ s ∷ s ∷ s ∷ []) ≡ false
unfolding mixed
alike true = refl
alike false = refl

-- the samples of a block are on one side: no cube in it is crossed
module _ (z : Sizes) (rows may : List ℕ) (b : Place) (n : ℕ) where
  side_in : (s : Bool) → OnSide z rows b n s → (p : Place) → CubeIn z p → Inside b n p
      → (r a dx dy dz : ℕ) → dx ≤ 1 → dy ≤ 1 → dz ≤ 1 → a ≡ p.x + dx → r ≡ p.y + dy + z.ny * (p.z + dz) → bit (get_or rows r 0) a ≡ s
  unfolding side_by
  side_in s h p c i r a dx dy dz hx hy hz e f =
      (λ j. bit (get_or rows (f j) 0) (e j))
      ∙ h (place (p.x + dx) (p.y + dy) (p.z + dz)) (record { x = omega (arith, c.x); y = omega (arith, c.y); z = omega (arith, c.z) })
      (inside_block b (n + 1) (place (p.x + dx) (p.y + dy) (p.z + dz)) (record {
        x = record { low = omega (arith, i.x.low); high = omega (arith, i.x.high) };
        y = record { low = omega (arith, i.y.low); high = omega (arith, i.y.high) };
        z = record { low = omega (arith, i.z.low); high = omega (arith, i.z.high) };
      }))

  pub one_side_quiet : OneSide z rows b n → Quiet z rows may b n
  unfolding crossed_by crossed_in quad_at pairs
  one_side_quiet (s, h) p c t =
      let i = block_inside b n p t in
      let ny = z.ny in
      let r = p.y + ny * p.z in
      let m = mul-add ny p.z 1 in
      let at = side_in s h p c i in
      let v = bit (get_or may (row_no z p) 0) p.x in
      (λ j. v && mixed (at r p.x 0 0 0 (omega arith) (omega arith) (omega arith) (omega arith) (omega arith) j
      ∷ at r (p.x + 1) 1 0 0 (omega arith) (omega arith) (omega arith) refl (omega arith) j
      ∷ at (r + 1) p.x 0 1 0 (omega arith) (omega arith) (omega arith) (omega arith) (omega arith) j
      ∷ at (r + 1) (p.x + 1) 1 1 0 (omega arith) (omega arith) (omega arith) refl (omega arith) j
      ∷ at (r + ny) p.x 0 0 1 (omega arith) (omega arith) (omega arith) (omega arith) (omega (arith, m)) j
      ∷ at (r + ny) (p.x + 1) 1 0 1 (omega arith) (omega arith) (omega arith) refl (omega (arith, m)) j
      ∷ at (r + ny + 1) p.x 0 1 1 (omega arith) (omega arith) (omega arith) (omega arith) (omega (arith, m)) j
      ∷ at (r + ny + 1) (p.x + 1) 1 1 1 (omega arith) (omega arith) (omega arith) refl (omega (arith, m)) j
      ∷ []))
      ∙ (ap (λ (b : Bool). v && b) (alike s) ∙ and-false v)

  -- a block that begins beyond the lattice has no cube
  pub beyond_x : z.nx ≤ b.x + 1 → Quiet z rows may b n
  beyond_x h p c t = let i = block_inside b n p t in absurd (omega (arith, c.x, i.x.low))

  pub beyond_y : z.ny ≤ b.y + 1 → Quiet z rows may b n
  beyond_y h p c t = let i = block_inside b n p t in absurd (omega (arith, c.y, i.y.low))

  pub beyond_z : z.nz ≤ b.z + 1 → Quiet z rows may b n
  beyond_z h p c t = let i = block_inside b n p t in absurd (omega (arith, c.z, i.z.low))

  pub outside_quiet : Outside z b → Quiet z rows may b n
  outside_quiet o = ⊎_elim beyond_x (λ q. ⊎_elim beyond_y beyond_z q) o

  -- no mark is due in a quiet block
  pub quiet_none : Quiet z rows may b n → (p : Place) → crossed_where z rows may (in_block b n) p ≡ false
  unfolding crossed_where
  quiet_none q p = go (in_lattice z p) refl (in_block b n p) refl
    where
      go : (c : Bool) → in_lattice z p ≡ c → (d : Bool) → in_block b n p ≡ d → (c && (d && crossed_by z rows may p)) ≡ false
      go false e d f = refl
      go true e false f = refl
      go true e true f = q p (in_lattice_law z p (eq_to_t e)) (eq_to_t f)

-- ── marks in parts ──

pub or_where : (z : Sizes) (rows may : List ℕ) (t u : Place → Bool) (p : Place)
    → (crossed_where z rows may t p || crossed_where z rows may u p) ≡ crossed_where z rows may (λ p. t p || u p) p
unfolding crossed_where
or_where z rows may t u p = go (in_lattice z p) (t p) (u p) (crossed_by z rows may p)
  where
    or_same : (d : Bool) → (d || d) ≡ d
    or_same true = refl
    or_same false = refl

    or_none : (d : Bool) → (d || false) ≡ d
    or_none true = refl
    or_none false = refl

    go : (a b c d : Bool) → ((a && (b && d)) || (a && (c && d))) ≡ (a && ((b || c) && d))
    go false b c d = refl
    go true true true d = or_same d
    go true true false d = or_none d
    go true false c d = refl

module _ (z : Sizes) (rows may : List ℕ) (b : Place) (h : ℕ) where
  pub parts_begin : (l : List ℕ) → Marked z (crossed_where z rows may (in_parts b h 0)) l l
  unfolding crossed_where in_parts
  parts_begin l = marked_none z _ l (λ p. and-false (in_lattice z p))

  pub parts_next : (k : ℕ) (l m n : List ℕ) (p : Place) → p ≡ part b h k → Marked z (crossed_where z rows may (in_parts b h k)) l m
      → Marked z (crossed_where z rows may (in_block p h)) m n → Marked z (crossed_where z rows may (in_parts b h (k + 1))) l n
  unfolding crossed_where
  parts_next k l m n p e a c =
      marked_ext z _ (crossed_where z rows may (in_parts b h (k + 1))) l n
      (λ j. or_where z rows may (in_parts b h k) (in_block p h) j
      ∙ ap (λ (d : Bool). in_lattice z j && (d && crossed_by z rows may j))
      (ap (λ (q : Place). in_parts b h k j || in_block q h j) e ∙ sym (parts_more b h k j)))
      (marked_both z (crossed_where z rows may (in_parts b h k)) (crossed_where z rows may (in_block p h)) l m n a c)

  pub parts_end : (k n : ℕ) (l m : List ℕ) → k ≡ 8 → n ≡ 2 * h → Marked z (crossed_where z rows may (in_parts b h k)) l m
      → Marked z (crossed_where z rows may (in_block b n)) l m
  unfolding crossed_where
  parts_end k n l m e f a =
      marked_ext z _ (crossed_where z rows may (in_block b n)) l m
      (λ j. ap (λ (d : Bool). in_lattice z j && (d && crossed_by z rows may j))
      (ap (λ (i : ℕ). in_parts b h i j) e ∙ (parts_all b h j ∙ ap (λ (i : ℕ). in_block b i j) (sym f))))
      a
