-- `le` and `field` at every width: a field is its first byte and the field after it, and each undoes the other. Assumes nothing.
use mathlib.Core.Path.{◌≡◌, refl, sym, subst, ap, ◌∙◌}
use mathlib.Core.List.{List, [], ◌∷◌}
use Prim.Native.Nat.{ℕ, zero, suc, ◌+◌, ◌*◌, ◌/◌, ◌%◌, ◌<◌, ◌≤◌, ◌^◌}
use native.Mathlib.Nat.{div-lt_iff_lt-mul, pow-suc}
use native.Mathlib.Omega.{arith}
use lib.ListN.{length, get_or, take, drop, length-drop, take-append-drop}
use lib.Seq.{take-nil, length-take-le, take-append-le, drop-append-le, drop-drop}
use Rattle.lists.specs.Bytes.{le, unle, field}
use Rattle.codec.specs.Words.{Bytes}

field_suc : (k : ℕ) (bs : List ℕ) (at : ℕ) → field (suc k) bs at ≡ get_or bs at 0 + 256 * field k bs (suc at)
unfolding field
field_suc k [] zero = omega (arith, ap unle (take-nil {A = ℕ} k))
field_suc k [] (suc at) = omega (arith, ap unle (take-nil {A = ℕ} k))
field_suc k (b ∷ bs) zero = refl
field_suc k (b ∷ bs) (suc at) = field_suc k bs at

pub field_more : (k : ℕ) (bs : List ℕ) (at next : ℕ) → next ≡ suc at → field (suc k) bs at ≡ get_or bs at 0 + 256 * field k bs next
field_more k bs at next e = rw e (field_suc k bs at)

pub field_none : (bs : List ℕ) (at : ℕ) → field 0 bs at ≡ 0
unfolding field
field_none bs at = refl

-- a field of two bytes, and of four
pub field_two : (bs : List ℕ) (at : ℕ) → field 2 bs at ≡ get_or bs at 0 + 256 * get_or bs (at + 1) 0
field_two bs at =
    omega (arith, field_more 1 bs at (at + 1) (omega arith), field_more 0 bs (at + 1) (at + 2) (omega arith), field_none bs (at + 2))

pub field_four : (bs : List ℕ) (at : ℕ)
    → field 4 bs at ≡ get_or bs at 0 + 256 * get_or bs (at + 1) 0 + 65536 * get_or bs (at + 2) 0 + 16777216 * get_or bs (at + 3) 0
field_four bs at =
    omega (
      arith,
      field_more 3 bs at (at + 1) (omega arith),
      field_more 2 bs (at + 1) (at + 2) (omega arith),
      field_more 1 bs (at + 2) (at + 3) (omega arith),
      field_more 0 bs (at + 3) (at + 4) (omega arith),
      field_none bs (at + 4),
    )

-- the four bytes of a number, each by one division
pub le_four : (n : ℕ) → le 4 n ≡ n % 256 ∷ n / 256 % 256 ∷ n / 65536 % 256 ∷ n / 16777216 % 256 ∷ []
le_four n =
    let e₂ : n / 256 / 256 ≡ n / 65536 = omega arith in
    let e₃ : n / 65536 / 256 ≡ n / 16777216 = omega arith in
    rw (e₂, e₃)

-- a field within a part of the bytes
pub field_part : (k w : ℕ) (bs : List ℕ) (at j : ℕ) → at + w ≤ length bs → j + k ≤ w → field k bs (at + j) ≡ field k (take w (drop at bs)) j
unfolding field
field_part k w bs at j h l =
    let p = drop at bs in
    let n : length (take w p) ≡ w = length-take-le w p (omega (arith, length-drop at bs)) in
    ap (λ (l : List ℕ). unle (take k l))
    (sym (drop-drop j at bs) ∙ (ap (drop j) (sym (take-append-drop w p)) ∙ drop-append-le j (take w p) (drop w p) (omega arith)))
    ∙ ap unle (take-append-le k (drop j (take w p)) (drop w p) (omega (arith, length-drop j (take w p))))

-- the bytes of a number give it back
pub unle_le : (k n : ℕ) → n < 256 ^ k → unle (le k n) ≡ n
unle_le zero n h = omega arith
unle_le (suc k) n h =
    omega (arith, unle_le k (n / 256) ((div-lt_iff_lt-mul {k = 256} {x = n} {y = 256 ^ k} (omega arith)).1 (rw (pow-suc 256 k) at h)))

-- and bytes those of the number that they give
pub le_unle : (bs : List ℕ) → Bytes bs → le (length bs) (unle bs) ≡ bs
le_unle [] h = refl
le_unle (b ∷ bs) h =
    let r : (b + 256 * unle bs) % 256 ≡ b = omega (arith, h 0) in
    let q : (b + 256 * unle bs) / 256 ≡ unle bs = omega (arith, h 0) in
    rw (r, q) (ap (λ (l : List ℕ). b ∷ l) (le_unle bs (λ i. h (suc i))))

pub unle_lt : (bs : List ℕ) → Bytes bs → unle bs < 256 ^ length bs
unle_lt [] h = omega arith
unle_lt (b ∷ bs) h = omega (arith, h 0, unle_lt bs (λ i. h (suc i)), pow-suc 256 (length bs))

take_bytes : (k : ℕ) (bs : List ℕ) → Bytes bs → Bytes (take k bs)
take_bytes zero bs h i = omega arith
take_bytes (suc k) [] h i = omega arith
take_bytes (suc k) (b ∷ bs) h zero = h 0
take_bytes (suc k) (b ∷ bs) h (suc i) = take_bytes k bs (λ j. h (suc j)) i

drop_bytes : (n : ℕ) (bs : List ℕ) → Bytes bs → Bytes (drop n bs)
drop_bytes zero bs h = h
drop_bytes (suc n) [] h = h
drop_bytes (suc n) (b ∷ bs) h = drop_bytes n bs (λ j. h (suc j))

module _ (k : ℕ) (bs : List ℕ) (at : ℕ) (fits : at + k ≤ length bs) (bytes : Bytes bs) where
  part : Bytes (take k (drop at bs))
  part = take_bytes k (drop at bs) (drop_bytes at bs bytes)

  part_length : length (take k (drop at bs)) ≡ k
  part_length = length-take-le k (drop at bs) (omega (arith, length-drop at bs))

  pub le_field : le k (field k bs at) ≡ take k (drop at bs)
  unfolding field
  le_field =
      ap (λ (j : ℕ). le j (unle (take k (drop at bs)))) (sym part_length) ∙ le_unle (take k (drop at bs)) part

  pub field_lt : field k bs at < 256 ^ k
  unfolding field
  field_lt = subst (λ (j : ℕ). unle (take k (drop at bs)) < 256 ^ j) part_length (unle_lt (take k (drop at bs)) part)
