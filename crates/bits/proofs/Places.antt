-- Words as sets of places: and, or, `a & !b` and one place; how many places they have. Assumes nothing.
use mathlib.Core.Path.{◌≡◌, refl, sym, ap, ap₂, subst, ◌∙◌}
use mathlib.Core.Bool.{Bool, true, false, not}
use mathlib.Core.Logic.{◌⊎◌, inl, inr}
use Prim.Native.Nat.{ℕ, zero, suc, ◌+◌, ◌-◌, ◌*◌, ◌/◌, ◌%◌, ◌^◌, ◌<◌, min, max}
use native.Mathlib.Nat.{max-add-min}
use native.Mathlib.Omega.{arith}
use lib.Arith.{digits_mod, digits_div, bin_ind}
use lib.Bits.{bit_and, bit_or, and_step, or_step, and_le_l}
use lib.Count.{ones, ones_step}
use lib.Dec.{T, eqb→eq, T_not}
use Rattle.lists.proofs.Member.{or_cases, or_left, or_right, and_both, and_left, and_right}
use Rattle.lists.proofs.Within.{eqb_of}
use Rattle.bits.specs.Words.{bit, On, less}
use Rattle.bits.proofs.Bits.{bit_and_law, bit_or_law, bit_not, bit_pow, bit_of_0, word_same}

pub on_and : (a b x : ℕ) → On a x → On b x → On (bit_and a b) x
on_and a b x p q = subst T (sym (bit_and_law a b x)) (and_both (bit a x) (bit b x) p q)

pub and_on : (a b x : ℕ) → On (bit_and a b) x → On a x × On b x
and_on a b x p =
    let q = subst T (bit_and_law a b x) p in (and_left (bit a x) (bit b x) q, and_right (bit a x) (bit b x) q)

pub on_or_left : (a b x : ℕ) → On a x → On (bit_or a b) x
on_or_left a b x p = subst T (sym (bit_or_law a b x)) (or_left (bit a x) (bit b x) p)

pub on_or_right : (a b x : ℕ) → On b x → On (bit_or a b) x
on_or_right a b x p = subst T (sym (bit_or_law a b x)) (or_right (bit a x) (bit b x) p)

pub or_on : (a b x : ℕ) → On (bit_or a b) x → On a x ⊎ On b x
or_on a b x p = or_cases (bit a x) (bit b x) (subst T (bit_or_law a b x) p)

pub on_zero : (x : ℕ) → On 0 x → ⊥
on_zero x p = subst T (bit_of_0 x) p

-- the word of one place
pub on_bit : (x : ℕ) → On (2 ^ x) x
on_bit x = subst T (sym (bit_pow x x)) (eqb_of {a = x} {b = x} refl)

pub bit_on : (x y : ℕ) → On (2 ^ x) y → y ≡ x
bit_on x y p = sym (eqb→eq x y (subst T (bit_pow x y) p))

-- a word of k bits that has no place is 0
none_zero : (k w : ℕ) → w < 2 ^ k → ((x : ℕ) → x < k → On w x → ⊥) → w ≡ 0
none_zero k w h f = word_same w 0 k h (omega arith) (λ x l. go (bit w x) (f x l) ∙ sym (bit_of_0 x))
  where
    go : (b : Bool) → (T b → ⊥) → b ≡ false
    go true q = absurd (q tt)
    go false q = refl

-- ── what is left of a word ──

not_on : (b x : ℕ) → b < 2 ^ 64 → x < 64 → bit b x ≡ false → On (2 ^ 64 - 1 - b) x
not_on b x h g e = subst T (sym (bit_not b 64 x h g ∙ ap not e)) tt

-- a place of a is in b or left
pub less_cases : (a b x : ℕ) → b < 2 ^ 64 → x < 64 → On a x → On b x ⊎ On (less a b) x
less_cases a b x h g p = go (bit b x) refl
  where
    go : (t : Bool) → bit b x ≡ t → On b x ⊎ On (bit_and a (2 ^ 64 - 1 - b)) x
    go true e = inl (subst T (sym e) tt)
    go false e = inr (on_and a (2 ^ 64 - 1 - b) x p (not_on b x h g e))

pub less_on : (a b x : ℕ) → On (less a b) x → On a x
less_on a b x p = (and_on a (2 ^ 64 - 1 - b) x p).0

-- what is left of a has no place of b
pub less_none : (a b x : ℕ) → b < 2 ^ 64 → x < 64 → On b x → On (less a b) x → ⊥
less_none a b x h g p q = T_not (bit b x) (subst T (bit_not b 64 x h g) (and_on a (2 ^ 64 - 1 - b) x q).1) p

-- ── how many ──

pub ones_zero : ones 0 ≡ 0
unfolding ones
ones_zero = refl

-- digits, lowest first
ones_digit : (q c : ℕ) → c < 2 → ones (q * 2 + c) ≡ c + ones q
ones_digit q c h = ones_step (q * 2 + c) ∙ ap₂ (λ (x y : ℕ). x + ones y) (digits_mod q h) (digits_div q h)

pub ones_or : (a b : ℕ) → ones (bit_or a b) + ones (bit_and a b) ≡ ones a + ones b
ones_or =
    bin_ind (λ (n : ℕ). (b : ℕ) → ones (bit_or n b) + ones (bit_and n b) ≡ ones n + ones b)
    (λ b. let z = ones_zero in omega arith)
    (λ n ih b.
    let i = ih (b / 2) in
    let s = max-add-min (n % 2) (b % 2) in
    let eo = ap ones (or_step n b) ∙ ones_digit (bit_or (n / 2) (b / 2)) (max (n % 2) (b % 2)) (omega arith) in
    let ea = ap ones (and_step n b) ∙ ones_digit (bit_and (n / 2) (b / 2)) (min (n % 2) (b % 2)) (omega arith) in
    omega (arith, eo, ea, i, s, ones_step n, ones_step b))

-- a word that is not 0 has a place
pub ones_some : (n : ℕ) → (n ≡ 0 → ⊥) → 0 < ones n
ones_some =
    bin_ind (λ (n : ℕ). (n ≡ 0 → ⊥) → 0 < ones n) (λ q. absurd (q refl))
    (λ n ih q. go n ih q (n % 2) refl)
  where
    go : (n : ℕ) → ((n / 2 ≡ 0 → ⊥) → 0 < ones (n / 2)) → (n ≡ 0 → ⊥) → (d : ℕ) → n % 2 ≡ d → 0 < ones n
    go n ih q zero e = let i = ih (λ z. q (omega arith)) in omega (arith, ones_step n)
    go n ih q (suc d) e = omega (arith, ones_step n)

-- what is left comes on top
pub ones_less : (a b : ℕ) → b < 2 ^ 64 → ones (bit_or b (less a b)) ≡ ones b + ones (less a b)
ones_less a b h =
    let e : bit_and b (less a b) ≡ 0 =
    none_zero 64 (bit_and b (less a b)) (omega (arith, and_le_l b (less a b)))
    (λ x g p. let q = and_on b (less a b) x p in less_none a b x h g q.0 q.1) in
    omega (arith, ones_or b (less a b), ap ones e, ones_zero)
