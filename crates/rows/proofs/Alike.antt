-- Bits at x and x + 1 that are not all alike, and bits at x. Assumes nothing.
use mathlib.Core.Path.{◌≡◌, refl, sym, ap, ap₂, ◌∙◌}
use mathlib.Core.Bool.{Bool, true, false, not, xor, ◌&&◌, ◌||◌, or-false, or_assoc, and-true, and_assoc}
use mathlib.Core.List.{List, [], ◌∷◌, map}
use Prim.Native.Nat.{ℕ, ◌+◌, ◌/◌}
use lib.Bits.{bit_and, bit_or, bit_xor}
use Rattle.lists.specs.Lists.{any, all}
use Rattle.paper.specs.Lattice.{mixed}
use Rattle.bits.specs.Words.{bit}
use Rattle.bits.proofs.Bits.{bit_half, bit_and_law, bit_or_law, bit_xor_law}
use Rattle.rows.specs.Rows.{pairs, mixed_word}

any_pairs : (ws : List ℕ) (x : ℕ) → any (λ b. b) (pairs ws x) ≡ (any (λ w. bit w x) ws || any (λ w. bit w (x + 1)) ws)
unfolding pairs
any_pairs [] x = refl
any_pairs (w ∷ ws) x = go (bit w x) (bit w (x + 1)) (any (λ w. bit w x) ws) (any (λ w. bit w (x + 1)) ws) (any_pairs ws x)
  where
    go : (a b p q : Bool) → any (λ b. b) (pairs ws x) ≡ (p || q) → (a || (b || any (λ b. b) (pairs ws x))) ≡ ((a || p) || (b || q))
    go true b p q e = refl
    go false true true q e = refl
    go false true false q e = refl
    go false false p q e = e

all_pairs : (ws : List ℕ) (x : ℕ) → all (λ b. b) (pairs ws x) ≡ (all (λ w. bit w x) ws && all (λ w. bit w (x + 1)) ws)
unfolding pairs
all_pairs [] x = refl
all_pairs (w ∷ ws) x = go (bit w x) (bit w (x + 1)) (all (λ w. bit w x) ws) (all (λ w. bit w (x + 1)) ws) (all_pairs ws x)
  where
    go : (a b p q : Bool) → all (λ b. b) (pairs ws x) ≡ (p && q) → (a && (b && all (λ b. b) (pairs ws x))) ≡ ((a && p) && (b && q))
    go false b p q e = refl
    go true false true q e = refl
    go true false false q e = refl
    go true true p q e = e

-- mixed, of any sides but none: one is air, and it is not that all are
mixed_xor : (b : Bool) (l : List Bool) → mixed (b ∷ l) ≡ xor (any (λ b. b) (b ∷ l)) (all (λ b. b) (b ∷ l))
unfolding mixed xor
mixed_xor true l = go (all (λ b. b) l)
  where
    go : (c : Bool) → not c ≡ xor true c
    go true = refl
    go false = refl
mixed_xor false l = go (any (λ b. b) l)
  where
    go : (c : Bool) → (c && true) ≡ xor c false
    go true = refl
    go false = refl

-- o has the bits that one of the words has, n those that all have
pub record Joined (ws : List ℕ) (o n : ℕ) : Type 0 where
  pub one : (x : ℕ) → bit o x ≡ any (λ w. bit w x) ws
  pub every : (x : ℕ) → bit n x ≡ all (λ w. bit w x) ws

-- whether one of the bits at x and x + 1 is set
pub any_bit : (ws : List ℕ) (o n x : ℕ) → Joined ws o n → bit (bit_or o (o / 2)) x ≡ any (λ b. b) (pairs ws x)
any_bit ws o n x j = bit_or_law o (o / 2) x ∙ ap₂ ◌||◌ (j.one x) (bit_half o x ∙ j.one (x + 1)) ∙ sym (any_pairs ws x)

pub mixed_bit : (w : ℕ) (ws : List ℕ) (o n x : ℕ) → Joined (w ∷ ws) o n → bit (mixed_word o n) x ≡ mixed (pairs (w ∷ ws) x)
unfolding mixed_word pairs
mixed_bit w ws o n x j =
    bit_xor_law (bit_or o (o / 2)) (bit_and n (n / 2)) x
    ∙ ap₂ xor
    (any_bit (w ∷ ws) o n x j)
    (bit_and_law n (n / 2) x ∙ ap₂ ◌&&◌ (j.every x) (bit_half n x ∙ j.every (x + 1)) ∙ sym (all_pairs (w ∷ ws) x))
    ∙ sym (mixed_xor (bit w x) (bit w (x + 1) ∷ pairs ws x))

pub any_map : {A : Type 0} (f : A → Bool) (l : List A) → any (λ b. b) (map f l) ≡ any f l
any_map f [] = refl
any_map f (a ∷ l) = ap (λ (b : Bool). f a || b) (any_map f l)

all_map : {A : Type 0} (f : A → Bool) (l : List A) → all (λ b. b) (map f l) ≡ all f l
all_map f [] = refl
all_map f (a ∷ l) = ap (λ (b : Bool). f a && b) (all_map f l)

-- bits at x that are not all alike
pub across_bit : (w : ℕ) (ws : List ℕ) (o n x : ℕ) → Joined (w ∷ ws) o n → bit (bit_xor o n) x ≡ mixed (map (λ w. bit w x) (w ∷ ws))
across_bit w ws o n x j =
    bit_xor_law o n x ∙ ap₂ xor (j.one x ∙ sym (any_map (λ w. bit w x) (w ∷ ws))) (j.every x ∙ sym (all_map (λ w. bit w x) (w ∷ ws)))
    ∙ sym (mixed_xor (bit w x) (map (λ w. bit w x) ws))

pub joined2 : (a b : ℕ) → Joined (a ∷ b ∷ []) (bit_or a b) (bit_and a b)
joined2 a b = record {
  one = λ x. bit_or_law a b x ∙ ap (λ (c : Bool). bit a x || c) (sym (or-false (bit b x)));
  every = λ x. bit_and_law a b x ∙ ap (λ (c : Bool). bit a x && c) (sym (and-true (bit b x)));
}

pub joined4 : (a b c d : ℕ) → Joined (a ∷ b ∷ c ∷ d ∷ []) (bit_or (bit_or (bit_or a b) c) d) (bit_and (bit_and (bit_and a b) c) d)
joined4 a b c d = record {
  one = λ x. bit_or_law (bit_or (bit_or a b) c) d x ∙ ap₂ ◌||◌ (bit_or_law (bit_or a b) c x ∙ ap (λ (p : Bool). p || bit c x) (bit_or_law a b x))
      (sym (or-false (bit d x)))
      ∙ or_assoc (bit a x || bit b x) (bit c x) (bit d x || false) ∙ or_assoc (bit a x) (bit b x) (bit c x || (bit d x || false));
  every = λ x. bit_and_law (bit_and (bit_and a b) c) d x ∙ ap₂ ◌&&◌ (bit_and_law (bit_and a b) c x ∙ ap (λ (p : Bool). p && bit c x) (bit_and_law a b x))
      (sym (and-true (bit d x)))
      ∙ and_assoc (bit a x && bit b x) (bit c x) (bit d x && true) ∙ and_assoc (bit a x) (bit b x) (bit c x && (bit d x && true));
}
