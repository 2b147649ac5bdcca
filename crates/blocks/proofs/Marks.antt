-- Rows marked where a test of places passes. Assumes nothing.
use mathlib.Core.Path.{◌≡◌, refl, sym, ap, ◌∙◌}
use mathlib.Core.Bool.{Bool, true, false, ◌||◌}
use mathlib.Core.List.{List}
use Prim.Native.Nat.{ℕ, ◌+◌, ◌*◌, ◌<◌}
use lib.Bits.{bit_or}
use lib.ListN.{length, get_or, set}
use lib.Seq.{get_or-set_same, get_or-set_other}
use Rattle.paper.specs.declared.Sizes.{Sizes}
use Rattle.paper.specs.declared.Place.{Place}
use Rattle.paper.specs.Lattice.{place}
use Rattle.bits.specs.Words.{bit}
use Rattle.bits.proofs.Bits.{bit_or_law}
use Rattle.blocks.specs.Blocks.{Marked}

-- no mark
pub marked_none : (z : Sizes) (t : Place → Bool) (l : List ℕ) → ((p : Place) → t p ≡ false) → Marked z t l l
marked_none z t l h = record {
  long = refl;
  at = λ y w x _ _. ap (λ (c : Bool). c || bit (get_or l (y + z.ny * w) 0) x) (sym (h (place x y w)));
}

-- the same test in other words
pub marked_ext : (z : Sizes) (t u : Place → Bool) (l m : List ℕ) → ((p : Place) → t p ≡ u p) → Marked z t l m → Marked z u l m
marked_ext z t u l m h a = record {
  long = a.long;
  at = λ y w x hy hw. a.at y w x hy hw ∙ ap (λ (c : Bool). c || bit (get_or l (y + z.ny * w) 0) x) (h (place x y w));
}

-- marks upon marks
pub marked_both : (z : Sizes) (t u : Place → Bool) (l m n : List ℕ) → Marked z t l m → Marked z u m n → Marked z (λ p. t p || u p) l n
marked_both z t u l m n a b = record {
  long = b.long ∙ a.long;
  at = λ y w x hy hw.
      b.at y w x hy hw
      ∙ (ap (λ (c : Bool). u (place x y w) || c) (a.at y w x hy hw)
      ∙ go (t (place x y w)) (u (place x y w)) (bit (get_or l (y + z.ny * w) 0) x));
}
  where
    go : (c d v : Bool) → (d || (c || v)) ≡ ((c || d) || v)
    go true true v = refl
    go true false v = refl
    go false true v = refl
    go false false v = refl

-- the places of v are marked in row r
abbrev pub marked_in : List ℕ → ℕ → ℕ → List ℕ
marked_in l r v = set l r (bit_or (get_or l r 0) v)

module _ (l : List ℕ) (r v : ℕ) (h : r < length l) where
  pub here_is : (i : ℕ) → bit (get_or (marked_in l r v) r 0) i ≡ (bit v i || bit (get_or l r 0) i)
  here_is i =
      ap (λ (w : ℕ). bit w i) (get_or-set_same l r (bit_or (get_or l r 0) v) 0 h)
      ∙ (bit_or_law (get_or l r 0) v i ∙ turn (bit (get_or l r 0) i) (bit v i))
    where
      turn : (a b : Bool) → (a || b) ≡ (b || a)
      turn true true = refl
      turn true false = refl
      turn false true = refl
      turn false false = refl

  pub there_is : (q i : ℕ) → (q ≡ r → ⊥) → bit (get_or (marked_in l r v) q 0) i ≡ bit (get_or l q 0) i
  there_is q i n = ap (λ (w : ℕ). bit w i) (get_or-set_other l r q (bit_or (get_or l r 0) v) 0 n)
