-- Functions on lists, and tests that compute. Assumes nothing.
use Rattle.std.specs.Prelude.{◌≡◌, Bool, true, false, cond, ◌&&◌, ◌||◌, List, [], ◌∷◌, ◌++◌, ℕ, zero, suc, eqb, ltb, length, set, drop, replicate}

-- i, i + 1, .., n numbers
abbrev pub range : ℕ → ℕ → List ℕ
range i zero = []
range i (suc n) = i ∷ range (suc i) n

module _ {A : Type 0} where
  abbrev pub cons_if : Bool → A → List A → List A
  cons_if true x xs = x ∷ xs
  cons_if false x xs = xs

  -- those that pass, in their order
  abbrev pub keep : (A → Bool) → List A → List A
  keep p [] = []
  keep p (x ∷ xs) = cons_if (p x) x (keep p xs)

  -- how many pass
  abbrev pub count : (A → Bool) → List A → ℕ
  count p l = length (keep p l)

  abbrev pub any : (A → Bool) → List A → Bool
  any p [] = false
  any p (x ∷ xs) = p x || any p xs

  abbrev pub all : (A → Bool) → List A → Bool
  all p [] = true
  all p (x ∷ xs) = p x && all p xs

  -- the front of a list written over, the rest as it was
  abbrev pub over : List A → List A → List A
  over new old = new ++ drop (length new) old

module _ {A B : Type 0} where
  -- f at each, joined
  abbrev pub each : (A → List B) → List A → List B
  each f [] = []
  each f (x ∷ xs) = f x ++ each f xs

abbrev pub is_in : List ℕ → ℕ → Bool
is_in l n = any (eqb n) l

-- how many of the list are below n
abbrev pub rank : List ℕ → ℕ → ℕ
rank l n = count (λ m. ltb m n) l

-- the first that passes, or d
abbrev pub first : (ℕ → Bool) → ℕ → List ℕ → ℕ
first p d [] = d
first p d (x ∷ xs) = cond (p x) x (first p d xs)

-- v at each of these places
abbrev pub stored : ℕ → List ℕ → List ℕ → List ℕ
stored v [] l = l
stored v (e ∷ es) l = stored v es (set l e v)

-- the first n numbers of a list are 0, the rest as it was
abbrev pub cleared : ℕ → List ℕ → List ℕ
cleared n old = replicate n 0 ++ drop n old

-- l is as l₀ was past the first n
pub record Beyond (n : ℕ) (l₀ l : List ℕ) : Type 0 where
  pub same_length : length l ≡ length l₀
  pub rest : drop n l ≡ drop n l₀
