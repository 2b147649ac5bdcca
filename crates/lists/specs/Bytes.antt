-- Numbers as bytes, the low one first. Assumes nothing.
use Rattle.std.specs.Prelude.{cond, List, [], ◌∷◌, ℕ, zero, suc, ◌+◌, ◌-◌, ◌*◌, ◌/◌, ◌%◌, ltb, ℤ, pos, negsuc, take, drop}

-- k bytes of n
abbrev pub le : ℕ → ℕ → List ℕ
le zero n = []
le (suc k) n = n % 256 ∷ le k (n / 256)

-- the number that bytes give
abbrev pub unle : List ℕ → ℕ
unle [] = 0
unle (b ∷ bs) = b + 256 * unle bs

-- the signed number that bits give, where those from `half` on are negative
unfoldable pub signed : ℕ → ℕ → ℤ
signed half n = cond (ltb n half) (pos n) (negsuc (half + half - 1 - n))

-- the k-byte number at a place
unfoldable pub field : ℕ → List ℕ → ℕ → ℕ
field k bs at = unle (take k (drop at bs))
