-- Document 02 (vii): the sample of a voxel. Assumes nothing.
use Rattle.std.specs.Prelude.{Bool, false, cond, ℕ, ◌*◌, ◌/◌, ◌^◌, min, max, eqb, ℤ, pos, neg_ℤ, Float}
use Rattle.std.specs.Float.{nan, inf, fin, binary32}
use Rattle.std.specs.Float.Ieee.{up, down, sub, lt}
use Rattle.lists.specs.Lists.{range, any}

-- "a power of two, 1 to 256"
unfoldable pub is_scale : ℕ → Bool
is_scale n = any (λ k. eqb n (2 ^ k)) (range 0 9)

abbrev pub none : Float
none = fin false 0 (pos 0)

-- the size of "d times a power of two .., cut towards zero and held to ±32,767"
unfoldable pub held : Float → ℕ → ℕ
held nan n = 0
held (inf s) n = 32767
held (fin s m e) n = min (m * up e * n / down e) 32767

-- with d's sign; "where d is above 0 the sample is at least 1"
unfoldable pub cut_of : Float → ℕ → ℤ
cut_of d n = cond (lt none d) (pos (max 1 (held d n))) (neg_ℤ (pos (held d n)))

-- "A voxel gives d = level − voxel, rounded as f32 does.", and its sample
unfoldable pub sample_of : Float → ℕ → Float → ℤ
sample_of level n voxel = cut_of (sub binary32 level voxel) n
