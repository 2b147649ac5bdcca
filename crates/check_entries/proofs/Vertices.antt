-- A vertex record by the ends of its edge as the kind orders them. Assumes nothing.
use Rattle.std.proofs.Common.{◌≡◌, ℕ, zero, suc, ◌+◌, ◌-◌, ◌*◌, ◌<◌, ◌≤◌, Bool, true, false, cond, ◌&&◌, ltb, List, [], ◌∷◌, get_or, ℤ, pos, sym, refl, ap, ◌∙◌, arith, ltb→lt, le-ltb, lt-ltb, eq-eqb, ne_eqb}
use Rattle.lists.proofs.Computed.{upto_at}
use Rattle.lists.proofs.Member.{and_left, and_right}
use Rattle.paper.specs.declared.Place.{Place}
use Rattle.paper.specs.declared.Rule.{Rule}
use Rattle.paper.specs.Lattice.{Lattice, value_at, air_at, corner, sample_no}
use Rattle.paper.specs.Tables.{kinds}
use Rattle.paper.specs.Sheet.{ends_of, first_end, crossing, coordinate, record_at, vertex_record}
use Rattle.paper.specs.Within.{SampleIn}
use Rattle.paper.proofs.Crossing.{crossing_le}
use Rattle.crossing.specs.Vertex.{Near, NearPlaces, Crosses}
use Rattle.crossing.proofs.Coordinates.{three}
use Rattle.crossing.proofs.Records.{first_air, record_air, record_solid}
use Rattle.check_entries.specs.Entries.{along}

-- t from one end is 65,536 - t from the other
turned : (t : ℕ) → t ≤ 65536 → (s e : ℕ) → Near s e → coordinate e s t ≡ coordinate s e (65536 - t)
unfolding coordinate
turned t h =
    three (λ s e. coordinate e s t ≡ coordinate s e (65536 - t))
    (λ s l.
    rw (ne_eqb (s + 1) s (λ q. omega arith), le-ltb (s + 1) s (omega arith), ne_eqb s (s + 1) (λ q. omega arith), lt-ltb s (s + 1) (omega arith))
    (omega arith))
    (λ s l. rw (eq-eqb s s refl))
    (λ e l.
    rw (ne_eqb e (e + 1) (λ q. omega arith), lt-ltb e (e + 1) (omega arith), ne_eqb (e + 1) e (λ q. omega arith), le-ltb (e + 1) e (omega arith))
    (omega arith))

module _ (rule : Rule) (L : Lattice) (p : Place) (k : ℕ) (i : SampleIn L.size p) (x : Crosses L p k)
    (n : NearPlaces (corner p (ends_of k).a) (corner p (ends_of k).b)) where
  abbrev u : Place
  u = corner p (ends_of k).a

  abbrev v : Place
  v = corner p (ends_of k).b

  abbrev e : ℕ
  e = 7 * sample_no L.size p + k

  abbrev pub seen : ℕ → List ℤ
  seen s = pos e ∷ pos (coordinate u.x v.x s) ∷ pos (coordinate u.y v.y s) ∷ pos (coordinate u.z v.z s) ∷ []

  pub record_along : vertex_record rule L e ≡ seen (along rule (value_at L u) (value_at L v))
  unfolding along air_at record_at
  record_along = by (air_at L u) refl
    where
      by : (b : Bool) → air_at L u ≡ b → vertex_record rule L e ≡ seen (along rule (value_at L u) (value_at L v))
      by true q =
          let t = crossing rule (value_at L v) (value_at L u) in
          let h = crossing_le (value_at L v) (value_at L u) (first_air L p k i x q) q rule in
          let s : 65536 - t ≡ along rule (value_at L u) (value_at L v) =
          sym (ap (λ (b : Bool). cond b (65536 - t) (crossing rule (value_at L u) (value_at L v))) q) in
          record_air L p k i x rule q
          ∙ ((λ j.
          pos e ∷ pos (turned t h u.x v.x n.x j) ∷ pos (turned t h u.y v.y n.y j) ∷ pos (turned t h u.z v.z n.z j) ∷ [])
          ∙ ap seen s)
      by false q =
          let t = crossing rule (value_at L u) (value_at L v) in
          let s : t ≡ along rule (value_at L u) (value_at L v) =
          sym (ap (λ (b : Bool). cond b (65536 - crossing rule (value_at L v) (value_at L u)) t) q) in
          record_solid L p k i x rule q ∙ ap seen s

-- the ends of a kind are corners
pub ends_lt : (k : ℕ) → k < 7 → ((ends_of k).a < 8) × ((ends_of k).b < 8)
unfolding ends_of kinds
ends_lt k h =
    let t = upto_at 7 (λ k. ltb (ends_of k).a 8 && ltb (ends_of k).b 8) tt k h in
    (ltb→lt (ends_of k).a 8 (and_left (ltb (ends_of k).a 8) (ltb (ends_of k).b 8) t), ltb→lt (ends_of k).b 8 (and_right (ltb (ends_of k).a 8) (ltb (ends_of k).b 8) t))

-- numbers behind the first of four
pub behind_first : (fs vs : List ℤ) (n : ℕ) (e x y z : ℤ) → vs ≡ e ∷ x ∷ y ∷ z ∷ [] → get_or fs (n + 1) (pos 0) ≡ x → get_or fs (n + 2) (pos 0) ≡ y
    → get_or fs (n + 3) (pos 0) ≡ z → (j : ℕ) → 0 < j → j < 4 → get_or fs (n + j) (pos 0) ≡ get_or vs j (pos 0)
behind_first fs vs n e x y z v a b c zero h l = absurd (omega arith)
behind_first fs vs n e x y z v a b c (suc zero) h l = a ∙ sym (ap (λ (vs : List ℤ). get_or vs 1 (pos 0)) v)
behind_first fs vs n e x y z v a b c (suc (suc zero)) h l = b ∙ sym (ap (λ (vs : List ℤ). get_or vs 2 (pos 0)) v)
behind_first fs vs n e x y z v a b c (suc (suc (suc zero))) h l = c ∙ sym (ap (λ (vs : List ℤ). get_or vs 3 (pos 0)) v)
behind_first fs vs n e x y z v a b c (suc (suc (suc (suc j)))) h l = absurd (omega arith)

-- a record begins with its edge
pub record_edge : (rule : Rule) (L : Lattice) (e : ℕ) → get_or (vertex_record rule L e) 0 (pos 0) ≡ pos e
unfolding vertex_record record_at
record_edge rule L e = go (air_at L (first_end L.size e)) _ _
  where
    go : (b : Bool) (l m : List ℤ) → get_or (cond b (pos e ∷ l) (pos e ∷ m)) 0 (pos 0) ≡ pos e
    go true l m = refl
    go false l m = refl

-- the first number, and those behind it
pub all_four : (fs vs : List ℤ) (n : ℕ) → get_or fs n (pos 0) ≡ get_or vs 0 (pos 0)
    → ((j : ℕ) → 0 < j → j < 4 → get_or fs (n + j) (pos 0) ≡ get_or vs j (pos 0)) → (j : ℕ) → j < 4 → get_or fs (n + j) (pos 0) ≡ get_or vs j (pos 0)
all_four fs vs n a h zero l = let e : n + 0 ≡ n = omega arith in ap (λ (k : ℕ). get_or fs k (pos 0)) e ∙ a
all_four fs vs n a h (suc j) l = h (suc j) (omega arith) l
