-- The vertices of anchors, by words of their kinds: their records one behind the other, and their numbers in the slots of their edges.
-- Assumes nothing.
use Rattle.std.specs.Prelude.{◌≡◌, cond, List, [], ◌∷◌, ℕ, ◌+◌, ◌-◌, ◌*◌, ◌≤◌, ◌<◌, T, ℤ, length, set}
use Rattle.std.proofs.lemmas.List.Edits.{sets}
use Rattle.lists.specs.Lists.{range, each, is_in}
use Rattle.paper.specs.declared.Sizes.{Sizes}
use Rattle.paper.specs.declared.Place.{Place}
use Rattle.paper.specs.declared.Rule.{Rule}
use Rattle.paper.specs.Lattice.{Lattice}
use Rattle.paper.specs.Sheet.{anchor_of, kind_in, vertex_record}
use Rattle.crossing.specs.Vertex.{Crosses}
use Rattle.bits.specs.Words.{bit, word}
use Rattle.kinds.specs.declared.KindWords.{KindWords}
use Rattle.kinds.specs.Kinds.{is_edge, kinds_by}

-- ── edges with a vertex ──

-- the edge of a kind, where ks has it, base being 7 × the anchor's number; and those of the first n kinds
unfoldable pub edge_at : ℕ → ℕ → ℕ → List ℕ
edge_at ks base kind = cond (bit ks kind) ((base + kind) ∷ []) []

unfoldable pub edges_at : ℕ → ℕ → ℕ → List ℕ
edges_at ks base n = each (edge_at ks base) (range 0 n)

-- the edges with a vertex of anchor x of a row, base being the number of the row's first edge; and of its first n anchors
unfoldable pub anchor_edges : KindWords → ℕ → ℕ → List ℕ
anchor_edges k base x = edges_at (word (λ j. is_edge k (7 * x + j)) 7) (base + 7 * x) 7

unfoldable pub row_edges : KindWords → ℕ → ℕ → List ℕ
row_edges k base n = each (anchor_edges k base) (range 0 n)

-- the edges with a vertex of the row of anchors at y and z, by rows of sides and rows of cubes; of a layer; and all
unfoldable pub edges_of : Sizes → List ℕ → List ℕ → ℕ → ℕ → List ℕ
edges_of n rows vis y z = row_edges (kinds_by n rows vis y z) (7 * (n.nx * (y + n.ny * z))) n.nx

unfoldable pub layer_edges : Sizes → List ℕ → List ℕ → ℕ → List ℕ
layer_edges n rows vis z = each (λ y. edges_of n rows vis y z) (range 0 n.ny)

unfoldable pub edges_by : Sizes → List ℕ → List ℕ → List ℕ
edges_by n rows vis = each (layer_edges n rows vis) (range 0 n.nz)

-- ── what is written ──

-- the slots of edges get the numbers from `at` on
abbrev pub numbered : ℕ → List ℕ → List ℕ → List ℕ
numbered at [] l = l
numbered at (e ∷ es) l = numbered (at + 1) es (set l e at)

-- a vertex slice and the slots
pub record Drawn : Type 0 where
  pub vertices : List ℤ
  pub slots : List ℕ

abbrev pub drawn : List ℤ → List ℕ → Drawn
drawn v s = record { vertices = v; slots = s }

-- the vertices of the edges es, by a rule, are written from number `at` on, number n at place n - first, and next is the next number
pub record Draws (rule : Rule) (L : Lattice) (es : List ℕ) (first at : ℕ) (before : Drawn) (next : ℕ) (after : Drawn) : Type 0 where
  pub vertices : after.vertices ≡ sets before.vertices (4 * (at - first)) (each (vertex_record rule L) es)
  pub slots : after.slots ≡ numbered at es before.slots
  pub next_is : next ≡ at + length es

-- the slots of the edges es are numbered from `at` on, and next is the next number
pub record Numbers (es : List ℕ) (at : ℕ) (before : List ℕ) (next : ℕ) (after : List ℕ) : Type 0 where
  pub slots : after ≡ numbered at es before
  pub next_is : next ≡ at + length es

-- ── what it asks ──

-- the edges of an anchor that ks has change sides
pub record Crossing (L : Lattice) (p : Place) (ks : ℕ) : Type 0 where
  pub at : (k : ℕ) → k < 7 → T (bit ks k) → Crosses L p k

-- the edges es change sides
pub record Crossed (L : Lattice) (es : List ℕ) : Type 0 where
  pub at : (e : ℕ) → T (is_in es e) → Crosses L (anchor_of L.size e) (kind_in e)

-- there is room for the vertices of the edges es, and as many slots as are needed
pub record Roomy (es : List ℕ) (first at needed vertices slots : ℕ) : Type 0 where
  pub since : first ≤ at
  pub room : 4 * (at + length es - first) ≤ vertices
  pub enough : needed ≤ slots
  pub small : at + length es < 4294967296
