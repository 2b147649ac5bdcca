-- Where the reverse of a directed edge is missing, by the lattice edges of its two vertices: without fill in an outer face of the lattice,
-- with it (document 02 (iii)) in a face of a cube that is not shared by two cubes that may be visited, by any test of these. Assumes
-- nothing.
use Rattle.std.specs.Prelude.{Bool, not, ◌&&◌, ◌||◌, List, [], ◌∷◌, ◌++◌, ℕ, ◌-◌, ◌/◌, ◌%◌, min, eqb}
use Rattle.lists.specs.Lists.{all}
use Rattle.paper.specs.declared.Sizes.{Sizes}
use Rattle.paper.specs.declared.Place.{Place}
use Rattle.paper.specs.Lattice.{place, corner, RBN, LTN, LBF}
use Rattle.paper.specs.Sheet.{anchor_of, first_end, second_end}

-- the samples at the ends of the lattice edge with a number
unfoldable pub edge_ends : Sizes → ℕ → List Place
edge_ends z e = first_end z e ∷ second_end z e ∷ []

-- on one axis all stand at its first sample, or all at its last
unfoldable pub in_outer_face : Sizes → List Place → Bool
in_outer_face z ps =
    (all (λ p. eqb p.x 0) ps || all (λ p. eqb p.x (z.nx - 1)) ps)
    || (all (λ p. eqb p.y 0) ps || all (λ p. eqb p.y (z.ny - 1)) ps)
    || (all (λ p. eqb p.z 0) ps || all (λ p. eqb p.z (z.nz - 1)) ps)

-- "the lattice edges of both its vertices lie in one outer face of the lattice"
unfoldable pub outer : Sizes → ℕ → ℕ → Bool
outer z e f = in_outer_face z (edge_ends z e ++ edge_ends z f)

-- the least of the anchors of two lattice edges: the low corner of the box that they span
unfoldable pub meet : Sizes → ℕ → ℕ → Place
meet z e f =
    let p = anchor_of z e in
    let q = anchor_of z f in
    place (min p.x q.x) (min p.y q.y) (min p.z q.z)

unfoldable pub same_place : Place → Place → Bool
same_place p q = eqb p.x q.x && eqb p.y q.y && eqb p.z q.z

-- the cubes on both sides of the face with the low corner q may be visited; c is the corner of a cube along the axis across the face
unfoldable pub shared : (Place → Bool) → ℕ → Place → Bool
shared may c q =
    let p = place (q.x - c % 2) (q.y - c / 2 % 2) (q.z - c / 4) in
    may q && (same_place (corner p c) q && may p)

-- the lattice edges of two vertices lie in one face of a cube, the low corner of which is then q, and that face is not shared by two cubes
-- that may be visited
unfoldable pub in_unshared : (Place → Bool) → Place → List Place → Bool
in_unshared may q ps =
    (all (λ p. eqb p.x q.x) ps && not (shared may RBN q))
    || (all (λ p. eqb p.y q.y) ps && not (shared may LTN q))
    || (all (λ p. eqb p.z q.z) ps && not (shared may LBF q))

unfoldable pub unshared : Sizes → (Place → Bool) → ℕ → ℕ → Bool
unshared z may e f = in_unshared may (meet z e f) (edge_ends z e ++ edge_ends z f)
