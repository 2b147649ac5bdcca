-- Places by numbers, and how far samples are apart. Assumes nothing.
use Rattle.std.specs.Prelude.{ℕ, ◌+◌, ◌*◌, ◌/◌, ◌%◌}
use Rattle.paper.specs.declared.Sizes.{Sizes}
use Rattle.paper.specs.declared.Place.{Place}
use Rattle.paper.specs.Lattice.{place}

-- the place of the number after p's, in rows of w and layers of h rows
unfoldable pub next_in : ℕ → ℕ → Place → Place
next_in w h p = let n = p.x + w * (p.y + h * p.z) + 1 in place (n % w) (n / w % h) (n / (w * h))

-- how far the sample at a corner of a cube is from that at its lowest corner
unfoldable pub corner_step : Sizes → ℕ → ℕ
corner_step z c = c % 2 + (z.nx * (c / 2 % 2) + z.nx * z.ny * (c / 4))
