-- Document 01, "Sheets worked by hand": those marked P, in one table with one theorem, by computation; the listing and its file under
-- both rules of rounding, and t under document 01's own (document 02 (vi): "the worked values of t are the old rule's"). Assumes
-- nothing.
use mathlib.Core.Path.{◌≡◌, refl}
use mathlib.Core.List.{List, [], ◌∷◌, map}
use lib.IntN.{pos, negsuc}
use lib.ListN.{replicate}
use Rattle.paper.specs.declared.Start.TheVariants.{Lowest}
use Rattle.paper.specs.declared.Rule.TheVariants.{Down, Nearest}
use Rattle.paper.proofs.Cases.{builds, lists, files, crosses, Row, table_row, outcome}
use Rattle.paper.proofs.Cases.{lat, at, first_air, rtn_air, middle_air, two_air}

table : List Row
table =
    table_row (builds 100 100 first_air Lowest) (0 ∷ 3 ∷ 1 ∷ 1 ∷ [])
    ∷ table_row (lists Down first_air Lowest) (0 ∷ 49152 ∷ 0 ∷ 0 ∷ 1 ∷ 0 ∷ 49152 ∷ 0 ∷ 2 ∷ 0 ∷ 0 ∷ 49152 ∷ 1 ∷ 2 ∷ 0 ∷ [])
    ∷ table_row (lists Nearest first_air Lowest) (0 ∷ 49152 ∷ 0 ∷ 0 ∷ 1 ∷ 0 ∷ 49152 ∷ 0 ∷ 2 ∷ 0 ∷ 0 ∷ 49152 ∷ 1 ∷ 2 ∷ 0 ∷ [])
    ∷ table_row (files Down first_air) (84 ∷ 60 ∷ 3 ∷ 12 ∷ 1 ∷ 2 ∷ 2 ∷ 2 ∷ 21331 ∷ [])
    ∷ table_row (files Nearest first_air) (84 ∷ 60 ∷ 3 ∷ 12 ∷ 1 ∷ 2 ∷ 2 ∷ 2 ∷ 21331 ∷ [])
    ∷ table_row (builds 100 100 rtn_air Lowest) (0 ∷ 6 ∷ 5 ∷ 1 ∷ [])
    ∷ table_row (builds 100 100 middle_air (at 0 0 0)) (0 ∷ 14 ∷ 24 ∷ 8 ∷ [])
    ∷ table_row (builds 100 100 middle_air (at 1 0 0)) (0 ∷ 14 ∷ 24 ∷ 8 ∷ [])
    ∷ table_row (builds 100 100 middle_air (at 0 1 0)) (0 ∷ 14 ∷ 24 ∷ 8 ∷ [])
    ∷ table_row (builds 100 100 middle_air (at 1 1 0)) (0 ∷ 14 ∷ 24 ∷ 8 ∷ [])
    ∷ table_row (builds 100 100 middle_air (at 0 0 1)) (0 ∷ 14 ∷ 24 ∷ 8 ∷ [])
    ∷ table_row (builds 100 100 middle_air (at 1 0 1)) (0 ∷ 14 ∷ 24 ∷ 8 ∷ [])
    ∷ table_row (builds 100 100 middle_air (at 0 1 1)) (0 ∷ 14 ∷ 24 ∷ 8 ∷ [])
    ∷ table_row (builds 100 100 middle_air (at 1 1 1)) (0 ∷ 14 ∷ 24 ∷ 8 ∷ [])
    ∷ table_row (builds 13 100 middle_air Lowest) (6 ∷ 14 ∷ 24 ∷ 8 ∷ [])
    ∷ table_row (builds 14 23 middle_air Lowest) (7 ∷ 14 ∷ 24 ∷ 8 ∷ [])
    ∷ table_row (builds 100 100 two_air (at 0 0 0)) (0 ∷ 3 ∷ 1 ∷ 1 ∷ [])
    ∷ table_row (builds 100 100 two_air (at 3 0 0)) (0 ∷ 5 ∷ 3 ∷ 1 ∷ [])
    ∷ table_row (builds 100 100 two_air (at 1 0 0)) (5 ∷ 0 ∷ 0 ∷ 0 ∷ [])
    ∷ table_row (builds 100 100 two_air (at 4 0 0)) (4 ∷ 0 ∷ 0 ∷ 0 ∷ [])
    ∷ table_row (builds 100 100 (lat 2 2 2 (replicate 8 (pos 0))) Lowest) (5 ∷ 0 ∷ 0 ∷ 0 ∷ [])
    ∷ table_row (crosses Down (pos 0) (pos 1)) (0 ∷ [])
    ∷ table_row (crosses Down (negsuc 0) (pos 32767)) (2 ∷ [])
    ∷ table_row (crosses Down (negsuc 1) (pos 1)) (43690 ∷ [])
    ∷ table_row (crosses Down (negsuc 32767) (pos 32767)) (32768 ∷ [])
    ∷ table_row (crosses Down (negsuc 32767) (pos 1)) (65534 ∷ [])
    ∷ []

worked : map (λ r. outcome r.case) table ≡ map (λ r. r.is) table
unfolding outcome table
worked = refl
