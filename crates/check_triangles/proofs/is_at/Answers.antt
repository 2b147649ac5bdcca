-- A triangle past the row's last is none; else the two are compared. Assumes nothing.
use mathlib.Core.Path.{◌≡◌, ap, subst, ◌∙◌}
use Prim.Native.Nat.{ℕ, ◌/◌, ◌%◌, ◌≤◌, ◌<◌}
use lib.ListN.{get_or}
use borrow.Author.Tests.{lt-ltb, le-ltb}
use Rattle.paper.specs.Tables.{tri}
use Rattle.paper.specs.Check.{turned}
use Rattle.tetra.specs.Cut.{row_by, row_count, row_triangles, tri_of}
use Rattle.check_triangles.specs.Triples.{is_at}
use Rattle.check_triangles.proofs.is_at.Goals as goal
use Rattle.check_triangles.proofs.is_at.Goals.{After-row_count}

count : (c : goal.After-row_count) → c.row_count.result ≡ row_count (row_by c.args.m (c.args.c / 2))
count c = c.row_count.ensures.0 ∙ ap row_count c.row-row.ensures.0

pub returns-then-j-row_count : goal.returns-then-j-row_count
unfolding is_at
returns-then-j-row_count c =
    let a = c.args in
    let n = count (goal.at.returns-then-j-row_count c).After-row_count in
    rw (lt-ltb _ _ (subst (λ (n : ℕ). a.c % 2 < n) n c.if-j-row_count.true))
    (c.is_turned.ensures
    ∙ ap (turned (tri_of a.t))
    (c.triangle.ensures
    ∙ ap (λ (r : ℕ). get_or (row_triangles a.cut.now.sizes a.base (a.c / 2) r) (a.c % 2) (tri 0 0 0)) c.row-row.ensures.0))

pub returns-else-j-row_count : goal.returns-else-j-row_count
unfolding is_at
returns-else-j-row_count c =
    let a = c.args in
    let n = count (goal.at.returns-else-j-row_count c).After-row_count in
    rw (le-ltb _ _ c.if-j-row_count.false, le-ltb _ _ (subst (λ (n : ℕ). n ≤ a.c % 2) n c.if-j-row_count.false))
