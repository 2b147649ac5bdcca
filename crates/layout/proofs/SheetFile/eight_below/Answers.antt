-- Part by part. Assumes nothing.
use Rattle.std.proofs.Common.{◌≡◌, ℕ, zero, suc, ◌+◌, ◌*◌, ◌<◌, get_or, arith, subst}
use Rattle.paper.proofs.Judged.{both}
use Rattle.paper.specs.File.{file_triangles}
use Rattle.layout.proofs.SheetFile.eight_below.Goals as goal

-- one of eight
cases : (P : ℕ → Type 0) → P 0 → P 1 → P 2 → P 3 → P 4 → P 5 → P 6 → P 7 → (k : ℕ) → k < 8 → P k
cases P a b c d e f g h zero l = a
cases P a b c d e f g h (suc zero) l = b
cases P a b c d e f g h (suc (suc zero)) l = c
cases P a b c d e f g h (suc (suc (suc zero))) l = d
cases P a b c d e f g h (suc (suc (suc (suc zero)))) l = e
cases P a b c d e f g h (suc (suc (suc (suc (suc zero))))) l = f
cases P a b c d e f g h (suc (suc (suc (suc (suc (suc zero)))))) l = g
cases P a b c d e f g h (suc (suc (suc (suc (suc (suc (suc zero))))))) l = h
cases P a b c d e f g h (suc (suc (suc (suc (suc (suc (suc (suc k)))))))) l = absurd (omega arith)

pub returns : goal.returns
returns c e =
    let h = both _ _ e in
    let g = both _ _ h.0 in
    let f = both _ _ g.0 in
    let e₅ = both _ _ f.0 in
    let d = both _ _ e₅.0 in
    let b₃ = both _ _ d.0 in
    let b₂ = both _ _ b₃.0 in
    let ts = file_triangles c.args.self.now.bytes.now in
    let at : (i j : ℕ) → i ≡ j → get_or ts i 0 < c.args.n → get_or ts j 0 < c.args.n = λ i j q. subst (λ (k : ℕ). get_or ts k 0 < c.args.n) q in
    cases (λ k. get_or ts (k * c.args.part + c.args.i) 0 < c.args.n) (at _ _ (omega arith) (c.is_below.ensures b₂.0)) (at _ _ (omega arith) (c.is_below-2.ensures b₂.1))
    (at _ _ (omega arith) (c.is_below-3.ensures b₃.1)) (at _ _ (omega arith) (c.is_below-4.ensures d.1)) (at _ _ (omega arith) (c.is_below-5.ensures e₅.1)) (at _ _ (omega arith) (c.is_below-6.ensures f.1))
    (at _ _ (omega arith) (c.is_below-7.ensures g.1)) (at _ _ (omega arith) (c.is_below-8.ensures h.1))
