-- Each character that is handed on is written behind those before it.
use Rattle.std.proofs.Common.{rules, ℕ, refl, arith, ap}
use Rattle.lexer.proofs.StringLaws.{put_all, written_by}
use Rattle.lexer.proofs.string.write_string.Goals as goal

pub each_char-requires-clause-takes : goal.each_char-requires-clause-takes
each_char-requires-clause-takes c = λ cells f x s l.
    let p = put_all {N = ℕ × ℕ} (λ g. g.0.now) (λ g. g.1.now) (λ g. (g.0.ghost_name, g.1.ghost_name)) (λ g y h t. search rules) cells refl s in
    let n = p.count in let o = p.same in let r = c.requires in
    search rules

pub returns : goal.returns
returns c =
    let i = c.each_char.ensures.inside in
    written_by _ i (λ e.
    let p = put_all {N = ℕ × ℕ} (λ g. g.0.now) (λ g. g.1.now) (λ g. (g.0.ghost_name, g.1.ghost_name)) (λ g y h t. search rules) i.cells refl (c.each_char.ensures.handed e) in
    let n = p.count in
    let l = p.left (omega (arith, i.count, i.from, i.within, c.requires)) in
    let a = ap (λ w. w.0) p.kept in
    let b = ap (λ w. w.1) p.kept in
    search rules)
