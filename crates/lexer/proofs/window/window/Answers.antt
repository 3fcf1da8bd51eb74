-- Plain characters are copied.
use Rattle.std.proofs.Common.{rules, ◌≡◌, ℕ, ◌<◌, true, length, take, drop, get_or, arith, ◌∙◌, ap, length-drop}
use lib.Seq.{take_all}
use Rattle.text.specs.Ranges.{to, within}
use Rattle.lexer.proofs.WindowLaws.{window_copied}
use Rattle.lexer.proofs.window.window.Goals as goal

pub returns-in-Some : goal.returns-in-Some
returns-in-Some c =
    let n : length c.in-Some.w.now ≡ 12 = search rules in
    let f : (j : ℕ) → j < 12 → within (to 0x20 0x84) (get_or c.in-Some.w.now j 0) ≡ true = λ j h. search rules in
    window_copied _ _ n (c.in-Some.ensures.cases.same ∙ ap (take 12) (take_all _ (drop c.args.i c.args.rest.now) (omega (arith, length-drop c.args.i c.args.rest.now)))) f
