-- Past the end, a plain character, whitespace, or the character itself.
use Rattle.std.proofs.Common.{rules, ◌≡◌, ◌<◌, ◌≤◌, get_or, length, true, false}
use Rattle.lexer.proofs.WindowLaws.{shown-end, shown-plain, shown_space, shown_self}
use Rattle.lexer.proofs.window.shown_at.Goals.{then-is_plain, else-is_plain}
use Rattle.lexer.proofs.window.shown_at.Goals as goal

pub returns-in-Some : goal.returns-in-Some
returns-in-Some c =
    let l : c.args.i < length c.args.rest.now = search rules in
    let e : c.in-Some.c.now ≡ get_or c.args.rest.now c.args.i 0 = search rules in
    elim c.if-is_plain.branch [
      | then-is_plain w ↦ shown-plain _ _ l e c.is_plain.ensures w.if-is_plain.true
      | else-is_plain w ↦ let f : w.has.result ≡ false = search rules in shown_self _ _ l e w.has.ensures f
    ]

pub returns-in_default : goal.returns-in_default
returns-in_default c =
    let l : c.args.i < length c.args.rest.now = search rules in
    let e : c.in-Some.c.now ≡ get_or c.args.rest.now c.args.i 0 = search rules in
    elim c.if-is_plain.branch [
      | then-is_plain w ↦ cc
      | else-is_plain w ↦ let f : w.has.result ≡ true = search rules in shown_space _ _ l e w.has.ensures f
    ]

pub returns-in_default-2 : goal.returns-in_default-2
returns-in_default-2 c = let l : length c.args.rest.now ≤ c.args.i = search rules in shown-end _ _ l
