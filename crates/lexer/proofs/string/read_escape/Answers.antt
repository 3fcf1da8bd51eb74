-- Each return is one way through the definition's escape.
use Rattle.std.proofs.Common.{arith}
use Rattle.lexer.proofs.StringLaws.{escape_plain, escape_unicode, escape_none}
use Rattle.lexer.proofs.string.read_escape.Goals as goal

pub returns-in-Some : goal.returns-in-Some
returns-in-Some c = escape_plain _ c.args.c _ (omega arith) c.in-Some.ensures

pub returns-then-is_unicode_letter : goal.returns-then-is_unicode_letter
returns-then-is_unicode_letter c =
    escape_unicode _ c.args.c _ (omega arith) c.in_default.ensures c.is_unicode_letter.ensures c.if-is_unicode_letter.true c.digit_count.ensures.0 c.read_unicode.ensures

pub returns : goal.returns
returns c = escape_none _ c.args.c _ (omega arith) c.in_default.ensures c.is_unicode_letter.ensures c.if-is_unicode_letter.false
