-- What the first pass found is what is read; a string is written by the second.
use Rattle.tokens.proofs.TokenLaws.{string_chars, string_line, string_text, string_broken}
use Rattle.tokens.proofs.token.string_at.Goals as goal

pub returns-in-Ok-Chars : goal.returns-in-Ok-Chars
returns-in-Ok-Chars c = string_chars _ _ c.args.flags _ _ c.in-Ok-Chars.ensures c.in-Ok-Chars.field-0-is c.write_string-n.ensures c.max.ensures

pub returns-in-Ok-LineEnds : goal.returns-in-Ok-LineEnds
returns-in-Ok-LineEnds c = string_line _ _ c.args.flags _ _ c.in-Ok-LineEnds.ensures c.in-Ok-LineEnds.field-0-is c.max-in-Ok-LineEnds.ensures c.plain.ensures

pub returns-in-Ok-TextEnds : goal.returns-in-Ok-TextEnds
returns-in-Ok-TextEnds c = string_text _ _ c.args.flags _ _ c.in-Ok-TextEnds.ensures c.in-Ok-TextEnds.field-0-is c.max-in-Ok-TextEnds.ensures c.plain-in-Ok-TextEnds.ensures

pub returns-in-Err : goal.returns-in-Err
returns-in-Err c = string_broken _ _ c.args.flags _ _ c.in-Err.ensures c.max-in-Err.ensures
