-- Each return is one way through the definition's piece, whatever the reach so far.
use Rattle.std.proofs.Common.{rules, ◌≡◌, ◌+◌, ◌<◌, ◌≤◌, length, get_or, arith}
use Rattle.lexer.proofs.StringLaws.{piece_eof, piece_lone, piece_escape, piece_ended, piece_undef, piece_one}
use Rattle.lexer.proofs.string.read_piece.Goals as goal

pub returns-in_default : goal.returns-in_default
returns-in_default c = let l : length c.args.rest.now ≤ c.args.i = search rules in piece_eof _ _ l (omega arith)

pub returns-in-Some-get : goal.returns-in-Some-get
returns-in-Some-get c =
    let l : c.args.i < length c.args.rest.now = search rules in
    let e : c.in-Some.c.now ≡ get_or c.args.rest.now c.args.i 0 = search rules in
    let k : c.args.i + 1 < length c.args.rest.now = search rules in
    let d : c.in-Some-get.letter.now ≡ get_or c.args.rest.now (c.args.i + 1) 0 = search rules in
    piece_escape _ _ l e c.if-c-eq-BACKSLASH.true k d c.read_escape.ensures

pub returns-in-None : goal.returns-in-None
returns-in-None c =
    let l : c.args.i < length c.args.rest.now = search rules in
    let e : c.in-Some.c.now ≡ get_or c.args.rest.now c.args.i 0 = search rules in
    let k : length c.args.rest.now ≤ c.args.i + 1 = search rules in
    piece_lone _ _ l e c.if-c-eq-BACKSLASH.true k

pub returns-then-c-eq-QUOTE : goal.returns-then-c-eq-QUOTE
returns-then-c-eq-QUOTE c =
    let l : c.args.i < length c.args.rest.now = search rules in
    let e : c.in-Some.c.now ≡ get_or c.args.rest.now c.args.i 0 = search rules in
    piece_ended _ _ l e c.if-c-eq-BACKSLASH.false c.if-c-eq-QUOTE.true

pub returns-then-has : goal.returns-then-has
returns-then-has c =
    let l : c.args.i < length c.args.rest.now = search rules in
    let e : c.in-Some.c.now ≡ get_or c.args.rest.now c.args.i 0 = search rules in
    piece_undef _ _ l e c.if-c-eq-BACKSLASH.false c.if-c-eq-QUOTE.false c.has.ensures c.if-has.true

pub returns : goal.returns
returns c =
    let l : c.args.i < length c.args.rest.now = search rules in
    let e : c.in-Some.c.now ≡ get_or c.args.rest.now c.args.i 0 = search rules in
    piece_one _ _ l e c.if-c-eq-BACKSLASH.false c.if-c-eq-QUOTE.false c.has.ensures c.if-has.false
