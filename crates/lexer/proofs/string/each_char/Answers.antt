-- The loop has handed on the characters before i, and counted them.
use Rattle.std.proofs.Common.{◌≡◌, ◌<◌, ◌∙◌, sym, length, get_or, arith, refl, rules}
use Rattle.std.specs.Prelude.{Ok}
use Rattle.std.proofs.lemmas.Result.{err_from_is_err_and}
use Rattle.lexer.specs.Pieces.{At}
use Rattle.lexer.specs.declared.string.Piece.TheVariants.{Char}
use Rattle.lexer.proofs.StringLaws.{at_ok, plain_piece, walking_undef, walking_over, walking_refused, walking_on, handing_none, handing_few, handing_more, handing_ended, handed_not}
use Rattle.lexer.proofs.string.each_char.Goals as goal
use Rattle.lexer.proofs.string.each_char.Goals.{in-Some, in_default+in_ok-c-in_default+in-Char}

pub loop-c-init : goal.loop-c-init
loop-c-init g c = handing_none _ _ _ _ (omega arith) (omega arith)

pub returns-in_err-c-in_default : goal.returns-in_err-c-in_default
returns-in_err-c-in_default g c =
    let p = err_from_is_err_and c.from_residual.result c.from_residual.ensures.1 in
    rw (p.1, p.2) (handed_not {f' = c.loop-c.take} (walking_refused c.loop-c.invariant.walk c.in_err-c-in_default.ensures) refl)

pub returns-in-Quote : goal.returns-in-Quote
returns-in-Quote g c = handing_ended c.loop-c.invariant (at_ok _ _ c.in_ok-c-in_default.ensures c.in-Quote.is)

pub returns-in-LineEnd : goal.returns-in-LineEnd
returns-in-LineEnd g c = handed_not {f' = c.loop-c.take} (walking_undef c.loop-c.invariant.walk (at_ok _ _ c.in_ok-c-in_default.ensures c.in-LineEnd.is)) refl

pub returns-in-TextEnd : goal.returns-in-TextEnd
returns-in-TextEnd g c = handed_not {f' = c.loop-c.take} (walking_over c.loop-c.invariant.walk (at_ok _ _ c.in_ok-c-in_default.ensures c.in-TextEnd.is)) refl

pub take-requires : goal.take-requires
take-requires g c =
    let k = c.loop-c.invariant in
    let t = c.args.rest.now in
    let p : At t c.loop-c.i (Ok (Char c.match-get.c.0 c.match-get.c.1)) =
    elim c.match-get.branch [
      | in-Some w ↦
          let l : c.loop-c.i < length t = search rules in
          let e : w.in-Some.c.now ≡ get_or t c.loop-c.i 0 = search rules in
          rw w.c-is (plain_piece _ _ l e refl (sym w.has.ensures ∙ w.if-has.true))
      | in_default+in_ok-c-in_default+in-Char w ↦ rw w.c-is (at_ok _ _ w.in_ok-c-in_default.ensures w.in-Char.is)
    ]
    in
    c.requires.takes k.walk.sofar _ _ k.handed (handing_few k p)

pub loop-c-smaller : goal.loop-c-smaller
loop-c-smaller g c =
    let t = c.args.rest.now in
    let p : At t c.loop-c.i (Ok (Char c.match-get.c.0 c.match-get.c.1)) =
    elim c.match-get.branch [
      | in-Some w ↦
          let l : c.loop-c.i < length t = search rules in
          let e : w.in-Some.c.now ≡ get_or t c.loop-c.i 0 = search rules in
          rw w.c-is (plain_piece _ _ l e refl (sym w.has.ensures ∙ w.if-has.true))
      | in_default+in_ok-c-in_default+in-Char w ↦ rw w.c-is (at_ok _ _ w.in_ok-c-in_default.ensures w.in-Char.is)
    ]
    in
    let l = walking_on c.loop-c.invariant.walk p in omega arith

pub loop-c-preserved : goal.loop-c-preserved
loop-c-preserved g c =
    let t = c.args.rest.now in
    let p : At t c.loop-c.i (Ok (Char c.match-get.c.0 c.match-get.c.1)) =
    elim c.match-get.branch [
      | in-Some w ↦
          let l : c.loop-c.i < length t = search rules in
          let e : w.in-Some.c.now ≡ get_or t c.loop-c.i 0 = search rules in
          rw w.c-is (plain_piece _ _ l e refl (sym w.has.ensures ∙ w.if-has.true))
      | in_default+in_ok-c-in_default+in-Char w ↦ rw w.c-is (at_ok _ _ w.in_ok-c-in_default.ensures w.in-Char.is)
    ]
    in
    handing_more c.loop-c.invariant p c.take.ensures
