-- Each number is its type's.
use Rattle.std.proofs.Common.{◌≡◌, ◌<◌, get_or, map, ◌∙◌, sym, arith, rules}
use Rattle.std.proofs.lemmas.List.{ext_get_or, get_or-map}
use Rattle.lexer.specs.TypeNumber.{type_number}
use Rattle.lexer.specs.declared.token_type.TokenType.TheVariants.{YyEof}
use Rattle.lexer.specs.declared.token_type.TheConstants.TokenType.{ALL}
use Rattle.lexer.proofs.token_type.numbers.Goals as goal

pub returns : goal.returns
returns c = ext_get_or 0 c.map.result (map type_number ALL) c.map.ensures.items.long (λ i h.
    let k : i < 63 = omega (arith, c.map.ensures.items.long, h) in
    let e = c.map.ensures.items.at i YyEof 0 k in
    let got : get_or c.map.result i 0 ≡ type_number (get_or ALL i YyEof) = search (rules, e.2) in
    got ∙ sym (get_or-map type_number ALL i YyEof 0 k))
