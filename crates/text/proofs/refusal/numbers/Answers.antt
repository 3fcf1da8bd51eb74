-- Each number is its refusal's.
use Rattle.std.proofs.Common.{◌≡◌, ◌<◌, get_or, map, ◌∙◌, sym, arith, rules}
use Rattle.std.proofs.lemmas.List.{ext_get_or, get_or-map}
use Rattle.text.specs.RefusalNumber.{number_of}
use Rattle.text.specs.declared.refusal.Refusal.TheVariants.{TooLong}
use Rattle.text.specs.declared.refusal.TheConstants.Refusal.{ALL}
use Rattle.text.proofs.refusal.numbers.Goals as goal

pub returns : goal.returns
returns c = ext_get_or 0 c.map.result (map number_of ALL) c.map.ensures.items.long (λ i h.
    let k : i < 13 = omega (arith, c.map.ensures.items.long, h) in
    let e = c.map.ensures.items.at i TooLong 0 k in
    let got : get_or c.map.result i 0 ≡ number_of (get_or ALL i TooLong) = search (rules, e.2) in
    got ∙ sym (get_or-map number_of ALL i TooLong 0 k))
