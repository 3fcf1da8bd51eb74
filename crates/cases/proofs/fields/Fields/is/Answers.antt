-- The byte that comes next, or none at the end.
use Rattle.std.proofs.Common.{◌≡◌, ℕ, drop, ◌∙◌, rules}
use Rattle.std.specs.Prelude.{Some}
use Rattle.std.specs.Option.{option_eq}
use Rattle.std.specs.List.{slice_get}
use lib.Dec.{eqb}
use Rattle.cases.proofs.PlaceLaws.{is_there}
use Rattle.cases.proofs.fields.Fields.is.Goals as goal

pub returns : goal.returns
returns c =
    let e : c.eq.result ≡ option_eq {T = ℕ} eqb (slice_get (drop c.args.self.now.at c.args.self.now.line.now) 0) (Some c.args.b) = search rules in
    e ∙ is_there _ _ _
