-- An item is made of a row by a function.
use Rattle.records.specs.Stored.{stored_of}
use Rattle.records.proofs.items.read_items.Goals as goal

pub returns : goal.returns
returns c = c.copy.ensures.copies stored_of (λ row it e. e)
