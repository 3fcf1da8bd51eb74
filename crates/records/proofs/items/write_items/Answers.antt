-- A row is made of an item by a function.
use Rattle.records.specs.Stored.{row_from}
use Rattle.records.proofs.items.write_items.Goals as goal

pub returns : goal.returns
returns c = c.copy.ensures.copies row_from (λ it row e. e)
