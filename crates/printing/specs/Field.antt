-- What is printed, in the terms of the definitions: a record that is lent, and what the value field of an item shows.
use Rattle.std.specs.Prelude.{true, false, cond, List, ◌++◌, ℕ}
use Rattle.reading.specs.Codes.{codes}
use Rattle.runs.specs.declared.record.Record.{Record as Lent}
use Rattle.runs.specs.Record.{Record}
use Rattle.runs.specs.Print.{hexadecimal, joined_by_comma}
use Rattle.printing.specs.declared.value.Number.{Number}
use Rattle.printing.specs.declared.value.Field.{Field}
use Rattle.printing.specs.declared.value.Field.TheVariants as field

abbrev pub record_of : Lent → Record
record_of r = record { rows = r.rows.now; store = r.store.now }

abbrev pub number_text : Number → List ℕ
number_text n = n.before.now ++ codes "/" ++ n.after.now ++ codes "/" ++ cond n.minus (codes "-") (codes "+") ++ codes "/" ++ n.exponent.now

abbrev pub field_text : Field → List ℕ
field_text field.Nothing = codes "-"
field_text (field.Carry c) = hexadecimal c
field_text (field.Number n) = number_text n
field_text (field.Text value) = codes "=" ++ joined_by_comma value.now
field_text (field.Truth true) = codes "true"
field_text (field.Truth false) = codes "false"
