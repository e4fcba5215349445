use Rattle.ug_fields.proofs.Simple.{small_reader, count_reader, unsigned_reader, signed_reader, bound_reader, long_reader, number_reader, amount_reader}
use Rattle.ug_fields.proofs.Named.{name_reader}
use Rattle.ug_fields.proofs.Flagged.{optional_reader}
use Rattle.ug_fields.proofs.laws.fields_are_read.Goals as goal

pub returns : goal.returns
returns c = record {
  small = small_reader;
  count = count_reader;
  unsigned = unsigned_reader;
  signed = signed_reader;
  bound = bound_reader;
  long = long_reader;
  number = number_reader;
  amount = amount_reader;
  name = name_reader;
  optional = optional_reader;
}
