use Rattle.std.specs.Prelude.{refl}
use Rattle.std.specs.Fmt.{digits}
use Rattle.uuid.specs.Text.{by_index}
use Rattle.sheet_types.specs.Lines.{entry_from}
use Rattle.sheet_examples.proofs.lines.begins_as_split.Goals as goal

pub returns : goal.returns
unfolding by_index digits entry_from
returns c = (refl, refl, refl)
