use Rattle.std.specs.Prelude.{refl}
use Rattle.std.specs.Fmt.{digits}
use Rattle.uuid.specs.Text.{by_index}
use Rattle.sheet_types.specs.Lines.{entry_from}
use Rattle.sheet_examples.proofs.lines.read_whole.Goals as goal

pub returns : goal.returns
unfolding by_index digits entry_from
returns c = (refl, refl)
