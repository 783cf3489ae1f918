use Rattle.view_export.specs.Numbers.{no_counts}
use Rattle.view_export.proofs.Written.{written_behind}
use Rattle.view_export.proofs.laws.are_written_as_linked.Goals as goal

pub returns : goal.returns
returns c = λ f items apart. written_behind f no_counts items apart
