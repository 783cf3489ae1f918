use Rattle.field_sql.proofs.Doubled.{quotation_read}
use Rattle.field_sql.proofs.laws.quotations_are_read.Goals as goal

pub returns : goal.returns
returns c = λ mark name rest apart. quotation_read mark name rest apart
