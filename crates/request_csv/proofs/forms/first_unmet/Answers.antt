-- A column that is met is one more; one that is not is the first.
use Rattle.std.proofs.Common.{◌≡◌, ◌<◌, ◌+◌, suc, length, refl, arith, rules, slice_index_or}
use Rattle.csv.specs.Records.{fields_of}
use Rattle.request_csv.specs.Forms.{MeetsAt}
use Rattle.request_csv.specs.declared.forms.Want.TheVariants.{ItsName}
use Rattle.request_csv.proofs.FormFacts.{first_after, met_more}
use Rattle.request_csv.proofs.forms.first_unmet.Goals as goal

pub returns-then-not-branch-clause-some : goal.returns-then-not-branch-clause-some
returns-then-not-branch-clause-some c =
    let fields = fields_of c.args.row.now in
    let k = c.loop-column.column in
    let low : k < length c.args.wants.now = search rules in
    let unmet : ¬ MeetsAt fields k (slice_index_or c.args.wants.now k ItsName) = search rules in
    first_after fields 0 c.args.wants.now k k ItsName (record
    { column = k; want = slice_index_or c.args.wants.now k ItsName }) low (omega arith) c.loop-column.invariant
    unmet refl refl

pub loop-column-preserved : goal.loop-column-preserved
loop-column-preserved c =
    let fields = fields_of c.args.row.now in
    let k = c.loop-column.column in
    let low : k < length c.args.wants.now = search rules in
    let met : MeetsAt fields k (slice_index_or c.args.wants.now k ItsName) = search rules in
    let next : k + 1 ≡ suc k = omega arith in
    rw next (met_more fields 0 c.args.wants.now k k ItsName low (omega arith) c.loop-column.invariant met)
