use Rattle.std.proofs.Common.{◌<◌, length, rules}
use Rattle.desk_calls.proofs.LengthFacts.{fields_step}
use Rattle.desk_calls.proofs.lengths.values_of.Goals as goal

pub fields-preserved : goal.fields-preserved
fields-preserved c =
    let within : c.fields.header-index < length c.args.headers.now = search rules in
    record {
      found = fields_step c.args.name.now c.args.input.now c.args.headers.now c.fields.header-index _ _ within
          (c.with_field-found.ensures _ c.fields.invariant.found);
    }
