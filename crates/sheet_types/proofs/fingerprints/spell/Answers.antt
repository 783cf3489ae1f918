-- Digits are text.
use Rattle.sheet_types.proofs.Digits.{never_refused}
use Rattle.sheet_types.proofs.fingerprints.spell.Goals as goal

pub unreachable-requires : goal.unreachable-requires
unreachable-requires c =
    never_refused c.args.digest.now c.encode_to_slice.new.output c.encode_to_slice.result c.unwrap.ensures
    c.encode_to_slice.ensures.written c.in-Err.ensures.cases.0
