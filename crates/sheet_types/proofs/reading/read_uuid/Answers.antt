-- A text of 36 bytes that is refused is none of the hyphenated form.
use Rattle.std.proofs.Common.{arith}
use Rattle.sheet_types.proofs.UuidTexts.{unread}
use Rattle.sheet_types.proofs.reading.read_uuid.Goals as goal

pub returns-in-Err : goal.returns-in-Err
returns-in-Err c = unread c.parse_str.result c.in-Err.field-0 c.args.text.now c.in-Err.is c.parse_str.ensures.ok
    (omega arith)
