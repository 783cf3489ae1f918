use Rattle.field_changes.proofs.Contents.{same_key}
use Rattle.field_laws.proofs.laws.same_key_is_same_content.Goals as goal

pub returns : goal.returns
returns c = same_key
