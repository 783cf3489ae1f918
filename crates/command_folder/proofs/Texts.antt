-- The text of want of memory, computed.
use Rattle.std.proofs.Common.{◌≡◌, codes, refl}
use Rattle.std.specs.Fmt.{digits}
use Rattle.serde_json.proofs.OnLiterals.{serde_json_on_literals}
use Rattle.sheet_types.specs.declared.refusal.Refusal.TheVariants as refusal
use Rattle.desk_replies.specs.Bodies.{refusal_text}

pub no_memory_is : codes "{\"name\":\"OutOfMemory\",\"refusal\":24}" ≡ refusal_text refusal.OutOfMemory
unfolding digits serde_json_on_literals
no_memory_is = refl
