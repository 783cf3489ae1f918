use Rattle.std.specs.Prelude.{refl}
use Rattle.std.specs.Fmt.{digits}
use Rattle.hex.specs.Hex.{encode_with, decode_pairs}
use Rattle.sha2.specs.Sha256.{sha256, first_words, schedule, rounds, compress, hash_after, digest_bytes}
use Rattle.uuid.specs.Text.{by_index}
use Rattle.sheet_types.specs.Lines.{entry_from}
use Rattle.sheet_examples.proofs.story.deletes_one.Goals as goal

pub returns : goal.returns
unfolding sha256 first_words schedule rounds compress hash_after digest_bytes encode_with decode_pairs by_index digits
    entry_from
returns c = refl
