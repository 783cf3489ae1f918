use Rattle.std.specs.Prelude.{refl}
use Rattle.std.proofs.Common.{inl, inr}
use Rattle.sheet_examples.specs.Story.{world_0, world_1}
use Rattle.std.specs.Fmt.{digits}
use Rattle.hex.specs.Hex.{encode_with, decode_pairs}
use Rattle.sha2.specs.Sha256.{sha256, first_words, schedule, rounds, compress, hash_after, digest_bytes}
use Rattle.uuid.specs.Text.{by_index}
use Rattle.sheet_types.specs.Lines.{entry_from}
use Rattle.sheet_examples.proofs.steps.small_run.Goals as goal

pub returns : goal.returns
unfolding sha256 first_words schedule rounds compress hash_after digest_bytes encode_with decode_pairs by_index digits
    entry_from
returns c = (
  world_0,
  inr (inl refl, refl),
  (
    world_1,
    inl (refl, refl),
    (world_1, inl (refl, refl), (world_1, inl (refl, refl), refl)),
  ),
)
