-- The words so far stand behind their number.
use Rattle.std.proofs.Common.{◌≡◌, ◌++◌, take}
use Rattle.std.specs.Prelude.{flat_map}
use Rattle.desk_asking.specs.Requests.{word_text}
use Rattle.desk_asking.proofs.asking.body_of.Given as goal

abbrev pub invariant-words : goal.invariant-words
invariant-words l = l.text.items ≡ l.initial.text.items ++ flat_map word_text (take l.word-index l.words)
