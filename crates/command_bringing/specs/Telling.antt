-- What is printed of a file that is refused, and of a list in short. Profile.
use Rattle.std.specs.Prelude.{ℕ, Bool, true, false, List, [], ◌++◌, codes, count_by, decimal, string_bytes}
use Rattle.sheet_types.specs.Texts.{uuid_text}
use Rattle.sheet_types.specs.declared.command.Command.{Command}
use Rattle.sheet_types.specs.declared.command.Command.TheVariants.{Add, Delete, Link, Unlink}
use Rattle.sheet_types.specs.declared.command.Request.{Request}
use Rattle.command_words.specs.Endings.{line_of}
use Rattle.command_field.specs.declared.asking.Answer.{Answer}
use Rattle.command_field.specs.declared.asking.Answer.TheVariants.{Asked, NoSuchPackage, NoList, OtherPackage, Stale}
use Rattle.command_field.specs.declared.asking.Answer.TheVariants.{OtherSystem, OtherFrame, Items, TwoAlike, NotFree}
use Rattle.command_field.specs.declared.freedom.Taken.{Taken}
use Rattle.command_field.specs.declared.freedom.Taken.TheVariants.{Identity, Request as SameRequest, TooMany}

abbrev pub refused : List ℕ → List ℕ
refused words = line_of (codes "refused") words

-- what is taken
abbrev pub taken_words : Taken → List ℕ
taken_words (Identity id) = codes "identity " ++ uuid_text id
taken_words (SameRequest id) = codes "request " ++ uuid_text id
taken_words TooMany = codes "too many"

abbrev pub refusal_text : Answer → List ℕ
refusal_text (Asked requests) = []
refusal_text NoSuchPackage = refused (codes "no such package")
refusal_text NoList = refused (codes "list")
refusal_text OtherPackage = refused (codes "package")
refusal_text (Stale number) = refused (codes "stale " ++ decimal number)
refusal_text OtherSystem = refused (codes "system")
refusal_text OtherFrame = refused (codes "frame")
refusal_text (Items lines) = refused (codes "items") ++ string_bytes lines
refusal_text TwoAlike = refused (codes "identity")
refusal_text (NotFree taken) = refused (taken_words taken)

-- ---- the parts of a list

abbrev unlinks : Command → Bool
unlinks (Unlink p mapping base other) = true
unlinks command = false

abbrev deletes : Command → Bool
deletes (Delete p identity) = true
deletes command = false

abbrev adds : Command → Bool
adds (Add p identity content) = true
adds command = false

abbrev links : Command → Bool
links (Link p mapping base other) = true
links command = false

abbrev pub is_unlink : Request → Bool
is_unlink r = unlinks r.command

abbrev pub is_delete : Request → Bool
is_delete r = deletes r.command

abbrev pub is_add : Request → Bool
is_add r = adds r.command

abbrev pub is_link : Request → Bool
is_link r = links r.command

-- how many of each part there are
abbrev pub summary_text : List Request → List ℕ
summary_text requests = decimal (count_by is_unlink requests) ++ codes " unlinks, "
    ++ decimal (count_by is_delete requests) ++ codes " deletes, "
    ++ decimal (count_by is_add requests) ++ codes " adds, " ++ decimal (count_by is_link requests) ++ codes " links\n"
