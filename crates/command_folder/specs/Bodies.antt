-- Why the body of a request could not be read. Profile.
use Rattle.std.specs.Prelude.{◌≡◌, ◌⊎◌}
use Rattle.command_folder.specs.Endings.{no_memory}
use Rattle.command_folder.specs.declared.endings.Ending.{Ending}
use Rattle.command_folder.specs.declared.endings.Ending.TheVariants.{BadBody}

-- Memory was wanting; or the reader failed, or gave more bytes than a body may have.
abbrev pub IsUnread : Ending → Type 0
IsUnread ending = (ending ≡ no_memory) ⊎ (ending ≡ BadBody)
