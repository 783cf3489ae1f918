-- The content of an item of a file, wherever it lies, and the contents of a package, in the order of their bytes.
use Rattle.std.specs.Prelude.{ℕ, List}
use Rattle.std.specs.Borrow.{Bor}
use Rattle.std.specs.Ordering.{nat_cmp}
use Rattle.std.specs.Cmp.Lexicographic.{slice_cmp}
use Rattle.std.specs.List.Sorted.{IsSortedByKey}
use Rattle.sheet_types.specs.declared.command.Content.{Content}
use Rattle.field_changes.specs.Keys.{content_key}
use Rattle.field_changes.specs.declared.sharing.Place.{Place}
use Rattle.field_changes.specs.declared.sharing.Place.TheVariants.{Own, Shared}

abbrev pub content_at : Place → Content
content_at (Own content) = content
content_at (Shared content) = content.now

abbrev pub shared_key : Bor Content → List ℕ
shared_key content = content_key content.now

-- in the order of what tells them apart
abbrev pub AreInOrder : List (Bor Content) → Type 0
AreInOrder contents = IsSortedByKey shared_key (slice_cmp nat_cmp) contents
