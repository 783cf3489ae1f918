-- What goes out of a package one by one.
use Rattle.std.specs.Prelude.{◌≡◌, ℕ, true, List}
use Rattle.sqlite.specs.Effect.{Database}
use Rattle.sheet_types.specs.Ordered.{has}
use Rattle.sheet_types.specs.World.{link_key}
use Rattle.sheet_types.specs.declared.command.Relation.{Relation}
use Rattle.identity_register.specs.Changes.{IsLooseItem, item_deleted, link_removed}
use Rattle.identity_register.specs.LocalNumbers.{Shrinks}

abbrev pub DropsItem : List ℕ → Database → Database → Type 0
DropsItem id = Shrinks (IsLooseItem id) (item_deleted id)

abbrev pub DropsLink : Relation → Database → Database → Type 0
DropsLink l = Shrinks (λ p. has link_key (link_key l) p.links ≡ true) (link_removed l)
