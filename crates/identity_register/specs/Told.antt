-- What a row tells of its item, as receipts tell it.
use Rattle.std.specs.Prelude.{◌≡◌, ℕ, List}
use Rattle.sheet_types.specs.Lines.{IsUuid}
use Rattle.sheet_types.specs.Texts.{uuid_text}
use Rattle.sheet_types.specs.World.{item_moved}
use Rattle.sheet_types.specs.declared.command.Content.{Content}
use Rattle.sheet_types.specs.declared.receipt.Moved.{Moved}
use Rattle.package_tables.specs.Package.{Tables}
use Rattle.package_tables.specs.declared.rows.IdentityRow.{IdentityRow}
use Rattle.identity_register.specs.Answers.{IsContentOf}

-- it tells of the item of the row's identity, with the content that the row's kind and number have
pub record IsToldOf (r : IdentityRow) (t : Tables) (m : Moved) : Type 0 where
  pub identity : List ℕ
  pub content : Content
  pub text : r.uuid ≡ uuid_text identity
  pub fit : IsUuid identity
  pub there : IsContentOf r.kind r.local_id t content
  pub told : m ≡ item_moved (record { identity = identity; content = content })
