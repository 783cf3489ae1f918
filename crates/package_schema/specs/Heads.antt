-- Whose a store says that it is, at a version, and what its receipts claim, where these two tables have their form.
use Rattle.std.specs.Prelude.{◌≡◌, ◌↔◌, ◌≤◌, true, List, [], ◌∷◌, Option, Some, None}
use Rattle.std.specs.Prelude.{MatchOption, ℤ, pos, ⊤}
use Rattle.sqlite.specs.Effect.{Database}
use Rattle.sheet_types.specs.Lines.{IsUuid}
use Rattle.sheet_types.specs.Reading.{optional_uuid_text}
use Rattle.sheet_types.specs.Refuse.{greatest_depth, greatest_receipts}
use Rattle.sheet_types.specs.Texts.{uuid_text, is_moment}
use Rattle.sheet_types.specs.Opening.{Head, Claim}
use Rattle.package_tables.specs.Shape.{rows_of, IsFormed}
use Rattle.package_tables.specs.Shapes.{head_shape}
use Rattle.package_tables.specs.declared.rows.HeadRow.{HeadRow}
use Rattle.package_tables.specs.declared.rows.ReceiptRow.{ReceiptRow}
use Rattle.package_schema.specs.declared.heads.StoreHead.{StoreHead}
use Rattle.package_schema.specs.declared.versions.Version.{Version}
use Rattle.package_schema.specs.declared.versions.Version.TheVariants.{First, Second}
use Rattle.package_schema.specs.declared.claims.StoreClaim.{StoreClaim}

-- ---- the head

-- the number of a version
abbrev pub version_number : Version → ℤ
version_number First = pos 1
version_number Second = pos 2

-- the parent is empty, and the loan 0, exactly at depth 0
abbrev pub IsLevel : HeadRow → Type 0
IsLevel row = ((row.parent ≡ []) ↔ (row.depth ≡ pos 0)) × ((row.loan ≡ pos 0) ↔ (row.depth ≡ pos 0))

-- a row in its ranges, of this version, that says this
pub record IsHeadRowAt (v : ℤ) (row : HeadRow) (head : Head) : Type 0 where
  pub id : row.id ≡ pos 1
  pub version : row.version ≡ v
  pub uuid : IsUuid head.uuid
  pub parent_uuid : MatchOption head.parent ⊤ IsUuid
  pub «package» : row.package ≡ uuid_text head.uuid
  pub parent : row.parent ≡ optional_uuid_text head.parent
  pub depth : row.depth ≡ pos head.depth
  pub low : head.depth ≤ greatest_depth
  pub loan : row.loan ≡ pos head.loan
  pub loan_low : head.loan ≤ greatest_receipts
  pub created : is_moment row.created ≡ true
  pub level : IsLevel row

-- the row is the first, of this version, with a moment
abbrev pub IsMarked : ℤ → HeadRow → Type 0
IsMarked v row = (row.id ≡ pos 1) × (row.version ≡ v) × (is_moment row.created ≡ true)

-- the one row of some rows says this
abbrev pub IsHeadOfAt : ℤ → List HeadRow → Head → Type 0
IsHeadOfAt v rows head = (row : HeadRow) × (rows ≡ row ∷ []) × IsHeadRowAt v row head

-- the table has its form and one row, which says this
abbrev pub IsHeadAt : ℤ → Database → Head → Type 0
IsHeadAt v db head = IsFormed head_shape db × IsHeadOfAt v (rows_of head_shape db) head

abbrev pub ReadsHeadAt : ℤ → Database → Option Head → Type 0
ReadsHeadAt v db (Some head) = IsHeadAt v db head
ReadsHeadAt v db None = (head : Head) → IsHeadAt v db head → ⊥

-- ---- the same of the second version, which is that of every store that lives

abbrev pub IsHeadRow : HeadRow → Head → Type 0
IsHeadRow = IsHeadRowAt (pos 2)

abbrev pub IsHeadOf : List HeadRow → Head → Type 0
IsHeadOf = IsHeadOfAt (pos 2)

abbrev pub IsHead : Database → Head → Type 0
IsHead = IsHeadAt (pos 2)

abbrev pub ReadsHead : Database → Option Head → Type 0
ReadsHead = ReadsHeadAt (pos 2)

-- what a value of `StoreHead` says
abbrev pub head_said : StoreHead → Head
head_said h = record { uuid = h.uuid; parent = h.parent; depth = h.depth; loan = h.loan }

-- ---- the claims

-- what a value of `StoreClaim` says
abbrev pub claim_said : StoreClaim → Claim
claim_said c = record { seq = c.seq; line = c.line; source = c.source; target = c.target }

-- the claim of a row
abbrev pub store_claim : ReceiptRow → StoreClaim
store_claim r = record { seq = r.seq; line = r.line; source = r.source; target = r.target }
