-- The changes that writes make: each names the one list that it changes, and what comes in, goes or becomes of it.
use Rattle.std.specs.Prelude.{◌≡◌, ◌&&◌, ℕ, ℤ, Bool, false, not, List, map, filter}
use Rattle.std.specs.Ordering.{int_eq}
use Rattle.sheet_types.specs.Ordered.{put, has}
use Rattle.sheet_types.specs.declared.command.Mapping.{Mapping}
use Rattle.package_tables.specs.Package.{Tables}
use Rattle.package_tables.specs.Listed.{Listed, tiles, media, attributes, pairs, identities}
use Rattle.package_tables.specs.declared.rows.ContentsRow.{ContentsRow}

-- a row comes in, under a key that no row has
abbrev pub Adds : {R : Type 0} → Listed R → R → Tables → Tables → Type 0
Adds list row before after = has list.shape.key (list.shape.key row) (list.rows before) ≡ false
    → after ≡ list.with_rows (put list.shape.key row (list.rows before)) before

-- the rows that pass go
abbrev pub Drops : {R : Type 0} → Listed R → (R → Bool) → Tables → Tables → Type 0
Drops list goes before after = after ≡ list.with_rows (filter (λ x. not (goes x)) (list.rows before)) before

-- the row of this key goes, if there is one
abbrev pub DropsTile : ℤ → Tables → Tables → Type 0
DropsTile id = Drops tiles (λ x. int_eq x.id id)

abbrev pub DropsMedium : ℤ → Tables → Tables → Type 0
DropsMedium id = Drops media (λ x. int_eq x.id id)

abbrev pub DropsAttribute : ℤ → Tables → Tables → Type 0
DropsAttribute id = Drops attributes (λ x. int_eq x.id id)

abbrev pub DropsPair : Mapping → ℤ → ℤ → Tables → Tables → Type 0
DropsPair m base_id related_id = Drops (pairs m) (λ x. int_eq x.base_id base_id && int_eq x.related_id related_id)

abbrev pub DropsIdentity : ℤ → ℤ → Tables → Tables → Type 0
DropsIdentity kind local_id = Drops identities (λ x. int_eq x.kind kind && int_eq x.local_id local_id)

-- a list that was the first becomes the second
abbrev pub ListBecomes : {R : Type 0} → Listed R → List R → List R → Tables → Tables → Type 0
ListBecomes list from to before after = list.rows before ≡ from → after ≡ list.with_rows to before

-- the contents, each row with the moment
abbrev pub redated : List ℕ → List ContentsRow → List ContentsRow
redated at = map (λ (c : ContentsRow). record c { last_change = at })

-- each row of the contents gets the moment, and nothing else changes
abbrev pub SetsLastChange : List ℕ → Tables → Tables → Type 0
SetsLastChange at before after = after ≡ record before { contents = redated at before.contents }
