-- The steps that take an item out, as one change of the package.
use Rattle.std.proofs.Common.{◌≡◌, ℕ, ℤ, pos, List, false, Result, Ok, sym, ap, subst, ◌∙◌}
use Rattle.std.proofs.Common.{FitsSigned, w64, to_z}
use Rattle.std.proofs.Common.{of_z, to_z-of_z}
use Rattle.std.specs.Prelude.{bytes_eq}
use Rattle.std.proofs.lemmas.Slice.Eq.{bytes_eq-Decides}
use Rattle.sqlite.specs.Effect.{Database}
use Rattle.sqlite.specs.State.{State, Survives}
use Rattle.store_sql.specs.Transactions.{Steps}
use Rattle.store_sql.proofs.Transactions.{steps_then, steps_weaker}
use Rattle.package_tables.specs.Package.{Tables, tables_of, AreFormed}
use Rattle.package_tables.specs.Calls.{Makes, Answers, OnTables}
use Rattle.package_tables.specs.Changes.{DropsIdentity}
use Rattle.package_tables.specs.declared.rows.IdentityRow.{IdentityRow}
use Rattle.package_tables.proofs.Stepping.{makes_steps}
use Rattle.sheet_types.specs.Cut.{has_end}
use Rattle.sheet_types.specs.Texts.{kind_of}
use Rattle.sheet_types.specs.World.{kind_number}
use Rattle.sheet_types.specs.Lines.{IsUuid}
use Rattle.sheet_types.proofs.Same.{All-In}
use Rattle.identity_register.specs.Numbering.{without_content, without_identity, DropsContent, DropsRows, IsRowOf}
use Rattle.identity_register.specs.Reads.{Says}
use Rattle.identity_register.specs.LocalNumbers.{KeepRows, Shrinks}
use Rattle.std.specs.List.{list_any}
use Rattle.identity_register.specs.Changes.{IsLooseItem, item_deleted}
use Rattle.identity_register.proofs.Deleting.{deletes}
use Rattle.identity_register.proofs.Finding.{row_of_uuid}
use Rattle.identity_register.proofs.KeptNumbers.{others_left}
use Rattle.identity_register.proofs.Linking.{numbered_item}

-- ---- the rows

-- a deletion from the table of a kind
pub content_steps : {E : Type 0} (Drops : Tables → Tables → Type 0) (kind k number : ℤ) {old new : State}
    {r : Result (Unit {0}) E} → kind ≡ k → ((a b : Tables) → Drops a b → DropsContent k number a b)
    → Makes Drops old new r → Survives old new (λ _. ⊥)
    → Steps (λ _. OnTables (DropsContent kind number)) old new r
content_steps Drops kind k number {old} {new} same means makes survives =
    steps_weaker (λ _. OnTables (DropsContent kind number))
    (λ _ on formed. let both = on formed in (
      both.0,
      subst (λ z. DropsContent z number (tables_of old.now)
          (tables_of new.now)) (sym same) (means (tables_of old.now) (tables_of new.now) both.1),
    ))
    (makes_steps Drops makes survives)

-- and then of its identity
pub rows_steps : {E F : Type 0} (kind number : ℤ) {old mid new : State} {x : Unit {0}} {r : Result (Unit {0}) F}
    → Steps {E = E} (λ _. OnTables (DropsContent kind number)) old mid (Ok x)
    → Makes (DropsIdentity kind number) mid new r → Survives mid new (λ _. ⊥)
    → Steps (λ _. OnTables (DropsRows kind number)) old new r
rows_steps kind number {old} {mid} {new} first makes survives =
    steps_weaker (λ _. OnTables (DropsRows kind number))
    (λ _ chain formed. let one = chain.1 formed in let two =
    chain.2 one.0 in (two.0, two.1 ∙ ap (without_identity kind number) one.1))
    (steps_then first (makes_steps (DropsIdentity kind number) makes survives))

-- ---- the item

item_dropped : (id : List ℕ) (row : IdentityRow) (old mid new : Database) → Answers (IsRowOf id) row old mid
    → OnTables (DropsRows row.kind row.local_id) mid new → Shrinks (IsLooseItem id) (item_deleted id) old new
item_dropped id row old mid new found dropped f p reads fits =
    let formed_mid = subst AreFormed (sym found.0) reads.formed in
    let did = dropped formed_mid in
    let there = found.1 reads.formed in
    let held = numbered_item f p (tables_of old) reads.says (λ i. bytes_eq i.identity id) fits.0 in
    let fit : IsUuid id = subst IsUuid ((bytes_eq-Decides held.0.item.identity id).0 held.2)
    (All-In (λ m. IsUuid m.item.identity) held.0 reads.says.numbered reads.says.numbers.uuids held.1) in
    let n = row_of_uuid f p (tables_of old) reads.says id fit row there.0 there.1 in
    let says = deletes f p (tables_of old) reads.says n.0 n.1
    (subst (λ i. list_any (has_end i) p.links ≡ false) (sym n.3) fits.1) in
    let kind : ℤ = pos (kind_number (kind_of n.0.item.content)) in
    let less : without_identity kind n.0.number (without_content kind n.0.number (tables_of old)) ≡ tables_of new =
    ap (λ r. without_identity r.kind r.local_id (without_content r.kind r.local_id (tables_of old))) n.2
    ∙ ap (λ d. without_identity row.kind row.local_id (without_content row.kind row.local_id (tables_of d)))
    (sym found.0)
    ∙ sym did.1 in (
      record {
        formed = did.0;
        says = subst (Says f (item_deleted id p)) less
            (subst (λ i. Says f (item_deleted i p) (without_identity kind n.0.number
            (without_content kind n.0.number (tables_of old)))) n.3 says);
      },
      subst (λ t. KeepRows t (tables_of old)) less (others_left kind n.0.number (tables_of old)),
    )

-- an item is found and its rows are dropped
pub item_steps : {E F : Type 0} (id : List ℕ) (row : IdentityRow) {old mid new : State} {r : Result (Unit {0}) F}
    → Steps {E = E} (Answers (IsRowOf id)) old mid (Ok row) → Steps
    (λ _. OnTables (DropsRows row.kind row.local_id))
    mid new r
    → Steps (λ _. Shrinks (IsLooseItem id) (item_deleted id)) old new r
item_steps id row {old} {mid} {new} first next =
    steps_weaker (λ _. Shrinks (IsLooseItem id) (item_deleted id))
    (λ _ chain. item_dropped id row old.now chain.0 new.now chain.1 chain.2) (steps_then first next)

-- a number that was compared with a literal
pub compared : (z : ℤ) (n : ℕ) → FitsSigned w64 z → of_z w64 z ≡ n → z ≡ to_z w64 n
compared z n fits same = sym (to_z-of_z fits) ∙ ap (to_z w64) same
