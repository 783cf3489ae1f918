-- A CREATE that the catalogue has no reason to refuse fails only where the store does.
use Rattle.std.proofs.Common.{◌≡◌, inl, inr, ℕ, ◌≤◌, nat_lt, List, [], ◌∷◌, true, false, Option}
use Rattle.std.proofs.Common.{None, Some, Ok, Err, IsUtf8, sym, subst, ◌∙◌, arith}
use Rattle.std.proofs.lemmas.Bool.{both_ways, ltb-true, and_from, and_parts, not_from_false}
use Rattle.std.proofs.lemmas.Str.{IsUtf8-from_is_utf8}
use Rattle.sqlite.specs.Table.{Table}
use Rattle.sqlite.specs.Schema.{Schema}
use Rattle.sqlite_schema.specs.declared.schema.Index.{Index}
use Rattle.sqlite_rules.specs.Lists.{Has}
use Rattle.sqlite_rules.proofs.ListLemmas.{all_has}
use Rattle.sqlite_resolve.specs.Compile.{table_defined_by, index_defined_by}
use Rattle.sqlite_catalog.specs.declared.error.Refusal.{Refusal}
use Rattle.sqlite_catalog.specs.declared.error.Refusal.TheVariants.{Invalid, NameTaken, BadName, TooBig, BadKey}
use Rattle.sqlite_catalog.specs.declared.error.Refusal.TheVariants.{BadText, Violates}
use Rattle.sqlite_catalog.specs.Change.{is_used, automatics, indexed}
use Rattle.sqlite_catalog.specs.Calls.{RefusesTable, RefusesIndex}
use Rattle.sqlite.specs.Does.{MakesTable, MakesIndex}
use Rattle.sqlite.specs.Order.{Row}
use Rattle.sqlite.specs.Tree.{Trees}
use Rattle.std.specs.List.{AllByRecursion}
use Rattle.sqlite_schema.specs.Rules.{passes}
use Rattle.sqlite_schema.specs.declared.schema.Constraint.TheVariants.{Unique}
use Rattle.sqlite.specs.Effect.{Database}
use Rattle.sqlite.specs.declared.error.Error.{Error}
use Rattle.store_sql.specs.Certain.{FitsTable, FitsIndex}
use Rattle.store_sql.proofs.Writes.{same_value}

-- a number that is below another is not above it
not_past : (a b : ℕ) → nat_lt a b ≡ true → b ≤ a → ⊥
not_past a b less above = omega (arith, ltb-true a b less, above)

module _ (schema : Schema) (text : List ℕ) (t : Table) (fits : FitsTable schema text t)
    (known : table_defined_by text ≡ Ok t) where
  pub no_refusal : (why : Refusal) → RefusesTable schema text why → ⊥
  no_refusal (Invalid e) h = absurd (let e = sym known ∙ h in cc)
  no_refusal NameTaken h = let same : h.0 ≡ t = same_value (sym h.1 ∙ known) in elim h.2 [
    | inl used ↦ both_ways _ fits.free (rw same at used)
    | inr taken ↦ both_ways _ (all_has (λ (i : Index). is_used schema i.name ≡ false)
        (automatics t 0 0 t.uniques) taken.0 fits.automatic (rw same at taken.1)) taken.2
  ]
  no_refusal BadName h = let same : h.0 ≡ t = same_value (sym h.1 ∙ known) in elim h.2 [
    | inl bad ↦ bad (rw same (IsUtf8-from_is_utf8 t.name fits.utf8))
    | inr reserved ↦ both_ways _ fits.open_name (and_from _ _ (rw same at reserved.0)
        (not_from_false _ (rw same at reserved.1)))
  ]
  no_refusal TooBig h = let same : h.0 ≡ t = same_value (sym h.1 ∙ known) in elim h.2 [
    | inl many ↦ not_past _ _ fits.low (rw same at many)
    | inr (inl wide) ↦ not_past _ _ fits.reals (rw same at wide)
    | inr (inr key) ↦ not_past _ _ (all_has _ t.uniques key.0 fits.key_reals (rw same at key.1)) (rw same at key.2)
  ]
  no_refusal BadKey h = let same : h.0 ≡ t = same_value (sym h.1 ∙ known) in both_ways _ (rw same at h.2)
      fits.formed
  no_refusal BadText h = let same : h.0 ≡ t = same_value (sym h.1 ∙ known) in both_ways _ (rw same at h.2) fits.fit
  no_refusal (Violates rule) h = h

  pub table_made : IsUtf8 text → (db : Database) → db.schema ≡ schema → (stop : Option Error)
      → MakesTable text db (Err stop) → ⊥
  table_made is_text db is None h = let same : h.0 ≡ t = same_value (sym h.1 ∙ known) in not_past _ _ fits.short
      (rw same at h.2)
  table_made is_text db is (Some e) (inl no_text) = no_text.0 is_text
  table_made is_text db is (Some e) (inr refused) = no_refusal refused.0
      (subst (λ (s : Schema). RefusesTable s text refused.0) is refused.1)

-- where there is no row, each rule holds of each
none_break : (P : Table → Row → Type 0) (db : Trees) (tables : List Table)
    → AllByRecursion (λ (t : Table). db t.tree ≡ []) tables → AllByRecursion
    (λ (t : Table). AllByRecursion (P t) (db t.tree)) tables
none_break P db [] h = tt
none_break P db (t ∷ tables) h = (subst (λ rows. AllByRecursion (P t) rows) (sym h.0) tt, none_break P db tables h.1)

module _ (schema : Schema) (text : List ℕ) (t : Table) (i : Index) (fits : FitsIndex schema text t i)
    (known : index_defined_by t text ≡ Ok i) (db : Trees) (blank :
    AllByRecursion (λ (u : Table). db u.tree ≡ []) schema.tables)
    (empty : db t.tree ≡ []) where
  pub no_index_refusal : (why : Refusal) → RefusesIndex schema db t text why → ⊥
  no_index_refusal (Invalid e) h = absurd (let e = sym known ∙ h in cc)
  no_index_refusal NameTaken h = let same : h.0 ≡ i = same_value (sym h.1 ∙ known) in both_ways _ fits.free
      (rw same at h.2)
  no_index_refusal BadName h =
      let same : h.0 ≡ i = same_value (sym h.1 ∙ known) in
      let names = and_parts _ _ fits.utf8 in elim h.2 [
        | inl (inl bad) ↦ bad (rw same (IsUtf8-from_is_utf8 i.name names.0))
        | inl (inr reserved) ↦ both_ways _ fits.open_name (rw same at reserved.0)
        | inr bad ↦ bad (IsUtf8-from_is_utf8 t.name names.1)
      ]
  no_index_refusal TooBig h = let same : h.0 ≡ i = same_value (sym h.1 ∙ known) in elim h.2 [
    | inl many ↦ not_past _ _ fits.low many
    | inr (inl wide) ↦ not_past _ _ fits.reals wide
    | inr (inr wide) ↦ not_past _ _ fits.key_reals (rw same at wide)
  ]
  no_index_refusal BadKey h = h
  no_index_refusal BadText h = let same : h.0 ≡ i = same_value (sym h.1 ∙ known) in both_ways _ (rw same at h.2)
      fits.fit
  no_index_refusal (Violates rule) h = h.3 (none_break (λ u row. passes Unique (indexed schema t h.0) db u row
      ≡ true) db schema.tables blank)

  no_row : (row : Row) → Has (db t.tree) row → ⊥
  no_row row h = subst (λ rows. Has rows row) empty h

  pub index_made : IsUtf8 text → (stop : Option Error) → MakesIndex text (record { schema = schema; trees = db })
      t (Err stop) → ⊥
  index_made is_text None h = let same : h.0 ≡ i = same_value (sym h.1 ∙ known) in elim h.2 [
    | inl long ↦ not_past _ _ fits.short (rw same at long)
    | inr row ↦ no_row row.0 row.1
  ]
  index_made is_text (Some e) (inl no_text) = no_text.0 is_text
  index_made is_text (Some e) (inr refused) = no_index_refusal refused.0 refused.1
