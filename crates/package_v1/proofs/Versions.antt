-- The one head gets a version.
use Rattle.std.proofs.Common.{◌≡◌, ℕ, ℤ, List, [], ◌∷◌, map, length, true, Ok, codes, refl, sym, ap}
use Rattle.std.proofs.Common.{subst, ◌∙◌, arith}
use Rattle.std.specs.List.{AllByRecursion}
use Rattle.sqlite.specs.Order.{Row}
use Rattle.sqlite.specs.Tree.{rowid}
use Rattle.sqlite.specs.Effect.{Database, IsDatabase}
use Rattle.sqlite.specs.State.{State, Executes}
use Rattle.sqlite.specs.Command.TheVariants.{Update}
use Rattle.sqlite.specs.declared.types.Value.{Value}
use Rattle.sqlite.specs.declared.types.Value.TheVariants.{Int}
use Rattle.sqlite.proofs.Callers.{IsPlain, command_of, runs_as}
use Rattle.sheet_types.specs.Ordered.{arranged}
use Rattle.store_sql.specs.Kinds.{has_kinds}
use Rattle.store_sql.specs.Reading.{always}
use Rattle.store_sql.specs.Writing.{Updates, IsKeyed}
use Rattle.store_sql.specs.Spelling.{Spelling, spelled}
use Rattle.store_sql.proofs.Resolve.{understood_is}
use Rattle.store_sql.proofs.Update.{changed, change_by, change_program, update_is}
use Rattle.package_tables.specs.Package.{tables_of, AreFormed}
use Rattle.package_tables.specs.Shape.{IsFormed, IsStored, stored_rows}
use Rattle.package_tables.specs.Shapes.{head_shape}
use Rattle.package_tables.specs.Tables.{sheet_package}
use Rattle.package_tables.specs.declared.rows.HeadRow.{HeadRow}
use Rattle.package_tables.proofs.Changing.{length-arranged}
use Rattle.package_tables.proofs.Shapes.{standing}
use Rattle.package_tables.proofs.Written.{heads_listed}
use Rattle.package_v1.specs.FirstVersion.{with_version}
use Rattle.package_v1.specs.Migrating.{SetsVersion}
use Rattle.package_v1.proofs.Texts.{version_terms, version_text, version_plan}

abbrev text : List ℕ
text = codes "UPDATE sheet_package SET version = ?1"

abbrev change : ℤ → Row → Row
change version = change_by version_terms (Int version ∷ [])

-- where the values are one, so are the rows
one_row : (rows : List Row) (head : HeadRow) → arranged head_shape.key (map head_shape.typed rows) ≡ head ∷ []
    → (r : Row) × (rows ≡ r ∷ []) × (head_shape.typed r ≡ head)
one_row [] head h = absurd (let e = h in cc)
one_row (r ∷ []) head h = (r, refl, cc)
one_row (r ∷ s ∷ rows) head h = absurd (let n = sym (length-arranged head_shape.key
    (map head_shape.typed (r ∷ s ∷ rows))) ∙ ap length h in omega (arith, n))

-- a head as it is stored gets the version
stored_change : (version : ℤ) (v : Value) (head : HeadRow) → change version (head_shape.stored v head)
    ≡ head_shape.stored v (with_version version head)
stored_change version v head = refl

of_kinds : (spelling : Spelling) (v : Value) (head : HeadRow)
    → has_kinds (spelled sheet_package spelling) (head_shape.stored v head) ≡ true
of_kinds spelling v head = refl

still_keyed : (v : Value) (head : HeadRow) → IsKeyed (head_shape.stored v head ∷ [])
still_keyed v head = record { ints = refl; rises = (tt, tt) }

versions : (version : ℤ) (old new : Database) → Updates sheet_package (λ r. true) (change version) old new
    → AreFormed old → (head : HeadRow) → (tables_of old).heads ≡ head ∷ []
    → AreFormed new × (tables_of new ≡ record (tables_of old) { heads = with_version version head ∷ [] })
    × (new.schema ≡ old.schema)
versions version old new updates formed head is =
    let here = formed.heads in
    let p = here.placed in
    let did = updates p.at p.spelling p.has formed.quiet in
    let table = standing head_shape heads_listed.laws old new p did.spares.schema in
    let alone = one_row (stored_rows head_shape old) head is in
    let whole : IsStored head_shape alone.0 = (subst (AllByRecursion (IsStored head_shape)) alone.1 here.stored).0 in
    let stored : head_shape.stored (rowid alone.0) head ≡ alone.0 =
    ap (head_shape.stored (rowid alone.0)) (sym alone.2) ∙ whole in
    let there : old.trees (spelled sheet_package p.spelling).tree ≡ head_shape.stored (rowid alone.0) head ∷ [] =
    table.before ∙ alone.1 ∙ ap (λ r. r ∷ []) (sym stored) in
    let next = head_shape.stored (rowid alone.0) (with_version version head) in
    let rows : stored_rows head_shape new ≡ next ∷ [] = table.after
    ∙ did.rows (subst IsKeyed (sym table.before) here.keyed)
    (subst (AllByRecursion (λ r. has_kinds (spelled sheet_package p.spelling) (change version r) ≡ true)) (sym there)
    (of_kinds p.spelling (rowid alone.0) (with_version version head), tt))
    ∙ ap (map (change version)) there in
    let formed_new : IsFormed head_shape new = record {
      placed = table.placed;
      keyed = subst IsKeyed (sym rows) (still_keyed (rowid alone.0) (with_version version head));
      stored = subst (AllByRecursion (IsStored head_shape)) (sym rows) (refl, tt);
    } in
    let both = heads_listed.written p.spelling old new did.spares formed formed_new in (
      both.0,
      both.1 ∙ ap (λ l. record (tables_of old) { heads = arranged head_shape.key (map head_shape.typed l) })
          rows,
      did.spares.schema,
    )

pub version_set : (version : ℤ) (old new : State) (count : ℕ)
    → Executes text (Int version ∷ []) old new (Ok count)
    → SetsVersion version old.now new.now
version_set version old new count h formed head is =
    let p = formed.heads.placed in
    let updates = changed text sheet_package always 0 version_terms version_text version_plan (Int version ∷ [])
    (record { found = λ r. refl; new = λ r. refl }) refl (λ r. true) (λ spelling. refl) old new count h in
    let both = versions version old.now new.now updates formed head is in
    let known = (understood_is old.now.schema text _ (update_is old.now.schema text p.at
    (spelled sheet_package p.spelling) always 0 version_terms (version_text p.spelling) p.has
    (version_plan p.spelling))).0 in
    let sound : IsDatabase new.now = (runs_as text (Int version ∷ []) old new old.now.schema refl
    (Update p.at (change_program (spelled sheet_package p.spelling) always version_terms))
    (ap command_of known) (subst IsPlain (sym known) (refl, refl)) count h).sound in
    (both.0, both.1, both.2, sound)
