-- An empty file is opened as a database with no schema.
use Rattle.std.proofs.Common.{◌≡◌, inl, inr, List, [], ◌∷◌, ◌<◌, length, refl, ap, subst, ◌∙◌}
use Rattle.std.proofs.Common.{arith}
use Rattle.std.specs.Prelude.{Result, Ok, Err, IfOk}
use Rattle.std.specs.List.{AllZip}
use Rattle.sqlite.specs.Effect.{Database, IsDatabase}
use Rattle.sqlite.specs.Tree.{Trees}
use Rattle.sqlite.specs.Schema.{Schema}
use Rattle.sqlite.specs.State.{State, Opens, IsLive}
use Rattle.sqlite.specs.Files.{AreFoundIn}
use Rattle.sqlite_wal.specs.Recovery.{Image}
use Rattle.sqlite_trees.specs.Objects.{catalog_tree}
use Rattle.sqlite_catalog.specs.Listing.{AreListed, IsTableRow, IsIndexRow, IsViewRow}
use Rattle.store_sql.specs.Blank.{IsBlank, no_schema}
use Rattle.store_sql.proofs.Schemas.{same_schemas}

none_zip : {A B : Type 0} (R : A → B → Type 0) (ys : List B) → AllZip R [] ys → ys ≡ []
none_zip R [] zipped = refl
none_zip R (y ∷ ys) zipped = absurd zipped

-- no objects are the list of no other schema
no_objects : (schema : Schema) → AreListed [] schema → schema ≡ no_schema
no_objects schema listed =
    same_schemas schema.tables [] schema.indexes [] schema.views [] (none_zip IsTableRow schema.tables listed.tables)
    (none_zip (IsIndexRow schema.tables) schema.indexes listed.indexes)
    (none_zip IsViewRow schema.views listed.views)

pub unlisted : (db : Database) → IsDatabase db → db.trees catalog_tree ≡ [] → IsBlank no_schema db
unlisted db sound none = record {
  is = no_objects db.schema (subst (λ objects. AreListed objects db.schema) none
      sound.lists.listed);
  empty = tt;
}

nothing_found : (image : Image) (db : Trees) → image.db ≡ [] → AreFoundIn image db → db catalog_tree ≡ []
nothing_found image db none (inl found) = absurd (let some : 0 < length image.db = found.3.found.present in let no :
    length image.db ≡ 0 = ap length none in omega arith)
nothing_found image db none (inr nothing) = nothing.1.1

-- what is opened over an empty file has no tables
pub opened_blank : (s : State) (image : Image) → Opens s → IsLive s → image.db ≡ []
    → AreFoundIn image s.committed.trees → IsBlank no_schema s.now
opened_blank s image opens live none found =
    let catalog : s.now.trees catalog_tree ≡ [] = ap (λ (db : Database). db.trees catalog_tree) opens.clean
    ∙ nothing_found image s.committed.trees none found in
    unlisted s.now (live opens.is_open).0 catalog

-- two facts of what a call answers
pub both_ok : {X E : Type 0} (A B C : X → Type 0) → ((x : X) → A x → B x → C x) → (r : Result X E)
    → IfOk r A → IfOk r B → IfOk r C
both_ok A B C follows (Ok x) first second = follows x first second
both_ok A B C follows (Err e) first second = tt
