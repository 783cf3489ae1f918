-- The four steps as one: a store of the first version reads as the same package at the second.
use Rattle.std.proofs.Common.{◌≡◌, ◌⊎◌, inl, inr, ℤ, pos, List, [], ◌∷◌, map, refl, sym, ap}
use Rattle.std.proofs.Common.{subst, ◌∙◌}
use Rattle.sqlite.specs.Tree.{Trees}
use Rattle.sqlite.specs.Effect.{Database, IsDatabase}
use Rattle.sqlite.specs.State.{State}
use Rattle.sheet_types.specs.Ordered.{put, has}
use Rattle.sheet_types.specs.World.{Package}
use Rattle.sheet_types.specs.declared.frame.Frame.{Frame}
use Rattle.store_sql.specs.Transactions.{WouldLeave, Steps}
use Rattle.store_sql.proofs.Transactions.{steps_then, steps_weaker}
use Rattle.store_sql.specs.Writing.{Chained}
use Rattle.package_tables.specs.Package.{Tables, tables_of}
use Rattle.package_tables.specs.declared.fault.Fault.{Fault}
use Rattle.package_tables.proofs.InTurn.{Done, done}
use Rattle.package_tables.specs.Changes.{Adds}
use Rattle.package_tables.specs.Fixed.{mapping_relations}
use Rattle.package_tables.specs.Listed.{relations}
use Rattle.package_tables.specs.Shapes.{relation_shape}
use Rattle.package_tables.specs.declared.rows.HeadRow.{HeadRow}
use Rattle.identity_register.specs.Reads.{Says}
use Rattle.package_v1.specs.FirstVersion.{HasThirdIndex, first_relations, third_relation, first_tables_of}
use Rattle.package_v1.specs.FirstVersion.{with_version, brought, ReadsAtVersionOne, ReadsAtEither}
use Rattle.package_v1.specs.Migrating.{MakesThird, IndexesThird, AddsRelation, SetsVersion, Brings}

-- one version is that of one head
one_head : (heads : List HeadRow) (v : ℤ) → map (λ (h : HeadRow). h.version) heads ≡ v ∷ []
    → (head : HeadRow)
    × (heads ≡ head ∷ [])
one_head [] v h = absurd (let e = h in cc)
one_head (head ∷ []) v h = (head, refl)
one_head (head ∷ more ∷ heads) v h = absurd (let e = h in cc)

-- the third relation comes after the first two
third_comes : (b a : Tables) → b.relations ≡ first_relations → Adds relations third_relation b a
    → a ≡ record b { relations = mapping_relations }
third_comes b a is adds = adds (ap (has relation_shape.key (relation_shape.key third_relation)) is)
    ∙ ap (λ l. record b { relations = put relation_shape.key third_relation l }) is

abbrev pub InTurn : Database → Database → Type 0
InTurn = Chained MakesThird (Chained IndexesThird (Chained (AddsRelation third_relation) (SetsVersion (pos 2))))

pub brings : (old new : Database) → InTurn old new → Brings old new
brings old new (one, made, (two, indexed, (three, added, set))) f p reads =
    let third = made reads.formed reads.free in
    let index = indexed third.formed third.free in
    let said : tables_of two ≡ first_tables_of old = index.1 ∙ third.says in
    let relation = added index.0 in
    let related : tables_of three ≡ record (first_tables_of old) { relations = mapping_relations } =
    third_comes (tables_of two) (tables_of three) (ap (λ (t : Tables). t.relations) said ∙ reads.says.relations)
    relation.1 ∙ ap (λ (t : Tables). record t { relations = mapping_relations }) said in
    let alone = one_head (tables_of old).heads (pos 1) reads.says.version in
    let last = set relation.0 alone.0 (ap (λ (t : Tables). t.heads) related ∙ alone.1) in
    let tables : tables_of new ≡ brought (first_tables_of old) =
    last.1 ∙ ap (λ (t : Tables). record t { heads = with_version (pos 2) alone.0 ∷ [] }) related
    ∙ ap (λ (l : List HeadRow). record (first_tables_of old)
    { relations = mapping_relations; heads = map (with_version (pos 2)) l }) (sym alone.1) in
    record {
      reads = record { formed = last.0; says = subst (Says f p) (sym tables) reads.says.says };
      tables = tables;
      indexed = subst HasThirdIndex (sym (last.2 ∙ relation.2)) index.2;
      sound = last.3;
    }

-- what a crash leaves of the transaction
pub left_at_either : (old : Database) → IsDatabase old → (f : Frame) (p : Package) → ReadsAtVersionOne f p old
    → (trees : Trees) → (trees ≡ old.trees) ⊎ WouldLeave {X = Unit {0}} (λ _. Brings) old trees
    → ReadsAtEither f p trees
left_at_either old sound f p reads trees (inl same) =
    subst (ReadsAtEither f p) (sym same) (old.schema, sound, inl reads)
left_at_either old sound f p reads trees (inr (x, new, brings, same)) =
    let it = brings f p reads in
    subst (ReadsAtEither f p) (sym same) (new.schema, it.sound, inr it.reads)

pub brings_steps : {old a b c new : State} {r : Done} → Steps {X = Unit {0}} {E = Fault} (λ _. MakesThird) old a done
    → Steps {X = Unit {0}} {E = Fault} (λ _. IndexesThird) a b done
    → Steps {X = Unit {0}} {E = Fault} (λ _. AddsRelation third_relation) b c done
    → Steps {X = Unit {0}} {E = Fault} (λ _. SetsVersion (pos 2)) c new r
    → Steps {X = Unit {0}} {E = Fault} (λ _. Brings) old new r
brings_steps {old} {a} {b} {c} {new} one two three four = steps_weaker (λ _. Brings)
    (λ _ it. brings old.now new.now it) (steps_then one (steps_then two (steps_then three four)))
