-- A package whose moment of the last change is another is the same package.
use Rattle.std.proofs.Common.{◌≡◌, ℕ, List, Result, refl, sym, ap, subst, ◌∙◌}
use Rattle.std.specs.Prelude.{true}
use Rattle.sqlite.specs.Effect.{Database}
use Rattle.sqlite.specs.State.{State, Survives}
use Rattle.store_sql.specs.Transactions.{Steps}
use Rattle.store_sql.proofs.Transactions.{steps_weaker}
use Rattle.sheet_types.specs.Texts.{is_moment}
use Rattle.sheet_types.specs.World.{Package}
use Rattle.sheet_types.specs.declared.frame.Frame.{Frame}
use Rattle.package_tables.specs.Calls.{Makes, OnTables}
use Rattle.package_tables.specs.Changes.{SetsLastChange}
use Rattle.package_tables.specs.Fixed.{contents_of}
use Rattle.package_tables.specs.Package.{Tables, tables_of}
use Rattle.package_tables.proofs.FixedKept.{dated}
use Rattle.package_tables.proofs.Stepping.{makes_steps}
use Rattle.identity_register.specs.Calls.{Becomes, HasLastChange, Dates}
use Rattle.identity_register.specs.Reads.{Says}

still_says : (f : Frame) (p : Package) (at : List ℕ) (t : Tables) → is_moment at ≡ true → Says f p t
    → Says f p (record t { contents = contents_of f at })
still_says f p at t moment says = record {
  good = says.good;
  fixed = record {
    spatial_ref_sys = says.fixed.spatial_ref_sys;
    contents = refl;
    tile_matrix_set = says.fixed.tile_matrix_set;
    tile_matrix = says.fixed.tile_matrix;
    relations = says.fixed.relations;
  };
  dated = (moment, (moment, (moment, tt)));
  created = says.created;
  moment = says.moment;
  fit_head = says.fit_head;
  head = says.head;
  numbered = says.numbered;
  of_items = says.of_items;
  linked = says.linked;
  ends = says.ends;
  of_links = says.of_links;
  entered = says.entered;
  of_receipts = says.of_receipts;
}

dated_so : (at : List ℕ) (old new : Database) → OnTables (SetsLastChange at) old new → Dates at old new
dated_so at old new sets moment f p reads =
    let did = sets reads.formed in
    let are = dated f at (tables_of old) (tables_of new) reads.says.fixed did.1 in
    let last : HasLastChange f at new = ap (λ (t : Tables). t.contents) are in (
      record {
        formed = did.0;
        says = subst (Says f p) (sym are) (still_says f p at (tables_of old) moment reads.says);
      },
      last,
      are ∙ ap (λ c. record (tables_of old) { contents = c }) (sym last),
    )

pub dated_steps : {E : Type 0} (at : List ℕ) {old new : State} {r : Result (Unit {0}) E}
    → Makes (SetsLastChange at) old new r → Survives old new (λ _. ⊥) → Steps (λ _. Dates at) old new r
dated_steps at {old} {new} makes survives = steps_weaker (λ _. Dates at) (λ _. dated_so at old.now new.now)
    (makes_steps (SetsLastChange at) makes survives)

-- which is no change of the package
pub same_steps : {E : Type 0} (at : List ℕ) {old new : State} {r : Result (Unit {0}) E}
    → Steps (λ _. Dates at) old new r → Steps (λ _. Becomes (λ _. is_moment at ≡ true) (λ p. p)) old new r
same_steps at h = steps_weaker (λ _. Becomes (λ _. is_moment at ≡ true) (λ p. p))
    (λ _ dates f p reads moment. (dates moment f p reads).0) h
