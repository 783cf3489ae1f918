use Rattle.std.proofs.Common.{ℕ, List, true, refl, ◌∷◌, []}
use Rattle.sqlite.specs.Effect.{Database}
use Rattle.package_tables.specs.Calls.{OnTables}
use Rattle.sqlite.specs.Held.{state}
use Rattle.sqlite.specs.declared.types.Value.TheVariants.{Text}
use Rattle.store_sql.specs.Reading.{always}
use Rattle.store_sql.specs.Writing.{Updates}
use Rattle.store_sql.proofs.Update.{changed_inside, change_by}
use Rattle.package_tables.specs.Tables.{gpkg_contents}
use Rattle.package_tables.specs.Changes.{SetsLastChange}
use Rattle.package_tables.proofs.Making.{makes}
use Rattle.package_tables.proofs.Changing.{changes}
use Rattle.package_tables.proofs.FixedStatements.{change_text, change_plan, change_terms, contents_kinds}
use Rattle.package_tables.proofs.Written.{contents_listed}
use Rattle.package_tables.proofs.fixed.set_last_change.Goals as goal

-- the statement's change is that of the tables
dated : (at : List ℕ) (old new : Database) → Updates gpkg_contents (λ _. true)
    (change_by change_terms (Text at ∷ [])) old new → OnTables (SetsLastChange at) old new
dated at old new updates formed =
    changes contents_listed (change_by change_terms (Text at ∷ [])) (λ x. record x { last_change = at }) old new
    formed (λ v x. refl) (λ x. refl) (λ v x. refl) contents_kinds updates

pub returns-clause-wrote : goal.returns-clause-wrote
returns-clause-wrote g c clean begun =
    let a = c.args in
    let old = state g.S.Store a.tx.now.conn.now in
    let new = state g.S.Store c.execute.new.self.conn.now in
    let params = Text a.at.now ∷ [] in
    makes (Updates gpkg_contents (λ _. true) (change_by change_terms params)) (SetsLastChange a.at.now) old new
    c.execute.result _ (λ formed updates. dated a.at.now old.now new.now updates formed) c.drop_count.ensures
    (changed_inside _ gpkg_contents always 0 change_terms change_text change_plan params
    (record { found = λ r. refl; new = λ r. refl }) refl (λ _. true) (λ spelling. refl) old new
    c.execute.result
    (rw c.params-to_sql.ensures at (c.execute.ensures.runs clean begun)))
