-- A store whose names are free goes through the migration, and another is left as it is.
use Rattle.std.proofs.Common.{◌≡◌, subst, arith, IsTrue}
use Rattle.std.specs.Prelude.{◌↔◌}
use Rattle.std.proofs.lemmas.Bool.{both_ways}
use Rattle.sqlite.specs.Held.{state}
use Rattle.package_v1.specs.FirstVersion.{AreFree}
use Rattle.opening_stores.proofs.Migrated.{turn_only, turn_left}
use Rattle.opening_stores.proofs.bringing.bring.Goals as goal

pub returns-then-are_free : goal.returns-then-are_free
returns-then-are_free g c =
    let old = state g.S.Store c.args.conn.now in
    let told = subst (λ s. IsTrue c.are_free.result ↔ AreFree s) c.schema.ensures.value c.are_free.ensures in
    record {
      rests = c.migrate.ensures.turns.rests;
      clean = λ clean. omega (arith, c.migrate.ensures.turns.survives.clean, clean);
      turns = λ is_open. turn_only old _ _ (told.0 c.if-are_free.true) c.migrate.ensures.turns;
    }

pub returns : goal.returns
returns g c =
    let told = subst (λ s. IsTrue c.are_free.result ↔ AreFree s) c.schema.ensures.value c.are_free.ensures in
    record {
      rests = c.requires;
      clean = λ clean. clean;
      turns = λ is_open. turn_left g.S.Store g.met.S.Store.shut_if_dirty g.met.S.Store.settled c.args.conn.now
          c.requires is_open (λ free. both_ways _ c.if-are_free.false (told.1 free));
    }
