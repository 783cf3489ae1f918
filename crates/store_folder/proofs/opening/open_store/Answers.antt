-- What was just opened holds what it shows, each table in the order of its rowids.
use Rattle.std.proofs.Common.{refl, ap, inl}
use Rattle.sqlite.specs.Effect.{Database}
use Rattle.store_folder.proofs.Adopted.{files_held, files_keyed}
use Rattle.store_folder.proofs.opening.open_store.Goals as goal

pub returns-in-Ok-clause-opened : goal.returns-in-Ok-clause-opened
returns-in-Ok-clause-opened c = λ clean.
    let opened = c.in-Ok.ensures.opened clean in
    record {
      holds = files_held (λ file. inl refl) c.in-Ok.conn opened;
      trees_are = ap (λ (db : Database). db.trees) opened.0.clean;
      sound = (opened.1 opened.0.is_open).0;
      keyed = files_keyed c.in-Ok.conn opened;
    }
