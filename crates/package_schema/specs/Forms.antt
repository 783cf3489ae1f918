-- Whether a database has the form of a package of the first version.
use Rattle.std.specs.Prelude.{pos}
use Rattle.sqlite.specs.Effect.{Database}
use Rattle.package_v1.specs.FirstVersion.{AreFree}
use Rattle.package_tables.specs.Damaged.{AreFormedAt}

-- the fourteen tables of the first version have their form, and nothing has a name that the second needs
abbrev pub HasFirstForm : Database → Type 0
HasFirstForm db = AreFormedAt (pos 1) db × AreFree db.schema
