-- What is still to come, each mark twice, makes up the whole behind what came.
use Rattle.std.proofs.Common.{◌≡◌, ◌++◌, length, IsUtf8}
use Rattle.std.specs.Prelude.{string_bytes}
use Rattle.field_sql.specs.Naming.{doubled}
use Rattle.field_sql.proofs.naming.put_doubled.Given as goal

abbrev pub invariant-parts : goal.invariant-parts
invariant-parts l = (string_bytes l.text ++ doubled l.mark l.rest ≡ string_bytes l.initial.text
    ++ doubled l.mark l.name) × IsUtf8 l.rest

abbrev pub decreases-parts : goal.decreases-parts
decreases-parts l = length l.rest
