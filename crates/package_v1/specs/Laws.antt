-- What holds of stores of the first version, whatever calls are made.
use Rattle.std.specs.Prelude.{◌≡◌}
use Rattle.sqlite.specs.Effect.{Database}
use Rattle.sheet_types.specs.World.{Package}
use Rattle.sheet_types.specs.declared.frame.Frame.{Frame}
use Rattle.identity_register.specs.Reads.{Reads}
use Rattle.package_v1.specs.FirstVersion.{ReadsAtVersionOne}

-- At the first version a store reads as at most one package of a frame.
abbrev pub FirstReadsAlone : Type 0
FirstReadsAlone =
    (f : Frame) (p q : Package) (db : Database) → ReadsAtVersionOne f p db → ReadsAtVersionOne f q db → p ≡ q

-- No store reads at both versions.
abbrev pub ReadsAtOneVersion : Type 0
ReadsAtOneVersion = (f g : Frame) (p q : Package) (db : Database) → ReadsAtVersionOne f p db → Reads g q db → ⊥
