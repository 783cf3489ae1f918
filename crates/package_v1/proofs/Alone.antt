-- A store of the first version reads as one package, and not at the second too.
use Rattle.std.proofs.Common.{◌≡◌, pos, [], ◌∷◌, map, sym, ap, ◌∙◌}
use Rattle.package_tables.specs.declared.rows.HeadRow.{HeadRow}
use Rattle.identity_register.proofs.OnePackage.{one_package}
use Rattle.package_v1.specs.FirstVersion.{first_tables_of, brought}
use Rattle.package_v1.specs.Laws.{FirstReadsAlone, ReadsAtOneVersion}

pub first_reads_alone : FirstReadsAlone
first_reads_alone f p q db one two = one_package f (brought (first_tables_of db)) p q one.says.says two.says.says

pub reads_at_one_version : ReadsAtOneVersion
reads_at_one_version f g p q db one two =
    let versions : pos 1 ∷ [] ≡ pos 2 ∷ [] = sym one.says.version
    ∙ ap (map (λ (h : HeadRow). h.version)) two.says.head in
    let e = versions in cc
