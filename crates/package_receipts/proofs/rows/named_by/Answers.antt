use Rattle.std.proofs.Common.{sym, subst, FitsSigned, w64, to_z-of_z, rules}
use Rattle.package_receipts.specs.Ranges.{IsUuidText, IsEndText}
use Rattle.package_receipts.proofs.Ranges.{seq_counted}
use Rattle.package_receipts.proofs.rows.named_by.Goals as goal

pub returns-in_default-clause-none : goal.returns-in_default-clause-none
returns-in_default-clause-none c = let fits : FitsSigned w64 c.args.row.now.seq =
    search rules in λ r. c.in_default.ensures.none (simp (to_z-of_z, fits) (seq_counted c.args.row.now.seq r.seq))

pub returns-in_default-uuid_of-clause-none : goal.returns-in_default-uuid_of-clause-none
returns-in_default-uuid_of-clause-none c = λ r. c.in_default-uuid_of.ensures.none
    (subst IsUuidText (sym c.as_str-2.ensures) r.request)

pub returns-in_default-end_of-clause-none : goal.returns-in_default-end_of-clause-none
returns-in_default-end_of-clause-none c = λ r. c.in_default-end_of.ensures.none
    (subst IsEndText (sym c.as_str-3.ensures) r.source)

pub returns-in_default-end_of-2-clause-none : goal.returns-in_default-end_of-2-clause-none
returns-in_default-end_of-2-clause-none c = λ r. c.in_default-end_of-2.ensures.none
    (subst IsEndText (sym c.as_str-4.ensures) r.target)
