use Rattle.std.proofs.Common.{◌≡◌, true, sym, ◌∙◌, true≢false, FitsSigned, w64, to_z-of_z}
use Rattle.package_receipts.specs.Ranges.{is_item_number}
use Rattle.package_receipts.specs.Read.{has_parts}
use Rattle.package_receipts.proofs.Ranges.{kind_there, kind_fits, parts_there}
use Rattle.package_receipts.proofs.rows.thing_of.Goals as goal

pub returns-in_default-clause-none : goal.returns-in_default-clause-none
returns-in_default-clause-none c = λ r.
    let fits : FitsSigned w64 c.args.row.now.kind = kind_fits c.args.row.now.kind r.kind in
    let k = kind_there c.args.row.now.kind r.kind in
    c.in_default.ensures.none k.0 (simp (to_z-of_z, fits) k.1)

pub returns-then-not-has_parts-clause-none : goal.returns-then-not-has_parts-clause-none
returns-then-not-has_parts-clause-none c = λ r.
    let fits : FitsSigned w64 c.args.row.now.kind = kind_fits c.args.row.now.kind r.kind in
    let item : c.is_item.result ≡ is_item_number c.args.row.now.kind = simp (to_z-of_z, fits) at c.is_item.ensures in
    let there = parts_there c.args.row.now c.args.other c.in-Some-digest_of.fingerprint c.requires.other.0
    (sym c.as_str.ensures ∙ c.in-Some-digest_of.ensures.text) c.in-Some-digest_of.ensures.fit r in
    let found : c.has_parts.result ≡ true = c.has_parts.ensures
    ∙ (λ n. has_parts (item n) (c.is_some.ensures n) (c.is_some-2.ensures n)) ∙ there in
    true≢false (sym found ∙ c.if-not-has_parts.true)
