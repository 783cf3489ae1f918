-- The rows of the ends tell whether they are known and of which kinds they are, and their pair tells whether the link
-- is there.
use Rattle.std.proofs.Common.{◌≡◌, ◌∙◌, ap, sym, Ok, rules, true, false}
use mir.Syntax.{w64}
use mir.Val.{SFits}
use Rattle.std.proofs.lemmas.Int.{to_z-of_z}
use Rattle.store_sql.proofs.Staying.{looks_stays, stays_then}
use Rattle.package_tables.specs.Calls.{IsOneOf}
use Rattle.package_tables.specs.Mappings.{mapping_rows}
use Rattle.package_tables.specs.declared.rows.MappingRow.{MappingRow}
use Rattle.identity_register.specs.Answers.{are_ends}
use Rattle.identity_register.specs.Numbering.{is_pair}
use Rattle.identity_register.proofs.Looking.{looked, looked_then, sees, fails}
use Rattle.identity_register.proofs.Answering.{IsRowFor, one_tells}
use Rattle.identity_register.proofs.Ends.{state_by, no_base, no_other, wrong_kinds, right_kinds}
use Rattle.identity_register.proofs.look_ups.link_state.Goals as goal
use Rattle.identity_register.proofs.look_ups.link_state.Goals.{then-there, else-there}

pub returns-in_default-clause-told : goal.returns-in_default-clause-told
returns-in_default-clause-told g c =
    sees (looked (IsRowFor c.args.relation.base) (c.in_ok-base.was ∙ ap Ok c.in_default.is) c.row_of.ensures.looked)
    (λ f p t says none. no_base f p t says c.args.relation none)

pub returns-in_err-other-clause-told : goal.returns-in_err-other-clause-told
returns-in_err-other-clause-told g c = fails c.from_residual-in_err-other.result
    c.from_residual-in_err-other.ensures.0 (stays_then (looks_stays c.row_of.ensures.looked)
    (looks_stays c.row_of-2.ensures.looked))

pub returns-in_default-2-clause-told : goal.returns-in_default-2-clause-told
returns-in_default-2-clause-told g c =
    sees (looked_then (IsRowFor c.args.relation.other) (looked (IsRowFor c.args.relation.base)
    (c.in_ok-base.was ∙ ap Ok c.in-Some.is) c.row_of.ensures.looked) (c.in_ok-other.was ∙ ap Ok c.in_default-2.is)
    c.row_of-2.ensures.looked)
    (λ f p t says h. no_other f p t says c.args.relation h.1)

pub returns-then-not-are_ends-clause-told : goal.returns-then-not-are_ends-clause-told
returns-then-not-are_ends-clause-told g c =
    let kind : SFits w64 c.in-Some.base.kind = search rules in
    let other : SFits w64 c.in-Some-2.other.kind = search rules in
    let told : c.are_ends.result ≡ are_ends c.args.relation.mapping c.in-Some.base.kind c.in-Some-2.other.kind =
    simp to_z-of_z at c.are_ends.ensures in
    let wrong : are_ends c.args.relation.mapping c.in-Some.base.kind c.in-Some-2.other.kind ≡ false =
    sym told ∙ c.if-not-are_ends.true in
    sees (looked_then (IsRowFor c.args.relation.other) (looked (IsRowFor c.args.relation.base)
    (c.in_ok-base.was ∙ ap Ok c.in-Some.is) c.row_of.ensures.looked) (c.in_ok-other.was ∙ ap Ok c.in-Some-2.is)
    c.row_of-2.ensures.looked)
    (λ f p t says h. wrong_kinds f p t says c.args.relation c.row_of.ensures.fit c.row_of-2.ensures.fit c.in-Some.base
    c.in-Some-2.other h.0 h.1 wrong)

pub returns-in_err-pair-clause-told : goal.returns-in_err-pair-clause-told
returns-in_err-pair-clause-told g c =
    fails c.from_residual-in_err-pair.result c.from_residual-in_err-pair.ensures.0
    (stays_then (stays_then (looks_stays c.row_of.ensures.looked) (looks_stays c.row_of-2.ensures.looked))
    (looks_stays c.pair_of_ends.ensures))

pub returns-clause-told : goal.returns-clause-told
returns-clause-told g c =
    let kind : SFits w64 c.in-Some.base.kind = search rules in
    let other : SFits w64 c.in-Some-2.other.kind = search rules in
    let number : SFits w64 c.in-Some.base.local_id = search rules in
    let other_number : SFits w64 c.in-Some-2.other.local_id = search rules in
    let told : c.are_ends.result ≡ are_ends c.args.relation.mapping c.in-Some.base.kind c.in-Some-2.other.kind =
    simp to_z-of_z at c.are_ends.ensures in
    let right : are_ends c.args.relation.mapping c.in-Some.base.kind c.in-Some-2.other.kind ≡ true =
    sym told ∙ c.if-not-are_ends.false in
    let wanted : MappingRow = record { base_id = c.in-Some.base.local_id; related_id = c.in-Some-2.other.local_id } in
    let state_is : c.if-there.result ≡ state_by true true c.is_some-there.result = elim c.if-there.branch [
      | then-there w ↦ w.result-is ∙ ap (state_by true true) (sym w.if-there.true)
      | else-there w ↦ w.result-is ∙ ap (state_by true true) (sym w.if-there.false)
    ] in
    sees (looked_then (λ t. IsOneOf (λ r. is_pair r wanted) (mapping_rows c.args.relation.mapping t))
    (looked_then (IsRowFor c.args.relation.other) (looked (IsRowFor c.args.relation.base)
    (c.in_ok-base.was ∙ ap Ok c.in-Some.is) c.row_of.ensures.looked) (c.in_ok-other.was ∙ ap Ok c.in-Some-2.is)
    c.row_of-2.ensures.looked)
    c.in_ok-pair.was (simp to_z-of_z at c.pair_of_ends.ensures))
    (λ f p t says h. state_is ∙ right_kinds f p t says c.args.relation c.row_of.ensures.fit c.row_of-2.ensures.fit
    c.in-Some.base c.in-Some-2.other h.0.0 h.0.1 c.is_some-there.result right
    (c.is_some-there.ensures ∙ one_tells (λ r. is_pair r wanted) (mapping_rows c.args.relation.mapping t)
    c.in_ok-pair.pair h.1))
