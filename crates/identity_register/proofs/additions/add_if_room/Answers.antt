use Rattle.std.proofs.Common.{◌≡◌, rules, pos, true, refl, to_z-of_z, FitsSigned, w64, Ok}
use Rattle.sqlite.specs.Held.{state}
use Rattle.package_tables.specs.declared.fault.Fault.{Fault}
use Rattle.sheet_types.specs.Texts.{kind_of, uuid_text}
use Rattle.sheet_types.specs.World.{kind_number}
use Rattle.sheet_types.specs.declared.command.Item.{Item}
use Rattle.store_sql.proofs.Transactions.{steps_then, steps_failed, steps_answer}
use Rattle.identity_register.specs.Room.{ComesIn}
use Rattle.identity_register.proofs.Numbers.{add_steps, identity_makes}
use Rattle.identity_register.proofs.Rooms.{gap_found, no_room}
use Rattle.identity_register.proofs.additions.add_if_room.Goals as goal

pub returns-in_default-clause-steps : goal.returns-in_default-clause-steps
returns-in_default-clause-steps g c = no_room (record { identity = c.args.identity; content = c.args.content.now })
    c.in_ok-number.field-0 c.in_default.is c.in_ok-number.ensures.steps

pub returns-in_err-put_content-clause-steps : goal.returns-in_err-put_content-clause-steps
returns-in_err-put_content-clause-steps g c = steps_failed _ c.from_residual-in_err-put_content.ensures.0
    (steps_then c.in_ok-number.ensures.steps c.put_content.ensures.steps)

pub returns-in_err-insert_identity-clause-steps : goal.returns-in_err-insert_identity-clause-steps
returns-in_err-insert_identity-clause-steps g c =
    let number : FitsSigned w64 c.in-Some.number = search rules in
    let kind : FitsSigned w64 c.stored_kind.result = search rules in
    let text : c.encode_lower-text.result.now ≡ uuid_text c.args.identity =
    rw (c.encode_lower-text.ensures.text, c.hyphenated.ensures) refl in
    steps_failed _ c.from_residual-in_err-insert_identity.ensures.0
    (add_steps (record {
      item = record { identity = c.args.identity; content = c.args.content.now };
      number = c.in-Some.number;
    }) (gap_found {F = Fault} _ c.in_ok-number.field-0 c.in-Some.number c.in-Some.is
    c.in_ok-number.ensures.steps) (simp (to_z-of_z, number) at c.in_ok-put_content.ensures.steps)
    (identity_makes c.stored_kind.result (pos (kind_number (kind_of c.args.content.now))) c.in-Some.number
    c.encode_lower-text.result.now (uuid_text c.args.identity) _ _ _ c.stored_kind.ensures text
    (simp (to_z-of_z, number, kind) at c.insert_identity.ensures.wrote))
    c.insert_identity.ensures.survives)

pub returns-clause-steps : goal.returns-clause-steps
returns-clause-steps g c =
    let item : Item = record { identity = c.args.identity; content = c.args.content.now } in
    let number : FitsSigned w64 c.in-Some.number = search rules in
    let kind : FitsSigned w64 c.stored_kind.result = search rules in
    let text : c.encode_lower-text.result.now ≡ uuid_text c.args.identity =
    rw (c.encode_lower-text.ensures.text, c.hyphenated.ensures) refl in
    steps_answer {E = Fault} (ComesIn item) true (λ it. it)
    (add_steps (record { item = item; number = c.in-Some.number })
    (gap_found {F = Fault} _ c.in_ok-number.field-0 c.in-Some.number c.in-Some.is c.in_ok-number.ensures.steps)
    (simp (to_z-of_z, number) at c.in_ok-put_content.ensures.steps)
    (identity_makes {E = Fault} c.stored_kind.result (pos (kind_number (kind_of c.args.content.now))) c.in-Some.number
    c.encode_lower-text.result.now (uuid_text c.args.identity) (state g.S.Store c.put_content.new.tx.conn.now)
    (state g.S.Store c.insert_identity.new.tx.conn.now) (Ok c.in_ok-insert_identity.field-0) c.stored_kind.ensures
    text (simp (to_z-of_z, number, kind) at c.in_ok-insert_identity.ensures.wrote))
    c.in_ok-insert_identity.ensures.survives)
