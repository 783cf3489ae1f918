-- The area is that of the least rectangle; or there is none; or memory or a store gave out.
use Rattle.std.proofs.Common.{◌∙◌, inl, inr, refl, rules, Some, None}
use mir.Syntax.{w64}
use mir.Val.{SFits}
use Rattle.std.specs.Prelude.{option_map, string_bytes}
use Rattle.std.proofs.lemmas.Int.{to_z-of_z}
use Rattle.command_lines.specs.Boxes.{IsAreaOver}
use Rattle.command_ordering.proofs.boxes.lend_box_in.Goals as goal

pub returns-in-Ok-None : goal.returns-in-Ok-None
returns-in-Ok-None g c =
    let zoom : SFits w64 c.args.boxed.now.zoom = search rules in
    let said = simp (to_z-of_z, zoom) at c.in-Ok-None.ensures in
    let none : IsAreaOver c.args.world.now.frame c.args.boxed.now.zoom c.args.boxed.now.ground None =
    rw c.in-Ok-None.field-0-is at said in
    inr (inl (record { none = none; same = refl; told = c.tell_fault.ensures; unhinted = refl }))

pub returns-in-Err : goal.returns-in-Err
returns-in-Err g c = inr (inr (c.in-Err.fault, c.fault_ending.ensures, refl, refl, refl))

pub returns-in-Ok-Some : goal.returns-in-Ok-Some
returns-in-Ok-Some g c =
    let zoom : SFits w64 c.args.boxed.now.zoom = search rules in
    let told = simp (to_z-of_z, zoom) at c.in-Ok-Some.ensures in
    let said : IsAreaOver c.args.world.now.frame c.args.boxed.now.zoom c.args.boxed.now.ground
    (option_map string_bytes (Some c.in-Ok-Some.area)) = rw c.in-Ok-Some.field-0-is at told in
    inl (record {
      rect = said.0;
      covered = said.1.0;
      least = said.1.1;
      area = c.as_str.result;
      says = c.as_str.ensures.value ∙ said.2;
      ordered = c.lend_area-ending.ensures;
      hinted = λ w stands. c.hint_after-hint.ensures w stands;
    })
