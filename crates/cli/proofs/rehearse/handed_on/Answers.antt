-- The import, and the packages after it; the stores are in memory, and so always clean.
use Rattle.std.proofs.Common.{◌∙◌, sym, subst, slice_index_or}
use Rattle.sheet_types.specs.World.{new_world}
use Rattle.cli.specs.Rehearsals.{Rehearses}
use Rattle.cli.proofs.Rehearsing.{never_done, import_ended, all_handed, packages_failed}
use Rattle.cli.proofs.rehearse.handed_on.Goals as goal

pub returns-in-Err-carry_out : goal.returns-in-Err-carry_out
returns-in-Err-carry_out g c = λ clean text list. (
  λ e. never_done c.in-Err-carry_out.fault (sym c.end_of_import.ensures ∙ e),
  subst (Rehearses (new_world c.args.rehearsal.now.archive c.args.rehearsal.now.frame) text c.args.writer.now
      c.carry_out.new.writer (g.W.Write.contents c.args.writer.now) (g.W.Write.contents c.carry_out.new.writer))
      (sym c.end_of_import.ensures)
      (import_ended _ clean g.W.Write.contents (new_world c.args.rehearsal.now.archive c.args.rehearsal.now.frame)
      text c.in-Ok.world c.carry_out.new.world
      (c.in-Ok.ensures (λ k d within. clean (slice_index_or c.in-Ok.world.members k d).conn)) _ _ c.args.writer.now
      c.carry_out.new.writer c.in-Err-carry_out.fault (c.in-Err-carry_out.ensures.imported text list)),
)

pub returns-in-Ok-write_packages : goal.returns-in-Ok-write_packages
returns-in-Ok-write_packages g c = λ clean text list.
    all_handed _ clean g.W.Write.contents (new_world c.args.rehearsal.now.archive c.args.rehearsal.now.frame) text
    c.in-Ok.world c.carry_out.new.world
    (c.in-Ok.ensures (λ k d within. clean (slice_index_or c.in-Ok.world.members k d).conn)) c.args.writer.now
    c.write_packages.new.writer _ _ (g.W.Write.contents c.args.writer.now)
    (g.W.Write.contents c.carry_out.new.writer) (g.W.Write.contents c.write_packages.new.writer) c.args.writer.now
    c.carry_out.new.writer c.in_default.field-0 (c.in_default.ensures.imported text list)
    c.write_packages.new.world c.in-Ok-write_packages.field-0 c.in-Ok-write_packages.ensures.stands
    c.in-Ok-write_packages.ensures.written

pub returns-in-Err-write_packages : goal.returns-in-Err-write_packages
returns-in-Err-write_packages g c = λ clean text list. (
  λ h. let e = h in cc,
  packages_failed _ clean g.W.Write.contents (new_world c.args.rehearsal.now.archive c.args.rehearsal.now.frame) text
      c.in-Ok.world c.carry_out.new.world
      (c.in-Ok.ensures (λ k d within. clean (slice_index_or c.in-Ok.world.members k d).conn)) c.args.writer.now
      c.write_packages.new.writer _ _ (g.W.Write.contents c.args.writer.now)
      (g.W.Write.contents c.carry_out.new.writer) (g.W.Write.contents c.write_packages.new.writer)
      c.args.writer.now c.carry_out.new.writer c.in_default.field-0 (c.in_default.ensures.imported text list)
      c.write_packages.new.world c.in-Err-write_packages.failure c.in-Err-write_packages.ensures.written,
)
