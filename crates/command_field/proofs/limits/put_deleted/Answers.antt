-- The identity that is deleted is put in; of another request nothing is.
use Rattle.std.proofs.Common.{◌∙◌, sym, ap, ◌||◌}
use Rattle.std.specs.Ordering.{nat_cmp}
use Rattle.std.specs.Cmp.Lexicographic.{slice_cmp}
use Rattle.std.specs.BTreeSet.{contains}
use Rattle.sheet_types.specs.Ordered.{is_among}
use Rattle.sheet_types.proofs.Basics.{or-false}
use Rattle.field_changes.proofs.Sets.{put_in}
use Rattle.field_home_laws.specs.Free.{deleted}
use Rattle.command_field.proofs.limits.put_deleted.Goals as goal

pub returns-in_ok-insert : goal.returns-in_ok-insert
returns-in_ok-insert c = λ id.
    put_in c.args.gone.now c.insert.new.self c.in-Delete.identity c.in_ok-insert.ensures.updates id
    ∙ ap (λ b. contains (slice_cmp nat_cmp) c.args.gone.now id || b)
    (sym (ap (λ k. is_among (deleted k) id) c.in-Delete.is ∙ or-false _))
