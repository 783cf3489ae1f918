-- The key is put in, where it fits.
use Rattle.std.proofs.Common.{rules, ◌≡◌, ◌∙◌, ap, true}
use Rattle.std.specs.Prelude.{◌||◌, bytes_eq}
use Rattle.std.specs.Ordering.{nat_cmp}
use Rattle.std.specs.Cmp.Lexicographic.{slice_cmp}
use Rattle.std.specs.BTreeSet.{contains}
use Rattle.field_changes.proofs.Sets.{put_in}
use Rattle.field_faults.proofs.Places.{where_fit}
use Rattle.field_faults.proofs.lines.note_key.Goals as goal

pub returns : goal.returns
returns c = λ q.
    let fit : c.args.fits ≡ true = search rules in
    put_in c.args.places.now c.insert.new.self c.args.key c.in_ok-insert.ensures.updates q
    ∙ ap (λ b. contains (slice_cmp nat_cmp) c.args.places.now q || b)
    (where_fit (bytes_eq c.args.key q) c.args.fits fit)
