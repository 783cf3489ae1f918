-- The map is asked at the key of the place.
use Rattle.std.proofs.Common.{rules, ◌≡◌, ◌∙◌, ap, true}
use Rattle.std.specs.Ordering.{nat_cmp}
use Rattle.std.specs.Cmp.Lexicographic.{slice_cmp}
use Rattle.std.specs.BTreeMap.{get}
use Rattle.field_faults.specs.Lines.{has_other}
use mir.Syntax.{w64}
use mir.Val.{SFits}
use Rattle.std.proofs.lemmas.Int.{to_z-of_z}
use Rattle.field_faults.proofs.lines.is_taken_with.Goals as goal

pub returns : goal.returns
returns c = λ items has.
    let more : c.args.more ≡ true = search rules in
    let place = c.args.place in
    let zoom : SFits w64 place.0 = search rules in
    let column : SFits w64 place.1 = search rules in
    let row : SFits w64 place.2 = search rules in
    let key = simp (to_z-of_z, zoom, column, row) at c.place_key.ensures in
    let known = c.copied-known.ensures ∙ c.get.ensures.value
    ∙ ap (get (slice_cmp nat_cmp) c.args.tiles.now) key in
    rw more (c.has_other.ensures ∙ ap (λ k. has_other k c.args.bytes.now) known
    ∙ has more place.0 place.1 place.2 c.args.bytes.now)
