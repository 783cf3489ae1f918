-- A tile comes to a place of the frame that no tile of the package has.
use Rattle.std.proofs.Common.{◌∙◌}
use Rattle.std.proofs.lemmas.Int.{to_z-of_z}
use Rattle.world_members.proofs.Seeing.{seen, judges, judges_still}
use Rattle.world_members.proofs.FirstRows.{IsTaken, no_place, a_place}
use Rattle.world_queries.proofs.judging.refusal_of_tile.Goals as goal

pub returns-then-not-has_place : goal.returns-then-not-has_place
returns-then-not-has_place g c =
    let place = simp (to_z-of_z, c.ranges.zoom, c.ranges.column, c.ranges.row) at c.has_place.ensures in
    judges_still g.S.Store g.met.S.Store.shut_if_dirty g.met.S.Store.settled c.args.conn.now c.requires.rests
    (λ f p same. no_place f c.args.frame.now p c.args.zoom c.args.column c.args.row c.has_place.result place
    c.if-not-has_place.true same)

pub returns : goal.returns
returns g c =
    let place = simp (to_z-of_z, c.ranges.zoom, c.ranges.column, c.ranges.row) at c.has_place.ensures in
    let taken = simp (to_z-of_z, c.ranges.zoom, c.ranges.column, c.ranges.row) at c.has_tile_at.ensures in
    judges (seen (IsTaken c.args.zoom c.args.column c.args.row) c.in_ok-taken.was taken)
    (λ f p reads told same. c.then_some.ensures ∙ a_place f c.args.frame.now p c.args.zoom c.args.column c.args.row
    c.has_place.result c.in_ok-taken.taken place c.if-not-has_place.false told same)
