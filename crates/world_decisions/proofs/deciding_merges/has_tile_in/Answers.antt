-- The look at the one member is its store's turn, and the package is that of the place.
use Rattle.std.proofs.Common.{◌≡◌, ◌∙◌, ap, Some, slice_get, refl}
use Rattle.std.specs.List.{list_any}
use Rattle.std.proofs.lemmas.Int.{to_z-of_z}
use Rattle.std.proofs.lemmas.Option.{slice_get_read}
use Rattle.sheet_types.specs.Refuse.{is_at}
use Rattle.sheet_types.specs.World.{Package}
use Rattle.world_queries.proofs.AskedOne.{looked_at}
use Rattle.world_decisions.proofs.deciding_merges.has_tile_in.Goals as goal

pub returns : goal.returns
returns g c =
    let place : slice_get c.args.members.now.items c.args.at ≡ Some c.index_mut-member.result.now =
    slice_get_read _ _ _ _ refl c.requires.within c.index_mut-member.ensures.value in
    let looks = simp (to_z-of_z, c.ranges.zoom, c.ranges.column, c.ranges.row) at c.has_tile_at.ensures in
    looked_at g.S.Store g.met.S.Store.shut_if_dirty g.met.S.Store.settled
    (λ f p found. found ≡ list_any (λ i. is_at c.args.zoom c.args.column c.args.row i.content) p.items)
    c.args.members.now.items _ c.args.at c.has_tile_at.result
    (record {
      was = c.index_mut-member.result.now;
      place = place;
      last = c.has_tile_at.new.conn;
      others = refl;
      turned = looks;
    }) c.requires.rests
    (λ found w p here told q there. let same : p ≡ q = cc in told
    ∙ ap (λ (x : Package). list_any (λ i. is_at c.args.zoom c.args.column c.args.row i.content) x.items) same)
