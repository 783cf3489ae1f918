-- The sums stand where they were put, and those of the members everywhere else.
use Rattle.std.proofs.Common.{◌≡◌, ◌<◌, ◌∙◌, refl, ap, Some, map, length, slice_get, arith}
use Rattle.std.specs.Option.{option_map}
use Rattle.std.proofs.lemmas.List.{length-map}
use Rattle.std.proofs.lemmas.Option.{slice_get_read, slice_get-map}
use Rattle.world_queries.specs.TooMany.{sums_with}
use Rattle.world_members.specs.declared.members.Member.{Member}
use Rattle.world_queries.proofs.Overfull.{get_set_same, get_set_other}
use Rattle.world_queries.proofs.too_many.sums_at.Goals as goal

pub returns-then-place-at : goal.returns-then-place-at
returns-then-place-at g c =
    let long : length (map (λ (m : Member g.row.S.Denot). m.sums) c.args.members.now) ≡ length c.args.members.now =
    length-map c.args.members.now (λ (m : Member g.row.S.Denot). m.sums) in
    let here : c.args.at < length (map (λ (m : Member g.row.S.Denot). m.sums) c.args.members.now) =
    omega (arith, long, c.if-place-at.true, c.requires.within) in
    ap (slice_get (sums_with c.args.members.now c.args.at c.args.sums)) c.if-place-at.true
    ∙ get_set_same (map (λ (m : Member g.row.S.Denot). m.sums) c.args.members.now) c.args.at c.args.sums here

pub returns : goal.returns
returns g c =
    let place : slice_get c.args.members.now c.args.place ≡ Some c.index-members-place.result =
    slice_get_read _ _ _ _ refl c.requires.within c.index-members-place.is in
    get_set_other (map (λ (m : Member g.row.S.Denot). m.sums) c.args.members.now) c.args.at c.args.place c.args.sums
    c.if-place-at.false
    ∙ slice_get-map (λ (m : Member g.row.S.Denot). m.sums) c.args.members.now c.args.place
    ∙ ap (option_map (λ (m : Member g.row.S.Denot). m.sums)) place
    ∙ ap (λ (m : Member g.row.S.Denot). Some m.sums) c.index-members-place.is
