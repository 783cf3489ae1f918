-- Its package has a member or has none.
use Rattle.std.proofs.Common.{◌≡◌, ◌∙◌, subst, sym, ap, Some, None, ℕ, List, true, false}
use Rattle.std.specs.Bool.{then_some}
use Rattle.sheet_types.specs.Answers.{holdings_answer}
use Rattle.sheet_types.specs.World.{World, is_live, holdings}
use Rattle.sheet_types.specs.declared.command.Item.{Item}
use Rattle.sheet_types.specs.declared.command.Relation.{Relation}
use Rattle.world_members.specs.Members.{AreMembers}
use Rattle.world_queries.proofs.Questions.{asks_answer, asks_failed, asks_still}
use Rattle.world.proofs.reading.holdings_in.Goals as goal

live_answer : (w : World) (id : List ℕ) (items : List Item) (links : List Relation) → is_live w id ≡ true
    → items ≡ (holdings w id).items → links ≡ (holdings w id).links
    → Some (items, links) ≡ holdings_answer w id
live_answer w id items links live same_items same_links =
    ap (λ is. Some (is, links)) same_items ∙ ap (λ ls. Some ((holdings w id).items, ls)) same_links
    ∙ ap (λ b. then_some b ((holdings w id).items, (holdings w id).links)) (sym live)

dead_answer : (w : World) (id : List ℕ) → is_live w id ≡ false → None ≡ holdings_answer w id
dead_answer w id dead = ap (λ b. then_some b ((holdings w id).items, (holdings w id).links)) (sym dead)

pub returns-in-None : goal.returns-in-None
returns-in-None g c =
    asks_still g.S.Store g.met.S.Store.shut_if_dirty g.met.S.Store.settled c.requires
    (λ w count are. dead_answer w c.args.package (c.in-None.ensures.dead w count
    (subst (λ ms. AreMembers g.S.Store ms count w) (sym c.as_slice.ensures.value) are)))

pub returns-in_ok-holdings_at-in-Some : goal.returns-in_ok-holdings_at-in-Some
returns-in_ok-holdings_at-in-Some g c =
    asks_answer g.S.Store {x = c.in_ok-holdings_at-in-Some.field-0} c.in_ok-holdings_at-in-Some.was
    (λ w count are told.
    let there : AreMembers g.S.Store c.as_slice.result.now count w =
    subst (λ ms. AreMembers g.S.Store ms count w) (sym c.as_slice.ensures.value) are in
    let same = told (holdings w c.args.package) (c.in-Some.ensures.holds w count there) in
    live_answer w c.args.package _ _ (c.in-Some.ensures.live w count there) same.0 same.1) c.holdings_at.ensures

pub returns-in_err-holdings_at-in-Some : goal.returns-in_err-holdings_at-in-Some
returns-in_err-holdings_at-in-Some g c = asks_failed g.S.Store _ c.from_residual.ensures.0 c.holdings_at.ensures
