-- The start, the media that its links lead to, and the links of both.
use Rattle.std.proofs.Common.{◌≡◌, ◌∙◌, ◌++◌, ℕ, List, length, length-append, arith, sym, subst, ap}
use Rattle.std.proofs.Common.{ap₂, drop}
use Rattle.std.proofs.Math.Seq.{drop-append_seam}
use Rattle.std.proofs.lemmas.Grind.{flat_map-append}
use Rattle.sheet_types.specs.Ordered.{is_among}
use Rattle.std.specs.Prelude.{flat_map, ◌||◌}
use Rattle.identity_register.specs.Reach.{links_of}
use Rattle.cut.specs.Gathering.{Enters, media_at}
use Rattle.cut.proofs.Asking.{asked, asked_then, answers}
use Rattle.cut.proofs.Strictly.{strict_members}
use Rattle.cut.proofs.gathering.strict.Goals as goal

pub returns-clause-asks : goal.returns-clause-asks
returns-clause-asks g c =
    let start = c.args.start.now in
    let first = c.enter_all.new.self in
    let all = c.enter_all-2.new.self in
    let near = c.in_ok-links.links.items in
    let others = c.in_ok-others.others.items in
    let entered = c.in_ok-enter_all.ensures in
    let same : (id : List ℕ) → is_among first.order.items id ≡ is_among start id =
    λ id. entered.members id ∙ ap (λ l. is_among l id || is_among start id) c.new-items.ensures.empty in
    let media : c.deref-3.result.now ≡ media_at (is_among first.order.items) near =
    c.deref-3.ensures.value ∙ c.in_ok-media.ensures ∙ ap (media_at (is_among first.order.items))
    c.deref-2.ensures.value in
    let more : Enters (media_at (is_among first.order.items) near) first all =
    subst (λ ids. Enters ids first all) media c.in_ok-enter_all-2.ensures in
    let long : c.len-first.result ≡ length first.order.items = omega (arith, c.len-first.ensures) in
    let rest : c.behind.result.now ≡ more.more = c.behind.ensures ∙ ap₂ drop long more.behind
    ∙ drop-append_seam first.order.items more.more in
    answers (asked_then (asked (λ p found. found.items ≡ flat_map (links_of p) c.deref.result.now) c.in_ok-links.was
    c.links_of_each.ensures)
    (asked (λ p found. found.items ≡ flat_map (links_of p) c.behind.result.now) c.in_ok-others.was
    c.links_of_each-2.ensures))
    (λ p both.
    let found : near ≡ flat_map (links_of p) first.order.items =
    both.0 ∙ ap (flat_map (links_of p)) c.deref.ensures.value in
    record {
      members = λ id. more.members id ∙ ap (λ l. is_among first.order.items id || is_among
          (media_at (is_among first.order.items) l) id) found ∙ strict_members p start first.order.items same id;
      links = c.in_ok-extend_from_slice.ensures.items ∙ ap₂ (λ xs ys. xs ++ ys) found
          (c.deref-4.ensures.value ∙ both.1 ∙ ap (flat_map (links_of p)) rest)
          ∙ sym (flat_map-append (links_of p) first.order.items more.more)
          ∙ ap (flat_map (links_of p)) (sym more.behind);
    })

pub behind-requires : goal.behind-requires
behind-requires g c = omega (
  arith,
  c.len-first.ensures,
  ap length c.in_ok-enter_all-2.ensures.behind,
  length-append
      c.enter_all.new.self.order.items c.in_ok-enter_all-2.ensures.more,
)
