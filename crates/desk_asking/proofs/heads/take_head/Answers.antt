-- A status line, and the fields behind it.
use Rattle.std.proofs.Common.{◌≡◌, ◌∙◌, codes, nat_eq, rules, subst, sym, true}
use Rattle.std.specs.List.{starts_with}
use Rattle.desk_asking.proofs.Copying.{head_of}
use Rattle.desk_asking.proofs.heads.take_head.Goals as goal

pub returns : goal.returns
returns g c =
    let front : c.as_slice-2.result.now ≡ codes "HTTP/1.1 200 " = search rules in
    let whole : c.as_slice.result.now ≡ c.in_ok-status.status.items = search rules in
    let begins : starts_with nat_eq c.as_slice.result.now c.as_slice-2.result.now ≡ true =
    sym c.starts_with.ensures.value ∙ c.if-not-starts_with.false in
    let good : starts_with nat_eq c.in_ok-status.status.items (codes "HTTP/1.1 200 ") ≡ true =
    subst (λ s. starts_with nat_eq s (codes "HTTP/1.1 200 ") ≡ true) whole
    (subst (λ n. starts_with nat_eq c.as_slice.result.now n ≡ true) front begins) in
    head_of _ _ _ c.in_ok-status.status.items c.in_ok-status.ensures good c.in_ok-take_fields.ensures
