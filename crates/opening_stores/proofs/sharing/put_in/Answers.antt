-- Behind those that come before it.
use Rattle.std.proofs.Common.{sym, ap, ◌∙◌}
use Rattle.std.specs.Prelude.{count_by}
use Rattle.std.specs.List.{insert}
use Rattle.sheet_types.specs.Ordered.{is_before}
use Rattle.opening_verdict.proofs.Sorting.{put_counted}
use Rattle.opening_stores.specs.Sharing.{member_key}
use Rattle.opening_stores.proofs.sharing.put_in.Goals as goal

pub returns-clause-items : goal.returns-clause-items
returns-clause-items g c =
    c.insert_reserved.ensures.items
    ∙ ap (λ n. insert c.args.members.now.items n c.args.member)
    (c.place_for-place.ensures.place ∙ ap (count_by (λ m. is_before m.uuid c.args.member.uuid))
    c.as_slice.ensures.value)
    ∙ sym (put_counted member_key c.args.member c.args.members.now.items c.requires.order)
