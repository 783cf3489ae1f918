-- No limit is passed; or one is, of a package, of their number or of the receipts.
use Rattle.std.proofs.Common.{◌≡◌, ◌≤◌, ◌<◌, ◌∙◌, ◌+◌, ap, sym, length, false, true, arith}
use Rattle.std.specs.Prelude.{◌&&◌, not, nat_le}
use Rattle.std.proofs.lemmas.Bool.{le-leb, lt-leb}
use Rattle.sheet_types.specs.Refuse.{greatest_packages, greatest_receipts}
use Rattle.world.proofs.Room.{left_of}
use Rattle.world.proofs.knowing.members_have_room.Goals as goal

pub returns-then-any_past_limits : goal.returns-then-any_past_limits
returns-then-any_past_limits g c =
    sym (ap (λ b. not b && nat_le (length c.args.members.now) greatest_packages
    && nat_le (c.args.count + c.args.more) greatest_receipts)
    (sym c.any_past_limits.ensures ∙ c.if-any_past_limits.true))

pub returns-then-members-gt-GREATEST_PACKAGES : goal.returns-then-members-gt-GREATEST_PACKAGES
returns-then-members-gt-GREATEST_PACKAGES g c =
    sym (ap (λ b. not b && nat_le (length c.args.members.now) greatest_packages
    && nat_le (c.args.count + c.args.more) greatest_receipts)
    (sym c.any_past_limits.ensures ∙ c.if-any_past_limits.false)
    ∙ ap (λ b. b && nat_le (c.args.count + c.args.more) greatest_receipts)
    (lt-leb (length c.args.members.now) greatest_packages c.if-members-gt-GREATEST_PACKAGES.true))

pub returns-then-count-gt-GREATEST_RECEIPTS : goal.returns-then-count-gt-GREATEST_RECEIPTS
returns-then-count-gt-GREATEST_RECEIPTS g c =
    let past : greatest_receipts < c.args.count = c.if-count-gt-GREATEST_RECEIPTS.true in
    let over : greatest_receipts < c.args.count + c.args.more = omega (arith, past) in
    sym (ap (λ b. not b && nat_le (length c.args.members.now) greatest_packages
    && nat_le (c.args.count + c.args.more) greatest_receipts)
    (sym c.any_past_limits.ensures ∙ c.if-any_past_limits.false)
    ∙ ap (λ b. b && nat_le (c.args.count + c.args.more) greatest_receipts)
    (le-leb (length c.args.members.now) greatest_packages c.if-members-gt-GREATEST_PACKAGES.false)
    ∙ lt-leb (c.args.count + c.args.more) greatest_receipts over)

pub returns : goal.returns
returns g c =
    sym (ap (λ b. not b && nat_le (length c.args.members.now) greatest_packages
    && nat_le (c.args.count + c.args.more) greatest_receipts)
    (sym c.any_past_limits.ensures ∙ c.if-any_past_limits.false)
    ∙ ap (λ b. b && nat_le (c.args.count + c.args.more) greatest_receipts)
    (le-leb (length c.args.members.now) greatest_packages c.if-members-gt-GREATEST_PACKAGES.false)
    ∙ sym (left_of c.args.count c.args.more greatest_receipts c.if-count-gt-GREATEST_RECEIPTS.false))
