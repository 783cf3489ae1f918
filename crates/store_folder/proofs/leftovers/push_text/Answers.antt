-- The text is the name.
use Rattle.std.proofs.Common.{rules, ◌≡◌, inr}
use Rattle.std.specs.Prelude.{string_bytes}
use Rattle.store_folder.proofs.leftovers.push_text.Goals as goal

pub returns-in_ok-push : goal.returns-in_ok-push
returns-in_ok-push c =
    let named : string_bytes c.in_ok-from_str.field-0 ≡ c.args.name.now = search rules in
    inr (c.in_ok-from_str.field-0, c.in_ok-push.ensures.items, named)
