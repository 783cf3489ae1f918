use Rattle.std.proofs.Common.{rules, ◌≡◌, ◌∙◌, ◌++◌, Some, option_map, ap, sym}
use Rattle.command_faults.specs.Texts.{fault_text}
use Rattle.view_fault.specs.Pages.{page_text, place_of}
use Rattle.view_fault.proofs.pages.page_of.Goals as goal

pub returns : goal.returns
returns c =
    let found = c.in-Some.found in
    let place : place_of c.args.fault.now ≡ Some found = search rules in
    let whole = rw (c.as_str.ensures.value, c.in_ok-known.ensures) at c.in_ok-put_page.ensures in
    let text = whole ∙ ap (λ t. t ++ page_text found (fault_text c.args.fault.now)) c.new-text.ensures.bytes in
    ap (λ t. Some t) text ∙ sym (ap (λ o. option_map (λ n. page_text n (fault_text c.args.fault.now)) o) place)
