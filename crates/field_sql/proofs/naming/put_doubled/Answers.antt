-- A part and a pair came, and then the last part.
use Rattle.std.proofs.Common.{◌∙◌, ◌++◌, ap, rules, sym}
use Rattle.std.specs.Prelude.{string_bytes}
use Rattle.std.proofs.lemmas.Str.Pattern.{split_parts}
use Rattle.field_sql.proofs.Doubled.{doubled_none, part_put}
use Rattle.field_sql.proofs.naming.put_doubled.Goals as goal

pub parts-preserved : goal.parts-preserved
parts-preserved c =
    let l = c.parts in
    let mark = c.args.mark in
    let cut = rw c.in-Some.is at (split_parts mark l.rest.now c.split_once.result c.split_once.ensures.cases
    c.requires.low) in (
      part_put mark (string_bytes l.text) _ _ c.args.pair.now l.rest.now c.in-Some.part.now c.in-Some.more.now
          c.in_ok-push_str.ensures.bytes c.in_ok-push_str-2.ensures.bytes c.requires.pair cut.0 cut.1 ∙ l.invariant.0,
      search rules,
    )

pub returns : goal.returns
returns c =
    let l = c.parts in
    let none = rw c.in_default.is at (split_parts c.args.mark l.rest.now c.split_once.result
    c.split_once.ensures.cases c.requires.low) in
    c.in_ok-push_str-3.ensures.bytes ∙ ap (λ t. string_bytes l.text ++ t)
    (sym (doubled_none c.args.mark l.rest.now none)) ∙ l.invariant.0
