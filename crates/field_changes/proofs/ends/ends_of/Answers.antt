-- The last of a number stands for it.
use Rattle.std.proofs.Common.{rules, FitsSigned, w64, ◌≡◌, ◌∙◌, ap, sym, take, bytes_eq, Some, cond, arith}
use Rattle.std.specs.Prelude.{option_map}
use Rattle.std.specs.Ordering.{nat_cmp}
use Rattle.std.specs.Cmp.Lexicographic.{slice_cmp}
use Rattle.std.specs.BTreeMap.{get}
use Rattle.std.proofs.lemmas.Int.{to_z-of_z}
use Rattle.std.proofs.lemmas.List.{take_all}
use Rattle.sheet_types.specs.Ordered.{last_where}
use Rattle.field_changes.specs.Keys.{number_key}
use Rattle.field_changes.proofs.Sets.{at_key, one_more}
use Rattle.field_changes.proofs.Lasts.{last_snoc}
use Rattle.field_changes.proofs.ends.ends_of.Goals as goal

pub loop-name-preserved : goal.loop-name-preserved
loop-name-preserved c = λ q.
    let i = c.loop-name.name-index in
    let n = c.name-item.result in
    let fits : FitsSigned w64 n.number = search rules in
    let key = simp (to_z-of_z, fits) at c.of.ensures in
    at_key c.loop-name.ends c.insert.new.self c.of.result (Some n.identity) c.in_ok-insert.ensures.updates q
    ∙ ap (λ k. cond (bytes_eq k q) (Some n.identity) (get (slice_cmp nat_cmp) c.loop-name.ends q)) key
    ∙ ap (λ o. cond (bytes_eq (number_key n.kind n.number) q) (Some n.identity) o) (c.loop-name.invariant q)
    ∙ sym (last_snoc (λ m. m.identity) (λ m. bytes_eq (number_key m.kind m.number) q) (take i c.args.names.now) n)
    ∙ ap (λ l. option_map (λ m. m.identity) (last_where (λ m. bytes_eq (number_key m.kind m.number) q) l))
    (sym (one_more c.args.names.now i n c.loop-name-test.true c.name-item.is))

pub returns : goal.returns
returns c = λ kind number.
    c.loop-name.invariant (number_key kind number)
    ∙ ap (λ l. option_map (λ m. m.identity) (last_where (λ m. bytes_eq (number_key m.kind m.number)
    (number_key kind number)) l)) (take_all c.loop-name.name-index c.args.names.now
    (omega (arith, c.loop-name-test.false)))
