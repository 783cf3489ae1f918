-- One item more.
use Rattle.std.proofs.Common.{◌≡◌, ◌≤◌, ◌∙◌, ap, sym, subst, take, length, is_ok, [], ◌∷◌}
use Rattle.std.proofs.Common.{◌++◌, arith}
use Rattle.std.proofs.ResultArms.{chosen}
use Rattle.std.proofs.lemmas.List.{take_all}
use Rattle.field_changes.specs.Naming.{known_as, names_behind}
use Rattle.field_changes.specs.Spare.{IsWalk}
use Rattle.field_changes.proofs.Sets.{one_more}
use Rattle.field_changes.proofs.Counting.{taken_few}
use Rattle.field_changes.proofs.Walking.{names_snoc}
use Rattle.field_changes.proofs.naming.names.Goals as goal

pub next-requires : goal.next-requires
next-requires c =
    let few : length (take c.loop-item.item-index c.args.file.now) ≤ c.loop-item.item-index =
    taken_few c.args.file.now c.loop-item.item-index in (
      c.args.items.now,
      c.args.file.now,
      take c.loop-item.item-index c.args.file.now,
      c.loop-item.invariant.walk,
      omega
          (arith, few),
    )

pub loop-item-preserved : goal.loop-item-preserved
loop-item-preserved c =
    let i = c.loop-item.item-index in
    let p = c.args.«package» in
    let n = c.args.ticket in
    let items = c.args.items.now in
    let file = c.args.file.now in
    let more = one_more file i c.item-item.result c.loop-item-test.true c.item-item.is in
    let name = c.in_ok-name.ensures.name items file (take i file) c.loop-item.invariant.walk in
    record {
      names = chosen _ _ _ _ c.push.ensures.items (ap is_ok c.in_ok-push.was)
          ∙ ap (λ l. l ++ c.in_ok-known.known ∷ []) c.loop-item.invariant.names
          ∙ ap (λ k. names_behind p n items file [] (take i file) ++ k ∷ [])
          (c.in_ok-known.ensures ∙ ap (known_as p n c.item-item.result) name)
          ∙ sym (names_snoc p n items file [] (take i file) c.item-item.result)
          ∙ ap (names_behind p n items file []) (sym more);
      walk = subst (λ l. IsWalk items file l c.next.new.self) (sym more)
          (c.in_ok-name.ensures.walk items file (take i file) c.loop-item.invariant.walk);
    }

pub returns : goal.returns
returns c =
    c.loop-item.invariant.names
    ∙ ap (names_behind c.args.«package» c.args.ticket c.args.items.now c.args.file.now [])
    (take_all c.loop-item.item-index c.args.file.now (omega (arith, c.loop-item-test.false)))
