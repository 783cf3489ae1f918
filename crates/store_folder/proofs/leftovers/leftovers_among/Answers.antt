-- One text more that is so, or none.
use Rattle.std.proofs.Common.{◌≤◌, ap, arith, length, map, subst, sym}
use Rattle.std.specs.Prelude.{Contains, string_bytes}
use Rattle.std.proofs.lemmas.List.{take_all}
use Rattle.std.proofs.lemmas.List.Elements.{All-same}
use Rattle.store_folder.specs.Leftovers.{IsLeftover, Tells}
use Rattle.store_folder.proofs.Beside.{push_so, shown_here, told_passed, told_pushed}
use Rattle.store_folder.proofs.leftovers.leftovers_among.Goals as goal
use Rattle.store_folder.proofs.leftovers.leftovers_among.Goals.{then-is_leftover+in_ok-push_text, else-is_leftover}

pub loop-name-preserved : goal.loop-name-preserved
loop-name-preserved c =
    let names = map (λ name. name.now) c.args.names.now in
    elim c.if-is_leftover.branch [
      | then-is_leftover+in_ok-push_text w ↦ (
        All-same (λ text. IsLeftover c.args.packages.now (string_bytes text)) _ _ (ap (λ v. v.items) w.found-is)
            (push_so (IsLeftover c.args.packages.now) _ c.loop-name.found.items w.push_text.new.texts.items
            w.in_ok-push_text.ensures (c.is_leftover.ensures.left w.if-is_leftover.true) c.loop-name.invariant.0),
        All-same (λ text. Contains names (string_bytes text)) _ _ (ap (λ v. v.items) w.found-is)
            (push_so (Contains names) _ c.loop-name.found.items w.push_text.new.texts.items
            w.in_ok-push_text.ensures
            (shown_here (λ name. name.now) c.args.names.now c.loop-name.name-index _ c.loop-name-test.true)
            c.loop-name.invariant.1),
        λ name there told. subst (λ texts. Tells texts name) (sym (ap (λ v. v.items) w.found-is))
            (told_pushed (λ name. name.now) c.args.names.now c.loop-name.name-index _ c.args.packages.now
            c.loop-name.found.items w.push_text.new.texts.items c.loop-name-test.true w.in_ok-push_text.ensures
            c.loop-name.invariant.2 name there told),
      )
      | else-is_leftover w ↦ (
        All-same (λ text. IsLeftover c.args.packages.now (string_bytes text)) _ _ (ap (λ v. v.items) w.found-is)
            c.loop-name.invariant.0,
        All-same (λ text. Contains names (string_bytes text)) _ _ (ap (λ v. v.items) w.found-is)
            c.loop-name.invariant.1,
        λ name there told. subst (λ texts. Tells texts name) (sym (ap (λ v. v.items) w.found-is))
            (told_passed (λ name. name.now) c.args.names.now c.loop-name.name-index _ c.args.packages.now
            c.loop-name.found.items c.loop-name-test.true (λ id fit beside alone.
            let yes = c.is_leftover.ensures.all id fit beside alone in
            let other = w.if-is_leftover.false in
            cc (yes, other)) c.loop-name.invariant.2 name there told),
      )
    ]

pub returns-clause-all : goal.returns-clause-all
returns-clause-all c = λ name there told.
    let past : length c.args.names.now ≤ c.loop-name.name-index = omega (arith, c.loop-name-test.false) in
    c.loop-name.invariant.2 name (subst (λ names. Contains (map (λ n. n.now) names) name)
    (sym (take_all c.loop-name.name-index c.args.names.now past)) there) told
