-- The packages, one after the other, and the strays.
use Rattle.std.proofs.Common.{◌++◌, ◌∷◌, [], arith, map, subst, take}
use Rattle.std.proofs.lemmas.List.{take_all}
use Rattle.view_json.specs.Arrays.{IsOpen}
use Rattle.view_json.specs.Packages.{package_data, strays_data}
use Rattle.view_json.proofs.Opened.{one_more}
use Rattle.view_json.proofs.packages.status_json.Goals as goal

pub loop-row-preserved : goal.loop-row-preserved
loop-row-preserved c =
    one_more package_data c.args.rows.now c.loop-row.row-index c.row-item.result _ c.loop-row-test.true c.row-item.is
    (c.in_ok-put_package.ensures (map package_data (take c.loop-row.row-index c.args.rows.now)) c.loop-row.invariant)

pub returns : goal.returns
returns c =
    let all = subst (λ rows. IsOpen (map package_data rows) c.loop-row.lines)
    (take_all c.loop-row.row-index c.args.rows.now (omega (arith, c.loop-row-test.false))) c.loop-row.invariant in
    c.in_ok-text.ensures (map package_data c.args.rows.now ++ strays_data c.args.strays ∷ [])
    (c.in_ok-put_strays.ensures (map package_data c.args.rows.now) all)
