-- The receipts that name the identity, the place, and the end.
use Rattle.std.proofs.Common.{◌++◌, ◌∷◌, [], ap}
use Rattle.view_text.specs.Ways.{place_by}
use Rattle.view_json.specs.Ways.{place_data, way_datas}
use Rattle.view_json.proofs.Opened.{open_same}
use Rattle.view_json.proofs.ways.way_array.Goals as goal

pub returns : goal.returns
returns c =
    let ways = way_datas c.args.identity c.args.receipts.now in
    c.in_ok-text.ensures (ways ++ place_data (place_by c.args.receipts.now c.args.identity) ∷ [])
    (open_same _ _ _ (ap (λ place. ways ++ place_data place ∷ []) c.place_by.ensures)
    (c.in_ok-put_place.ensures ways (c.in_ok-put_receipts.ensures [] c.in_ok-lines.ensures)))
