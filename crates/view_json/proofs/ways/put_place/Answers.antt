-- An object more.
use Rattle.std.proofs.Common.{◌≡◌, rules}
use Rattle.serde_json.specs.Written.{compact_text}
use Rattle.view_json.specs.Ways.{place_data}
use Rattle.view_json.proofs.ways.put_place.Goals as goal

pub returns : goal.returns
returns c =
    let is : c.as_str.result.now ≡ compact_text (place_data c.args.place) = search rules in
    c.in_ok-put_object.ensures (place_data c.args.place) is
