-- No number has a fraction.
use Rattle.view_json.proofs.Unfloated.{place_has_none, written}
use Rattle.view_json.proofs.ways.place_text.Goals as goal

pub returns : goal.returns
returns c = written _ _ _ c.in_ok-value.ensures (place_has_none c.args.place) c.in_ok-text.ensures.text
