-- The text so far and that of the packages to come are the whole text.
use Rattle.std.proofs.Common.{◌≡◌, ◌++◌, drop, map}
use Rattle.serde_json.specs.View.{items_of}
use Rattle.serde_json.specs.Written.{items_text}
use Rattle.desk_replies.specs.Bodies.{list_text, listed_data, loans_among}
use Rattle.desk_replies.proofs.packages.list_body.Given as goal

abbrev pub invariant-packages : goal.invariant-packages
invariant-packages l = record {
  text : l.body.items ++ items_text l.is_later
      (items_of (map (λ p. listed_data p (loans_among l.packages p.uuid)) (drop l.package-index l.packages)))
      ≡ list_text l.packages;
}
