-- No object has a number with a fraction, so each has one text.
use Rattle.std.proofs.Common.{◌≡◌, ◌∙◌, ℕ, List, refl, ap}
use Rattle.std.specs.Prelude.{Bool, ◌||◌, false, Option, Some, None, option_map}
use Rattle.serde_json.specs.Data.{Data}
use Rattle.serde_json.specs.Written.{compact_text, has_float}
use Rattle.sheet_types.specs.Texts.{uuid_text}
use Rattle.sheet_types.specs.declared.receipt.Receipt.{Receipt}
use Rattle.view_text.specs.declared.packages.PackageRow.{PackageRow}
use Rattle.view_json.specs.Arrays.{end_data, text_or_null}
use Rattle.view_json.specs.Ledgers.{receipt_data}
use Rattle.view_json.specs.Packages.{package_data}
use Rattle.view_json.specs.Ways.{naming_data, place_data}

text_has_none : (text : Option (List ℕ)) → has_float (text_or_null text) ≡ false
text_has_none None = refl
text_has_none (Some text) = refl

end_has_none : (id : Option (List ℕ)) → has_float (end_data id) ≡ false
end_has_none id = text_has_none (option_map uuid_text id)

-- neither of two members, and none behind them
neither : (a b : Bool) → a ≡ false → b ≡ false → (a || (b || false)) ≡ false
neither a b no_a no_b = ap (λ x. x || (b || false)) no_a ∙ ap (λ x. x || false) no_b

pub package_has_none : (p : PackageRow) → has_float (package_data p) ≡ false
package_has_none p =
    neither (has_float (text_or_null p.changed)) (has_float (end_data p.parent))
    (text_has_none p.changed) (end_has_none p.parent)

pub receipt_has_none : (r : Receipt) → has_float (receipt_data r) ≡ false
receipt_has_none r =
    neither (has_float (end_data r.source)) (has_float (end_data r.target))
    (end_has_none r.source) (end_has_none r.target)

pub naming_has_none : (r : Receipt) (naming : List ℕ) → has_float (naming_data r naming) ≡ false
naming_has_none r naming =
    neither (has_float (end_data r.source)) (has_float (end_data r.target))
    (end_has_none r.source) (end_has_none r.target)

pub place_has_none : (place : Option (List ℕ)) → has_float (place_data place) ≡ false
place_has_none place = ap (λ x. x || false) (end_has_none place)

-- so the text that is written is that of the object
pub written : (text : List ℕ) (d e : Data) → d ≡ e → has_float e ≡ false
    → (has_float d ≡ false → text ≡ compact_text d) → text ≡ compact_text e
written text d e is none so = so (ap has_float is ∙ none) ∙ ap compact_text is
