-- The text of a list, a package at a time, and the list of a world.
use Rattle.std.proofs.Common.{◌≡◌, ◌<◌, ◌+◌, ◌∙◌, ℕ, Bool, true, List, [], ◌∷◌, ◌++◌}
use Rattle.std.proofs.Common.{length, map, drop, get_or}
use Rattle.std.proofs.Common.{count_by, cond, refl, sym, ap}
use Rattle.std.proofs.lemmas.List.{append_assoc, drop_more}
use Rattle.serde_json.specs.Data.{array}
use Rattle.serde_json.specs.View.{items_of}
use Rattle.serde_json.specs.Written.{comma_if, compact_text, items_text}
use Rattle.sheet_types.proofs.Sums.{count-cons}
use Rattle.sheet_types.specs.Answers.{loans_of}
use Rattle.sheet_types.specs.Custody.{ends_at}
use Rattle.sheet_types.specs.World.{World, Package}
use Rattle.desk_replies.specs.Bodies.{all_listed, listed, listed_data, loans_among}
use Rattle.desk_replies.specs.Responses.{list_response, packages_response, good_response}
use Rattle.desk_replies.specs.declared.packages.Listed.{Listed}

-- the text of one package more
pub list_step : (text new whole : List ℕ) (is_later : Bool) (ps : List Listed) (i : ℕ) (p : Listed) (loans : ℕ)
    → i < length ps → p ≡ get_or ps i p → loans ≡ loans_among ps p.uuid
    → new ≡ text ++ (comma_if is_later ++ compact_text (listed_data p loans))
    → text ++ items_text is_later (items_of (map (λ x. listed_data x (loans_among ps x.uuid)) (drop i ps))) ≡ whole
    → new ++ items_text true (items_of (map (λ x. listed_data x (loans_among ps x.uuid)) (drop (i + 1) ps)))
    ≡ whole
list_step text new whole is_later ps i p loans within is counted grown so_far =
    let comma = comma_if is_later in
    let one = compact_text (listed_data p loans) in
    let rest = drop (i + 1) ps in
    let after = items_text true (items_of (map (λ x. listed_data x (loans_among ps x.uuid)) rest)) in
    let here : drop i ps ≡ p ∷ rest = drop_more ps i p within ∙ ap (λ x. x ∷ rest) (sym is) in
    let whole_text : List Listed → List ℕ = λ xs. text ++ items_text is_later
    (items_of (map (λ x. listed_data x (loans_among ps x.uuid)) xs)) in
    ap (λ l. l ++ after) grown ∙ append_assoc text (comma ++ one) after
    ∙ ap (λ l. text ++ l) (append_assoc comma one after)
    ∙ ap (λ n. text ++ (comma ++ (compact_text (listed_data p n) ++ after))) counted ∙ ap whole_text (sym here)
    ∙ so_far

-- the loans of a package are counted in the list as in the world
loans_told : (w : World) (p : List ℕ) (others : List Package)
    → loans_among (map (listed w) others) p ≡ count_by (λ x. ends_at x.parent p) others
loans_told w p [] = refl
loans_told w p (other ∷ others) =
    count-cons (λ (x : Listed). ends_at x.parent p) (listed w other) (map (listed w) others) (ends_at other.parent p)
    refl ∙ ap (λ n. cond (ends_at other.parent p) 1 0 + n) (loans_told w p others)
    ∙ sym (count-cons (λ (x : Package). ends_at x.parent p) other others (ends_at other.parent p) refl)

packages_told : (w : World) (ps : List Package)
    → items_of (map (λ p. listed_data p (loans_among (all_listed w) p.uuid)) (map (listed w) ps))
    ≡ items_of (map (λ p. listed_data (listed w p) (loans_of w p.uuid)) ps)
packages_told w [] = refl
packages_told w (p ∷ ps) = rw (loans_told w p.uuid w.packages, packages_told w ps) refl

-- the list of a world's packages is the world's list
pub world_told : (w : World) (ps : List Listed) → ps ≡ all_listed w → list_response ps ≡ packages_response w
world_told w ps same = ap list_response same ∙ ap (λ items. good_response (compact_text (array items)))
    (packages_told w w.packages)
