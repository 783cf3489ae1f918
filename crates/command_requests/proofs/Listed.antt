-- What is listed of packages and of their items, one after the other.
use Rattle.std.proofs.Common.{◌≡◌, ◌∙◌, ◌<◌, ◌+◌, ◌++◌, ◌∷◌, [], ℕ, List, Some}
use Rattle.std.proofs.Common.{unwrap_or, Bool, true, false, refl}
use Rattle.std.proofs.Common.{ap, sym, length, take, get_or, map}
use Rattle.std.specs.Bool.{then_some}
use Rattle.std.specs.Prelude.{flat_map}
use Rattle.std.proofs.lemmas.List.{append-nil, map-append, take_more}
use Rattle.std.proofs.lemmas.Grind.{flat_map-append}
use Rattle.sheet_types.specs.Answers.{PackageSight as ModelSight, holdings_answer, package_sights}
use Rattle.sheet_types.specs.World.{World, holdings, is_live}
use Rattle.sheet_types.specs.declared.command.Item.{Item}
use Rattle.sheet_types.specs.declared.command.Relation.{Relation}
use Rattle.command_verbs.specs.Names.{sight}
use Rattle.command_verbs.specs.declared.items.ItemEntry.{ItemEntry}
use Rattle.command_verbs.specs.declared.names.PackageEntry.{PackageEntry}
use Rattle.world.specs.Reading.{sight_of}
use Rattle.world.specs.declared.reading.PackageSight.{PackageSight}
use Rattle.command_requests.specs.Listing.{entry_of, item_entry, items_under, world_items}

-- the entries of packages in the words of the model
pub as_listed : (sights : List PackageSight) → map sight (map entry_of sights) ≡ map sight_of sights
as_listed [] = refl
as_listed (s ∷ sights) = ap (λ l. sight_of s ∷ l) (as_listed sights)

items_held : (b : Bool) (held : List Item × List Relation) (items : List Item) (links : List Relation)
    → Some (items, links) ≡ then_some b held → items ≡ held.0
items_held true held items links e = ap (λ o. (unwrap_or o held).0) e
items_held false held items links e = absurd (cc)

-- the items that were found are those of the package
pub held_items : (w : World) (p : List ℕ) (items : List Item) (links : List Relation)
    → Some (items, links) ≡ holdings_answer w p → items ≡ (holdings w p).items
held_items w p items links found = items_held (is_live w p) ((holdings w p).items, (holdings w p).links) items links
    found

-- so are their entries
pub items_found : (w : World) (p : List ℕ) (items : List Item) (links : List Relation) (entries : List ItemEntry)
    → Some (items, links) ≡ holdings_answer w p
    → entries ≡ map (item_entry p) items → entries ≡ items_under w p
items_found w p items links entries found is =
    is ∙ ap (map (item_entry p)) (held_items w p items links found)

flat_behind : {X Y : Type 0} (f : X → List Y) (xs : List X) (x : X)
    → flat_map f (xs ++ x ∷ []) ≡ flat_map f xs ++ f x
flat_behind f xs x = flat_map-append f xs (x ∷ []) ∙ ap (λ l. flat_map f xs ++ l) (append-nil (f x))

-- ---- up to a place of a list

pub map_more : {X Y : Type 0} (f : X → Y) (xs : List X) (i : ℕ) (x : X) (so_far : List Y) → i < length xs
    → x ≡ get_or xs i x
    → so_far ≡ map f (take i xs) → so_far ++ f x ∷ [] ≡ map f (take (i + 1) xs)
map_more f xs i x so_far within is e =
    ap (λ l. l ++ f x ∷ []) e ∙ sym (map-append f (take i xs) (x ∷ []))
    ∙ ap (map f) (ap (λ z. take i xs ++ z ∷ []) is ∙ sym (take_more xs i x within))

pub flat_more : {X Y : Type 0} (f : X → List Y) (xs : List X) (i : ℕ) (x : X) (so_far more : List Y)
    → i < length xs
    → x ≡ get_or xs i x
    → so_far ≡ flat_map f (take i xs) → more ≡ f x → so_far ++ more ≡ flat_map f (take (i + 1) xs)
flat_more f xs i x so_far more within is e here =
    ap (λ l. l ++ more) e ∙ ap (λ l. flat_map f (take i xs) ++ l) here ∙ sym (flat_behind f (take i xs) x)
    ∙ ap (flat_map f) (ap (λ z. take i xs ++ z ∷ []) is ∙ sym (take_more xs i x within))

-- the items of packages that were listed are those of all live ones
flat_listed : (w : World) (entries : List PackageEntry) → flat_map (λ p. items_under w p.uuid) entries
    ≡ flat_map (λ (s : ModelSight). items_under w s.uuid) (map sight entries)
flat_listed w [] = refl
flat_listed w (e ∷ entries) = ap (λ l. items_under w e.uuid ++ l) (flat_listed w entries)

pub all_items : (w : World) (entries : List PackageEntry) (items : List ItemEntry)
    → map sight entries ≡ package_sights w
    → items ≡ flat_map (λ p. items_under w p.uuid) entries → items ≡ world_items w
all_items w entries items are e = e ∙ flat_listed w entries ∙ ap
    (flat_map (λ (s : ModelSight). items_under w s.uuid))
    are
