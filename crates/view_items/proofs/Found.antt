-- Items found one after the other, and what is kept of them.
use Rattle.std.proofs.Common.{◌≡◌, ◌<◌, ◌≤◌, ◌+◌, ◌∙◌, ◌++◌, ◌∷◌, [], Bool, true}
use Rattle.std.proofs.Common.{false, ℕ, List, Some, unwrap_or, ap}
use Rattle.std.proofs.Common.{arith, get_or, length, map, refl, subst, sym, take, inl, inr}
use Rattle.std.specs.Bool.{then_some}
use Rattle.std.specs.Prelude.{flat_map}
use Rattle.std.proofs.lemmas.List.{flat_map_more, get_or-map, length-map, take_all, take_more}
use Rattle.std.proofs.lemmas.List.Elements.{Contains-get_or}
use Rattle.sqlite.specs.Store.{Ghosts}
use Rattle.sheet_types.proofs.Basics.{some_same}
use Rattle.sheet_types.specs.Answers.{holdings_answer}
use Rattle.sheet_types.specs.World.{Package, World, holdings, is_live, item_moved}
use Rattle.sheet_types.specs.declared.command.Item.{Item}
use Rattle.sheet_types.specs.declared.command.Relation.{Relation}
use Rattle.sheet_types.specs.declared.receipt.Moved.{Moved}
use Rattle.manifest_csv.specs.ByItems.{IsItemOf}
use Rattle.view_world.specs.Looks.{IsLookedAt}
use Rattle.world.proofs.WorldsRead.{read_then}
use Rattle.world.specs.Worlds.{IsRead, Seen}

-- what is found under the identity that was told is the item of that place
pub item_here : (p : Package) (told : List Moved) (i : ℕ) (moved : Moved) (item : Item)
    → told ≡ map item_moved p.items → i < length told
    → moved ≡ get_or told i moved → IsItemOf p moved.base (Some item) → (i < length p.items)
    × (item ≡ get_or p.items i item)
item_here p told i moved item all within is found =
    let less : i < length p.items = omega (arith, within, ap length all, length-map p.items item_moved) in
    let same : moved ≡ item_moved (get_or p.items i item) =
    is ∙ ap (λ l. get_or l i moved) all ∙ get_or-map item_moved p.items i item moved less in (
      less,
      some_same (found.each (get_or p.items i item) (Contains-get_or p.items i item less)
          (sym (ap (λ m. m.base) same))),
    )

-- all of them, where all were told
pub all_past : (items : List Item) (told : List Moved) (i : ℕ) → told ≡ map item_moved items → length told ≤ i
    → take i items ≡ items
all_past items told i all past =
    let end : length items ≤ i = omega (arith, past, ap length all, length-map items item_moved) in
    take_all i items end

-- what is kept of one item more
pub kept_more : {X A : Type 0} (parts : X → List A) (xs : List X) (i : ℕ) (x : X) (before now : List A)
    → i < length xs → x ≡ get_or xs i x
    → before ≡ flat_map parts (take i xs) → now ≡ before ++ parts x → now ≡ flat_map parts (take (i + 1) xs)
kept_more parts xs i x before now within is so_far put =
    put ∙ ap (λ l. l ++ parts x) so_far ∙ flat_map_more parts [] (take i xs) x
    ∙ ap (λ z. flat_map parts (take i xs ++ z ∷ [])) is ∙ ap (flat_map parts) (sym (take_more xs i x within))

held_if : (b : Bool) (held : List Item × List Relation) (items : List Item) (links : List Relation)
    → Some (items, links) ≡ then_some b held
    → (items ≡ held.0) × (links ≡ held.1)
held_if true held items links e = (ap (λ o. (unwrap_or o held).0) e, ap (λ o. (unwrap_or o held).1) e)
held_if false held items links e = absurd (cc)

-- what is there is there by its test
there_if : {X : Type 0} (b : Bool) (x held : X) → Some x ≡ then_some b held → b ≡ true
there_if true x held e = refl
there_if false x held e = absurd (cc)

-- what was found is of a live package
pub live_found : (w : World) (p : List ℕ) (items : List Item) (links : List Relation)
    → Some (items, links) ≡ holdings_answer w p → is_live w p ≡ true
live_found w p items links found =
    there_if (is_live w p) (items, links) ((holdings w p).items, (holdings w p).links) found

-- what was found of a package is what it holds
pub held_found : (w : World) (p : List ℕ) (items : List Item) (links : List Relation)
    → Some (items, links) ≡ holdings_answer w p
    → (items ≡ (holdings w p).items) × (links ≡ (holdings w p).links)
held_found w p items links found = held_if (is_live w p) ((holdings w p).items, (holdings w p).links) items links found

module _ {S : Type 0} (g : Ghosts S) where
  pub read_looked : (a b c : Seen S) → IsRead g a b → IsLookedAt g b c → IsRead g a c
  read_looked a b c first (inl same) = subst (λ s. IsRead g a s) (sym same) first
  read_looked a b c first (inr next) = read_then g a b c first next
