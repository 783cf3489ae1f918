-- What is drawn of packages, one after the other.
use Rattle.std.proofs.Common.{◌≡◌, ◌∙◌, ◌<◌, ◌+◌, ◌++◌, ◌∷◌, [], ℕ, ℤ, List, Result}
use Rattle.std.proofs.Common.{Ok, Err, IfOk, refl, ap, subst}
use Rattle.std.proofs.Common.{sym, length, take, get_or, map}
use Rattle.std.specs.Prelude.{flat_map}
use Rattle.std.specs.List.{AllZip}
use Rattle.std.proofs.lemmas.List.{take_more}
use Rattle.std.proofs.lemmas.List.Elements.{filter_map-append}
use Rattle.sheet_types.specs.Answers.{package_sights}
use Rattle.sheet_types.specs.World.{World}
use Rattle.sheet_types.specs.declared.command.Item.{Item}
use Rattle.view_map.specs.Worlds.{AreHolders, IsHolder, place_at, places_of}
use Rattle.view_map.specs.declared.holders.Holder.{Holder}
use Rattle.sqlite.specs.Store.{Ghosts}
use Rattle.world.specs.Reading.{sight_of}
use Rattle.world.specs.Worlds.{Seen, StandsFor}
use Rattle.world.specs.declared.reading.PackageSight.{PackageSight}

-- places item by item are those of all items
pub places_one_by_one : (zoom : ℤ) (items : List Item) → flat_map (λ i. places_of zoom (i ∷ [])) items
    ≡ places_of zoom items
places_one_by_one zoom [] = refl
places_one_by_one zoom (i ∷ items) =
    ap (λ l. places_of zoom (i ∷ []) ++ l) (places_one_by_one zoom items)
    ∙ sym (filter_map-append (place_at zoom) (i ∷ []) items)

-- it is drawn of this package
abbrev pub IsDrawn : World → ℤ → PackageSight → Holder → Type 0
IsDrawn w zoom s h = IsHolder w zoom (sight_of s) h

one_behind : (w : World) (zoom : ℤ) (sights : List PackageSight) (hs : List Holder) (s : PackageSight) (h : Holder)
    → AllZip (IsDrawn w zoom) sights hs → IsDrawn w zoom s h
    → AllZip (IsDrawn w zoom) (sights ++ s ∷ []) (hs ++ h ∷ [])
one_behind w zoom [] [] s h each here = (here, tt)
one_behind w zoom [] (first ∷ hs) s h each here = absurd each
one_behind w zoom (first ∷ sights) [] s h each here = absurd each
one_behind w zoom (first ∷ sights) (first' ∷ hs) s h each here =
    (each.0, one_behind w zoom sights hs s h each.1 here)

pub one_more : (w : World) (zoom : ℤ) (sights : List PackageSight) (hs : List Holder) (i : ℕ) (s : PackageSight)
    (h : Holder) → i < length sights → s ≡ get_or sights i s
    → AllZip (IsDrawn w zoom) (take i sights) hs → IsDrawn w zoom s h
    → AllZip (IsDrawn w zoom) (take (i + 1) sights) (hs ++ h ∷ [])
one_more w zoom sights hs i s h within is so_far here =
    subst (λ l. AllZip (IsDrawn w zoom) l (hs ++ h ∷ [])) (ap (λ z. take i sights ++ z ∷ []) is
    ∙ sym (take_more sights i s within))
    (one_behind w zoom (take i sights) hs s h so_far here)

-- the same of the packages in the words of the model
pub all_drawn : (w : World) (zoom : ℤ) (sights : List PackageSight) (hs : List Holder)
    → AllZip (IsDrawn w zoom) sights hs → AllZip (IsHolder w zoom) (map sight_of sights) hs
all_drawn w zoom [] [] each = tt
all_drawn w zoom [] (h ∷ hs) each = absurd each
all_drawn w zoom (s ∷ sights) [] each = absurd each
all_drawn w zoom (s ∷ sights) (h ∷ hs) each = (each.0, all_drawn w zoom sights hs each.1)

-- so of the packages of a world, where they are those that were listed
pub of_world : {S X E : Type 0} (g : Ghosts S) (items : X → List Holder) (zoom : ℤ) (seen : Seen S)
    (sights : List PackageSight) (r : Result X E)
    → ((w : World) → StandsFor g seen w → map sight_of sights ≡ package_sights w)
    → IfOk r (λ x. (w : World) → StandsFor g seen w → AllZip (IsHolder w zoom) (map sight_of sights) (items x))
    → IfOk r (λ x. (w : World) → StandsFor g seen w → AreHolders w zoom (items x))
of_world g items zoom seen sights (Ok x) are told = λ w stands. subst (λ l. AllZip (IsHolder w zoom) l (items x))
    (are w stands) (told w stands)
of_world g items zoom seen sights (Err e) are told = tt
