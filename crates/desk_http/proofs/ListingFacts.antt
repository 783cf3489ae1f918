-- The list from what is told of each package is the list of the world's packages.
use Rattle.std.proofs.Common.{◌≡◌, ◌∙◌, ◌<◌, ◌+◌, ℕ, Bool, true, false, List, [], ◌∷◌}
use Rattle.std.proofs.Common.{◌++◌, length, map, take}
use Rattle.std.proofs.Common.{get_or, Option, Some, None, unwrap_or, find, refl, sym, ap}
use Rattle.std.proofs.lemmas.List.{map-append, take_more}
use Rattle.std.specs.Bool.{then_some}
use Rattle.std.specs.List.{AllByRecursion}
use Rattle.sheet_types.proofs.Basics.{None≢Some}
use Rattle.sheet_types.proofs.Found.{not_found}
use Rattle.sheet_types.specs.Answers.{PackageSight, package_sights, sums_held, sums_of}
use Rattle.sheet_types.specs.Custody.{ticket}
use Rattle.sheet_types.specs.Ordered.{IsArranged}
use Rattle.sheet_types.specs.World.{World, Package, holdings, is_live, no_package, package_key}
use Rattle.sheet_laws.proofs.Packages.{at_uuid, each_found}
use Rattle.world.specs.Reading.{sight_of}
use Rattle.world.specs.declared.reading.PackageSight.{PackageSight as Sight}
use Rattle.desk_replies.specs.declared.packages.Listed.{Listed}
use Rattle.desk_replies.specs.Bodies.{all_listed, listed}
use Rattle.desk_http.specs.Listing.{listed_from, listed_in}

-- a live package has its sums
sums_known : (w : World) (p : Package) → find (at_uuid p.uuid) w.packages ≡ Some p
    → sums_of w p.uuid ≡ Some (sums_held p)
sums_known w p here = go (is_live w p.uuid) refl
  where
    go : (b : Bool) → is_live w p.uuid ≡ b → sums_of w p.uuid ≡ Some (sums_held p)
    go true live = ap (λ b. then_some b (sums_held (holdings w p.uuid))) live
        ∙ ap (λ o. Some (sums_held (unwrap_or o no_package))) here
    go false live = absurd (None≢Some (sym (not_found (at_uuid p.uuid) w.packages live) ∙ here))

abbrev sight : World → Package → PackageSight
sight w p = record { uuid = p.uuid; parent = p.parent; depth = p.depth; ticket = ticket w p.uuid }

each_listed : (w : World) (ps : List Package) → AllByRecursion (λ p. find (at_uuid p.uuid) w.packages ≡ Some p) ps
    → map (listed_in w) (map (sight w) ps) ≡ map (listed w) ps
each_listed w [] here = refl
each_listed w (p ∷ ps) here =
    let first : listed_in w (sight w p) ≡ listed w p = ap (λ o. listed_from o (sight w p)) (sums_known w p here.0) in
    ap (λ l. l ∷ map (listed_in w) (map (sight w) ps)) first
    ∙ ap (λ ls. listed w p ∷ ls) (each_listed w ps here.1)

pub all_told : (w : World) (sights : List PackageSight) → IsArranged package_key w.packages
    → sights ≡ package_sights w → map (listed_in w) sights ≡ all_listed w
all_told w sights arranged told = ap (map (listed_in w)) told
    ∙ each_listed w w.packages (each_found w.packages arranged)

-- one more package
pub one_listed : (w : World) (sights : List Sight) (k : ℕ) → k < length sights → (sight : Sight)
    → sight ≡ get_or sights k sight → (list : List Listed) (one : Listed)
    → list ≡ map (listed_in w) (map sight_of (take k sights)) → one ≡ listed_in w (sight_of sight)
    → list ++ one ∷ [] ≡ map (listed_in w) (map sight_of (take (k + 1) sights))
one_listed w sights k less sight is list one so this =
    let cut : take (k + 1) sights ≡ take k sights ++ sight ∷ [] = take_more sights k sight less
    ∙ ap (λ s. take k sights ++ s ∷ []) (sym is) in
    let told : map (listed_in w) (map sight_of (take (k + 1) sights))
    ≡ map (listed_in w) (map sight_of (take k sights)) ++ listed_in w (sight_of sight) ∷ [] =
    ap (λ t. map (listed_in w) (map sight_of t)) cut
    ∙ ap (map (listed_in w)) (map-append sight_of (take k sights) (sight ∷ []))
    ∙ map-append (listed_in w) (map sight_of (take k sights)) (sight_of sight ∷ []) in
    ap (λ l. l ++ one ∷ []) so ∙ ap (λ o. map (listed_in w) (map sight_of (take k sights)) ++ o ∷ []) this
    ∙ sym told
