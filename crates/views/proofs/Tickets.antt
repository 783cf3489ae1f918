-- The ticket of a live package, by the list of packages.
use Rattle.std.specs.Prelude.{◌≡◌, ℕ, Bool, true, false, ◌||◌, List, [], ◌∷◌, map, None, Some}
use Rattle.std.specs.Prelude.{bytes_eq, refl}
use Rattle.std.specs.List.{AllByRecursion, list_any}
use Rattle.std.proofs.Common.{◌∙◌, ap, sym}
use Rattle.std.proofs.lemmas.Bool.{false≢true}
use Rattle.std.proofs.lemmas.Slice.Eq.{bytes_eq-Decides}
use Rattle.sheet_types.specs.Answers.{PackageSight as ModelSight, package_sights}
use Rattle.sheet_types.specs.Custody.{ticket}
use Rattle.sheet_types.specs.Ordered.{entry}
use Rattle.sheet_types.specs.World.{World, Package, is_live, package_key}
use Rattle.sheet_types.proofs.Found.{All-found, none_found}
use Rattle.world.specs.Reading.{sight_of}
use Rattle.world.specs.declared.reading.PackageSight.{PackageSight}

abbrev seen : World → Package → ModelSight
seen w p = record { uuid = p.uuid; parent = p.parent; depth = p.depth; ticket = ticket w p.uuid }

-- each says the ticket of its own package
each_says : (w : World) (sights : List PackageSight) (packages : List Package)
    → map sight_of sights ≡ map (seen w) packages
    → AllByRecursion (λ (s : PackageSight). s.ticket ≡ ticket w s.uuid) sights
each_says w [] packages same = tt
each_says w (s ∷ sights) [] same = absurd (cc)
each_says w (s ∷ sights) (p ∷ packages) same =
    let first : sight_of s ≡ seen w p = cc in
    let left : map sight_of sights ≡ map (seen w) packages = cc in
    (ap (λ m. m.ticket) first ∙ ap (λ m. ticket w m.uuid) (sym first), each_says w sights packages left)

-- a package that is live is among them
is_there : (w : World) (p : List ℕ) (sights : List PackageSight) (packages : List Package)
    → map sight_of sights ≡ map (seen w) packages
    → list_any (λ (s : PackageSight). bytes_eq s.uuid p) sights
    ≡ list_any (λ x. bytes_eq (package_key x) p) packages
is_there w p [] [] same = refl
is_there w p [] (x ∷ packages) same = absurd (cc)
is_there w p (s ∷ sights) [] same = absurd (cc)
is_there w p (s ∷ sights) (x ∷ packages) same =
    let first : sight_of s ≡ seen w x = cc in
    let left : map sight_of sights ≡ map (seen w) packages = cc in
    ap (λ m. bytes_eq m.uuid p || list_any (λ (s : PackageSight). bytes_eq s.uuid p) sights) first
    ∙ ap (λ b. bytes_eq x.uuid p || b) (is_there w p sights packages left)

pub ticket_seen : (w : World) (p : List ℕ) (sights : List PackageSight) (s : PackageSight)
    → map sight_of sights ≡ package_sights w
    → entry (λ (s : PackageSight). s.uuid) p sights ≡ Some s → s.ticket ≡ ticket w p
ticket_seen w p sights s same found =
    let said = All-found (λ (s : PackageSight). s.ticket ≡ ticket w s.uuid)
    (λ (s : PackageSight). bytes_eq s.uuid p)
    s sights found (each_says w sights w.packages same) in
    said.0 ∙ ap (ticket w) ((bytes_eq-Decides s.uuid p).0 said.1)

pub is_seen : (w : World) (p : List ℕ) (sights : List PackageSight) → map sight_of sights ≡ package_sights w
    → entry (λ (s : PackageSight). s.uuid) p sights ≡ None → is_live w p ≡ true → ⊥
is_seen w p sights same none live =
    false≢true (sym (none_found (λ (s : PackageSight). bytes_eq s.uuid p) sights none)
    ∙ is_there w p sights w.packages same ∙ live)
