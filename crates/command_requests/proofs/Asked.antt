-- What words say over what was looked up, they say over the world.
use Rattle.std.proofs.Common.{◌≡◌, ◌∙◌, ℕ, List, Bool, true, refl, sym, ap, subst, map, Result, Ok, Err}
use Rattle.std.proofs.Common.{MatchResult}
use Rattle.std.proofs.Common.{IfOk, Some}
use Rattle.std.specs.Prelude.{flat_map}
use Rattle.sheet_types.specs.Answers.{PackageSight as ModelSight, holdings_answer, package_sights}
use Rattle.sheet_types.specs.World.{World}
use Rattle.sheet_types.specs.declared.command.Command.{Command}
use Rattle.sheet_types.specs.declared.command.Item.{Item}
use Rattle.sheet_types.specs.declared.command.Relation.{Relation}
use Rattle.sheet_types.specs.declared.command.Request.{Request}
use Rattle.command_verbs.specs.Names.{sight}
use Rattle.command_verbs.specs.Verbs.{IsWhyUnsaid, Says}
use Rattle.command_verbs.specs.declared.items.ItemEntry.{ItemEntry}
use Rattle.command_verbs.specs.declared.names.PackageEntry.{PackageEntry}
use Rattle.command_verbs.specs.declared.verbs.Verb.{Verb}
use Rattle.command_verbs.specs.declared.verbs.Verb.TheVariants.{Lend, Return, PutTile, PutMedium, PutMark, Join, Part}
use Rattle.command_verbs.specs.declared.verbs.VerbFault.{VerbFault}
use Rattle.world.specs.Reading.{sight_of}
use Rattle.world.specs.declared.reading.PackageSight.{PackageSight}
use Rattle.command_requests.specs.Listing.{entry_of, item_entry, items_under, world_items}
use Rattle.command_requests.specs.Orders.{Asks, AsksAmong, IsWhyUnasked, IsWhyUnaskedAmong, names_items}
use Rattle.command_requests.specs.declared.orders.Order.{Order}
use Rattle.command_requests.specs.declared.orders.OrderFault.{OrderFault}
use Rattle.command_requests.specs.declared.orders.OrderFault.TheVariants.{Unsaid, Failed}
use Rattle.command_requests.proofs.Listed.{all_items, as_listed, items_found}

-- ---- what was listed

pub packages_listed : {X E : Type 0} (P : World → Type 0) (items : X → List PackageEntry)
    (sights : List PackageSight)
    (r : Result X E)
    → ((w : World) → P w → map sight_of sights ≡ package_sights w)
    → IfOk r (λ x. items x ≡ map entry_of sights)
    → IfOk r (λ x. (w : World) → P w → map sight (items x) ≡ package_sights w)
packages_listed P items sights (Ok x) are is = λ w stands. ap (map sight) is ∙ as_listed sights ∙ are w stands
packages_listed P items sights (Err e) are is = tt

pub items_listed : {X E : Type 0} (P : World → Type 0) (entries : X → List ItemEntry) (p : List ℕ)
    (items : List Item)
    (links : List Relation) (r : Result X E)
    → ((w : World) → P w → Some (items, links) ≡ holdings_answer w p)
    → IfOk r (λ x. entries x ≡ map (item_entry p) items)
    → IfOk r (λ x. (w : World) → P w → entries x ≡ items_under w p)
items_listed P entries p items links (Ok x) found is = λ w stands. items_found w p items links (entries x)
    (found w stands) is
items_listed P entries p items links (Err e) found is = tt

-- ---- items count only where the words name them

says_over : (sights : List ModelSight) (some all : List ItemEntry) (v : Verb) (bytes : List ℕ) (command : Command)
    → (names_items v ≡ true → some ≡ all) → Says sights some v bytes command
    → Says sights all v bytes command
says_over sights some all (Lend from area mode loan) bytes command same it = it
says_over sights some all (Return loan) bytes command same it = it
says_over sights some all (PutTile holder place identity) bytes command same it = it
says_over sights some all (PutMedium holder word identity) bytes command same it = it
says_over sights some all (PutMark holder mark identity) bytes command same it = it
says_over sights some all (Join first second) bytes command same it =
    subst (λ l. Says sights l (Join first second) bytes command) (same refl) it
says_over sights some all (Part first second) bytes command same it =
    subst (λ l. Says sights l (Part first second) bytes command) (same refl) it

unsaid_over : (sights : List ModelSight) (some all : List ItemEntry) (v : Verb) (bytes : List ℕ) (fault : VerbFault)
    → (names_items v ≡ true → some ≡ all) → IsWhyUnsaid sights some v bytes fault
    → IsWhyUnsaid sights all v bytes fault
unsaid_over sights some all (Lend from area mode loan) bytes fault same it = it
unsaid_over sights some all (Return loan) bytes fault same it = it
unsaid_over sights some all (PutTile holder place identity) bytes fault same it = it
unsaid_over sights some all (PutMedium holder word identity) bytes fault same it = it
unsaid_over sights some all (PutMark holder mark identity) bytes fault same it = it
unsaid_over sights some all (Join first second) bytes fault same it =
    subst (λ l. IsWhyUnsaid sights l (Join first second) bytes fault) (same refl) it
unsaid_over sights some all (Part first second) bytes fault same it =
    subst (λ l. IsWhyUnsaid sights l (Part first second) bytes fault) (same refl) it

asked_over : (sights : List ModelSight) (some all : List ItemEntry) (o : Order) (bytes : List ℕ)
    (r : Result Request OrderFault)
    → (names_items o.verb ≡ true → some ≡ all) → MatchResult r (AsksAmong sights some o bytes)
    (IsWhyUnaskedAmong sights some o bytes)
    → MatchResult r (AsksAmong sights all o bytes) (IsWhyUnaskedAmong sights all o bytes)
asked_over sights some all o bytes (Ok q) same it = (it.0, says_over sights some all o.verb bytes it.0 same it.1, it.2)
asked_over sights some all o bytes (Err (Unsaid fault)) same it = unsaid_over sights some all o.verb bytes fault same it
asked_over sights some all o bytes (Err (Failed fault)) same it = tt

-- so over the packages and the items of a world
pub asked_of : (w : World) (packages : List PackageEntry) (items : List ItemEntry) (o : Order) (bytes : List ℕ)
    (r : Result Request OrderFault)
    → map sight packages ≡ package_sights w → (names_items o.verb ≡ true
    → items ≡ flat_map (λ p. items_under w p.uuid) packages)
    → MatchResult r (AsksAmong (map sight packages) items o bytes)
    (IsWhyUnaskedAmong (map sight packages) items o bytes)
    → MatchResult r (Asks w o bytes) (IsWhyUnasked w o bytes)
asked_of w packages items o bytes r are listed it =
    asked_over (package_sights w) items (world_items w) o bytes r
    (λ named. all_items w packages items are (listed named))
    (subst (λ s. MatchResult r (AsksAmong s items o bytes) (IsWhyUnaskedAmong s items o bytes)) are it)
