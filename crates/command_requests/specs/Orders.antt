-- The request of a verb over a world. Profile.
use Rattle.std.specs.Prelude.{◌≡◌, ℕ, Bool, true, false, List}
use Rattle.sheet_types.specs.Answers.{PackageSight, package_sights}
use Rattle.sheet_types.specs.World.{World}
use Rattle.sheet_types.specs.declared.command.Command.{Command}
use Rattle.sheet_types.specs.declared.command.Request.{Request}
use Rattle.command_verbs.specs.Verbs.{IsWhyUnsaid, Says, request_of}
use Rattle.command_verbs.specs.declared.items.ItemEntry.{ItemEntry}
use Rattle.command_verbs.specs.declared.verbs.Verb.{Verb}
use Rattle.command_verbs.specs.declared.verbs.Verb.TheVariants.{Lend, Return, PutTile, PutMedium, PutMark, Join, Part}
use Rattle.command_requests.specs.Listing.{world_items}
use Rattle.command_requests.specs.declared.orders.Order.{Order}
use Rattle.command_requests.specs.declared.orders.OrderFault.{OrderFault}
use Rattle.command_requests.specs.declared.orders.OrderFault.TheVariants.{Unsaid, Failed}

-- its words name items
abbrev pub names_items : Verb → Bool
names_items (Join first second) = true
names_items (Part first second) = true
names_items (Lend from area mode loan) = false
names_items (Return loan) = false
names_items (PutTile holder place identity) = false
names_items (PutMedium holder word identity) = false
names_items (PutMark holder mark identity) = false

-- the request whose command the words say over these packages and items, under the identity and at the moment of the
-- order
abbrev pub AsksAmong : List PackageSight → List ItemEntry → Order → List ℕ → Request → Type 0
AsksAmong sights items o bytes q =
    (command : Command) × Says sights items o.verb bytes command × (q ≡ request_of o.id o.at.now command)

-- they say none; or memory or a store gave out
abbrev pub IsWhyUnaskedAmong : List PackageSight → List ItemEntry → Order → List ℕ → OrderFault → Type 0
IsWhyUnaskedAmong sights items o bytes (Unsaid fault) = IsWhyUnsaid sights items o.verb bytes fault
IsWhyUnaskedAmong sights items o bytes (Failed fault) = Unit {0}

-- the same over a world
abbrev pub Asks : World → Order → List ℕ → Request → Type 0
Asks w o bytes q = AsksAmong (package_sights w) (world_items w) o bytes q

abbrev pub IsWhyUnasked : World → Order → List ℕ → OrderFault → Type 0
IsWhyUnasked w o bytes fault = IsWhyUnaskedAmong (package_sights w) (world_items w) o bytes fault
