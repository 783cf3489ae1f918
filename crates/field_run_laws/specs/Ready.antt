-- Lists of requests of which none is refused, told by lists alone: each is ready when its turn comes. Profile.
use Rattle.std.specs.Prelude.{◌≡◌, ◌≤◌, ◌+◌, ℕ, true, false, List, [], ◌∷◌, ◌++◌, length}
use Rattle.std.specs.List.{list_any}
use Rattle.sheet_types.specs.Custody.{is_used}
use Rattle.sheet_types.specs.Cut.{has_end}
use Rattle.sheet_types.specs.Ordered.{has, is_among}
use Rattle.sheet_types.specs.Refuse.{bad_text, has_good_size, bad_place, out_of_frame, takes_place, is_overfull}
use Rattle.sheet_types.specs.Refuse.{too_many, greatest_receipts}
use Rattle.sheet_types.specs.Register.{IsRegister}
use Rattle.sheet_types.specs.Step.{Run, relation}
use Rattle.sheet_types.specs.Texts.{is_moment}
use Rattle.sheet_types.specs.World.{World, Package, no_package, is_live, holdings, receipts_of, item_key, link_key}
use Rattle.sheet_types.specs.World.{kind_number, base_kind, other_kind}
use Rattle.sheet_types.specs.declared.command.Command.{Command}
use Rattle.sheet_types.specs.declared.command.Command.TheVariants.{Add, Delete, Link, Unlink}
use Rattle.sheet_types.specs.declared.command.Item.{Item}
use Rattle.sheet_types.specs.declared.command.Relation.{Relation}
use Rattle.sheet_types.specs.declared.command.Request.{Request}
use Rattle.field_run_laws.specs.Lists.{Reply, AreWithin, AreNew, IsUnrefused, items_after, links_after}

-- a package that holds this
abbrev pub package_of : List Item → List Relation → Package
package_of items links = record no_package { items = items; links = links }

-- the identities that a command adds
abbrev pub added : Command → List (List ℕ)
added (Add p identity content) = identity ∷ []
added command = []

-- the command can be carried out where the package holds this, and these identities were added since
abbrev pub IsReady : World → List (List ℕ) → List Item → List Relation → Command → Type 0
IsReady w since items links (Add p identity content) =
    (bad_text (Add p identity content) ≡ false) × (has_good_size content ≡ true)
    × (bad_place w (Add p identity content) ≡ false) × (out_of_frame w (Add p identity content) ≡ false)
    × (is_used w identity ≡ false) × (is_among since identity ≡ false)
    × (takes_place (package_of items links) content ≡ false)
IsReady w since items links (Delete p identity) =
    (has (λ i. i.identity) identity items ≡ true) × (list_any (has_end identity) links ≡ false)
IsReady w since items links (Link p mapping base other) =
    (has item_key (kind_number (base_kind mapping) ∷ base) items ≡ true)
    × (has item_key (kind_number (other_kind mapping) ∷ other) items ≡ true)
    × (has link_key (link_key (relation mapping base other)) links ≡ false)
IsReady w since items links (Unlink p mapping base other) =
    has link_key (link_key (relation mapping base other)) links ≡ true
IsReady w since items links command = ⊥

-- each is, and leaves the package within its limits
abbrev pub AreReady : World → List (List ℕ) → List Item → List Relation → List Request → Type 0
AreReady w since items links [] = Unit {0}
AreReady w since items links (q ∷ qs) =
    (is_moment q.at ≡ true) × IsReady w since items links q.command
    × (is_overfull (package_of (items_after q.command items) (links_after q.command links)) ≡ false)
    × AreReady w (since ++ added q.command) (items_after q.command items) (links_after q.command links) qs

-- then none is refused in a register that is within its limits
abbrev pub ReadyRunIsUnrefused : Type 0
ReadyRunIsUnrefused = (w : World) (p : List ℕ) (qs : List Request) (replies : List Reply) (next : World) →
    IsRegister w → is_live w p ≡ true → AreWithin p qs → AreNew w qs →
    too_many w ≡ false → length (receipts_of w) + length qs ≤ greatest_receipts →
    AreReady w [] (holdings w p).items (holdings w p).links qs →
    Run w qs replies next → IsUnrefused replies
