-- What a command moves follows from the command alone, but of a delete from the item that the package has.
use Rattle.std.proofs.Common.{◌≡◌, ◌∙◌, ap, sym, subst, inl, inr, ◌⊎◌, ℕ, ℤ, List, []}
use Rattle.std.proofs.Common.{◌∷◌, Option, Some, None, Ok}
use Rattle.std.proofs.Common.{slice_get}
use Rattle.std.specs.Option.{option_map_or}
use Rattle.sheet_types.specs.World.{World, Package, item_of, item_moved, link_moved, holdings}
use Rattle.sheet_types.specs.Step.{moved, relation}
use Rattle.sheet_types.specs.declared.command.Command.{Command}
use Rattle.sheet_types.specs.declared.command.Command.TheVariants.{Delete, Link, Unlink, Split, Merge}
use Rattle.sheet_types.specs.declared.command.Item.{Item}
use Rattle.sheet_types.specs.declared.command.Mapping.{Mapping}
use Rattle.sheet_types.specs.declared.command.Mode.{Mode}
use Rattle.sheet_types.specs.declared.frame.Rect.{Rect}
use Rattle.sheet_types.specs.declared.receipt.Moved.{Moved}
use Rattle.world_members.specs.Laws.{ChangesOnePackage, package_of}
use Rattle.world_queries.proofs.Questions.{asks_still, asks_answer}
use Rattle.world_queries.proofs.asking_one.thing_moved.Goals as goal

-- a delete moves the item that was found, if one was
of_found : (w : World) (at : ℕ) (command : Command) (uuid identity : List ℕ) (found : Option Item)
    → command ≡ Delete uuid identity → ((p : Package) → slice_get w.packages at ≡ Some p
    → found ≡ item_of p identity)
    → slice_get w.packages at ≡ Some (holdings w (package_of command))
    → moved w command ≡ option_map_or (λ i. item_moved i ∷ []) found []
of_found w at command uuid identity found is told here =
    let there : slice_get w.packages at ≡ Some (holdings w uuid) =
    subst (λ x. slice_get w.packages at ≡ Some (holdings w (package_of x))) is here in
    ap (moved w) is ∙ ap (λ x. option_map_or (λ i. item_moved i ∷ []) x []) (sym (told (holdings w uuid) there))

alone : {x y : Moved} → x ≡ y → y ∷ [] ≡ x ∷ []
alone same = ap (λ m. m ∷ []) (sym same)

-- a link moves its relation, whether it comes or goes
of_relation : (w : World) (command : Command) (mapping : Mapping) (base other : List ℕ)
    → ((parent : List ℕ) × (command ≡ Link parent mapping base other))
    ⊎ ((parent : List ℕ) × (command ≡ Unlink parent mapping base other))
    → moved w command ≡ link_moved (relation mapping base other) ∷ []
of_relation w command mapping base other (inl link) = ap (moved w) link.1
of_relation w command mapping base other (inr unlink) = ap (moved w) unlink.1

-- neither a split nor a merge changes one package alone
no_split : (command : Command) → ((parent : List ℕ) × (child : List ℕ) × (mode : Mode) × (rect : Rect)
    × (command ≡ Split parent child mode rect)) → ChangesOnePackage command → ⊥
no_split command (parent, child, mode, rect, is) one = subst ChangesOnePackage is one

no_merge : (command : Command) → ((child : List ℕ) × (into : List ℕ) × (ticket : ℤ)
    × (command ≡ Merge child into ticket)) → ChangesOnePackage command → ⊥
no_merge command (child, into, ticket, is) one = subst ChangesOnePackage is one

pub returns-in_default : goal.returns-in_default
returns-in_default g c =
    asks_answer g.S.Store {x = None} (c.in_ok-item-in-Delete.was ∙ ap Ok c.in_default.is)
    (λ w count are told one here. of_found w c.args.at c.args.command.now c.in-Delete.package c.in-Delete.identity
    None c.in-Delete.is told here) c.item_at.ensures

pub returns-in-Add : goal.returns-in-Add
returns-in-Add g c =
    asks_still g.S.Store g.met.S.Store.shut_if_dirty g.met.S.Store.settled c.requires.rests
    (λ w count are one here. ap (moved w) c.in-Add.is ∙ alone c.of_content.ensures)

pub returns-in-Some : goal.returns-in-Some
returns-in-Some g c =
    asks_answer g.S.Store {x = Some c.in-Some.item} (c.in_ok-item-in-Delete.was ∙ ap Ok c.in-Some.is)
    (λ w count are told one here. of_found w c.args.at c.args.command.now c.in-Delete.package c.in-Delete.identity
    (Some c.in-Some.item) c.in-Delete.is told here ∙ alone c.of_item.ensures) c.item_at.ensures

pub returns-in-Link : goal.returns-in-Link
returns-in-Link g c =
    asks_still g.S.Store g.met.S.Store.shut_if_dirty g.met.S.Store.settled c.requires.rests
    (λ w count are one here. of_relation w c.args.command.now _ _ _ c.in-Link.is
    ∙ alone (c.of_link.ensures ∙ ap link_moved c.new-relation.ensures))

pub returns-in-Split : goal.returns-in-Split
returns-in-Split g c =
    asks_still g.S.Store g.met.S.Store.shut_if_dirty g.met.S.Store.settled c.requires.rests
    (λ w count are one here. absurd (elim c.in-Split.is [
      | inl split ↦ no_split c.args.command.now split one
      | inr merge ↦ no_merge c.args.command.now merge one
    ]))
