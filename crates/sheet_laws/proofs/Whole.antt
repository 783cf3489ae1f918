-- Items move whole: what is held after a request was held before it, or is what the request adds.
use Rattle.std.specs.Prelude.{◌≡◌, ◌⊎◌, ℕ, true, false, List, [], ◌∷◌, ◌++◌, map, refl}
use Rattle.std.specs.Prelude.{bytes_eq, flat_map, Contains, if◌then◌else◌}
use Rattle.std.proofs.Common.{sym, subst, inl, inr}
use Rattle.std.proofs.lemmas.List.Elements.{All-contains_itself, recursion_from_All}
use Rattle.std.specs.List.{AllByRecursion}
use Rattle.sheet_types.specs.World.{World, Package, package_key, item_key, holdings, is_live, with_receipt}
use Rattle.sheet_types.specs.Cut.{Cut, cut}
use Rattle.sheet_types.specs.Step.{accepted, receipt_of, cut_of, less, loan_of, joined, added_item}
use Rattle.sheet_laws.specs.Laws.{items_in, IsAdded, MovesWhole}
use Rattle.sheet_types.specs.declared.command.Command.{Command}
use Rattle.sheet_types.specs.declared.command.Command.TheVariants.{Add, Delete, Link, Unlink, Split, Merge}
use Rattle.sheet_types.specs.declared.command.Mode.{Mode}
use Rattle.sheet_types.specs.declared.command.Mode.TheVariants.{Strict, Follow}
use Rattle.sheet_types.specs.declared.frame.Frame.{Frame}
use Rattle.sheet_types.specs.declared.frame.Rect.{Rect}
use Rattle.sheet_types.specs.declared.command.Item.{Item}
use Rattle.sheet_types.proofs.Order.{All-put, All-arranged}
use Rattle.sheet_types.proofs.Every.{All-weaker, All-left, All-right, All-filter, All-append}
use Rattle.sheet_laws.proofs.Packages.{All-changed, at_all, holdings_none}
use Rattle.sheet_laws.proofs.Accepting.{keeps}

module _ (P : Item → Type 0) where
  abbrev Each : Package → Type 0
  Each x = AllByRecursion P x.items

  items_at : (w : World) (p : List ℕ) → AllByRecursion Each w.packages → AllByRecursion P (holdings w p).items
  items_at w p h = elim (is_live w p) as (λ v. is_live w p ≡ v → AllByRecursion P (holdings w p).items) [
    | true ↦ λ live. (at_all w Each p h live).0
    | false ↦ λ dead. subst (λ x. AllByRecursion P x.items) (sym (holdings_none w p dead)) tt
  ] refl

  cut_items : (f : Frame) (x : Package) (mode : Mode) (rect : Rect) → AllByRecursion P x.items
      → AllByRecursion P (cut f x mode rect).items
  cut_items f x Strict rect h = All-filter P _ x.items h
  cut_items f x Follow rect h = All-filter P _ x.items h

  whole : (w : World) (id moment : List ℕ) (command : Command) → ((i : Item) → IsAdded command i → P i)
      → AllByRecursion Each w.packages → AllByRecursion Each
      (accepted w (record { id = id; at = moment; command = command })).packages
  whole w id moment (Add p identity content) new h = All-changed _ p Each Each
      (λ x _ all. All-put item_key P (added_item identity content) x.items (new (added_item identity content) refl)
      all) (λ x all. all) w.packages h
  whole w id moment (Delete p identity) new h = All-changed _ p Each Each (λ x _ all. All-filter P _ x.items all)
      (λ x all. all) w.packages h
  whole w id moment (Link p mapping base other) new h = All-changed _ p Each Each (λ x _ all. all) (λ x all. all)
      w.packages h
  whole w id moment (Unlink p mapping base other) new h = All-changed _ p Each Each (λ x _ all. all) (λ x all. all)
      w.packages h
  whole w id moment (Split p child mode rect) new h =
      let r = receipt_of w (record { id = id; at = moment; command = Split p child mode rect }) in
      let c : Cut = cut_of w p mode rect in
      let f : Package → Package = λ x. with_receipt r (less c x) in
      All-put package_key Each (loan_of child (holdings w p) r.seq c)
      (map (λ x. if bytes_eq x.uuid p then f x else x) w.packages)
      (cut_items w.frame (holdings w p) mode rect (items_at w p h))
      (All-changed f p Each Each (λ x _ all. All-filter P _ x.items all) (λ x all. all) w.packages h)
  whole w id moment (Merge child into ticket) new h =
      let r = receipt_of w (record { id = id; at = moment; command = Merge child into ticket }) in
      let f : Package → Package = λ x. with_receipt r (joined (holdings w child) x) in
      All-filter Each _ (map (λ x. if bytes_eq x.uuid into then f x else x) w.packages)
      (All-changed f into Each Each (λ x _ all. All-arranged item_key P ((holdings w child).items ++ x.items)
      (All-append P (holdings w child).items x.items (items_at w child h) all)) (λ x all. all) w.packages h)

-- a fact of all items in a row, by package
per_package : (P : Item → Type 0) (ps : List Package) → AllByRecursion P (flat_map (λ x. x.items) ps)
    → AllByRecursion (λ x. AllByRecursion P x.items) ps
per_package P [] h = tt
per_package P (x ∷ ps) h = (
  All-left P x.items (flat_map (λ y. y.items) ps) h,
  per_package P ps
      (All-right P x.items (flat_map (λ y. y.items) ps) h),
)

-- the law of whole items
pub moves_whole : MovesWhole
moves_whole w q =
    let From : Item → Type 0 = λ i. Contains (items_in w) i ⊎ IsAdded q.command i in
    let Held : Item → Type 0 = λ i. Contains (items_in w) i in
    let old : AllByRecursion (λ x. AllByRecursion From x.items) w.packages =
    per_package From w.packages (All-weaker Held From (λ i c. inl c) (items_in w)
    (recursion_from_All Held (items_in w) (All-contains_itself (items_in w)))) in
    keeps (λ v. AllByRecursion (λ x. AllByRecursion From x.items) v.packages) w q old
    (λ _ _. whole From w q.id q.at q.command (λ i a. inr a) old)
