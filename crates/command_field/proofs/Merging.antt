-- What was asked for takes no package home, whatever a store told.
use Rattle.std.specs.Prelude.{◌≡◌, ℕ, Bool, List, [], ◌∷◌, ◌++◌, map, None, refl, Result}
use Rattle.std.specs.Prelude.{Ok, Err, IfOk}
use Rattle.std.proofs.Common.{sym, subst, inl, inr}
use Rattle.std.specs.List.{AllByRecursion}
use Rattle.sheet_types.specs.declared.command.Command.{Command}
use Rattle.sheet_types.specs.declared.command.Item.{Item}
use Rattle.sheet_types.specs.declared.command.Relation.{Relation}
use Rattle.sheet_types.specs.declared.command.Request.{Request}
use Rattle.sheet_types.specs.declared.frame.Frame.{Frame}
use Rattle.sheet_types.proofs.Every.{All-append, All-map}
use Rattle.field_changes.specs.Asked.{AreChanges, adding, commands, deleting, linking, unlinking}
use Rattle.field_changes.specs.Ids.{request_of}
use Rattle.field_changes.specs.declared.held.Held.{Held}
use Rattle.field_faults.specs.declared.heads.HeadFault.{HeadFault}
use Rattle.field_faults.specs.declared.heads.HeadFault.TheVariants as head
use Rattle.world.specs.Asked.{child_returned}
use Rattle.command_field.specs.Answers.{AnswersGiven, AnswersLines, AsksNoMerge, head_answer}
use Rattle.command_field.specs.declared.asking.Answer.{Answer}
use Rattle.command_field.specs.declared.asking.Answer.TheVariants.{
  Asked,
  NoSuchPackage,
  NoList,
  OtherPackage,
  Stale,
  OtherSystem,
  OtherFrame,
  Items,
  TwoAlike,
  NotFree,
}
use Rattle.command_field.specs.declared.asking.Ask.{Ask}

abbrev Stays : Command → Type 0
Stays c = child_returned c ≡ None

each_made : {X : Type 0} (make : X → Command) → ((x : X) → Stays (make x)) → (xs : List X)
    → AllByRecursion Stays (map make xs)
each_made make so [] = tt
each_made make so (x ∷ xs) = (so x, each_made make so xs)

module _ (p : List ℕ) (number : ℕ) (moment : List ℕ) (items : List Item) (linked : List Relation) (more : Bool)
    (h : Held) where
  of_changes : (requests : List Request) → AreChanges p number moment items linked more h.items.items h.links.items
      requests → AllByRecursion (λ (q : Request). child_returned q.command ≡ None) requests
  of_changes requests it =
      let unlinks = each_made (unlinking p) (λ x. refl) it.parts.unlinks.items in
      let deletes = each_made (deleting p) (λ x. refl) it.parts.deletes.items in
      let adds = each_made (adding p) (λ x. refl) it.parts.adds.items in
      let links = each_made (linking p) (λ x. refl) it.parts.links.items in
      let all : AllByRecursion Stays (commands p it.parts) =
      All-append Stays (map (unlinking p) it.parts.unlinks.items ++ map (deleting p) it.parts.deletes.items ++ map
      (adding p) it.parts.adds.items) (map (linking p) it.parts.links.items)
      (All-append Stays (map (unlinking p) it.parts.unlinks.items ++ map (deleting p) it.parts.deletes.items)
      (map (adding p) it.parts.adds.items)
      (All-append Stays (map (unlinking p) it.parts.unlinks.items) (map (deleting p) it.parts.deletes.items) unlinks
      deletes) adds) links in
      subst (AllByRecursion (λ (q : Request). child_returned q.command ≡ None)) (sym it.asked)
      (All-map (λ (q : Request). child_returned q.command ≡ None) (request_of p number moment) (commands p it.parts)
      all)

  of_lines : (lines : List ℕ) (x : Answer) → AnswersLines lines p number moment items linked more h x
      → AsksNoMerge x
  of_lines lines (Asked requests) it = of_changes requests.items it.1
  of_lines lines NoSuchPackage it = tt
  of_lines lines NoList it = tt
  of_lines lines OtherPackage it = tt
  of_lines lines (Stale n) it = tt
  of_lines lines OtherSystem it = tt
  of_lines lines OtherFrame it = tt
  of_lines lines (Items text) it = tt
  of_lines lines TwoAlike it = tt
  of_lines lines (NotFree taken) it = tt

of_head : (number : ℕ) (fault : HeadFault) → AsksNoMerge (head_answer number fault)
of_head number head.OtherPackage = tt
of_head number head.Stale = tt
of_head number head.OtherSystem = tt
of_head number head.OtherFrame = tt

pub of_first : (f : Frame) (a : Ask) (number : ℕ) (items : List Item) (linked : List Relation) (h : Held)
    (first : Answer) → AnswersGiven f a number items linked h first → AsksNoMerge first
of_first f a number items linked h first it = elim it [
  | inl refused ↦ subst AsksNoMerge (sym refused.2) (of_head number refused.0)
  | inr lines ↦ of_lines a.«package» number a.at.now items linked a.more h _ first lines.1
]

-- so of the answer that it is turned into
pub of_kept : {E : Type 0} (first : Answer) (r : Result Answer E) → AsksNoMerge first
    → IfOk r (λ x. AsksNoMerge first → AsksNoMerge x) → IfOk r AsksNoMerge
of_kept first (Ok x) none kept = kept none
of_kept first (Err e) none kept = tt
