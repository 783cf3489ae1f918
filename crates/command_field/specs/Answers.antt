-- What is answered of an edited file, for a package of a world. Profile.
use Rattle.std.specs.Prelude.{◌≡◌, ◌⊎◌, ℕ, Bool, true, false, List, [], Option, Some, None, IfSome}
use Rattle.std.specs.Prelude.{string_bytes}
use Rattle.std.specs.List.{AllByRecursion}
use Rattle.sheet_types.specs.Answers.{holdings_answer}
use Rattle.sheet_types.specs.Custody.{ticket}
use Rattle.sheet_types.specs.World.{World, holdings, is_live}
use Rattle.sheet_types.specs.declared.command.Item.{Item}
use Rattle.sheet_types.specs.declared.command.Relation.{Relation}
use Rattle.sheet_types.specs.declared.frame.Frame.{Frame}
use Rattle.field_changes.specs.Asked.{AreChanges, IsWhyUnasked}
use Rattle.field_changes.specs.declared.changes.Unasked.TheVariants as unasked
use Rattle.field_changes.specs.declared.held.Held.{Held}
use Rattle.world.specs.Asked.{child_returned}
use Rattle.field_lists.specs.HoldsLists.{IsList, MeetsFirst}
use Rattle.field_lists.specs.declared.entries.Listed.{Listed}
use Rattle.field_lists.specs.declared.lists.ListFault.{ListFault}
use Rattle.field_lists.specs.declared.lists.ListFault.TheVariants.{Read}
use Rattle.field_faults.specs.Files.{IsHeld}
use Rattle.field_faults.specs.Heads.{head_fault}
use Rattle.field_faults.specs.Lines.{fault_lines}
use Rattle.field_faults.specs.declared.heads.HeadFault.{HeadFault}
use Rattle.field_home_laws.specs.Free.{IsEmptyOrFree}
use Rattle.field_faults.specs.declared.heads.HeadFault.TheVariants as head
use Rattle.command_field.specs.declared.asking.Answer.{Answer}
use Rattle.command_field.specs.declared.asking.Answer.TheVariants.{Asked, NoSuchPackage, NoList, OtherPackage, Stale}
use Rattle.command_field.specs.declared.asking.Answer.TheVariants.{OtherSystem, OtherFrame, Items, TwoAlike, NotFree}
use Rattle.command_field.specs.declared.asking.Ask.{Ask}
use Rattle.command_field.specs.declared.freedom.Taken.{Taken}
use Rattle.command_field.specs.Freedom.{IsFreeOrTaken, IsTaken}

-- ---- of what a package holds

module _ (p : List ℕ) (number : ℕ) (moment : List ℕ) (items : List Item) (linked : List Relation) (more : Bool)
    (h : Held) where
  -- The requests for it; or why its links are no list, or two new items have one identity.
  abbrev pub AnswersBy : Answer → Type 0
  AnswersBy (Asked requests) = AreChanges p number moment items linked more h.items.items h.links.items requests.items
  AnswersBy NoList = IsWhyUnasked p number items linked h.items.items h.links.items unasked.List
  AnswersBy TwoAlike = IsWhyUnasked p number items linked h.items.items h.links.items unasked.Identity
  AnswersBy answer = ⊥

-- The lines of what it cannot hold, if there are any; else as before.
abbrev pub AnswersLines : List ℕ → List ℕ → ℕ → List ℕ → List Item → List Relation → Bool → Held
    → Answer → Type 0
AnswersLines lines p number moment items linked more h (Items text) = (string_bytes text ≡ lines) × ¬ (lines ≡ [])
AnswersLines lines p number moment items linked more h answer = (lines ≡ [])
    × AnswersBy p number moment items linked more h answer

-- why a file is none of this package at its ticket
abbrev pub head_answer : ℕ → HeadFault → Answer
head_answer number head.OtherPackage = OtherPackage
head_answer number head.Stale = Stale number
head_answer number head.OtherSystem = OtherSystem
head_answer number head.OtherFrame = OtherFrame

-- The file as a whole is refused; or some of its records are; or these are the requests. Of a package of this frame
-- and ticket, which holds this.
abbrev pub AnswersGiven : Frame → Ask → ℕ → List Item → List Relation → Held → Answer → Type 0
AnswersGiven f a number items linked h answer =
    ((fault : HeadFault) × (head_fault a.«package» number f a.more h ≡ Some fault)
    × (answer ≡ head_answer number fault))
    ⊎ ((head_fault a.«package» number f a.more h ≡ None)
    × AnswersLines (fault_lines f items a.more h) a.«package» number a.at.now items linked a.more h answer)

-- ---- of a world

-- what the requests of an answer ask for that is not free
abbrev pub IsTakenOf : World → List Item → List Relation → Answer → Option Taken → Type 0
IsTakenOf w items linked (Asked requests) found = IsFreeOrTaken w items linked requests.items found
IsTakenOf w items linked first found = found ≡ None

-- An answer stays where its requests are free, or are none; else it is told what is taken.
abbrev pub StaysFree : World → List Item → List Relation → Answer → Answer → Type 0
StaysFree w items linked (Asked requests) answer =
    ((answer ≡ Asked requests) × IsEmptyOrFree w items linked requests.items)
    ⊎ ((taken : Taken) × (answer ≡ NotFree taken) × IsTaken w items linked requests.items taken)
StaysFree w items linked first answer = answer ≡ first

-- of a package of a world: what is answered of what it holds stays free
abbrev pub AnswersFile : World → Ask → Held → Answer → Type 0
AnswersFile w a h answer = (first : Answer)
    × AnswersGiven w.frame a (ticket w a.«package») (holdings w a.«package»).items
    (holdings w a.«package»).links h
    first
    × StaysFree w (holdings w a.«package»).items (holdings w a.«package»).links first answer

-- a live package has a receipt of this number as its last, and holds this
pub record IsSeen (w : World) (p : List ℕ) (number : ℕ) (held : List Item × List Relation) : Type 0 where
  pub live : is_live w p ≡ true
  pub last : number ≡ ticket w p
  pub holdings : Some held ≡ holdings_answer w p

-- ---- of a list

-- what a text lists; or it is no list, its entries are none, or the reader failed
abbrev pub AreHeldIn : Option (List ℕ) → Option Held → Type 0
AreHeldIn text (Some h) = (entries : List Listed) × IfSome text (λ t. IsList t entries) × IsHeld entries h
AreHeldIn text None =
    ((fault : ListFault) × ((fault ≡ Read) ⊎ IfSome text (λ t. MeetsFirst t fault)))
    ⊎ ((entries : List Listed) × IfSome text (λ t. IsList t entries) × ((h : Held) → ¬ IsHeld entries h))

-- of a package that is live: the list is none, or its file is answered
abbrev pub AnswersLive : World → Ask → Option (List ℕ) → Answer → Type 0
AnswersLive w a text answer =
    ((answer ≡ NoList) × AreHeldIn text None)
    ⊎ ((h : Held) × AreHeldIn text (Some h) × AnswersFile w a h answer)

abbrev pub AnswersText : World → Ask → Option (List ℕ) → Answer → Type 0
AnswersText w a text answer =
    ((answer ≡ NoSuchPackage) × (is_live w a.«package» ≡ false))
    ⊎ ((is_live w a.«package» ≡ true) × AnswersLive w a text answer)

-- ---- whatever a store told

-- no request takes a package home
abbrev pub AsksNoMerge : Answer → Type 0
AsksNoMerge (Asked requests) = AllByRecursion (λ q. child_returned q.command ≡ None) requests.items
AsksNoMerge answer = Unit {0}
