-- A file that was brought home is held.
use Rattle.std.proofs.Common.{◌≡◌, ◌∙◌, ℕ, List, Ok, Err, Result, ap, arith, sym, subst, inl, inr, refl}
use Rattle.std.specs.Prelude.{◌⊎◌, [], true, Vec, Option, Some, None, length, take}
use Rattle.std.specs.declared.alloc.Global.{Global}
use Rattle.std.proofs.lemmas.List.{take_all}
use Rattle.std.proofs.lemmas.List.Elements.{All-from_recursion}
use Rattle.sqlite.specs.Held.{state}
use Rattle.sqlite.specs.State.{HasCleanDisk}
use Rattle.sqlite.specs.Store.{Ghosts}
use Rattle.sheet_types.specs.Custody.{ticket}
use Rattle.sheet_types.specs.Texts.{is_moment}
use Rattle.sheet_types.specs.World.{World, Package, holdings, is_live}
use Rattle.sheet_types.specs.declared.command.Item.{Item}
use Rattle.sheet_types.specs.declared.command.Relation.{Relation}
use Rattle.sheet_types.specs.declared.command.Request.{Request}
use Rattle.field_changes.specs.declared.held.Held.{Held}
use Rattle.field_faults.specs.declared.heads.HeadFault.{HeadFault}
use Rattle.field_faults.specs.declared.heads.HeadFault.TheVariants as head
use Rattle.field_faults.specs.Lines.{fault_lines}
use Rattle.field_home_laws.specs.Laws.{ChangesOf}
use Rattle.field_home_laws.specs.Free.{IsEmptyOrFree}
use Rattle.field_home_laws.proofs.Free.{free_file_comes_home}
use Rattle.world_changes.specs.Leaving.{AreClean}
use Rattle.world_members.specs.Members.{AllClean}
use Rattle.world.specs.Worlds.{Seen, StandsFor, IsRun}
use Rattle.manifest_csv.specs.Imports.{IsCarried, IsImported}
use Rattle.manifest_csv.specs.declared.importing.ImportFault.{ImportFault}
use Rattle.request_csv.specs.declared.lists.ReadFault.TheVariants as read
use Rattle.manifest_csv.specs.declared.importing.ImportFault.TheVariants.{Unread, Stopped, Unwritten}
use Rattle.command_requests.specs.Listing.{IsUntouched}
use Rattle.command_words.specs.declared.statuses.Outcome.{Outcome}
use Rattle.command_words.specs.declared.statuses.Outcome.TheVariants.{Done, Refused, Stopped as Ended}
use Rattle.command_folder.specs.Endings.{done, failed, no_memory}
use Rattle.command_folder.specs.declared.endings.Ending.{Ending}
use Rattle.command_folder.specs.declared.endings.Ending.TheVariants.{NoRequest, Usual}
use Rattle.command_field.specs.Answers.{AnswersFile, AnswersGiven, AnswersLive, AnswersText, AreHeldIn, AsksNoMerge}
use Rattle.command_field.specs.Answers.{StaysFree, head_answer}
use Rattle.command_field.specs.declared.asking.Answer.{Answer}
use Rattle.command_field.specs.declared.asking.Answer.TheVariants.{
  Asked,
  NoSuchPackage,
  NoList,
  OtherPackage,
  Stale,
  OtherSystem,
  OtherFrame,
  Items,
  TwoAlike,
  NotFree,
}
use Rattle.command_field.specs.declared.asking.Ask.{Ask}
use Rattle.command_bringing.specs.Brings.{Brings, EndsAnswer, IsBroughtHome, PrintsText, import_ending}
use Rattle.command_bringing.specs.Telling.{refusal_text}
use Rattle.command_bringing.specs.Homecoming.{ComesHome, IsHome}
use Rattle.command_bringing.specs.declared.bringing.Purpose.{Purpose}
use Rattle.command_bringing.specs.declared.bringing.Purpose.TheVariants.{ShowList, ShowSummary, CarryOut}

-- ---- endings that are not that all was done

not_stopped : (ending : Ending) (o : Outcome) → ending ≡ Usual o → (Usual o ≡ Usual Done → ⊥)
    → ending ≡ done → ⊥
not_stopped ending o is differ e = differ (sym is ∙ e)

no_import : (fault : ImportFault) → import_ending (Err fault) ≡ done → ⊥
no_import (Unread read.Memory) e = cc
no_import (Unread read.Header) e = cc
no_import (Unread (read.Record n)) e = cc
no_import (Unread read.Read) e = cc
no_import (Stopped n fault) e = cc
no_import Unwritten e = cc

not_printed : {W : Type 0} (writer writer' : W) (before after : Option (List ℕ)) (text : List ℕ) (ending : Ending)
    → PrintsText writer writer' before after text NoRequest ending → ending ≡ done → ⊥
not_printed writer writer' before after text ending it e = elim it [
  | inl printed ↦ elim printed [
    | inl x ↦ let wrong : NoRequest ≡ done = sym x.0 ∙ e in absurd (cc)
    | inr x ↦ let wrong : failed ≡ done = sym x.0 ∙ e in absurd (cc)
  ]
  | inr x ↦ let wrong : no_memory ≡ done = sym x.0 ∙ e in absurd (cc)
]

-- ---- the requests that were answered

module _ {S : Type 0} (g : Ghosts S) (a : Ask) (text : Option (List ℕ)) (timed : is_moment a.at.now ≡ true)
    (requests : Vec Request Global) where
  -- they were made of what the text lists
  record WasAnswered (w : World) : Type 0 where
    pub file : Held
    pub listed : AreHeldIn text (Some file)
    pub live : is_live w a.«package» ≡ true
    pub none : fault_lines w.frame (holdings w a.«package»).items a.more file ≡ []
    pub changes : ChangesOf w a.«package» (ticket w a.«package») a.at.now a.more file requests.items
    pub free : IsEmptyOrFree w (holdings w a.«package»).items (holdings w a.«package»).links requests.items

  no_head : (number : ℕ) (fault : HeadFault) → Asked requests ≡ head_answer number fault → ⊥
  no_head number head.OtherPackage e = cc
  no_head number head.Stale e = cc
  no_head number head.OtherSystem e = cc
  no_head number head.OtherFrame e = cc

  -- an answer that stayed was the first, and is free
  stayed : (w : World) (items : List Item) (linked : List Relation) (first : Answer)
      → StaysFree w items linked first (Asked requests)
      → (first ≡ Asked requests) × IsEmptyOrFree w items linked requests.items
  stayed w items linked (Asked qs) (inl it) =
      let same : qs ≡ requests = (let e : Asked requests ≡ Asked qs = it.0 in cc) in
      (sym it.0, subst (λ (q : Vec Request Global). IsEmptyOrFree w items linked q.items) same it.1)
  stayed w items linked (Asked qs) (inr it) = let wrong : Asked requests ≡ NotFree it.0 = it.1 in absurd (cc)
  stayed w items linked NoSuchPackage it = let wrong : Asked requests ≡ NoSuchPackage = it in absurd (cc)
  stayed w items linked NoList it = let wrong : Asked requests ≡ NoList = it in absurd (cc)
  stayed w items linked OtherPackage it = let wrong : Asked requests ≡ OtherPackage = it in absurd (cc)
  stayed w items linked (Stale n) it = let wrong : Asked requests ≡ Stale n = it in absurd (cc)
  stayed w items linked OtherSystem it = let wrong : Asked requests ≡ OtherSystem = it in absurd (cc)
  stayed w items linked OtherFrame it = let wrong : Asked requests ≡ OtherFrame = it in absurd (cc)
  stayed w items linked (Items lines) it = let wrong : Asked requests ≡ Items lines = it in absurd (cc)
  stayed w items linked TwoAlike it = let wrong : Asked requests ≡ TwoAlike = it in absurd (cc)
  stayed w items linked (NotFree taken) it = let wrong : Asked requests ≡ NotFree taken = it in absurd (cc)

  was_answered : (w : World) → AnswersText w a text (Asked requests) → WasAnswered w
  was_answered w told = elim told [
    | inl gone ↦ let wrong : Asked requests ≡ NoSuchPackage = gone.0 in absurd (cc)
    | inr here ↦ elim here.1 [
      | inl unlisted ↦ let wrong : Asked requests ≡ NoList = unlisted.0 in absurd (cc)
      | inr it ↦
          let x : Package = holdings w a.«package» in
          let kept = stayed w x.items x.links it.2.0 it.2.2 in
          let given : AnswersGiven w.frame a (ticket w a.«package») x.items x.links it.0 (Asked requests) =
          subst (λ first. AnswersGiven w.frame a (ticket w a.«package») x.items x.links it.0 first) kept.0 it.2.1 in
          elim given [
            | inl met ↦ absurd (no_head (ticket w a.«package») met.0 met.2)
            | inr answered ↦ record {
              file = it.0;
              listed = it.1;
              live = here.0;
              none = answered.1.0;
              changes = answered.1.1;
              free = kept.1;
            }
          ]
    ]
  ]

  module _ (old read new : Seen S) (failed fails : ℕ) (before after : Option (List ℕ))
      (untouched : IsUntouched g old read)
      (told : AllClean g read.members → (w : World) → StandsFor g old w → AnswersText w a text (Asked requests))
      (none : AsksNoMerge (Asked requests)) (x : Unit {0}) (it :
      IsImported g requests.items read new failed fails before after (Ok x)) where
    ran_whole : IsRun g requests.items read it.replies new failed fails
    ran_whole = subst (λ qs. IsRun g qs read it.replies new failed fails)
        (ap (λ n. take n requests.items) it.written.0 ∙ take_all (length requests.items) requests.items
        (omega arith))
        it.ran

    still_stands : (w : World) → StandsFor g old w → StandsFor g read w
    still_stands w stands = elim untouched [
      | inl same ↦ subst (λ seen. StandsFor g seen w) (sym same) stands
      | inr only ↦ only.stands w stands
    ]

    -- no connection left the world, since no request is a merge
    none_gone : AreClean g ran_whole.gone
    none_gone = subst (AreClean g) (sym (ran_whole.kept none))
        (All-from_recursion (λ h. HasCleanDisk (state g h)) [] tt)

    came_home : AllClean g new.members → (w : World) → StandsFor g old w
        → (next : World) × StandsFor g new next × IsHome a text w next
    came_home clean w stands =
        let was = was_answered w (told (ran_whole.clean clean none_gone) w stands) in
        let run = ran_whole.run clean none_gone w (still_stands w stands) in (
          run.0,
          run.2,
          record {
            file = was.file;
            listed = was.listed;
            requests = requests.items;
            changes = was.changes;
            holds = (free_file_comes_home w a.«package» (ticket w a.«package») a.at.now a.more was.file
                requests.items
                it.replies run.0 stands.members.register was.live timed was.none was.changes was.free run.1
                it.written.1).1;
          },
        )

-- ---- whatever was answered

module _ {S : Type 0} (g : Ghosts S) {W : Type 0} (writer writer' : W) (before after : Option (List ℕ)) (a : Ask)
    (text : Option (List ℕ)) (old read new : Seen S) (failed fails : ℕ) (ending : Ending)
    (is_done : ending ≡ done)
    (timed : is_moment a.at.now ≡ true)
    (untouched : IsUntouched g old read) where
  abbrev Home : Type 0
  Home = AllClean g new.members → (w : World) → StandsFor g old w
      → (next : World) × StandsFor g new next × IsHome a text w next

  carried_home : (requests : Vec Request Global) (r : Result (Unit {0}) ImportFault)
      → (AllClean g read.members → (w : World) → StandsFor g old w → AnswersText w a text (Asked requests))
      → AsksNoMerge (Asked requests) → ending ≡ import_ending r
      → IsCarried g requests.items read new failed fails before after r → Home
  carried_home requests (Ok x) told none end it =
      came_home g a text timed requests old read new failed fails before after untouched told none x it
  carried_home requests (Err fault) told none end it = absurd (no_import fault (sym end ∙ is_done))

  answered_home : (answer : Answer)
      → (AllClean g read.members → (w : World) → StandsFor g old w → AnswersText w a text answer)
      → AsksNoMerge answer → EndsAnswer g writer writer' before after CarryOut answer read new failed fails ending
      → Home
  answered_home (Asked requests) told none ends = carried_home requests ends.0 told none ends.1 ends.2
  answered_home NoSuchPackage told none ends =
      absurd (not_printed writer writer' before after (refusal_text NoSuchPackage) ending ends.1 is_done)
  answered_home NoList told none ends =
      absurd (not_printed writer writer' before after (refusal_text NoList) ending ends.1 is_done)
  answered_home OtherPackage told none ends =
      absurd (not_printed writer writer' before after (refusal_text OtherPackage) ending ends.1 is_done)
  answered_home (Stale n) told none ends =
      absurd (not_printed writer writer' before after (refusal_text (Stale n)) ending ends.1 is_done)
  answered_home OtherSystem told none ends =
      absurd (not_printed writer writer' before after (refusal_text OtherSystem) ending ends.1 is_done)
  answered_home OtherFrame told none ends =
      absurd (not_printed writer writer' before after (refusal_text OtherFrame) ending ends.1 is_done)
  answered_home (Items lines) told none ends =
      absurd (not_printed writer writer' before after (refusal_text (Items lines)) ending ends.1 is_done)
  answered_home TwoAlike told none ends =
      absurd (not_printed writer writer' before after (refusal_text TwoAlike) ending ends.1 is_done)
  answered_home (NotFree taken) told none ends =
      absurd (not_printed writer writer' before after (refusal_text (NotFree taken)) ending ends.1 is_done)

module _ {S : Type 0} (g : Ghosts S) {W : Type 0} (writer writer' : W) (before after : Option (List ℕ)) (a : Ask)
    (text : Option (List ℕ)) (old new : Seen S) (failed fails : ℕ) (ending : Ending) where
  pub answer_home : (purpose : Purpose) (answer : Answer) (read : Seen S) → IsUntouched g old read
      → (AllClean g read.members → (w : World) → StandsFor g old w → AnswersText w a text answer)
      → AsksNoMerge answer → EndsAnswer g writer writer' before after purpose answer read new failed fails ending
      → ComesHome g a text purpose old new ending
  answer_home ShowList answer read untouched told none ends = λ wrong. absurd (cc)
  answer_home ShowSummary answer read untouched told none ends = λ wrong. absurd (cc)
  answer_home CarryOut answer read untouched told none ends = λ carries is_done timed. answered_home g writer writer'
      before after a text old read new failed fails ending is_done timed untouched answer told none ends

-- memory or a store gave out
pub stopped_home : {S : Type 0} (g : Ghosts S) (a : Ask) (text : Option (List ℕ)) (purpose : Purpose)
    (old new : Seen S) (ending : Ending) (o : Outcome) → ending ≡ Usual o → (Usual o ≡ Usual Done → ⊥)
    → ComesHome g a text purpose old new ending
stopped_home g a text purpose old new ending o is differ = λ carries is_done timed.
    absurd (not_stopped ending o is differ is_done)
