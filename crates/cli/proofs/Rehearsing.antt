-- A rehearsal, by what its import and its packages come to.
use Rattle.std.proofs.Common.{◌≡◌, ◌≢◌, ◌∙◌, refl, sym, subst, ℕ, List, Option, IfSome, Result}
use Rattle.std.proofs.Common.{Ok, Err, MatchResult}
use Rattle.std.proofs.Common.{inl, inr, take, length, slice_index_or}
use Rattle.std.specs.Io.KnownBytes.{Appends}
use Rattle.std.proofs.KnownBytes.{Appends-trans}
use Rattle.sqlite.specs.Held.{Held}
use Rattle.sqlite.specs.Steps.{over_memory}
use Rattle.sqlite.specs.Store.{Ghosts}
use Rattle.sqlite_trees.specs.View.{doubt}
use Rattle.sheet_types.specs.Step.{Run}
use Rattle.sheet_types.specs.World.{World}
use Rattle.sheet_types.specs.declared.command.Request.{Request}
use Rattle.sheet_types.specs.declared.frame.Frame.{Frame}
use Rattle.world_changes.specs.Leaving.{AreClean}
use Rattle.world_members.specs.Members.{AllClean}
use Rattle.world.specs.Worlds.{Seen, StandsFor}
use Rattle.manifest_csv.specs.Imports.{Imports, IsImported, IsWhyUnread}
use Rattle.request_csv.specs.RequestLists.{IsList}
use Rattle.manifest_csv.specs.Sent.{WentOut}
use Rattle.manifest_csv.specs.declared.importing.ImportFault.{ImportFault}
use Rattle.manifest_csv.specs.declared.importing.ImportFault.TheVariants.{Unread, Stopped as Interrupted, Unwritten}
use Rattle.request_csv.specs.declared.lists.ReadFault.{ReadFault}
use Rattle.request_csv.specs.declared.lists.ReadFault.TheVariants.{Header, Record, Read, Memory}
use Rattle.manifest_csv.proofs.SentFacts.{went_out_past}
use Rattle.command_words.specs.Arguments.{Asks, IsFirstUnread}
use Rattle.command_words.specs.Endings.{import_outcome}
use Rattle.cli.specs.Rehearsals.{Ran, report, live_text, IsInMemory, StandsOn, Writes, Rehearses}
use Rattle.cli.specs.Servings.{HandsOn}
use Rattle.command_words.specs.declared.statuses.What.{What}
use Rattle.command_words.specs.declared.statuses.What.TheVariants.{BadUuid, BadMoment, BadFrame, BadNumber, BadList}
use Rattle.command_words.specs.declared.statuses.Failure.{Failure}
use Rattle.command_words.specs.declared.statuses.Outcome.TheVariants.{Done, Stopped}
use Rattle.command_words.proofs.FrameTexts.{frame_once, in_range}

-- the engine's arrays have no disk
pub arrays_clean : IsInMemory over_memory
unfolding doubt
arrays_clean h = refl

-- an import that did not go through is not done
pub never_done : (fault : ImportFault) → import_outcome fault ≢ Done
never_done (Unread Memory) = λ h. let e = h in cc
never_done (Unread Header) = λ h. let e = h in cc
never_done (Unread (Record n)) = λ h. let e = h in cc
never_done (Unread Read) = λ h. let e = h in cc
never_done (Interrupted n fault) = λ h. let e = h in cc
never_done Unwritten = λ h. let e = h in cc

-- a list that was not read: nothing is carried out and nothing is written
pub unread : {W : Type 0} (w : World) (text : Option (List ℕ)) (writer : W) (held : Option (List ℕ))
    (fault : ReadFault) → IsWhyUnread text fault → Rehearses w text writer writer held held
    (import_outcome (Unread fault))
unread w text writer held Memory why = inl refl
unread w text writer held Header why = (refl, refl, (Header, (λ h. let e = h in cc), why))
unread w text writer held (Record n) why = (refl, refl, (Record n, (λ h. let e = h in cc), why))
unread w text writer held Read why = (refl, refl, (Read, (λ h. let e = h in cc), why))

module _ {S W : Type 0} (g : Ghosts S) (clean : IsInMemory g) (contents : W → Option (List ℕ)) (w : World)
    (text : Option (List ℕ)) (old new : Seen S) (stands : StandsFor g old w) where
  all_clean : (seen : Seen S) → AllClean g seen.members
  all_clean seen = λ k d within. clean (slice_index_or seen.members k d).conn

  are_clean : (stores : List (Held S)) → AreClean g stores
  are_clean stores = λ k d within. clean (slice_index_or stores k d)

  -- what an import carried out, of the world that it began with
  module _ (failed fails : ℕ) (before after : Option (List ℕ)) (r : Result (Unit {0}) ImportFault)
      (requests : List Request) (list : IfSome text (λ t. IsList t requests))
      (it : IsImported g requests old new failed fails before after r) where
    abbrev ran_next : (next : World) × Run w (take (length it.replies) requests) it.replies next
        × StandsFor g new next
    ran_next = it.ran.run (all_clean new) (are_clean it.ran.gone) w stands

    abbrev ran : Ran w text
    ran = record {
      requests = requests;
      list = list;
      replies = it.replies;
      next = ran_next.0;
      some = it.some;
      run = ran_next.1;
    }

  -- an import that did not go through
  pub import_ended : (failed fails : ℕ) (writer writer' : W) (fault : ImportFault)
      → Imports g text old new failed fails writer writer' (contents writer) (contents writer') (Err fault)
      → Rehearses w text writer writer' (contents writer) (contents writer') (import_outcome fault)
  import_ended failed fails writer writer' (Unread Memory) it = inl it.3
  import_ended failed fails writer writer' (Unread Header) it = (refl, it.3, (Header, (λ h. let e = h in cc), it.0))
  import_ended failed fails writer writer' (Unread (Record n)) it =
      (refl, it.3, (Record n, (λ h. let e = h in cc), it.0))
  import_ended failed fails writer writer' (Unread Read) it = (refl, it.3, (Read, (λ h. let e = h in cc), it.0))
  import_ended failed fails writer writer' (Interrupted n fault) it =
      inr (inl (
        ran failed fails (contents writer) (contents writer') (Err (Interrupted n fault)) it.0 it.1 it.2,
        fault,
        it.2.written.1,
        refl,
        it.2.written.2,
      ))
  import_ended failed fails writer writer' Unwritten it = inr
      (inr (inl (
        ran failed fails (contents writer) (contents writer') (Err Unwritten) it.0 it.1 it.2,
        refl,
        it.2.written,
      )))

  -- an import that went through, and the packages after it
  module _ {V : Type 0} (first end : V) (failed fails : ℕ) (before mid after : Option (List ℕ)) (writer writer' : W)
      (x : Unit {0}) (it : Imports g text old new failed fails writer writer' before mid (Ok x)) (last : Seen S) where
    abbrev carried : Ran w text
    carried = ran failed fails before mid (Ok x) it.0 it.1 it.2

    left : StandsFor g new carried.next
    left = (ran_next failed fails before mid (Ok x) it.0 it.1 it.2).2

    -- it is done, and the value stands for the world that the list led to
    pub all_handed : (y : Unit {0}) → StandsOn g new last → Writes g live_text new last mid after (Ok y)
        → HandsOn g w text first end before after (Ok last)
    all_handed y on packages = (
      (
        carried,
        (it.2.written.0, it.2.written.1),
        left.members.register.arranged,
        Appends-trans before mid after
            (report carried) (live_text carried.next) it.2.written.2 (packages (all_clean last) carried.next left),
      ),
      on.1 carried.next left,
    )

    pub packages_failed : (failure : Failure) → Writes g live_text new last mid after (Err failure)
        → Rehearses w text first end before after (Stopped failure)
    packages_failed failure packages =
        inr (inr (inr (
          carried,
          (it.2.written.0, it.2.written.1),
          went_out_past before mid after (report carried)
              (live_text carried.next) it.2.written.2 (packages (all_clean last) carried.next left),
        )))

-- ---- what is due, in other words

pub due_same : {S : Type 0} (g : Ghosts S) (due other : World → List ℕ) (old new : Seen S)
    (before after : Option (List ℕ)) (r : Result (Unit {0}) Failure)
    → ((w : World) → StandsFor g old w → due w ≡ other w) → Writes g due old new before after r
    → Writes g other old new before after r
due_same g due other old new before after r same it = λ clean w stands. subst
    (λ t. MatchResult r (λ _. Appends before after t) (λ _. WentOut before after t)) (same w stands)
    (it clean w stands)

-- ---- the words

module _ (archive at frame uuid moment : List ℕ) (asked : Frame)
    (asks : Asks archive at frame uuid moment asked) where
  -- words of which one cannot be read ask for nothing
  pub asks_read : (what : What) → IsFirstUnread archive at frame what → ⊥
  asks_read BadUuid unread = let none = unread in let named = asks.named in cc
  asks_read BadMoment unread = let none = unread.1 in let timed = asks.timed in cc
  asks_read BadFrame unread = unread.2 asked asks.framed
  asks_read BadNumber unread = absurd unread
  asks_read BadList unread = absurd unread

  -- and words ask for one archive
  pub one_asked : (uuid' moment' : List ℕ) (asked' : Frame) → Asks archive at frame uuid' moment' asked'
      → (uuid ≡ uuid') × (asked ≡ asked')
  one_asked uuid' moment' asked' other =
      let named = asks.named in
      let named' = other.named in (
        cc,
        frame_once asked asked' (in_range asked asks.framed.good) (in_range asked' other.framed.good)
            (sym asks.framed.written ∙ other.framed.written),
      )
