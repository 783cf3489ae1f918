-- What an opening makes of the stores that are handed in: a world that they stand for, or all of them handed back.
use Rattle.std.specs.Prelude.{◌≡◌, ℕ, List, [], ◌∷◌, length, Option, Some, None, IsTrue, Contains}
use Rattle.std.specs.List.{AllZip, AllByRecursion}
use Rattle.std.proofs.Common.{sym, ap, subst, ◌∙◌}
use Rattle.std.proofs.lemmas.List.Elements.{All-contains_itself, recursion_from_All}
use Rattle.sqlite.specs.Held.{Held, state}
use Rattle.sqlite.specs.Store.{Ghosts}
use Rattle.sheet_types.specs.World.{World}
use Rattle.sheet_types.specs.declared.frame.Frame.{Frame}
use Rattle.store_sql.proofs.Transactions.{Shuts, Settles}
use Rattle.sheet_laws.specs.Laws.{StoreSight}
use Rattle.opening_v1.specs.Either.{IsViewAtEither}
use Rattle.opening_verdict.specs.Views.{IsKeptOf}
use Rattle.opening_verdict.specs.declared.verdict.Kept.{Kept}
use Rattle.opening_verdict.specs.declared.verdict.Verdict.{Verdict}
use Rattle.world_changes.specs.Leaving.{AreAtRest, AreClean}
use Rattle.world.specs.Worlds.{StandsFor}
use Rattle.opening_stores.specs.Brought.{AreAllTurned}
use Rattle.opening_stores.specs.Judged.{AreJudged}
use Rattle.opening_stores.specs.Sharing.{strays_of}
use Rattle.opening_stores.specs.Stores.{AreOnlyRead, AreOpenWhereClean, StaysStore}
use Rattle.opening_stores.proofs.HandedIn.{all_turned_may, clean_before, read_of, reread, same_strays}
use Rattle.opening_stores.proofs.Members.{members_open, are_members, last_has, nothing_lost, strays_have, strays_rest}
use Rattle.opening.specs.Recovered.{seen_of_stores, StandsForSome, IsApart, IsOpened, IsReadOf, IsRecovered}
use Rattle.opening.specs.declared.recovering.Recovered.{Recovered}

module _ {S : Type 0} (g : Ghosts S) where
  abbrev Right : Held S → StoreSight → Type 0
  Right h v = IsTrue (state g h).is_open × IsViewAtEither (state g h).now v

  -- ---- the strays

  -- what a view that is not live is right of
  apart_of : (all : List StoreSight) (world : World) (hs : List (Held S)) (ks : List (Option Kept))
      (vs : List StoreSight) → AllZip Right hs vs → AllZip (IsKeptOf all world) ks vs
      → AllByRecursion (Contains all) vs → AllByRecursion (IsApart g all) (strays_of hs ks)
  apart_of all world [] ks vs right keep among = tt
  apart_of all world (h ∷ hs) ks [] right keep among = absurd right
  apart_of all world (h ∷ hs) [] (v ∷ vs) right keep among = tt
  apart_of all world (h ∷ hs) (Some k ∷ ks) (v ∷ vs) right keep among =
      apart_of all world hs ks vs right.1 keep.1 among.1
  apart_of all world (h ∷ hs) (None ∷ ks) (v ∷ vs) right keep among =
      last_has g (IsApart g all) (strays_of hs ks) h (apart_of all world hs ks vs right.1 keep.1 among.1)
      (v, among.0, right.0.0, right.0.1, keep.0)

  strays_apart : (read : List (Held S)) (kept : List (Option Kept)) (views : List StoreSight) (world : World)
      → AllZip Right read views → AllZip (IsKeptOf views world) kept views
      → AllByRecursion (IsApart g views) (strays_of read kept)
  strays_apart read kept views world right keep = apart_of views world read kept views right keep
      (recursion_from_All (Contains views) views (All-contains_itself views))

  -- ---- the world

  -- the members in the order of their UUIDs stand for the world
  stands_so : (read now : List (Held S)) (frame : Frame) (verdict : Verdict) (known : List (List ℕ))
      (it : AreJudged g read frame verdict known) → AreAllTurned g verdict.kept.items read now → AreClean g now
      → StandsFor g (seen_of_stores frame now verdict known) it.is.world
  stands_so read now frame verdict known it turned clean = record
      { frame = it.frame_is; members = are_members g read now frame verdict known it turned clean; known = it.knows }

  module _ (read now : List (Held S)) (frame : Frame) (verdict : Verdict) (known : List (List ℕ))
      (are_judged : AreClean g read → AreJudged g read frame verdict known)
      (turned : AreAllTurned g verdict.kept.items read now) where
    judged_so : AreClean g now → AreJudged g read frame verdict known
    judged_so clean = are_judged (clean_before g verdict.kept.items read now turned clean)

    -- stores that were judged and brought stand for a world
    pub stands : AreClean g now → StandsForSome g (seen_of_stores frame now verdict known)
    stands clean = let it = judged_so clean in (it.is.world, stands_so read now frame verdict known it turned clean)

    module _ (stores : List (Held S)) (found : Recovered S) (stay : AreOnlyRead g stores read)
        (world_is : found.world ≡ seen_of_stores frame now verdict known)
        (strays_are : found.strays.items ≡ strays_of now verdict.kept.items) where
      were_read : found.strays.items ≡ strays_of read verdict.kept.items
      were_read = strays_are ∙ same_strays g verdict.kept.items read now turned

      opened : AreClean g now → IsOpened g stores found
      opened clean =
          let it = judged_so clean in
          record {
            views = it.views;
            right = reread g stores read it.views stay it.right;
            world = it.is.world;
            stand = it.is.stands;
            is = subst (λ s. StandsFor g s it.is.world) (sym world_is)
                (stands_so read now frame verdict known it turned clean);
            apart = subst (AllByRecursion (IsApart g it.views)) (sym were_read)
                (strays_apart read verdict.kept.items it.views it.is.world it.right it.is.kept);
          }

      pub recovered : Shuts g → Settles g → AreAtRest g stores → AreOpenWhereClean g read
          → length verdict.kept.items ≡ length now → AreAtRest g now → IsRecovered g stores found
      recovered shuts settles rests opens long rests_now = record {
        now = now;
        brought = all_turned_may g shuts settles verdict.kept.items stores read now rests stay opens turned;
        kept = nothing_lost g now verdict.kept.items found.world.members found.strays.items long
            (ap (λ w. w.members) world_is) strays_are;
        strays_read = subst (AllByRecursion (IsReadOf g stores)) (sym were_read)
            (strays_have g (IsReadOf g stores) read verdict.kept.items
            (read_of g (Contains stores) (StaysStore g) stores read
            (recursion_from_All (Contains stores) stores (All-contains_itself stores)) stay));
        stray_rests = strays_rest g now verdict.kept.items found.strays.items strays_are rests_now;
        opened = opened;
        opens = λ clean. members_open g read now verdict.kept.items found.world.members (ap (λ w. w.members) world_is)
            turned opens clean;
        usable = ap (λ w. w.has_failed) world_is;
      }
