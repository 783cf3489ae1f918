-- Stores that are opened.
use Rattle.std.specs.Prelude.{◌≡◌, ℕ, List, ◌++◌, map}
use Rattle.std.proofs.Common.{subst}
use Rattle.std.proofs.lemmas.List.Sorted.{All-permutation, IsPermutation-sym}
use Rattle.sqlite.specs.Held.{Held, state}
use Rattle.sqlite.specs.State.{HasCleanDisk}
use Rattle.sqlite.specs.Store.{Ghosts}
use Rattle.sheet_types.specs.declared.command.Request.{Request}
use Rattle.sheet_kept_laws.specs.Laws.{HaveTypes}
use Rattle.world_changes.specs.Leaving.{AreClean}
use Rattle.world_members.specs.declared.members.Member.{Member}
use Rattle.world.specs.Asked.{IsRunWith}
use Rattle.world.specs.Worlds.{IsHeld}
use Rattle.opening.specs.Recovered.{IsRecovered, IsUnopened}
use Rattle.opening.specs.declared.recovering.Recovered.{Recovered}
use Rattle.opening.specs.declared.recovering.Unopened.{Unopened}
use Rattle.opening_laws.specs.Laws as laws
use Rattle.opening_laws.proofs.Leavings.{with_strays}
use Rattle.promises.specs.Openings.{OpensCertified, RefusesWithCause, OpensAgain}
use Rattle.promises.specs.declared.reopening.Resumed.{Resumed}
use Rattle.promises.proofs.Begun.{timely_last}
use Rattle.promises.proofs.Disks.{both_clean, stores_clean}
use Rattle.promises.proofs.Given.{given_by_run}

module _ {S : Type 0} (g : Ghosts S) where
  -- the stores that were opened are those that are handed out
  all_clean : (stores : List (Held S)) (found : Recovered S) (is : IsRecovered g stores found)
      → AreClean g (map (λ m. m.conn) found.world.members ++ found.strays.items) → AreClean g is.now
  all_clean stores found is clean =
      let there : List (Held S) = map (λ (m : Member S). m.conn) found.world.members ++ found.strays.items in
      All-permutation (λ h. HasCleanDisk (state g h)) there is.now (IsPermutation-sym is.now there is.kept) clean

  pub opens_certified : laws.OpenedIsTimely g → (stores : List (Held S)) (found : Recovered S)
      → IsHeld g found.world → IsRecovered g stores found → OpensCertified g stores found
  opens_certified timely stores found is_held is clean =
      let now = all_clean stores found is clean in
      let opened = is.opened now in (
        opened.views,
        opened.right,
        (
          opened.world,
          opened.stand,
          (
            opened.is.members.register,
            timely stores found is
                now is_held.counted,
          ),
          opened.is,
          is.opens now,
        ),
      )

  pub refuses_with_cause : (stores : List (Held S)) (refused : Unopened S) → IsUnopened g stores refused
      → RefusesWithCause g stores refused
  refuses_with_cause stores refused is clean = (is.fault clean, is.others_read clean, is.strays_read clean)

  module _ {H : Type 0} (Asked : List ℕ → H → H → Type 0) (Taken : List ℕ → S → H → H → Type 0) where
    pub opens_again : {Fails : H → ℕ} → laws.OpensAgain g → laws.LeftIsStores g
        → (stores : List (Held S)) (found : Recovered S)
        (requests : List Request) (resumed : Resumed S) (failed fails : ℕ) (s t : H)
        → resumed.strays.items ≡ found.strays.items → HaveTypes requests → IsRecovered g stores found
        → IsRunWith g Asked Taken Fails requests found.world resumed.replies.items resumed.world failed fails s t
        → OpensAgain g Asked Taken stores requests s t resumed
    opens_again law left stores found requests resumed failed fails s t same types is ran w contents again kept
        among reopened more =
        let shelf = given_by_run g Asked Taken requests found.world resumed.replies.items resumed.world failed fails
        s t ran in
        record {
          stores = shelf.0;
          given = shelf.1;
          so = λ clean disks strays.
              let gone = shelf.2 disks in
              let was = ran.run.clean clean gone in
              let now = all_clean stores found is
              (both_clean g _ found.strays.items (stores_clean g found.world.members was)
              (subst (λ x. AreClean g x) same strays)) in
              let it = ran.run.registers clean gone w
              (law w stores found kept (with_strays g w again stores more
              (left w contents again among reopened).0) is now) in (
                it.0,
                it.1,
                (
                  it.2.members.register,
                  timely_last w requests resumed.replies.items it.0 types kept.1
                      it.1,
                ),
                it.2,
              );
        }
