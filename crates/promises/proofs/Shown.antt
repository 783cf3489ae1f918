-- What is told of a world after a list of requests.
use Rattle.std.specs.Prelude.{◌≡◌, ℕ, List, map, option_map, Option, Result, Ok, IfOk}
use Rattle.std.proofs.Common.{ap, subst, Vec, Global}
use Rattle.sqlite.specs.Store.{Ghosts}
use Rattle.sheet_types.specs.Answers.{package_sights, sums_of, holdings_answer}
use Rattle.sheet_types.specs.World.{World, new_world}
use Rattle.sheet_types.specs.declared.command.Item.{Item}
use Rattle.sheet_types.specs.declared.command.Relation.{Relation}
use Rattle.sheet_types.specs.declared.command.Request.{Request}
use Rattle.sheet_types.specs.declared.frame.Frame.{Frame}
use Rattle.sheet_kept_laws.proofs.Unasked.{refused_as_unasked}
use Rattle.world.specs.Reading.{sight_of}
use Rattle.world.specs.Worlds.{Seen, StandsFor, IsRead, TellsOf}
use Rattle.promises.specs.Calls.{IsBegun, Looks}
use Rattle.promises.specs.Promises.{OneWorld, AsIfUnasked}
use Rattle.promises.specs.declared.running.Begun.{Begun}
use Rattle.promises.specs.declared.running.Shown.{Shown}
use Rattle.promises.specs.declared.running.Told.{Told}
use Rattle.promises.proofs.Begun.{run_of}

abbrev Found : Type 0
Found = Option (Vec Item Global × Vec Relation Global)

-- what is told of a package's holdings is the model's answer
abbrev Holds : List ℕ → World → Found → Type 0
Holds p w found = option_map (λ held. (held.0.items, held.1.items)) found ≡ holdings_answer w p

module _ {S : Type 0} (g : Ghosts S) where
  pub looks : {E : Type 0} (p : List ℕ) (old new : Seen S) (told : Told) (r : Result Found E)
      → r ≡ Ok told.holdings
      → TellsOf g (Holds p) old new r → IsRead g old new
      → ((w : World) → StandsFor g new w → told.sums ≡ sums_of w p)
      → ((w : World) → StandsFor g new w → map sight_of told.packages.items ≡ package_sights w)
      → Looks g p old new told
  looks p old new told r is tells read sums sights = record {
    strays = ap (λ (s : Seen S). s.strays) read.same;
    clean = read.clean;
    answers = λ clean w stands.
        let still : StandsFor g new w = read.stands w stands in
        let found : IfOk r (λ x. (v : World) → StandsFor g old v → Holds p v x) = tells clean in
        let held : (v : World) → StandsFor g old v → Holds p v told.holdings =
        subst (λ o. IfOk o (λ x. (v : World) → StandsFor g old v → Holds p v x)) is found in
        (still, record { packages = sights w still; sums = sums w still; holdings = held w stands });
  }

module _ {S : Type 0} (g : Ghosts S) {H : Type 0} (Asked : List ℕ → H → H → Type 0)
    (Taken : List ℕ → S → H → H → Type 0) (archive : List ℕ) (frame : Frame) (requests : List Request)
    (p : List ℕ)
    (before after : H) (was : Begun S) (new : Seen S) (told : Told)
    (is : IsBegun g Asked Taken archive frame requests before after was) (looked : Looks g p was.world new told)
  where
    abbrev shown : Shown S
    shown = record { world = new; replies = was.replies; told = told }

    pub one_world : OneWorld g Asked Taken archive frame requests p before after shown
    one_world = record {
      stores = is.stores;
      given = is.given;
      so = λ clean disks.
          let it = is.so (looked.clean clean) disks in
          let seen = looked.answers clean it.world it.stands in
          (it.world, it.run, seen.0, seen.1);
    }

    pub as_if_unasked : AsIfUnasked g Asked Taken archive frame requests p before after shown
    as_if_unasked = record {
      stores = is.stores;
      given = is.given;
      so = λ clean disks.
          let it = is.so (looked.clean clean) disks in
          let seen = looked.answers clean it.world it.stands in (
            it.world,
            refused_as_unasked (new_world archive frame) requests was.replies.items it.world
                (run_of (new_world archive frame) requests was.replies.items it.world it.run),
            seen.0,
            seen.1,
          );
    }
