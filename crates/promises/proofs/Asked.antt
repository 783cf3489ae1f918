-- One request, and what a crash leaves after it.
use Rattle.std.specs.Prelude.{◌≡◌, ℕ, ◌↔◌, Bool, true, false, List, [], ◌++◌, map, refl, Ok, Err}
use Rattle.std.specs.Prelude.{IsTrue}
use Rattle.std.proofs.Common.{sym, subst, ◌∙◌, inl, inr}
use Rattle.std.proofs.lemmas.List.{append-nil}
use Rattle.std.proofs.lemmas.List.Sorted.{IsPermutation-refl}
use Rattle.std.specs.List.Sorted.{IsPermutation}
use Rattle.sqlite.specs.Store.{Ghosts}
use Rattle.sqlite.specs.Tree.{Trees}
use Rattle.sheet_types.specs.Step.{Step, IsFault, outcome, carried_out, receipt_of}
use Rattle.sheet_types.specs.declared.command.Command.{Command}
use Rattle.sheet_types.specs.declared.command.Command.TheVariants.{Add, Delete, Link, Unlink, Split, Merge}
use Rattle.sheet_laws.proofs.Accepting.{keeps}
use Rattle.sheet_types.specs.World.{World}
use Rattle.sheet_types.specs.declared.command.Request.{Request}
use Rattle.sheet_types.specs.declared.receipt.Receipt.{Receipt}
use Rattle.sheet_kept_laws.specs.Laws.{Reply}
use Rattle.store_sql.specs.Stores.{EachLeaves}
use Rattle.store_sql.proofs.StoreLemmas.{same_world}
use Rattle.world_changes.specs.Leaving.{AreClean, MayBeLeft, StandsAmong}
use Rattle.world_changes.proofs.HeldStores.{held_clean, members_left}
use Rattle.world_members.specs.Members.{AllClean, AllOpen}
use Rattle.world_members.specs.Turning.{LeftAs}
use Rattle.world_members.specs.declared.members.Member.{Member}
use Rattle.world.specs.Asked.{IsStepWith}
use Rattle.world.specs.Worlds.{Seen, StandsFor, IsHeld, IsStep, LeavesNoTrace, LeftAsItStands, held}
use Rattle.promises.specs.Calls.{AreOf, AreLeft, Asks}
use Rattle.promises.proofs.Given.{given_by_step}

-- a step that gave a receipt came to what the request makes
receipt_makes : (w : World) (q : Request) (receipt : Receipt) (next : World) → Step w q (Ok receipt) next
    → next ≡ (outcome w q).1
receipt_makes w q receipt next step =
    elim step [
      | inl done ↦ done.1
      | inr fault ↦ absurd (elim fault.0 [
        | inl memory ↦ (let e = memory in cc)
        | inr store
            ↦ (let e = store in cc)
      ])
    ]

-- a request leaves the frame of its world
frame_carried : (w : World) (r : Receipt) (command : Command) → (carried_out w r command).frame ≡ w.frame
frame_carried w r (Add p identity content) = refl
frame_carried w r (Delete p identity) = refl
frame_carried w r (Link p mapping base other) = refl
frame_carried w r (Unlink p mapping base other) = refl
frame_carried w r (Split p child mode rect) = refl
frame_carried w r (Merge child into ticket) = refl

same_frame : (w : World) (q : Request) → (outcome w q).1.frame ≡ w.frame
same_frame w q = keeps (λ v. v.frame ≡ w.frame) w q refl (λ _ _. frame_carried w (receipt_of w q) q.command)

not_a_fault : (receipt : Receipt) → ¬ IsFault (Ok receipt)
not_a_fault receipt fault = elim fault [ inl memory ↦ (let e = memory in cc) | inr store ↦ (let e = store in cc) ]

module _ {S : Type 0} (g : Ghosts S) (law : LeftAsItStands g) (q : Request) (old new : Seen S)
    (is_held : IsHeld g new) where
  -- a world that can be used leaves the packages of the world that its members leave
  whole : (w : World) → EachLeaves g (λ m. m.conn) (LeftAs w.frame) new.members w.packages
      → new.has_failed ≡ false
      → (contents : List Trees) → MayBeLeft g (held g new) contents → AreOf w contents
  whole w each usable contents may =
      let bare : MayBeLeft g (map (λ (m : Member S). m.conn) new.members) contents =
      subst (λ ss. MayBeLeft g (ss ++ map (λ (m : Member S). m.conn) new.members) contents)
      (is_held.none usable) may in
      record {
        read = contents;
        rest = [];
        all = subst (IsPermutation contents) (sym (append-nil contents)) (IsPermutation-refl contents);
        each = same_world g (λ (m : Member S). m.conn) (LeftAs w.frame) new.members w.packages contents each
            (members_left g new.members contents bare);
        beside = tt;
      }

  left_by : (reply : Reply) (failed : Bool) → new.has_failed ≡ failed → LeavesNoTrace g old reply new
      → (¬ IsFault reply → new.has_failed ≡ old.has_failed) → (is_fault : Bool)
      → IsTrue is_fault ↔ IsFault reply
      → (step : IsStep g q old reply new) → AreClean g (held g new) → AreClean g step.gone → (w : World)
      → StandsFor g old w → AllOpen g old.members → old.has_failed ≡ false → (contents : List Trees)
      → MayBeLeft g (held g new) contents → AreLeft w q reply failed contents
  left_by (Ok receipt) failed is no_trace usable is_fault faults step clean gone w stands opened was_usable contents
      may =
      let disks : AllClean g new.members = held_clean g new.strays new.members clean in
      let next = step.step disks gone w stands in
      let made : next.0 ≡ (outcome w q).1 = receipt_makes w q receipt next.0 next.1 in
      let open_new : AllOpen g new.members = step.opens disks gone (not_a_fault receipt) opened in
      subst (λ v. AreOf v contents) made
      (whole next.0 (law new next.0 is_held next.2 open_new) (usable (not_a_fault receipt) ∙ was_usable) contents may)
  left_by (Err why) false is no_trace usable is_fault faults step clean gone w stands opened was_usable contents may =
      whole w (no_trace refl is (held_clean g new.strays new.members clean) w stands opened) is contents may
  left_by (Err why) true is no_trace usable is_fault faults step clean gone w stands opened was_usable contents may =
      let fault : IsFault (Err why) = by_test is_fault refl in
      elim (step.crash fault was_usable w stands opened clean contents may) [
        | inl before ↦ inl before
        | inr after ↦ inr (subst (λ f. StandsAmong f (outcome w q).1.packages contents) (sym (same_frame w q)) after)
      ]
    where
      by_test : (b : Bool) → is_fault ≡ b → IsFault (Err why)
      by_test true e = faults.0 e
      by_test false e = absurd (let both : true ≡ false = sym is
          ∙ usable (λ fault. (let yes = faults.1 fault in let both : true ≡ false = sym yes ∙ e in cc))
          ∙ was_usable in cc)

module _ {S : Type 0} (g : Ghosts S) (law : LeftAsItStands g) {H : Type 0} (Asked : List ℕ → H → H → Type 0)
    (Taken : List ℕ → S → H → H → Type 0) (q : Request) (old new : Seen S) (before after : H)
    (is_held : IsHeld g new) where
  pub asks : {Fails : H → ℕ} (reply : Reply) → IsStepWith g Asked Taken Fails q old reply new before after
      → LeavesNoTrace g old reply new
      → (¬ IsFault reply → new.has_failed ≡ old.has_failed) → (is_fault : Bool)
      → IsTrue is_fault ↔ IsFault reply
      → Asks g Asked Taken q old new before after reply
  asks reply it no_trace usable is_fault faults =
      let shelf = given_by_step g Asked Taken q old reply new before after it in
      record {
        stores = shelf.0;
        given = shelf.1;
        clean = λ clean disks. it.step.clean clean (shelf.2 disks);
        step = λ clean disks. it.step.step clean (shelf.2 disks);
        left = λ clean disks w stands opened was_usable contents may.
            left_by g law q old new is_held reply new.has_failed refl no_trace usable is_fault faults it.step clean
            (shelf.2 disks) w stands opened was_usable contents may;
      }
