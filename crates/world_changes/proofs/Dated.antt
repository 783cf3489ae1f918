-- The stores of the members that a change wrote say its moment as that of the last change.
use Rattle.std.specs.Prelude.{◌≡◌, ℕ, zero, suc, true, List, [], ◌∷◌, Some, slice_get}
use Rattle.std.specs.Prelude.{slice_set, refl, Ok, IsTrue}
use Rattle.std.proofs.Common.{sym, subst, ◌∙◌, inl, inr, arith}
use Rattle.std.specs.List.{insert, remove}
use Rattle.std.proofs.lemmas.List.Elements.{All-from_recursion, recursion_from_All}
use Rattle.std.proofs.lemmas.Option.{slice_get_within}
use Rattle.sqlite.specs.Effect.{Database}
use Rattle.sqlite.specs.Store.{Ghosts}
use Rattle.sqlite.specs.Held.{Held, state}
use Rattle.sqlite.specs.State.{State, HasCleanDisk}
use Rattle.sheet_types.specs.Cut.{Cut}
use Rattle.sheet_types.specs.Texts.{is_moment}
use Rattle.sheet_types.specs.World.{World, Package}
use Rattle.sheet_types.specs.declared.command.Command.{Command}
use Rattle.sheet_types.specs.declared.frame.Frame.{Frame}
use Rattle.sheet_types.specs.declared.receipt.Receipt.{Receipt}
use Rattle.sheet_types.specs.declared.receipt.Sums.{Sums}
use Rattle.sheet_types.proofs.Same.{In, Contains-In}
use Rattle.store_sql.specs.Staying.{Stays}
use Rattle.store_sql.specs.Transactions.{Turns}
use Rattle.store_sql.proofs.StoreLemmas.{at_set}
use Rattle.identity_register.specs.Calls.{HasLastChange}
use Rattle.identity_register.specs.Creation.{Keeps, new_package}
use Rattle.identity_register.specs.Reads.{Reads}
use Rattle.identity_register.specs.declared.selection.Selection.{Selection}
use Rattle.custody.specs.Homing.{FromClean}
use Rattle.register_lending.specs.Lending.{Fills, Lends, TakesHome}
use Rattle.register_lending.specs.Selecting.{IsSelectionOf, IsPart, MayCome}
use Rattle.world_loans.specs.Loans.{IsLent, IsReturned, place_without}
use Rattle.world_loans.specs.declared.loans.Lending.{Lending}
use Rattle.world_loans.specs.declared.loans.Returning.{Returning}
use Rattle.world_loans.proofs.Listing.{still_there}
use Rattle.world_members.specs.Carrying.{SaysMoment}
use Rattle.world_members.specs.Laws.{package_of}
use Rattle.world_members.specs.Members.{AllClean, IsMember, AreMembers}
use Rattle.world_members.specs.Turning.{IsDue}
use Rattle.world_members.specs.declared.members.Member.{Member}
use Rattle.world_members.proofs.Standing.{zip_at}
use Rattle.world_changes.specs.Dating.{SaysLastChange, AreDated, IsDated}
use Rattle.world_changes.specs.Leaving.{AreClean}
use Rattle.world_changes.specs.Splits.{member_of_child}
use Rattle.world_changes.specs.Turns.{TakesTurn}
use Rattle.world_changes.proofs.Lent.{all_but_inserted, inserted_has, read_at}
use Rattle.world_changes.proofs.Placing.{zip_remove, zip_removed}
use Rattle.world_changes.proofs.Turned.{turn_clean_last}

-- ---- elements of lists

-- what was set is one
in_set : {A : Type 0} (xs : List A) (at : ℕ) (was now : A) → slice_get xs at ≡ Some was
    → In now (slice_set xs at now)
in_set [] at was now place = absurd (let e = place in cc)
in_set (x ∷ xs) zero was now place = inl refl
in_set (x ∷ xs) (suc at) was now place = inr (in_set xs at was now place)

-- and so is what came
in_inserted : {A : Type 0} (xs : List A) (at : ℕ) (x : A) → In x (insert xs at x)
in_inserted [] zero x = inl refl
in_inserted [] (suc at) x = inl refl
in_inserted (y ∷ xs) zero x = inl refl
in_inserted (y ∷ xs) (suc at) x = inr (in_inserted xs at x)

-- and what was there
in_beside : {A : Type 0} (xs : List A) (at : ℕ) (x y : A) → In y xs → In y (insert xs at x)
in_beside [] at x y there = absurd there
in_beside (z ∷ xs) zero x y there = inr there
in_beside (z ∷ xs) (suc at) x y there = elim there [ inl e ↦ inl e | inr j ↦ inr (in_beside xs at x y j) ]

-- ---- the store of a child

-- a store that was made and filled
pub filled_dated : {E : Type 0} (f : Frame) (c : Cut) (from empty : Package) (s : Selection) (at : List ℕ)
    (source : State) (db : Database) (made filled : State)
    → is_moment at ≡ true → (HasCleanDisk made → Keeps f empty made)
    → Turns {X = Unit {0}} {E = E} (λ _. FromClean source (Fills s at db)) made filled (Ok tt)
    → HasCleanDisk filled → HasCleanDisk source → IsSelectionOf c s → Reads f from db → IsPart c from
    → MayCome c empty → HasLastChange f at filled.now
filled_dated f c from empty s at source db made filled moment keeps turns clean clean_source selected read part come =
    let done = turns.done clean in
    let was : Keeps f empty made = keeps (omega (arith, turns.survives.clean, clean)) in
    (done.0 clean_source moment c f from empty selected read part was.reads come).1

module _ {S : Type 0} (g : Ghosts S) where
  -- of the parent that the member at the place reads as
  pub child_dated : (f : Frame) (w next : World) (count : ℕ) (due : Lending) (old : List (Member S)) (was : Member S)
      (child : Held S) → slice_get old due.at ≡ Some was → IsTrue (state g was.conn).is_open → f ≡ w.frame
      → AreMembers g old count w → IsLent w next due
      → (is_moment due.receipt.at ≡ true → (c : Cut) (from : Package) → IsSelectionOf c due.selection
      → Reads f from (state g was.conn).now → IsPart c from
      → MayCome c (new_package due.child (Some due.parent) due.depth due.receipt.seq)
      → HasLastChange f due.receipt.at (state g child).now)
      → HasLastChange w.frame due.receipt.at (state g child).now
  child_dated f w next count due old was child place opened same are lent made =
      let reads : Reads f lent.parent (state g was.conn).now =
      subst (λ v. Reads v lent.parent (state g was.conn).now) (sym same)
      (read_at g w count old due.at was lent.parent place lent.place opened are) in
      subst (λ v. HasLastChange v due.receipt.at (state g child).now) same
      (made lent.receipt.moment lent.taken lent.parent lent.selected reads lent.part lent.come)

  -- ---- the members

  abbrev Clean : Member S → Type 0
  Clean m = HasCleanDisk (state g m.conn)

  -- the package at the place of a member
  is_there : (w : World) (old : List (Member S)) (count : ℕ) (at : ℕ) (was : Member S) (p : Package)
      → slice_get old at ≡ Some was → slice_get w.packages at ≡ Some p → AreMembers g old count w
      → IsMember g w was p
  is_there w old count at was p place there are =
      let here = zip_at (IsMember g w) old w.packages at was are.each place in
      let both : Some here.0 ≡ Some p = sym here.1 ∙ there in
      let same : here.0 ≡ p = cc in
      subst (IsMember g w was) same here.2

  -- one member's store was changed by a command of its package
  pub turned_dated : {E : Type 0} (r : Receipt) (command : Command) (sums : Sums) (old : List (Member S)) (at : ℕ)
      (was now : Member S) → slice_get old at ≡ Some was → now.uuid ≡ was.uuid
      → (IsTrue (state g now.conn).is_open → IsTrue (state g was.conn).is_open)
      → Turns {X = Unit {0}} {E = E} (λ _. SaysMoment r command) (state g was.conn) (state g now.conn) (Ok tt)
      → (w : World) (count : ℕ) → AllClean g (slice_set old at now) → AreMembers g old count w
      → IsDue w at r command sums
      → AreDated g w.frame r.at (package_of command ∷ []) (slice_set old at now)
  turned_dated r command sums old at was now place same opened turns w count clean are due =
      let disk : HasCleanDisk (state g now.conn) = at_set Clean old at now (slice_get_within old at was place) clean in
      let done = turns.done disk in
      let is : IsMember g w was due.holds = is_there w old count at was due.holds place due.place are in (
        record {
          member = now;
          stands = Contains-In now (slice_set old at now) (in_set old at was now place);
          named = same ∙ is.uuid ∙ due.named;
          dated = done.0 w.frame due.holds (is.reads (opened done.1.is_open)) due.fits;
        },
        tt,
      )

  -- a parent lent, and the child came to its place
  pub lent_dated : {E : Type 0} (due : Lending) (child : Held S) (old mid : List (Member S))
      → TakesTurn g {E = E} (Lends due.receipt due.selection) due.left due.receipt.seq old mid due.at (Ok tt)
      → (w next : World) (count : ℕ) → AllClean g (insert mid due.child_at (member_of_child due child))
      → AreMembers g old count w → IsLent w next due → IsDated g w.frame due.receipt.at child
      → AreDated g w.frame due.receipt.at (due.parent ∷ due.child ∷ [])
      (insert mid due.child_at (member_of_child due child))
  lent_dated {E} due child old mid it w next count clean are is child_says =
      let own : Member S = member_of_child due child in
      let now : Member S = record it.was { conn = it.last; sums = due.left; ticket = due.receipt.seq } in
      let all = recursion_from_All Clean (insert mid due.child_at own) clean in
      let disks : AllClean g mid = All-from_recursion Clean mid (all_but_inserted Clean mid due.child_at own all) in
      let done = it.turns.done (turn_clean_last g {E = E} (Lends due.receipt due.selection) due.left due.receipt.seq
      old mid due.at (Ok tt) it disks) in
      let was : IsMember g w it.was is.parent = is_there w old count due.at it.was is.parent it.place is.place are in
      let there : In now mid = subst (In now) (sym it.others) (in_set old due.at it.was now it.place) in (
        record {
          member = now;
          stands = Contains-In now (insert mid due.child_at own) (in_beside mid due.child_at own now there);
          named = was.uuid ∙ sym is.above;
          dated = (done.0 is.taken w.frame is.parent is.selected (was.reads (it.was_open done.1.is_open)) is.part
              is.receipt).1;
        },
        (
          record {
            member = own;
            stands = Contains-In own (insert mid due.child_at own) (in_inserted mid due.child_at own);
            named = refl;
            dated = child_says (inserted_has Clean mid due.child_at own all);
          },
          tt,
        ),
      )

  -- a parent took home what a child held
  pub returned_dated : {E : Type 0} (due : Returning) (old : List (Member S)) (child : Member S) (last : Held S)
      (mid : List (Member S)) → slice_get old due.from ≡ Some child → Stays (state g child.conn) (state g last)
      → ¬ (due.from ≡ due.into)
      → TakesTurn g {E = E} (FromClean (state g last) (TakesHome due.receipt due.selection (state g child.conn).now))
      due.sums due.receipt.seq (remove old due.from) mid (place_without due.from due.into) (Ok tt)
      → (HasCleanDisk (state g last) → IsTrue (state g last).is_open)
      → (w next : World) (count : ℕ) → AllClean g mid → AreClean g (last ∷ []) → AreMembers g old count w
      → (is : IsReturned w next due) → AreDated g w.frame due.receipt.at (is.parent.uuid ∷ []) mid
  returned_dated {E} due old child last mid place stays two it opened w next count clean gone are is =
      let into : ℕ = place_without due.from due.into in
      let now : Member S = record it.was { conn = it.last; sums = due.sums; ticket = due.receipt.seq } in
      let gone_disk : HasCleanDisk (state g last) =
      (recursion_from_All (λ h. HasCleanDisk (state g h)) (last ∷ []) gone).0 in
      let done = it.turns.done (turn_clean_last g {E = E} (FromClean (state g last)
      (TakesHome due.receipt due.selection (state g child.conn).now)) due.sums due.receipt.seq
      (remove old due.from) mid into (Ok tt) it clean) in
      let child_is : IsMember g w child is.child =
      zip_removed (IsMember g w) old w.packages due.from child is.child place is.from are.each in
      let was : IsMember g w it.was is.parent =
      zip_removed (IsMember g w) (remove old due.from) (remove w.packages due.from) into it.was is.parent it.place
      (still_there w.packages due.from due.into is.parent is.into two)
      (zip_remove (IsMember g w) old w.packages due.from are.each) in (
        record {
          member = now;
          stands = Contains-In now mid (subst (In now) (sym it.others)
              (in_set (remove old due.from) into it.was now it.place));
          named = was.uuid;
          dated = (done.0 gone_disk is.taken w.frame is.child is.parent is.selected
              (child_is.reads (stays.was_open (opened gone_disk))) (was.reads (it.was_open done.1.is_open))
              is.may).1;
        },
        tt,
      )
