-- Which stores of members are written to: in a turn, by a member that comes back to its place, and after a look.
use Rattle.std.specs.Prelude.{◌≡◌, ℕ, zero, suc, List, [], ◌∷◌, Option, Some, slice_get, slice_set}
use Rattle.std.specs.Prelude.{refl, Result, Ok}
use Rattle.std.specs.Prelude.{Err}
use Rattle.std.proofs.Common.{sym, ap, subst, ◌∙◌, inl, inr}
use Rattle.std.specs.List.{insert, remove}
use Rattle.sqlite.specs.Effect.{Database}
use Rattle.sqlite.specs.Held.{Held, state}
use Rattle.sqlite.specs.Store.{Ghosts}
use Rattle.sheet_types.specs.declared.command.Command.{Command}
use Rattle.sheet_types.specs.declared.receipt.Receipt.{Receipt}
use Rattle.sheet_types.specs.declared.receipt.Sums.{Sums}
use Rattle.store_sql.specs.Staying.{Stays}
use Rattle.store_sql.proofs.Staying.{stays_then}
use Rattle.world_changes.specs.Turns.{TakesTurn, after_turn}
use Rattle.world_changes.specs.Writing.{AllStayBut, AllStayButOne, WritesTwoAtMost}
use Rattle.world_members.specs.Members.{AllStay, StaysMember}
use Rattle.world_members.specs.Turning.{CarriesOutAt, turned}
use Rattle.world_members.specs.declared.members.Member.{Member}
use Rattle.world_members.proofs.Standing.{all_stay_then}
use Rattle.world_changes.proofs.Placing.{zip_remove}
use Rattle.world_changes.proofs.Surviving.{zip_from}

module _ {S : Type 0} (g : Ghosts S) where
  one_then : (a b c : Member S) → StaysMember g a b → StaysMember g b c → StaysMember g a c
  one_then a b c first next = (all_stay_then g (a ∷ []) (b ∷ []) (c ∷ []) (first, tt) (next, tt)).0

  same_uuid : (m n : Member S) → StaysMember g m n → n.uuid ≡ m.uuid
  same_uuid m n it = ap (λ (x : Member S). x.uuid) it.same

  -- ---- all but one

  -- members that were only read
  pub stay_but : (old new : List (Member S)) (at : ℕ) → AllStay g old new → AllStayBut g old new at
  stay_but [] [] at stay = tt
  stay_but [] (n ∷ ns) at stay = absurd stay
  stay_but (m ∷ ms) [] at stay = absurd stay
  stay_but (m ∷ ms) (n ∷ ns) zero stay = (same_uuid m n stay.0, stay.1)
  stay_but (m ∷ ms) (n ∷ ns) (suc at) stay = (stay.0, stay_but ms ns at stay.1)

  -- with a look before
  stay_then_but : (old mid new : List (Member S)) (at : ℕ) → AllStay g old mid → AllStayBut g mid new at
      → AllStayBut g old new at
  stay_then_but [] [] [] at one two = tt
  stay_then_but [] [] (z ∷ zs) at one two = absurd two
  stay_then_but [] (y ∷ ys) new at one two = absurd one
  stay_then_but (x ∷ xs) [] new at one two = absurd one
  stay_then_but (x ∷ xs) (y ∷ ys) [] at one two = absurd two
  stay_then_but (x ∷ xs) (y ∷ ys) (z ∷ zs) zero one two = (
    two.0
        ∙ same_uuid x y one.0,
    all_stay_then g xs ys zs one.1 two.1,
  )
  stay_then_but (x ∷ xs) (y ∷ ys) (z ∷ zs) (suc at) one two =
      (one_then x y z one.0 two.0, stay_then_but xs ys zs at one.1 two.1)

  -- one was set
  set_but : (old : List (Member S)) (at : ℕ) (was now : Member S) → AllStay g old old
      → slice_get old at ≡ Some was
      → now.uuid ≡ was.uuid → AllStayBut g old (slice_set old at now) at
  set_but [] at was now still place same = tt
  set_but (m ∷ ms) zero was now still place same = let here : m ≡ was =
      cc in (same ∙ ap (λ (x : Member S). x.uuid) (sym here), still.1)
  set_but (m ∷ ms) (suc at) was now still place same = (still.0, set_but ms at was now still.1 place same)

  -- a turn in a split or a merge
  pub turn_but : {E : Type 0} (Change : Database → Database → Type 0) (sums : Sums) (number : ℕ)
      (old new : List (Member S)) (at : ℕ) (reply : Result (Unit {0}) E) → AllStay g old old
      → TakesTurn g {E = E} Change sums number old new at reply → AllStayBut g old new at
  turn_but {E} Change sums number old new at reply still it =
      subst (λ ms. AllStayBut g old ms at) (sym it.others) (set_but old at it.was
      (after_turn g sums number it.was it.last reply) still it.place (here reply))
    where
      here : (r : Result (Unit {0}) E) → (after_turn g sums number it.was it.last r).uuid ≡ it.was.uuid
      here (Ok x) = refl
      here (Err e) = refl

  -- and one that changes one package
  pub carried_but : {E : Type 0} (r : Receipt) (command : Command) (sums : Sums) (old new : List (Member S)) (at : ℕ)
      (reply : Result (Unit {0}) E) → AllStay g old old → CarriesOutAt g r command sums old new at reply
      → AllStayButOne g old new
  carried_but {E} r command sums old new at reply still it = (
    at,
    subst (λ ms. AllStayBut g old ms at) (sym it.others)
        (set_but old at it.was (turned g r sums it.was it.last reply) still it.place (here reply)),
  )
    where
      here : (x : Result (Unit {0}) E) → (turned g r sums it.was it.last x).uuid ≡ it.was.uuid
      here (Ok x) = refl
      here (Err e) = refl

  -- one more that was only read comes back to its place, where all others were
  stay_back : (old mid : List (Member S)) (from : ℕ) (m n : Member S) → slice_get old from ≡ Some m
      → StaysMember g m n → AllStay g (remove old from) mid → AllStay g old (insert mid from n)
  stay_back [] mid from m n place stay rest = absurd (let e = place in cc)
  stay_back (x ∷ xs) [] zero m n place stay rest = let here : x ≡ m =
      cc in (subst (λ y. StaysMember g y n) (sym here) stay, rest)
  stay_back (x ∷ xs) (y ∷ ys) zero m n place stay rest = let here : x ≡ m =
      cc in (subst (λ y. StaysMember g y n) (sym here) stay, rest)
  stay_back (x ∷ xs) [] (suc from) m n place stay rest = absurd rest
  stay_back (x ∷ xs) (y ∷ ys) (suc from) m n place stay rest = (rest.0, stay_back xs ys from m n place stay rest.1)

  -- or all others but one
  pub but_back : (old mid : List (Member S)) (from at : ℕ) (m n : Member S) → slice_get old from ≡ Some m
      → StaysMember g m n → AllStayBut g (remove old from) mid at → AllStayButOne g old (insert mid from n)
  but_back [] mid from at m n place stay rest = absurd (let e = place in cc)
  but_back (x ∷ xs) [] zero at m n place stay rest = let here : x ≡ m =
      cc in (suc at, (subst (λ y. StaysMember g y n) (sym here) stay, rest))
  but_back (x ∷ xs) (y ∷ ys) zero at m n place stay rest = let here : x ≡ m =
      cc in (suc at, (subst (λ y. StaysMember g y n) (sym here) stay, rest))
  but_back (x ∷ xs) [] (suc from) at m n place stay rest = absurd rest
  but_back (x ∷ xs) (y ∷ ys) (suc from) zero m n place stay rest =
      (zero, (rest.0, stay_back xs ys from m n place stay rest.1))
  but_back (x ∷ xs) (y ∷ ys) (suc from) (suc at) m n place stay rest =
      let more = but_back xs ys from at m n place stay rest.1 in
      (suc more.0, (rest.0, more.1))

  -- ---- two at most

  module _ (asked returned : Option (List ℕ)) (old mid : List (Member S)) (stay : AllStay g old mid) where
    -- all were only read
    pub none_written : WritesTwoAtMost g asked returned old mid []
    none_written = record {
      before = old;
      after = mid;
      left = refl;
      stayed = (zero, stay_but old mid zero stay);
      came = inl refl;
    }

    -- one took a turn
    pub one_written : (new : List (Member S)) → AllStayButOne g mid new
        → WritesTwoAtMost g asked returned old new []
    one_written new one = record {
      before = old;
      after = new;
      left = refl;
      stayed = (one.0, stay_then_but old mid new one.0 stay one.1);
      came = inl refl;
    }

    -- and another came
    pub two_written : (rest new : List (Member S)) (at : ℕ) (child : Member S) → AllStayButOne g mid rest
        → asked ≡ Some child.uuid → new ≡ insert rest at child → WritesTwoAtMost g asked returned old new []
    two_written rest new at child one named is = record {
      before = old;
      after = rest;
      left = refl;
      stayed = (one.0, stay_then_but old mid rest one.0 stay one.1);
      came = inr (at, child, named, is);
    }

    -- what was written since a later moment, with a look before
    pub written_since : (new : List (Member S)) (gone : List (Held S)) → WritesTwoAtMost g asked returned mid new gone
        → WritesTwoAtMost g asked returned old new gone
    written_since new [] it = record {
      before = old;
      after = it.after;
      left = refl;
      stayed = (
        it.stayed.0,
        stay_then_but old mid it.after it.stayed.0 stay
            (subst (λ ms. AllStayBut g ms it.after it.stayed.0) it.left it.stayed.1),
      );
      came = it.came;
    }
    written_since new (last ∷ others) it =
        let left = it.left in
        let here = zip_from (StaysMember g) old mid left.1 left.2 stay left.3 in
        record {
          before = remove old left.1;
          after = it.after;
          left = (
            left.0,
            left.1,
            here.0,
            here.1,
            left.4 ∙ ap (λ (m : Member S). Some m.uuid) here.2.same,
            refl,
            stays_then here.2.stays left.6,
          );
          stayed = (
            it.stayed.0,
            stay_then_but (remove old left.1) (remove mid left.1) it.after it.stayed.0
                (zip_remove (StaysMember g) old mid left.1 stay)
                (subst (λ ms. AllStayBut g ms it.after it.stayed.0) left.5 it.stayed.1),
          );
          came = it.came;
        }

  -- a member left, whose store was only read
  pub merge_written : (asked returned : Option (List ℕ)) (old new : List (Member S)) (from : ℕ) (member : Member S)
      (last : Held S) → slice_get old from ≡ Some member → returned ≡ Some member.uuid
      → Stays (state g member.conn) (state g last) → AllStayButOne g (remove old from) new
      → WritesTwoAtMost g asked returned old new (last ∷ [])
  merge_written asked returned old new from member last place named stays one =
      record {
        before = remove old from;
        after = new;
        left = (refl, from, member, place, named, refl, stays);
        stayed = one;
        came = inl refl;
      }

  -- where no member left, it is the same of any command that asks for as much
  pub asked_written : (asked asked' returned returned' : Option (List ℕ)) (old new : List (Member S))
      → asked ≡ asked'
      → WritesTwoAtMost g asked returned old new [] → WritesTwoAtMost g asked' returned' old new []
  asked_written asked asked' returned returned' old new same it =
      subst (λ x. WritesTwoAtMost g x returned' old new []) same
      (record { before = it.before; after = it.after; left = it.left; stayed = it.stayed; came = it.came })
