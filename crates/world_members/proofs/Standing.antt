-- Members that were only read stand for the world that they stood for, and a look at one of them reads one.
use Rattle.std.proofs.Common.{◌≡◌, refl, sym, ap, subst, ◌∙◌, ℕ, zero, suc, List, [], ◌∷◌, map}
use Rattle.std.proofs.Common.{length, slice_get}
use Rattle.std.proofs.Common.{Some, Result, Ok, arith}
use Rattle.std.specs.Prelude.{slice_set, IsTrue}
use Rattle.std.specs.List.{AllZip, AllByRecursion}
use Rattle.std.proofs.lemmas.List.Elements.{All-set, All-from_recursion, recursion_from_All}
use Rattle.std.proofs.lemmas.Option.{slice_get_within}
use Rattle.std.proofs.lemmas.Slice.Zip.{AllZip-long}
use Rattle.sqlite.specs.Store.{Ghosts}
use Rattle.sqlite.specs.Held.{Held, state}
use Rattle.sqlite.specs.State.{State, HasCleanDisk}
use Rattle.sqlite_trees.proofs.ListLemmas.{all-slice_get}
use Rattle.sheet_types.specs.World.{World, Package}
use Rattle.sheet_types.specs.declared.frame.Frame.{Frame}
use Rattle.store_sql.specs.Transactions.{Rests, Looks}
use Rattle.store_sql.specs.Staying.{Stays}
use Rattle.store_sql.proofs.Staying.{stays_then}
use Rattle.store_sql.proofs.StoreLemmas.{at_set}
use Rattle.store_sql.proofs.Transactions.{Shuts, Settles}
use Rattle.identity_register.specs.Calls.{Sees}
use Rattle.identity_register.specs.Reads.{Reads}
use Rattle.world_members.specs.Members.{AllRest, AllClean, AllOpen, IsMember, AreMembers, StaysMember, AllStay, TurnsAt}
use Rattle.world_members.specs.declared.members.Member.{Member}
use Rattle.world_members.proofs.Seeing.{stays_still}

-- one relation after another
zip_then : {X Y Z : Type 0} (P : X → Y → Type 0) (Q : Y → Z → Type 0) (R : X → Z → Type 0)
    → ((x : X) (y : Y) (z : Z) → P x y → Q y z → R x z) → (xs : List X) (ys : List Y) (zs : List Z)
    → AllZip P xs ys
    → AllZip Q ys zs → AllZip R xs zs
zip_then P Q R f [] [] [] one two = tt
zip_then P Q R f [] [] (z ∷ zs) one two = absurd two
zip_then P Q R f [] (y ∷ ys) zs one two = absurd one
zip_then P Q R f (x ∷ xs) [] zs one two = absurd one
zip_then P Q R f (x ∷ xs) (y ∷ ys) [] one two = absurd two
zip_then P Q R f (x ∷ xs) (y ∷ ys) (z ∷ zs) one two = (f x y z one.0 two.0, zip_then P Q R f xs ys zs one.1 two.1)

-- a relation, looked at from the other list
zip_turned : {X Y : Type 0} (R : X → Y → Type 0) (xs : List X) (ys : List Y) → AllZip R xs ys
    → AllZip (λ y x. R x y) ys xs
zip_turned R [] [] zip = tt
zip_turned R [] (y ∷ ys) zip = absurd zip
zip_turned R (x ∷ xs) [] zip = absurd zip
zip_turned R (x ∷ xs) (y ∷ ys) zip = (zip.0, zip_turned R xs ys zip.1)

-- two relations of one list, place by place
pub zip_both : {X Y Z : Type 0} (P : X → Y → Type 0) (Q : X → Z → Type 0) (R : Y → Z → Type 0)
    → ((x : X) (y : Y) (z : Z) → P x y → Q x z → R y z) → (xs : List X) (ys : List Y) (zs : List Z)
    → AllZip P xs ys
    → AllZip Q xs zs → AllZip R ys zs
zip_both P Q R f xs ys zs one two = zip_then (λ y x. P x y) Q R (λ y x z. f x y z) ys xs zs (zip_turned P xs ys one)
    two

-- what each of the one list has by its place in the other
zip_each : {X Y : Type 0} (R : X → Y → Type 0) (P : Y → Type 0) (Q : X → Type 0)
    → ((x : X) (y : Y) → R x y → P y → Q x) → (xs : List X) (ys : List Y) → AllZip R xs ys
    → AllByRecursion P ys
    → AllByRecursion Q xs
zip_each R P Q f [] [] one each = tt
zip_each R P Q f [] (y ∷ ys) one each = absurd one
zip_each R P Q f (x ∷ xs) [] one each = absurd one
zip_each R P Q f (x ∷ xs) (y ∷ ys) one each = (f x y one.0 each.0, zip_each R P Q f xs ys one.1 each.1)

-- what stands at the same place of the other list
pub zip_at : {X Y : Type 0} (R : X → Y → Type 0) (xs : List X) (ys : List Y) (at : ℕ) (x : X) → AllZip R xs ys
    → slice_get xs at ≡ Some x → (y : Y) × (slice_get ys at ≡ Some y) × R x y
zip_at R [] ys at x zip place = absurd (let e = place in cc)
zip_at R (z ∷ zs) [] at x zip place = absurd zip
zip_at R (z ∷ zs) (y ∷ ys) zero x zip place = let same : z ≡ x = cc in (y, refl, subst (λ v. R v y) same zip.0)
zip_at R (z ∷ zs) (y ∷ ys) (suc at) x zip place = zip_at R zs ys at x zip.1 place

-- what is the same of both at each place makes the same list
pub zip_map : {X Y Z : Type 0} (R : X → Y → Type 0) (f : X → Z) (g : Y → Z)
    → ((x : X) (y : Y) → R x y → f x ≡ g y)
    → (xs : List X) (ys : List Y) → AllZip R xs ys → map f xs ≡ map g ys
zip_map R f g same [] [] zip = refl
zip_map R f g same [] (y ∷ ys) zip = absurd zip
zip_map R f g same (x ∷ xs) [] zip = absurd zip
zip_map R f g same (x ∷ xs) (y ∷ ys) zip = ap (λ z. z ∷ map f xs) (same x y zip.0)
    ∙ ap (λ zs. g y ∷ zs) (zip_map R f g same xs ys zip.1)

module _ {S : Type 0} (g : Ghosts S) where
  member_then : (a b c : Member S) → StaysMember g a b → StaysMember g b c → StaysMember g a c
  member_then a b c first next = record {
    same = next.same ∙ ap (λ (x : Member S). record x { conn = c.conn })
        first.same;
    stays = stays_then first.stays next.stays;
  }

  pub all_stay_then : (a b c : List (Member S)) → AllStay g a b → AllStay g b c → AllStay g a c
  all_stay_then a b c first next = zip_then (StaysMember g) (StaysMember g) (StaysMember g) member_then a b c first next

  -- a member that was only read is of the package that it was of
  pub member_stays : (w : World) (m n : Member S) (p : Package) → StaysMember g m n → IsMember g w m p
      → IsMember g w n p
  member_stays w m n p it is = record {
    uuid = ap (λ (x : Member S). x.uuid) it.same ∙ is.uuid;
    parent = ap (λ (x : Member S). x.parent) it.same ∙ is.parent;
    depth = ap (λ (x : Member S). x.depth) it.same ∙ is.depth;
    loan = ap (λ (x : Member S). x.loan) it.same ∙ is.loan;
    sums = ap (λ (x : Member S). x.sums) it.same ∙ is.sums;
    ticket = ap (λ (x : Member S). x.ticket) it.same ∙ is.ticket;
    reads = λ is_open. subst (Reads w.frame p) (sym (it.stays.holds is_open).now_is)
        (is.reads (it.stays.was_open is_open));
  }

  -- members that were only read stand for the same world
  pub members_stay : (old new : List (Member S)) (count : ℕ) (w : World) → AllStay g old new
      → AreMembers g old count w → AreMembers g new count w
  members_stay old new count w it are = record {
    each = zip_both (StaysMember g) (IsMember g w) (IsMember g w)
        (member_stays w) old new w.packages it are.each;
    counted = are.counted;
    register = are.register;
  }

  -- and where their disks are clean they were so before
  pub clean_before : (old new : List (Member S)) → AllStay g old new → AllClean g new → AllClean g old
  clean_before old new it clean =
      let Clean : Member S → Type 0 = λ m. HasCleanDisk (state g m.conn) in
      All-from_recursion Clean old (zip_each (StaysMember g) Clean Clean
      (λ m n stays after. omega (arith, stays.stays.survives.clean, after)) old new it
      (recursion_from_All Clean new clean))

  pub stay_length : (old new : List (Member S)) → AllStay g old new → length old ≡ length new
  stay_length old new it = sym (AllZip-long (StaysMember g) old new it)

  module _ (old new : List (Member S)) (at : ℕ) {Turn : State → State → Type 0}
      (turn : TurnsAt g old new at Turn) where
    -- a turn that ends at rest leaves all at rest
    pub turn_rests : Rests (state g turn.last) → AllRest g old → AllRest g new
    turn_rests last rests = rw turn.others (All-set (λ (m : Member S). Rests (state g m.conn)) old at
        (record turn.was { conn = turn.last }) last rests)

    -- and one that leaves its store open leaves all open
    pub turn_open : (IsTrue (state g turn.was.conn).is_open → IsTrue (state g turn.last).is_open) → AllOpen g old
        → AllOpen g new
    turn_open last was =
        let Open : Member S → Type 0 = λ m. IsTrue (state g m.conn).is_open in
        let here : Open turn.was = all-slice_get Open old at turn.was turn.place (recursion_from_All Open old was) in
        rw turn.others (All-set Open old at (record turn.was { conn = turn.last }) (last here) was)

    -- the disk of the one that took it, by all the disks
    pub turn_clean : AllClean g new → HasCleanDisk (state g turn.last)
    turn_clean clean = at_set (λ (m : Member S). HasCleanDisk (state g m.conn)) old at
        (record turn.was { conn = turn.last }) (slice_get_within old at turn.was turn.place) (rw turn.others at clean)

  -- what one look tells of the package that stands at its place
  pub told_at : {X E : Type 0} (Answer : Frame → Package → X → Type 0) (old new : List (Member S)) (at : ℕ)
      (r : Result X E) (x : X) → TurnsAt g old new at (λ a b. Looks {X = X} {E = E} (Sees Answer) a b r)
      → r ≡ Ok x
      → AllClean g new
      → (count : ℕ) (w : World) → AreMembers g old count w → (p : Package)
      × (slice_get w.packages at ≡ Some p)
      × Answer w.frame p x
  told_at {X} {E} Answer old new at r x turn is clean count w are =
      let looks : Looks {X = X} {E = E} (Sees Answer) (state g turn.was.conn) (state g turn.last) (Ok x) =
      subst (Looks (Sees Answer) (state g turn.was.conn) (state g turn.last)) is turn.turned in
      let told = looks.done (turn_clean old new at turn clean) in
      let here : (p : Package) × (slice_get w.packages at ≡ Some p) × IsMember g w turn.was p =
      zip_at (IsMember g w) old w.packages at turn.was are.each turn.place in
      (here.0, here.1, told.1.1 w.frame here.0 (here.2.reads (looks.was_open told.0)))

  module _ (shuts : Shuts g) (settles : Settles g) where
    member_still : (m : Member S) → Rests (state g m.conn) → StaysMember g m m
    member_still m rests = record { same = refl; stays = stays_still g shuts settles m.conn rests }

    each_still : (ms : List (Member S)) → AllByRecursion (λ (m : Member S). Rests (state g m.conn)) ms
        → AllStay g ms ms
    each_still [] rests = tt
    each_still (m ∷ ms) rests = (member_still m rests.0, each_still ms rests.1)

    -- members at rest that no one looks at stay as they are
    pub all_still : (ms : List (Member S)) → AllRest g ms → AllStay g ms ms
    all_still ms rests = each_still ms (recursion_from_All (λ (m : Member S). Rests (state g m.conn)) ms rests)

    one_stays : (ms : List (Member S)) (at : ℕ) (was : Member S) (last : Held S)
        → AllByRecursion (λ (m : Member S). Rests (state g m.conn)) ms → slice_get ms at ≡ Some was
        → Stays (state g was.conn) (state g last) → AllStay g ms (slice_set ms at (record was { conn = last }))
    one_stays [] at was last rests place stays = absurd (let e = place in cc)
    one_stays (m ∷ ms) zero was last rests place stays =
        let same : m ≡ was = cc in (
          record {
            same = ap (λ (x : Member S). record x { conn = last }) (sym same);
            stays =
                subst (λ (x : Member S). Stays (state g x.conn) (state g last)) (sym same) stays;
          },
          each_still ms rests.1,
        )
    one_stays (m ∷ ms) (suc at) was last rests place stays =
        (member_still m rests.0, one_stays ms at was last rests.1 place stays)

    -- a turn that only reads
    pub turn_stays : (old new : List (Member S)) (at : ℕ) {Turn : State → State → Type 0}
        (turn : TurnsAt g old new at Turn) → Stays (state g turn.was.conn) (state g turn.last) → AllRest g old
        → AllStay g old new
    turn_stays old new at turn stays rests = rw turn.others (one_stays old at turn.was turn.last
        (recursion_from_All (λ (m : Member S). Rests (state g m.conn)) old rests) turn.place stays)
