-- Stores of live packages, brought one after the other in the order of their UUIDs.
use Rattle.std.specs.Prelude.{◌≡◌, ◌⊎◌, ℕ, zero, suc, ◌+◌, ◌≤◌, Bool, true, false, List, []}
use Rattle.std.specs.Prelude.{◌∷◌, map, length}
use Rattle.std.specs.Prelude.{count_by, refl, is_some, Option, Some, None, MatchOption, Result, Ok, Err, IfErr}
use Rattle.std.specs.Prelude.{slice_get, slice_set}
use Rattle.std.specs.List.{AllByRecursion}
use Rattle.std.proofs.Common.{sym, ap, subst, ◌∙◌, arith, inl, inr}
use Rattle.std.proofs.lemmas.List.Elements.{All-set, All-from_recursion, recursion_from_All}
use Rattle.sqlite.specs.Held.{Held, state}
use Rattle.sqlite.specs.Store.{Ghosts}
use Rattle.sheet_types.proofs.Basics.{some_once}
use Rattle.sheet_types.proofs.Every.{All-both, All-map, All-of_map, All-weaker}
use Rattle.sheet_types.proofs.Sums.{count-cons, none_counted}
use Rattle.store_sql.specs.Transactions.{Rests}
use Rattle.package_tables.specs.declared.fault.Fault.{Fault}
use Rattle.opening_verdict.specs.declared.verdict.Kept.{Kept}
use Rattle.world_changes.specs.Leaving.{AreAtRest}
use Rattle.opening_stores.specs.Brought.{Place, AreAllTurned, AreBrought, SomeAreTurned, IsTurned, MayBeTurned}
use Rattle.opening_stores.specs.Brought.{TurnsOne}
use Rattle.opening_stores.specs.Waiting.{uuid_kept}

pub any_err : {X E P : Type 0} (r : Result X E) → P → IfErr r (λ _. P)
any_err (Ok x) is = tt
any_err (Err e) is = is

-- ---- fields of records in a list

get_of_map : {X Y : Type 0} (f : X → Y) (xs : List X) (n : ℕ) (y : Y) → slice_get (map f xs) n ≡ Some y
    → (x : X)
    × (slice_get xs n ≡ Some x) × (f x ≡ y)
get_of_map f [] n y is = absurd (let e = is in cc)
get_of_map f (x ∷ xs) zero y is = (x, refl, some_once (Some (f x)) (f x) y refl is)
get_of_map f (x ∷ xs) (suc n) y is = get_of_map f xs n y is

get_map : {X Y : Type 0} (f : X → Y) (xs : List X) (n : ℕ) (x : X) → slice_get xs n ≡ Some x
    → slice_get (map f xs) n ≡ Some (f x)
get_map f [] n x is = absurd (let e = is in cc)
get_map f (y ∷ ys) zero x is = ap Some (ap f (some_once (Some y) y x refl is))
get_map f (y ∷ ys) (suc n) x is = get_map f ys n x is

map_set : {X Y : Type 0} (f : X → Y) (xs : List X) (n : ℕ) (x : X)
    → map f (slice_set xs n x) ≡ slice_set (map f xs) n (f x)
map_set f [] n x = refl
map_set f (y ∷ ys) zero x = refl
map_set f (y ∷ ys) (suc n) x = ap (λ zs. f y ∷ zs) (map_set f ys n x)

-- a field that stays
map_set_same : {X Y : Type 0} (f : X → Y) (xs : List X) (n : ℕ) (x new : X) → slice_get xs n ≡ Some x
    → f new ≡ f x
    → map f (slice_set xs n new) ≡ map f xs
map_set_same f [] n x new is same = refl
map_set_same f (y ∷ ys) zero x new is same = ap (λ z. z ∷ map f ys)
    (same ∙ sym (ap f (some_once (Some y) y x refl is)))
map_set_same f (y ∷ ys) (suc n) x new is same = ap (λ zs. f y ∷ zs) (map_set_same f ys n x new is same)

map_twice : {X Y Z : Type 0} (f : X → Y) (g : Y → Z) (xs : List X) → map g (map f xs) ≡ map (λ x. g (f x)) xs
map_twice f g [] = refl
map_twice f g (x ∷ xs) = ap (λ zs. g (f x) ∷ zs) (map_twice f g xs)

at_place : {X : Type 0} (P : X → Type 0) (xs : List X) (n : ℕ) (x : X) → slice_get xs n ≡ Some x
    → AllByRecursion P xs
    → P x
at_place P [] n x is each = absurd (let e = is in cc)
at_place P (y ∷ ys) zero x is each = subst P (some_once (Some y) y x refl is) each.0
at_place P (y ∷ ys) (suc n) x is each = at_place P ys n x is each.1

All-put_at : {X : Type 0} (P : X → Type 0) (xs : List X) (n : ℕ) (x : X) → P x → AllByRecursion P xs
    → AllByRecursion P (slice_set xs n x)
All-put_at P [] n x here each = tt
All-put_at P (y ∷ ys) zero x here each = (here, each.1)
All-put_at P (y ∷ ys) (suc n) x here each = (each.0, All-put_at P ys n x here each.1)

-- ---- how many wait

-- one less
fewer_wait : (waiting : List (Option (List ℕ))) (n : ℕ) (uuid : List ℕ)
    → slice_get waiting n ≡ Some (Some uuid)
    → count_by is_some (slice_set waiting n None) + 1 ≡ count_by is_some waiting
fewer_wait [] n uuid is = absurd (let e = is in cc)
fewer_wait (w ∷ ws) zero uuid is =
    let some : w ≡ Some uuid = some_once (Some w) w (Some uuid) refl is in
    omega (arith, count-cons is_some None ws false refl, count-cons is_some w ws true (ap is_some some))
fewer_wait (w ∷ ws) (suc n) uuid is = omega (
  arith,
  fewer_wait ws n uuid is,
  count-cons is_some w
      (slice_set ws n None) (is_some w) refl,
  count-cons is_some w ws (is_some w) refl,
)

is_none : (w : Option (List ℕ)) → is_some w ≡ false → w ≡ None
is_none None is = refl
is_none (Some u) is = absurd (let e = is in cc)

pub none_wait : (waiting : List (Option (List ℕ))) → count_by is_some waiting ≡ 0
    → AllByRecursion (λ w. w ≡ None) waiting
none_wait waiting none = All-weaker (λ w. is_some w ≡ false) (λ w. w ≡ None) is_none waiting
    (none_counted is_some waiting none)

-- ---- one after the other

record Row (S : Type 0) : Type 0 where
  place : Place S
  waits : Option (List ℕ)

module _ {S : Type 0} (g : Ghosts S) where
  abbrev Turned : Held S → Held S → Type 0
  Turned old now = IsTurned g {E = Fault} old now (Ok tt)

  -- a store of a live package was turned, or waits and is as it was; each other is as it was
  abbrev Role : Option Kept → Option (List ℕ) → Held S → Held S → Type 0
  Role kept waits old now = MatchOption kept ((waits ≡ None) × (now ≡ old))
      (λ _. MatchOption waits (Turned old now) (λ _. now ≡ old))

  abbrev HasRole : Row S → Type 0
  HasRole r = Role r.place.kept r.waits r.place.old r.place.now

  -- what came of a place whose store waits no more, and what may have come of it before
  abbrev IsDone : Place S → Type 0
  IsDone p = MatchOption p.kept (p.now ≡ p.old) (λ _. Turned p.old p.now)

  abbrev MayBeDone : Place S → Type 0
  MayBeDone p = MatchOption p.kept (p.now ≡ p.old) (λ _. MayBeTurned g Fault p.old p.now)

  done_role : (kept : Option Kept) (waits : Option (List ℕ)) (old now : Held S) → Role kept waits old now
      → waits ≡ None → IsDone (record { kept = kept; old = old; now = now })
  done_role None waits old now role none = role.1
  done_role (Some k) None old now role none = role
  done_role (Some k) (Some u) old now role none = absurd (let e = none in cc)

  may_role : (kept : Option Kept) (waits : Option (List ℕ)) (old now : Held S) → Role kept waits old now
      → MayBeDone (record { kept = kept; old = old; now = now })
  may_role None waits old now role = role.1
  may_role (Some k) None old now role = inr (Ok tt, role)
  may_role (Some k) (Some u) old now role = inl role

  -- one that waits is as it was, and is that of a live package
  waits_still : (kept : Option Kept) (waits : Option (List ℕ)) (uuid : List ℕ) (old now : Held S)
      → waits ≡ Some uuid
      → Role kept waits old now → now ≡ old
  waits_still None waits uuid old now is role = role.1
  waits_still (Some k) None uuid old now is role = absurd (let e = is in cc)
  waits_still (Some k) (Some u) uuid old now is role = role

  turned_role : (kept : Option Kept) (waits : Option (List ℕ)) (uuid : List ℕ) (old now last : Held S)
      → waits ≡ Some uuid → Role kept waits old now → Turned old last → Role kept None old last
  turned_role None waits uuid old now last is role turned = absurd (let e = sym role.0 ∙ is in cc)
  turned_role (Some k) waits uuid old now last is role turned = turned

  failed_role : (kept : Option Kept) (waits : Option (List ℕ)) (uuid : List ℕ) (old now last : Held S)
      → waits ≡ Some uuid → Role kept waits old now → MayBeTurned g Fault old last
      → MayBeDone (record { kept = kept; old = old; now = last })
  failed_role None waits uuid old now last is role turned = absurd (let e = sym role.0 ∙ is in cc)
  failed_role (Some k) waits uuid old now last is role turned = turned

  -- some were turned, and the others wait
  pub record IsUnderWay (kept : List (Option Kept)) (old now : List (Held S)) (waiting : List (Option (List ℕ))) :
      Type 0 where
    rows : List (Row S)
    kept_is : kept ≡ map (λ r. r.place.kept) rows
    old_is : old ≡ map (λ r. r.place.old) rows
    now_is : now ≡ map (λ r. r.place.now) rows
    waiting_is : waiting ≡ map (λ r. r.waits) rows
    each : AllByRecursion HasRole rows
    pub rests : AreAtRest g now

  -- all wait
  record AllWait (kept : List (Option Kept)) (stores : List (Held S)) : Type 0 where
    rows : List (Row S)
    kept_is : kept ≡ map (λ r. r.place.kept) rows
    old_is : stores ≡ map (λ r. r.place.old) rows
    now_is : stores ≡ map (λ r. r.place.now) rows
    waiting_is : map uuid_kept kept ≡ map (λ r. r.waits) rows
    each : AllByRecursion HasRole rows

  first_role : (kept : Option Kept) (h : Held S) → Role kept (uuid_kept kept) h h
  first_role None h = (refl, refl)
  first_role (Some k) h = refl

  all_wait : (kept : List (Option Kept)) (stores : List (Held S)) → length kept ≡ length stores
      → AllWait kept stores
  all_wait [] [] long = record { rows = []; kept_is = refl; old_is = refl; now_is = refl; waiting_is = refl; each = tt }
  all_wait [] (h ∷ hs) long = absurd (omega (arith, long))
  all_wait (k ∷ ks) [] long = absurd (omega (arith, long))
  all_wait (k ∷ ks) (h ∷ hs) long =
      let more = all_wait ks hs (omega (arith, long)) in
      record {
        rows = record { place = record { kept = k; old = h; now = h }; waits = uuid_kept k } ∷ more.rows;
        kept_is = ap (λ l. k ∷ l) more.kept_is;
        old_is = ap (λ l. h ∷ l) more.old_is;
        now_is = ap (λ l. h ∷ l) more.now_is;
        waiting_is = ap (λ l. uuid_kept k ∷ l) more.waiting_is;
        each = (first_role k h, more.each);
      }

  pub begins : (kept : List (Option Kept)) (stores : List (Held S)) (waiting : List (Option (List ℕ)))
      → length kept ≡ length stores → waiting ≡ map uuid_kept kept → AreAtRest g stores
      → IsUnderWay kept stores stores waiting
  begins kept stores waiting long are rests =
      let it = all_wait kept stores long in
      record {
        rows = it.rows;
        kept_is = it.kept_is;
        old_is = it.old_is;
        now_is = it.now_is;
        waiting_is = are ∙ it.waiting_is;
        each = it.each;
        rests = rests;
      }

  module _ (kept : List (Option Kept)) (old now : List (Held S)) (waiting : List (Option (List ℕ)))
      (it : IsUnderWay kept old now waiting) where
    -- as many stores as wait or do not
    pub as_many : length waiting ≡ length now
    as_many = ap length it.waiting_is ∙ lengths it.rows ∙ sym (ap length it.now_is)
      where
        lengths : (rows : List (Row S)) → length (map (λ r. r.waits) rows) ≡ length (map (λ r. r.place.now) rows)
        lengths [] = refl
        lengths (r ∷ rows) = ap suc (lengths rows)

    abbrev places : List (Place S)
    places = map (λ r. r.place) it.rows

    -- none waits
    pub all_turned : AllByRecursion (λ w. w ≡ None) waiting → AreAllTurned g kept old now
    all_turned none =
        let still : AllByRecursion (λ (r : Row S). r.waits ≡ None) it.rows =
        All-of_map (λ w. w ≡ None) (λ (r : Row S). r.waits) it.rows
        (subst (AllByRecursion (λ w. w ≡ None)) it.waiting_is none) in
        record {
          places = places;
          kept_is = it.kept_is ∙ sym (map_twice (λ (r : Row S). r.place) (λ p. p.kept) it.rows);
          old_is = it.old_is ∙ sym (map_twice (λ (r : Row S). r.place) (λ p. p.old) it.rows);
          new_is = it.now_is ∙ sym (map_twice (λ (r : Row S). r.place) (λ p. p.now) it.rows);
          each = All-map IsDone (λ (r : Row S). r.place) it.rows
              (All-both HasRole (λ r. r.waits ≡ None) (λ r. IsDone r.place)
              (λ r role none. done_role r.place.kept r.waits r.place.old r.place.now role none) it.rows it.each
              still);
        }

    module _ (n : ℕ) (uuid : List ℕ) (there : slice_get waiting n ≡ Some (Some uuid)) (new : List (Held S))
        (r : Result (Unit {0}) Fault) (one : TurnsOne g now new n r) where
      found : (row : Row S) × (slice_get it.rows n ≡ Some row) × (row.waits ≡ Some uuid)
      found = get_of_map (λ (x : Row S). x.waits) it.rows n (Some uuid)
          (subst (λ l. slice_get l n ≡ Some (Some uuid)) it.waiting_is there)

      abbrev row : Row S
      row = found.0

      was_is : one.was ≡ row.place.now
      was_is = some_once (slice_get now n) one.was row.place.now one.place
          (ap (λ l. slice_get l n) it.now_is ∙ get_map (λ (x : Row S). x.place.now) it.rows n row found.1)

      role : HasRole row
      role = at_place HasRole it.rows n row found.1 it.each

      still : one.was ≡ row.place.old
      still = was_is ∙ waits_still row.place.kept row.waits uuid row.place.old row.place.now found.2 role

      turned : IsTurned g row.place.old one.last r
      turned = subst (λ h. IsTurned g h one.last r) still one.turned

      pub rests_new : AreAtRest g new
      rests_new = subst (AreAtRest g) (sym one.others) (All-set (λ h. Rests (state g h)) now n one.last turned.rests
          it.rests)

      abbrev place_new : Place S
      place_new = record { kept = row.place.kept; old = row.place.old; now = one.last }

      -- one more was turned
      pub goes_on : r ≡ Ok tt → IsUnderWay kept old new (slice_set waiting n None)
      goes_on is =
          let row_new : Row S = record { place = place_new; waits = None } in
          record {
            rows = slice_set it.rows n row_new;
            kept_is = it.kept_is ∙ sym (map_set_same (λ (x : Row S). x.place.kept) it.rows n row row_new found.1
                refl);
            old_is = it.old_is ∙ sym (map_set_same (λ (x : Row S). x.place.old) it.rows n row row_new found.1 refl);
            now_is = one.others ∙ ap (λ l. slice_set l n one.last) it.now_is
                ∙ sym (map_set (λ (x : Row S). x.place.now) it.rows n row_new);
            waiting_is = ap (λ l. slice_set l n None) it.waiting_is
                ∙ sym (map_set (λ (x : Row S). x.waits) it.rows n row_new);
            each = All-put_at HasRole it.rows n row_new (turned_role row.place.kept row.waits uuid row.place.old
                row.place.now one.last found.2 role (subst (IsTurned g row.place.old one.last) is turned)) it.each;
            rests = rests_new;
          }

      -- and here it failed
      pub some_turned : SomeAreTurned g kept old new
      some_turned =
          let here : slice_get places n ≡ Some row.place = get_map (λ (x : Row S). x.place) it.rows n row found.1 in
          let before : AllByRecursion MayBeDone places = All-map MayBeDone (λ (x : Row S). x.place) it.rows
          (All-weaker HasRole (λ x. MayBeDone x.place)
          (λ x role. may_role x.place.kept x.waits x.place.old x.place.now role) it.rows it.each) in
          record {
            places = slice_set places n place_new;
            kept_is = it.kept_is ∙ sym (map_twice (λ (x : Row S). x.place) (λ p. p.kept) it.rows)
                ∙ sym (map_set_same (λ (p : Place S). p.kept) places n row.place place_new here refl);
            old_is = it.old_is ∙ sym (map_twice (λ (x : Row S). x.place) (λ p. p.old) it.rows)
                ∙ sym (map_set_same (λ (p : Place S). p.old) places n row.place place_new here refl);
            new_is = one.others ∙ ap (λ l. slice_set l n one.last)
                (it.now_is ∙ sym (map_twice (λ (x : Row S). x.place) (λ p. p.now) it.rows))
                ∙ sym (map_set (λ (p : Place S). p.now) places n place_new);
            each = All-put_at MayBeDone places n place_new (failed_role row.place.kept row.waits uuid row.place.old
                row.place.now one.last found.2 role (inr (r, turned))) before;
          }

      pub one_less : count_by is_some (slice_set waiting n None) + 1 ≡ count_by is_some waiting
      one_less = fewer_wait waiting n uuid there

-- no store was turned
module _ {S : Type 0} (g : Ghosts S) where
  pub none_turned : (kept : List (Option Kept)) (stores : List (Held S)) → length kept ≡ length stores
      → SomeAreTurned g kept stores stores
  none_turned kept stores long =
      let it = all_wait g kept stores long in
      record {
        places = map (λ r. r.place) it.rows;
        kept_is = it.kept_is ∙ sym (map_twice (λ (x : Row S). x.place) (λ p. p.kept) it.rows);
        old_is = it.old_is ∙ sym (map_twice (λ (x : Row S). x.place) (λ p. p.old) it.rows);
        new_is = it.now_is ∙ sym (map_twice (λ (x : Row S). x.place) (λ p. p.now) it.rows);
        each = All-map (MayBeDone g) (λ (x : Row S). x.place) it.rows
            (All-weaker (HasRole g) (λ x. MayBeDone g x.place)
            (λ x role. may_role g x.place.kept x.waits x.place.old x.place.now role) it.rows it.each);
      }

-- a list of what is kept is as long as those of the stores
pub as_long : {S : Type 0} (IsSo : Held S → Held S → Type 0) (kept : List (Option Kept)) (old new : List (Held S))
    → AreBrought IsSo kept old new → length kept ≡ length new
as_long {S} IsSo kept old new it = ap length it.kept_is ∙ lengths it.places ∙ sym (ap length it.new_is)
  where
    lengths : (places : List (Place S)) → length (map (λ p. p.kept) places) ≡ length (map (λ p. p.now) places)
    lengths [] = refl
    lengths (p ∷ places) = ap suc (lengths places)
