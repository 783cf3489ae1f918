-- No failure of a disk is forgotten, and nothing else shuts a store: of members that were read, and where one took a
-- turn.
use Rattle.std.specs.Prelude.{◌≡◌, ⊤, ℕ, zero, suc, List, [], ◌∷◌, Some, slice_get, slice_set, refl}
use Rattle.std.specs.Prelude.{Result, Ok, Err}
use Rattle.std.proofs.Common.{sym, subst, inr}
use Rattle.std.specs.List.{AllZip}
use Rattle.sqlite.specs.Effect.{Database}
use Rattle.sqlite.specs.Tree.{Trees}
use Rattle.sqlite.specs.Store.{Ghosts}
use Rattle.sqlite.specs.Held.{Held, state}
use Rattle.sqlite.specs.State.{State, Survives}
use Rattle.sqlite.proofs.StateLemmas.{survives_then}
use Rattle.store_sql.proofs.Transactions.{same_survives}
use Rattle.store_sql.proofs.Staying.{stays_then}
use Rattle.sheet_types.specs.declared.command.Command.{Command}
use Rattle.sheet_types.specs.declared.receipt.Receipt.{Receipt}
use Rattle.sheet_types.specs.declared.receipt.Sums.{Sums}
use Rattle.world_changes.specs.Leaving.{AllSurvive, WereRead}
use Rattle.world_changes.specs.Turns.{TakesTurn, after_turn}
use Rattle.world_members.specs.Members.{AllStay, StaysMember}
use Rattle.world_members.specs.Turning.{CarriesOutAt, turned}
use Rattle.world_members.specs.declared.members.Member.{Member}

-- one relation after another
zip_then : {X Y Z : Type 0} (P : X → Y → Type 0) (Q : Y → Z → Type 0) (R : X → Z → Type 0)
    → ((x : X) (y : Y) (z : Z) → P x y → Q y z → R x z) → (xs : List X) (ys : List Y) (zs : List Z)
    → AllZip P xs ys
    → AllZip Q ys zs → AllZip R xs zs
zip_then P Q R f [] [] [] one two = tt
zip_then P Q R f [] [] (z ∷ zs) one two = absurd two
zip_then P Q R f [] (y ∷ ys) zs one two = absurd one
zip_then P Q R f (x ∷ xs) [] zs one two = absurd one
zip_then P Q R f (x ∷ xs) (y ∷ ys) [] one two = absurd two
zip_then P Q R f (x ∷ xs) (y ∷ ys) (z ∷ zs) one two = (f x y z one.0 two.0, zip_then P Q R f xs ys zs one.1 two.1)

-- what follows place by place
zip_weaker : {X Y : Type 0} (P R : X → Y → Type 0) → ((x : X) (y : Y) → P x y → R x y)
    → (xs : List X) (ys : List Y)
    → AllZip P xs ys → AllZip R xs ys
zip_weaker P R f [] [] zip = tt
zip_weaker P R f [] (y ∷ ys) zip = absurd zip
zip_weaker P R f (x ∷ xs) [] zip = absurd zip
zip_weaker P R f (x ∷ xs) (y ∷ ys) zip = (f x y zip.0, zip_weaker P R f xs ys zip.1)

-- what stood at the same place of the list before
pub zip_from : {X Y : Type 0} (R : X → Y → Type 0) (xs : List X) (ys : List Y) (at : ℕ) (y : Y) → AllZip R xs ys
    → slice_get ys at ≡ Some y → (x : X) × (slice_get xs at ≡ Some x) × R x y
zip_from R [] [] at y zip place = absurd (let e = place in cc)
zip_from R (x ∷ xs) [] at y zip place = absurd zip
zip_from R [] (z ∷ ys) at y zip place = absurd zip
zip_from R (x ∷ xs) (z ∷ ys) zero y zip place = let same : z ≡ y = cc in (x, refl, subst (λ v. R x v) same zip.0)
zip_from R (x ∷ xs) (z ∷ ys) (suc at) y zip place = zip_from R xs ys at y zip.1 place

each_same : {A : Type 0} (R : A → A → Type 0) → ((x : A) → R x x) → (xs : List A) → AllZip R xs xs
each_same R same [] = tt
each_same R same (x ∷ xs) = (same x, each_same R same xs)

same_or_set : {A : Type 0} (R : A → A → Type 0) → ((x : A) → R x x) → (xs : List A) (at : ℕ) (was now : A)
    → slice_get xs at ≡ Some was → R was now → AllZip R xs (slice_set xs at now)
same_or_set R same [] at was now place one = tt
same_or_set R same (x ∷ xs) zero was now place one = let here : x ≡ was =
    cc in (subst (λ y. R y now) (sym here) one, each_same R same xs)
same_or_set R same (x ∷ xs) (suc at) was now place one = (same x, same_or_set R same xs at was now place one)

-- whatever it may commit
pub survives_any : {C : Trees → Type 0} (a b : State) → Survives a b C → Survives a b (λ trees. ⊤)
survives_any a b it = record {
  clean = it.clean;
  shield = it.shield;
  counts = it.counts;
  limit = it.limit;
  closes = it.closes;
  crash = λ clean db may. inr tt;
}

module _ {S : Type 0} (g : Ghosts S) where
  abbrev One : Member S → Member S → Type 0
  One m n = Survives (state g m.conn) (state g n.conn) (λ trees. ⊤)

  one_same : (m : Member S) → One m m
  one_same m = survives_any (state g m.conn) (state g m.conn) (same_survives (state g m.conn))

  pub same_survive : (ms : List (Member S)) → AllSurvive g ms ms
  same_survive ms = each_same One one_same ms

  pub survive_then : (a b c : List (Member S)) → AllSurvive g a b → AllSurvive g b c → AllSurvive g a c
  survive_then a b c first next =
      zip_then One One One (λ x y z one two. survives_then (state g x.conn) (state g y.conn) (state g z.conn)
      (λ trees. ⊤) (λ trees. ⊤) (λ trees. ⊤) (λ clean db h. tt) (λ clean db h. tt) one two) a b c first next

  -- members that were only read
  pub stay_survive : (old new : List (Member S)) → AllStay g old new → AllSurvive g old new
  stay_survive old new stay = zip_weaker (StaysMember g) One
      (λ m n it. survives_any (state g m.conn) (state g n.conn) it.stays.survives) old new stay

  -- what was only read since a later moment was only read since an earlier one
  pub read_before : (old mid : List (Member S)) (gone : List (Held S)) → AllStay g old mid → WereRead g mid gone
      → WereRead g old gone
  read_before old mid [] stay read = tt
  read_before old mid (last ∷ others) stay read =
      let here = zip_from (StaysMember g) old mid read.0 read.1 stay read.2 in
      (read.0, here.0, here.1, stays_then here.2.stays read.3, read.4)

  -- a turn in a split or a merge
  pub turn_survive : {E : Type 0} (Change : Database → Database → Type 0) (sums : Sums) (number : ℕ)
      (old new : List (Member S)) (at : ℕ) (reply : Result (Unit {0}) E)
      → TakesTurn g {E = E} Change sums number old new at reply → AllSurvive g old new
  turn_survive {E} Change sums number old new at reply it =
      subst (AllSurvive g old) (sym it.others) (same_or_set One one_same old at it.was
      (after_turn g sums number it.was it.last reply) it.place (here reply))
    where
      here : (r : Result (Unit {0}) E) → One it.was (after_turn g sums number it.was it.last r)
      here (Ok x) = survives_any (state g it.was.conn) (state g it.last) it.turns.survives
      here (Err e) = survives_any (state g it.was.conn) (state g it.last) it.turns.survives

  -- and one that changes one package
  pub carried_survive : {E : Type 0} (r : Receipt) (command : Command) (sums : Sums) (old new : List (Member S))
      (at : ℕ) (reply : Result (Unit {0}) E) → CarriesOutAt g r command sums old new at reply
      → AllSurvive g old new
  carried_survive {E} r command sums old new at reply it =
      subst (AllSurvive g old) (sym it.others) (same_or_set One one_same old at it.was
      (turned g r sums it.was it.last reply) it.place (here reply))
    where
      here : (x : Result (Unit {0}) E) → One it.was (turned g r sums it.was it.last x)
      here (Ok x) = survives_any (state g it.was.conn) (state g it.last) it.turn.turns.survives
      here (Err e) = survives_any (state g it.was.conn) (state g it.last) it.turn.turns.survives
