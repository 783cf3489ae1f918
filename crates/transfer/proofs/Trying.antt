-- Steps that take things in, one after the other.
use Rattle.std.specs.Prelude.{◌≡◌, ◌⊎◌, ℕ, ◌+◌, ◌<◌, take, drop, length, Bool, true, false}
use Rattle.std.specs.Prelude.{List, [], ◌∷◌, ◌++◌}
use Rattle.std.specs.Prelude.{Result, Ok, Err, IsErr, refl, IsTrue}
use Rattle.std.proofs.Common.{inl, inr, sym, ap, subst, ◌∙◌, get_or, append_assoc}
use Rattle.std.proofs.lemmas.List.{take_more, take_all, take-append-drop}
use Rattle.sqlite.specs.Effect.{Database}
use Rattle.sqlite.specs.State.{State, HasCleanDisk}
use Rattle.store_sql.specs.Transactions.{Steps, EachStep}
use Rattle.store_sql.specs.Writing.{Chained, EachChained}
use Rattle.store_sql.proofs.Transactions.{steps_answer, steps_then, steps_failed, steps_weaker}
use Rattle.sheet_types.specs.Texts.{kind_of}
use Rattle.sheet_types.specs.Cut.{Cut}
use Rattle.sheet_types.specs.Lines.{IsUuid}
use Rattle.sheet_types.specs.declared.command.Item.{Item}
use Rattle.identity_register.specs.Room.{IsFull, ComesIn}
use Rattle.transfer.specs.Moves.{PutsItem, PutsLink, PutsEach, TriesItem, TriesItems, TriesEach, Overfills, Takes}
use Rattle.transfer.specs.Moves.{IsTooMuch}
use Rattle.transfer.proofs.Coming.{cut_in, too_much}

-- an item under an identity that is a UUID
pub tried : {E : Type 0} (i : Item) {old new : State} {r : Result Bool E} → IsUuid i.identity
    → Steps (ComesIn i) old new r → Steps (TriesItem i) old new r
tried i {old} {new} uuid steps = steps_weaker (TriesItem i) (λ came. one came) steps
  where
    one : (came : Bool) → ComesIn i came old.now new.now → TriesItem i came old.now new.now
    one true it = λ f q reads new_item. it f q reads (record { uuid = uuid; new = new_item })
    one false it = it.1

-- an item for which there was room came in
pub came_in : {E F : Type 0} (i : Item) (came : Bool) {old new : State} → came ≡ true
    → Steps {E = E} (TriesItem i) old new (Ok came) → Steps {X = Unit {0}} {E = F} (λ _. PutsItem i) old new
    (Ok tt)
came_in {E} {F} i came {old} {new} is steps = steps_answer {E = E} {F = F} (λ _. PutsItem i) tt
    (λ it. subst (λ b. TriesItem i b old.now new.now) is it) steps

-- after some items there was no room for the next
pub overfills : (done : List Item) (i : Item) (later : List Item) (old mid : Database)
    → EachChained PutsItem done old mid → IsFull (kind_of i.content) mid → Overfills (done ++ i ∷ later) old
overfills [] i later old mid same full = inl (subst (IsFull (kind_of i.content)) same full)
overfills (x ∷ done) i later old mid chain full = inr (
  chain.0,
  chain.1,
  overfills done i later chain.0 mid chain.2
      full,
)

pub stopped : {E F : Type 0} (items done : List Item) (i : Item) (later : List Item) (came : Bool)
    {old mid new : State} → done ++ i ∷ later ≡ items → came ≡ false → EachStep PutsItem done old mid
    → Steps {E = E} (TriesItem i) mid new (Ok came) → Steps {E = F} (TriesItems items) old new (Ok false)
stopped {E} {F} items done i later came {old} {mid} {new} whole is each steps =
    steps_answer {E = E} {F = F} (TriesItems items) false (λ it. subst (λ xs. Overfills xs old.now) whole
    (overfills done i later old.now it.0 it.1 (subst (λ b. TriesItem i b it.0 new.now) is it.2)))
    (steps_then each steps)

-- ---- a list so far, at an index of it

pub take_one : {X : Type 0} (xs : List X) (k : ℕ) (x : X) → k < length xs → x ≡ get_or xs k x
    → take (k + 1) xs ≡ take k xs ++ x ∷ []
take_one xs k x within is = take_more xs k x within ∙ ap (λ y. take k xs ++ y ∷ []) (sym is)

pub whole_of : {X : Type 0} (xs : List X) (k : ℕ) (x : X) → k < length xs → x ≡ get_or xs k x
    → take k xs ++ x ∷ drop (k + 1) xs ≡ xs
whole_of xs k x within is = sym (append_assoc (take k xs) (x ∷ []) (drop (k + 1) xs))
    ∙ ap (λ l. l ++ drop (k + 1) xs) (sym (take_one xs k x within is)) ∙ take-append-drop (k + 1) xs

-- ---- a whole cut

pub took : {E F : Type 0} (c : Cut) (came : Bool) {old new : State} → came ≡ true
    → Steps {E = E} (TriesEach c) old new (Ok came) → Steps {X = Unit {0}} {E = F} (λ _. Takes c) old new (Ok tt)
took {E} {F} c came {old} {new} is steps = steps_answer {E = E} {F = F} (λ _. Takes c) tt
    (λ it. cut_in c old.now new.now (subst (λ b. TriesEach c b old.now new.now) is it)) steps

pub overfilled : {E : Type 0} (c : Cut) (came : Bool) {old new : State} → came ≡ false
    → Steps {E = E} (TriesEach c) old new (Ok came) → HasCleanDisk new → IsTrue old.in_transaction
    → IsTooMuch c old.now
overfilled c came {old} {new} is steps clean inside = too_much c old.now
    (subst (λ b. TriesEach c b old.now new.now) is (steps.made clean inside).2)

pub all_in : {E F : Type 0} (c : Cut) (came : Bool) {old mid new : State} {x : Unit {0}} → came ≡ true
    → Steps {E = E} (TriesItems c.items) old mid (Ok came) → Steps {X = Unit {0}} {E = F}
    (λ _. EachChained PutsLink c.links) mid new (Ok x) → Steps {E = F} (TriesEach c) old new (Ok true)
all_in {E} {F} c came {old} {mid} {new} is items links =
    steps_answer {E = F} {F = F} (TriesEach c) true (λ it. (
      it.0,
      subst (λ b. TriesItems c.items b old.now it.0) is
          it.1,
      it.2,
    )) (steps_then {E = E} {F = F} items links)
