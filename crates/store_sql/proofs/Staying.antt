-- Reads one after the other.
use Rattle.std.proofs.Common.{subst, Result}
use Rattle.sqlite.specs.Effect.{Database}
use Rattle.sqlite.specs.State.{State}
use Rattle.sqlite.proofs.StateLemmas.{survives_then}
use Rattle.store_sql.specs.Transactions.{Holds, Looks}
use Rattle.store_sql.specs.Staying.{Stays}

-- a read leaves the store as it was
pub looks_stays : {X E : Type 0} {Answers : X → Database → Database → Type 0} {old new : State} {r : Result X E}
    → Looks Answers old new r → Stays old new
looks_stays it = record { rests = it.rests; was_open = it.was_open; holds = it.holds; survives = it.survives }

pub stays_then : {a b c : State} → Stays a b → Stays b c → Stays a c
stays_then {a} {b} {c} first next = record {
  rests = next.rests;
  was_open = λ is_open. first.was_open (next.was_open is_open);
  holds = λ is_open.
      let late = next.holds is_open in
      let early = first.holds (next.was_open is_open) in
      subst (Holds c) early.now_is late;
  survives = survives_then _ _ _ _ _ _ (λ _ db none. absurd none) (λ _ db none. absurd none) first.survives
      next.survives;
}
