-- Which refusals are by the rules.
use Rattle.std.proofs.Common.{◌≡◌, ◌≢◌, ◌⊎◌, ℕ, List, refl}
use Rattle.sheet_types.specs.declared.refusal.Refusal.{Refusal}
use Rattle.sheet_types.specs.declared.refusal.Refusal.TheVariants.{OutOfMemory, StoreFault}
use Rattle.desk_replies.specs.Responses.{IsRefusal, conflict_response, fixed_response, refusal_response}
use Rattle.desk_replies.specs.declared.fixed.Fixed.TheVariants as fixed

-- a refusal that is neither want of memory nor of a store
pub by_the_rules : (why : Refusal) → why ≢ OutOfMemory → why ≢ StoreFault
    → conflict_response why ≡ refusal_response why
by_the_rules OutOfMemory memory store = absurd (memory refl)
by_the_rules StoreFault memory store = absurd (store refl)
by_the_rules why memory store = refl

-- a response to one that is none of a store
pub answered : (why : Refusal) (out : List ℕ) → why ≢ StoreFault
    → (out ≡ refusal_response why) ⊎ (out ≡ fixed_response fixed.OutOfMemory) → IsRefusal why out
answered StoreFault out store which = absurd (store refl)
answered why out store which = which
