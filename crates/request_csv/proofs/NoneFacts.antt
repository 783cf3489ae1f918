-- What holds where there is none.
use Rattle.std.specs.Prelude.{Option, Some, None, Result, Ok, Err, IfOk, IfNone}

-- what holds anyway
pub if_none : {X P : Type 0} (found : Option X) → P → IfNone found P
if_none (Some x) holds = tt
if_none None holds = holds

-- what follows from what holds there
pub none_then : {X P Q : Type 0} (found : Option X) → (P → Q) → IfNone found P → IfNone found Q
none_then None then none = then none
none_then (Some x) then none = tt

pub ok_none_then : {X E P Q : Type 0} (found : Result (Option X) E) → (P → Q) → IfOk found (λ o. IfNone o P)
    → IfOk found (λ o. IfNone o Q)
ok_none_then (Ok o) then none = none_then o then none
ok_none_then (Err e) then none = tt
