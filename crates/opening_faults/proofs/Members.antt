-- Elements by their index and by recursion.
use Rattle.std.specs.Prelude.{List, Contains, All}
use Rattle.std.proofs.Common.{subst}
use Rattle.std.proofs.lemmas.List.Elements.{All-from_recursion}
use Rattle.sheet_types.proofs.Same.{In, In-all}

pub all_contains : {X : Type 0} (P : X → Type 0) (xs : List X) (x : X) → All P xs → Contains xs x → P x
all_contains P xs x all h = subst P h.2 (all h.0 x h.1)

pub contained : {X : Type 0} (xs : List X) (x : X) → Contains xs x → In x xs
contained xs x h = all_contains (λ y. In y xs) xs x (All-from_recursion (λ y. In y xs) xs (In-all xs)) h
