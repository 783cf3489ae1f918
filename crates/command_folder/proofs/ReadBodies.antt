-- A body that is not too long was read whole; and what is said of an error, whatever the result.
use Rattle.std.proofs.Common.{◌≡◌, ◌∙◌, ◌≤◌, ◌+◌, ◌++◌, ℕ, List, [], Option, Some, None}
use Rattle.std.proofs.Common.{IfSome, Result, Ok, Err}
use Rattle.std.proofs.Common.{OnErr, take, length, min, ap, subst, arith}
use Rattle.std.specs.Option.{option_map}
use Rattle.std.proofs.lemmas.List.{length-take, take_all}

pub on_err : {A E : Type 0} (r : Result A E) (P : Type 0) → P → OnErr r P
on_err (Ok a) P p = tt
on_err (Err e) P p = p

-- ---- the front of what a reader has

after_map : (n : ℕ) (left : Option (List ℕ)) (got : List ℕ) → IfSome (option_map (take n) left)
    (λ xs. got ≡ xs)
    → IfSome left (λ text. got ≡ take n text)
after_map n None got it = it
after_map n (Some text) got it = it

pub read_taken : {R : Type 0} (remaining : R → Option (List ℕ)) (limit n : ℕ) (inner reader : R)
    (start got : List ℕ)
    → limit ≡ n → inner ≡ reader → start ≡ [] → IfSome (option_map (take limit) (remaining inner))
    (λ xs. got ≡ start ++ xs) → IfSome (remaining reader) (λ text. got ≡ take n text)
read_taken remaining limit n inner reader start got most same empty it =
    after_map n (remaining reader) got
    (subst (λ s. IfSome (option_map (take n) (remaining reader)) (λ xs. got ≡ s ++ xs)) empty
    (subst (λ r. IfSome (option_map (take n) (remaining r)) (λ xs. got ≡ start ++ xs)) same
    (subst (λ l. IfSome (option_map (take l) (remaining inner)) (λ xs. got ≡ start ++ xs)) most it)))

-- ---- all of it

all_taken : (most : ℕ) (body text : List ℕ) → length body ≤ most → body ≡ take (most + 1) text
    → body ≡ text
all_taken most body text low taken =
    let long : length body ≡ min (most + 1) (length text) = ap length taken ∙ length-take (most + 1) text in
    let short : length text ≤ most + 1 = omega (arith, long, low) in
    taken ∙ take_all (most + 1) text short

pub read_whole : (most : ℕ) (remaining : Option (List ℕ)) (body : List ℕ) → length body ≤ most
    → IfSome remaining (λ text. body ≡ take (most + 1) text) → IfSome remaining (λ text. body ≡ text)
read_whole most None body low it = it
read_whole most (Some text) body low it = all_taken most body text low it
