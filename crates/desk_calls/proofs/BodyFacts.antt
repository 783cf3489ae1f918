-- What an input that has grown says of the bytes after a head.
use Rattle.std.proofs.Common.{◌≡◌, ◌≤◌, ◌<◌, ◌+◌, ◌-◌, ℕ, List, ◌++◌, Option, Some}
use Rattle.std.proofs.Common.{None, IfSome, length, drop}
use Rattle.std.proofs.Common.{slice_range, refl, sym, ap, arith, inl, inr}
use Rattle.std.proofs.lemmas.List.{append_assoc, drop-append-le, take-append-le, length-append, length-drop}
use Rattle.std.specs.Io.KnownBytes.{IsAtEnd}
use Rattle.desk_calls.specs.Bodies.{Grows}
use Rattle.desk_calls.specs.Calls.{BodyAsks, RestAsks}
use Rattle.desk_calls.specs.declared.calls.Call.{Call}
use Rattle.desk_calls.specs.declared.calls.Call.TheVariants.{Refused}
use Rattle.desk_calls.specs.declared.calls.Flaw.TheVariants.{BadRequest}
use Rattle.desk_calls.specs.declared.calls.Asked.TheVariants.{Body}

-- the bytes after the head are those of the input after it, and what is left
rest_of : (old more zs ys new : List ℕ) (start : ℕ) → start ≤ length old → new ≡ old ++ more
    → ys ≡ more ++ zs
    → drop start old ++ ys ≡ drop start new ++ zs
rest_of old more zs ys new start within grown taken =
    rw (grown, taken, drop-append-le start old more within) (sym (append_assoc (drop start old) more zs))

pub enough_asks : (o after : Option (List ℕ)) (old new : List ℕ) (start size : ℕ) (call : Call)
    → Grows o after old new → start ≤ length old → start + size ≤ length new
    → BodyAsks (slice_range new start (start + size)) call → IfSome o
    (λ ys. RestAsks (Body size) (drop start old ++ ys) call)
enough_asks None after old new start size call grows within enough asks = tt
enough_asks (Some ys) None old new start size call grows within enough asks = absurd grows.taken
enough_asks (Some ys) (Some zs) old new start size call grows within enough asks =
    let same = rest_of old grows.more zs ys new start within grows.grown grows.taken in
    let room : size ≤ length (drop start new) = omega (arith, length-drop start new) in
    let width : start + size - start ≡ size = omega arith in
    inr (
      rw same (omega (arith, room, length-append (drop start new) zs)),
      rw (same, take-append-le size (drop start new) zs room) (rw width at asks),
    )

pub short_asks : (o after : Option (List ℕ)) (old new : List ℕ) (start size : ℕ) → Grows o after old new
    → start ≤ length old → length new < start + size
    → IsAtEnd after → IfSome o (λ ys. RestAsks (Body size) (drop start old ++ ys) (Refused BadRequest))
short_asks None after old new start size grows within short end = tt
short_asks (Some ys) None old new start size grows within short end = absurd grows.taken
short_asks (Some ys) (Some zs) old new start size grows within short end =
    let same = rest_of old grows.more zs ys new start within grows.grown grows.taken in
    let none : length zs ≡ 0 = ap length end in
    let longer : length old ≤ length new = let sum = ap length grows.grown in omega
    (arith, sum, length-append old grows.more) in
    inl (rw same (omega (arith, none, longer, length-append (drop start new) zs, length-drop start new)), refl)
