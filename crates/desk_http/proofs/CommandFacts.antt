-- What was found of a request says what its bytes ask.
use Rattle.std.proofs.Common.{◌≡◌, ◌≤◌, ◌+◌, ◌-◌, ◌∙◌, ℕ, List, ◌++◌, length, take}
use Rattle.std.proofs.Common.{codes, drop, refl, slice_range}
use Rattle.std.proofs.Common.{Option, Some, None, IfSome, Result, ◌⊎◌, inl, inr, sym, ap, arith}
use Rattle.std.proofs.lemmas.List.{append_assoc, append_cancel_left, drop-append-le, length-drop, length-take}
use Rattle.std.proofs.lemmas.List.{take-append-drop}
use Rattle.std.specs.Fmt.{digits}
use Rattle.std.specs.Io.KnownBytes.{Consumes}
use Rattle.httparse.specs.Grammar.{RequestHead, print_request}
use Rattle.httparse.specs.Spans.{IsRequestAt}
use Rattle.httparse.specs.declared.spans.HeaderSpan.{HeaderSpan}
use Rattle.httparse.specs.declared.spans.RequestSpans.{RequestSpans}
use Rattle.desk_calls.specs.Bodies.{Grows}
use Rattle.desk_calls.specs.Heads.{Gathers}
use Rattle.desk_calls.specs.declared.heads.Gathered.TheVariants.{Head}
use Rattle.desk_http.specs.Commands.{HeadPasses, IsAsked, IsCommand, IsCutShort, IsHanded, IsRest, MayPass}
use Rattle.desk_http.specs.Commands.{TurnsAway, bad_key}
use Rattle.desk_http.specs.declared.serving.Served.{Served}
use Rattle.desk_http.specs.declared.serving.ServeFault.{ServeFault}

-- the bytes after the head are those of the input after it, and what is left
pub rest_of : (old more zs ys new : List ℕ) (start : ℕ) → start ≤ length old → new ≡ old ++ more
    → ys ≡ more ++ zs
    → drop start old ++ ys ≡ drop start new ++ zs
rest_of old more zs ys new start within grown taken =
    rw (grown, taken, drop-append-le start old more within) (sym (append_assoc (drop start old) more zs))

pub body_gathered : (own key : List ℕ) (o after : Option (List ℕ)) (old new : List ℕ) (start size : ℕ)
    (h : RequestHead)
    → Grows o after old new → start ≤ length old → start + size ≤ length new → HeadPasses own key h size
    → IfSome o (λ ys. IsRest own key h (drop start old ++ ys) (slice_range new start (start + size)))
body_gathered own key None after old new start size h grows within enough passes = tt
body_gathered own key (Some ys) None old new start size h grows within enough passes = absurd grows.taken
body_gathered own key (Some ys) (Some zs) old new start size h grows within enough passes =
    let same = rest_of old grows.more zs ys new start within grows.grown grows.taken in
    let room : size ≤ length (drop start new) = omega (arith, length-drop start new) in
    let width : start + size - start ≡ size = omega arith in
    let long : length (take size (drop start new)) ≡ size = omega (arith, room, length-take size (drop start new)) in
    rw width record {
      passes = rw long passes;
      more = drop size (drop start new) ++ zs;
      is = same ∙ ap (λ l. l ++ zs) (sym (take-append-drop size (drop start new)))
          ∙ append_assoc (take size (drop start new)) (drop size (drop start new)) zs;
    }

-- what follows a head in all the bytes is what follows it in the input, and then what is left
pub rest_is : (xs ys input front rest tail : List ℕ) → xs ≡ input ++ ys → input ≡ front ++ tail
    → xs ≡ front ++ rest
    → rest ≡ tail ++ ys
rest_is xs ys input front rest tail taken read whole =
    append_cancel_left front rest (tail ++ ys)
    (sym whole ∙ taken ∙ ap (λ l. l ++ ys) read ∙ append_assoc front tail ys)

pub whole_asked : (own key : List ℕ) (o after : Option (List ℕ)) (input : List ℕ) (headers : List HeaderSpan)
    (spans : RequestSpans) (body : List ℕ) → Consumes o after input
    → IfSome o (λ xs. Gathers xs input headers (Head spans))
    → ((h : RequestHead) → IsRequestAt input headers spans h
    → IfSome after (λ ys. IsRest own key h (drop spans.len input ++ ys) body))
    → IfSome o (λ xs. IsCommand own key xs body)
whole_asked own key None after input headers spans body taken found asks = tt
whole_asked own key (Some xs) None input headers spans body taken found asks = absurd taken
whole_asked own key (Some xs) (Some ys) input headers spans body taken (h, rest, is, at) asks =
    let same : rest ≡ drop spans.len input ++ ys =
    rest_is xs ys input (print_request h) rest (drop spans.len input) taken at.reads.1 is.reads.1 in
    (h, rest, is, rw same (asks h at))

-- what was handed on is the body of the request
pub handed_or_left : {K L : Type 0} {attends : List ℕ → Option (List ℕ) → Option (List ℕ) → K → K → Type 0}
    {own key : List ℕ} {text held holds : Option (List ℕ)} {clerk next : K} {end : Result Served ServeFault}
    (body : List ℕ) → MayPass own key text body
    → IsAsked attends body held holds clerk next end ⊎ (L × IsCutShort held holds end)
    → IsHanded attends own key text held holds clerk next end ⊎ (L × TurnsAway own key text held holds end)
handed_or_left body passes (inl asked) = inl record { body = body; passes = passes; asked = asked }
handed_or_left body passes (inr (left, cut)) = inr (left, inr (inr cut))

-- the answer to a wrong key, computed
pub bad_key_is : codes "HTTP/1.1 403 Forbidden\r\ncontent-type: application/json\r\ncontent-length: 19\r\nconnection: close\r\n\r\n{\"fault\":\"bad key\"}" ≡ bad_key
unfolding digits
bad_key_is = refl
