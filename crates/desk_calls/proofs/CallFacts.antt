-- What a head that was found says of all the bytes.
use Rattle.std.proofs.Common.{◌≡◌, ◌∙◌, ℕ, List, ◌++◌, Option, Some, None, IfSome, drop, sym, ap, inr}
use Rattle.std.proofs.lemmas.List.{append_assoc, append_cancel_left, append_cancel_right}
use Rattle.std.specs.Io.KnownBytes.{Consumes}
use Rattle.uuid.specs.Text.{parsed_hyphenated}
use Rattle.httparse.specs.Grammar.{RequestHead, print_request}
use Rattle.httparse.specs.Spans.{IsRequestAt}
use Rattle.httparse.specs.declared.spans.HeaderSpan.{HeaderSpan}
use Rattle.httparse.specs.declared.spans.RequestSpans.{RequestSpans}
use Rattle.desk_calls.specs.Calls.{HeadAsks, IsCall, NamesBetween, RestAsks}
use Rattle.desk_calls.specs.Heads.{Gathers}
use Rattle.desk_calls.specs.declared.calls.Asked.{Asked}
use Rattle.desk_calls.specs.declared.calls.Call.{Call}
use Rattle.desk_calls.specs.declared.heads.Gathered.TheVariants.{Head}

-- the UUID of the text between the two
pub uuid_named : (front back path text : List ℕ) (found : Option (List ℕ)) → path ≡ front ++ (text ++ back)
    → found ≡ parsed_hyphenated text → NamesBetween front back path found
uuid_named front back path text (Some id) e f = (text, e, sym f)
uuid_named front back path text None e f = λ other is. rw (append_cancel_right other text back
    (append_cancel_left front (other ++ back) (text ++ back) (sym is ∙ e))) (sym f)

-- what follows a head in all the bytes is what follows it in the input, and then what is left
rest_is : (xs ys input front rest tail : List ℕ) → xs ≡ input ++ ys → input ≡ front ++ tail
    → xs ≡ front ++ rest
    → rest ≡ tail ++ ys
rest_is xs ys input front rest tail taken read whole = append_cancel_left front rest (tail ++ ys)
    (sym whole ∙ taken ∙ ap (λ l. l ++ ys) read ∙ append_assoc front tail ys)

pub whole_call : (own : List ℕ) (o after : Option (List ℕ)) (input : List ℕ) (headers : List HeaderSpan)
    (spans : RequestSpans) (call : Call) → Consumes o after input
    → IfSome o (λ xs. Gathers xs input headers (Head spans))
    → ((h : RequestHead) → IsRequestAt input headers spans h
    → IfSome after (λ ys. (asked : Asked) × HeadAsks own h asked
    × RestAsks asked (drop spans.len input ++ ys) call))
    → IfSome o (λ xs. IsCall own xs call)
whole_call own None after input headers spans call taken found asks = tt
whole_call own (Some xs) None input headers spans call taken found asks = absurd taken
whole_call own (Some xs) (Some ys) input headers spans call taken (h, rest, is, at) asks =
    let (asked, head, more) = asks h at in
    let same : rest ≡ drop spans.len input ++ ys = rest_is xs ys input (print_request h) rest (drop spans.len input)
    taken at.reads.1 is.reads.1 in
    inr (h, rest, is, asked, head, rw same more)
