-- Why a request is not handed on.
use Rattle.std.proofs.Common.{◌≡◌, ◌≢◌, ◌≤◌, ◌<◌, ◌+◌, ◌⊎◌, ◌∙◌, ℕ, ℤ, pos, List, [], ◌∷◌, ◌++◌, length, map, drop}
use Rattle.std.proofs.Common.{Option, Some, None, IfSome, Result, true, inl, inr, refl, subst, sym, ap, arith}
use Rattle.std.proofs.Common.{FitsSigned, w64}
use Rattle.std.specs.Prelude.{negsuc, decimal, int_lt}
use Rattle.std.specs.Fmt.{signed_decimal}
use Rattle.std.specs.Io.KnownBytes.{Consumes, IsAtEnd}
use Rattle.std.specs.Str.{IsUtf8}
use Rattle.std.proofs.lemmas.Fmt.{IsAscii-decimal, decimal_injective}
use Rattle.std.proofs.lemmas.Int.{ints}
use Rattle.std.proofs.lemmas.List.{length-append, length-drop}
use Rattle.std.proofs.lemmas.Str.{IsUtf8-from_ascii}
use Rattle.httparse.proofs.GrammarLemmas.{print_request-append, request_unique}
use Rattle.httparse.specs.Grammar.{RequestHead, print_blank, print_end, print_request, print_section, print_version}
use Rattle.httparse.specs.Spans.{IsRequestAt, name_and_value}
use Rattle.httparse.specs.declared.spans.HeaderSpan.{HeaderSpan}
use Rattle.httparse.specs.declared.spans.RequestSpans.{RequestSpans}
use Rattle.sheet_types.proofs.Commas.{Lacks, decimal_lacks}
use Rattle.desk_calls.specs.Bodies.{Grows}
use Rattle.desk_calls.specs.Heads.{Gathers, HasNoHead, HeadIs}
use Rattle.desk_calls.specs.declared.heads.Gathered.TheVariants.{Head}
use Rattle.desk_replies.specs.Responses.{fixed_response}
use Rattle.desk_replies.specs.declared.fixed.Fixed.TheVariants as fixed
use Rattle.desk_http.proofs.CommandFacts.{rest_is, rest_of}
use Rattle.desk_http.specs.Commands.{AsksNone, HeadPasses, IsChance, IsCommand, IsRest, IsSize, TellsSize, TurnsAway}
use Rattle.desk_http.specs.Commands.{TurnsBy, bad_key}
use Rattle.desk_http.specs.declared.commands.Bar.{Bar}
use Rattle.desk_http.specs.declared.commands.Bar.TheVariants.{Unread, Key, Other}
use Rattle.desk_http.specs.declared.serving.Served.{Served}
use Rattle.desk_http.specs.declared.serving.ServeFault.{ServeFault}

-- who is turned away has no request to be handed on, or the reader failed, or memory was wanting
pub turned : (own key : List ℕ) (text held holds : Option (List ℕ)) (end : Result Served ServeFault) (bar : Bar)
    → IsChance bar ⊎ AsksNone own key text → TurnsBy bar held holds end → TurnsAway own key text held holds end
turned own key text held holds end Unread why by = inl by
turned own key text held holds end Key (inl (inl e)) by = cc e
turned own key text held holds end Key (inl (inr e)) by = cc e
turned own key text held holds end Key (inr none) by = inr (inl (bad_key, inr (none, inl refl), by))
turned own key text held holds end (Other why) (inl (inl e)) by = cc e
turned own key text held holds end (Other why) (inl (inr e)) by = inr (inl (
  fixed_response fixed.OutOfMemory,
  inl refl,
  subst (λ bar. TurnsBy bar held holds end) e by,
))
turned own key text held holds end (Other why) (inr none) by =
    inr (inl (fixed_response why, inr (none, inr (why, refl)), by))

-- a size is a text
pub no_text : (text : List ℕ) → ¬ (IsUtf8 text) → (size : ℕ) → ¬ (IsSize text size)
no_text text none size is =
    let small = is.small in
    none (rw is.is (IsUtf8-from_ascii (decimal size) (IsAscii-decimal size (omega arith))))

-- it is a number
pub no_number : (text : List ℕ) → ((number : ℤ) → FitsSigned w64 number → text ≢ signed_decimal number)
    → (size : ℕ) → ¬ (IsSize text size)
no_number text none size is = let small = is.small in none (pos size) (omega arith) is.is

-- which is not negative
same_number : (number : ℤ) (size : ℕ) → FitsSigned w64 number → signed_decimal number ≡ decimal size
    → size ≤ 2300000
    → number ≡ pos size
same_number (pos n) size fits e small = ap pos (decimal_injective n size (omega arith) (omega arith) e)
same_number (negsuc n) size fits e small = cc (subst (Lacks 45) (sym e) (decimal_lacks 45 size (omega arith))).0

pub negative : (text : List ℕ) (number : ℤ) → text ≡ signed_decimal number → FitsSigned w64 number
    → int_lt number (pos 0) ≡ true
    → (size : ℕ) → ¬ (IsSize text size)
negative text number e fits below size is =
    let same = same_number number size fits (sym e ∙ is.is) is.small in
    let under : int_lt (pos size) (pos 0) ≡ true = rw same at below in
    absurd (omega (arith, ints, under))

-- and no larger than that
pub too_large : (text : List ℕ) (number : ℤ) → text ≡ signed_decimal number → FitsSigned w64 number
    → int_lt (pos 2300000) number ≡ true
    → (size : ℕ) → ¬ (IsSize text size)
too_large text number e fits above size is =
    let same = same_number number size fits (sym e ∙ is.is) is.small in
    let small = is.small in
    let over : int_lt (pos 2300000) (pos size) ≡ true = rw same at above in
    absurd (omega (arith, ints, over))

-- an empty key is nobody's
keyless : (own key xs body : List ℕ) → key ≡ [] → ¬ (IsCommand own key xs body)
keyless own key xs body e (h, rest, head, it) = it.passes.fields.0.some_key e

pub no_key : (own key : List ℕ) (text : Option (List ℕ)) → key ≡ [] → AsksNone own key text
no_key own key None e = tt
no_key own key (Some xs) e = λ body is. keyless own key xs body e is

-- a size that two texts tell is one
same_size : (fields : List (List ℕ × List ℕ)) (size other : ℕ) → TellsSize fields size → TellsSize fields other
    → size ≡ other
same_size fields size other (is, small) (also, few) =
    let texts : decimal size ∷ [] ≡ decimal other ∷ [] = sym is ∙ also in
    let same : decimal size ≡ decimal other = cc texts in
    decimal_injective size other (omega arith) (omega arith) same

-- a body that ends before its size
cut_short : (own key ys zs old new body : List ℕ) (start size : ℕ) (h : RequestHead)
    → Grows (Some ys) (Some zs) old new → start ≤ length old → length new < start + size → length zs ≡ 0
    → HeadPasses own key h size → ¬ (IsRest own key h (drop start old ++ ys) body)
cut_short own key ys zs old new body start size h grows within short none passes it =
    let same = rest_of old grows.more zs ys new start within grows.grown grows.taken in
    let sized = same_size (map name_and_value h.fields) size (length body) passes.fields.1 it.passes.fields.1 in
    let whole = ap length (sym same ∙ it.is) in
    let sum = ap length grows.grown in
    absurd (omega (
      arith,
      none,
      sized,
      whole,
      sum,
      length-append old grows.more,
      length-append (drop start new) zs,
      length-drop start new,
      length-append body it.more,
    ))

pub body_lacks : (own key : List ℕ) (o after : Option (List ℕ)) (old new : List ℕ) (start size : ℕ) (h : RequestHead)
    → Grows o after old new → start ≤ length old → length new < start + size → IsAtEnd after
    → HeadPasses own key h size
    → IfSome o (λ ys. (body : List ℕ) → ¬ (IsRest own key h (drop start old ++ ys) body))
body_lacks own key None after old new start size h grows within short end passes = tt
body_lacks own key (Some ys) None old new start size h grows within short end passes = absurd grows.taken
body_lacks own key (Some ys) (Some zs) old new start size h grows within short end passes =
    λ body it. cut_short own key ys zs old new body start size h grows within short (ap length end) passes it

-- no byte is no head
headless : (own key xs body : List ℕ) → xs ≡ [] → ¬ (IsCommand own key xs body)
headless own key xs body e (h, rest, head, it) =
    let written = sym e ∙ head.reads.1 ∙ print_request-append h rest in
    let tail = h.target ++ 32 ∷ (print_version h.minor
    ++ (print_end h.line_end ++ (print_section h.fields h.last ++ rest))) in
    let sizes = ap length written in
    absurd (omega (
      arith,
      sizes,
      length-append (print_blank h.blank) (h.method ++ 32 ∷ tail),
      length-append h.method (32 ∷ tail),
    ))

pub nothing_asked : (own key : List ℕ) (o : Option (List ℕ)) → IfSome o (λ xs. xs ≡ []) → AsksNone own key o
nothing_asked own key None found = tt
nothing_asked own key (Some xs) found = λ body is. headless own key xs body found is

bad_head : (own key xs body : List ℕ) → HasNoHead xs → ¬ (IsCommand own key xs body)
bad_head own key xs body none (h, rest, head, it) = none h rest head

pub bad_asked : (own key : List ℕ) (o : Option (List ℕ)) → IfSome o (λ xs. (xs ≢ []) × HasNoHead xs)
    → AsksNone own key o
bad_asked own key None found = tt
bad_asked own key (Some xs) found = λ body is. bad_head own key xs body found.1 is

-- what is none of the head that was found is none at all
one_head : (own key xs ys input body : List ℕ) (spans : RequestSpans) (h : RequestHead) (rest : List ℕ)
    → HeadIs xs h rest → rest ≡ drop spans.len input ++ ys
    → ¬ (IsRest own key h (drop spans.len input ++ ys) body) → ¬ (IsCommand own key xs body)
one_head own key xs ys input body spans h rest is same none (k, tail, front, asks) =
    let one = request_unique xs h k rest tail is.reads front.reads in
    none (rw (sym one.0, sym one.1, same) at asks)

none_asked : (own key : List ℕ) (o after : Option (List ℕ)) (input : List ℕ) (headers : List HeaderSpan)
    (spans : RequestSpans) → Consumes o after input → IfSome o (λ xs. Gathers xs input headers (Head spans))
    → ((h : RequestHead) → IsRequestAt input headers spans h
    → IfSome after (λ ys. (body : List ℕ) → ¬ (IsRest own key h (drop spans.len input ++ ys) body)))
    → AsksNone own key o
none_asked own key None after input headers spans taken found none = tt
none_asked own key (Some xs) None input headers spans taken found none = absurd taken
none_asked own key (Some xs) (Some ys) input headers spans taken (h, rest, is, at) none =
    let same : rest ≡ drop spans.len input ++ ys =
    rest_is xs ys input (print_request h) rest (drop spans.len input) taken at.reads.1 is.reads.1 in
    λ body asks. one_head own key xs ys input body spans h rest is same (none h at body) asks

pub barred_behind : (own key : List ℕ) (o after : Option (List ℕ)) (input : List ℕ) (headers : List HeaderSpan)
    (spans : RequestSpans) (bar : Bar) → Consumes o after input
    → IfSome o (λ xs. Gathers xs input headers (Head spans))
    → IsChance bar ⊎ ((h : RequestHead) → IsRequestAt input headers spans h
    → IfSome after (λ ys. (body : List ℕ) → ¬ (IsRest own key h (drop spans.len input ++ ys) body)))
    → IsChance bar ⊎ AsksNone own key o
barred_behind own key o after input headers spans bar taken found (inl chance) = inl chance
barred_behind own key o after input headers spans bar taken found (inr none) =
    inr (none_asked own key o after input headers spans taken found none)
