-- What a beginning of a reader's bytes says of them all.
use Rattle.std.proofs.Common.{◌≡◌, ◌≢◌, ◌≤◌, ◌+◌, ◌-◌, ◌∙◌, ℕ, List, [], ◌∷◌}
use Rattle.std.proofs.Common.{◌++◌, Option, Some, None, IfSome}
use Rattle.std.proofs.Common.{length, take, drop, refl, sym, ap, arith, append-nil, false, ◌==◌, ◌⊎◌, inl}
use Rattle.std.proofs.Common.{inr}
use Rattle.std.proofs.KnownBytes.{Consumes-trans}
use Rattle.std.proofs.lemmas.List.{length-map, length-append, length-take}
use Rattle.std.proofs.Math.Seq.{take-append_seam, take-append-add}
use Rattle.std.specs.Io.KnownBytes.{Consumes, IsAtEnd}
use Rattle.httparse.proofs.GrammarLemmas.{ReadsRequest-append}
use Rattle.httparse.specs.Grammar.{HasNoRequest, print_request}
use Rattle.httparse.specs.Spans.{IsRequestOf, RequestOverflows}
use Rattle.httparse.specs.declared.spans.HeaderSpan.{HeaderSpan}
use Rattle.httparse.specs.declared.spans.RequestSpans.{RequestSpans}
use Rattle.desk_calls.specs.Heads.{Gathers}
use Rattle.desk_calls.specs.declared.heads.Gathered.TheVariants.{Nothing, Bad, Head}

front_nil : (a b : List ℕ) → a ++ b ≡ [] → a ≡ []
front_nil [] b e = refl
front_nil (x ∷ a) b e = cc e

-- of two ways to cut a list the shorter front is a front of the longer one
front_of : (a b c d : List ℕ) → a ++ b ≡ c ++ d → length c ≤ length a
    → a ≡ c ++ take (length a - length c) d
front_of a b c d e h =
    let n : length a ≡ length c + (length a - length c) = omega arith in
    sym (take-append_seam a b) ∙ ap (take (length a)) e ∙ ap (λ k. take k (c ++ d)) n
    ∙ take-append-add c d (length a - length c)

pub whole_gathers : (o after : Option (List ℕ)) (input : List ℕ) (headers : List HeaderSpan) (spans : RequestSpans)
    → Consumes o after input → length input ≤ 16384 → length headers ≡ 64
    → IsRequestOf input headers spans → IfSome o (λ xs. Gathers xs input headers (Head spans))
whole_gathers None after input headers spans p short room is = tt
whole_gathers (Some xs) None input headers spans p short room is = absurd p
whole_gathers (Some xs) (Some ys) input headers spans p short room (h, at) =
    let rest = drop spans.len input in
    let sizes = ap length at.reads.1 in
    let counts = simp length-map at (ap length at.fields) in (
      h,
      rest ++ ys,
      record {
        reads = rw p (ReadsRequest-append input h rest ys at.reads);
        short = omega (arith, sizes, length-append (print_request h) rest);
        few = omega (arith, counts, length-take spans.headers headers);
      },
      at,
    )

pub never_gathers : (o after : Option (List ℕ)) (input : List ℕ) (headers : List HeaderSpan)
    → Consumes o after input
    → input ≢ []
    → RequestOverflows 64 input → IfSome o (λ xs. Gathers xs input headers Bad)
never_gathers None after input headers p some over = tt
never_gathers (Some xs) None input headers p some over = absurd p
never_gathers (Some xs) (Some ys) input headers p some over = (
  λ e. some (front_nil input ys (sym p ∙ e)),
  λ h rest is. let many =
      over ys h rest (rw p at is.reads) in let few = is.few in absurd (omega arith),
)

pub full_gathers : (o after : Option (List ℕ)) (input : List ℕ) (headers : List HeaderSpan)
    → Consumes o after input
    → 16384 ≤ length input → input ≢ []
    → HasNoRequest input → IfSome o (λ xs. Gathers xs input headers Bad)
full_gathers None after input headers p full some none = tt
full_gathers (Some xs) None input headers p full some none = absurd p
full_gathers (Some xs) (Some ys) input headers p full some none = (
  λ e. some (front_nil input ys (sym p ∙ e)),
  λ h rest is. let short = is.short in
      none h _ (is.reads.0, front_of input ys (print_request h) rest (sym p ∙ is.reads.1) (omega arith)),
)

pub ended_gathers : (o after : Option (List ℕ)) (input : List ℕ) (headers : List HeaderSpan)
    → Consumes o after input
    → IsAtEnd after → input ≢ []
    → HasNoRequest input → IfSome o (λ xs. Gathers xs input headers Bad)
ended_gathers None after input headers p end some none = tt
ended_gathers (Some xs) None input headers p end some none = absurd p
ended_gathers (Some xs) (Some ys) input headers p end some none =
    let same : xs ≡ input = p ∙ ap (λ l. input ++ l) end ∙ append-nil input in
    (λ e. some (sym same ∙ e), λ h rest is. none h rest (rw same at is.reads))

pub nothing_gathers : (o after : Option (List ℕ)) (input : List ℕ) (headers : List HeaderSpan)
    → Consumes o after input → IsAtEnd after → input ≡ []
    → IfSome o (λ xs. Gathers xs input headers Nothing)
nothing_gathers None after input headers p end none = tt
nothing_gathers (Some xs) None input headers p end none = absurd p
nothing_gathers (Some xs) (Some ys) input headers p end none =
    p ∙ ap (λ l. input ++ l) end ∙ append-nil input ∙ none

pub grown : (o a b : Option (List ℕ)) (old new bs : List ℕ) → Consumes o a old → new ≡ old ++ bs
    → Consumes a b bs
    → Consumes o b new
grown o a b old new bs p e q = rw e (Consumes-trans o a b old bs p q)

pub grown_some : (old new bs : List ℕ) (n : ℕ) → n ≢ 0 → n ≡ length bs → new ≡ old ++ bs → new ≢ []
grown_some old new bs n some size e none = let sum = ap length (sym e ∙ none) in some
    (omega (arith, sum, length-append old bs))

pub long_some : (xs : List ℕ) → 16384 ≤ length xs → xs ≢ []
long_some xs h e = let none = ap length e in absurd (omega arith)

pub none_of : {P : Type 0} (xs : List ℕ) → (xs ≡ []) ⊎ P → xs ≢ [] → P
none_of xs (inl e) some = absurd (some e)
none_of xs (inr p) some = p

pub nothing_read : (old new bs : List ℕ) → 0 ≡ length bs → new ≡ old ++ bs → new ≡ old
nothing_read old new [] size e = e ∙ append-nil old
nothing_read old new (b ∷ bs) size e = absurd (omega arith)

pub not_empty : (n : ℕ) (xs : List ℕ) → false ≡ (n == 0) → n ≡ length xs → xs ≢ []
not_empty n xs test size e = cc (rw (size, e) at test)

-- a piece no longer than the room
pub room_within : (old new n : ℕ) → new ≤ old + (16384 - n) → n ≡ old → old ≤ 16384 → new ≤ 16384
room_within old new n h e small = omega arith

-- a piece that is not empty makes the input longer
pub one_more : (old new bs : List ℕ) (turn n : ℕ) → turn ≤ length old → n ≢ 0 → n ≡ length bs
    → new ≡ old ++ bs
    → turn + 1 ≤ length new
one_more old new bs turn n h some size e = let sum = ap length e in omega (arith, sum, length-append old bs)
