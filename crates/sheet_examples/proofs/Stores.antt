-- Of some stores the fault that opening answers, and that none above it holds.
use Rattle.std.specs.Prelude.{◌≡◌, ◌⊎◌, refl, ℕ, zero, suc, ◌<◌, Bool, true, false, List, []}
use Rattle.std.specs.Prelude.{◌∷◌, Some, ◌==◌, pos}
use Rattle.std.specs.Prelude.{int_le, bytes_eq, count_by, nat_le, Contains}
use Rattle.std.proofs.Common.{ap, sym, subst, ◌∙◌, inl, inr, arith}
use Rattle.std.proofs.lemmas.Bool.{false≢true, true≢false}
use Rattle.std.specs.Fmt.{digits}
use Rattle.std.specs.Option.{option_map_or}
use Rattle.hex.specs.Hex.{encode_with, decode_pairs}
use Rattle.sha2.specs.Sha256.{sha256, first_words, schedule, rounds, compress, hash_after, digest_bytes}
use Rattle.uuid.specs.Text.{by_index}
use Rattle.sheet_types.specs.Lines.{entry_from}
use Rattle.sheet_types.specs.Ordered.{is_before}
use Rattle.sheet_types.specs.Opening.{Claim, claim_of, is_open_claim, is_loan_of, is_reached, claims_at}
use Rattle.sheet_types.specs.Opening.{IsOpenSplitOf, Counted, NotAPackage, ForeignFrame, IsAtHome, IsNever}
use Rattle.sheet_types.specs.declared.receipt.Receipt.{Receipt}
use Rattle.sheet_types.proofs.Basics.{differ}
use Rattle.sheet_types.proofs.NewWorld.{new_balanced}
use Rattle.sheet_examples.specs.Sheets.{sheet, archive, crew, second_crew, tile, tile_of}
use Rattle.sheet_examples.specs.Story.{kept_as, archive_with, crew_with}
use Rattle.sheet_examples.specs.Ledgers.{added, lent}
use Rattle.sheet_examples.specs.Opening.{Store, head_of, claims_of, IsFormed, IsTied, frame_in, read, stored, before}
use Rattle.sheet_examples.specs.Opening.{lender, loan, tall, AnswersNoArchive, AnswersTwoArchives, AnswersNotAPackage}
use Rattle.sheet_examples.specs.Opening.{StraysAreLeft, AnswersTwoCopies, AnswersMissingPackage, AnswersForeignFrame}
use Rattle.sheet_examples.specs.Opening.{AnswersDangling, AnswersOutOfAccount, AnswersAltered, NewStoreStands}

-- ---- what a short list contains

none : {X : Type 0} (x : X) → Contains [] x → ⊥
none x c = absurd (omega (c.1, arith))

one : {X : Type 0} (a x : X) → Contains (a ∷ []) x → a ≡ x
one a x (zero, lt, e) = e
one a x (suc k, lt, e) = absurd (omega (lt, arith))

two : {X : Type 0} (a b x : X) → Contains (a ∷ b ∷ []) x → (a ≡ x) ⊎ (b ≡ x)
two a b x (zero, lt, e) = inl e
two a b x (suc zero, lt, e) = inr e
two a b x (suc (suc k), lt, e) = absurd (omega (lt, arith))

first_of : {X : Type 0} (a : X) (xs : List X) → Contains (a ∷ xs) a
first_of a xs = (0, omega arith, refl)

second_of : {X : Type 0} (a b : X) (xs : List X) → Contains (a ∷ b ∷ xs) b
second_of a b xs = (1, omega arith, refl)

-- ---- which claims are open

abbrev OpenIn : List Store → Store → Claim → Type 0
OpenIn stores s c = IsOpenSplitOf Store head_of claims_of IsFormed IsTied frame_in read stores s c

-- the claims of the stores that are found in so many rounds
abbrev among : List Store → ℕ → List Claim
among stores k = claims_at Store head_of claims_of IsFormed IsTied frame_in read k stores

abbrev lent_claim : Claim
lent_claim = claim_of lent

-- of the lender's claims the split alone is open
sole_open : (c : Claim) (all : List Claim) → Contains (claims_of lender) c → is_open_claim all c ≡ true
    → lent_claim ≡ c
unfolding by_index digits decode_pairs encode_with entry_from
sole_open c all inside opened =
    elim (two (claim_of added) lent_claim c inside) [
      | inl e ↦ let Open : Claim → Type 0 = λ x. is_open_claim all x
          ≡ true in absurd (false≢true (subst Open (sym e) opened))
      | inr e ↦ e
    ]

-- where the lender's is the one store with claims, its split is the one that is open
lender_open : (other : Store) (stores : List Store) (s : Store) (c : Claim) → claims_of other ≡ []
    → Contains (lender ∷ other ∷ []) s → OpenIn stores s c → lent_claim ≡ c
lender_open other stores s c quiet inside opened =
    let In : Store → Type 0 = λ x. Contains (claims_of x) c in
    let InList : List Claim → Type 0 = λ cs. Contains cs c in
    elim (two lender other s inside) [
      | inl e ↦ sole_open c (among stores opened.0) (subst In (sym e) opened.2) opened.3
      | inr e ↦ absurd (none c (subst InList quiet (subst In (sym e) opened.2)))
    ]

-- a store whose one claim is no open split has none
nothing_open : (s0 : Store) (c0 : Claim) → claims_of s0 ≡ c0 ∷ []
    → ((all : List Claim) → is_open_claim all c0 ≡ false) → (stores : List Store) (s : Store) (c : Claim)
    → Contains (s0 ∷ []) s → OpenIn stores s c → ⊥
nothing_open s0 c0 only shut stores s c inside opened =
    let In : Store → Type 0 = λ x. Contains (claims_of x) c in
    let InList : List Claim → Type 0 = λ cs. Contains cs c in
    let same : c0 ≡ c = one c0 c (subst InList only (subst In (sym (one s0 s inside)) opened.2)) in
    true≢false (sym opened.3 ∙ sym (ap (λ x. is_open_claim (among stores opened.0) x) same)
    ∙ shut (among stores opened.0))

-- no identity is before itself
abbrev NotBefore : List ℕ → List ℕ → Type 0
NotBefore id other = is_before other id ≡ false

abbrev named_uuid : Store → List ℕ
named_uuid s = option_map_or (λ h. h.uuid) (head_of s) []

-- ---- the faults

pub no_archive : AnswersNoArchive
no_archive = (refl, refl)

pub two_archives : AnswersTwoArchives
two_archives = (omega arith, λ h. absurd (omega (h, arith)))

abbrev unformed : Store
unformed = record before { formed = false }

pub not_a_package : AnswersNotAPackage
unfolding by_index digits decode_pairs encode_with entry_from
not_a_package = (
  refl,
  (
    (unformed, first_of unformed [], refl, false≢true),
    λ other h. subst (NotBefore archive)
        (ap named_uuid (one unformed h.0 h.1) ∙ h.2) refl,
  ),
)

pub strays_are_left : StraysAreLeft
unfolding by_index digits decode_pairs encode_with entry_from
strays_are_left id h = h.3 (ap (λ s. s.formed) (sym (one before h.0 h.1)))

-- what is in round 0 is in no round before
first_round : (stores : List Store) (s : Store) (j : ℕ) → j < 0
    → is_reached Store head_of claims_of IsFormed IsTied frame_in read j stores s ≡ false
first_round stores s j lt = absurd (omega (lt, arith))

-- with the one loan that it names, the split is neither doubled nor left out
counted_once : (test : ℕ → Bool) → test 1 ≡ false → IsNever (Counted Store head_of claims_of IsFormed IsTied
    frame_in
    read test (lender ∷ loan ∷ []))
unfolding by_index digits decode_pairs encode_with entry_from
counted_once test fails id h =
    let same : lent_claim ≡ h.1 = lender_open loan (lender ∷ loan ∷ []) h.0 h.1 refl h.2 h.3 in
    let Passes : Claim → Type 0 = λ c. test (count_by (is_loan_of Store head_of claims_of IsFormed IsTied frame_in
    read c) (lender ∷ loan ∷ [])) ≡ true in
    true≢false (sym (subst Passes (sym same) h.6) ∙ fails)

pub two_copies : AnswersTwoCopies
unfolding by_index digits decode_pairs encode_with entry_from
two_copies = (
  (
    lender,
    lent_claim,
    first_of lender (loan ∷ loan ∷ []),
    (0, (refl, first_round _ _), second_of (claim_of added) lent_claim [], refl),
    refl,
    refl,
    refl,
  ),
  counted_once
      (nat_le 2) refl,
)

pub missing_package : AnswersMissingPackage
unfolding by_index digits decode_pairs encode_with entry_from
missing_package = (
  (
    lender,
    lent_claim,
    first_of lender [],
    (
      0,
      (refl, first_round _ _),
      second_of (claim_of added)
          lent_claim [],
      refl,
    ),
    refl,
    refl,
    refl,
  ),
  counted_once (λ n. n == 0) refl,
)

-- ---- a loan of another frame

abbrev tall_loan : Store
tall_loan = record loan { frame = tall }

abbrev of_second : Store
of_second = stored (record (crew_with [] [] []) { loan = 2; parent = Some second_crew })

abbrev too_low : Store
too_low = stored (record (crew_with [] [] []) { loan = 2; depth = 2 })

-- both stores are formed
both_formed : IsNever (NotAPackage Store head_of claims_of IsFormed IsTied frame_in read (lender ∷ tall_loan ∷ []))
unfolding by_index digits decode_pairs encode_with entry_from
both_formed id h = elim (two lender tall_loan h.0 h.1) [
  | inl e ↦ h.3 (ap (λ s. s.formed) (sym e))
  | inr e
      ↦ h.3 (ap (λ s. s.formed) (sym e))
]

tall_counted : (test : ℕ → Bool) → test 1 ≡ false → IsNever (Counted Store head_of claims_of IsFormed IsTied
    frame_in
    read test (lender ∷ tall_loan ∷ []))
unfolding by_index digits decode_pairs encode_with entry_from
tall_counted test fails id h =
    let same : lent_claim ≡ h.1 = lender_open tall_loan (lender ∷ tall_loan ∷ []) h.0 h.1 refl h.2 h.3 in
    let Passes : Claim → Type 0 = λ c. test (count_by (is_loan_of Store head_of claims_of IsFormed IsTied frame_in
    read c) (lender ∷ tall_loan ∷ [])) ≡ true in
    true≢false (sym (subst Passes (sym same) h.6) ∙ fails)

-- the lender is no loan of its own split
tall_least : (other : List ℕ) → ForeignFrame Store head_of claims_of IsFormed IsTied frame_in read
    (lender ∷ tall_loan ∷ []) other → is_before other crew ≡ false
unfolding by_index digits decode_pairs encode_with entry_from
tall_least other h =
    let same : lent_claim ≡ h.2 = lender_open tall_loan (lender ∷ tall_loan ∷ []) h.1 h.2 refl h.5 h.6 in
    let Lends : Claim → Type 0 = λ c. is_loan_of Store head_of claims_of IsFormed IsTied frame_in read c h.3
    ≡ true in
    let Is : Store → Type 0 = λ s. is_loan_of Store head_of claims_of IsFormed IsTied frame_in read lent_claim s
    ≡ true in
    elim (two lender tall_loan h.3 h.7) [
      | inl e ↦ absurd (false≢true (subst Is (sym e) (subst Lends (sym same) h.8)))
      | inr e ↦ subst (NotBefore crew) (ap named_uuid e ∙ h.9) refl
    ]

heights_differ : tall ≡ sheet → ⊥
heights_differ e = differ (λ f. int_le f.max_y (pos 4096)) refl refl e

pub foreign_frame : AnswersForeignFrame
unfolding by_index digits decode_pairs encode_with entry_from
foreign_frame = (
  (
    refl,
    both_formed,
    tall_counted (nat_le 2) refl,
    tall_counted (λ n. n == 0) refl,
    (
      (
        lender,
        lender,
        lent_claim,
        tall_loan,
        refl,
        first_of lender (tall_loan ∷ []),
        (0, (refl, first_round _ _), second_of (claim_of added) lent_claim [], refl),
        second_of lender tall_loan [],
        refl,
        refl,
        inl heights_differ,
      ),
      tall_least,
    ),
  ),
  (
    lender,
    lender,
    lent_claim,
    of_second,
    refl,
    first_of lender (of_second ∷ []),
    (0, (refl, first_round _ _), second_of (claim_of added) lent_claim [], refl),
    second_of lender of_second [],
    refl,
    refl,
    inr (λ h. differ (λ o. option_map_or (λ x. bytes_eq x archive) o false) refl refl h.0),
  ),
  (
    lender,
    lender,
    lent_claim,
    too_low,
    refl,
    first_of lender (too_low ∷ []),
    (0, (refl, first_round _ _), second_of (claim_of added) lent_claim [], refl),
    second_of lender too_low [],
    refl,
    refl,
    inr (λ h. differ (λ n. n == 1) refl refl h.1),
  ),
)

-- ---- one store whose one claim is no split: nothing is missing, doubled or foreign

module _ (s0 : Store) (c0 : Claim) (only : claims_of s0 ≡ c0 ∷ [])
    (shut : (all : List Claim) → is_open_claim all c0 ≡ false) where
  never_counted : (test : ℕ → Bool) → IsNever (Counted Store head_of claims_of IsFormed IsTied frame_in read test
      (s0 ∷ []))
  never_counted test id h = nothing_open s0 c0 only shut (s0 ∷ []) h.0 h.1 h.2 h.3

  at_home : (s : Store) (c : Claim) (below : Store) → IsAtHome Store head_of claims_of IsFormed IsTied frame_in read
      (s0 ∷ []) s c below
  at_home s c below root found inside opened among_them lends =
      absurd (nothing_open s0 c0 only shut (s0 ∷ []) s c inside opened)

  never_foreign : IsNever (ForeignFrame Store head_of claims_of IsFormed IsTied frame_in read (s0 ∷ []))
  never_foreign id h = nothing_open s0 c0 only shut (s0 ∷ []) h.1 h.2 h.5 h.6

abbrev untied : Store
untied = record before { tied = false }

pub dangling : AnswersDangling
unfolding by_index digits decode_pairs encode_with entry_from
dangling = (
  refl,
  (λ id h. h.3 (ap (λ s. s.formed) (sym (one untied h.0 h.1)))),
  never_counted untied (claim_of added) refl (λ all. refl) (nat_le 2),
  never_counted untied (claim_of added) refl (λ all. refl) (λ n. n == 0),
  never_foreign untied (claim_of added) refl (λ all. refl),
  (
    (untied, first_of untied [], refl, false≢true),
    λ other h. subst (NotBefore archive)
        (ap named_uuid (one untied h.0 h.1) ∙ h.2) refl,
  ),
)

abbrev fourth : Receipt
fourth = record added { seq = 4 }

abbrev misnumbered : Store
misnumbered = stored (archive_with (kept_as 1 (tile 1 0 0) ∷ []) [] (fourth ∷ []))

pub out_of_account : AnswersOutOfAccount
unfolding by_index digits decode_pairs encode_with entry_from
out_of_account = (
  record {
    one_archive = refl;
    formed = (refl, tt);
    no_copies = never_counted misnumbered (claim_of fourth) refl (λ all. refl) (nat_le 2);
    none_missing = never_counted misnumbered (claim_of fourth) refl (λ all. refl) (λ n. n == 0);
    at_home = at_home misnumbered (claim_of fourth) refl (λ all. refl);
    tied = (refl, tt);
  },
  (misnumbered, refl, λ sound. differ (λ n. n == 1) refl refl sound.ledger.0.number),
)

abbrev changed_tile : Store
changed_tile = stored (archive_with (kept_as 1 (tile_of 1 0 0 (66 ∷ [])) ∷ []) [] (added ∷ []))

pub altered_item : AnswersAltered
unfolding by_index digits decode_pairs encode_with entry_from sha256 first_words schedule rounds compress hash_after
    digest_bytes
altered_item = (
  (changed_tile, refl, refl),
  record {
    one_archive = refl;
    formed = (refl, tt);
    no_copies = never_counted changed_tile (claim_of added) refl (λ all. refl) (nat_le 2);
    none_missing = never_counted changed_tile (claim_of added) refl (λ all. refl) (λ n. n == 0);
    at_home = at_home changed_tile (claim_of added) refl (λ all. refl);
    tied = (refl, tt);
  },
)

-- ---- a new store stands for the new world

abbrev new_store : Store
new_store = stored (archive_with [] [] [])

-- a store without claims has no open split
no_claim : (s : Store) (c : Claim) → Contains (new_store ∷ []) s → OpenIn (new_store ∷ []) s c → ⊥
no_claim s c inside opened = let In : Store → Type 0 = λ x. Contains (claims_of x) c in none c
    (subst In (sym (one new_store s inside)) opened.2)

pub new_store_stands : NewStoreStands
new_store_stands = record {
  in_order = record {
    one_archive = refl;
    formed = (refl, tt);
    no_copies = λ id h. no_claim h.0 h.1 h.2 h.3;
    none_missing = λ id h. no_claim h.0 h.1 h.2 h.3;
    at_home = λ s c below root found inside opened among_them lends. absurd (no_claim s c inside opened);
    tied = (refl, tt);
  };
  read_as = (new_store, refl, refl);
  balanced = new_balanced sheet archive;
  unaltered = refl;
}
