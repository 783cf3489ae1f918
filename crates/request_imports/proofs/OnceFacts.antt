-- A list that is the same at both readings is carried out as one that is held.
use Rattle.std.proofs.Common.{◌≡◌, ◌∙◌, ◌⊎◌, ◌-◌, ◌≤◌, ◌++◌, ◌∷◌, [], ℕ, zero}
use Rattle.std.proofs.Common.{suc, List, Option, Some, None, Result}
use Rattle.std.proofs.Common.{Ok, Err, IfSome, take, length, length-append, append-nil, ap, refl, sym, subst, inl}
use Rattle.std.proofs.Common.{inr, arith}
use Rattle.std.proofs.Math.Logic.{⊎_elim}
use Rattle.std.proofs.lemmas.List.{take-append-le}
use Rattle.std.proofs.Math.Seq.{take-append_seam}
use Rattle.sqlite.specs.Store.{Ghosts}
use Rattle.package_tables.specs.declared.fault.Fault.{Fault}
use Rattle.request_csv.specs.ListReading.{IsBegun, IsListOfSo}
use Rattle.request_csv.specs.RequestLists.{IsList, MeetsFirst}
use Rattle.request_csv.specs.declared.lists.ReadFault.{ReadFault}
use Rattle.request_csv.specs.declared.lists.ReadFault.TheVariants.{Memory, Read}
use Rattle.request_csv.proofs.OneReading.{has_one_list, list_goes_on, list_has_no_fault}
use Rattle.sheet_types.specs.declared.command.Request.{Request}
use Rattle.sheet_types.specs.declared.receipt.Receipt.{Receipt}
use Rattle.sheet_types.specs.declared.refusal.Refusal.{Refusal}
use Rattle.world.specs.Worlds.{Seen}
use Rattle.manifest_csv.specs.Imports.{IsImported, IsWhyUnread, report_before}
use Rattle.manifest_csv.specs.Reports.{report_header, report_of}
use Rattle.manifest_csv.specs.Sent.{WentOutPast}
use Rattle.request_imports.specs.Twice.{Ends, ImportsOnce, ImportsTwice, IsOther, as_import}
use Rattle.manifest_csv.specs.declared.importing.ImportFault.{ImportFault}
use Rattle.manifest_csv.specs.declared.importing.ImportFault.TheVariants.{Stopped, Unread, Unwritten}
use Rattle.request_imports.specs.declared.twice.TwiceFault.{TwiceFault}
use Rattle.request_imports.specs.declared.twice.TwiceFault.TheVariants.{Import, Changed, Broken}
use Rattle.request_imports.proofs.TwiceFacts.{lines_within}

take_within : {X : Type 0} (k : ℕ) (xs : List X) → length (take k xs) ≤ length xs
take_within zero xs = omega arith
take_within (suc k) [] = omega arith
take_within (suc k) (x ∷ xs) = omega (arith, take_within k xs)

-- the report of replies is that of the requests that have one
report_more : (requests rest : List Request) (replies : List (Result Receipt Refusal))
    → length replies ≤ length requests
    → report_of (requests ++ rest) replies ≡ report_of requests replies
report_more requests rest replies le = ap (λ l. report_header ++ l) (lines_within 1 requests rest replies le)

before_more : (requests rest : List Request) (replies : List (Result Receipt Refusal))
    → length replies ≤ length requests
    → report_before (requests ++ rest) replies ≡ report_before requests replies
before_more requests rest [] le = refl
before_more requests rest (x ∷ xs) le =
    let fewer = take_within (length (x ∷ xs) - 1) (x ∷ xs) in
    ap (λ l. report_header ++ l) (lines_within 1 requests rest (take (length (x ∷ xs) - 1) (x ∷ xs))
    (omega (arith, le, fewer)))

-- the list of which some requests are the first
whole : (text : Option (List ℕ)) (all requests : List Request) → IfSome text (λ t. IsList t all)
    → IfSome text (λ t. IsBegun t requests)
    → (list : List Request) × IfSome text (λ t. IsList t list)
    × ((rest : List Request) × (list ≡ requests ++ rest))
whole None all requests list begun = (requests, tt, ([], sym (append-nil requests)))
whole (Some t) all requests list begun = (all, list, list_goes_on t all requests list begun)

-- it is no other at the second reading
unchanged : (text : Option (List ℕ)) (count : ℕ) (all requests : List Request) → length all ≡ count
    → IfSome text (λ t. IsList t all) → IfSome text (IsOther count requests)
    → IfSome text (λ t. ⊥)
unchanged None count all requests long list other = tt
unchanged (Some t) count all requests long list (inl (few, other)) =
    let same : length requests ≡ length all = ap length (has_one_list t requests all other list) in
    absurd (omega (arith, same, long, few))
unchanged (Some t) count all requests long list (inr (many, begun, more)) =
    let on = list_goes_on t all (requests ++ more.0 ∷ []) list more.1 in
    let grown : length all ≡ length ((requests ++ more.0 ∷ []) ++ on.0) = ap length on.1 in
    absurd (omega (
      arith,
      grown,
      length-append (requests ++ more.0 ∷ []) on.0,
      length-append requests (more.0 ∷ []),
      many,
      long,
    ))

-- nor has it a fault
faultless : (text : Option (List ℕ)) (all : List Request) (fault : ReadFault) → IfSome text (λ t. IsList t all)
    → (fault ≡ Memory) ⊎ ((fault ≡ Read) ⊎ IfSome text (λ t. MeetsFirst t fault))
    → IfSome text (λ t. (fault ≡ Memory) ⊎ (fault ≡ Read))
faultless None all fault list why = tt
faultless (Some t) all fault list (inl want) = inl want
faultless (Some t) all fault list (inr (inl failed)) = inr failed
faultless (Some t) all fault list (inr (inr met)) = absurd (list_has_no_fault t all fault list met)

-- what holds of each end holds of all
by_end : (P : Result (Unit {0}) TwiceFault → Type 0) → ((x : Unit {0}) → P (Ok x))
    → ((why : ReadFault) → P (Err (Import (Unread why)))) → ((n : ℕ) (fault : Fault)
    → P (Err (Import (Stopped n fault))))
    → P (Err (Import Unwritten)) → ((n : ℕ) → P (Err (Changed n)))
    → ((n : ℕ) (fault : ReadFault) → P (Err (Broken n fault)))
    → (r : Result (Unit {0}) TwiceFault) → P r
by_end P done unread stopped unwritten changed broken (Ok x) = done x
by_end P done unread stopped unwritten changed broken (Err (Import (Unread why))) = unread why
by_end P done unread stopped unwritten changed broken (Err (Import (Stopped n fault))) = stopped n fault
by_end P done unread stopped unwritten changed broken (Err (Import Unwritten)) = unwritten
by_end P done unread stopped unwritten changed broken (Err (Changed n)) = changed n
by_end P done unread stopped unwritten changed broken (Err (Broken n fault)) = broken n fault

-- the first of a list, which are so many
first_of : (n : ℕ) (requests list rest : List Request) → length requests ≡ n → list ≡ requests ++ rest
    → take n list ≡ requests
first_of n requests list rest long same = ap (λ qs. take n qs) same
    ∙ ap (λ k. take k (requests ++ rest)) (sym long) ∙ take-append_seam requests rest

first_within : (n : ℕ) (requests list rest : List Request) → length requests ≡ n → list ≡ requests ++ rest
    → n ≤ length list
first_within n requests list rest long same =
    let grown : length list ≡ length (requests ++ rest) = ap length same in
    omega (arith, long, grown, length-append requests rest)

module _ {S : Type 0} (g : Ghosts S) where
  module _ (requests rest : List Request) (old new : Seen S) (failed fails : ℕ)
      (before after : Option (List ℕ)) where
    stopped_more : (n : ℕ) (fault : Fault) → IsImported g requests old new failed fails before after
        (Err (Stopped n fault))
        → IsImported g (requests ++ rest) old new failed fails before after (Err (Stopped n fault))
    stopped_more n fault it = record {
      replies = it.replies;
      some = omega (arith, it.some, length-append requests rest);
      ran = rw (take-append-le (length it.replies) requests rest it.some) it.ran;
      written = (it.written.0, it.written.1, rw (report_more requests rest it.replies it.some) it.written.2);
    }

    unwritten_more : IsImported g requests old new failed fails before after (Err Unwritten)
        → IsImported g (requests ++ rest) old new failed fails before after (Err Unwritten)
    unwritten_more it = record {
      replies = it.replies;
      some = omega (arith, it.some, length-append requests rest);
      ran = rw (take-append-le (length it.replies) requests rest it.some) it.ran;
      written = subst (λ sent. WentOutPast sent before after (report_of (requests ++ rest) it.replies))
          (sym (before_more requests rest it.replies it.some))
          (subst (WentOutPast (report_before requests it.replies) before after)
          (sym (report_more requests rest it.replies it.some)) it.written);
    }

  module _ {W : Type 0} (old new : Seen S) (failed fails : ℕ) (writer writer' : W)
      (before after : Option (List ℕ)) where
    either : (text : Option (List ℕ)) (fault : ReadFault) → IsWhyUnread text fault ⊎ IsWhyUnread text fault
        → IsWhyUnread text fault
    either text fault (inl why) = why
    either text fault (inr why) = why

    abbrev Twice : Option (List ℕ) → Result (Unit {0}) TwiceFault → Type 0
    Twice text r = ImportsTwice g text text old new failed fails writer writer' before after r

    abbrev Once : Option (List ℕ) → Result (Unit {0}) TwiceFault → Type 0
    Once text r = ImportsOnce g text old new failed fails writer writer' before after r

    abbrev Came : List Request → Result (Unit {0}) ImportFault → Type 0
    Came requests r = IsImported g requests old new failed fails before after r

    -- the two ways of an import that is read twice: a list was not read, or its requests were carried out
    abbrev Stayed : Option (List ℕ) → Result (Unit {0}) TwiceFault → Type 0
    Stayed text r = (fault : ReadFault) × (r ≡ Err (Import (Unread fault)))
        × (IsWhyUnread text fault ⊎ IsWhyUnread text fault)
        × (new ≡ old) × (fails ≡ failed) × (writer' ≡ writer)

    abbrev Went : Option (List ℕ) → Result (Unit {0}) TwiceFault → Type 0
    Went text r = (count : ℕ) × IsListOfSo count text × ((requests : List Request) × Ends text count requests r
        × Came requests (as_import r))

    -- a lemma for each end, of either way
    done_stayed : (text : Option (List ℕ)) (x : Unit {0}) → Stayed text (Ok x) → Once text (Ok x)
    done_stayed text x it = cc it.1

    done_went : (text : Option (List ℕ)) (x : Unit {0}) → Went text (Ok x) → Once text (Ok x)
    done_went text x it = (it.2.0, it.2.1.1, it.2.2)

    unread_stayed : (text : Option (List ℕ)) (why : ReadFault) → Stayed text (Err (Import (Unread why)))
        → Once text (Err (Import (Unread why)))
    unread_stayed text why it =
        let same : why ≡ it.0 = cc it.1 in
        (rw same (either text it.0 it.2), it.3, it.4, it.5)

    unread_went : (text : Option (List ℕ)) (why : ReadFault) → Went text (Err (Import (Unread why)))
        → Once text (Err (Import (Unread why)))
    unread_went text why it = absurd it.2.2.written

    stopped_stayed : (text : Option (List ℕ)) (n : ℕ) (fault : Fault)
        → Stayed text (Err (Import (Stopped n fault)))
        → Once text (Err (Import (Stopped n fault)))
    stopped_stayed text n fault it = cc it.1

    stopped_whole : (text : Option (List ℕ)) (n : ℕ) (fault : Fault) (requests list rest : List Request)
        → IfSome text (λ t. IsList t list) → list ≡ requests ++ rest → Came requests (Err (Stopped n fault))
        → Once text (Err (Import (Stopped n fault)))
    stopped_whole text n fault requests list rest is same it = (
      list,
      is,
      subst (λ qs. Came qs (Err (Stopped n fault))) (sym same)
          (stopped_more requests rest old new failed fails before after n fault it),
    )

    stopped_went : (text : Option (List ℕ)) (n : ℕ) (fault : Fault) → Went text (Err (Import (Stopped n fault)))
        → Once text (Err (Import (Stopped n fault)))
    stopped_went text n fault it =
        let w = whole text it.1.0 it.2.0 it.1.2 it.2.1.1 in
        stopped_whole text n fault it.2.0 w.0 w.2.0 w.1 w.2.1 it.2.2

    unwritten_stayed : (text : Option (List ℕ)) → Stayed text (Err (Import Unwritten))
        → Once text (Err (Import Unwritten))
    unwritten_stayed text it = cc it.1

    unwritten_whole : (text : Option (List ℕ)) (requests list rest : List Request)
        → IfSome text (λ t. IsList t list) → list ≡ requests ++ rest → Came requests (Err Unwritten)
        → Once text (Err (Import Unwritten))
    unwritten_whole text requests list rest is same it = (
      list,
      is,
      subst (λ qs. Came qs (Err Unwritten)) (sym same)
          (unwritten_more requests rest old new failed fails before after it),
    )

    unwritten_went : (text : Option (List ℕ)) → Went text (Err (Import Unwritten))
        → Once text (Err (Import Unwritten))
    unwritten_went text it =
        let w = whole text it.1.0 it.2.0 it.1.2 it.2.1.1 in
        unwritten_whole text it.2.0 w.0 w.2.0 w.1 w.2.1 it.2.2

    changed_stayed : (text : Option (List ℕ)) (n : ℕ) → Stayed text (Err (Changed n))
        → Once text (Err (Changed n))
    changed_stayed text n it = cc it.1

    changed_went : (text : Option (List ℕ)) (n : ℕ) → Went text (Err (Changed n)) → Once text (Err (Changed n))
    changed_went text n it = unchanged text it.0 it.1.0 it.2.0 it.1.1 it.1.2 it.2.1.1

    broken_stayed : (text : Option (List ℕ)) (n : ℕ) (fault : ReadFault) → Stayed text (Err (Broken n fault))
        → Once text (Err (Broken n fault))
    broken_stayed text n fault it = cc it.1

    broken_whole : (text : Option (List ℕ)) (n : ℕ) (fault : ReadFault) (requests list rest : List Request)
        → IfSome text (λ t. (fault ≡ Memory) ⊎ (fault ≡ Read)) → IfSome text (λ t. IsList t list)
        → n ≤ length list → take n list ≡ requests → Came requests (Ok tt)
        → Once text (Err (Broken n fault))
    broken_whole text n fault requests list rest why is le first it =
        (why, (list, is, le, subst (λ qs. Came qs (Ok tt)) (sym first) it))

    broken_went : (text : Option (List ℕ)) (n : ℕ) (fault : ReadFault) → Went text (Err (Broken n fault))
        → Once text (Err (Broken n fault))
    broken_went text n fault it =
        let w = whole text it.1.0 it.2.0 it.1.2 it.2.1.2 in
        broken_whole text n fault it.2.0 w.0 w.2.0 (faultless text it.1.0 fault it.1.2 it.2.1.3) w.1
        (first_within n it.2.0 w.0 w.2.0 it.2.1.0 w.2.1) (first_of n it.2.0 w.0 w.2.0 it.2.1.0 w.2.1) it.2.2

    once : (text : Option (List ℕ)) (r : Result (Unit {0}) TwiceFault) → Twice text r → Once text r
    once text r = by_end (λ e. Twice text e → Once text e)
        (λ x. ⊎_elim (done_stayed text x) (done_went text x))
        (λ why. ⊎_elim (unread_stayed text why) (unread_went text why))
        (λ n fault. ⊎_elim (stopped_stayed text n fault) (stopped_went text n fault))
        (⊎_elim (unwritten_stayed text) (unwritten_went text))
        (λ n. ⊎_elim (changed_stayed text n) (changed_went text n))
        (λ n fault. ⊎_elim (broken_stayed text n fault) (broken_went text n fault)) r

    pub once_of : (text again : Option (List ℕ)) (r : Result (Unit {0}) TwiceFault)
        → ImportsTwice g text again old new failed fails writer writer' before after r
        → text ≡ again → ImportsOnce g text old new failed fails writer writer' before after r
    once_of text again r it same = once text r (subst (λ t. ImportsTwice g text t old new failed fails writer writer'
        before after r) (sym same) it)
