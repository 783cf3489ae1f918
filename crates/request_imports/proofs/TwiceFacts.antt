-- An import of a list that is read twice, request by request.
use Rattle.std.proofs.Common.{◌≡◌, ◌∙◌, ◌⊎◌, ◌+◌, ◌<◌, ◌≤◌, ◌++◌, ◌∷◌, []}
use Rattle.std.proofs.Common.{ℕ, List, Option, Some, None, Result, Ok}
use Rattle.std.proofs.Common.{Err, IfErr, IfSome, take, length, length-append, get_or, ap, refl, sym}
use Rattle.std.proofs.Common.{subst, inl, inr, arith}
use Rattle.std.specs.Io.KnownBytes.{Appends}
use Rattle.std.proofs.Math.Seq.{take-append_seam}
use Rattle.sqlite.specs.Store.{Ghosts}
use Rattle.package_tables.specs.declared.fault.Fault.{Fault}
use Rattle.register_lending.specs.Faults.{fault_refusal}
use Rattle.request_csv.specs.ListReading.{IsBegun, IsListOfSo, IsOfReader, Stands}
use Rattle.request_csv.specs.RequestLists.{IsList, MeetsFirst}
use Rattle.request_csv.specs.declared.lists.ReadFault.{ReadFault}
use Rattle.request_csv.specs.declared.readers.ListReader.{ListReader}
use Rattle.request_csv.proofs.ReaderFacts.{stands_begun}
use Rattle.sheet_types.specs.declared.command.Request.{Request}
use Rattle.sheet_types.specs.declared.receipt.Receipt.{Receipt}
use Rattle.sheet_types.specs.declared.refusal.Refusal.{Refusal}
use Rattle.world.specs.Asked.{IsRunWith, IsStepWith}
use Rattle.world.specs.Worlds.{Seen}
use Rattle.world.proofs.Running.{IsApplied}
use Rattle.manifest_csv.specs.Imports.{GoesOn, IsReportedWith, IsWhyUnread}
use Rattle.manifest_csv.specs.Progress.{Tells, Told}
use Rattle.manifest_csv.specs.Reports.{report_header, report_line, report_lines}
use Rattle.manifest_csv.specs.Sent.{WentOut}
use Rattle.request_imports.specs.Twice.{BreaksAt, Ends, ImportsTwice, ImportsTwiceWith, as_import}
use Rattle.manifest_csv.specs.declared.importing.ImportFault.{ImportFault}
use Rattle.manifest_csv.specs.declared.importing.ImportFault.TheVariants.{Stopped, Unwritten}
use Rattle.request_imports.specs.declared.twice.TwiceFault.{TwiceFault}
use Rattle.request_imports.specs.declared.twice.TwiceFault.TheVariants.{Import, Changed, Broken}
use Rattle.manifest_csv.proofs.ImportFacts.{SoFar, after_header, all_reported, header_unwritten, none_yet, one_more}
use Rattle.manifest_csv.proofs.ImportFacts.{stopped, unwritten}

take_all : {X : Type 0} (xs : List X) → take (length xs) xs ≡ xs
take_all [] = refl
take_all (x ∷ xs) = ap (λ l. x ∷ l) (take_all xs)

last_there : {X : Type 0} (xs : List X) (x : X) → x ≡ get_or (xs ++ x ∷ []) (length xs) x
last_there [] x = refl
last_there (y ∷ ys) x = last_there ys x

-- the lines of replies are those of the requests that have one
pub lines_within : (n : ℕ) (requests more : List Request) (replies : List (Result Receipt Refusal))
    → length replies ≤ length requests
    → report_lines n (requests ++ more) replies ≡ report_lines n requests replies
unfolding report_lines
lines_within n requests more [] le = refl
lines_within n [] more (reply ∷ replies) le = absurd (omega (arith, le))
lines_within n (q ∷ qs) more (reply ∷ replies) le =
    ap (λ l. report_line n q.id reply ++ l) (lines_within (n + 1) qs more replies (omega (arith, le)))

carried_all : (done : ℕ) (why : TwiceFault) → BreaksAt done why → as_import (Err why) ≡ Ok tt
carried_all done why (inl e) = ap (λ w. as_import (Err w)) e
carried_all done why (inr (met, e)) = ap (λ w. as_import (Err w)) e

-- a second reading that met a fault
pub ends_broken : {Q : Type 0} (rem : Q → Option (List ℕ)) (NeverFails : Type 0) (list : ListReader Q)
    (met : ReadFault)
    → IsOfReader NeverFails met ⊎ ((text : Option (List ℕ)) (before : List Request)
    → Stands rem text list before
    → IfSome text (λ t. MeetsFirst t met))
    → (count done : ℕ) (text : Option (List ℕ)) (before : List Request) → done ≤ count
    → length before ≡ done
    → Stands rem text list before → Ends text count before (Err (Broken done met))
ends_broken rem NeverFails list met (inl (inl want)) count done text before le long stands =
    (long, le, stands_begun rem text list before stands, inl want)
ends_broken rem NeverFails list met (inl (inr failed)) count done text before le long stands =
    (long, le, stands_begun rem text list before stands, inr (inl failed.0))
ends_broken rem NeverFails list met (inr first) count done text before le long stands =
    (long, le, stands_begun rem text list before stands, inr (inr (first text before stands)))

-- one that had fewer requests
pub ends_short : (count done : ℕ) (text : Option (List ℕ)) (before : List Request) → done < count
    → length before ≡ done → IfSome text (λ t. IsList t before)
    → Ends text count before (Err (Changed done))
ends_short count done None before few long list = (long, tt)
ends_short count done (Some t) before few long list = (long, inl (omega (arith, few, long), list))

-- and one that had more
pub ends_long : (done : ℕ) (text : Option (List ℕ)) (before : List Request) (more : Request)
    → length before ≡ done
    → IfSome text (λ t. IsBegun t before) → IfSome text (λ t. IsBegun t (before ++ more ∷ []))
    → Ends text done before (Err (Changed done))
ends_long done None before more long begun on = (long, tt)
ends_long done (Some t) before more long begun on = (long, inr (long, begun, (more, on)))

-- why the second reading did not begin
pub unread_again : (NeverFails : Type 0) (text : Option (List ℕ)) (fault : ReadFault) → IsOfReader NeverFails fault
    ⊎ IfSome text (λ t. MeetsFirst t fault) → IsWhyUnread text fault
unread_again NeverFails text fault (inl (inl want)) = inr (inl want)
unread_again NeverFails text fault (inl (inr failed)) = inl failed.0
unread_again NeverFails text fault (inr met) = inr (inr met)

module _ {S Q H : Type 0} (g : Ghosts S) (rem : Q → Option (List ℕ)) (Asks : List ℕ → H → H → Type 0)
    (Takes : List ℕ → S → H → H → Type 0) (Fails : H → ℕ) where
  -- the same of a list that has a request more
  longer : (all : ℕ) (requests : List Request) (n : ℕ) (old new : Seen S) (shelf shelf' : H)
      (before after : Option (List ℕ)) (heard heard' : Option (List Told)) → length requests ≡ n
      → SoFar g Asks Takes Fails all requests n old new shelf shelf' before after heard heard' → (request : Request)
      → SoFar g Asks Takes Fails all (requests ++ request ∷ []) n old new shelf shelf' before after heard heard'
  longer all requests n old new shelf shelf' before after heard heard' counted it request =
      let same : take n requests ≡ take n (requests ++ request ∷ []) =
      ap (λ k. take k requests) (sym counted) ∙ take_all requests
      ∙ sym (ap (λ k. take k (requests ++ request ∷ [])) (sym counted)
      ∙ take-append_seam requests (request ∷ [])) in
      record {
        replies = it.replies;
        counted = it.counted;
        ran = subst (λ qs. IsRunWith g Asks Takes Fails qs old it.replies new (Fails shelf) (Fails shelf') shelf
            shelf') same it.ran;
        goes_on = it.goes_on;
        written = subst (Appends before after) (sym (lines_within 1 requests (request ∷ []) it.replies
            (omega (arith, counted, it.counted)))) it.written;
        told = it.told;
      }

  -- n requests of so many were read, carried out, reported and told
  pub record ReadSoFar (count n : ℕ) (list list' : ListReader Q) (old new : Seen S) (shelf shelf' : H)
      (before after : Option (List ℕ)) (heard heard' : Option (List Told)) : Type 0 where
    pub begun : List Request
    pub counted : length begun ≡ n
    pub stands : (text : Option (List ℕ)) → Stands rem text list [] → Stands rem text list' begun
    pub so_far : SoFar g Asks Takes Fails count begun n old new shelf shelf' before after heard heard'

  -- what a loop over a second reading owes
  abbrev pub ReportsRead : ℕ → ListReader Q → Seen S → Seen S → H → H → Option (List ℕ) → Option (List ℕ)
      → Option (List Told) → Option (List Told) → Result (Unit {0}) TwiceFault → Type 0
  ReportsRead count list old new shelf shelf' before after heard heard' r = (requests : List Request)
      × ((text : Option (List ℕ)) → Stands rem text list [] → Ends text count requests r)
      × IsReportedWith g Asks Takes Fails count requests old new shelf shelf' before after heard heard' (as_import r)

  pub nothing_read : (count : ℕ) (list : ListReader Q) (seen : Seen S) (shelf : H) (at : Option (List ℕ))
      (heard : Option (List Told)) → ReadSoFar count 0 list list seen seen shelf shelf at at heard heard
  nothing_read count list seen shelf at heard = record {
    begun = [];
    counted = refl;
    stands = λ text s. s;
    so_far = none_yet g Asks Takes Fails count [] seen shelf at heard;
  }

  module _ (count n : ℕ) (list list' : ListReader Q) (old mid : Seen S) (shelf shelf' : H)
      (before between : Option (List ℕ)) (heard heard' : Option (List Told))
      (it : ReadSoFar count n list list' old mid shelf shelf' before between heard heard') where
    all_done : (x : Unit {0})
        → IsReportedWith g Asks Takes Fails count it.begun old mid shelf shelf' before between heard heard' (Ok x)
    all_done x = all_reported g Asks Takes Fails count it.begun n old mid shelf shelf' before between heard heard'
        it.so_far (sym it.counted) x

    -- the reading breaks off
    pub broken : (why : TwiceFault) → BreaksAt n why
        → ((text : Option (List ℕ)) (front : List Request) → length front ≡ n → Stands rem text list' front
        → Ends text count front (Err why))
        → ReportsRead count list old mid shelf shelf' before between heard heard' (Err why)
    broken why breaks ends = (
      it.begun,
      λ text s. ends text it.begun it.counted (it.stands text s),
      subst (IsReportedWith g Asks Takes Fails count it.begun old mid shelf shelf' before between heard heard')
          (sym (carried_all n why breaks)) (all_done tt),
    )

    -- it comes to the end
    pub at_end : (r : Result (Unit {0}) TwiceFault) → IfErr r (BreaksAt n)
        → ((text : Option (List ℕ)) (front : List Request) → length front ≡ n → Stands rem text list' front
        → Ends text count front r)
        → ReportsRead count list old mid shelf shelf' before between heard heard' r
    at_end (Ok x) breaks ends = (
      it.begun,
      λ text s. ends text it.begun it.counted (it.stands text s),
      all_done x,
    )
    at_end (Err why) breaks ends = broken why breaks ends

    module _ (below : n < count) (list'' : ListReader Q) (request : Request)
        (took : (text : Option (List ℕ)) (front : List Request) → Stands rem text list' front
        → Stands rem text list'' (front ++ request ∷ []))
        (new : Seen S) (shelf'' : H) (reply : Result Receipt Refusal)
        (step : IsApplied g request mid reply new (Fails shelf') (Fails shelf''))
        (one : IsStepWith g Asks Takes Fails request mid reply new shelf' shelf'')
        (same : step.step.gone ≡ one.step.gone) where
      abbrev begun_so : List Request
      begun_so = it.begun ++ request ∷ []

      long_so : length begun_so ≡ n + 1
      long_so = length-append it.begun (request ∷ []) ∙ ap (λ k. k + 1) it.counted

      is_last : request ≡ get_or begun_so n request
      is_last = subst (λ k. request ≡ get_or begun_so k request) it.counted (last_there it.begun request)

      reported_so : SoFar g Asks Takes Fails count begun_so n old mid shelf shelf' before between heard heard'
      reported_so = longer count it.begun n old mid shelf shelf' before between heard heard' it.counted it.so_far
          request

      within_so : n < length begun_so
      within_so = omega (arith, long_so)

      stands_so : (text : Option (List ℕ)) → Stands rem text list [] → Stands rem text list'' begun_so
      stands_so text s = took text it.begun (it.stands text s)

      ends_so : (fault : ImportFault) (text : Option (List ℕ)) → Stands rem text list []
          → Ends text count begun_so (Err (Import fault))
      ends_so fault text s = (omega (arith, long_so, below), stands_begun rem text list'' begun_so (stands_so text s))

      module _ (after : Option (List ℕ)) where
        module _ (heard'' : Option (List Told)) where
          -- one more, and the import goes on
          pub one_read : Appends between after (report_line (n + 1) request.id reply) → GoesOn reply
              → Tells heard' heard'' ((n + 1, (count, reply)) ∷ [])
              → ReadSoFar count (n + 1) list list'' old new shelf shelf'' before after heard heard''
          one_read line goes more = record {
            begun = begun_so;
            counted = long_so;
            stands = stands_so;
            so_far = one_more g Asks Takes Fails count begun_so n old mid new shelf shelf' shelf'' before between
                heard heard' reported_so within_so request is_last reply step one same after heard'' line goes more;
          }

          -- one more, which ends it
          pub stop_read : (fault : Fault) → reply ≡ Err (fault_refusal fault)
              → Appends between after (report_line (n + 1) request.id reply)
              → Tells heard' heard'' ((n + 1, (count, reply)) ∷ [])
              → ReportsRead count list old new shelf shelf'' before after heard heard''
              (Err (Import (Stopped (n + 1) fault)))
          stop_read fault end line more = (
            begun_so,
            ends_so (Stopped (n + 1) fault),
            stopped g Asks Takes Fails count begun_so n old mid new shelf shelf' shelf'' before between heard heard'
                reported_so within_so request is_last reply step one same after heard'' fault end line more,
          )

        -- its line could not be written whole, and it was not told
        pub unwritten_read : WentOut between after (report_line (n + 1) request.id reply)
            → ReportsRead count list old new shelf shelf'' before after heard heard' (Err (Import Unwritten))
        unwritten_read line = (
          begun_so,
          ends_so Unwritten,
          unwritten g Asks Takes Fails count begun_so n old mid new shelf shelf' shelf'' before between heard heard'
              reported_so within_so request is_last reply step one same after line,
        )

  -- the whole, with the header before the lines
  module _ (text again : Option (List ℕ)) (count : ℕ) (list : ListReader Q) (old new : Seen S) (shelf shelf' : H)
      (before mid after : Option (List ℕ)) (heard heard' : Option (List Told)) (r : Result (Unit {0}) TwiceFault)
      (begins : Stands rem again list []) (judged : IsListOfSo count text)
      (header : Appends before mid report_header)
      (it : ReportsRead count list old new shelf shelf' mid after heard heard' r) where
    pub goes_twice : ImportsTwiceWith g Asks Takes Fails text again old new shelf shelf' before after heard heard' r
    goes_twice =
        inr (
          count,
          judged,
          (
            it.0,
            it.1 again begins,
            after_header g Asks Takes Fails count it.0 old new shelf shelf' before mid after heard heard'
                (as_import r) header it.2,
          ),
        )

    pub reported_twice : {W : Type 0} (writer writer' : W)
        → ImportsTwice g text again old new (Fails shelf) (Fails shelf') writer writer' before after r
    reported_twice writer writer' =
        inr (
          count,
          judged,
          (
            it.0,
            it.1 again begins,
            (after_header g Asks Takes Fails count it.0 old new shelf shelf' before mid after heard heard'
                (as_import r) header it.2).0,
          ),
        )

  -- the header could not be written whole
  module _ (text again : Option (List ℕ)) (count : ℕ) (list : ListReader Q) (seen : Seen S) (shelf : H)
      (before after : Option (List ℕ)) (heard : Option (List Told)) (judged : IsListOfSo count text)
      (begins : Stands rem again list []) (header : WentOut before after report_header) where
    pub untold_twice : ImportsTwiceWith g Asks Takes Fails text again seen seen shelf shelf before after heard heard
        (Err (Import Unwritten))
    untold_twice =
        inr (
          count,
          judged,
          (
            [],
            (omega arith, stands_begun rem again list [] begins),
            header_unwritten g Asks Takes Fails count [] seen shelf before after heard header,
          ),
        )

    pub unwritten_twice : {W : Type 0} (writer writer' : W)
        → ImportsTwice g text again seen seen (Fails shelf) (Fails shelf) writer writer' before after
        (Err (Import Unwritten))
    unwritten_twice writer writer' =
        inr (
          count,
          judged,
          (
            [],
            (omega arith, stands_begun rem again list [] begins),
            (header_unwritten g Asks Takes Fails count [] seen shelf before after heard header).0,
          ),
        )
