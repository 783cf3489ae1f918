-- An import, reply by reply.
use Rattle.std.proofs.Common.{◌≡◌, ◌∙◌, refl, sym, ap, subst, ℕ, ◌+◌, ◌-◌, ◌<◌, ◌≤◌}
use Rattle.std.proofs.Common.{List, [], ◌∷◌, ◌++◌, take, drop}
use Rattle.std.proofs.Common.{length, get_or, length-append, Option, IfSome, Result, Ok, Err, arith}
use Rattle.std.specs.List.{AllByRecursion}
use Rattle.std.specs.Io.KnownBytes.{Appends}
use Rattle.std.proofs.lemmas.List.{drop_more, take_more}
use Rattle.std.proofs.Math.Seq.{take-append_seam}
use Rattle.std.proofs.KnownBytes.{Appends-trans, Appends-nil}
use Rattle.sqlite.specs.Store.{Ghosts}
use Rattle.package_tables.specs.declared.fault.Fault.{Fault}
use Rattle.sheet_types.specs.declared.command.Request.{Request}
use Rattle.sheet_types.specs.declared.receipt.Receipt.{Receipt}
use Rattle.sheet_types.specs.declared.refusal.Refusal.{Refusal}
use Rattle.sheet_types.proofs.Every.{All-snoc}
use Rattle.register_lending.specs.Faults.{fault_refusal}
use Rattle.world.specs.Asked.{IsRunWith, IsStepWith}
use Rattle.world.specs.Worlds.{Seen}
use Rattle.world.proofs.Running.{IsApplied, none_with, more_with}
use Rattle.manifest_csv.specs.Imports.{GoesOn, IsCarried, IsImported, IsImportedWith, IsReportedWith, IsWritten}
use Rattle.manifest_csv.specs.Imports.{Imports, ImportsWith, lines_before, report_before}
use Rattle.manifest_csv.specs.Progress.{Tells, Told, told_from}
use Rattle.manifest_csv.specs.Reports.{report_header, report_line, report_lines, report_of}
use Rattle.request_csv.specs.RequestLists.{IsList}
use Rattle.manifest_csv.specs.Sent.{WentOut, WentOutPast}
use Rattle.manifest_csv.specs.declared.importing.ImportFault.{ImportFault}
use Rattle.manifest_csv.specs.declared.importing.ImportFault.TheVariants.{Unread, Stopped, Unwritten}
use Rattle.manifest_csv.proofs.ProgressFacts.{no_reply_told, none_told, one_told}
use Rattle.manifest_csv.proofs.ReportFacts.{lines_more}
use Rattle.manifest_csv.proofs.SentFacts.{went_out_after, went_out_of, went_out_past, past_after}

-- all but the one that was put last
all_but_last : {X : Type 0} (xs : List X) (x : X) → take (length (xs ++ x ∷ []) - 1) (xs ++ x ∷ []) ≡ xs
all_but_last xs x =
    let less : length (xs ++ x ∷ []) - 1 ≡ length xs = omega (arith, length-append xs (x ∷ [])) in
    ap (λ k. take k (xs ++ x ∷ [])) less ∙ take-append_seam xs (x ∷ [])

-- the header before lines of which the last was cut short
cut_short : (requests : List Request) (replies : List (Result Receipt Refusal)) (before mid after : Option (List ℕ))
    → Appends before mid report_header → WentOutPast (lines_before requests replies) mid after
    (report_lines 1 requests replies)
    → WentOutPast (report_before requests replies) before after (report_of requests replies)
cut_short requests [] before mid after header line =
    let all : WentOut before after (report_of requests []) =
    went_out_after before mid after report_header (report_lines 1 requests []) header
    (line.0, line.2, line.3) in
    (all.0, omega arith, all.1, all.2)
cut_short requests (reply ∷ replies) before mid after header line =
    past_after before mid after report_header (lines_before requests (reply ∷ replies))
    (report_lines 1 requests (reply ∷ replies)) header line

-- what was written, with the header before it
written_after : (requests : List Request) (replies : List (Result Receipt Refusal))
    (before mid after : Option (List ℕ))
    (r : Result (Unit {0}) ImportFault) → Appends before mid report_header
    → IsWritten requests replies (lines_before requests replies) (report_lines 1 requests replies) mid after r
    → IsWritten requests replies (report_before requests replies) (report_of requests replies) before after r
written_after requests replies before mid after (Ok x) header it =
    (it.0, it.1, Appends-trans before mid after report_header (report_lines 1 requests replies) header it.2)
written_after requests replies before mid after (Err (Stopped n fault)) header it =
    (it.0, it.1, Appends-trans before mid after report_header (report_lines 1 requests replies) header it.2)
written_after requests replies before mid after (Err Unwritten) header it =
    cut_short requests replies before mid after header it
written_after requests replies before mid after (Err (Unread fault)) header it = absurd it

module _ {S H : Type 0} (g : Ghosts S) (Asks : List ℕ → H → H → Type 0)
    (Takes : List ℕ → S → H → H → Type 0) (Fails : H → ℕ) where
  -- The first n of so many requests were carried out, reported and told, and nothing ended the import yet.
  pub record SoFar (all : ℕ) (requests : List Request) (n : ℕ) (old new : Seen S) (shelf shelf' : H)
      (before after : Option (List ℕ)) (heard heard' : Option (List Told)) : Type 0 where
    pub replies : List (Result Receipt Refusal)
    pub counted : length replies ≡ n
    pub ran : IsRunWith g Asks Takes Fails (take n requests) old replies new (Fails shelf) (Fails shelf') shelf
        shelf'
    pub goes_on : AllByRecursion GoesOn replies
    pub written : Appends before after (report_lines 1 requests replies)
    pub told : Tells heard heard' (told_from all 1 replies)

  module _ (all : ℕ) (requests : List Request) (n : ℕ) (old mid new : Seen S) (shelf shelf' shelf'' : H)
      (before between : Option (List ℕ)) (heard heard' : Option (List Told))
      (it : SoFar all requests n old mid shelf shelf' before between heard heard')
      (within : n < length requests) (request : Request) (is : request ≡ get_or requests n request)
      (reply : Result Receipt Refusal) (step : IsApplied g request mid reply new (Fails shelf') (Fails shelf''))
      (one : IsStepWith g Asks Takes Fails request mid reply new shelf' shelf'')
      (same : step.step.gone ≡ one.step.gone) where
    counted_more : length (it.replies ++ reply ∷ []) ≡ n + 1
    counted_more = length-append it.replies (reply ∷ []) ∙ ap (λ k. k + 1) it.counted

    ran_more : IsRunWith g Asks Takes Fails (take (n + 1) requests) old (it.replies ++ reply ∷ []) new (Fails shelf)
        (Fails shelf'') shelf shelf''
    ran_more =
        let more : take (n + 1) requests ≡ take n requests ++ request ∷ [] =
        take_more requests n request within ∙ ap (λ x. take n requests ++ x ∷ []) (sym is) in
        subst (λ qs. IsRunWith g Asks Takes Fails qs old (it.replies ++ reply ∷ []) new (Fails shelf) (Fails shelf'')
        shelf shelf'') (sym more)
        (more_with g Asks Takes Fails (take n requests) request old mid new it.replies reply (Fails shelf)
        (Fails shelf') (Fails shelf'') shelf shelf' shelf'' it.ran step one same)

    ran_so : IsRunWith g Asks Takes Fails (take (length (it.replies ++ reply ∷ [])) requests) old
        (it.replies ++ reply ∷ []) new (Fails shelf) (Fails shelf'') shelf shelf''
    ran_so = subst (λ k. IsRunWith g Asks Takes Fails (take k requests) old (it.replies ++ reply ∷ []) new
        (Fails shelf) (Fails shelf'') shelf shelf'') (sym counted_more) ran_more

    lines : report_lines 1 requests (it.replies ++ reply ∷ []) ≡ report_lines 1 requests it.replies
        ++ report_line (n + 1) request.id reply
    lines =
        let rest : drop (length it.replies) requests ≡ request ∷ drop (n + 1) requests =
        ap (λ k. drop k requests) it.counted ∙ drop_more requests n request within
        ∙ ap (λ x. x ∷ drop (n + 1) requests) (sym is) in
        let number : 1 + length it.replies ≡ n + 1 = omega (arith, it.counted) in
        lines_more 1 requests it.replies request (drop (n + 1) requests) reply rest
        ∙ ap (λ k. report_lines 1 requests it.replies ++ report_line k request.id reply) number

    some : length (it.replies ++ reply ∷ []) ≤ length requests
    some = rw counted_more (omega (arith, within))

    module _ (after : Option (List ℕ)) where
      all_written : Appends between after (report_line (n + 1) request.id reply)
          → Appends before after (report_lines 1 requests (it.replies ++ reply ∷ []))
      all_written line = rw lines (Appends-trans before between after (report_lines 1 requests it.replies)
          (report_line (n + 1) request.id reply) it.written line)

      module _ (heard'' : Option (List Told)) where
        all_told : Tells heard' heard'' ((n + 1, (all, reply)) ∷ [])
            → Tells heard heard'' (told_from all 1 (it.replies ++ reply ∷ []))
        all_told more = one_told all n it.replies reply heard heard' heard'' it.counted it.told more

        -- one more, and the import goes on
        pub one_more : Appends between after (report_line (n + 1) request.id reply) → GoesOn reply
            → Tells heard' heard'' ((n + 1, (all, reply)) ∷ [])
            → SoFar all requests (n + 1) old new shelf shelf'' before after heard heard''
        one_more line goes more = record {
          replies = it.replies ++ reply ∷ [];
          counted = counted_more;
          ran = ran_more;
          goes_on = All-snoc GoesOn it.replies reply it.goes_on goes;
          written = all_written line;
          told = all_told more;
        }

        -- one more, which ends it
        pub stopped : (fault : Fault) → reply ≡ Err (fault_refusal fault)
            → Appends between after (report_line (n + 1) request.id reply)
            → Tells heard' heard'' ((n + 1, (all, reply)) ∷ [])
            → IsReportedWith g Asks Takes Fails all requests old new shelf shelf'' before after heard heard''
            (Err (Stopped (n + 1) fault))
        stopped fault end line more = (
          record {
            replies = it.replies ++ reply ∷ [];
            some = some;
            ran = ran_so.run;
            written = (
              sym counted_more,
              (it.replies, ap (λ r. it.replies ++ r ∷ []) end, it.goes_on),
              all_written line,
            );
          },
          record { uses = ran_so.uses; told = all_told more },
        )

      -- its line could not be written whole, and it was not told
      pub unwritten : WentOut between after (report_line (n + 1) request.id reply)
          → IsReportedWith g Asks Takes Fails all requests old new shelf shelf'' before after heard heard'
          (Err Unwritten)
      unwritten line = (
        record {
          replies = it.replies ++ reply ∷ [];
          some = some;
          ran = ran_so.run;
          written = subst (λ sent. WentOutPast sent before after
              (report_lines 1 requests (it.replies ++ reply ∷ [])))
              (sym (ap (report_lines 1 requests) (all_but_last it.replies reply)))
              (rw lines (went_out_past before between after (report_lines 1 requests it.replies)
              (report_line (n + 1) request.id reply) it.written line));
        },
        record {
          uses = ran_so.uses;
          told = subst (λ rs. Tells heard heard' (told_from all 1 rs)) (sym (all_but_last it.replies reply)) it.told;
        },
      )

  -- nothing yet
  pub none_yet : (all : ℕ) (requests : List Request) (seen : Seen S) (shelf : H) (at : Option (List ℕ))
      (heard : Option (List Told)) → SoFar all requests 0 seen seen shelf shelf at at heard heard
  unfolding report_lines
  none_yet all requests seen shelf at heard = record {
    replies = [];
    counted = refl;
    ran = none_with g Asks Takes Fails seen (Fails shelf) shelf;
    goes_on = tt;
    written = Appends-nil at;
    told = no_reply_told all heard;
  }

  -- all of them
  pub all_reported : (all : ℕ) (requests : List Request) (n : ℕ) (old new : Seen S) (shelf shelf' : H)
      (before after : Option (List ℕ)) (heard heard' : Option (List Told))
      → SoFar all requests n old new shelf shelf' before after heard heard' → n ≡ length requests
      → (x : Unit {0})
      → IsReportedWith g Asks Takes Fails all requests old new shelf shelf' before after heard heard' (Ok x)
  all_reported all requests n old new shelf shelf' before after heard heard' it whole x =
      let ran : IsRunWith g Asks Takes Fails (take (length it.replies) requests) old it.replies new (Fails shelf)
      (Fails shelf') shelf shelf' =
      subst (λ k. IsRunWith g Asks Takes Fails (take k requests) old it.replies new (Fails shelf) (Fails shelf')
      shelf shelf') (sym it.counted) it.ran in (
        record {
          replies = it.replies;
          some = omega (arith, it.counted, whole);
          ran = ran.run;
          written = (it.counted ∙ whole, it.goes_on, it.written);
        },
        record { uses = ran.uses; told = it.told },
      )

  -- the header before the lines
  pub after_header : (all : ℕ) (requests : List Request) (old new : Seen S) (shelf shelf' : H)
      (before mid after : Option (List ℕ)) (heard heard' : Option (List Told)) (r : Result (Unit {0}) ImportFault)
      → Appends before mid report_header
      → IsReportedWith g Asks Takes Fails all requests old new shelf shelf' mid after heard heard' r
      → IsImportedWith g Asks Takes Fails all requests old new shelf shelf' before after heard heard' r
  after_header all requests old new shelf shelf' before mid after heard heard' r header it = (
    record {
      replies = it.0.replies;
      some = it.0.some;
      ran = it.0.ran;
      written = written_after requests it.0.replies before mid after r header it.0.written;
    },
    record { uses = it.1.uses; told = it.1.told },
  )

  -- the header that could not be written whole
  pub header_unwritten : (all : ℕ) (requests : List Request) (seen : Seen S) (shelf : H)
      (before after : Option (List ℕ)) (heard : Option (List Told)) → WentOut before after report_header
      → IsImportedWith g Asks Takes Fails all requests seen seen shelf shelf before after heard heard (Err Unwritten)
  header_unwritten all requests seen shelf before after heard header =
      let none : IsRunWith g Asks Takes Fails [] seen [] seen (Fails shelf) (Fails shelf) shelf shelf =
      none_with g Asks Takes Fails seen (Fails shelf) shelf in (
        record {
          replies = [];
          some = omega arith;
          ran = none.run;
          written = let whole :
              WentOut before after (report_of requests []) = went_out_of before after report_header
              (report_lines 1 requests []) header in (whole.0, omega arith, whole.1, whole.2);
        },
        record { uses = none.uses; told = none_told all heard },
      )

  -- an import of a list that was read, with its shelf and its teller
  pub imported_with : (text : Option (List ℕ)) (requests : List Request) (old new : Seen S) (shelf shelf' : H)
      (before after : Option (List ℕ)) (heard heard' : Option (List Told)) (r : Result (Unit {0}) ImportFault)
      → IfSome text (λ t. IsList t requests)
      → IsImportedWith g Asks Takes Fails (length requests) requests old new shelf shelf' before after heard heard' r
      → ImportsWith g Asks Takes Fails text old new shelf shelf' before after heard heard' r
  imported_with text requests old new shelf shelf' before after heard heard' (Ok x) list it = (requests, list, it)
  imported_with text requests old new shelf shelf' before after heard heard' (Err (Stopped n fault)) list it =
      (requests, list, it)
  imported_with text requests old new shelf shelf' before after heard heard' (Err Unwritten) list it =
      (requests, list, it)
  imported_with text requests old new shelf shelf' before after heard heard' (Err (Unread fault)) list it =
      absurd it.0.written

module _ {S : Type 0} (g : Ghosts S) where
  -- an import of a list that was read
  pub imported : {W : Type 0} (text : Option (List ℕ)) (requests : List Request) (old new : Seen S)
      (failed fails : ℕ)
      (writer writer' : W) (before after : Option (List ℕ)) (r : Result (Unit {0}) ImportFault)
      → IfSome text (λ t. IsList t requests) → IsImported g requests old new failed fails before after r
      → Imports g text old new failed fails writer writer' before after r
  imported text requests old new failed fails writer writer' before after (Ok x) list it = (requests, list, it)
  imported text requests old new failed fails writer writer' before after (Err (Stopped n fault)) list it =
      (requests, list, it)
  imported text requests old new failed fails writer writer' before after (Err Unwritten) list it = (requests, list, it)
  imported text requests old new failed fails writer writer' before after (Err (Unread fault)) list it =
      absurd it.written

  -- the same of requests that are a list already
  pub carried : (requests : List Request) (old new : Seen S) (failed fails : ℕ) (before after : Option (List ℕ))
      (r : Result (Unit {0}) ImportFault) → IsImported g requests old new failed fails before after r
      → IsCarried g requests old new failed fails before after r
  carried requests old new failed fails before after (Ok x) it = it
  carried requests old new failed fails before after (Err (Stopped n fault)) it = it
  carried requests old new failed fails before after (Err Unwritten) it = it
  carried requests old new failed fails before after (Err (Unread fault)) it = absurd it.written
