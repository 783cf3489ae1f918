-- What a split comes to, by what the members, the request and the cut tell.
use Rattle.std.proofs.Common.{◌≡◌, refl, sym, ap, subst, ◌∙◌, ℕ, ◌+◌, ◌&&◌, List, [], ◌∷◌}
use Rattle.std.proofs.Common.{◌++◌, Bool, true, false}
use Rattle.std.proofs.Common.{cond, length, slice_get, Option, Some, None, Ok, Err, bytes_eq}
use Rattle.std.specs.Prelude.{is_some, count_by, sum_by}
use Rattle.std.proofs.lemmas.Bool.{or_parts}
use Rattle.std.specs.Bool.{then_some}
use Rattle.std.specs.List.{list_any, AllByRecursion}
use Rattle.std.specs.Option.{option_or, option_and_then}
use Rattle.sqlite.specs.Store.{Ghosts}
use Rattle.sheet_types.specs.Answers.{sums_held}
use Rattle.sheet_types.specs.Custody.{kept, is_split, ends_at}
use Rattle.sheet_types.specs.Cut.{moved_of}
use Rattle.sheet_types.specs.Matrix.{first_row}
use Rattle.sheet_types.specs.Ordered.{is_before}
use Rattle.sheet_types.specs.Refuse.{refusal, is_archive, nothing_to_lend, cut_link, carrying, too_many}
use Rattle.sheet_types.specs.Register.{IsRegister, IsKeptPackage}
use Rattle.sheet_types.specs.Step.{accepted, outcome, outcome_by, kept_reply, refuses, receipt_of, receipt_over, cut_of}
use Rattle.sheet_types.specs.Texts.{line}
use Rattle.sheet_types.specs.World.{World, Package, is_live, holdings, receipts_of}
use Rattle.sheet_types.specs.declared.command.Command.{Command}
use Rattle.sheet_types.specs.declared.command.Command.TheVariants.{Split}
use Rattle.sheet_types.specs.declared.command.Mode.{Mode}
use Rattle.sheet_types.specs.declared.command.Mode.TheVariants.{Strict, Follow}
use Rattle.sheet_types.specs.declared.command.Request.{Request}
use Rattle.sheet_types.specs.declared.frame.Rect.{Rect}
use Rattle.sheet_types.specs.declared.receipt.Moved.{Moved}
use Rattle.sheet_types.specs.declared.receipt.Receipt.{Receipt}
use Rattle.sheet_types.specs.declared.refusal.Refusal.{Refusal}
use Rattle.sheet_types.specs.declared.refusal.Refusal.TheVariants.{UnknownPackage, NothingToLend, CutLink, TooMany}
use Rattle.sheet_types.proofs.Every.{none_pass}
use Rattle.sheet_types.proofs.Found.{none_found}
use Rattle.sheet_types.proofs.Sums.{sum_by-map}
use Rattle.sheet_laws.specs.Laws.{split_request}
use Rattle.sheet_laws.proofs.Accepting.{rows_fail}
use Rattle.sheet_laws.proofs.Facts.{kept_at}
use Rattle.sheet_laws.proofs.Splitting.{Known, whole_cut}
use Rattle.register_lending.specs.Selecting.{IsSelectionOf, IsPart}
use Rattle.cut.specs.Taken.{refused, torn}
use Rattle.world_decisions.specs.Deciding.{Decides}
use Rattle.world_decisions.specs.DecidingSplits.{command_of, IsNewSplit, IsLender, IsGranted, IsMadeOf}
use Rattle.world_decisions.specs.DecidingSplits.{reasons_before_cut, leaves_too_many}
use Rattle.world_loans.specs.Loans.{IsLent, place_for}
use Rattle.world_members.specs.Members.{IsMember, AreMembers}
use Rattle.world_members.specs.Steps.{sums_moved, sums_less}
use Rattle.world_decisions.specs.declared.deciding.Decision.TheVariants.{Answered, SplitDue}
use Rattle.world_decisions.specs.declared.deciding_splits.Asked.{Asked}
use Rattle.world_decisions.specs.declared.deciding_splits.Lender.{Lender}
use Rattle.world_loans.specs.declared.loans.Lending.{Lending}
use Rattle.world_members.specs.declared.members.Member.{Member}
use Rattle.world_loans.proofs.DueSplits.{part_of, lent_where_accepted}
use Rattle.world_members.proofs.FirstRows.{last}
use Rattle.world_members.proofs.Outcomes.{refused_outcome}
use Rattle.world_members.proofs.Parts.{first_of_both}
use Rattle.world_decisions.proofs.SplitLimits.{members_tell}
use Rattle.world_loans.proofs.SplitReasons.{split_refused_in_turn, split_refused_as_unknown}
use Rattle.world_members.proofs.Standing.{zip_map}

-- ---- the request

-- the request of a split
abbrev pub asking : Request → Asked → Request
asking q s = split_request q.id q.at s.package s.child s.mode s.rect

pub as_asked : (q : Request) (s : Asked) → q.command ≡ command_of s → asking q s ≡ q
as_asked q s e = ap (λ c. record { id = q.id; at = q.at; command = c }) (sym e)

-- ---- the reasons in turn

abbrev cut_rows : World → Command → List (Bool × Refusal)
cut_rows w command = (nothing_to_lend w command, NothingToLend) ∷ carrying CutLink (cut_link w command) ∷ []

abbrev last_rows : World → List (Bool × Refusal)
last_rows next = (too_many next, TooMany) ∷ []

same_torn : (w : World) (p child : List ℕ) (mode : Mode) (rect : Rect)
    → cut_link w (Split p child mode rect) ≡ torn w.frame (holdings w p) mode rect
same_torn w p child Strict rect = refl
same_torn w p child Follow rect = refl

cut_is_refused : (w : World) (s : Asked) → first_row (cut_rows w (command_of s))
    ≡ refused w.frame (holdings w s.package) s.mode s.rect
cut_is_refused w s = ap (λ o. first_row ((nothing_to_lend w (command_of s), NothingToLend) ∷ carrying CutLink o
    ∷ []))
    (same_torn w s.package s.child s.mode s.rect)

-- it is refused before its cut, or by it, or for what it would leave
refused_so : (w next : World) (q : Request) (s : Asked) → IsNewSplit w q s
    → refusal w next q ≡ option_or (first_row (reasons_before_cut w q))
    (option_or (refused w.frame (holdings w s.package) s.mode s.rect) (then_some (too_many next) TooMany))
refused_so w next q s new =
    subst (λ x. refusal w next x ≡ option_or (first_row (reasons_before_cut w x))
    (option_or (refused w.frame (holdings w s.package) s.mode s.rect) (then_some (too_many next) TooMany)))
    (as_asked q s new.asked)
    (split_refused_in_turn w next q.id q.at s.package s.child s.mode s.rect new.new new.live
    ∙ first_of_both (reasons_before_cut w (asking q s)) (cut_rows w (command_of s) ++ last_rows next)
    ∙ ap (option_or (first_row (reasons_before_cut w (asking q s))))
    (first_of_both (cut_rows w (command_of s)) (last_rows next)
    ∙ ap (λ o. option_or o (first_row (last_rows next))) (cut_is_refused w s)
    ∙ ap (option_or (refused w.frame (holdings w s.package) s.mode s.rect)) (sym (last (too_many next) TooMany))))

-- ---- the reply of one that is refused

-- its package is not known
pub split_of_unknown : (w : World) (q : Request) (s : Asked) → q.command ≡ command_of s → kept w q.id ≡ None
    → is_live w s.package ≡ false → Decides w q (Answered (Err UnknownPackage))
split_of_unknown w q s asked new dead =
    refused_outcome w q UnknownPackage new
    (subst (λ x. refusal w (accepted w q) x ≡ Some UnknownPackage) (as_asked q s asked)
    (split_refused_as_unknown w (accepted w q) q.id q.at s.package s.child s.mode s.rect new dead))

-- it is refused before its cut
pub split_refused_before : (w : World) (q : Request) (s : Asked) (why : Refusal) → IsNewSplit w q s
    → first_row (reasons_before_cut w q) ≡ Some why → Decides w q (Answered (Err why))
split_refused_before w q s why new before =
    refused_outcome w q why new.new
    (refused_so w (accepted w q) q s new ∙ ap (λ o. option_or o
    (option_or (refused w.frame (holdings w s.package) s.mode s.rect)
    (then_some (too_many (accepted w q)) TooMany))) before)

-- by its cut
pub split_uncut : (w : World) (q : Request) (s : Asked) (why : Refusal) → IsNewSplit w q s
    → first_row (reasons_before_cut w q) ≡ None → refused w.frame (holdings w s.package) s.mode s.rect
    ≡ Some why
    → Decides w q (Answered (Err why))
split_uncut w q s why new before cut =
    refused_outcome w q why new.new
    (refused_so w (accepted w q) q s new
    ∙ ap (λ o. option_or o (option_or (refused w.frame (holdings w s.package) s.mode s.rect)
    (then_some (too_many (accepted w q)) TooMany))) before
    ∙ ap (λ o. option_or o (then_some (too_many (accepted w q)) TooMany)) cut)

-- or for nothing but what it would leave
granted_but : (w : World) (q : Request) (s : Asked) → IsNewSplit w q s → IsGranted w q s
    → refusal w (accepted w q) q ≡ then_some (too_many (accepted w q)) TooMany
granted_but w q s new granted =
    refused_so w (accepted w q) q s new
    ∙ ap (λ o. option_or o (option_or (refused w.frame (holdings w s.package) s.mode s.rect)
    (then_some (too_many (accepted w q)) TooMany))) granted.before
    ∙ ap (λ o. option_or o (then_some (too_many (accepted w q)) TooMany)) granted.cut

-- ---- one that is not

-- the receipt and the world after it
accepted_so : (w : World) (q : Request) → kept w q.id ≡ None → refusal w (accepted w q) q ≡ None
    → outcome w q ≡ (Ok (receipt_of w q), accepted w q)
accepted_so w q new none =
    ap (λ k. outcome_by w q (option_and_then (λ r. then_some (bytes_eq r.line (line q.command)) r) k) (refuses w q))
    new
    ∙ ap (outcome_by w q None) none

-- what is known of a split that is refused for nothing but what it would leave
pub known_of : (w : World) (q : Request) (s : Asked) (register : IsRegister w) (new : IsNewSplit w q s)
    → IsGranted w q s → Known w q.id q.at s.package s.child s.mode s.rect new.types register
known_of w q s register new granted =
    let before : AllByRecursion (λ row. row.0 ≡ false) (reasons_before_cut w (asking q s)) =
    rows_fail (reasons_before_cut w (asking q s)) (subst (λ x. first_row (reasons_before_cut w x) ≡ None)
    (sym (as_asked q s new.asked)) granted.before) in
    let cut : AllByRecursion (λ row. row.0 ≡ false) (cut_rows w (command_of s)) =
    rows_fail (cut_rows w (command_of s)) (cut_is_refused w s ∙ granted.cut) in
    let unused : (list_any (λ x. is_archive x && bytes_eq x.uuid s.child) w.packages ≡ false)
    × (list_any (λ r. is_split r && ends_at r.target s.child) (receipts_of w) ≡ false) =
    or_parts (list_any (λ x. is_archive x && bytes_eq x.uuid s.child) w.packages)
    (list_any (λ r. is_split r && ends_at r.target s.child) (receipts_of w)) before.0 in
    record {
      new_request = none_found (λ r. bytes_eq r.request q.id) (receipts_of w) new.new;
      live = new.live;
      no_archive = none_pass (λ x. is_archive x && bytes_eq x.uuid s.child) w.packages unused.0;
      never_lent = unused.1;
      untorn = cut.1.0;
      shallow = before.1.1.1.0;
    }

module _ {S : Type 0} (g : Ghosts S) (members : List (Member S)) (count : ℕ) (w : World) (q : Request) (s : Asked)
    (due : Lending) (are : AreMembers g members count w) (made : IsMadeOf w q s due) where
  tells : leaves_too_many members due.at due.left due.lent count ≡ too_many (accepted w q)
  tells =
      ap (λ l. leaves_too_many members due.at l due.lent count) made.made.left
      ∙ ap (λ l. leaves_too_many members due.at (sums_less l (sums_held (holdings w s.package))) l count)
      made.made.held
      ∙ members_tell w q.id q.at s.package s.child s.mode s.rect made.split.types are.register
      (known_of w q s are.register made.split made.granted) due.at made.made.at g members count are
      ∙ ap (λ x. too_many (accepted w x)) (as_asked q s made.split.asked)

  -- it would leave too many
  pub split_too_many : leaves_too_many members due.at due.left due.lent count ≡ true
      → Decides w q (Answered (Err TooMany))
  split_too_many many =
      refused_outcome w q TooMany made.split.new (granted_but w q s made.split made.granted
      ∙ ap (λ b. then_some b TooMany) (sym tells ∙ many))

  -- or it is due
  pub split_due : leaves_too_many members due.at due.left due.lent count ≡ false → Decides w q (SplitDue due)
  split_due few =
      let none : refusal w (accepted w q) q ≡ None = granted_but w q s made.split made.granted
      ∙ ap (λ b. then_some b TooMany) (sym tells ∙ few) in
      let e : asking q s ≡ q = as_asked q s made.split.asked in
      let receipt : due.receipt ≡ receipt_of w q = made.made.receipt ∙ ap (receipt_of w) e in (
        accepted w q,
        accepted_so w q made.split.new none ∙ ap (λ r. (Ok r, accepted w q)) (sym receipt),
        subst (λ x. IsLent w (accepted w x) due) e
            (lent_where_accepted w q.id q.at s.package s.child s.mode s.rect due are.register made.split.uuid
            made.split.types made.split.new (subst (λ x. refusal w (accepted w x) x ≡ None) (sym e) none)
            made.made),
      )

-- the place of a new member is that of its package
pub members_before : {S : Type 0} (g : Ghosts S) (members : List (Member S)) (count : ℕ) (w : World)
    (child : List ℕ)
    → AreMembers g members count w → count_by (λ (m : Member S). is_before m.uuid child) members
    ≡ place_for child w.packages
members_before {S} g members count w child are =
    sym (sum_by-map (λ u. cond (is_before u child) 1 0) (λ (m : Member S). m.uuid) members)
    ∙ ap (sum_by (λ u. cond (is_before u child) 1 0)) (zip_map (IsMember g w) (λ (m : Member S). m.uuid)
    (λ p. p.uuid)
    (λ m y is. is.uuid) members w.packages are.each)
    ∙ sum_by-map (λ u. cond (is_before u child) 1 0) (λ p. p.uuid) w.packages

-- ---- what would be due

-- what is cut out is a part of the package
pub split_part : (w : World) (q : Request) (s : Asked) → IsRegister w → IsNewSplit w q s → IsGranted w q s
    → IsPart (cut_of w s.package s.mode s.rect) (holdings w s.package)
split_part w q s register new granted =
    let kept : IsKeptPackage w (holdings w s.package) = kept_at w s.package register new.live in
    part_of (holdings w s.package) (cut_of w s.package s.mode s.rect)
    (whole_cut w s.package s.child s.mode s.rect kept.ends (known_of w q s register new granted).untorn)
    kept.items kept.links

-- all that would be due is made of it
module _ (w : World) (q : Request) (s : Asked) (l : Lender) (count : ℕ) (new : IsNewSplit w q s)
    (lends : IsLender w (holdings w s.package) l) (counted : count ≡ length (receipts_of w)) where
  receipt_told : (things : List Moved) (receipt : Receipt) → things
      ≡ moved_of (cut_of w s.package s.mode s.rect).items (cut_of w s.package s.mode s.rect).links
      → receipt ≡ receipt_over (count + 1) q things → receipt ≡ receipt_of w (asking q s)
  receipt_told things receipt moved is =
      is ∙ ap (λ n. receipt_over (n + 1) q things) counted ∙ ap (receipt_over (length (receipts_of w) + 1) q) moved
      ∙ ap (λ x. receipt_over (length (receipts_of w) + 1) x
      (moved_of (cut_of w s.package s.mode s.rect).items (cut_of w s.package s.mode s.rect).links))
      (sym (as_asked q s new.asked))

  pub split_made : (due : Lending) (things : List Moved) → IsGranted w q s
      → IsSelectionOf (cut_of w s.package s.mode s.rect) due.selection → due.at ≡ l.at
      → due.child_at ≡ place_for s.child w.packages → due.child ≡ s.child → due.parent ≡ s.package
      → due.depth ≡ l.depth + 1
      → things ≡ moved_of (cut_of w s.package s.mode s.rect).items (cut_of w s.package s.mode s.rect).links
      → due.receipt ≡ receipt_over (count + 1) q things → due.lent ≡ sums_moved due.receipt
      → due.left ≡ sums_less due.lent l.held → IsMadeOf w q s due
  split_made due things granted selected at child_at child above depth moved receipt lent left =
      let own : due.receipt ≡ receipt_of w (asking q s) = receipt_told things due.receipt moved receipt in
      record {
        split = new;
        granted = granted;
        made = record {
          at = ap (slice_get w.packages) at ∙ lends.place;
          child_at = child_at;
          child_uuid = child;
          above = above;
          depth = depth ∙ ap (λ d. d + 1) lends.depth;
          selected = selected;
          receipt = own;
          left = left ∙ ap (sums_less due.lent) lends.held;
          held = lent ∙ ap sums_moved own;
        };
      }
