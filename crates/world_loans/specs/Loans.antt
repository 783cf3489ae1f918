-- When a split or a merge is due, by what is kept of a world: which member gives, which takes, and what the world is
-- after it. Profile.
use Rattle.std.specs.Prelude.{◌≡◌, ◌<◌, ◌≤◌, ℕ, ℤ, Bool, not, ◌||◌, ◌&&◌, [], ◌∷◌}
use Rattle.std.specs.Prelude.{◌+◌, ◌-◌, List, Some, None, length}
use Rattle.std.specs.Prelude.{slice_get, slice_set, if◌then◌else◌, bytes_eq, nat_lt, false, true, is_some}
use Rattle.std.specs.Prelude.{count_by}
use Rattle.std.specs.List.{insert, remove, AllByRecursion}
use Rattle.sheet_types.specs.Answers.{sums_held}
use Rattle.sheet_types.specs.Custody.{kept, ticket}
use Rattle.sheet_types.specs.Cut.{Cut}
use Rattle.sheet_types.specs.Lines.{HasTypes, IsUuid}
use Rattle.sheet_types.specs.Matrix.{first_row}
use Rattle.sheet_types.specs.Ordered.{is_before}
use Rattle.sheet_types.specs.Texts.{is_moment}
use Rattle.sheet_types.specs.Refuse.{refusal, package_used, bad_rectangle, too_deep, nothing_to_lend, cut_link}
use Rattle.sheet_types.specs.Refuse.{bad_text, foreign, stale, child_of, loan_open, collides, carrying, too_many}
use Rattle.sheet_types.specs.Refuse.{greatest_depth, greatest_receipts}
use Rattle.sheet_types.specs.Register.{IsRegister}
use Rattle.sheet_types.specs.Step.{less, accepted, cut_of, receipt_of}
use Rattle.sheet_types.specs.World.{World, Package, receipts_of, holdings, is_live}
use Rattle.sheet_types.specs.declared.command.Command.TheVariants.{Split, Merge}
use Rattle.sheet_types.specs.declared.command.Mode.{Mode}
use Rattle.sheet_types.specs.declared.frame.Rect.{Rect}
use Rattle.sheet_types.specs.declared.command.Request.{Request}
use Rattle.sheet_types.specs.declared.refusal.Refusal.{Refusal}
use Rattle.sheet_types.specs.declared.refusal.Refusal.TheVariants.{PackageUsed, BadRectangle, TooDeep, NothingToLend}
use Rattle.sheet_types.specs.declared.refusal.Refusal.TheVariants.{CutLink, BadText, Foreign, Stale, LoanOpen}
use Rattle.sheet_types.specs.declared.refusal.Refusal.TheVariants.{Collides, TooMany, UnknownPackage}
use Rattle.sheet_laws.specs.Laws.{split_request, merge_request}
use Rattle.custody.specs.Receipts.{IsNewReceipt}
use Rattle.identity_register.specs.Creation.{new_package}
use Rattle.register_lending.specs.Lending.{lent, returned, MayReturn}
use Rattle.register_lending.specs.Selecting.{IsSelectionOf, IsPart, MayCome}
use Rattle.transfer.specs.Parcels.{with_cut}
use Rattle.world_members.specs.Steps.{sums_moved, sums_less, sums_more}
use Rattle.world_loans.specs.declared.loans.Lending.{Lending}
use Rattle.world_loans.specs.declared.loans.Returning.{Returning}

-- what every accepted request makes of what is kept of a world
pub record IsNext (w next : World) : Type 0 where
  pub frame : next.frame ≡ w.frame
  pub counted : length (receipts_of next) ≡ length (receipts_of w) + 1
  pub register : IsRegister next

-- the ticket of each of these packages but that at a place stays
abbrev pub OthersStay : World → World → List Package → ℕ → Type 0
OthersStay w next packages at = (k : ℕ) (p : Package) → slice_get packages k ≡ Some p → ¬ (k ≡ at)
    → ticket next p.uuid ≡ ticket w p.uuid

-- ---- a split

-- the package that a split makes, which holds the cut
abbrev pub loan : Lending → Cut → Package
loan due c = with_cut c (new_package due.child (Some due.parent) due.depth due.receipt.seq)

-- The split is due, and the world after it is next: the package at its place lends the cut, and the loan stands at
-- the place that is meant for it.
pub record IsLent (w next : World) (due : Lending) : Type 0 where
  pub after : IsNext w next
  pub parent : Package
  pub place : slice_get w.packages due.at ≡ Some parent
  pub taken : Cut
  pub selected : IsSelectionOf taken due.selection
  pub part : IsPart taken parent
  pub receipt : IsNewReceipt due.receipt (less taken parent)
  pub above : due.parent ≡ parent.uuid
  pub depth : due.depth ≡ parent.depth + 1
  pub come : MayCome taken (new_package due.child (Some due.parent) due.depth due.receipt.seq)
  pub left : due.left ≡ sums_held (lent due.receipt taken parent)
  pub held : due.lent ≡ sums_held (loan due taken)
  pub packages : next.packages ≡ insert (slice_set w.packages due.at (lent due.receipt taken parent)) due.child_at
      (loan due taken)
  pub parent_ticket : ticket next parent.uuid ≡ due.receipt.seq
  pub child_ticket : ticket next due.child ≡ due.receipt.seq
  pub tickets : OthersStay w next w.packages due.at
  -- no package of the world before has the child's UUID
  pub apart : AllByRecursion (λ p. bytes_eq p.uuid due.child ≡ false) w.packages

-- where a package with this UUID comes: behind those whose UUID is less
abbrev pub place_for : List ℕ → List Package → ℕ
place_for uuid packages = count_by (λ x. is_before x.uuid uuid) packages

-- What is due was made of this split: where the packages stand, what was selected, and the sums by what its receipt
-- moves.
pub record IsSplit (w : World) (id moment p child : List ℕ) (mode : Mode) (rect : Rect) (due : Lending) : Type 0 where
  pub at : slice_get w.packages due.at ≡ Some (holdings w p)
  pub child_at : due.child_at ≡ place_for child w.packages
  pub child_uuid : due.child ≡ child
  pub above : due.parent ≡ p
  pub depth : due.depth ≡ (holdings w p).depth + 1
  pub selected : IsSelectionOf (cut_of w p mode rect) due.selection
  pub receipt : due.receipt ≡ receipt_of w (split_request id moment p child mode rect)
  pub left : due.left ≡ sums_less due.lent (sums_held (holdings w p))
  pub held : due.lent ≡ sums_moved (receipt_of w (split_request id moment p child mode rect))

-- A new split that is not refused is due, and the world after it is the accepted one, where what is due was made of it.
abbrev pub LentWhereAccepted : Type 0
LentWhereAccepted = (w : World) (id moment p child : List ℕ) (mode : Mode) (rect : Rect) (due : Lending)
    → IsRegister w → IsUuid id → HasTypes (Split p child mode rect) → kept w id ≡ None
    → refusal w (accepted w (split_request id moment p child mode rect)) (split_request id moment p child mode rect)
    ≡ None → IsSplit w id moment p child mode rect due
    → IsLent w (accepted w (split_request id moment p child mode rect)) due

-- why a split of a live package that did not come before is refused, in the order of the model
abbrev pub split_reasons : World → World → Request → List (Bool × Refusal)
split_reasons w next q =
    (package_used w q.command, PackageUsed)
    ∷ (not (is_moment q.at) || bad_text q.command, BadText)
    ∷ (bad_rectangle w q.command, BadRectangle)
    ∷ (too_deep w q.command, TooDeep)
    ∷ (nothing_to_lend w q.command, NothingToLend)
    ∷ carrying CutLink (cut_link w q.command)
    ∷ (too_many next, TooMany)
    ∷ []

-- A new split whose package is live is refused for the first of them; one whose package is not live, for that.
abbrev pub SplitRefusedInTurn : Type 0
SplitRefusedInTurn = (w next : World) (id moment p child : List ℕ) (mode : Mode) (rect : Rect) → kept w id ≡ None
    → is_live w p ≡ true →
    refusal w next (split_request id moment p child mode rect)
    ≡ first_row (split_reasons w next (split_request id moment p child mode rect))

abbrev pub SplitRefusedAsUnknown : Type 0
SplitRefusedAsUnknown = (w next : World) (id moment p child : List ℕ) (mode : Mode) (rect : Rect)
    → kept w id ≡ None
    → is_live w p ≡ false →
    refusal w next (split_request id moment p child mode rect) ≡ Some UnknownPackage

-- the places of a split among so many members, and its numbers
pub record HasLendingPlace (due : Lending) (members count : ℕ) : Type 0 where
  pub at : due.at < members
  pub child_at : due.child_at ≤ members
  pub number : due.receipt.seq ≡ count + 1
  pub counted : count + 1 ≤ greatest_receipts
  pub shallow : due.depth ≤ greatest_depth

-- ---- a merge

-- where a member stands when the one at a place is gone
abbrev pub place_without : ℕ → ℕ → ℕ
place_without gone at = if nat_lt gone at then at - 1 else at

-- The merge is due, and the world after it is next: the package at the one place is gone, and that at the other has
-- all that it had.
pub record IsReturned (w next : World) (due : Returning) : Type 0 where
  pub after : IsNext w next
  pub child : Package
  pub from : slice_get w.packages due.from ≡ Some child
  pub lent : is_some child.parent ≡ true
  pub parent : Package
  pub into : slice_get w.packages due.into ≡ Some parent
  pub taken : Cut
  pub selected : IsSelectionOf taken due.selection
  pub may : MayReturn due.receipt taken child parent
  pub sums : due.sums ≡ sums_held (returned due.receipt taken child parent)
  pub packages : next.packages ≡ slice_set (remove w.packages due.from) (place_without due.from due.into)
      (returned due.receipt taken child parent)
  pub parent_ticket : ticket next parent.uuid ≡ due.receipt.seq
  pub tickets : OthersStay w next (remove w.packages due.from) (place_without due.from due.into)
  -- no package of the world after has the child's UUID
  pub apart : AllByRecursion (λ p. bytes_eq p.uuid child.uuid ≡ false) next.packages

-- What is due was made of this merge: where the packages stand, all that the child holds as what was selected, and
-- the sums by what its receipt moves.
pub record IsMerge (w : World) (id moment child into : List ℕ) (ticket' : ℤ) (due : Returning) : Type 0 where
  pub child_at : slice_get w.packages due.from ≡ Some (holdings w child)
  pub parent_at : slice_get w.packages due.into ≡ Some (holdings w into)
  pub selected : IsSelectionOf (record { items = (holdings w child).items; links = (holdings w child).links })
      due.selection
  pub receipt : due.receipt ≡ receipt_of w (merge_request id moment child into ticket')
  pub sums : due.sums ≡ sums_more (sums_moved (receipt_of w (merge_request id moment child into ticket')))
      (sums_held (holdings w into))

-- A new merge that is not refused is due, and the world after it is the accepted one, where what is due was made of it.
abbrev pub ReturnedWhereAccepted : Type 0
ReturnedWhereAccepted = (w : World) (id moment child into : List ℕ) (ticket' : ℤ) (due : Returning) → IsRegister w
    → IsUuid id → HasTypes (Merge child into ticket') → kept w id ≡ None
    → refusal w (accepted w (merge_request id moment child into ticket')) (merge_request id moment child into ticket')
    ≡ None → IsMerge w id moment child into ticket' due
    → IsReturned w (accepted w (merge_request id moment child into ticket')) due

-- why a merge of two live packages that did not come before is refused, in the order of the model
abbrev pub merge_reasons : World → World → Request → List (Bool × Refusal)
merge_reasons w next q =
    (not (is_moment q.at) || bad_text q.command, BadText)
    ∷ (foreign w q.command, Foreign)
    ∷ (stale w q.command, Stale (ticket w (child_of q.command)))
    ∷ carrying LoanOpen (loan_open w q.command)
    ∷ carrying Collides (collides w q.command)
    ∷ (too_many next, TooMany)
    ∷ []

-- A new merge whose packages are live is refused for the first of them; one of whose packages is not live, for that.
abbrev pub MergeRefusedInTurn : Type 0
MergeRefusedInTurn = (w next : World) (id moment child into : List ℕ) (ticket' : ℤ) → kept w id ≡ None
    → is_live w child ≡ true → is_live w into ≡ true →
    refusal w next (merge_request id moment child into ticket')
    ≡ first_row (merge_reasons w next (merge_request id moment child into ticket'))

abbrev pub MergeRefusedAsUnknown : Type 0
MergeRefusedAsUnknown = (w next : World) (id moment child into : List ℕ) (ticket' : ℤ) → kept w id ≡ None
    → (is_live w child && is_live w into) ≡ false →
    refusal w next (merge_request id moment child into ticket') ≡ Some UnknownPackage

-- the places of a merge among so many members, and its number
pub record HasReturnPlace (due : Returning) (members count : ℕ) : Type 0 where
  pub from : due.from < members
  pub into : due.into < members
  pub two : ¬ (due.from ≡ due.into)
  pub number : due.receipt.seq ≡ count + 1
  pub counted : count + 1 ≤ greatest_receipts
