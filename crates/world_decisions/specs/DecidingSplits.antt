-- What a split comes to before anything is written, one step after the other. Profile.
use Rattle.std.specs.Prelude.{◌≡◌, ℕ, Bool, not, ◌||◌, ◌&&◌, ◌+◌, nat_lt, nat_le, true, List, []}
use Rattle.std.specs.Prelude.{◌∷◌, ◌++◌, length}
use Rattle.std.specs.Prelude.{None, Some, Result, Ok, Err, bytes_eq, slice_get}
use Rattle.std.specs.List.{list_any}
use Rattle.sheet_types.specs.Answers.{sums_held}
use Rattle.sheet_types.specs.Custody.{kept}
use Rattle.sheet_types.specs.Cut.{cut}
use Rattle.sheet_types.specs.Lines.{HasTypes, IsUuid}
use Rattle.sheet_types.specs.Matrix.{first_row, is_good_rect}
use Rattle.sheet_types.specs.Refuse.{is_archive, package_used, bad_rectangle, too_deep, bad_text, greatest_depth}
use Rattle.sheet_types.specs.Refuse.{greatest_packages, greatest_receipts}
use Rattle.sheet_types.specs.Step.{cut_of}
use Rattle.sheet_types.specs.Texts.{is_moment}
use Rattle.sheet_types.specs.World.{World, Package, receipts_of, holdings, is_live}
use Rattle.sheet_types.specs.declared.command.Command.{Command}
use Rattle.sheet_types.specs.declared.command.Command.TheVariants.{Split}
use Rattle.sheet_types.specs.declared.command.Mode.{Mode}
use Rattle.sheet_types.specs.declared.command.Request.{Request}
use Rattle.sheet_types.specs.declared.frame.Frame.{Frame}
use Rattle.sheet_types.specs.declared.frame.Rect.{Rect}
use Rattle.sheet_types.specs.declared.receipt.Sums.{Sums}
use Rattle.sheet_types.specs.declared.refusal.Refusal.{Refusal}
use Rattle.sheet_types.specs.declared.refusal.Refusal.TheVariants.{PackageUsed, BadText, BadRectangle, TooDeep}
use Rattle.identity_register.specs.declared.selection.Selection.{Selection}
use Rattle.cut.specs.Taken.{refused}
use Rattle.register_lending.specs.Selecting.{IsSelectionOf}
use Rattle.world_decisions.specs.Deciding.{IsOf}
use Rattle.world_loans.specs.Loans.{IsSplit}
use Rattle.world_members.specs.Register.{ever_lent}
use Rattle.world_members.specs.Reasons.{text_reasons}
use Rattle.world_members.specs.Steps.{is_past_limits}
use Rattle.world_queries.specs.TooMany.{sums_with}
use Rattle.world_decisions.specs.declared.deciding_splits.Asked.{Asked}
use Rattle.world_decisions.specs.declared.deciding_splits.Lender.{Lender}
use Rattle.world_loans.specs.declared.loans.Lending.{Lending}
use Rattle.world_members.specs.declared.members.Member.{Member}

-- the command that asks for it
abbrev pub command_of : Asked → Command
command_of s = Split s.package s.child s.mode s.rect

-- ---- what was asked, and of whom

-- a new request for this split of a live package
pub record IsNewSplit (w : World) (q : Request) (s : Asked) : Type 0 where
  pub asked : q.command ≡ command_of s
  pub uuid : IsUuid q.id
  pub types : HasTypes (command_of s)
  pub new : kept w q.id ≡ None
  pub live : is_live w s.package ≡ true

-- and its package stands at this place; the frame and the number of receipts are those of the world
pub record IsPlacedSplit (f : Frame) (count at : ℕ) (q : Request) (s : Asked) (w : World) : Type 0 where
  pub of_world : IsOf f count w
  pub split : IsNewSplit w q s
  pub place : slice_get w.packages at ≡ Some (holdings w s.package)

-- the frame is that of the world, the request asks for this split, and its package is so deep
pub record IsAskedSplit (f : Frame) (q : Request) (s : Asked) (depth : ℕ) (w : World) : Type 0 where
  pub frame : f ≡ w.frame
  pub asked : q.command ≡ command_of s
  pub deep : depth ≡ (holdings w s.package).depth

-- the package stands at this place, and this is kept of it
pub record IsLender (w : World) (p : Package) (l : Lender) : Type 0 where
  pub place : slice_get w.packages l.at ≡ Some p
  pub depth : l.depth ≡ p.depth
  pub held : l.held ≡ sums_held p

-- ---- the reasons

-- the UUID is that of the archive, or was ever that of a loan
abbrev pub uuid_used : World → List ℕ → Bool
uuid_used w id = list_any (λ x. is_archive x && bytes_eq x.uuid id) w.packages || ever_lent w id

-- why a split is refused before it is looked at what it would take
abbrev pub reasons_before_cut : World → Request → List (Bool × Refusal)
reasons_before_cut w q =
    (package_used w q.command, PackageUsed)
    ∷ (not (is_moment q.at) || bad_text q.command, BadText)
    ∷ (bad_rectangle w q.command, BadRectangle)
    ∷ (too_deep w q.command, TooDeep)
    ∷ []

-- those of the rectangle and of the depth of the package
abbrev pub place_reasons : Frame → Rect → ℕ → List (Bool × Refusal)
place_reasons f rect depth = (not (is_good_rect f rect), BadRectangle) ∷ (nat_le greatest_depth depth, TooDeep) ∷ []

-- with those of the request alone, of which no split meets that of a size
abbrev pub value_reasons : Frame → Request → Rect → ℕ → List (Bool × Refusal)
value_reasons f q rect depth = text_reasons q ++ place_reasons f rect depth

-- the cut of the package, or why there is none
abbrev pub IsCutOut : World → Package → Mode → Rect → Result Selection Refusal → Type 0
IsCutOut w p mode rect (Ok s) = (refused w.frame p mode rect ≡ None) × IsSelectionOf (cut w.frame p mode rect) s
IsCutOut w p mode rect (Err why) = refused w.frame p mode rect ≡ Some why

-- The split is refused for nothing but for what it would leave.
pub record IsGranted (w : World) (q : Request) (s : Asked) : Type 0 where
  pub before : first_row (reasons_before_cut w q) ≡ None
  pub cut : refused w.frame (holdings w s.package) s.mode s.rect ≡ None

-- So it is, and this is selected of the package that lends, after so many receipts.
pub record IsSelectedFor (count : ℕ) (q : Request) (s : Asked) (l : Lender) (taken : Selection)
    (w : World) : Type 0 where
  pub counted : count ≡ length (receipts_of w)
  pub split : IsNewSplit w q s
  pub lends : IsLender w (holdings w s.package) l
  pub granted : IsGranted w q s
  pub selected : IsSelectionOf (cut_of w s.package s.mode s.rect) taken

-- ---- the limits

-- The loan is past the limits of a package, or a member is with what is left of it, or one package or one receipt
-- more is too many.
abbrev pub leaves_too_many : {S : Type 0} → List (Member S) → ℕ → Sums → Sums → ℕ → Bool
leaves_too_many members at left lent count =
    is_past_limits lent || list_any is_past_limits (sums_with members at left)
    || nat_lt greatest_packages (length members + 1) || nat_lt greatest_receipts (count + 1)

-- ---- what is due

-- all that is due was made of this split, which is refused for nothing but for what it would leave
pub record IsMadeOf (w : World) (q : Request) (s : Asked) (due : Lending) : Type 0 where
  pub split : IsNewSplit w q s
  pub granted : IsGranted w q s
  pub made : IsSplit w q.id q.at s.package s.child s.mode s.rect due
