-- Which stores are live, and which fault opening answers: over stores each of which is its head, its receipts,
-- whether its tables are formed and tied, its frame and its package.
use Rattle.std.specs.Prelude.{◌≡◌, ℕ, Bool, true, false, List, [], ◌∷◌, map, Option, Some, None, pos}
use Rattle.std.specs.Prelude.{codes}
use Rattle.sheet_types.specs.World.{Package, new_world, no_package}
use Rattle.sheet_types.specs.Opening.{Head, Claim, claim_of, live, strays, NoArchive, TwoArchives, IsNotAPackage}
use Rattle.sheet_types.specs.Opening.{TwoCopies, MissingPackage, ForeignFrame, IsForeignFrame, IsDangling}
use Rattle.sheet_types.specs.Opening.{IsOutOfAccount, Altered, InOrder, IsNever, NotAPackage, Stands}
use Rattle.sheet_types.specs.declared.frame.Frame.{Frame}
use Rattle.sheet_types.specs.declared.receipt.Receipt.{Receipt}
use Rattle.sheet_examples.specs.Sheets.{sheet, archive, crew, second_crew, item, tile, tile_of}
use Rattle.sheet_examples.specs.Story.{kept_as, archive_with, crew_with, entered, moved_corner}
use Rattle.sheet_examples.specs.Ledgers.{added, lent, returned}

pub record Store : Type 0 where
  pub named : Option Head
  pub entered : List Receipt
  pub formed : Bool
  pub tied : Bool
  pub frame : Frame
  pub holds : Package

-- what opening sees of a store
abbrev pub head_of : Store → Option Head
head_of s = s.named

abbrev pub claims_of : Store → List Claim
claims_of s = map claim_of s.entered

abbrev pub IsFormed : Store → Type 0
IsFormed s = s.formed ≡ true

abbrev pub IsTied : Store → Type 0
IsTied s = s.tied ≡ true

abbrev pub frame_in : Store → Frame
frame_in s = s.frame

abbrev pub read : Store → Package
read s = s.holds

-- the store of a package
abbrev pub stored : Package → Store
stored p = record {
  named = Some (record { uuid = p.uuid; parent = p.parent; depth = p.depth; loan = p.loan });
  entered = p.receipts;
  formed = true;
  tied = true;
  frame = sheet;
  holds = p;
}

-- ---- the stores: of the archive before the tile is lent, after it and after its return, and of the loan

abbrev pub before : Store
before = stored (archive_with (kept_as 1 (tile 1 0 0) ∷ []) [] (added ∷ []))

abbrev pub lender : Store
lender = stored (archive_with [] [] (added ∷ lent ∷ []))

abbrev pub again : Store
again = stored (archive_with (kept_as 1 (tile 1 0 0) ∷ []) [] (added ∷ lent ∷ returned ∷ []))

abbrev pub loan : Store
loan = stored (record (crew_with (kept_as 1 (tile 1 0 0) ∷ []) [] []) { loan = 2 })

-- a loan of that loan, its split and the stores
abbrev second_split : Receipt
second_split =
    record (entered 3
    (codes "split b0000000-0000-4000-8000-000000000000 c0000000-0000-4000-8000-000000000000 strict 1 0 0 0 0")
    (Some crew) (Some second_crew) (moved_corner ∷ [])) { tiles = 1; bytes = 1 }

abbrev first_loan : Store
first_loan = stored (record (crew_with [] [] (second_split ∷ [])) { loan = 2 })

abbrev second_loan : Store
second_loan = stored (record no_package { uuid = second_crew; parent = Some crew; depth = 2; loan = 3 })

abbrev pub live_ones : List Store → List (List ℕ)
live_ones stores = map (λ s. s.holds.uuid) (live Store head_of claims_of IsFormed IsTied frame_in read stores)

abbrev pub stray_ones : List Store → List (List ℕ)
stray_ones stores = map (λ s. s.holds.uuid) (strays Store head_of claims_of IsFormed IsTied frame_in read stores)

-- a split that stopped before the parent's commit leaves an orphan
abbrev pub Orphan : Type 0
Orphan = (live_ones (before ∷ loan ∷ []) ≡ archive ∷ []) × (stray_ones (before ∷ loan ∷ []) ≡ crew
    ∷ [])

-- in whatever order the stores are handed in
abbrev pub Lent : Type 0
Lent = (live_ones (loan ∷ lender ∷ []) ≡ crew ∷ archive ∷ [])
    × (live_ones (lender ∷ loan ∷ []) ≡ archive ∷ crew ∷ [])
    × (stray_ones (loan ∷ lender ∷ []) ≡ [])

-- after its return the loan's store is a stray, and so is a store that no split names, or one without head
abbrev pub Returned : Type 0
Returned = (live_ones (again ∷ loan ∷ []) ≡ archive ∷ [])
    × (stray_ones (again ∷ loan ∷ []) ≡ crew ∷ [])
    × (live_ones (lender ∷ stored (record (crew_with [] [] []) { loan = 7 }) ∷ []) ≡ archive ∷ [])
    × (live_ones (lender ∷ stored (record (crew_with [] [] []) { uuid = second_crew; loan = 2 }) ∷ [])
    ≡ archive ∷ [])
    × (live_ones (lender ∷ record loan { named = None } ∷ []) ≡ archive ∷ [])
    -- a receipt of another command lends nothing
    × (live_ones (stored (archive_with [] [] (record added { seq = 2; target = Some crew } ∷ [])) ∷ loan ∷ [])
    ≡ archive ∷ [])
    × (live_ones [] ≡ [])

-- loans of loans are found from the archive downwards, and not where the loan between them is left out
abbrev pub FoundDownwards : Type 0
FoundDownwards = (live_ones (second_loan ∷ first_loan ∷ lender ∷ []) ≡ second_crew ∷ crew ∷ archive ∷ [])
    × (live_ones (second_loan ∷ lender ∷ []) ≡ archive ∷ [])
    × (live_ones (second_loan ∷ first_loan ∷ again ∷ []) ≡ archive ∷ [])

-- ---- the nine faults

abbrev pub AnswersNoArchive : Type 0
AnswersNoArchive = NoArchive Store head_of claims_of IsFormed IsTied frame_in read []
    × NoArchive Store head_of claims_of IsFormed IsTied frame_in read (loan ∷ [])

abbrev pub AnswersTwoArchives : Type 0
AnswersTwoArchives = TwoArchives Store head_of claims_of IsFormed IsTied frame_in read
    (before ∷ stored (record no_package { uuid = second_crew }) ∷ [])
    × (TwoArchives Store head_of claims_of IsFormed IsTied frame_in read (lender ∷ loan ∷ []) → ⊥)

abbrev pub AnswersNotAPackage : Type 0
AnswersNotAPackage = IsNotAPackage Store head_of claims_of IsFormed IsTied frame_in read
    (record before { formed = false } ∷ []) archive

-- a stray is not looked at
abbrev pub StraysAreLeft : Type 0
StraysAreLeft = IsNever (NotAPackage Store head_of claims_of IsFormed IsTied frame_in read
    (before ∷ record loan { formed = false } ∷ []))

abbrev pub AnswersTwoCopies : Type 0
AnswersTwoCopies = TwoCopies Store head_of claims_of IsFormed IsTied frame_in read (lender ∷ loan ∷ loan ∷ [])
    crew
    × IsNever (TwoCopies Store head_of claims_of IsFormed IsTied frame_in read (lender ∷ loan ∷ []))

abbrev pub AnswersMissingPackage : Type 0
AnswersMissingPackage = MissingPackage Store head_of claims_of IsFormed IsTied frame_in read (lender ∷ []) crew
    × IsNever (MissingPackage Store head_of claims_of IsFormed IsTied frame_in read (lender ∷ loan ∷ []))

-- a loan of another frame, of another parent, and of another depth
abbrev pub tall : Frame
tall = record sheet { max_y = pos 8192; matrix_height = pos 2 }

abbrev pub AnswersForeignFrame : Type 0
AnswersForeignFrame = IsForeignFrame Store head_of claims_of IsFormed IsTied frame_in read
    (lender ∷ record loan { frame = tall } ∷ []) crew
    × ForeignFrame Store head_of claims_of IsFormed IsTied frame_in read
    (lender ∷ stored (record (crew_with [] [] []) { loan = 2; parent = Some second_crew }) ∷ []) crew
    × ForeignFrame Store head_of claims_of IsFormed IsTied frame_in read
    (lender ∷ stored (record (crew_with [] [] []) { loan = 2; depth = 2 }) ∷ []) crew

abbrev pub AnswersDangling : Type 0
AnswersDangling = IsDangling Store head_of claims_of IsFormed IsTied frame_in read
    (record before { tied = false } ∷ []) archive

-- the number of the last receipt is 4
abbrev pub AnswersOutOfAccount : Type 0
AnswersOutOfAccount = IsOutOfAccount Store head_of claims_of IsFormed IsTied frame_in read
    (stored (archive_with (kept_as 1 (tile 1 0 0) ∷ []) [] (record added { seq = 4 } ∷ [])) ∷ [])

abbrev pub AnswersAltered : Type 0
AnswersAltered = Altered Store head_of claims_of IsFormed IsTied frame_in read
    (stored (archive_with (kept_as 1 (tile_of 1 0 0 (66 ∷ [])) ∷ []) [] (added ∷ [])) ∷ []) (item 1)
    × InOrder Store head_of claims_of IsFormed IsTied frame_in read
    (stored (archive_with (kept_as 1 (tile_of 1 0 0 (66 ∷ [])) ∷ []) [] (added ∷ [])) ∷ [])

-- ---- a new archive's store stands for the new world

abbrev pub NewStoreStands : Type 0
NewStoreStands = Stands Store head_of claims_of IsFormed IsTied frame_in read (stored (archive_with [] [] []) ∷ [])
    (new_world archive sheet)
