-- The page of a folder that does not open (HTML 5). Profile.
use Rattle.std.specs.Prelude.{ℕ, zero, suc, ◌==◌, nat_lt, List, [], ◌∷◌, ◌++◌, Option, Some, None}
use Rattle.std.specs.Prelude.{option_map}
use Rattle.std.specs.Prelude.{if◌then◌else◌, codes, slice_index_or}
use Rattle.command_faults.specs.Texts.{fault_text}
use Rattle.opening_faults.specs.declared.faults.RecoverFault.{RecoverFault}
use Rattle.opening_faults.specs.declared.faults.RecoverFault.TheVariants.{NoArchive, TwoArchives, NotAPackage}
use Rattle.opening_faults.specs.declared.faults.RecoverFault.TheVariants.{TwoCopies, MissingPackage, ForeignFrame}
use Rattle.opening_faults.specs.declared.faults.RecoverFault.TheVariants.{Dangling, OutOfAccount, Altered}
use Rattle.opening_faults.specs.declared.faults.RecoverFault.TheVariants.{OutOfMemory, StoreFault}
use Rattle.view_report.specs.Escaping.{escaped}
use Rattle.view_report.specs.declared.style.TheConstants.{STYLE}
use Rattle.view_report.specs.declared.words.TheConstants.{HEAD}
use Rattle.view_fault.specs.declared.words.TheConstants.{DO_HEAD, END, FAULTS_HEAD, VERDICT}

-- the place of a fault in the order of the nine; none of want of memory and of a failing store
abbrev pub place_of : RecoverFault → Option ℕ
place_of NoArchive = Some 0
place_of TwoArchives = Some 1
place_of (NotAPackage id) = Some 2
place_of (TwoCopies id) = Some 3
place_of (MissingPackage id) = Some 4
place_of (ForeignFrame id) = Some 5
place_of (Dangling id) = Some 6
place_of OutOfAccount = Some 7
place_of (Altered id) = Some 8
place_of OutOfMemory = None
place_of StoreFault = None

-- the name of each, what it says, and what to do
abbrev pub all_names : List (List ℕ)
all_names =
    codes "NoArchive"
    ∷ codes "TwoArchives"
    ∷ codes "NotAPackage"
    ∷ codes "TwoCopies"
    ∷ codes "MissingPackage"
    ∷ codes "ForeignFrame"
    ∷ codes "Dangling"
    ∷ codes "OutOfAccount" ∷ []

abbrev pub fault_name : ℕ → List ℕ
fault_name n = slice_index_or all_names n (codes "Altered")

-- what it says
abbrev pub all_meanings : List (List ℕ)
all_meanings =
    codes "No file says that it is the archive's."
    ∷ codes "Two files say that they are the archive's."
    ∷ codes "A live package lacks a table of its form, or has a value out of its range."
    ∷ codes "Two files are the same loan."
    ∷ codes "A loan is out and its file is not there."
    ∷ codes "A loan has another frame than the archive, or does not fit its lender."
    ∷ codes "A row has no identity, or a link has no row."
    ∷ codes "The receipts do not add up to what the packages hold." ∷ []

abbrev pub fault_meaning : ℕ → List ℕ
fault_meaning n = slice_index_or all_meanings n (codes "An item is not what its receipt says: its bytes were changed.")

-- what to do
abbrev pub all_remedies : List (List ℕ)
all_remedies =
    codes "The archive's file is gone, empty or renamed: put it back under its UUID, or restore the folder."
    ∷ codes "One is a copy, or another register's archive: move the one that does not belong out of the folder."
    ∷ codes "Its file is damaged, or another program has written to it: restore the folder."
    ∷ codes "Move the older copy out of the folder."
    ∷ codes "Put the file back, or restore the folder."
    ∷ codes "The file belongs to another register: restore the folder."
    ∷ codes "Another program has written to the file: restore the folder."
    ∷ codes "Often the files are of two days: restore the whole folder of one day." ∷ []

abbrev pub fault_remedy : ℕ → List ℕ
fault_remedy n = slice_index_or all_remedies n (codes "Keep the file as evidence, and restore the folder.")

-- one of the nine beside the one that was found
abbrev pub state_text : ℕ → ℕ → List ℕ
state_text n found =
    if nat_lt n found then codes "<td class=\"yes\">&#10003; not so</td>"
    else if n == found then codes "<td class=\"no\">&#10007; found</td>" else codes "<td class=\"q\">not asked</td>"

abbrev pub row_class : ℕ → ℕ → List ℕ
row_class n found = if n == found then codes " class=\"hit\"" else []

abbrev pub row_text : ℕ → ℕ → List ℕ
row_text found n =
    codes "<tr" ++ (row_class n found ++ (codes "><th scope=\"row\">"
    ++ (fault_name n ++ (codes "</th><td>" ++ (fault_meaning n
    ++ (codes "</td>" ++ (state_text n found ++ codes "</tr>\n")))))))

-- the first n of the nine, in turn
unfoldable pub rows_text : ℕ → ℕ → List ℕ
rows_text found zero = []
rows_text found (suc n) = rows_text found n ++ row_text found n

-- with what is known of it beside its name
abbrev pub page_text : ℕ → List ℕ → List ℕ
page_text found known =
    HEAD.now ++ (codes "Register not in order" ++ (STYLE.now ++ (VERDICT.now ++ (fault_name found ++ (codes "</h2>\n<p>"
    ++ (fault_meaning found ++ (codes "</p>\n<ul class=\"facts\">\n<li class=\"big\"><b>Where</b> " ++ (escaped known
    ++ (DO_HEAD.now ++ (fault_remedy found ++ (FAULTS_HEAD.now ++ (rows_text found 9 ++ END.now))))))))))))

-- The page of a fault, where it is one of the nine.
abbrev pub fault_page : RecoverFault → Option (List ℕ)
fault_page fault = option_map (λ found. page_text found (fault_text fault)) (place_of fault)
