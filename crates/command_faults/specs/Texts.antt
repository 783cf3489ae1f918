-- What standard error is told of a fault or of a refusal, behind the line of its name. Profile.
use Rattle.std.specs.Prelude.{ℕ, List, [], ◌∷◌, ◌++◌, codes, decimal}
use Rattle.sheet_types.specs.Refusals.{refusal_name, refusal_number}
use Rattle.sheet_types.specs.Texts.{uuid_text}
use Rattle.sheet_types.specs.declared.refusal.Refusal.{Refusal}
use Rattle.sheet_types.specs.declared.refusal.Refusal.TheVariants as refusal
use Rattle.opening_faults.specs.declared.faults.RecoverFault.{RecoverFault}
use Rattle.opening_faults.specs.declared.faults.RecoverFault.TheVariants.{NoArchive, TwoArchives, NotAPackage}
use Rattle.opening_faults.specs.declared.faults.RecoverFault.TheVariants.{TwoCopies, MissingPackage, ForeignFrame}
use Rattle.opening_faults.specs.declared.faults.RecoverFault.TheVariants.{Dangling, OutOfAccount, Altered}
use Rattle.opening_faults.specs.declared.faults.RecoverFault.TheVariants.{OutOfMemory, StoreFault}
use Rattle.request_csv.specs.Forms.{column_name}
use Rattle.request_csv.specs.declared.causes.ListFault.{ListFault}
use Rattle.request_csv.specs.declared.causes.ListFault.TheVariants as cause
use Rattle.request_csv.specs.declared.causes.RecordFault.TheVariants.{NoText, FieldCount, Column}
use Rattle.request_csv.specs.declared.forms.Want.{Want}
use Rattle.request_csv.specs.declared.forms.Want.TheVariants.{ItsName, Anything, Identity, Number, Hexadecimal}
use Rattle.request_csv.specs.declared.forms.Want.TheVariants.{Nothing, CommandWord, KindWord, MappingWord, ModeWord}
use Rattle.request_csv.specs.declared.lists.ReadFault.{ReadFault}
use Rattle.request_csv.specs.declared.lists.ReadFault.TheVariants.{Header, Record, Read, Memory}

-- ---- stores that stand for no world

abbrev pub of_package : List ℕ → List ℕ → List ℕ
of_package uuid text = codes "package " ++ (uuid_text uuid ++ text)

-- nothing, where no more is known than the name
abbrev pub fault_text : RecoverFault → List ℕ
fault_text NoArchive = codes "no file says that it is the archive's"
fault_text TwoArchives = codes "two files say that they are the archive's"
fault_text (NotAPackage uuid) =
    of_package uuid (codes " lacks a table of its form, or has a value out of its range")
fault_text (TwoCopies uuid) = of_package uuid (codes " is there twice")
fault_text (MissingPackage uuid) = of_package uuid (codes " is named by an open split and has no file")
fault_text (ForeignFrame uuid) =
    of_package uuid (codes " has not the archive's frame, or is not one level below its lender")
fault_text (Dangling uuid) =
    of_package uuid (codes " has a row without identity, an identity without row, or a link without row")
fault_text OutOfAccount = codes "the receipts do not add up to what the packages hold"
fault_text (Altered uuid) =
    codes "item " ++ (uuid_text uuid ++ codes " has not the content that its receipt names")
fault_text OutOfMemory = []
fault_text StoreFault = []

-- the same, where the receipt of this number names the package or the item
abbrev pub of_split : List ℕ → ℕ → List ℕ → List ℕ
of_split uuid n text = of_package uuid (codes " of open split " ++ (decimal n ++ text))

abbrev pub fault_text_at : RecoverFault → ℕ → List ℕ
fault_text_at (TwoCopies uuid) n = of_split uuid n (codes " is there twice")
fault_text_at (MissingPackage uuid) n =
    of_package uuid (codes " is named by open split " ++ (decimal n ++ codes " and has no file"))
fault_text_at (ForeignFrame uuid) n =
    of_split uuid n (codes " has not the archive's frame, or is not one level below its lender")
fault_text_at (Altered uuid) n =
    codes "item " ++ (uuid_text uuid ++ (codes " has not the content that its receipt "
    ++ (decimal n ++ codes " names")))
fault_text_at fault n = fault_text fault

-- ---- lists

abbrev pub list_text : ReadFault → List ℕ
list_text Header = codes "list: the first record is not the names of the columns"
list_text (Record n) = codes "list: record " ++ (decimal n ++ codes " is no request")
list_text Read = codes "list: it cannot be read to its end, or a record has not eighteen fields of UTF-8"
list_text Memory = []

-- what a column is not
abbrev pub want_text : Want → List ℕ
want_text ItsName = codes " is not its name"
want_text Anything = codes " is not there"
want_text Identity = codes " is no UUID"
want_text Number = codes " is no number"
want_text Hexadecimal = codes " is not hexadecimal, two digits a byte"
want_text Nothing = codes " is not empty"
want_text CommandWord = codes " is none of add, delete, link, unlink, split, merge"
want_text KindWord = codes " is none of tile, media, row"
want_text MappingWord = codes " is none of tiles_media, rows_media, rows_tiles"
want_text ModeWord = codes " is none of strict, follow"

-- why a text is no list: which record, and which column
abbrev pub cause_text : ListFault → List ℕ
cause_text cause.NoRecord = codes "list: it has no record"
cause_text (cause.Header NoText) = codes "list: the header is no UTF-8"
cause_text (cause.Header (FieldCount count)) = codes "list: the header has "
    ++ (decimal count ++ codes " fields, not 18")
cause_text (cause.Header (Column fault)) =
    codes "list: the header has another name in place of '" ++ (column_name fault.column ++ codes "'")
cause_text (cause.Record n NoText) = codes "list: record " ++ (decimal n ++ codes " is no UTF-8")
cause_text (cause.Record n (FieldCount count)) =
    codes "list: record " ++ (decimal n ++ (codes " has " ++ (decimal count ++ codes " fields, not 18")))
cause_text (cause.Record n (Column fault)) =
    codes "list: record " ++ (decimal n ++ (codes ": column '"
    ++ (column_name fault.column ++ (codes "'" ++ want_text fault.want))))

-- ---- refusals

-- what a refusal carries
abbrev pub carried : Refusal → List ℕ
carried (refusal.CutLink uuid) = codes ": item " ++ (uuid_text uuid ++ codes " is linked with an item that stays")
carried (refusal.Stale ticket) = codes ": the last receipt is " ++ decimal ticket
carried (refusal.LoanOpen uuid) = codes ": loan " ++ (uuid_text uuid ++ codes " is not home")
carried (refusal.Collides uuid) = codes ": the place of tile " ++ (uuid_text uuid ++ codes " is taken")
carried why = []

abbrev pub refusal_text : Refusal → List ℕ
refusal_text why =
    codes "refusal " ++ (decimal (refusal_number why) ++ (codes " " ++ (refusal_name why ++ carried why)))

-- the refusal of a record of a list, by the record's number
abbrev pub record_text : ℕ → Refusal → List ℕ
record_text number why = codes "record " ++ (decimal number ++ (codes ": " ++ refusal_text why))

-- how many more there are
abbrev pub more_text : ℕ → List ℕ
more_text count = codes "and " ++ (decimal count ++ codes " more")
