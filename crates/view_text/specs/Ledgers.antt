-- The ledger as a table: a line of headings, and a line for each receipt that is asked for. Profile.
use Rattle.std.specs.Prelude.{ℕ, ◌-◌, Bool, true, false, ◌&&◌, ◌||◌, nat_le, List, ◌++◌, codes}
use Rattle.std.specs.Prelude.{decimal, drop, filter}
use Rattle.std.specs.Prelude.{flat_map, length, Option, Some, None}
use Rattle.sheet_types.specs.Texts.{uuid_text}
use Rattle.sheet_types.specs.declared.receipt.Receipt.{Receipt}
use Rattle.command_verbs.specs.Names.{begins}
use Rattle.command_verbs.specs.Verbs.{text_of}
use Rattle.view_text.specs.Columns.{at_left, at_right, end_text}
use Rattle.view_text.specs.Ways.{first_word}
use Rattle.view_text.specs.declared.ledgers.Excerpt.{Excerpt}

-- ---- which receipts are asked for

-- a word may name the package at an end, by the text of its UUID
abbrev pub begins_end : List ℕ → Option (List ℕ) → Bool
begins_end word None = false
begins_end word (Some id) = begins word (uuid_text id)

-- the package that a receipt moved things from, or to
abbrev pub touches : Option (List ℕ) → Receipt → Bool
touches None r = true
touches (Some word) r = begins_end word r.source || begins_end word r.target

-- from this number on
abbrev pub is_asked : Option (List ℕ) → ℕ → Receipt → Bool
is_asked word from r = nat_le from r.seq && touches word r

-- how many of so many are passed over, so that the last ones are left
abbrev pub passed : Option ℕ → ℕ → ℕ
passed None count = 0
passed (Some last) count = count - last

abbrev pub last_of : Option ℕ → List Receipt → List Receipt
last_of last receipts = drop (passed last (length receipts)) receipts

abbrev pub asked_of : List Receipt → Excerpt → List Receipt
asked_of ledger e = last_of e.last (filter (is_asked (text_of e.«package») e.from) ledger)

-- ---- lines

abbrev pub headings : List ℕ
headings =
    at_right 10 (codes "receipt") ++ (at_left 24 (codes "at") ++ (at_left 6 (codes "what") ++ (at_left 36 (codes "from")
    ++ (at_left 36 (codes "to") ++ (at_right 7 (codes "things") ++ codes "bytes\n")))))

-- how many things moved, and how many bytes they are
abbrev pub counts_columns : Receipt → List ℕ
counts_columns r = at_right 7 (decimal (length r.items)) ++ (decimal r.bytes ++ codes "\n")

-- number, moment and command, both ends, and what moved
abbrev pub ledger_line : Receipt → List ℕ
ledger_line r =
    at_right 10 (decimal r.seq) ++ (at_left 24 r.at ++ (at_left 6 (first_word r.line) ++ (at_left 36 (end_text r.source)
    ++ (at_left 36 (end_text r.target) ++ counts_columns r))))

abbrev pub excerpt_of : List Receipt → Excerpt → List ℕ
excerpt_of ledger e = headings ++ flat_map ledger_line (asked_of ledger e)
