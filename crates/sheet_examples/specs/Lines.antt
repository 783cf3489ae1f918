-- Which texts are read as an entry. A line is read whole, and a number and a UUID have one form.
use Rattle.std.specs.Prelude.{◌≡◌, ℕ, true, false, List, [], ◌∷◌, Some, None, pos, negsuc, codes}
use Rattle.sheet_types.specs.Custody.{is_open_among}
use Rattle.sheet_types.specs.Lines.{entry_from}
use Rattle.sheet_types.specs.Opening.{Claim, is_open_claim}
use Rattle.sheet_types.specs.Texts.{Splits, Merges}
use Rattle.sheet_types.specs.declared.command.Mode.TheVariants.{Follow}
use Rattle.sheet_types.specs.declared.receipt.Receipt.{Receipt}
use Rattle.sheet_examples.specs.Sheets.{archive, crew, second_crew}
use Rattle.sheet_examples.specs.Story.{entered}

abbrev pub ReadWhole : Type 0
ReadWhole = (entry_from (codes "split a0000000-0000-4000-8000-000000000000 b0000000-0000-4000-8000-000000000000 follow -5 0 12 3 9223372036854775807")
    ≡ Some (Splits archive crew Follow (record {
      zoom = negsuc 4;
      column = pos 0;
      last_column = pos 12;
      row = pos 3;
      last_row = pos 9223372036854775807;
    })))
    × (entry_from (codes "merge b0000000-0000-4000-8000-000000000000 a0000000-0000-4000-8000-000000000000 12")
    ≡ Some (Merges crew archive (pos 12)))

-- a word alone, a number that begins with 0, one past the greatest of 64 bits, a UUID in upper case, and two spaces
abbrev pub NoLines : Type 0
NoLines = (entry_from (codes "split") ≡ None)
    × (entry_from (codes "merge b0000000-0000-4000-8000-000000000000 a0000000-0000-4000-8000-000000000000 012")
    ≡ None)
    × (entry_from
    (codes "merge b0000000-0000-4000-8000-000000000000 a0000000-0000-4000-8000-000000000000 9223372036854775808")
    ≡ None)
    × (entry_from (codes "merge B0000000-0000-4000-8000-000000000000 a0000000-0000-4000-8000-000000000000 12")
    ≡ None)
    × (entry_from (codes "merge  b0000000-0000-4000-8000-000000000000 a0000000-0000-4000-8000-000000000000 12")
    ≡ None)

-- ---- what only begins as the line of a split opens no loan, neither as a receipt nor as a claim

abbrev begins_as_split : Receipt
begins_as_split = entered 1 (codes "split") None (Some second_crew) []

abbrev claimed : List ℕ → Claim
claimed line = record {
  seq = pos 1;
  line = line;
  source = codes "a0000000-0000-4000-8000-000000000000";
  target = codes "c0000000-0000-4000-8000-000000000000";
}

abbrev split_line : List ℕ
split_line = codes "split a0000000-0000-4000-8000-000000000000 c0000000-0000-4000-8000-000000000000 strict 1 0 0 0 0"

abbrev pub BeginsAsSplit : Type 0
BeginsAsSplit = (is_open_among (begins_as_split ∷ []) begins_as_split ≡ false)
    × (is_open_claim (claimed (codes "split") ∷ []) (claimed (codes "split")) ≡ false)
    × (is_open_claim (claimed split_line ∷ []) (claimed split_line) ≡ true)
