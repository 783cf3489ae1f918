-- What came of a command in plain words: what it made or moved, and its receipt. Profile.
use Rattle.std.specs.Prelude.{ℕ, List, ◌++◌, codes, decimal}
use Rattle.std.specs.Fmt.{signed_decimal}
use Rattle.sheet_types.specs.Texts.{uuid_text}
use Rattle.sheet_types.specs.declared.command.Command.{Command}
use Rattle.sheet_types.specs.declared.command.Command.TheVariants.{Add, Delete, Link, Unlink, Split, Merge}
use Rattle.sheet_types.specs.declared.frame.Rect.{Rect}
use Rattle.sheet_types.specs.declared.receipt.Receipt.{Receipt}

-- a word and the UUID that it is said of, as a line
abbrev pub said : List ℕ → List ℕ → List ℕ
said word id = word ++ (codes " " ++ (uuid_text id ++ codes "\n"))

-- the same of two
abbrev pub said_of_two : List ℕ → List ℕ → List ℕ → List ℕ
said_of_two word one other = word ++ (codes " " ++ (uuid_text one ++ (codes " " ++ (uuid_text other ++ codes "\n"))))

-- a rectangle as `5/0-3/2-2`: its zoom, the first and the last of its columns, and of its rows
abbrev pub area_text : Rect → List ℕ
area_text r =
    signed_decimal r.zoom ++ (codes "/" ++ (signed_decimal r.column ++ (codes "-" ++ (signed_decimal r.last_column
    ++ (codes "/" ++ (signed_decimal r.row ++ (codes "-" ++ signed_decimal r.last_row)))))))

-- what a command made or moved
abbrev pub deed_text : Command → List ℕ
deed_text (Add holder identity content) = said (codes "added") identity
deed_text (Delete holder identity) = said (codes "deleted") identity
deed_text (Link holder mapping base other) = said_of_two (codes "joined") base other
deed_text (Unlink holder mapping base other) = said_of_two (codes "parted") base other
deed_text (Split source loan mode rect) = said (codes "loan") loan
    ++ (codes "sheets " ++ (area_text rect ++ codes "\n"))
deed_text (Merge loan into ticket) = said_of_two (codes "home") loan into

-- the items and links that moved by a receipt
abbrev pub things_text : Receipt → List ℕ
things_text r =
    decimal r.tiles ++ (codes " tiles, " ++ (decimal r.media ++ (codes " media, "
    ++ (decimal r.rows ++ (codes " rows, " ++ (decimal r.links ++ codes " links"))))))

-- its number, and how much moved
abbrev pub counts_text : Receipt → List ℕ
counts_text r =
    codes "receipt " ++ (decimal r.seq ++ (codes ": " ++ (things_text r
    ++ (codes ", " ++ (decimal r.bytes ++ codes " bytes")))))

-- both, but for the end of the last line
abbrev pub reply_text : Command → Receipt → List ℕ
reply_text command r = deed_text command ++ counts_text r
