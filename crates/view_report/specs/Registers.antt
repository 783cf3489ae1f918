-- What a page tells of, and how it is looked up. Profile.
use Rattle.std.specs.Prelude.{ℕ, ◌==◌, ◌&&◌, nat_le, Bool, bytes_eq, List, Option, codes, count_by, find}
use Rattle.std.specs.List.{before_first}
use Rattle.sheet_types.specs.Ordered.{entry}
use Rattle.sheet_types.specs.Texts.{fingerprint, size}
use Rattle.sheet_types.specs.declared.command.Content.{Content}
use Rattle.sheet_types.specs.declared.command.Content.TheVariants.{Tile, Media, Row}
use Rattle.sheet_types.specs.declared.command.Item.{Item}
use Rattle.sheet_types.specs.declared.receipt.Receipt.{Receipt}
use Rattle.view_report.specs.declared.registers.About.{About}
use Rattle.view_report.specs.declared.registers.About.TheVariants.{Sheet, Medium, Mark}
use Rattle.view_report.specs.declared.registers.Live.{Live}
use Rattle.view_report.specs.declared.registers.Name.{Name}
use Rattle.view_report.specs.declared.registers.Thing.{Thing}

-- what an item is, without its bytes
abbrev pub about_of : Content → About
about_of (Tile zoom column row bytes) = Sheet zoom column row
about_of (Media content_type bytes) = Medium content_type
about_of (Row x y code label) = Mark x y code label

abbrev pub thing_of : List ℕ → Item → Thing
thing_of holder i = record {
  holder = holder;
  identity = i.identity;
  about = about_of i.content;
  size = size i.content;
  fingerprint = fingerprint i.content;
}

-- what people call a package or a sheet
abbrev pub name_of : List Name → List ℕ → Option Name
name_of names id = entry (λ n. n.uuid) id names

-- a live package, and an item that one holds
abbrev pub live_of : List Live → List ℕ → Option Live
live_of packages id = entry (λ p. p.uuid) id packages

abbrev pub thing_found : List Thing → List ℕ → Option Thing
thing_found things id = entry (λ t. t.identity) id things

-- the receipt of a number, and the command of one: the first word of its line
abbrev pub receipt_found : List Receipt → ℕ → Option Receipt
receipt_found receipts seq = find (λ r. r.seq == seq) receipts

abbrev pub command_of : Receipt → List ℕ
command_of r = before_first (λ c. c == 32) r.line

-- How many splits there were up to a receipt. So a loan keeps its number as long as it lives, and the archive has 0.
abbrev pub is_split_until : ℕ → Receipt → Bool
is_split_until seq r = nat_le r.seq seq && bytes_eq (command_of r) (codes "split")

abbrev pub number_of : List Receipt → ℕ → ℕ
number_of receipts loan = count_by (is_split_until loan) receipts
