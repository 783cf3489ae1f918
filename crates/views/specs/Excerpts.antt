-- Which receipts are asked for by words. Profile.
use Rattle.std.specs.Prelude.{◌≡◌, ◌<◌, ◌^◌, ℕ, pos, List, Option, Some, None}
use Rattle.std.specs.Fmt.{signed_decimal}
use Rattle.command_verbs.specs.Verbs.{text_of}
use Rattle.view_text.specs.declared.ledgers.Excerpt.{Excerpt}
use Rattle.views.specs.declared.excerpts.LogWords.{LogWords}

-- a count in plain decimal, within 63 bits
abbrev pub IsCount : List ℕ → ℕ → Type 0
IsCount text n = (n < 2 ^ 63) × (text ≡ signed_decimal (pos n))

-- the number of a word, or 0 where there is none
abbrev pub AsksFrom : Option (List ℕ) → ℕ → Type 0
AsksFrom None from = from ≡ 0
AsksFrom (Some text) from = IsCount text from

-- how many a word says, or none in particular
abbrev pub AsksLast : Option (List ℕ) → Option ℕ → Type 0
AsksLast None last = last ≡ None
AsksLast (Some text) None = ⊥
AsksLast (Some text) (Some last) = IsCount text last

abbrev pub AsksExcerpt : LogWords → Excerpt → Type 0
AsksExcerpt words e =
    (e.«package» ≡ words.«package») × AsksFrom (text_of words.from) e.from
    × AsksLast (text_of words.last) e.last
