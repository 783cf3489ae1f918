-- What the words of a command line ask for (profile), over RFC 9562 (UUIDs).
use Rattle.std.specs.Prelude.{◌≡◌, ◌≤◌, ℕ, List, Some, None, IsSome, decimal, true, false}
use Rattle.uuid.specs.Text.{parsed_hyphenated}
use Rattle.sheet_types.specs.Texts.{is_moment}
use Rattle.sheet_types.specs.Matrix.{frame_fault}
use Rattle.sheet_types.specs.Reading.{frame_text}
use Rattle.sheet_types.specs.declared.frame.Frame.{Frame}
use Rattle.command_words.specs.declared.statuses.What.{What}
use Rattle.command_words.specs.declared.statuses.What.TheVariants.{BadUuid, BadMoment, BadFrame, BadNumber, BadList}

-- The text is that of this frame, which is good. Its numbers then fit 64 bits, so that no text is that of two.
pub record IsFrame (text : List ℕ) (frame : Frame) : Type 0 where
  pub written : text ≡ frame_text frame
  pub good : frame_fault frame ≡ None

-- Three texts, of a UUID, a moment and a frame, ask for an archive with this UUID, this moment and this frame.
pub record Asks (archive at frame : List ℕ) (uuid moment : List ℕ) (asked : Frame) : Type 0 where
  pub named : parsed_hyphenated archive ≡ Some uuid
  pub timed : is_moment at ≡ true
  pub made : moment ≡ at
  pub framed : IsFrame frame asked

-- Of three texts, of a UUID, a moment and a frame, this is the first that is none.
abbrev pub IsFirstUnread : List ℕ → List ℕ → List ℕ → What → Type 0
IsFirstUnread archive at frame BadUuid = parsed_hyphenated archive ≡ None
IsFirstUnread archive at frame BadMoment = IsSome (parsed_hyphenated archive) × (is_moment at ≡ false)
IsFirstUnread archive at frame BadFrame = IsSome (parsed_hyphenated archive) × (is_moment at ≡ true)
    × ((asked : Frame) → ¬ IsFrame frame asked)
IsFirstUnread archive at frame BadNumber = ⊥
IsFirstUnread archive at frame BadList = ⊥

-- ---- the words for a desk

-- The text is that of this number, in decimal without a leading zero, and it lies between the two.
abbrev pub IsNumber : ℕ → ℕ → List ℕ → ℕ → Type 0
IsNumber least most text n = (text ≡ decimal n) × (least ≤ n) × (n ≤ most)

abbrev pub IsPort : List ℕ → ℕ → Type 0
IsPort text n = IsNumber 1 65535 text n

abbrev pub IsCount : List ℕ → ℕ → Type 0
IsCount text n = IsNumber 1 1000000 text n

-- Two texts, of a port and a count, ask for a desk at this port that serves so many connections.
abbrev pub AsksDesk : List ℕ → List ℕ → ℕ → ℕ → Type 0
AsksDesk port count place most = IsPort port place × IsCount count most

-- Of five texts, of a UUID, a moment, a frame, a port and a count, this is the first that is none. A port and a count
-- that are none are told alike.
abbrev pub IsFirstUnserved : List ℕ → List ℕ → List ℕ → List ℕ → List ℕ → What → Type 0
IsFirstUnserved archive at frame port count BadUuid = IsFirstUnread archive at frame BadUuid
IsFirstUnserved archive at frame port count BadMoment = IsFirstUnread archive at frame BadMoment
IsFirstUnserved archive at frame port count BadFrame = IsFirstUnread archive at frame BadFrame
IsFirstUnserved archive at frame port count BadNumber =
    ((uuid moment : List ℕ) × (asked : Frame) × Asks archive at frame uuid moment asked)
    × ((place most : ℕ) → ¬ AsksDesk port count place most)
IsFirstUnserved archive at frame port count BadList = ⊥
