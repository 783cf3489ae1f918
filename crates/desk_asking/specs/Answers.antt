-- The bytes of a desk's answer: the head of a response (RFC 9112), and frames. Profile.
use Rattle.std.specs.Prelude.{◌≡◌, ◌≢◌, ◌≤◌, ◌⊎◌, ℕ, List, [], ◌∷◌, ◌++◌, length}
use Rattle.std.specs.Prelude.{flat_map, codes, decimal, All}
use Rattle.std.specs.Prelude.{if◌then◌else◌, nat_eq, true, Option}
use Rattle.std.specs.List.{starts_with}
use Rattle.std.specs.Io.KnownBytes.{Consumes, Appends}
use Rattle.desk_asking.specs.declared.answers.Answer.{Answer}
use Rattle.desk_asking.specs.declared.answers.Answer.TheVariants.{Ended, NotHere}

-- a line, and its end
abbrev pub line_text : List ℕ → List ℕ
line_text line = line ++ 10 ∷ []

-- lines that are not empty, and an empty one behind them
pub record AreFields (bytes : List ℕ) : Type 0 where
  pub fields : List (List ℕ)
  pub is : bytes ≡ flat_map line_text fields ++ line_text (13 ∷ [])
  pub none_empty : All (λ field. field ≢ 13 ∷ []) fields

-- The head of a response that carries an answer: a status line with the status 200, and fields.
abbrev pub IsHead : List ℕ → Type 0
IsHead bytes =
    (status : List ℕ) × (rest : List ℕ) × (bytes ≡ line_text status ++ rest)
    × (starts_with nat_eq status (codes "HTTP/1.1 200 ") ≡ true) × AreFields rest

-- so many bytes went from a reader to a writer
abbrev pub Moves : ℕ → Option (List ℕ) → Option (List ℕ) → Option (List ℕ) → Option (List ℕ)
    → Type 0
Moves size left left' out out' =
    (bytes : List ℕ) × (length bytes ≡ size) × Consumes left left' bytes × Appends out out' bytes

-- a frame: of which kind it is, and its bytes
abbrev pub Frame : Type 0
Frame = ℕ × List ℕ

-- what stands before the bytes of a frame
abbrev pub frame_head : ℕ → ℕ → List ℕ
frame_head kind size = line_text (kind ∷ (32 ∷ decimal size))

abbrev pub frame_text : Frame → List ℕ
frame_text frame = frame_head frame.0 (length frame.1) ++ frame.1

-- for standard output, or for standard error
abbrev pub IsTold : Frame → Type 0
IsTold frame = (frame.0 ≡ 49) ⊎ (frame.0 ≡ 50)

-- the bytes of a frame where it is of this kind
abbrev pub bytes_if : ℕ → Frame → List ℕ
bytes_if kind frame = if nat_eq frame.0 kind then frame.1 else []

-- the bytes of all frames of a kind
abbrev pub bytes_of : ℕ → List Frame → List ℕ
bytes_of kind frames = flat_map (bytes_if kind) frames

-- how the frames end, and the answer that this is
abbrev pub end_text : Answer → List ℕ
end_text (Ended status) = frame_head 48 status
end_text NotHere = frame_head 51 0

-- A status is a byte. A desk that does not carry a command out says nothing else.
abbrev pub MayEnd : List Frame → Answer → Type 0
MayEnd frames (Ended status) = status ≤ 255
MayEnd frames NotHere = frames ≡ []

-- These bytes are frames and how they end. Of them these are for standard output, and these for standard error.
pub record AreFrames (bytes output errors : List ℕ) (answer : Answer) : Type 0 where
  pub frames : List Frame
  pub is : bytes ≡ flat_map frame_text frames ++ end_text answer
  pub told : All IsTold frames
  pub ends : MayEnd frames answer
  pub to_output : output ≡ bytes_of 49 frames
  pub to_errors : errors ≡ bytes_of 50 frames

-- The same behind the head of a response.
abbrev pub IsAnswer : List ℕ → List ℕ → List ℕ → Answer → Type 0
IsAnswer bytes output errors answer =
    (head : List ℕ) × (rest : List ℕ) × (bytes ≡ head ++ rest) × IsHead head
    × AreFrames rest output errors answer

-- What a reader gave and what two writers got stand so to each other.
abbrev pub Copies : (List ℕ → List ℕ → List ℕ → Type 0) → Option (List ℕ) → Option (List ℕ)
    → Option (List ℕ)
    → Option (List ℕ) → Option (List ℕ) → Option (List ℕ) → Type 0
Copies Says left left' out out' err err' =
    (bytes : List ℕ) × (output : List ℕ) × (errors : List ℕ) × Says bytes output errors
    × Consumes left left' bytes × Appends out out' output × Appends err err' errors

-- a frame whose head was read, by whether it is for a writer: its bytes went there
abbrev pub IsFrameOf : ℕ → ℕ → List ℕ → List ℕ → List ℕ → Type 0
IsFrameOf kind size bytes output errors =
    (length bytes ≡ size) × IsTold (kind, bytes) × (output ≡ bytes_if 49 (kind, bytes))
    × (errors ≡ bytes_if 50 (kind, bytes))

-- the head of a frame that is for no writer ends the answer so, behind so many frames
abbrev pub IsEnd : ℕ → ℕ → ℕ → Answer → Type 0
IsEnd kind size before (Ended status) = (kind ≡ 48) × (size ≡ status) × (status ≤ 255)
IsEnd kind size before NotHere = (kind ≡ 51) × (size ≡ 0) × (before ≡ 0)
