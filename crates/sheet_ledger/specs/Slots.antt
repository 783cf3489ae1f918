-- The parts of a line behind its verb. Profile.
use Rattle.std.specs.Prelude.{◌≡◌, ◌==◌, ℕ, ℤ, pos, true, false, List, [], ◌∷◌, ◌++◌, decimal}
use Rattle.std.specs.List.{AllByRecursion}
use Rattle.std.specs.Fmt.{signed_decimal}
use Rattle.hex.specs.Hex.{encode_lower}
use Rattle.sheet_types.specs.Texts.{uuid_text, kind_word, mapping_word, mode_word}
use Rattle.sheet_types.specs.Lines.{IsUuid, is_number, is_bytes}
use Rattle.sheet_types.specs.World.{is_item_kind}
use Rattle.sheet_types.specs.declared.command.Mapping.{Mapping}
use Rattle.sheet_types.specs.declared.command.Mode.{Mode}
use Rattle.sheet_types.specs.declared.receipt.MovedKind.{MovedKind}

-- what a part stands for
pub data Slot : Type 0 where
  OfUuid : Slot
  OfKind : Slot
  OfSize : Slot
  OfDigest : Slot
  OfMapping : Slot
  OfMode : Slot
  OfNumber : Slot

-- the text is that of such a part
abbrev pub Fills : Slot → List ℕ → Type 0
Fills OfUuid text = (id : List ℕ) × IsUuid id × (text ≡ uuid_text id)
Fills OfKind text = (kind : MovedKind) × (is_item_kind kind ≡ true) × (text ≡ kind_word kind)
Fills OfSize text = (size : ℕ) × (is_number (pos size) ≡ true) × (text ≡ decimal size)
Fills OfDigest text = (digest : List ℕ) × (is_bytes 32 digest ≡ true) × (text ≡ encode_lower digest)
Fills OfMapping text = (mapping : Mapping) × (text ≡ mapping_word mapping)
Fills OfMode text = (mode : Mode) × (text ≡ mode_word mode)
Fills OfNumber text = (number : ℤ) × (is_number number ≡ true) × (text ≡ signed_decimal number)

-- no part of this kind stands before a space
pub record NoFront (s : Slot) (text : List ℕ) : Type 0 where
  pub none : (word rest : List ℕ) → Fills s word → text ≡ word ++ (32 ∷ rest) → ⊥

-- the text is no such part
pub record NoPart (s : Slot) (text : List ℕ) : Type 0 where
  pub none : Fills s text → ⊥

-- the text is of such parts, with single spaces between them
abbrev pub FillsAll : List Slot → List ℕ → Type 0
FillsAll [] text = ⊥
FillsAll (s ∷ []) text = Fills s text
FillsAll (s ∷ t ∷ ss) text = (word rest : List ℕ) × Fills s word × (text ≡ word ++ (32 ∷ rest))
    × FillsAll (t ∷ ss) rest

-- the text is not of such parts
pub record NoParts (ss : List Slot) (text : List ℕ) : Type 0 where
  pub none : FillsAll ss text → ⊥

-- none of the bytes is this one
abbrev pub Lacks : ℕ → List ℕ → Type 0
Lacks c text = AllByRecursion (λ b. (b == c) ≡ false) text

-- ---- the parts behind each verb

abbrev pub add_slots : List Slot
add_slots = OfUuid ∷ OfUuid ∷ OfKind ∷ OfSize ∷ OfDigest ∷ []

abbrev pub delete_slots : List Slot
delete_slots = OfUuid ∷ OfUuid ∷ []

abbrev pub link_slots : List Slot
link_slots = OfMapping ∷ OfUuid ∷ OfUuid ∷ OfUuid ∷ []

abbrev pub rect_slots : List Slot
rect_slots = OfNumber ∷ OfNumber ∷ OfNumber ∷ OfNumber ∷ OfNumber ∷ []

abbrev pub split_slots : List Slot
split_slots = OfUuid ∷ OfUuid ∷ OfMode ∷ rect_slots

abbrev pub merge_slots : List Slot
merge_slots = OfUuid ∷ OfUuid ∷ OfNumber ∷ []
