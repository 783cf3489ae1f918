-- The entry of a line whose parts were read in turn.
use Rattle.std.specs.Prelude.{◌≡◌, ℕ, ℤ, pos, Bool, true, false, List, [], ◌∷◌, ◌++◌, decimal}
use Rattle.std.specs.Prelude.{Option, Some, refl, codes}
use Rattle.std.proofs.Common.{sym, ap, ◌∙◌}
use Rattle.std.specs.Fmt.{signed_decimal}
use Rattle.hex.specs.Hex.{encode_lower}
use Rattle.std.proofs.lemmas.Bool.{and_from}
use Rattle.sheet_types.specs.Texts.{Entry, Adds, Deletes, Links, Unlinks, Splits, Merges, entry_line, spaced}
use Rattle.sheet_types.specs.Texts.{uuid_text, kind_word, mapping_word, mode_word}
use Rattle.sheet_types.specs.Lines.{IsUuid, IsFitEntry, is_number, is_bytes, is_uuid, is_rect, entry_from}
use Rattle.sheet_types.specs.Reading.{rect_text}
use Rattle.sheet_types.specs.World.{is_item_kind}
use Rattle.sheet_types.specs.declared.command.Mapping.{Mapping}
use Rattle.sheet_types.specs.declared.command.Mode.{Mode}
use Rattle.sheet_types.specs.declared.frame.Rect.{Rect}
use Rattle.sheet_types.specs.declared.receipt.MovedKind.{MovedKind}
use Rattle.sheet_ledger.specs.Entries.{link_verb, link_said}
use Rattle.sheet_types.proofs.LineReading.{entry_from-line}

-- a text that is the line of a fit entry
said : (e : Entry) (text : List ℕ) → IsFitEntry e → text ≡ entry_line e → Some e ≡ entry_from text
said e text fit is = sym (ap entry_from is ∙ entry_from-line e fit)

-- one part more in front
behind : (word text rest full : List ℕ) → text ≡ word ++ (32 ∷ rest) → rest ≡ full
    → text ≡ word ++ (32 ∷ full)
behind word text rest full is more = is ∙ ap (λ r. word ++ (32 ∷ r)) more

pub read_add : (p identity : List ℕ) (kind : MovedKind) (size : ℕ) (digest text r1 r2 r3 r4 : List ℕ)
    → text ≡ uuid_text p ++ (32 ∷ r1) → r1 ≡ uuid_text identity ++ (32 ∷ r2)
    → r2 ≡ kind_word kind ++ (32 ∷ r3) → r3 ≡ decimal size ++ (32 ∷ r4) → r4 ≡ encode_lower digest
    → IsUuid p → IsUuid identity → is_item_kind kind ≡ true → is_number (pos size) ≡ true
    → is_bytes 32 digest ≡ true
    → Some (Adds p identity kind size digest) ≡ entry_from (codes "add" ++ (32 ∷ text))
read_add p identity kind size digest text r1 r2 r3 r4 e1 e2 e3 e4 e5 f1 f2 f3 f4 f5 =
    said (Adds p identity kind size digest) (codes "add" ++ (32 ∷ text))
    (and_from _ _ (and_from _ _ (and_from _ _ (and_from _ _ f1 f2) f3) f4) f5)
    (ap (λ r. codes "add" ++ (32 ∷ r)) (behind (uuid_text p) text r1 _ e1
    (behind (uuid_text identity) r1 r2 _ e2 (behind (kind_word kind) r2 r3 _ e3
    (behind (decimal size) r3 r4 _ e4 e5)))))

pub read_delete : (p identity text rest : List ℕ) → text ≡ uuid_text p ++ (32 ∷ rest)
    → rest ≡ uuid_text identity → IsUuid p → IsUuid identity
    → Some (Deletes p identity) ≡ entry_from (codes "delete" ++ (32 ∷ text))
read_delete p identity text rest e1 e2 f1 f2 =
    said (Deletes p identity) (codes "delete" ++ (32 ∷ text)) (and_from _ _ f1 f2)
    (ap (λ r. codes "delete" ++ (32 ∷ r)) (behind (uuid_text p) text rest _ e1 e2))

pub read_link : (comes : Bool) (p : List ℕ) (mapping : Mapping) (base other text r1 r2 r3 : List ℕ)
    → text ≡ mapping_word mapping ++ (32 ∷ r1) → r1 ≡ uuid_text p ++ (32 ∷ r2)
    → r2 ≡ uuid_text base ++ (32 ∷ r3) → r3 ≡ uuid_text other
    → IsUuid p → IsUuid base → IsUuid other → Some (link_said comes p mapping base other)
    ≡ entry_from (link_verb comes ++ (32 ∷ text))
read_link true p mapping base other text r1 r2 r3 e1 e2 e3 e4 f1 f2 f3 =
    said (Links p mapping base other) (codes "link" ++ (32 ∷ text)) (and_from _ _ (and_from _ _ f1 f2) f3)
    (ap (λ r. codes "link" ++ (32 ∷ r)) (behind (mapping_word mapping) text r1 _ e1
    (behind (uuid_text p) r1 r2 _ e2 (behind (uuid_text base) r2 r3 _ e3 e4))))
read_link false p mapping base other text r1 r2 r3 e1 e2 e3 e4 f1 f2 f3 =
    said (Unlinks p mapping base other) (codes "unlink" ++ (32 ∷ text)) (and_from _ _ (and_from _ _ f1 f2) f3)
    (ap (λ r. codes "unlink" ++ (32 ∷ r)) (behind (mapping_word mapping) text r1 _ e1
    (behind (uuid_text p) r1 r2 _ e2 (behind (uuid_text base) r2 r3 _ e3 e4))))

pub read_rect_is : (rect : Rect) (text r1 r2 r3 r4 : List ℕ)
    → text ≡ signed_decimal rect.zoom ++ (32 ∷ r1) → r1 ≡ signed_decimal rect.column ++ (32 ∷ r2)
    → r2 ≡ signed_decimal rect.last_column ++ (32 ∷ r3) → r3 ≡ signed_decimal rect.row ++ (32 ∷ r4)
    → r4 ≡ signed_decimal rect.last_row
    → text ≡ rect_text rect
read_rect_is rect text r1 r2 r3 r4 e1 e2 e3 e4 e5 =
    behind (signed_decimal rect.zoom) text r1 _ e1 (behind (signed_decimal rect.column) r1 r2 _ e2
    (behind (signed_decimal rect.last_column) r2 r3 _ e3 (behind (signed_decimal rect.row) r3 r4 _ e4 e5)))

pub read_split : (p child : List ℕ) (mode : Mode) (rect : Rect) (text r1 r2 r3 : List ℕ)
    → text ≡ uuid_text p ++ (32 ∷ r1) → r1 ≡ uuid_text child ++ (32 ∷ r2)
    → r2 ≡ mode_word mode ++ (32 ∷ r3) → r3 ≡ rect_text rect
    → IsUuid p → IsUuid child → is_rect rect ≡ true → Some (Splits p child mode rect)
    ≡ entry_from (codes "split" ++ (32 ∷ text))
read_split p child mode rect text r1 r2 r3 e1 e2 e3 e4 f1 f2 f3 =
    said (Splits p child mode rect) (codes "split" ++ (32 ∷ text)) (and_from _ _ (and_from _ _ f1 f2) f3)
    (ap (λ r. codes "split" ++ (32 ∷ r)) (behind (uuid_text p) text r1 _ e1
    (behind (uuid_text child) r1 r2 _ e2 (behind (mode_word mode) r2 r3 _ e3 e4))))

pub read_merge : (child into : List ℕ) (ticket : ℤ) (text r1 r2 : List ℕ)
    → text ≡ uuid_text child ++ (32 ∷ r1) → r1 ≡ uuid_text into ++ (32 ∷ r2)
    → r2 ≡ signed_decimal ticket → IsUuid child → IsUuid into → is_number ticket ≡ true
    → Some (Merges child into ticket) ≡ entry_from (codes "merge" ++ (32 ∷ text))
read_merge child into ticket text r1 r2 e1 e2 e3 f1 f2 f3 =
    said (Merges child into ticket) (codes "merge" ++ (32 ∷ text)) (and_from _ _ (and_from _ _ f1 f2) f3)
    (ap (λ r. codes "merge" ++ (32 ∷ r)) (behind (uuid_text child) text r1 _ e1
    (behind (uuid_text into) r1 r2 _ e2 e3)))

-- what stands in front is this word
pub in_front : (text front rest word : List ℕ) → text ≡ front ++ (32 ∷ rest) → front ≡ word
    → text ≡ word ++ (32 ∷ rest)
in_front text front rest word is same = is ∙ ap (λ w. w ++ (32 ∷ rest)) same
