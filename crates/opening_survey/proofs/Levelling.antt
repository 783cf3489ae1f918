-- A head in its ranges stands at depth 0, by no loan, exactly where it has no parent.
use Rattle.std.proofs.Common.{◌≡◌, ◌∙◌, ℕ, pos, List, [], length, Bool, true, false, Option, Some, None}
use Rattle.std.proofs.Common.{refl, sym}
use Rattle.std.proofs.Common.{ap, arith}
use Rattle.std.specs.Prelude.{MatchOption, ◌==◌, ◌≤◌, unsigned_abs}
use Rattle.std.specs.Cmp.{unsigned_Decides}
use Rattle.uuid.proofs.TextLemmas.{by_index_length}
use Rattle.sheet_types.specs.Opening.{Head}
use Rattle.sheet_types.specs.Reading.{optional_uuid_text}
use Rattle.sheet_types.specs.Refuse.{greatest_depth}
use Rattle.sheet_types.specs.Texts.{uuid_text}
use Rattle.package_tables.specs.declared.rows.HeadRow.{HeadRow}
use Rattle.package_schema.specs.Heads.{IsHeadRow}

-- what is asked of a head's depth and loan
abbrev pub Level : Head → Type 0
Level h = MatchOption h.parent ((h.depth ≡ 0) × (h.loan ≡ 0))
    (λ parent. ((h.depth == 0) ≡ false) × (h.depth ≤ greatest_depth))

-- the text of a UUID is not empty; as in `stored_receipts.proofs.Ranges`, where it is private
uuid_some : (id : List ℕ) → uuid_text id ≡ [] → ⊥
uuid_some id e = let long : length (uuid_text id) ≡ 36 = by_index_length 36 _ in let same :
    length (uuid_text id) ≡ 0 = ap length e in omega arith

same_number : (m n : ℕ) → pos m ≡ pos n → m ≡ n
same_number m n h = ap (λ z. unsigned_abs z) h

pub levelled : (row : HeadRow) (head : Head) → IsHeadRow row head → Level head
levelled row head is = at head.parent is.parent
  where
    deep : (id : List ℕ) → row.parent ≡ uuid_text id → (b : Bool) → (head.depth == 0) ≡ b → b ≡ false
    deep id e false is' = refl
    deep id e true is' =
        let zero' : head.depth ≡ 0 = (unsigned_Decides head.depth 0).0 is' in
        absurd (uuid_some id (sym e ∙ is.level.0.1 (is.depth ∙ ap pos zero')))

    at : (parent : Option (List ℕ)) → row.parent ≡ optional_uuid_text parent
        → MatchOption parent ((head.depth ≡ 0) × (head.loan ≡ 0))
        (λ _. ((head.depth == 0) ≡ false) × (head.depth ≤ greatest_depth))
    at None e =
        let root : row.depth ≡ pos 0 = is.level.0.0 e in
        (same_number head.depth 0 (sym is.depth ∙ root), same_number head.loan 0 (sym is.loan ∙ is.level.1.1 root))
    at (Some id) e = (deep id e (head.depth == 0) refl, is.low)
