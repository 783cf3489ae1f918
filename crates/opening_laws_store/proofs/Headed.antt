-- The head of a store that reads as a package is the package's.
use Rattle.std.proofs.Common.{◌≡◌, ℕ, ◌≤◌, pos, List, [], ◌∷◌, true, Option, Some, None, is_some}
use Rattle.std.proofs.Common.{refl, sym, ap, ◌∙◌}
use Rattle.std.proofs.Common.{length, arith}
use Rattle.std.specs.Prelude.{MatchOption, ⊤, ◌==◌, unsigned_abs, ◌↔◌}
use Rattle.std.proofs.lemmas.Bool.{false≢true, false_from_ne_true, eqb-true}
use Rattle.uuid.proofs.TextLemmas.{by_index_length}
use Rattle.sheet_types.specs.Lines.{IsUuid}
use Rattle.sheet_types.specs.Opening.{head_of}
use Rattle.sheet_types.specs.Reading.{optional_uuid_text}
use Rattle.sheet_types.specs.Texts.{uuid_text, is_moment}
use Rattle.sheet_types.specs.World.{Package}
use Rattle.sheet_types.proofs.LineReading.{same_uuid}
use Rattle.package_tables.specs.declared.rows.HeadRow.{HeadRow}
use Rattle.identity_register.specs.Reads.{IsFitHead, is_fit_end, head_row}
use Rattle.package_schema.specs.Heads.{IsHeadRow}
use Rattle.opening_laws_store.specs.Laws.{HeadIsKnown, LentHeadIsLow}
use Rattle.opening_laws_model.specs.Timely.{IsLevelled}

-- the text of a UUID is not empty
uuid_some : (id : List ℕ) → uuid_text id ≡ [] → ⊥
uuid_some id e = let long : length (uuid_text id) ≡ 36 = by_index_length 36 _ in let same :
    length (uuid_text id) ≡ 0 = ap length e in omega arith

pos_same : (a b : ℕ) → pos a ≡ pos b → a ≡ b
pos_same a b e = ap unsigned_abs e

fit_parent : (o : Option (List ℕ)) → is_fit_end o ≡ true → MatchOption o ⊤ IsUuid
fit_parent None h = tt
fit_parent (Some id) h = h

-- the parent that a text is of
same_parent : (a b : Option (List ℕ)) → MatchOption a ⊤ IsUuid → is_fit_end b ≡ true
    → optional_uuid_text a ≡ optional_uuid_text b → a ≡ b
same_parent None None h g e = refl
same_parent None (Some b) h g e = absurd (uuid_some b (sym e))
same_parent (Some a) None h g e = absurd (uuid_some a e)
same_parent (Some a) (Some b) h g e = ap Some (same_uuid a b h g e)

-- ---- a head that is said

head_same : {X : Type 0} {x y : X} {xs ys : List X} → x ∷ xs ≡ y ∷ ys → x ≡ y
head_same e = cc

pub head_is_known : HeadIsKnown
head_is_known f p db h reads said =
    let row : HeadRow = said.1.0 in
    let is : IsHeadRow row h = said.1.2 in
    let e : row ≡ head_row p reads.says.created = head_same (sym said.1.1 ∙ reads.says.head) in
    let uuid : h.uuid ≡ p.uuid = same_uuid h.uuid p.uuid is.uuid reads.says.fit_head.uuid
    (sym is.package ∙ ap (λ r. r.package) e) in
    let parent : h.parent ≡ p.parent = same_parent h.parent p.parent is.parent_uuid reads.says.fit_head.parent
    (sym is.parent ∙ ap (λ r. r.parent) e) in
    let depth : h.depth ≡ p.depth = pos_same h.depth p.depth (sym is.depth ∙ ap (λ r. r.depth) e) in
    let loan : h.loan ≡ p.loan = pos_same h.loan p.loan (sym is.loan ∙ ap (λ r. r.loan) e) in
    λ n. record { uuid = uuid n; parent = parent n; depth = depth n; loan = loan n }

-- a head with a parent is not at depth 0
pub lent_head_is_low : LentHeadIsLow
lent_head_is_low db h said lent =
    let row : HeadRow = said.1.0 in
    let is : IsHeadRow row h = said.1.2 in (
      false_from_ne_true (h.depth == 0) (λ zero'. above h.parent lent
          (sym is.parent ∙ is.level.0.1 (is.depth ∙ ap pos (eqb-true h.depth 0 zero')))),
      is.uuid,
    )
  where
    above : (o : Option (List ℕ)) → is_some o ≡ true → optional_uuid_text o ≡ [] → ⊥
    above None some e = false≢true some
    above (Some id) some e = uuid_some id e

-- ---- the head of a package

level_of : (parent : Option (List ℕ)) (depth loan : ℕ) → MatchOption parent ((depth ≡ 0) × (loan ≡ 0))
    (λ _. (1 ≤ depth) × (1 ≤ loan))
    → ((optional_uuid_text parent ≡ []) ↔ (pos depth ≡ pos 0))
    × ((pos loan ≡ pos 0) ↔ (pos depth ≡ pos 0))
level_of None depth loan h = (((λ _. ap pos h.0), (λ _. refl)), ((λ _. ap pos h.0), (λ _. ap pos h.1)))
level_of (Some id) depth loan h = (
  ((λ e. absurd (uuid_some id e)), (λ e. absurd (none depth h.0 e))),
  ((λ e. absurd (none loan h.1 e)), (λ e. absurd (none depth h.0 e))),
)
  where
    none : (n : ℕ) → 1 ≤ n → pos n ≡ pos 0 → ⊥
    none n low e = let z : n ≡ 0 = pos_same n 0 e in omega (arith, low, z)

pub row_of_head : (p : Package) (created : List ℕ) → IsFitHead p.uuid p.parent → IsLevelled p
    → is_moment created ≡ true → IsHeadRow (head_row p created) (head_of p)
row_of_head p created fit level moment = record {
  id = refl;
  version = refl;
  uuid = fit.uuid;
  parent_uuid = fit_parent p.parent fit.parent;
  «package» = refl;
  parent = refl;
  depth = refl;
  low = level.depth;
  loan = refl;
  loan_low = level.loan;
  created = moment;
  level = level_of p.parent p.depth p.loan level.level;
}
