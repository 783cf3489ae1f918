-- All right glances and views of one store have one head, and the same claims.
use Rattle.std.specs.Prelude.{◌≡◌, ◌&&◌, ⊤, ℕ, ℤ, pos, Bool, true, false, List, [], ◌∷◌, length}
use Rattle.std.specs.Prelude.{unsigned_abs}
use Rattle.std.specs.Prelude.{bytes_eq, Option, Some, None, MatchOption, refl}
use Rattle.std.proofs.Common.{sym, ap, subst, ◌∙◌, arith, int_eq}
use Rattle.std.proofs.lemmas.Bool.{true≢false, false≢true, and_parts, and_from}
use Rattle.std.proofs.lemmas.Slice.Eq.{bytes_eq-Decides}
use Rattle.std.proofs.lemmas.Bool.Decides.{Decides-int_eq}
use Rattle.uuid.proofs.TextLemmas.{by_index_length}
use Rattle.sqlite.specs.Effect.{Database}
use Rattle.sheet_types.specs.Lines.{IsUuid}
use Rattle.sheet_types.specs.Opening.{Head, Claim}
use Rattle.sheet_types.specs.Reading.{optional_uuid_text}
use Rattle.sheet_types.specs.Texts.{uuid_text}
use Rattle.sheet_types.proofs.LineReading.{same_uuid}
use Rattle.package_tables.specs.Damaged.{ReadsClaims}
use Rattle.package_tables.specs.Shape.{IsFormed}
use Rattle.package_tables.specs.Shapes.{receipt_shape}
use Rattle.package_tables.specs.declared.rows.HeadRow.{HeadRow}
use Rattle.package_schema.specs.Heads.{IsHeadRowAt, ReadsHeadAt}

-- ---- heads

uuid_some : (id : List ℕ) → uuid_text id ≡ [] → ⊥
uuid_some id e = let long : length (uuid_text id) ≡ 36 = by_index_length 36 _ in let same :
    length (uuid_text id) ≡ 0 = ap length e in omega arith

pos_same : (a b : ℕ) → pos a ≡ pos b → a ≡ b
pos_same a b e = ap unsigned_abs e

same_parent : (a b : Option (List ℕ)) → MatchOption a ⊤ IsUuid → MatchOption b ⊤ IsUuid
    → optional_uuid_text a ≡ optional_uuid_text b → a ≡ b
same_parent None None h g e = refl
same_parent None (Some b) h g e = absurd (uuid_some b (sym e))
same_parent (Some a) None h g e = absurd (uuid_some a e)
same_parent (Some a) (Some b) h g e = ap Some (same_uuid a b h g e)

head_same : {X : Type 0} {x y : X} {xs ys : List X} → x ∷ xs ≡ y ∷ ys → x ≡ y
head_same e = cc

-- one row says one head
one_head : (v : ℤ) (row : HeadRow) (h k : Head) → IsHeadRowAt v row h → IsHeadRowAt v row k → h ≡ k
one_head v row h k a b =
    let uuid : h.uuid ≡ k.uuid = same_uuid h.uuid k.uuid a.uuid b.uuid (sym a.package ∙ b.package) in
    let parent : h.parent ≡ k.parent = same_parent h.parent k.parent a.parent_uuid b.parent_uuid
    (sym a.parent ∙ b.parent) in
    let depth : h.depth ≡ k.depth = pos_same h.depth k.depth (sym a.depth ∙ b.depth) in
    let loan : h.loan ≡ k.loan = pos_same h.loan k.loan (sym a.loan ∙ b.loan) in
    λ n. record { uuid = uuid n; parent = parent n; depth = depth n; loan = loan n }

-- and one store
pub heads_same : (v : ℤ) (db : Database) (o p : Option Head) → ReadsHeadAt v db o → ReadsHeadAt v db p → o ≡ p
heads_same v db None None a b = refl
heads_same v db None (Some k) a b = absurd (a k b)
heads_same v db (Some h) None a b = absurd (b h a)
heads_same v db (Some h) (Some k) a b =
    let e : b.1.0 ≡ a.1.0 = head_same (sym b.1.1 ∙ a.1.1) in
    ap Some (one_head v a.1.0 h k a.1.2 (subst (λ row. IsHeadRowAt v row k) e b.1.2))

-- ---- claims, which can be told apart

abbrev is_same : Claim → Claim → Bool
is_same a b = (int_eq a.seq b.seq && bytes_eq a.line b.line) &&
    (bytes_eq a.source b.source && bytes_eq a.target b.target)

same_when : (a b : Claim) → is_same a b ≡ true → a ≡ b
same_when a b h =
    let both : ((int_eq a.seq b.seq && bytes_eq a.line b.line) ≡ true)
    × ((bytes_eq a.source b.source && bytes_eq a.target b.target) ≡ true) = and_parts _ _ h in
    let front : (int_eq a.seq b.seq ≡ true) × (bytes_eq a.line b.line ≡ true) = and_parts _ _ both.0 in
    let back : (bytes_eq a.source b.source ≡ true) × (bytes_eq a.target b.target ≡ true) = and_parts _ _ both.1 in
    let seq : a.seq ≡ b.seq = (Decides-int_eq a.seq b.seq).0 front.0 in
    let line : a.line ≡ b.line = (bytes_eq-Decides a.line b.line).0 front.1 in
    let source : a.source ≡ b.source = (bytes_eq-Decides a.source b.source).0 back.0 in
    let target : a.target ≡ b.target = (bytes_eq-Decides a.target b.target).0 back.1 in
    λ n. record { seq = seq n; line = line n; source = source n; target = target n }

as_itself : (a : Claim) → is_same a a ≡ true
as_itself a = and_from _ _
    (and_from _ _ ((Decides-int_eq a.seq a.seq).1 refl) ((bytes_eq-Decides a.line a.line).1 refl))
    (and_from _ _ ((bytes_eq-Decides a.source a.source).1 refl) ((bytes_eq-Decides a.target a.target).1 refl))

are_same : List Claim → List Claim → Bool
are_same [] [] = true
are_same [] (b ∷ bs) = false
are_same (a ∷ as') [] = false
are_same (a ∷ as') (b ∷ bs) = is_same a b && are_same as' bs

all_when : (xs ys : List Claim) → are_same xs ys ≡ true → xs ≡ ys
unfolding are_same
all_when [] [] h = refl
all_when [] (y ∷ ys) h = absurd (false≢true h)
all_when (x ∷ xs) [] h = absurd (false≢true h)
all_when (x ∷ xs) (y ∷ ys) h =
    let both : (is_same x y ≡ true) × (are_same xs ys ≡ true) = and_parts (is_same x y) (are_same xs ys) h in
    ap (λ z. z ∷ xs) (same_when x y both.0) ∙ ap (λ zs. y ∷ zs) (all_when xs ys both.1)

all_themselves : (xs : List Claim) → are_same xs xs ≡ true
unfolding are_same
all_themselves [] = refl
all_themselves (x ∷ xs) = and_from (is_same x x) (are_same xs xs) (as_itself x) (all_themselves xs)

-- of one store the same are read, whether the table has its form or not
pub claims_same : (db : Database) (xs ys : List Claim) → ReadsClaims db xs → ReadsClaims db ys → xs ≡ ys
claims_same db xs ys a b =
    elim (are_same xs ys) as (λ v. are_same xs ys ≡ v → xs ≡ ys) [
      | true ↦ λ e. all_when xs ys e
      | false ↦ λ e.
          let apart : xs ≡ ys → ⊥ = λ same. true≢false (sym (subst (λ zs. are_same xs zs ≡ true) same
          (all_themselves xs)) ∙ e) in
          let unformed : IsFormed receipt_shape db → ⊥ = λ formed. apart (a.0 formed ∙ sym (b.0 formed)) in
          absurd (apart (a.1 unformed ∙ sym (b.1 unformed)))
    ] refl
