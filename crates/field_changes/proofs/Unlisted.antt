-- Why the links of a file are no list: whatever their ends are called, one has none, or one is there twice.
use Rattle.std.proofs.Common.{◌≡◌, ◌∙◌, ap, sym, subst, unwrap_or}
use Rattle.std.specs.Prelude.{refl, List, [], ◌∷◌, map, not, bytes_eq}
use Rattle.std.specs.List.{AllByRecursion, AllZip, IsDistinct}
use Rattle.sheet_types.specs.Lines.{IsUuid}
use Rattle.sheet_types.specs.Ordered.{has}
use Rattle.sheet_types.specs.World.{link_key}
use Rattle.sheet_types.specs.declared.command.Relation.{Relation}
use Rattle.sheet_types.proofs.Every.{All-filter}
use Rattle.field_changes.specs.Asked.{IsWhyList}
use Rattle.field_changes.specs.Parts.{IsLinkOf, beyond}
use Rattle.field_changes.specs.declared.held.HeldLink.{HeldLink}
use Rattle.field_changes.specs.declared.naming.Named.{Named}

-- where no links are these of the file
pub without_ends : (known names : List Named) (held : List HeldLink) (linked : List Relation) → known ≡ names
    → ((links : List Relation) → ¬ AllZip (IsLinkOf known) held links) → IsWhyList names held linked
without_ends known names held linked same none = λ links all uuids apart.
    none links (subst (λ l. AllZip (IsLinkOf l) held links) (sym same) all)

-- the links of a file are given by their ends
one_list : (names : List Named) (held : List HeldLink) (xs ys : List Relation)
    → AllZip (IsLinkOf names) held xs → AllZip (IsLinkOf names) held ys → xs ≡ ys
one_list names [] [] [] all same = refl
one_list names [] [] (y ∷ ys) all same = absurd same
one_list names [] (x ∷ xs) ys all same = absurd all
one_list names (h ∷ hs) [] ys all same = absurd all
one_list names (h ∷ hs) (x ∷ xs) [] all same = absurd same
one_list names (h ∷ hs) (x ∷ xs) (y ∷ ys) all same =
    let first : x ≡ y = ap (λ o. unwrap_or o x) (sym all.0 ∙ same.0) in
    ap (λ l. x ∷ l) (one_list names hs xs ys all.1 same.1) ∙ ap (λ z. z ∷ ys) first

-- where one that the package has not is there twice
pub one_twice : (names : List Named) (held : List HeldLink) (linked links left : List Relation)
    → AllZip (IsLinkOf names) held links → left ≡ beyond linked links
    → (AllByRecursion (λ l. IsUuid l.base) left → IsDistinct bytes_eq (map link_key left) → ⊥)
    → IsWhyList names held linked
one_twice names held linked links left all is twice = λ others same uuids apart.
    let one : links ≡ others = one_list names held links others all same in
    let left_is : left ≡ beyond linked others = is ∙ ap (beyond linked) one in
    twice (subst (AllByRecursion (λ l. IsUuid l.base)) (sym left_is)
    (All-filter (λ l. IsUuid l.base) (λ l. not (has link_key (link_key l) linked)) others uuids))
    (subst (λ l. IsDistinct bytes_eq (map link_key l)) (sym left_is) apart)
