-- Names and the packages whose files they are.
use Rattle.std.proofs.Common.{◌≡◌, ◌≢◌, inl, inr, refl, sym, ap, subst, ◌∙◌, ℕ, ◌+◌, ◌<◌}
use Rattle.std.proofs.Common.{Bool, ◌||◌, List, [], ◌∷◌}
use Rattle.std.proofs.Common.{◌++◌, length, length-append, map, take, get_or, Option, Some, None, IfSome, IfNone}
use Rattle.std.specs.Prelude.{Contains, nat_eq}
use Rattle.std.specs.Cmp.Lexicographic.{pointwise}
use Rattle.std.specs.List.{dedup, list_any}
use Rattle.std.specs.List.Sorted.{IsPermutation}
use Rattle.std.proofs.lemmas.Bool.Decides.{Decides-eqb}
use Rattle.std.proofs.lemmas.Cmp.{nat_list_eq_equiv}
use Rattle.std.proofs.lemmas.List.Elements.{All-push, All-weaker, Contains-append_left, Contains-push}
use Rattle.std.proofs.lemmas.List.Elements.{Contains-push_cases}
use Rattle.std.proofs.lemmas.List.{map-append, take_more}
use Rattle.std.proofs.lemmas.List.Filters.{All-dedup}
use Rattle.std.proofs.lemmas.List.Kept.{Contains-dedup}
use Rattle.std.proofs.lemmas.List.Sorted.{All-permutation, Contains-permutation}
use Rattle.std.proofs.lemmas.Slice.Eq.{slice_eq-Decides}
use Rattle.std.proofs.Math.Seq.{take-append_seam}
use Rattle.uuid.proofs.TextLemmas.{by_index_length}
use Rattle.uuid.specs.Text.{parsed}
use Rattle.sheet_types.specs.Lines.{IsUuid}
use Rattle.sheet_types.specs.Texts.{uuid_text}
use Rattle.sheet_types.proofs.UuidTexts.{parsed_36, reads_own}
use Rattle.store_folder.specs.Names.{extension, file_name, HaveFiles}

-- a text of 36 bytes that was read is the text of what was read alone
pub reads_one : (text id other : List ℕ) → length text ≡ 36 → Some id ≡ parsed text → IsUuid other
    → text ≡ uuid_text other → id ≡ other
reads_one text id other long read fit is =
    let same : Some id ≡ Some other = read ∙ parsed_36 text long ∙ reads_own other text fit is in
    cc

pub some_so : {X : Type 0} (P Q : X → Type 0) → ((x : X) → P x → Q x) → (o : Option X) → IfSome o P
    → IfSome o Q
some_so P Q follows (Some x) p = follows x p
some_so P Q follows None p = tt

pub some_both : {X : Type 0} (P Q R : X → Type 0) → ((x : X) → P x → Q x → R x) → (o : Option X) → IfSome o P
    → IfSome o Q → IfSome o R
some_both P Q R follows (Some x) p q = follows x p q
some_both P Q R follows None p q = tt

pub none_so : {X : Type 0} (P Q : Type 0) → (P → Q) → (o : Option X) → IfNone o P → IfNone o Q
none_so P Q follows (Some x) p = tt
none_so P Q follows None p = follows p

-- the names of all packages' files are of one length
file_length : (id : List ℕ) → length (file_name id) ≡ 36 + length extension
file_length id = length-append (uuid_text id) extension ∙ ap (λ n. n + length extension) (by_index_length 36 _)

front_same : (s t x y : List ℕ) → length s ≡ length t → s ++ x ≡ t ++ y → s ≡ t
front_same s t x y long is =
    sym (take-append_seam s x) ∙ ap (take (length s)) is ∙ ap (λ n. take n (t ++ y)) long ∙ take-append_seam t y

-- so a name begins with one of them at most
pub file_same : (id other x y : List ℕ) → file_name id ++ x ≡ file_name other ++ y
    → file_name id ≡ file_name other
file_same id other x y is =
    front_same (file_name id) (file_name other) x y (file_length id ∙ sym (file_length other)) is

pub list_any-map : {X Y : Type 0} (test : Y → Bool) (f : X → Y) (xs : List X)
    → list_any test (map f xs) ≡ list_any (λ x. test (f x)) xs
list_any-map test f [] = refl
list_any-map test f (x ∷ xs) = ap (λ rest. test (f x) || rest) (list_any-map test f xs)

-- one name more, which is no package's
pub none_more : (names packages : List (List ℕ)) (name : List ℕ)
    → ((id : List ℕ) → IsUuid id → name ≢ file_name id)
    → HaveFiles names packages → HaveFiles (names ++ name ∷ []) packages
none_more names packages name none it = record {
  there = All-weaker (λ id. Contains names (file_name id)) (λ id. Contains (names ++ name ∷ []) (file_name id))
      (λ id. Contains-append_left names (name ∷ []) (file_name id)) packages it.there;
  all = λ id fit there. elim (Contains-push_cases names name (file_name id) there)
      [ inl before ↦ it.all id fit before | inr is ↦ absurd (none id fit is) ];
}

-- one more, which is the file of this package
pub some_more : (names packages : List (List ℕ)) (name id : List ℕ) → name ≡ file_name id
    → ((other : List ℕ) → IsUuid other → name ≡ file_name other → id ≡ other) → HaveFiles names packages
    → HaveFiles (names ++ name ∷ []) (packages ++ id ∷ [])
some_more names packages name id is only it = record {
  there = All-push (λ uuid. Contains (names ++ name ∷ []) (file_name uuid)) packages id
      (All-weaker (λ uuid. Contains names (file_name uuid)) (λ uuid. Contains (names ++ name ∷ []) (file_name uuid))
      (λ uuid. Contains-append_left names (name ∷ []) (file_name uuid)) packages it.there)
      (subst (Contains (names ++ name ∷ [])) is (Contains-push names name));
  all = λ other fit there. elim (Contains-push_cases names name (file_name other) there) [
    | inl before ↦ Contains-append_left packages (id ∷ []) other (it.all other fit before)
    | inr same ↦ subst (Contains (packages ++ id ∷ [])) (only other fit same) (Contains-push packages id)
  ];
}

-- in another order
pub files_permuted : (names old new : List (List ℕ)) → IsPermutation old new → HaveFiles names old
    → HaveFiles names new
files_permuted names old new moved it = record {
  there = All-permutation (λ id. Contains names (file_name id)) old new moved it.there;
  all = λ id fit there. Contains-permutation old new id moved (it.all id fit there);
}

-- without those that are there already
pub files_once : (names packages : List (List ℕ)) → HaveFiles names packages
    → HaveFiles names (dedup (pointwise nat_eq) packages)
files_once names packages it = record {
  there = All-dedup (pointwise nat_eq) (λ id. Contains names (file_name id)) packages it.there;
  all = λ id fit there. Contains-dedup nat_list_eq_equiv
      (λ x y same. (slice_eq-Decides Decides-eqb x y (pointwise nat_eq x y) refl).0 same) packages id
      (it.all id fit there);
}

-- the first of a list, and one more
pub shown_more : {X Y : Type 0} (f : X → Y) (xs : List X) (i : ℕ) (d : X) → i < length xs
    → map f (take (i + 1) xs) ≡ map f (take i xs) ++ f (get_or xs i d) ∷ []
shown_more f xs i d within = ap (map f) (take_more xs i d within) ∙ map-append f (take i xs) (get_or xs i d ∷ [])

-- a loop over names, whose next is the file of this package
pub loop_some : {X : Type 0} (f : X → List ℕ) (names : List X) (i : ℕ) (d : X) (packages next : List (List ℕ))
    (id : List ℕ) → i < length names → next ≡ packages ++ id ∷ [] → f (get_or names i d) ≡ file_name id
    → ((other : List ℕ) → IsUuid other → f (get_or names i d) ≡ file_name other → id ≡ other)
    → HaveFiles (map f (take i names)) packages → HaveFiles (map f (take (i + 1) names)) next
loop_some f names i d packages next id within is file only it =
    subst (λ shown. HaveFiles shown next) (sym (shown_more f names i d within))
    (subst (HaveFiles (map f (take i names) ++ f (get_or names i d) ∷ [])) (sym is)
    (some_more (map f (take i names)) packages (f (get_or names i d)) id file only it))

-- and one whose next is no package's
pub loop_none : {X : Type 0} (f : X → List ℕ) (names : List X) (i : ℕ) (d : X) (packages next : List (List ℕ))
    → i < length names → next ≡ packages → ((id : List ℕ) → IsUuid id
    → f (get_or names i d) ≢ file_name id)
    → HaveFiles (map f (take i names)) packages → HaveFiles (map f (take (i + 1) names)) next
loop_none f names i d packages next within is none it =
    subst (λ shown. HaveFiles shown next) (sym (shown_more f names i d within))
    (subst (HaveFiles (map f (take i names) ++ f (get_or names i d) ∷ [])) (sym is)
    (none_more (map f (take i names)) packages (f (get_or names i d)) none it))
