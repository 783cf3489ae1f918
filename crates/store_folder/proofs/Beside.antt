-- What is kept beside the file of a package, and what of it stands beside none.
use Rattle.std.proofs.Common.{◌≡◌, ◌≢◌, ◌⊎◌, ◌∙◌, ◌<◌, ◌+◌, ◌++◌, ◌∷◌, [], ℕ, Bool, ◌||◌, List, Option, Some, None}
use Rattle.std.proofs.Common.{IfSome, IfNone, All, inl, inr, ap, refl, subst, sym, length, map, take, get_or}
use Rattle.std.specs.Prelude.{Contains, String, string_bytes, true, false, bytes_eq, codes}
use Rattle.std.specs.List.{dedup, list_any, AllByRecursion}
use Rattle.std.specs.List.Sorted.{IsPermutation}
use Rattle.std.specs.Option.{option_or}
use Rattle.std.specs.Str.{IsUtf8}
use Rattle.std.specs.String.{string_eq, string_eq_equiv}
use Rattle.std.proofs.lemmas.Bool.Decides.{Decides-eqb}
use Rattle.std.proofs.lemmas.List.{get_or-map, length-map, map_more}
use Rattle.std.proofs.lemmas.List.Elements.{All-contains, All-same, All-push, Contains-append_left, Contains-get_or}
use Rattle.std.proofs.lemmas.List.Elements.{Contains-push, Contains-push_cases}
use Rattle.std.proofs.lemmas.List.Kept.{Any-dedup}
use Rattle.std.proofs.lemmas.List.Sorted.{Contains-permutation}
use Rattle.std.proofs.lemmas.Slice.Eq.{bytes_eq-Decides, slice_eq-Decides}
use Rattle.sheet_types.specs.Lines.{IsUuid}
use Rattle.store_folder.specs.Leftovers.{endings, IsBeside, IsLeftover, IsLeftoverIn, IsToldIn, IsToldOf, MayPush}
use Rattle.store_folder.specs.Leftovers.{IsNoneWith, Tells}
use Rattle.store_folder.specs.Names.{file_name, ArePackagesIn}
use Rattle.store_folder.proofs.NameFacts.{some_so}

-- the first that is there, or the other
pub either_so : {X : Type 0} (P : X → Type 0) (a b r : Option X) → r ≡ option_or a b → IfSome a P → IfSome b P
    → IfSome r P
either_so P (Some x) b r is first second = subst (λ o. IfSome o P) (sym is) first
either_so P None b r is first second = subst (λ o. IfSome o P) (sym is) second

-- where neither is there
pub neither_so : {X : Type 0} (P Q : Type 0) (a b r : Option X) → r ≡ option_or a b → IfNone a P → IfNone b Q
    → IfNone r (P × Q)
neither_so P Q (Some x) b r is first second = subst (λ o. IfNone o (P × Q)) (sym is) tt
neither_so P Q None (Some x) r is first second = subst (λ o. IfNone o (P × Q)) (sym is) tt
neither_so P Q None None r is first second = subst (λ o. IfNone o (P × Q)) (sym is) (first, second)

either_true : (a b : Bool) → (a || b) ≡ true → (a ≡ true) ⊎ (b ≡ true)
either_true true b it = inl refl
either_true false b it = inr it

-- with none of these ends
pub none_listed : (ends : List (List ℕ)) (name id : List ℕ)
    → AllByRecursion (λ end. name ≢ file_name id ++ end) ends → (end : List ℕ)
    → list_any (λ other. bytes_eq other end) ends ≡ true → name ≢ file_name id ++ end
none_listed [] name id none end listed is = cc
none_listed (first ∷ ends) name id none end listed is =
    elim (either_true (bytes_eq first end) (list_any (λ other. bytes_eq other end) ends) listed) [
      | inl same ↦ none.0 (is ∙ ap (λ e. file_name id ++ e) (sym ((bytes_eq-Decides first end).0 same)))
      | inr later ↦ none_listed ends name id none.1 end later is
    ]

-- with none of the six
pub none_of_six : (name a b c d e f : List ℕ) (found : Option (List ℕ)) → a ≡ codes "-wal" → b ≡ codes "-shm"
    → c ≡ codes "-journal" → d ≡ codes "-new" → e ≡ codes "-new-wal" → f ≡ codes "-new-journal"
    → IfNone found (((((IsNoneWith name a × IsNoneWith name b) × IsNoneWith name c) × IsNoneWith name d)
    × IsNoneWith name e) × IsNoneWith name f)
    → IfNone found ((id : List ℕ) → IsUuid id → IsBeside id name → ⊥)
none_of_six name a b c d e f (Some uuid) ia ib ic id ie if' none = tt
none_of_six name a b c d e f None ia ib ic id ie if' none = λ uuid fit beside.
    none_listed endings name uuid (
      subst (IsNoneWith name) ia none.0.0.0.0.0 uuid fit,
      (
        subst (IsNoneWith name) ib none.0.0.0.0.1 uuid fit,
        (
          subst (IsNoneWith name) ic none.0.0.0.1 uuid fit,
          (
            subst (IsNoneWith name) id none.0.0.1 uuid fit,
            (subst (IsNoneWith name) ie none.0.1 uuid fit, (subst (IsNoneWith name) if' none.1 uuid fit, tt)),
          ),
        ),
      ),
    )
    beside.0 beside.1 beside.2

-- a text more that is so, or none
pub push_so : {Z : Type 0} (P : List ℕ → Type 0) (name : List ℕ) (old new : List (String Z))
    → MayPush name old new
    → P name
    → All (λ text. P (string_bytes text)) old → All (λ text. P (string_bytes text)) new
push_so P name old new (inl none) here all = All-same (λ text. P (string_bytes text)) _ _ none.1 all
push_so {Z} P name old new (inr (text, is, named)) here all =
    All-same (λ (t : String Z). P (string_bytes t)) _ _ is
    (All-push (λ (t : String Z). P (string_bytes t)) old text all (subst P (sym named) here))

-- the names that were seen so far are among all of them
pub shown_here : {X : Type 0} (f : X → List ℕ) (names : List X) (i : ℕ) (d : X) → i < length names
    → Contains (map f names) (f (get_or names i d))
shown_here f names i d within =
    subst (Contains (map f names)) (get_or-map f names i d (f d) within)
    (Contains-get_or (map f names) i (f d) (subst (λ n. i < n) (sym (length-map names f)) within))

-- the packages are those of the names
pub left_in : (names packages : List (List ℕ)) (name : List ℕ) → ArePackagesIn names packages
    → Contains names name → IsLeftover packages name → IsLeftoverIn names name
left_in names packages name are there left = record {
  there = there;
  uuid = left.uuid;
  beside = left.beside;
  alone = λ other fit beside there. left.alone other fit beside (are.files.all other fit there);
}

pub all_left : {Z : Type 0} (names packages : List (List ℕ)) (texts : List (String Z)) → ArePackagesIn names packages
    → All (λ text. Contains names (string_bytes text)) texts
    → All (λ text. IsLeftover packages (string_bytes text)) texts
    → All (λ text. IsLeftoverIn names (string_bytes text)) texts
all_left names packages texts are there left =
    λ k d within. left_in names packages _ are (there k d within) (left k d within)

-- one with an ending of the six
pub ends_so : (end name : List ℕ) (found : Option (List ℕ)) → list_any (λ other. bytes_eq other end) endings
    ≡ true
    → IfSome found (λ id. name ≡ file_name id ++ end) → IfSome found (λ id. IsBeside id name)
ends_so end name found listed ends = some_so _ _ (λ id is. (end, listed, is)) found ends

pub found_beside : (end known name : List ℕ) (found : Option (List ℕ)) → end ≡ known
    → list_any (λ other. bytes_eq other known) endings ≡ true
    → IfSome found (λ id. name ≡ file_name id ++ end) → IfSome found (λ id. IsBeside id name)
found_beside end known name found is listed ends =
    ends_so end name found (ap (λ e. list_any (λ other. bytes_eq other e) endings) is ∙ listed) ends

-- ---- each that is to be told is told

tells_kept : {Z : Type 0} (this : List ℕ) (old new : List (String Z)) (name : List ℕ) → MayPush this old new
    → Tells old name → Tells new name
tells_kept this old new name (inl none) it = subst (λ texts. Tells texts name) (sym none.1) it
tells_kept this old new name (inr (text, is, named)) it =
    subst (λ texts. Tells texts name) (sym is) (it.0, Contains-append_left old (text ∷ []) it.0 it.1, it.2)

tells_pushed : {Z : Type 0} (name : List ℕ) (old new : List (String Z)) → MayPush name old new → IsUtf8 name
    → Tells new name
tells_pushed name old new (inl none) utf8 = absurd (none.0 utf8)
tells_pushed name old new (inr (text, is, named)) utf8 =
    subst (λ texts. Tells texts name) (sym is) (text, Contains-push old text, named)

-- a loop over names, whose next may be told
pub told_pushed : {Z X : Type 0} (f : X → List ℕ) (names : List X) (i : ℕ) (d : X) (packages : List (List ℕ))
    (old new : List (String Z)) → i < length names → MayPush (f (get_or names i d)) old new
    → ((name : List ℕ) → Contains (map f (take i names)) name → IsToldOf packages name → Tells old name)
    → (name : List ℕ) → Contains (map f (take (i + 1) names)) name → IsToldOf packages name → Tells new name
told_pushed f names i d packages old new within pushed before name there told =
    elim (Contains-push_cases (map f (take i names)) (f (get_or names i d)) name
    (subst (λ shown. Contains shown name) (map_more f names i d within) there)) [
      | inl earlier ↦ tells_kept (f (get_or names i d)) old new name pushed (before name earlier told)
      | inr is ↦ subst (Tells new) is
          (tells_pushed (f (get_or names i d)) old new pushed (subst IsUtf8 (sym is) told.text))
    ]

-- and one whose next is not to be told
pub told_passed : {Z X : Type 0} (f : X → List ℕ) (names : List X) (i : ℕ) (d : X) (packages : List (List ℕ))
    (found : List (String Z)) → i < length names
    → ((id : List ℕ) → IsUuid id → IsBeside id (f (get_or names i d)) → (Contains packages id → ⊥) → ⊥)
    → ((name : List ℕ) → Contains (map f (take i names)) name → IsToldOf packages name → Tells found name)
    → (name : List ℕ) → Contains (map f (take (i + 1) names)) name → IsToldOf packages name → Tells found name
told_passed f names i d packages found within none before name there told =
    elim (Contains-push_cases (map f (take i names)) (f (get_or names i d)) name
    (subst (λ shown. Contains shown name) (map_more f names i d within) there)) [
      | inl earlier ↦ before name earlier told
      | inr is ↦ absurd (none told.uuid told.fit (subst (IsBeside told.uuid) (sym is) told.beside) told.alone)
    ]

-- the packages are those of the names
pub told_of : (names packages : List (List ℕ)) (name : List ℕ) → ArePackagesIn names packages → IsToldIn names name
    → IsToldOf packages name
told_of names packages name are told = record {
  uuid = told.uuid;
  fit = told.fit;
  beside = told.beside;
  alone = λ there. told.alone (All-contains (λ id. Contains names (file_name id)) packages told.uuid are.files.there
      there);
  text = told.text;
}

pub tells_permuted : {Z : Type 0} (old new : List (String Z)) (name : List ℕ) → IsPermutation old new → Tells old name
    → Tells new name
tells_permuted old new name moved it = (it.0, Contains-permutation old new it.0 moved it.1, it.2)

-- each once
pub tells_once : {Z : Type 0} (texts : List (String Z)) (name : List ℕ) → Tells texts name
    → Tells (dedup string_eq texts) name
tells_once texts name it =
    let kept = Any-dedup string_eq_equiv texts it.0 it.1 in
    let same : string_bytes it.0 ≡ string_bytes kept.1 =
    (slice_eq-Decides Decides-eqb (string_bytes it.0) (string_bytes kept.1) (string_eq it.0 kept.1) refl).0 kept.4 in
    (kept.1, (kept.0, kept.2, kept.3), sym same ∙ it.2)
