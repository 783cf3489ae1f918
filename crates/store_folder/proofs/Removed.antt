-- One more file that was removed, or none.
use Rattle.std.proofs.Common.{◌<◌, ◌+◌, ℕ, List, [], ◌∷◌, ◌++◌, length, map, take, get_or, subst, sym}
use Rattle.std.proofs.Common.{inl, inr}
use Rattle.std.specs.Prelude.{Contains}
use Rattle.std.specs.List.{AllByRecursion}
use Rattle.std.proofs.lemmas.List.{map_more}
use Rattle.std.proofs.lemmas.List.Elements.{Contains-append_left, Contains-append_right, Contains-push}
use Rattle.std.proofs.lemmas.List.Elements.{Contains-push_cases}
use Rattle.store_folder.specs.Removals.{AreBeside, IsFrom, RemovesAllBeside, RemovesBeside, RemovesIfBeside}

-- behind one more
later : (name : List ℕ) (names : List (List ℕ)) (x : List ℕ) → Contains names x → Contains (name ∷ names) x
later name names x here = Contains-append_right (name ∷ []) names x here

first : (name : List ℕ) (names : List (List ℕ)) → Contains (name ∷ names) name
first name names = Contains-append_left (name ∷ []) names name (Contains-push [] name)

-- of a folder with one name more
still_there : (folder : List (List ℕ)) (name : List ℕ) (names : List (List ℕ))
    → AllByRecursion (Contains folder) names → AllByRecursion (Contains (folder ++ name ∷ [])) names
still_there folder name [] it = tt
still_there folder name (x ∷ names) it =
    (Contains-append_left folder (name ∷ []) x it.0, still_there folder name names it.1)

none_more : (folder : List (List ℕ)) (file name : List ℕ) (names : List (List ℕ)) → (IsFrom file name → ⊥)
    → AreBeside folder file names → AreBeside (folder ++ name ∷ []) file names
none_more folder file name names alien it = record {
  from = it.from;
  there = still_there folder name names it.there;
  all = λ other there from. elim (Contains-push_cases folder name other there)
      [ inl before ↦ it.all other before from | inr is ↦ absurd (alien (subst (IsFrom file) (sym is) from)) ];
}

one_more : (folder : List (List ℕ)) (file name : List ℕ) (names : List (List ℕ)) → IsFrom file name
    → AreBeside folder file names → AreBeside (folder ++ name ∷ []) file (name ∷ names)
one_more folder file name names begins it = record {
  from = (begins, it.from);
  there = (Contains-push folder name, still_there folder name names it.there);
  all = λ other there from. elim (Contains-push_cases folder name other there) [
    | inl before ↦ later name names other (it.all other before from)
    | inr is ↦ subst (Contains (name ∷ names)) is (first name names)
  ];
}

module _ {S : Type 0} (Removes : List ℕ → S → S → Type 0) where
  pub removed_more : (name file : List ℕ) (a b c : S)
      → RemovesBeside Removes file a b → RemovesIfBeside Removes name file b c → RemovesBeside Removes file a c
  removed_more name file a b c it (inl same) = subst (RemovesBeside Removes file a) (sym same.1) it
  removed_more name file a b c it (inr removed) =
      (name ∷ it.0, (removed.0, it.1), (b, it.2, removed.1))

  -- all of them are such files
  pub some_of_all : (folder : List (List ℕ)) (file : List ℕ) (a b : S)
      → RemovesAllBeside Removes folder file a b → RemovesBeside Removes file a b
  some_of_all folder file a b it = (it.0, it.1.from, it.2)

  all_more : (folder : List (List ℕ)) (name file : List ℕ) (a b c : S)
      → RemovesAllBeside Removes folder file a b → RemovesIfBeside Removes name file b c
      → RemovesAllBeside Removes (folder ++ name ∷ []) file a c
  all_more folder name file a b c it (inl same) =
      subst (RemovesAllBeside Removes (folder ++ name ∷ []) file a) (sym same.1)
      (it.0, none_more folder file name it.0 same.0 it.1, it.2)
  all_more folder name file a b c it (inr removed) =
      (name ∷ it.0, one_more folder file name it.0 removed.0 it.1, (b, it.2, removed.1))

  -- a loop over the names of a folder
  pub loop_more : {X : Type 0} (f : X → List ℕ) (names : List X) (i : ℕ) (d : X) (file : List ℕ) (a b c : S)
      → i < length names → RemovesAllBeside Removes (map f (take i names)) file a b
      → RemovesIfBeside Removes (f (get_or names i d)) file b c
      → RemovesAllBeside Removes (map f (take (i + 1) names)) file a c
  loop_more f names i d file a b c within it next =
      subst (λ folder. RemovesAllBeside Removes folder file a c) (sym (map_more f names i d within))
      (all_more (map f (take i names)) (f (get_or names i d)) file a b c it next)
