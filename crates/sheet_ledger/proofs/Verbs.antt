-- A line of another verb is not that of a command.
use Rattle.std.proofs.Common.{◌≡◌, ◌∙◌, ℕ, List, ◌∷◌, ◌++◌, Bool, true, false, Option, Some}
use Rattle.std.proofs.Common.{None, refl, sym}
use Rattle.std.specs.Prelude.{codes}
use Rattle.std.specs.Option.{option_map_or}
use Rattle.sheet_types.specs.Lines.{entry_from, is_adding, is_splitting, is_merging}
use Rattle.sheet_types.specs.Texts.{Entry, Adds, Deletes, Links, Unlinks, Splits, Merges}
use Rattle.sheet_types.proofs.LineReading.{line-entry_from}
use Rattle.sheet_ledger.specs.Slots.{Lacks}
use Rattle.sheet_types.proofs.Commas.{cut_once}
use Rattle.sheet_ledger.proofs.Slots.{verb_of, verb_lacks, verbed}

-- what stands first in a text, whatever it is
abbrev pub StandsFirst : List ℕ → List ℕ → Type 0
StandsFirst text verb = (word rest : List ℕ) → Lacks 32 word → text ≡ word ++ (32 ∷ rest) → verb ≡ word

-- that is the part before a space, where this has none
pub first_is : (text front rest : List ℕ) → text ≡ front ++ (32 ∷ rest) → Lacks 32 front
    → StandsFirst text front
first_is text front rest is clean word more lacks same = (cut_once 32 front word rest more clean lacks
    (sym is ∙ same)).0

-- the line of an entry begins with its verb
first_of : (text verb : List ℕ) → StandsFirst text verb → (e : Entry) → entry_from text ≡ Some e
    → verb ≡ verb_of e
first_of text verb first e h =
    let it = line-entry_from text e h in
    let v = verbed e it.0 in
    first (verb_of e) v.rest (verb_lacks e) (it.1 ∙ v.line)

other_verb : (test : Entry → Bool) (word : List ℕ) → ((e : Entry) → test e ≡ true → verb_of e ≡ word)
    → (text verb : List ℕ) → StandsFirst text verb → (verb ≡ word → ⊥)
    → false ≡ option_map_or test (entry_from text) false
other_verb test word only text verb first other = by (entry_from text) refl
  where
    by : (o : Option Entry) → entry_from text ≡ o → false ≡ option_map_or test o false
    by None h = refl
    by (Some e) h = elim (test e) as (λ b. test e ≡ b → false ≡ b)
        [ true ↦ λ q. absurd (other (first_of text verb first e h ∙ only e q)) | false ↦ λ q. refl ] refl

pub no_add : (text verb : List ℕ) → StandsFirst text verb → (verb ≡ codes "add" → ⊥)
    → false ≡ option_map_or is_adding (entry_from text) false
no_add = other_verb is_adding (codes "add") only
  where
    only : (e : Entry) → is_adding e ≡ true → verb_of e ≡ codes "add"
    only (Adds p identity kind size digest) h = refl
    only (Deletes p identity) h = cc
    only (Links p mapping base other) h = cc
    only (Unlinks p mapping base other) h = cc
    only (Splits p child mode rect) h = cc
    only (Merges child into ticket) h = cc

pub no_split : (text verb : List ℕ) → StandsFirst text verb → (verb ≡ codes "split" → ⊥)
    → false ≡ option_map_or is_splitting (entry_from text) false
no_split = other_verb is_splitting (codes "split") only
  where
    only : (e : Entry) → is_splitting e ≡ true → verb_of e ≡ codes "split"
    only (Adds p identity kind size digest) h = cc
    only (Deletes p identity) h = cc
    only (Links p mapping base other) h = cc
    only (Unlinks p mapping base other) h = cc
    only (Splits p child mode rect) h = refl
    only (Merges child into ticket) h = cc

pub no_merge : (text verb : List ℕ) → StandsFirst text verb → (verb ≡ codes "merge" → ⊥)
    → false ≡ option_map_or is_merging (entry_from text) false
no_merge = other_verb is_merging (codes "merge") only
  where
    only : (e : Entry) → is_merging e ≡ true → verb_of e ≡ codes "merge"
    only (Adds p identity kind size digest) h = cc
    only (Deletes p identity) h = cc
    only (Links p mapping base other) h = cc
    only (Unlinks p mapping base other) h = cc
    only (Splits p child mode rect) h = cc
    only (Merges child into ticket) h = refl
