-- A sort changes the order alone, and then those that are alike stand side by side. The packages are those of the
-- names.
use Rattle.std.proofs.Common.{All, ◌∙◌, ap, map, subst, sym, ℕ, List, Bor}
use Rattle.std.specs.Prelude.{Contains, string_bytes}
use Rattle.std.specs.Cmp.Lexicographic.{texts_ties}
use Rattle.std.specs.List.{dedup}
use Rattle.std.specs.List.Sorted.{IsStrictlySortedBy}
use Rattle.std.specs.String.{string_cmp, string_cmp_total, string_eq}
use Rattle.std.proofs.lemmas.List.Elements.{All-same}
use Rattle.std.proofs.lemmas.List.Filters.{All-dedup, dedup_is}
use Rattle.std.proofs.lemmas.List.Kept.{IsStrictlySortedBy-dedup}
use Rattle.std.proofs.lemmas.List.Sorted.{All-permutation}
use Rattle.store_folder.specs.Leftovers.{IsLeftoverIn, Tells}
use Rattle.store_folder.specs.Names.{names_in}
use Rattle.store_folder.proofs.Beside.{all_left, tells_once, tells_permuted, told_of}
use Rattle.store_folder.proofs.leftovers.leftovers_in.Goals as goal

pub returns-clause-left : goal.returns-clause-left
returns-clause-left c =
    let texts = c.in_ok-texts.texts.items in
    let sorted = c.sort_unstable.new.self.items in
    let there = subst (λ names. All (λ text. Contains names (string_bytes text)) texts)
    (ap (map (λ (name : Bor (List ℕ)). name.now)) c.as_slice.ensures.value ∙ c.in_ok-names.ensures)
    c.in_ok-texts.ensures.there in
    let left = rw c.deref.ensures.value at c.in_ok-texts.ensures.left in
    All-same (λ text. IsLeftoverIn (names_in c.args.bytes.now) (string_bytes text)) c.dedup.new.self.items
    (dedup string_eq sorted) (dedup_is string_eq sorted c.dedup.new.self.items c.dedup.ensures.filtered)
    (All-dedup string_eq (λ text. IsLeftoverIn (names_in c.args.bytes.now) (string_bytes text)) sorted
    (All-permutation (λ text. IsLeftoverIn (names_in c.args.bytes.now) (string_bytes text)) texts sorted
    c.sort_unstable.ensures.permutation
    (all_left (names_in c.args.bytes.now) c.in_ok-listing.listing.packages.items texts
    c.in_ok-listing.ensures.packages there left)))

pub returns-clause-all : goal.returns-clause-all
returns-clause-all c = λ name told.
    let texts = c.in_ok-texts.texts.items in
    let sorted = c.sort_unstable.new.self.items in
    let there = subst (λ names. Contains names name)
    (sym (ap (map (λ (name : Bor (List ℕ)). name.now)) c.as_slice.ensures.value ∙ c.in_ok-names.ensures))
    told.there in
    let all = rw c.deref.ensures.value at c.in_ok-texts.ensures.all in
    subst (λ found. Tells found name)
    (sym (dedup_is string_eq sorted c.dedup.new.self.items c.dedup.ensures.filtered))
    (tells_once sorted name (tells_permuted texts sorted name c.sort_unstable.ensures.permutation
    (all name there (told_of (names_in c.args.bytes.now) c.in_ok-listing.listing.packages.items name
    c.in_ok-listing.ensures.packages told))))

pub returns-clause-rising : goal.returns-clause-rising
returns-clause-rising c =
    let sorted = c.sort_unstable.new.self.items in
    subst (IsStrictlySortedBy string_cmp)
    (sym (dedup_is string_eq sorted c.dedup.new.self.items c.dedup.ensures.filtered))
    (IsStrictlySortedBy-dedup string_cmp_total (λ x y. texts_ties (string_bytes x) (string_bytes y)) sorted
    c.sort_unstable.ensures.sorted)
