-- A name with the extension is the text before it and the extension.
use Rattle.std.proofs.Common.{◌≡◌, ◌++◌, ap, sym, ◌∙◌, List, ℕ, Some}
use Rattle.std.proofs.lemmas.Bool.Decides.{Decides-eqb}
use Rattle.std.proofs.lemmas.List.{append_cancel_right}
use Rattle.std.proofs.lemmas.Slice.Eq.{strip_suffix_is}
use Rattle.sheet_types.specs.Texts.{uuid_text}
use Rattle.store_folder.specs.Names.{extension, file_name}
use Rattle.store_folder.proofs.NameFacts.{none_so, some_so}
use Rattle.store_folder.proofs.names.package_of.Goals as goal

-- what stands before the extension
before : (name text other : List ℕ) → name ≡ text ++ extension → name ≡ file_name other
    → text ≡ uuid_text other
before name text other is file = append_cancel_right text (uuid_text other) extension (sym is ∙ file)

pub returns-in-Some-clause-some : goal.returns-in-Some-clause-some
returns-in-Some-clause-some c =
    let is = strip_suffix_is Decides-eqb c.args.name.now c.as_slice.result.now (Some c.in-Some.text)
    c.in-Some.ensures.cases ∙ ap (λ l. c.in-Some.text.now ++ l) c.as_slice.ensures in
    some_so _ _ (λ id text. is ∙ ap (λ t. t ++ extension) text) c.uuid_of.result c.uuid_of.ensures.some

pub returns-in-Some-clause-only : goal.returns-in-Some-clause-only
returns-in-Some-clause-only c =
    let is = strip_suffix_is Decides-eqb c.args.name.now c.as_slice.result.now (Some c.in-Some.text)
    c.in-Some.ensures.cases ∙ ap (λ l. c.in-Some.text.now ++ l) c.as_slice.ensures in
    some_so _ _ (λ id only. λ other fit file. only other fit
    (before c.args.name.now c.in-Some.text.now other is file)) c.uuid_of.result c.uuid_of.ensures.only

pub returns-in-Some-clause-none : goal.returns-in-Some-clause-none
returns-in-Some-clause-none c =
    let is = strip_suffix_is Decides-eqb c.args.name.now c.as_slice.result.now (Some c.in-Some.text)
    c.in-Some.ensures.cases ∙ ap (λ l. c.in-Some.text.now ++ l) c.as_slice.ensures in
    none_so _ _ (λ none. λ other fit file. none other fit (before c.args.name.now c.in-Some.text.now other is file))
    c.uuid_of.result c.uuid_of.ensures.none
