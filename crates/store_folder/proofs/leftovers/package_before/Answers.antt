-- A name with this end is what stands before it and the end.
use Rattle.std.proofs.Common.{◌++◌, ap, sym, ◌∙◌, Some, None}
use Rattle.std.proofs.lemmas.Bool.Decides.{Decides-eqb}
use Rattle.std.proofs.lemmas.List.{append_cancel_right}
use Rattle.std.proofs.lemmas.Slice.Eq.{strip_suffix_is}
use Rattle.store_folder.specs.Names.{file_name}
use Rattle.store_folder.proofs.NameFacts.{file_same, none_so, some_both, some_so}
use Rattle.store_folder.proofs.leftovers.package_before.Goals as goal

pub returns-in-Some-clause-some : goal.returns-in-Some-clause-some
returns-in-Some-clause-some c =
    let is = strip_suffix_is Decides-eqb c.args.name.now c.args.end.now (Some c.in-Some.file) c.in-Some.ensures.cases in
    some_so _ _ (λ id file. is ∙ ap (λ t. t ++ c.args.end.now) file) c.package_of.result c.package_of.ensures.some

pub returns-in-Some-clause-only : goal.returns-in-Some-clause-only
returns-in-Some-clause-only c =
    let is = strip_suffix_is Decides-eqb c.args.name.now c.args.end.now (Some c.in-Some.file) c.in-Some.ensures.cases in
    some_both _ _ _ (λ id file only. λ other rest fit begins. only other fit
    (file ∙ file_same id other c.args.end.now rest (sym (is ∙ ap (λ t. t ++ c.args.end.now) file) ∙ begins)))
    c.package_of.result c.package_of.ensures.some c.package_of.ensures.only

pub returns-in-Some-clause-none : goal.returns-in-Some-clause-none
returns-in-Some-clause-none c =
    let is = strip_suffix_is Decides-eqb c.args.name.now c.args.end.now (Some c.in-Some.file) c.in-Some.ensures.cases in
    none_so _ _ (λ none. λ other fit ends. none other fit
    (append_cancel_right c.in-Some.file.now (file_name other) c.args.end.now (sym is ∙ ends)))
    c.package_of.result c.package_of.ensures.none

pub returns-in-None-clause-none : goal.returns-in-None-clause-none
returns-in-None-clause-none c = λ other fit ends.
    strip_suffix_is Decides-eqb c.args.name.now c.args.end.now None c.in-None.ensures.cases (file_name other) ends
