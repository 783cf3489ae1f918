-- What a test of two texts has told.
use Rattle.std.proofs.Common.{◌≡◌, ◌∙◌, ◌∷◌, [], rules, sym}
use Rattle.std.specs.Cmp.Lexicographic.{other_text, same_text}
use Rattle.desk_asking.proofs.heads.is_blank.Goals as goal

pub returns-clause-yes : goal.returns-clause-yes
returns-clause-yes c = λ is.
    let blank : c.as_slice.result.now ≡ 13 ∷ [] = search rules in
    same_text _ _ (sym is ∙ c.eq.ensures) ∙ blank

pub returns-clause-no : goal.returns-clause-no
returns-clause-no c = λ is same.
    let blank : c.as_slice.result.now ≡ 13 ∷ [] = search rules in
    other_text _ _ (sym is ∙ c.eq.ensures) (same ∙ sym blank)
