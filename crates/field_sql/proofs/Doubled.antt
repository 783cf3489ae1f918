-- A text with each mark twice, part after part, and read again.
use Rattle.std.specs.Prelude.{◌≡◌, ◌≢◌, ◌<◌, ℕ, suc, true, false, cond, ◌==◌, List, []}
use Rattle.std.specs.Prelude.{◌∷◌, ◌++◌, length, None, Some, refl}
use Rattle.std.proofs.Common.{ap, append_assoc, arith, get_or, sym, ◌∙◌}
use Rattle.std.proofs.lemmas.Bool.{eq-eqb, ne_eqb}
use Rattle.field_sql.specs.Naming.{begins_with, doubled, quotation, read_name, read_quotation, with_first}

-- ---- part after part

abbrev pub Lacks : ℕ → List ℕ → Type 0
Lacks mark bs = (i : ℕ) → i < length bs → get_or bs i 0 ≢ mark

lacks_more : (mark b : ℕ) (bs : List ℕ) → Lacks mark (b ∷ bs) → Lacks mark bs
lacks_more mark b bs lacks i lt = lacks (suc i) (omega (arith, lt))

pub doubled_past : (mark : ℕ) (part more : List ℕ) → Lacks mark part
    → doubled mark (part ++ (mark ∷ more)) ≡ part ++ (mark ∷ mark ∷ doubled mark more)
doubled_past mark [] more lacks =
    ap (λ v. cond v (mark ∷ mark ∷ doubled mark more) (mark ∷ doubled mark more)) (eq-eqb mark mark refl)
doubled_past mark (b ∷ part) more lacks =
    ap (λ v. cond v (b ∷ b ∷ doubled mark (part ++ (mark ∷ more)))
    (b ∷ doubled mark (part ++ (mark ∷ more)))) (ne_eqb b mark (lacks 0 (omega arith)))
    ∙ ap (λ t. b ∷ t) (doubled_past mark part more (lacks_more mark b part lacks))

pub doubled_none : (mark : ℕ) (bs : List ℕ) → Lacks mark bs → doubled mark bs ≡ bs
doubled_none mark [] lacks = refl
doubled_none mark (b ∷ bs) lacks =
    ap (λ v. cond v (b ∷ b ∷ doubled mark bs) (b ∷ doubled mark bs)) (ne_eqb b mark (lacks 0 (omega arith)))
    ∙ ap (λ t. b ∷ t) (doubled_none mark bs (lacks_more mark b bs lacks))

-- a part, and a pair for the mark behind it
pub part_put : (mark : ℕ) (text put both pair rest part more : List ℕ) → put ≡ text ++ part
    → both ≡ put ++ pair → pair ≡ mark ∷ mark ∷ []
    → rest ≡ part ++ (mark ∷ more) → Lacks mark part → both ++ doubled mark more ≡ text ++ doubled mark rest
part_put mark text put both pair rest part more first second is cut lacks =
    ap (λ t. t ++ doubled mark more) (second ∙ ap (λ t. put ++ t) is
    ∙ ap (λ t. t ++ (mark ∷ mark ∷ [])) first)
    ∙ append_assoc (text ++ part) (mark ∷ mark ∷ []) (doubled mark more)
    ∙ append_assoc text part (mark ∷ mark ∷ doubled mark more)
    ∙ ap (λ t. text ++ t) (sym (doubled_past mark part more lacks) ∙ ap (doubled mark) (sym cut))

-- ---- read again

behind : (mark : ℕ) (rest : List ℕ) → begins_with mark rest ≡ false
    → read_name mark true rest ≡ Some ([], rest)
behind mark [] apart = refl
behind mark (b ∷ rest) apart = ap (λ v. cond v (with_first b (read_name mark false rest)) (Some ([], b ∷ rest)))
    apart

name_read : (mark : ℕ) (name rest : List ℕ) → begins_with mark rest ≡ false
    → read_name mark false ((doubled mark name ++ mark ∷ []) ++ rest) ≡ Some (name, rest)
name_read mark [] rest apart =
    ap (λ v. cond v (read_name mark true rest) (with_first mark (read_name mark false rest))) (eq-eqb mark mark refl)
    ∙ behind mark rest apart
name_read mark (b ∷ name) rest apart =
    let more = (doubled mark name ++ mark ∷ []) ++ rest in
    let read = ap (with_first b) (name_read mark name rest apart) in
    elim (b == mark) as (λ v. (b == mark) ≡ v → read_name mark false
    ((cond v (b ∷ b ∷ doubled mark name) (b ∷ doubled mark name) ++ mark ∷ []) ++ rest)
    ≡ Some (b ∷ name, rest)) [
      | true ↦ λ e. ap (λ v. cond v (read_name mark true (b ∷ more))
          (with_first b (read_name mark false (b ∷ more)))) e
          ∙ ap (λ v. cond v (with_first b (read_name mark false more)) (Some ([], b ∷ more))) e ∙ read
      | false ↦ λ e. ap (λ v. cond v (read_name mark true more) (with_first b (read_name mark false more))) e
          ∙ read
    ] refl

pub quotation_read : (mark : ℕ) (name rest : List ℕ) → begins_with mark rest ≡ false
    → read_quotation mark (quotation mark name ++ rest) ≡ Some (name, rest)
quotation_read mark name rest apart =
    ap (λ v. cond v (read_name mark false ((doubled mark name ++ mark ∷ []) ++ rest)) None) (eq-eqb mark mark refl)
    ∙ name_read mark name rest apart
