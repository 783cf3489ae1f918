-- The parts of the text, and that there is no other way to cut it.
use Rattle.std.proofs.Common.{◌≡◌, ◌∷◌, ◌++◌, [], arith, length, subst, sym, true}
use Rattle.std.proofs.lemmas.List.{take-append-drop}
use Rattle.std.specs.Fmt.{decimal}
use Rattle.desk_asking.specs.Desks.{is_key}
use Rattle.desk_asking.proofs.Texts.{end_of_desk, line_parts}
use Rattle.desk_asking.proofs.desks.read_desk.Goals as goal

pub returns-in_default-clause-none : goal.returns-in_default-clause-none
returns-in_default-clause-none c =
    λ port key low good is. c.in_default.ensures.none ((decimal port ++ 32 ∷ []) ++ key)
    (end_of_desk c.args.text.now port key is)

pub returns-in-None-clause-none : goal.returns-in-None-clause-none
returns-in-None-clause-none c = λ port key low good is.
    let line = c.in-Some.line.now in
    let split : c.in-Some.line.now ≡ c.split_at.result.0.now ++ c.split_at.result.1.now =
    rw (c.split_at.ensures.front, c.split_at.ensures.back) (sym (take-append-drop _ line)) in
    let long : length c.split_at.result.1.now ≡ 32 = omega (
      arith,
      c.split_at.ensures.back_len,
      c.if-line-lt32.false,
    ) in
    let parts = line_parts c.args.text.now line c.split_at.result.0.now c.split_at.result.1.now port key
    c.in-Some.ensures.some split long good is in
    c.in-None.ensures.none port low (subst (λ k. is_key k ≡ true) (sym parts.1) good) parts.0
