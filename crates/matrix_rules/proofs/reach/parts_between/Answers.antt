use Rattle.std.proofs.Common.{arith, rules, ◌∙◌, FitsSigned, ◌+ℤ◌, ◌-ℤ◌, pos, w64}
use Rattle.std.proofs.lemmas.Int.{ints, to_z-of_z}
use Rattle.matrix_rules.proofs.Parts.{parts_named, nothing_within}
use Rattle.matrix_rules.proofs.reach.parts_between.Goals as goal

pub returns-then-first-past : goal.returns-then-first-past
returns-then-first-past c =
    let start = c.ranges.start in
    let end = c.ranges.end in
    let length = c.ranges.length in
    let sum : FitsSigned w64 (c.args.start +ℤ c.args.length) = omega (arith, ints) in
    let top : FitsSigned w64 ((c.args.start +ℤ c.args.length) -ℤ pos 1) = omega (arith, ints) in
    let first : FitsSigned w64 c.whole_parts-first.result = search rules in
    let past : FitsSigned w64 c.whole_parts-past.result = search rules in
    let last : FitsSigned w64 (c.whole_parts-past.result -ℤ pos 1) =
    omega (arith, ints, c.whole_parts-past.ensures.range) in
    let below = simp to_z-of_z at c.if-first-past.true in
    simp to_z-of_z (
      omega (arith, ints, below),
      parts_named c.args.start c.args.end c.args.length
          c.whole_parts-first.result c.whole_parts-past.result c.requires.start.0 c.requires.end.0 c.requires.length.0
          (simp to_z-of_z at c.whole_parts-first.ensures.parts) (simp to_z-of_z at c.whole_parts-past.ensures.parts),
    )

pub returns-else-first-past : goal.returns-else-first-past
returns-else-first-past c =
    let start = c.ranges.start in
    let end = c.ranges.end in
    let length = c.ranges.length in
    let sum : FitsSigned w64 (c.args.start +ℤ c.args.length) = omega (arith, ints) in
    let top : FitsSigned w64 ((c.args.start +ℤ c.args.length) -ℤ pos 1) = omega (arith, ints) in
    let first : FitsSigned w64 c.whole_parts-first.result = search rules in
    let past : FitsSigned w64 c.whole_parts-past.result = search rules in
    let above = simp to_z-of_z at c.if-first-past.false in
    λ part. parts_named c.args.start c.args.end c.args.length c.whole_parts-first.result c.whole_parts-past.result
    c.requires.start.0 c.requires.end.0 c.requires.length.0 (simp to_z-of_z at c.whole_parts-first.ensures.parts)
    (simp to_z-of_z at c.whole_parts-past.ensures.parts) part
    ∙ nothing_within _ _ part (omega (arith, ints, above))
