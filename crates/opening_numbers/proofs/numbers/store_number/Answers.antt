-- The store lives.
use Rattle.std.proofs.Common.{subst}
use Rattle.opening_numbers.specs.Numbers.{Among, IsLast, IsOfAddition, IsOfStore}
use Rattle.opening_numbers.proofs.Lasting.{last_same}
use Rattle.opening_numbers.proofs.numbers.store_number.Goals as goal

pub returns : goal.returns
returns c =
    last_same (Among (IsOfAddition c.args.id) c.args.sight.now.claims.items)
    (IsOfStore c.args.id c.args.is_live c.args.sight.now) (λ m h. (c.if-not-is_live.false, h)) (λ m h. h.1)
    c.last_addition_in.result
    (subst (λ claims. IsLast (Among (IsOfAddition c.args.id) claims) c.last_addition_in.result)
    c.as_slice.ensures.value c.last_addition_in.ensures)
