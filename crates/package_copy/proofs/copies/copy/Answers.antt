use Rattle.package_tables.specs.Creation.{head_of}
use Rattle.package_copy.proofs.Copying.{is_copy}
use Rattle.package_copy.proofs.Reopening.{clean}
use Rattle.package_copy.proofs.copies.copy.Goals as goal

pub returns-clause-copied : goal.returns-clause-copied
returns-clause-copied c =
    let i = c.args.info.now in
    let made = c.in_ok-create.ensures.made (λ _. c.in_ok-blank.ensures.blank) clean in
    let done = (rw c.into_connection-conn.ensures at c.in_ok-fill.ensures.turns).done clean in
    is_copy c.args.frame.now (head_of i.package i.parent i.depth i.loan i.created.now) c.args.rows.now _ _ _ made.0
    done.0 c.in_ok-package.ensures.same c.in_ok-package.ensures.keyed

pub reopen-requires : goal.reopen-requires
reopen-requires c = (c.in_ok-fill.ensures.turns.done clean).1
