-- The questions, and one answer more by which the store was open all along.
use Rattle.std.proofs.Common.{pos}
use Rattle.std.specs.Prelude.{◌&&◌}
use Rattle.std.specs.Ordering.{int_eq}
use Rattle.package_tables.specs.Calls.{IsOneOf}
use Rattle.store_sql.proofs.Staying.{looks_stays, stays_then}
use Rattle.identity_register.proofs.Looking.{fails}
use Rattle.identity_register.proofs.Reaching.{stays_itself}
use Rattle.cut.specs.Taken.{IsCutOf}
use Rattle.cut.proofs.Asking.{asked, stayed}
use Rattle.cut.proofs.OfStores.{asked_stays, asked_sees}
use Rattle.cut.proofs.select.select.Goals as goal

pub returns-in_err-answer-clause-stays : goal.returns-in_err-answer-clause-stays
returns-in_err-answer-clause-stays g c =
    asked_stays g.S.Store (stays_itself g.S.Store g.met.S.Store.shut_if_dirty g.met.S.Store.settled c.args.conn.now
    c.requires.rests) (stayed c.select_over.ensures)

pub returns-in_err-answer-clause-selected : goal.returns-in_err-answer-clause-selected
returns-in_err-answer-clause-selected g c = fails c.from_residual.result c.from_residual.ensures.0
    (asked_stays g.S.Store (stays_itself g.S.Store g.met.S.Store.shut_if_dirty g.met.S.Store.settled c.args.conn.now
    c.requires.rests) (stayed c.select_over.ensures))

pub returns-in_err-identity_by_key-clause-stays : goal.returns-in_err-identity_by_key-clause-stays
returns-in_err-identity_by_key-clause-stays g c =
    stays_then (asked_stays g.S.Store (stays_itself g.S.Store g.met.S.Store.shut_if_dirty g.met.S.Store.settled
    c.args.conn.now c.requires.rests) (stayed c.select_over.ensures)) (looks_stays c.identity_by_key.ensures)

pub returns-in_err-identity_by_key-clause-selected : goal.returns-in_err-identity_by_key-clause-selected
returns-in_err-identity_by_key-clause-selected g c = fails c.from_residual-in_err-identity_by_key.result
    c.from_residual-in_err-identity_by_key.ensures.0
    (stays_then (asked_stays g.S.Store (stays_itself g.S.Store g.met.S.Store.shut_if_dirty g.met.S.Store.settled
    c.args.conn.now c.requires.rests) (stayed c.select_over.ensures)) (looks_stays c.identity_by_key.ensures))

pub returns-clause-stays : goal.returns-clause-stays
returns-clause-stays g c =
    stays_then (asked_stays g.S.Store (stays_itself g.S.Store g.met.S.Store.shut_if_dirty g.met.S.Store.settled
    c.args.conn.now c.requires.rests) (stayed c.select_over.ensures)) (looks_stays c.identity_by_key.ensures)

pub returns-clause-selected : goal.returns-clause-selected
returns-clause-selected g c =
    asked_sees g.S.Store (IsCutOf c.args.frame.now c.args.mode c.args.rect.now)
    (λ t. IsOneOf (λ x. int_eq x.kind (pos 1) && int_eq x.local_id (pos 0)) t.identities)
    c.identity_by_key.new.conn (stays_itself g.S.Store g.met.S.Store.shut_if_dirty g.met.S.Store.settled
    c.args.conn.now c.requires.rests)
    (asked (IsCutOf c.args.frame.now c.args.mode c.args.rect.now) c.in_ok-answer.was c.select_over.ensures)
    c.in_ok-identity_by_key.was c.identity_by_key.ensures

pub identity_by_key-requires : goal.identity_by_key-requires
identity_by_key-requires g c = c.select_over.ensures.again
