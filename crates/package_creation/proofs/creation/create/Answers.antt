use Rattle.package_tables.specs.Creation.{head_of}
use Rattle.identity_register.proofs.NewPackage.{new_keeps, new_dated}
use Rattle.sqlite.specs.Held.{state}
use Rattle.package_creation.proofs.Unmakes.{unmade_by}
use Rattle.package_creation.proofs.creation.create.Goals as goal

pub returns-in-Ok-clause-made : goal.returns-in-Ok-clause-made
returns-in-Ok-clause-made g c moment blank =
    let f = c.args.frame.now in
    let i = c.args.info.now in
    rw c.into_connection.ensures (λ clean. let made = c.in-Ok.ensures.made blank clean in new_keeps f i.package
    i.parent i.depth i.loan i.created.now c.requires.frame moment c.fits.ensures c.fits_if_there.ensures _ made.0
    made.1)

pub returns-in-Ok-clause-dated : goal.returns-in-Ok-clause-dated
returns-in-Ok-clause-dated g c blank =
    let i = c.args.info.now in
    rw c.into_connection.ensures (λ clean. new_dated c.args.frame.now
    (head_of i.package i.parent i.depth i.loan i.created.now) _ (c.in-Ok.ensures.made blank clean).0)

pub returns-in-Ok-clause-clean : goal.returns-in-Ok-clause-clean
returns-in-Ok-clause-clean g c = rw c.into_connection.ensures c.in-Ok.ensures.clean

pub returns-in-Err-clause-failed : goal.returns-in-Err-clause-failed
returns-in-Err-clause-failed g c =
    let i = c.args.info.now in
    unmade_by c.args.frame.now i.package i.parent i.depth i.loan i.created.now c.requires.frame c.fits.ensures
    c.fits_if_there.ensures c.in-Err.unmade.why (state g.S.Store c.args.conn)
    (state g.S.Store c.in-Err.unmade.conn) c.in-Err.ensures.failed
