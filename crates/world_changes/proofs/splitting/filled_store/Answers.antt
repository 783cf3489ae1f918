-- The store is made, and then filled.
use Rattle.sqlite.specs.Held.{state}
use Rattle.sheet_types.specs.World.{Package}
use Rattle.identity_register.specs.Creation.{new_package}
use Rattle.register_lending.proofs.FillingStores.{filled_keeps}
use Rattle.world_changes.specs.Giving.{LeavesBlankOr}
use Rattle.world_changes.specs.Splits.{ReadsAsChild}
use Rattle.world_changes.proofs.Dated.{filled_dated}
use Rattle.world_changes.proofs.Turned.{if_err_of}
use Rattle.world_changes.proofs.Lent.{blank_left, unfilled_leaves, unmade_leaves}
use Rattle.world_members.proofs.Seeing.{stays_still}
use Rattle.world_changes.proofs.splitting.filled_store.Goals as goal

pub returns-then-not-is_at_rest-clause-source : goal.returns-then-not-is_at_rest-clause-source
returns-then-not-is_at_rest-clause-source g c = stays_still g.S.Store g.met.S.Store.shut_if_dirty
    g.met.S.Store.settled c.args.source.now c.requires.source

pub returns-in_err-made-clause-source : goal.returns-in_err-made-clause-source
returns-in_err-made-clause-source g c = stays_still g.S.Store g.met.S.Store.shut_if_dirty g.met.S.Store.settled
    c.args.source.now c.requires.source

pub returns-in-Ok-clause-made : goal.returns-in-Ok-clause-made
returns-in-Ok-clause-made g c clean clean_source moment c' from selected read part come =
    filled_keeps c.args.frame.now c' from (new_package c.args.info.now.«package» c.args.info.now.parent
    c.args.info.now.depth c.args.info.now.loan) c.args.selection.now c.args.info.now.created.now
    (state g.S.Store c.fill.new.source) (state g.S.Store c.args.source.now).now
    (state g.S.Store c.in_ok-made.made) (state g.S.Store c.fill.new.conn)
    moment (c.in_ok-made.ensures.made moment c.requires.blank) c.in-Ok.ensures.turns clean clean_source selected read
    part come

pub returns-in-Ok-clause-is_open : goal.returns-in-Ok-clause-is_open
returns-in-Ok-clause-is_open g c clean = (c.in-Ok.ensures.turns.done clean).1.is_open

pub returns-then-not-is_at_rest-clause-left : goal.returns-then-not-is_at_rest-clause-left
returns-then-not-is_at_rest-clause-left g c = blank_left g.S.Store _ c.args.blank c.requires.blank

pub returns-in_err-made-clause-left : goal.returns-in_err-made-clause-left
returns-in_err-made-clause-left g c =
    let empty : Package = new_package c.args.info.now.«package» c.args.info.now.parent c.args.info.now.depth
    c.args.info.now.loan in
    if_err_of (λ unmade. LeavesBlankOr g.S.Store (ReadsAsChild c.args.frame.now c.args.info.now.created.now empty
    c.args.selection.now (state g.S.Store c.args.source.now).now (state g.S.Store c.args.source.now)) unmade.conn)
    _ _ c.from_residual.ensures.1
    (unmade_leaves g.S.Store c.args.frame.now empty c.args.selection.now c.args.info.now.created.now
    (state g.S.Store c.args.source.now).now (state g.S.Store c.args.source.now) c.args.blank
    c.in_err-made.field-0.0.conn c.requires.blank c.in_err-made.ensures.failed)

pub returns-in-Err-clause-left : goal.returns-in-Err-clause-left
returns-in-Err-clause-left g c =
    let empty : Package = new_package c.args.info.now.«package» c.args.info.now.parent c.args.info.now.depth
    c.args.info.now.loan in
    unfilled_leaves g.S.Store c.args.frame.now empty c.args.selection.now c.args.info.now.created.now
    (state g.S.Store c.args.source.now).now (state g.S.Store c.fill.new.source)
    (state g.S.Store c.in_ok-made.made) c.fill.new.conn (λ moment. c.in_ok-made.ensures.made moment
    c.requires.blank) c.fill.ensures.turns

pub returns-in-Ok-clause-dated : goal.returns-in-Ok-clause-dated
returns-in-Ok-clause-dated g c clean clean_source moment c' from selected read part come =
    filled_dated c.args.frame.now c' from (new_package c.args.info.now.«package» c.args.info.now.parent
    c.args.info.now.depth c.args.info.now.loan) c.args.selection.now c.args.info.now.created.now
    (state g.S.Store c.fill.new.source) (state g.S.Store c.args.source.now).now
    (state g.S.Store c.in_ok-made.made) (state g.S.Store c.fill.new.conn)
    moment (c.in_ok-made.ensures.made moment c.requires.blank) c.in-Ok.ensures.turns clean clean_source selected read
    part come
