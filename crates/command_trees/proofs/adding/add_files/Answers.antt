-- One more file was added or passed over, or the files before it were.
use Rattle.std.proofs.Common.{◌++◌, ◌∷◌, [], arith, refl}
use Rattle.command_trees.proofs.Added.{added_all, added_next, stopped_at}
use Rattle.command_trees.proofs.adding.add_files.Goals as goal

pub loop-file-init : goal.loop-file-init
loop-file-init g c = record { so_far = ([], refl, (refl, refl)); all = refl }

pub loop-file-preserved : goal.loop-file-preserved
loop-file-preserved g c =
    let so_far = c.loop-file.invariant.so_far in
    record {
      so_far = (
        so_far.0 ++ c.in-Ok.is_new ∷ [],
        added_next g.S.Store g.N.Identities.gives c.args.target.now c.args.items.now g.F.Sheets.gives c.args.files.now
            c.loop-file.file-index _ so_far.0
            (record { world = c.args.world.now; ids = c.args.identities.now; sheets = c.args.sheets.now })
            (record { world = c.loop-file.world; ids = c.loop-file.identities; sheets = c.loop-file.sheets })
            (record { world = c.add_file.new.world; ids = c.add_file.new.identities; sheets = c.add_file.new.sheets })
            c.in-Ok.is_new c.loop-file-test.true so_far.1 c.in-Ok.ensures,
        c.count_file-counts.ensures.each so_far.0 so_far.2,
      );
      all = omega (arith, c.count_file-counts.ensures.one);
    }

pub returns : goal.returns
returns g c =
    let so_far = c.loop-file.invariant.so_far in (
      so_far.0,
      added_all g.S.Store g.N.Identities.gives c.args.target.now c.args.items.now g.F.Sheets.gives c.args.files.now
          c.loop-file.file-index so_far.0
          (record { world = c.args.world.now; ids = c.args.identities.now; sheets = c.args.sheets.now })
          (record { world = c.loop-file.world; ids = c.loop-file.identities; sheets = c.loop-file.sheets })
          c.loop-file-test.false so_far.1,
      so_far.2,
    )

pub returns-in-Err : goal.returns-in-Err
returns-in-Err g c =
    let so_far = c.loop-file.invariant.so_far in
    stopped_at g.S.Store g.N.Identities.gives c.args.target.now c.args.items.now g.F.Sheets.gives c.args.files.now
    c.loop-file.file-index _ so_far.0 c.loop-file.counts
    (record { world = c.args.world.now; ids = c.args.identities.now; sheets = c.args.sheets.now })
    (record { world = c.loop-file.world; ids = c.loop-file.identities; sheets = c.loop-file.sheets })
    (record { world = c.add_file.new.world; ids = c.add_file.new.identities; sheets = c.add_file.new.sheets })
    c.in-Err.fault
    c.loop-file-test.true so_far.1 so_far.2 c.in-Err.ensures
