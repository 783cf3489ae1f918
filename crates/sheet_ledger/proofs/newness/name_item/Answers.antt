-- An item is put in.
use Rattle.std.proofs.Common.{◌≡◌, ◌∙◌, sym, ap, true, ◌&&◌, ◌||◌, bytes_eq}
use Rattle.std.specs.Ordering.{nat_cmp}
use Rattle.std.specs.Cmp.Lexicographic.{slice_cmp}
use Rattle.std.specs.BTreeSet.{contains}
use Rattle.sheet_types.specs.World.{is_item_kind}
use Rattle.sheet_ledger.proofs.Sets.{put_in}
use Rattle.sheet_ledger.proofs.newness.name_item.Goals as goal

pub returns : goal.returns
returns c = λ id.
    let item : is_item_kind c.args.moved.now.kind ≡ true = sym c.is_item_kind.ensures
    ∙ c.if-not-is_item_kind.false in
    put_in c.args.named.now c.insert.new.self c.args.moved.now.base c.in_ok-insert.ensures.updates id
    ∙ ap (λ v. contains (slice_cmp nat_cmp) c.args.named.now id || (v && bytes_eq c.args.moved.now.base id))
    (sym item)
