-- `leaf_updater::leaf_open` meets its contract.
use Rattle.std.proofs.Common.{◌∙◌}
use Rattle.leaf_work.specs.Tests.{is_set}
use Rattle.leaf_open.specs.declared.Base.{Base}
use Rattle.leaf_updater.proofs.Options.{opening_by_its_flags}
use Rattle.leaf_updater.proofs.leaf_open.Goals as goal

pub returns : goal.returns
returns c =
    let args = c.args in
    let base : Base = record { page = args.page; separator = args.separator } in
    let same = opening_by_its_flags _ _ _ c.key_if.ensures (is_set args.based) base (is_set args.mode) args.work.now args.list.now args.store.now in
    let opened = rw (c.then_some-base.ensures, same) at (c.open-opened.ensures args.work.now) in
    let kept = c.settle.ensures in
    (kept.0 ∙ opened.0, kept.1 ∙ opened.1, opened.2, opened.3)
