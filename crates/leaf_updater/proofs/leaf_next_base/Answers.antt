-- `leaf_updater::leaf_next_base` meets its contract.
use Rattle.std.proofs.Common.{◌∙◌}
use Rattle.leaf_updater.proofs.Options.{next_base_by_its_flag}
use Rattle.leaf_updater.proofs.leaf_next_base.Goals as goal

pub returns : goal.returns
returns c =
    let args = c.args in
    let same = next_base_by_its_flag _ _ _ c.key_if.ensures args.work.now args.list.now args.store.now args.page.now args.separator.now in
    let next = rw same at c.next_base-next.ensures in
    let kept = c.settle.ensures in
    (kept.0 ∙ next.0, kept.1 ∙ next.1)
