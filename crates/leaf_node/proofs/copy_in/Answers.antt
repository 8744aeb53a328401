-- `leaf_node::copy_in` meets its contract: after j turns the first j bytes are copied.
-- Assumes nothing.
use Rattle.std.proofs.Common.{rules}
use mathlib.Core.Path.{refl}
use lib.Seq.{paste-zero}
use Rattle.leaf_node.proofs.Copying.{put_more, put_done}
use Rattle.leaf_node.proofs.copy_in.Goals as goal

pub loop-j-init : goal.loop-j-init
loop-j-init c = (search rules, paste-zero c.args.dst.now c.args.at c.args.src.now, refl)

pub loop-j-preserved : goal.loop-j-preserved
loop-j-preserved c = (search rules, search (put_more, rules), search rules)

pub returns : goal.returns
returns c = search (put_done, rules)
