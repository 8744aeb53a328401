-- `bit_ops::separate` meets its contract: what it writes is b, cut after the bit at which the keys first differ.
-- Assumes nothing.
use mathlib.Core.Path.{◌∙◌}
use native.Mathlib.Omega.{arith}
use Rattle.bit_ops.proofs.Separators.{refused, made}
use Rattle.bit_ops.proofs.separate.Goals as goal

pub returns-then-shared-ge256 : goal.returns-then-shared-ge256
returns-then-shared-ge256 c =
    let known = c.prefix_len-shared.ensures in let p = refused c.args.a.now c.args.b.now c.args.out.now c.prefix_len-shared.result known.0 known.1 known.2 c.if-shared-ge256.true in record { value = p.0; out_after = p.1 }

pub returns : goal.returns
returns c =
    let known = c.prefix_len-shared.ensures in
    let cut = made c.args.a.now c.args.b.now c.args.out.now c.prefix_len-shared.result known.0 known.1 known.2 (omega arith) in record { value = cut.0; out_after = c.cut_after.ensures ∙ cut.1 }
