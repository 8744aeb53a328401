-- `bit_ops::first_difference` meets its contract. The invariant: the words before `i` are the same in both.
-- Assumes nothing.
use Rattle.std.proofs.Common.{rules, ◌≡◌}
use native.Mathlib.Omega.{arith}
use Rattle.bit_ops.specs.Key.{Key}
use Rattle.bit_ops.proofs.Words.{word_shared_too, word_differs, last_word}
use Rattle.bit_ops.proofs.first_difference.Goals as goal

pub returns-then-x-y : goal.returns-then-x-y
returns-then-x-y c =
    let a = c.args.a.now in
    let b = c.args.b.now in
    let ha : Key a = record { size = c.told-a; bytes = c.fits-a } in
    let hb : Key b = record { size = c.told-b; bytes = c.fits-b } in
    word_differs a b ha hb c.loop-i.i c.loop-i.invariant.1 c.word_at-x.result c.word_at-y.result c.word_at-x.ensures c.word_at-y.ensures (search rules) c.if-x-y.true

pub loop-i-preserved : goal.loop-i-preserved
loop-i-preserved c =
    let a = c.args.a.now in
    let b = c.args.b.now in
    let ha : Key a = record { size = c.told-a; bytes = c.fits-a } in
    let hb : Key b = record { size = c.told-b; bytes = c.fits-b } in
    (search rules, word_shared_too a b ha hb c.loop-i.i c.loop-i.invariant.1 c.word_at-x.result c.word_at-y.result c.word_at-x.ensures c.word_at-y.ensures (search rules) c.if-x-y.false)

pub returns : goal.returns
returns c =
    let a = c.args.a.now in
    let b = c.args.b.now in
    let ha : Key a = record { size = c.told-a; bytes = c.fits-a } in
    let hb : Key b = record { size = c.told-b; bytes = c.fits-b } in
    let e : c.loop-i.i ≡ 3 = omega arith in
    last_word a b ha hb 3 (rw e at c.loop-i.invariant.1) c.word_at.result c.word_at-2.result c.word_at.ensures c.word_at-2.ensures (search rules) (search rules)
