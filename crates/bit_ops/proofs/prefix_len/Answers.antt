-- `bit_ops::prefix_len` meets its contract: 64 bits for each word that is the same, and of the next those before the highest bit of the exclusive or.
-- Assumes nothing.
use Rattle.std.proofs.Common.{rules}
use native.Mathlib.Omega.{arith}
use lib.Bits.{bit_xor}
use lib.Count.{leading_le}
use Rattle.bit_ops.proofs.Words.{word_shared}
use Rattle.bit_ops.proofs.prefix_len.Goals as goal

pub overflow_cast-result : goal.overflow_cast-result
overflow_cast-result c = omega (arith, leading_le 64 (bit_xor c.first_difference-d.result.x c.first_difference-d.result.y))

pub overflow_add-result : goal.overflow_add-result
overflow_add-result c = omega (arith, leading_le 64 (bit_xor c.first_difference-d.result.x c.first_difference-d.result.y))

pub returns : goal.returns
returns c = (search (word_shared, rules), search rules, search rules)
