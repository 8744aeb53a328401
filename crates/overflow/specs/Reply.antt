-- Document 02, M-105: the calls' answers as C has them. A refusal has zeros in every other field; document 01: "A refusal returns only its number".
use Rattle.std.specs.Prelude.{ℕ, Result, Ok, Err}
use Rattle.refusal.specs.declared.Refusal.{Refusal}
use Rattle.refusal.specs.Refusal.{accepted}
use Rattle.refusal.specs.Numbers.{number}
use Rattle.bit_ops.specs.Steps.{zeros}
use Rattle.overflow.specs.declared.PageCount.{PageCount}
use Rattle.overflow.specs.declared.Encoded.{Encoded}
use Rattle.overflow.specs.declared.LeafPageCount.{LeafPageCount}
use Rattle.overflow.specs.declared.LeafSplit.{LeafSplit}
use Rattle.overflow.specs.declared.LeafJoined.{LeafJoined}
use Rattle.overflow.specs.declared.LeafFreed.{LeafFreed}
use Rattle.overflow.specs.Outcome.{most_cell}

-- how many pages a splitting writes
abbrev pub pages_out : Result PageCount Refusal → LeafPageCount
pages_out (Ok pages) = record { refusal = accepted; pages = pages.0 }
pages_out (Err refusal) = record { refusal = number refusal; pages = 0 }

-- the cell and how many pages were written
abbrev pub split_out : Result Encoded Refusal → LeafSplit
split_out (Ok e) = record { refusal = accepted; cell = e.cell; cell_len = e.cell_len; pages = e.pages.0 }
split_out (Err refusal) = record { refusal = number refusal; cell = zeros most_cell; cell_len = 0; pages = 0 }

-- the value's length
abbrev pub joined_out : Result ℕ Refusal → LeafJoined
joined_out (Ok len) = record { refusal = accepted; len = len }
joined_out (Err refusal) = record { refusal = number refusal; len = 0 }

-- how many numbers are free again
abbrev pub freed_out : Result ℕ Refusal → LeafFreed
freed_out (Ok numbers) = record { refusal = accepted; numbers = numbers }
freed_out (Err refusal) = record { refusal = number refusal; numbers = 0 }
