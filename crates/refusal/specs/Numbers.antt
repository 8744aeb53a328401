-- What a call answers, as the number that it has in the definitions.
use Rattle.std.specs.Prelude.{ℕ, Result, Ok, Err}
use Rattle.refusal.specs.declared.Refusal.{Refusal}
use Rattle.refusal.specs.declared.Refusal.TheVariants.{PageLength, TooManyRecords, BadOffsets, LongPageValue, KeysNotRising, BadBounds, RoomLength, Unsound, OutOfTurn, NoSuchIndex, EqualKeys, LongValue, KeyTooLow, KeyPastCutoff, ListFull, StoreFull, ShortArea, LongRow, BadWeight, OddTree, OverflowLength, ShortBuffer, BadOverflow, HeavyTree}
use Rattle.refusal.specs.Refusal as numbers

-- "Refusals by number"
abbrev pub number : Refusal → ℕ
number PageLength = numbers.page_length
number TooManyRecords = numbers.too_many_records
number BadOffsets = numbers.bad_offsets
number LongPageValue = numbers.long_page_value
number KeysNotRising = numbers.keys_not_rising
number BadBounds = numbers.bad_bounds
number RoomLength = numbers.room_length
number Unsound = numbers.unsound
number OutOfTurn = numbers.out_of_turn
number NoSuchIndex = numbers.no_such_index
number EqualKeys = numbers.equal_keys
number LongValue = numbers.long_value
number KeyTooLow = numbers.key_too_low
number KeyPastCutoff = numbers.key_past_cutoff
number ListFull = numbers.list_full
number StoreFull = numbers.store_full
number ShortArea = numbers.short_area
number LongRow = numbers.long_row
number BadWeight = numbers.bad_weight
number OddTree = numbers.odd_tree
number OverflowLength = numbers.overflow_length
number ShortBuffer = numbers.short_buffer
number BadOverflow = numbers.bad_overflow
number HeavyTree = numbers.heavy_tree

-- 0 where a call is accepted, whatever it answers then
abbrev pub number_of : {A : Type 0} → Result A Refusal → ℕ
number_of (Ok _) = numbers.accepted
number_of (Err refusal) = number refusal

-- the same with the answer itself
abbrev pub numbered : {A : Type 0} → Result A Refusal → Result A ℕ
numbered (Ok answer) = Ok answer
numbered (Err refusal) = Err (number refusal)
