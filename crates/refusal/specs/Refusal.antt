-- Document 01, "Refusals by number": the numbers of `src/lib.rt` by name, for the definitions. Several apply: the lowest number.
use Rattle.std.specs.Prelude.{ℕ}

-- no refusal
abbrev pub accepted : ℕ
accepted = 0

-- "page isn't 4,096 bytes"
abbrev pub page_length : ℕ
page_length = 1

-- "n over 120"
abbrev pub too_many_records : ℕ
too_many_records = 2

-- "offsets not as above"
abbrev pub bad_offsets : ℕ
bad_offsets = 3

-- "page value over 1,332"
abbrev pub long_page_value : ℕ
long_page_value = 4

-- "page keys don't strictly rise"
abbrev pub keys_not_rising : ℕ
keys_not_rising = 5

-- "cutoff without base, cutoff not above separator, or base key outside them"
abbrev pub bad_bounds : ℕ
bad_bounds = 6

-- "list or store length"
abbrev pub room_length : ℕ
room_length = 7

-- "not sound"
abbrev pub unsound : ℕ
unsound = 8

-- "call not allowed in this turn"
abbrev pub out_of_turn : ℕ
out_of_turn = 9

-- "index not below n (or the pending count), or an empty or too long range"
abbrev pub no_such_index : ℕ
no_such_index = 10

-- "`separate` of equal keys"
abbrev pub equal_keys : ℕ
equal_keys = 11

-- "new value over 1,332"
abbrev pub long_value : ℕ
long_value = 12

-- "key or next separator too low"
abbrev pub key_too_low : ℕ
key_too_low = 13

-- "key at or above the cutoff"
abbrev pub key_past_cutoff : ℕ
key_past_cutoff = 14

-- "pending count would pass the list"
abbrev pub list_full : ℕ
list_full = 15

-- "pending values would pass the store"
abbrev pub store_full : ℕ
store_full = 16

-- "area or ticket buffer under what digest asks"
abbrev pub short_area : ℕ
short_area = 17

-- ---- document 02

-- M-101: "one that starts above zero or is too long"
abbrev pub long_row : ℕ
long_row = 18

-- M-104: "an unflagged record of that tree with another kind, a wrong length or a factor not from 1 to 32"; M-106: "a kind 4 or 5 weight above the limit"
abbrev pub bad_weight : ℕ
bad_weight = 19

-- M-104: "a tree without exactly one sprue and one factor"
abbrev pub odd_tree : ℕ
odd_tree = 20

-- M-105: "an empty value or one over 1,048,576 bytes"
abbrev pub overflow_length : ℕ
overflow_length = 21

-- M-105: "a number list, value buffer or page area that is too short"
abbrev pub short_buffer : ℕ
short_buffer = 22

-- M-105: "a cell (before 22), or a cell with its pages, that no splitting writes"
abbrev pub bad_overflow : ℕ
bad_overflow = 23

-- M-106: "a tree whose total passes 2 to the 40th"
abbrev pub heavy_tree : ℕ
heavy_tree = 24
