-- A leaf page as document 01, "The page", writes it, one definition a sentence.
use Rattle.std.specs.Prelude.{ℕ, zero, suc, ◌+◌, ◌-◌, ◌*◌, ◌%◌, Bool, cond, List, [], ◌∷◌, length, get_or, take, drop, leb, ltb}
use Rattle.leaf_node.specs.Record.{Record, total}

-- the 16-bit number at byte `at`, low byte first
unfoldable pub word : List ℕ → ℕ → ℕ
word p at = get_or p at 0 + 256 * get_or p (at + 1) 0

-- "Bytes 0 and 1: the count n, low byte first."
unfoldable pub count : List ℕ → ℕ
count p = word p 0

-- "Then n pointers of 34 bytes": where pointer i begins. Pointer n would begin where the pointers end.
abbrev pub pointer : ℕ → ℕ
pointer i = 34 * i + 2

-- "a 32-byte key"
unfoldable pub key_at : List ℕ → ℕ → List ℕ
key_at p i = take 32 (drop (pointer i) p)

-- "and a 16-bit number, low byte first"
unfoldable pub number_at : List ℕ → ℕ → ℕ
number_at p i = word p (pointer i + 32)

-- "whose top bit is the overflow flag"
unfoldable pub flag_at : List ℕ → ℕ → Bool
flag_at p i = leb 32768 (number_at p i)

-- "and whose other 15 bits are the value's offset"
unfoldable pub offset_at : List ℕ → ℕ → ℕ
offset_at p i = number_at p i % 32768

-- "A value ends where the next begins, the last at 4,096": where value i begins, and for i = n where the last one ends
unfoldable pub start : List ℕ → ℕ → ℕ
start p i = cond (ltb i (count p)) (offset_at p i) (length p)

unfoldable pub length_at : List ℕ → ℕ → ℕ
length_at p i = start p (i + 1) - start p i

unfoldable pub value_at : List ℕ → ℕ → List ℕ
value_at p i = take (length_at p i) (drop (start p i) p)

unfoldable pub record_at : List ℕ → ℕ → Record
record_at p i = record { key = key_at p i; value = value_at p i; flag = flag_at p i }

-- f i, f (i + 1) and so on, m of them
unfoldable pub run {ℓ} : {A : Type ℓ} → ℕ → ℕ → (ℕ → A) → List A
run zero i f = []
run (suc m) i f = f i ∷ run m (suc i) f

-- records `from` up to, not including, `to`
unfoldable pub records_between : List ℕ → ℕ → ℕ → List Record
records_between p from to = run (to - from) from (record_at p)

-- all records of a page, in its order
unfoldable pub records : List ℕ → List Record
records p = records_between p 0 (count p)

-- `values_size`: the value bytes of a range
unfoldable pub values_size : List ℕ → ℕ → ℕ → ℕ
values_size p from to = total (records_between p from to)

-- "Body size is 34 times n plus all value bytes."
unfoldable pub body_size : List ℕ → ℕ
body_size p = 34 * count p + values_size p 0 (count p)
