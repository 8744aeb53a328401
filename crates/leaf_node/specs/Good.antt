-- Good pages: document 01, "The page", second paragraph, and Nos. 1 to 5 of "Refusals by number".
use Rattle.std.specs.Prelude.{ℕ, zero, suc, ◌+◌, ◌-◌, ◌≤◌, ◌<◌, ◌≡◌, Bool, true, cond, ◌&&◌, ◌||◌, List, length, leb, eqb}
use Rattle.refusal.specs.Refusal.{accepted, page_length, too_many_records, bad_offsets, long_page_value, keys_not_rising}
use Rattle.bit_ops.specs.Key.{num, lt_key}
use Rattle.leaf_node.specs.Limits.{record_limit, value_limit}
use Rattle.leaf_node.specs.Page.{count, pointer, key_at, offset_at, length_at}

-- "offsets never fall, the first is at least 2 + 34 times n, and none passes 4,096"
pub record OffsetsRight (p : List ℕ) : Type 0 where
  pub never_fall : (i : ℕ) → i + 1 < count p → offset_at p i ≤ offset_at p (i + 1)
  pub first : 0 < count p → pointer (count p) ≤ offset_at p 0
  pub none_passes : (i : ℕ) → i < count p → offset_at p i ≤ length p

-- "values are at most 1,332 bytes"
abbrev pub ValuesFit : ℕ → List ℕ → Type 0
ValuesFit size p = (i : ℕ) → i < count p → length_at p i ≤ value_limit size

-- "keys strictly rise"
abbrev pub KeysRise : List ℕ → Type 0
KeysRise p = (i : ℕ) → i + 1 < count p → num (key_at p i) < num (key_at p (i + 1))

-- "A page is good when ..": a page of `size` bytes
pub record Good (size : ℕ) (p : List ℕ) : Type 0 where
  pub sized : length p ≡ size
  pub few : count p ≤ record_limit size
  pub offsets : OffsetsRight p
  pub values : ValuesFit size p
  pub keys : KeysRise p

-- the same as tests; `proofs/Rules.antt` shows that each is its sentence, `proofs/Verdicts.antt` when each number is given

-- the test f holds of every number below n
unfoldable pub all_below : ℕ → (ℕ → Bool) → Bool
all_below zero f = true
all_below (suc n) f = f n && all_below n f

unfoldable pub offset_step : List ℕ → ℕ → Bool
offset_step p i = leb (offset_at p i) (offset_at p (i + 1))

unfoldable pub offset_inside : List ℕ → ℕ → Bool
offset_inside p i = leb (offset_at p i) (length p)

unfoldable pub offsets_right : List ℕ → Bool
offsets_right p = all_below (count p - 1) (offset_step p) && (leb (count p) 0 || leb (pointer (count p)) (offset_at p 0)) && all_below (count p) (offset_inside p)

unfoldable pub value_fits : ℕ → List ℕ → ℕ → Bool
value_fits size p i = leb (length_at p i) (value_limit size)

unfoldable pub values_fit : ℕ → List ℕ → Bool
values_fit size p = all_below (count p) (value_fits size p)

unfoldable pub key_step : List ℕ → ℕ → Bool
key_step p i = lt_key (key_at p i) (key_at p (i + 1))

unfoldable pub keys_rise : List ℕ → Bool
keys_rise p = all_below (count p - 1) (key_step p)

-- the lowest refusal that a page earns, 0 for a good one
unfoldable pub page_verdict : ℕ → List ℕ → ℕ
page_verdict size p =
    cond (eqb (length p) size)
    (cond (leb (count p) (record_limit size))
    (cond (offsets_right p)
    (cond (values_fit size p)
    (cond (keys_rise p) accepted keys_not_rising)
    long_page_value)
    bad_offsets)
    too_many_records)
    page_length
