-- A list of operations, the entries and the store bytes that stand for it, and its records. Assumes nothing.
use mathlib.Core.Path.{◌≡◌, refl, sym, ap, ◌∙◌}
use mathlib.Core.Bool.{Bool, true, false, false≢true}
use mathlib.Core.List.{List, [], ◌∷◌, ◌++◌, append_assoc, map}
use Prim.Native.Nat.{ℕ, zero, suc, ◌+◌, ◌-◌, ◌≤◌, ◌<◌}
use native.Mathlib.Omega.{arith}
use native.Mathlib.Nat.{add-zero, add_assoc}
use lib.ListN.{length, take, drop, length-append}
use lib.Seq.{take_at, drop_at}
use borrow.Author.Tests.{eq-eqb, lt-ltb, le-leb}
use Rattle.leaf_node.specs.Record.{Record, values, total}
use Rattle.leaf_node.specs.Page.{value_at, record_at, run, records_between, values_size}
use Rattle.leaf_node.specs.Fits.{All, nil, cons}
use Rattle.leaf_node.proofs.Lengths.{length_run}
use Rattle.leaf_work.specs.declared.Entry.{Entry}
use Rattle.leaf_work.specs.Tests.{is_set, bit}
use Rattle.leaf_work.specs.Lent.{insert_at, chunk_of, an_insert}
use Rattle.leaf_work.specs.Pending.{held, in_base, chunk_places, entry_places, places_of, records_held}
use Rattle.leaf_work.specs.Sound.{is_operation, placed, some_insert}
use Rattle.leaf_work.specs.Digest.{inserts_of}
use Rattle.leaf_work.proofs.Tests.{map-append, set_bit, bit_small}

pub total_append : (rs ss : List Record) → total (rs ++ ss) ≡ total rs + total ss
unfolding total
total_append [] ss = omega arith
total_append (r ∷ rs) ss = omega (arith, total_append rs ss)

-- an insert, or base records from up to
pub data Op : Type 0 where
  Put : Record → Op
  Keep : ℕ → ℕ → Op

abbrev pub op_records : List ℕ → Op → List Record
op_records p (Put r) = r ∷ []
op_records p (Keep from to) = records_between p from to

abbrev pub op_bytes : Op → List ℕ
op_bytes (Put r) = r.value
op_bytes (Keep from to) = []

abbrev pub op_entry : List ℕ → ℕ → Op → Entry
op_entry p at (Put r) = insert_at at (at + length r.value) r.key (bit r.flag)
op_entry p at (Keep from to) = chunk_of from to (values_size p from to)

abbrev pub records_of_ops : List ℕ → List Op → List Record
records_of_ops p [] = []
records_of_ops p (o ∷ os) = op_records p o ++ records_of_ops p os

abbrev pub stored_bytes : List Op → List ℕ
stored_bytes [] = []
stored_bytes (o ∷ os) = op_bytes o ++ stored_bytes os

abbrev pub entries_of : List ℕ → ℕ → List Op → List Entry
entries_of p at [] = []
entries_of p at (o ∷ os) = op_entry p at o ∷ entries_of p (at + length (op_bytes o)) os

-- a chunk is nonempty and lies in the passed part
abbrev pub Within : ℕ → Op → Type 0
Within low (Put r) = Unit {0}
Within low (Keep from to) = (from < to) × (to ≤ low)

abbrev pub some_put : List Op → Bool
some_put [] = false
some_put (Put r ∷ os) = true
some_put (Keep from to ∷ os) = some_put os

-- ---- appending

pub records_append : (p : List ℕ) (xs ys : List Op) → records_of_ops p (xs ++ ys) ≡ records_of_ops p xs ++ records_of_ops p ys
records_append p [] ys = refl
records_append p (x ∷ xs) ys = rw (records_append p xs ys) (sym (append_assoc (op_records p x) (records_of_ops p xs) (records_of_ops p ys)))

pub bytes_append : (xs ys : List Op) → stored_bytes (xs ++ ys) ≡ stored_bytes xs ++ stored_bytes ys
bytes_append [] ys = refl
bytes_append (x ∷ xs) ys = rw (bytes_append xs ys) (sym (append_assoc (op_bytes x) (stored_bytes xs) (stored_bytes ys)))

pub entries_append : (p : List ℕ) (at : ℕ) (xs ys : List Op) → entries_of p at (xs ++ ys) ≡ entries_of p at xs ++ entries_of p (at + length (stored_bytes xs)) ys
entries_append p at [] ys = rw (add-zero at)
entries_append p at (x ∷ xs) ys = rw (entries_append p (at + length (op_bytes x)) xs ys, add_assoc, length-append (op_bytes x) (stored_bytes xs))

pub some_put_append : (xs ys : List Op) → some_put xs ≡ true → some_put (xs ++ ys) ≡ true
some_put_append [] ys h = absurd (false≢true h)
some_put_append (Put r ∷ xs) ys h = refl
some_put_append (Keep a b ∷ xs) ys h = some_put_append xs ys h

pub entries_length : (p : List ℕ) (at : ℕ) (os : List Op) → length (entries_of p at os) ≡ length os
entries_length p at [] = refl
entries_length p at (o ∷ os) = ap suc (entries_length p (at + length (op_bytes o)) os)

-- ---- reading

run_held : (store p : List ℕ) (n i : ℕ) → map (held store p) (run n i (in_base p)) ≡ run n i (record_at p)
unfolding run held in_base record_at value_at
run_held store p zero i = refl
run_held store p (suc n) i = ap {B = List Record} (λ l. record_at p i ∷ l) (run_held store p n (suc i))

pub chunk_held : (store p : List ℕ) (from to : ℕ) → records_held store p (chunk_places p from to) ≡ records_between p from to
unfolding chunk_places records_between
chunk_held store p from to = run_held store p (to - from) from

op_held : (store p : List ℕ) (at : ℕ) (o : Op) (A T : List ℕ) → store ≡ A ++ (op_bytes o ++ T) → length A ≡ at → records_held store p (entry_places p (op_entry p at o)) ≡ op_records p o
unfolding entry_places held
op_held store p at (Put r) A T e l =
    let n : at + length r.value - at ≡ length r.value = omega arith in
    let v : take (at + length r.value - at) (drop at store) ≡ r.value = rw (n, e, drop_at A (r.value ++ T) at l) (take_at r.value T (length r.value) refl) in
    let f : is_set (bit r.flag) ≡ r.flag = set_bit r.flag in
    λ j. record { key = r.key; value = v j; flag = f j } ∷ []
op_held store p at (Keep from to) A T e l = chunk_held store p from to

pub read_ops : (store p : List ℕ) (at : ℕ) (os : List Op) (A T : List ℕ) → store ≡ A ++ (stored_bytes os ++ T) → length A ≡ at → records_held store p (places_of p (entries_of p at os)) ≡ records_of_ops p os
read_ops store p at [] A T e l = refl
read_ops store p at (o ∷ os) A T e l =
    let e₁ : store ≡ A ++ (op_bytes o ++ (stored_bytes os ++ T)) = e ∙ simp append_assoc in
    let e₂ : store ≡ (A ++ op_bytes o) ++ (stored_bytes os ++ T) = e ∙ simp append_assoc in
    map-append (held store p) (entry_places p (op_entry p at o)) (places_of p (entries_of p (at + length (op_bytes o)) os))
    ∙ rw (op_held store p at o A (stored_bytes os ++ T) e₁ l, read_ops store p (at + length (op_bytes o)) os (A ++ op_bytes o) T e₂ (omega (arith, length-append A (op_bytes o))))

-- ---- operations that name no chunk of an empty page

pub no_chunks : (p q : List ℕ) {low : ℕ} {os : List Op} → All (Within low) os → low ≤ 0 → records_of_ops p os ≡ records_of_ops q os
no_chunks p q nil l = refl
no_chunks p q (cons {x = Put r} h hs) l = ap {B = List Record} (λ z. r ∷ z) (no_chunks p q hs l)
no_chunks p q (cons {x = Keep from to} h hs) l = absurd (omega (arith, h.0, h.1))

pub no_chunk_entries : (p q : List ℕ) {low : ℕ} (at : ℕ) {os : List Op} → All (Within low) os → low ≤ 0 → entries_of p at os ≡ entries_of q at os
no_chunk_entries p q at nil l = refl
no_chunk_entries p q at (cons {x = Put r} {xs = os} h hs) l = ap {B = List Entry} (λ z. op_entry p at (Put r) ∷ z) (no_chunk_entries p q (at + length r.value) hs l)
no_chunk_entries p q at (cons {x = Keep from to} h hs) l = absurd (omega (arith, h.0, h.1))

-- each operation has a record
pub ops_few : (p : List ℕ) {low : ℕ} {os : List Op} → All (Within low) os → length os ≤ length (records_of_ops p os)
unfolding records_between
ops_few p nil = omega arith
ops_few p (cons {x = Put r} {xs = os} h hs) = omega (arith, ops_few p hs)
ops_few p (cons {x = Keep from to} {xs = os} h hs) =
    omega (arith, ops_few p hs, length-append (records_between p from to) (records_of_ops p os), length_run (to - from) from (record_at p), h.0)

-- the store holds no more than the values of the records
pub bytes_few : (p : List ℕ) (os : List Op) → length (stored_bytes os) ≤ total (records_of_ops p os)
unfolding total
bytes_few p [] = omega arith
bytes_few p (Put r ∷ os) = omega (arith, bytes_few p os, length-append r.value (stored_bytes os))
bytes_few p (Keep from to ∷ os) = omega (arith, bytes_few p os, total_append (records_between p from to) (records_of_ops p os))

-- ---- inserts alone

abbrev pub puts : List Record → List Op
puts rs = map Put rs

pub puts_within : (low : ℕ) (rs : List Record) → All (Within low) (puts rs)
puts_within low [] = nil
puts_within low (r ∷ rs) = cons tt (puts_within low rs)

pub puts_records : (p : List ℕ) (rs : List Record) → records_of_ops p (puts rs) ≡ rs
puts_records p [] = refl
puts_records p (r ∷ rs) = ap {B = List Record} (λ z. r ∷ z) (puts_records p rs)

pub puts_bytes : (rs : List Record) → stored_bytes (puts rs) ≡ values rs
unfolding values
puts_bytes [] = refl
puts_bytes (r ∷ rs) = ap (λ z. r.value ++ z) (puts_bytes rs)

pub puts_entries : (p : List ℕ) (at : ℕ) (rs : List Record) → entries_of p at (puts rs) ≡ inserts_of at rs
puts_entries p at [] = refl
puts_entries p at (r ∷ rs) = ap {B = List Entry} (λ z. insert_at at (at + length r.value) r.key (bit r.flag) ∷ z) (puts_entries p (at + length r.value) rs)

pub puts_length : (rs : List Record) → length (puts rs) ≡ length rs
puts_length [] = refl
puts_length (r ∷ rs) = ap suc (puts_length rs)

-- ---- what soundness asks of the entries

op_right : (p : List ℕ) (low at : ℕ) (o : Op) → Within low o → is_operation low p (op_entry p at o) ≡ true
op_right p low at (Put r) h = rw (le-leb at (at + length r.value) (omega arith), le-leb (bit r.flag) 1 (bit_small r.flag))
op_right p low at (Keep from to) h =
    rw (lt-ltb from to h.0, le-leb to low h.1, eq-eqb (values_size p from to) (values_size p from to) refl)

pub ops_right : (p : List ℕ) {low : ℕ} (at : ℕ) {os : List Op} → All (Within low) os → All (λ e. is_operation low p e ≡ true) (entries_of p at os)
ops_right p at nil = nil
ops_right p {low} at (cons {x = o} h hs) = cons (op_right p low at o h) (ops_right p (at + length (op_bytes o)) hs)

pub ops_placed : (p : List ℕ) (end at : ℕ) (os : List Op) → at + length (stored_bytes os) ≡ end → placed end at (entries_of p at os) ≡ true
ops_placed p end at [] e = eq-eqb at end (omega arith)
ops_placed p end at (Put r ∷ os) e = rw (eq-eqb at at refl, placed) (ops_placed p end (at + length r.value) os (omega (arith, length-append r.value (stored_bytes os))))
ops_placed p end at (Keep from to ∷ os) e = rw (add-zero at) (ops_placed p end at os e)

pub some_insert_lem : (p : List ℕ) (at : ℕ) (os : List Op) → some_put os ≡ true → some_insert (entries_of p at os) ≡ true
some_insert_lem p at [] h = h
some_insert_lem p at (Put r ∷ os) h = refl
some_insert_lem p at (Keep from to ∷ os) h = some_insert_lem p (at + 0) os h

pub all_inserts : (p : List ℕ) {low : ℕ} (at : ℕ) {os : List Op} → All (Within low) os → low ≤ 0 → All (λ e. an_insert e ≡ true) (entries_of p at os)
all_inserts p at nil l = nil
all_inserts p at (cons {x = Put r} h hs) l = cons refl (all_inserts p (at + length r.value) hs l)
all_inserts p at (cons {x = Keep from to} h hs) l = absurd (omega (arith, h.0, h.1))
