-- A digest's leaves, read back from the area and the tickets. Assumes nothing.
use mathlib.Core.Path.{◌≡◌, refl, sym, ap, ap₂, ◌∙◌}
use mathlib.Core.Bool.{Bool}
use mathlib.Core.Option.{Option, none, some, some-injective}
use mathlib.Core.List.{List, [], ◌∷◌, ◌++◌, append_assoc, map}
use Prim.Native.Nat.{ℕ, suc, ◌*◌, ◌≤◌}
use native.Mathlib.Omega.{arith}
use lib.ListN.{length, take, drop, length-append}
use lib.Seq.{take_at, drop_at}
use Rattle.bit_ops.proofs.Separators.{separator_has_32_bytes}
use Rattle.leaf_node.specs.Record.{Record}
use Rattle.leaf_node.specs.Page.{records}
use Rattle.leaf_node.specs.Build.{build}
use Rattle.leaf_node.specs.Ticket.{packed_with, read_tickets, Formed}
use Rattle.leaf_node.specs.Fits.{All, nil, cons, Fits}
use Rattle.leaf_node.proofs.RoundTrips.{a_built_page_has_its_records, a_built_page_is_full_length}
use Rattle.leaf_node.proofs.Tickets.{packed_tickets_are_read_back}
use Rattle.leaf_model.specs.Basics.{joined}
use Rattle.leaf_model.specs.Work.{Leaf, leaf_cutoff, next_separator, is_linked, with_separators, separator_after, last_key}
use Rattle.leaf_work.specs.Digest.{ticket_of, pages_of, tickets_of}
use Rattle.leaf_claim.specs.Sequence.{Given, read_pages, read_leaves, leaves_in, leaves_of}

-- a key that is there has 32 bytes
abbrev pub Long : Option (List ℕ) → Type 0
Long o = (k : List ℕ) → o ≡ some k → length k ≡ 32

cutoff_long : (l after : List Record) (c : Option (List ℕ)) → Long c → Long (leaf_cutoff l after c)
cutoff_long l [] c h = h
cutoff_long l (n ∷ ns) c h = λ k e. rw (← some-injective _ _ e) (separator_has_32_bytes (last_key l) n.key)

next_long : (s : List ℕ) (l after : List Record) → length s ≡ 32 → length (next_separator s l after) ≡ 32
next_long s l [] h = h
next_long s l (n ∷ ns) h = separator_has_32_bytes (last_key l) n.key

pub separator_after_has_32_bytes : (s : List ℕ) (ls : List (List Record)) (left : List Record) → length s ≡ 32 → length (separator_after s ls left) ≡ 32
separator_after_has_32_bytes s [] left h = h
separator_after_has_32_bytes s (l ∷ ls) left h = separator_after_has_32_bytes (next_separator s l (joined ls ++ left)) ls left (next_long s l (joined ls ++ left) h)

module _ (c : Option (List ℕ)) (m : Bool) (long-c : Long c) where
  -- ---- tickets

  tickets_formed : (s : List ℕ) (ls : List (List Record)) (left : List Record) → length s ≡ 32 → All Formed (map ticket_of (with_separators s c m ls left))
  tickets_formed s [] left h = nil
  tickets_formed s (l ∷ ls) left h =
      cons (record { separator = h; cutoff = cutoff_long l (joined ls ++ left) c long-c })
      (tickets_formed (next_separator s l (joined ls ++ left)) ls left (next_long s l (joined ls ++ left) h))

  tickets_count : (s : List ℕ) (ls : List (List Record)) (left : List Record) → length (map ticket_of (with_separators s c m ls left)) ≡ length ls
  tickets_count s [] left = refl
  tickets_count s (l ∷ ls) left = ap suc (tickets_count (next_separator s l (joined ls ++ left)) ls left)

  pub tickets_are_read_back : (s : List ℕ) (ls : List (List Record)) (T : List ℕ) (kept : List Record) → length s ≡ 32
      → read_tickets (length ls) (tickets_of (with_separators s c m ls kept) ++ T) ≡ map ticket_of (with_separators s c m ls kept)
  tickets_are_read_back s ls T kept h = rw (← tickets_count s ls kept) (packed_tickets_are_read_back (tickets_formed s ls kept h) T)

  ticket_short : (s : List ℕ) (o : Option (List ℕ)) → length s ≡ 32 → Long o → length (packed_with s o) ≤ 65
  ticket_short s (some k) h long = omega (arith, length-append s k, long k refl)
  ticket_short s none h long = omega arith

  pub tickets_take_at_most_65_bytes_a_leaf : (s : List ℕ) (ls : List (List Record)) (left : List Record) → length s ≡ 32
      → length (tickets_of (with_separators s c m ls left)) ≤ length ls * 65
  tickets_take_at_most_65_bytes_a_leaf s [] left h = omega arith
  tickets_take_at_most_65_bytes_a_leaf s (l ∷ ls) left h =
      let s' : List ℕ = next_separator s l (joined ls ++ left) in
      let o : Option (List ℕ) = leaf_cutoff l (joined ls ++ left) c in
      let ih = tickets_take_at_most_65_bytes_a_leaf s' ls left (next_long s l (joined ls ++ left) h) in
      omega (arith, length-append (packed_with s o) (tickets_of (with_separators s' c m ls left)), ticket_short s o h (cutoff_long l (joined ls ++ left) c long-c))

  -- ---- pages

  module _ (size : ℕ) where
    pages_read : (s : List ℕ) {ls : List (List Record)} (left : List Record) (A : List ℕ) → All (Fits size) ls
        → read_pages size (length ls) (pages_of size (with_separators s c m ls left) ++ A) ≡ ls
    pages_read s left A nil = refl
    pages_read s left A (cons {x = l} {xs = ls} f fs) =
        let s' : List ℕ = next_separator s l (joined ls ++ left) in
        let P : List ℕ = pages_of size (with_separators s' c m ls left) in
        let e : (build size l ++ P) ++ A ≡ build size l ++ (P ++ A) = append_assoc (build size l) P A in
        let b : length (build size l) ≡ size = a_built_page_is_full_length size l f in
        let r : records (take size (build size l ++ (P ++ A))) ≡ l = ap records (take_at (build size l) (P ++ A) size b) ∙ a_built_page_has_its_records size l f in
        let d : drop size (build size l ++ (P ++ A)) ≡ P ++ A = drop_at (build size l) (P ++ A) size b in
        let ih = ap (read_pages size (length ls)) d ∙ pages_read s' left A fs in
        rw e (λ j. r j ∷ ih j)

    pub pages_take_the_page_size_each : (s : List ℕ) {ls : List (List Record)} (left : List Record) → All (Fits size) ls
        → length (pages_of size (with_separators s c m ls left)) ≡ length ls * size
    pages_take_the_page_size_each s left nil = omega arith
    pages_take_the_page_size_each s left (cons {x = l} {xs = ls} f fs) =
        let s' : List ℕ = next_separator s l (joined ls ++ left) in
        let ih = pages_take_the_page_size_each s' left fs in
        let b : length (build size l) ≡ size = a_built_page_is_full_length size l f in
        omega (arith, length-append (build size l) (pages_of size (with_separators s' c m ls left)))

    -- ---- both together

    leaves_again : (s : List ℕ) (ls : List (List Record)) (left : List Record) → read_leaves m ls (map ticket_of (with_separators s c m ls left)) ≡ with_separators s c m ls left
    leaves_again s [] left = refl
    leaves_again s (l ∷ ls) left =
        ap {B = List Leaf} (λ z. record { records = l; separator = s; cutoff = leaf_cutoff l (joined ls ++ left) c; linked = is_linked ls m } ∷ z)
        (leaves_again (next_separator s l (joined ls ++ left)) ls left)

    pub leaves_are_read_back : (s : List ℕ) (ls : List (List Record)) (left : List Record) (A T : List ℕ) → length s ≡ 32 → All (Fits size) ls
        → read_leaves m (read_pages size (length ls) (pages_of size (with_separators s c m ls left) ++ A)) (read_tickets (length ls) (tickets_of (with_separators s c m ls left) ++ T))
        ≡ with_separators s c m ls left
    leaves_are_read_back s ls left A T h f = ap₂ (read_leaves m) (pages_read s left A f) (tickets_are_read_back s ls T left h) ∙ leaves_again s ls left

pub leaves_append : (size : ℕ) (xs ys : List Given) → leaves_of size (xs ++ ys) ≡ leaves_of size xs ++ leaves_of size ys
leaves_append size [] ys = refl
leaves_append size (x ∷ xs) ys = rw (leaves_append size xs ys) (sym (append_assoc (leaves_in size x) (leaves_of size xs) (leaves_of size ys)))
