-- Document 02, M-101, of the row call's bytes: what an accepted call writes is read back as the new row, so that what holds of that row holds of area and tickets. Assumes nothing.
use mathlib.Core.Path.{◌≡◌, refl, ap, ◌∙◌}
use mathlib.Core.Bool.{Bool, true, false}
use mathlib.Core.Option.{some, some-injective}
use mathlib.Core.List.{List, [], ◌∷◌, ◌++◌, map, append_assoc}
use Prim.Native.Nat.{ℕ, suc}
use lib.Dec.{eqb}
use lib.ListN.{length, drop}
use lib.Seq.{take_at, drop_at}
use borrow.Author.Tests.{eqb-true, eqb-false, eq-eqb, ne_eqb}
use Rattle.leaf_node.specs.Limits.{PageSize}
use Rattle.leaf_node.specs.Ticket.{Ticket, packed_all, read_tickets, Formed}
use Rattle.leaf_node.specs.Fits.{All, nil, cons}
use Rattle.leaf_node.proofs.Tickets.{packed_tickets_are_read_back}
use Rattle.leaf_model.specs.Basics.{joined}
use Rattle.leaf_model.proofs.Tests.{none_is_not_some}
use Rattle.leaf_model.proofs.Lists.{all_map}
use Rattle.leaf_work.specs.declared.Entry.{Entry}
use Rattle.leaf_work.specs.Digest.{overwrite}
use Rattle.row_turns.specs.Row.{RowLeaf, cutoff_by, is_from_zero, row_tickets, pages_of}
use Rattle.row_turns.specs.Turns.{Turned}
use Rattle.row_turns.specs.Lookup.{lookup, expected}
use Rattle.row_turns.proofs.Separators.{Separated, separators_of_the_new_row_have_32_bytes}
use Rattle.row_turns.proofs.Middle.{InTheMiddle, in_the_middle_15_or_16}
use Rattle.row_changes.specs.Packed.{edits_of}
use Rattle.row_check.specs.Verdict.{row_of}
use Rattle.row_check.specs.Outcome.{RowOutcome, row_number, row_turns, refused_row, cleared_row, written_row, row_outcome, row_in}
use Rattle.row_check.proofs.Facts.{every_key_has_its_change_or_is_as_it_was, new_pages_are_good}

-- ---- what is written is read back

formed : {xs : List RowLeaf} → Separated xs → All Formed (row_tickets xs)
formed nil = nil
formed (cons {x} {xs} h a) = cons (record { separator = h; cutoff = λ k e. of xs a k e }) (formed a)
  where
    of : (ys : List RowLeaf) → Separated ys → (k : List ℕ) → cutoff_by ys ≡ some k → length k ≡ 32
    of [] nil k e = none_is_not_some e
    of (y ∷ ys) (cons h a) k e = rw (← some-injective y.separator k e) h

as_many : (xs : List RowLeaf) → length (row_tickets xs) ≡ length xs
as_many [] = refl
as_many (x ∷ xs) = ap suc (as_many xs)

their_separators : (xs : List RowLeaf) → map (λ t. t.separator) (row_tickets xs) ≡ map (λ x. x.separator) xs
their_separators [] = refl
their_separators (x ∷ xs) = ap {B = List (List ℕ)} (λ l. x.separator ∷ l) (their_separators xs)

pages_back : (size : ℕ) {xs : List RowLeaf} (rest : List ℕ) → All (λ x. length x.page ≡ size) xs → row_of size (joined (pages_of xs) ++ rest) (map (λ x. x.separator) xs) ≡ xs
pages_back size rest nil = refl
pages_back size rest (cons {x} {xs} h a) =
    rw (append_assoc x.page (joined (pages_of xs)) rest, take_at x.page (joined (pages_of xs) ++ rest) size h, drop_at x.page (joined (pages_of xs) ++ rest) size h, pages_back size rest a)

pub a_written_row_is_read_back : (size : ℕ) (xs : List RowLeaf) (area tickets : List ℕ) → All (λ x. length x.page ≡ size) xs → Separated xs
    → row_in size (length xs) (overwrite (joined (pages_of xs)) area) (overwrite (packed_all (row_tickets xs)) tickets) ≡ xs
a_written_row_is_read_back size xs area tickets p s =
    let ts : List Ticket = row_tickets xs in
    let t : read_tickets (length xs) (overwrite (packed_all (row_tickets xs)) tickets) ≡ row_tickets xs = rw (← as_many xs) (packed_tickets_are_read_back (formed s) (drop (length (packed_all (row_tickets xs))) tickets)) in
    rw (t, their_separators xs) (pages_back size (drop (length (joined (pages_of xs))) area) p)

-- ---- an accepted call

lent_separators : (size : ℕ) (pages : List ℕ) {ss : List (List ℕ)} → All (λ s. length s ≡ 32) ss → Separated (row_of size pages ss)
lent_separators size pages nil = nil
lent_separators size pages (cons h a) = cons h (lent_separators size (drop size pages) a)

module _ (size : ℕ) (q : PageSize size) (list : List Entry) (store pages : List ℕ) (separators changes : List (List ℕ)) (values area tickets : List ℕ) where
  abbrev outcome : RowOutcome
  outcome = row_outcome size list store pages separators changes values area tickets

  abbrev before : ℕ
  before = row_number size list store pages separators changes values area tickets

  abbrev turned : Turned
  turned = row_turns size list store pages separators changes values area tickets

  -- it was refused neither before its turns nor in the middle of them, and writes the new row
  pub record Accepted : Type 0 where
    pub passed : before ≡ 0
    pub in_the_middle : turned.number ≡ 0
    pub written : outcome ≡ written_row size list store pages separators changes values area tickets (is_from_zero turned.row)

  abbrev refusal_of : RowOutcome → ℕ
  refusal_of o = o.refusal

  pub an_accepted_call_writes_the_new_row : outcome.refusal ≡ 0 → Accepted
  unfolding row_outcome
  an_accepted_call_writes_the_new_row e = go (eqb before 0) refl (eqb turned.number 0) refl e
    where
      by : Bool → Bool → RowOutcome
      by a b = elim a [
        | true ↦ elim b [
          | true ↦ written_row size list store pages separators changes values area tickets (is_from_zero turned.row)
          | false ↦ cleared_row size list store pages separators changes values area tickets turned.number
        ]
        | false ↦ refused_row size list store pages separators changes values area tickets before
      ]

      go : (a : Bool) → eqb before 0 ≡ a → (b : Bool) → eqb turned.number 0 ≡ b → refusal_of (by a b) ≡ 0 → Accepted
      go true x true y e = record { passed = eqb-true before 0 x; in_the_middle = eqb-true turned.number 0 y; written = ap (λ (a : Bool). by a (eqb turned.number 0)) x ∙ ap (λ (b : Bool). by true b) y }
      go true x false y e = absurd (eqb-false turned.number 0 y e)
      go false x b y e = absurd (eqb-false before 0 x e)

  -- ---- a refused one

  pub refused_before_its_turns_a_call_changes_nothing : (before ≡ 0 → ⊥) → outcome ≡ refused_row size list store pages separators changes values area tickets before
  unfolding row_outcome
  refused_before_its_turns_a_call_changes_nothing n = rw (ne_eqb before 0 n, row_outcome)

  pub refused_in_the_middle_a_call_clears_all : before ≡ 0 → (turned.number ≡ 0 → ⊥)
      → (outcome ≡ cleared_row size list store pages separators changes values area tickets turned.number) × InTheMiddle turned.number
  unfolding row_outcome
  refused_in_the_middle_a_call_clears_all z n =
      (rw (eq-eqb before 0 z, ne_eqb turned.number 0 n, row_outcome), in_the_middle_15_or_16 (length list) (length store) size (row_of size pages separators) (edits_of changes values))

  -- ---- what an accepted one writes

  module _ (key-bytes : All (λ s. length s ≡ 32) separators) (entry-bytes : All (λ c. length c ≡ 40) changes) (e : outcome.refusal ≡ 0) where
    accepted : Accepted
    accepted = an_accepted_call_writes_the_new_row e

    -- area and tickets hold the new row, as many leaves as the call answers
    pub area_and_tickets_hold_the_new_row : row_in size outcome.count outcome.area outcome.tickets ≡ is_from_zero turned.row
    area_and_tickets_hold_the_new_row =
        let good = new_pages_are_good size q (length list) (length store) pages separators changes values (length area) (length tickets) entry-bytes accepted.passed accepted.in_the_middle in
        rw accepted.written
        (a_written_row_is_read_back size (is_from_zero turned.row) area tickets (all_map (λ x g. g.sized) good)
        (separators_of_the_new_row_have_32_bytes size (length list) (length store) (row_of size pages separators) (edits_of changes values) (lent_separators size pages key-bytes)))

    -- "For every key, lookup in the new row gives the change if there is one, else the old value and flag, or absence.", by the bytes that the call was lent and wrote
    pub every_key_in_the_area_has_its_change_or_is_as_it_was : (k : List ℕ)
        → lookup size k (row_in size outcome.count outcome.area outcome.tickets) ≡ expected k (edits_of changes values) (lookup size k (row_of size pages separators))
    every_key_in_the_area_has_its_change_or_is_as_it_was k =
        rw area_and_tickets_hold_the_new_row
        (every_key_has_its_change_or_is_as_it_was size q (length list) (length store) pages separators changes values (length area) (length tickets) entry-bytes accepted.passed accepted.in_the_middle k)
