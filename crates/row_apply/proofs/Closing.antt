-- What the call leaves, by the outcome's definition. Assumes nothing.
use mathlib.Core.Path.{◌≡◌, refl, sym, ap, ◌∙◌}
use mathlib.Core.List.{List, [], ◌∷◌}
use Prim.Native.Nat.{ℕ, ◌+◌, ◌-◌, ◌<◌}
use native.Mathlib.Omega.{arith}
use native.Mathlib.Numerals.{add-one}
use lib.ListN.{length, get_or, replicate, length-replicate}
use borrow.Author.Tests.{eq-eqb}
use Rattle.std.specs.Prelude.{Result, Ok, Err}
use Rattle.refusal.specs.declared.Refusal.{Refusal}
use Rattle.refusal.specs.Numbers.{number}
use Rattle.refusal.proofs.Refused.{refused}
use Rattle.bit_ops.specs.Steps.{zeros}
use Rattle.leaf_node.specs.Fits.{All, nil, cons}
use Rattle.leaf_model.specs.Basics.{cleared}
use Rattle.leaf_work.specs.declared.Entry.{Entry}
use Rattle.leaf_work.specs.Lent.{blank}
use Rattle.leaf_open.proofs.Openings.{a_page_has_4096_bytes}
use Rattle.row_turns.specs.Row.{is_from_zero}
use Rattle.row_turns.specs.Turns.{Turned}
use Rattle.row_check.specs.Verdict.{row_verdict}
use Rattle.row_check.specs.Outcome.{RowOutcome, row_number, row_turns, cleared_row, written_row, row_outcome}
use Rattle.row_check.proofs.Outcomes.{refused_before_its_turns_a_call_changes_nothing, refused_in_the_middle_a_call_clears_all}
use Rattle.row_leaf.specs.declared.LentRow.{LentRow}
use Rattle.row_leaf.specs.declared.RowAt.{RowAt}
use Rattle.row_leaves.specs.Turns.{RowWritten, TurnedTo}
use Rattle.row_apply.specs.declared.LeafRow.{LeafRow}
use Rattle.row_apply.specs.Apply.{row_reply, RowSays, TakenTo, LentSays, RowLent, RowClosed}

-- ---- changes that were read

pub all_are_as_long : (n : ℕ) (xs : List (List ℕ)) → ((i : ℕ) → i < length xs → length (get_or xs i []) ≡ n) → All (λ x. length x ≡ n) xs
all_are_as_long n [] h = nil
all_are_as_long n (x ∷ xs) h = cons (h 0 (omega arith)) (all_are_as_long n xs (λ i l. rw add-one at (h (i + 1) (omega arith))))

-- ---- unused entries

pub all_are_unused : (list : List Entry) → cleared blank list 0 ≡ replicate (length list) blank
unfolding cleared
all_are_unused list = let m : length list - 0 ≡ length list = omega arith in ap (λ (k : ℕ). replicate k blank) m

-- ---- the call

module _ (list : List Entry) (store : List ℕ) (lent : LentRow) (area tickets : List ℕ) where
  abbrev pages : List ℕ
  pages = lent.row.pages.now

  abbrev separators : List (List ℕ)
  separators = lent.row.separators.now

  abbrev changes : List (List ℕ)
  changes = lent.changes.now

  abbrev values : List ℕ
  values = lent.values.now

  abbrev n : ℕ
  n = length list

  abbrev m : ℕ
  m = length store

  abbrev verdict : ℕ
  verdict = row_verdict 4096 n m pages separators changes (length values) (length area) (length tickets)

  -- by what the outcome is
  says : (o : RowOutcome) → row_outcome 4096 list store pages separators changes values area tickets ≡ o → (r : LeafRow) (list' : List Entry) (store' area' tickets' : List ℕ)
      → r.refusal ≡ o.refusal → r.pages ≡ o.count → list' ≡ o.list → store' ≡ o.store → area' ≡ o.area → tickets' ≡ o.tickets → RowSays list store pages separators changes values area tickets r list' store' area' tickets'
  says o e r list' store' area' tickets' a b c d f g = record {
    refusal_is = a ∙ ap (λ (x : RowOutcome). x.refusal) (sym e);
    pages_are = b ∙ ap (λ (x : RowOutcome). x.count) (sym e);
    list_is = c ∙ ap (λ (x : RowOutcome). x.list) (sym e);
    store_is = d ∙ ap (λ (x : RowOutcome). x.store) (sym e);
    area_is = f ∙ ap (λ (x : RowOutcome). x.area) (sym e);
    tickets_are = g ∙ ap (λ (x : RowOutcome). x.tickets) (sym e);
  }

  pub a_refused_row_changes_nothing : (f : Refusal) → number f ≡ verdict → LentSays list store lent area tickets (Err f) list store area tickets
  a_refused_row_changes_nothing f e =
      let o = refused_before_its_turns_a_call_changes_nothing 4096 a_page_has_4096_bytes list store pages separators changes values area tickets (λ z. refused f (e ∙ z)) in
      says _ o (row_reply (Err f)) list store area tickets e refl refl refl refl refl

  module _ (h : 0 ≡ verdict) (k : RowLent lent) (list₁ : List Entry) (el : list₁ ≡ replicate n blank) (store₁ : List ℕ) (es : store₁ ≡ zeros m) where
    list_long : length list₁ ≡ n
    list_long = ap length el ∙ length-replicate n blank

    store_long : length store₁ ≡ m
    store_long = ap length es ∙ length-replicate {A = ℕ} m 0

    module _ (list₂ : List Entry) (store₂ area₂ tickets₂ : List ℕ) (l₁ : length list₂ ≡ length list₁) (l₂ : length store₂ ≡ length store₁) (l₃ : length area₂ ≡ length area) (l₄ : length tickets₂ ≡ length tickets)
        (r : Result ℕ Refusal) (list' : List Entry) (store' area' tickets' : List ℕ) where
      abbrev turned : Turned
      turned = row_turns 4096 list store pages separators changes values area tickets

      abbrev o : RowOutcome
      o = row_outcome 4096 list store pages separators changes values area tickets

      module _ (at : RowAt) (t : TakenTo list₁ store₁ lent area tickets (Ok at) list₂ store₂ area₂ tickets₂) where
        t₀ : TurnedTo area tickets turned (Ok at) list₂ store₂ area₂ tickets₂
        t₀ = rw (list_long, store_long) at t

        w : RowWritten (is_from_zero turned.row) area tickets at list₂ store₂ area₂ tickets₂
        w = t₀.written

        written : o ≡ written_row 4096 list store pages separators changes values area tickets (is_from_zero turned.row)
        unfolding row_outcome
        written = rw (eq-eqb (row_number 4096 list store pages separators changes values area tickets) 0 (sym h), eq-eqb turned.number 0 (sym t₀.number_is), row_outcome)

      module _ (f : Refusal) (t : TakenTo list₁ store₁ lent area tickets (Err f) list₂ store₂ area₂ tickets₂) where
        number_is : number f ≡ turned.number
        number_is = let t₁ : TurnedTo area tickets turned (Err f) list₂ store₂ area₂ tickets₂ = rw (list_long, store_long) at t in t₁.number_is

        cleared_all : o ≡ cleared_row 4096 list store pages separators changes values area tickets turned.number
        cleared_all =
            (refused_in_the_middle_a_call_clears_all 4096 a_page_has_4096_bytes list store pages separators changes values area tickets (sym h) (λ z. refused f (number_is ∙ z))).0

      pub the_call_says : (t : Result RowAt Refusal) → TakenTo list₁ store₁ lent area tickets t list₂ store₂ area₂ tickets₂ → RowClosed t list₂ store₂ area₂ tickets₂ r list' store' area' tickets'
          → LentSays list store lent area tickets r list' store' area' tickets'
      the_call_says (Ok at) t d =
          let w₁ = w at t in
          rw d.0 (says _ (written at t) (row_reply (Ok at.leaves)) list' store' area' tickets' refl w₁.leaves_are (d.1 ∙ w₁.list_is ∙ ap (λ (i : ℕ). replicate i blank) (l₁ ∙ list_long))
          (d.2 ∙ w₁.store_is ∙ ap zeros (l₂ ∙ store_long)) (d.3 ∙ w₁.area_is) (d.4 ∙ w₁.tickets_are))
      the_call_says (Err f) t d =
          rw d.0 (says _ (cleared_all f t) (row_reply (Err f)) list' store' area' tickets' (number_is f t) refl (d.1 ∙ ap (λ (i : ℕ). replicate i blank) (l₁ ∙ list_long))
          (d.2 ∙ ap zeros (l₂ ∙ store_long)) (d.3 ∙ ap zeros l₃) (d.4 ∙ ap zeros l₄))
