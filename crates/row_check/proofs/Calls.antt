-- The numbers behind the pages', row after row of the table, and No. 17 by what is lent. Assumes nothing.
use mathlib.Core.Path.{◌≡◌, sym, ◌∙◌}
use mathlib.Core.Bool.{Bool, true, false, not, ◌&&◌}
use mathlib.Core.List.{List}
use Prim.Native.Nat.{ℕ, ◌+◌, ◌-◌, ◌*◌, ◌/◌, ◌≤◌, ◌<◌}
use native.Mathlib.Omega.{arith}
use native.Mathlib.Decide.{dec_lt}
use native.Mathlib.Nat.{le-div_iff_mul-le, div-lt_iff_lt-mul, div-mul-le_self, mul-le-mul}
use lib.Dec.{leb}
use lib.ListN.{length}
use mir.Syntax.{w64}
use mir.Val.{Fits}
use borrow.Author.Tests.{leb-true, le-leb, lt-leb, lt-ltb, le-ltb, not-true, not-false}
use Rattle.leaf_node.specs.Limits.{PageSize, body_limit, value_limit, merge_below, pages_asked}
use Rattle.leaf_model.proofs.Tests.{and_left, and_right}
use Rattle.leaf_work.specs.Lent.{room_right}
use Rattle.leaf_work.specs.Verdict.{unless}
use Rattle.leaf_base.proofs.Bases.{first_refused}
use Rattle.leaf_work.proofs.Tests.{and_both, one_test}
use Rattle.row_turns.specs.Changes.{row_pages_asked}
use Rattle.row_changes.specs.Tests.{values_length, lengths_fit, keys_rising, put_bodies}
use Rattle.row_check.specs.Steps.{pages_lent}
use Rattle.row_check.specs.Verdict.{row_of, whole_pages, leaves_verdict, pages_verdict, short_from_zero, lent_row_verdict, row_has_pages, call_verdict, row_verdict}

-- ---- No. 17

pub fewer_area_pages : (size area tickets : ℕ) → area / size < tickets / 65 → area / size ≡ pages_lent size area tickets
fewer_area_pages size area tickets h = rw (lt-ltb (area / size) (tickets / 65) h)

pub fewer_ticket_places : (size area tickets : ℕ) → tickets / 65 ≤ area / size → tickets / 65 ≡ pages_lent size area tickets
fewer_ticket_places size area tickets h = rw (le-ltb (area / size) (tickets / 65) h)

module _ (size area tickets : ℕ) where
  abbrev P : ℕ
  P = pages_lent size area tickets

  -- it is the lesser of the two
  pub record Lesser : Type 0 where
    pub by_area : P ≤ area / size
    pub by_tickets : P ≤ tickets / 65
    pub is_one : (a : ℕ) → a ≤ area / size → a ≤ tickets / 65 → a ≤ P

  lesser : Lesser
  lesser = elim (dec_lt (area / size) (tickets / 65)) [
    | yes h ↦ let e = fewer_area_pages size area tickets h in record { by_area = omega (arith, e); by_tickets = omega (arith, e, h); is_one = λ a x y. omega (arith, e, x) }
    | no h ↦ let e = fewer_ticket_places size area tickets (omega arith) in record { by_area = omega (arith, e, h); by_tickets = omega (arith, e); is_one = λ a x y. omega (arith, e, y) }
  ]

  module _ (q : PageSize size) where
    some_size : 0 < size
    some_size = omega (arith, q.least)

    -- a pages are there
    there : (a : ℕ) → leb a P ≡ (leb (a * size) area && leb (a * 65) tickets)
    there a = one_test (leb a P) (leb (a * size) area && leb (a * 65) tickets)
        (λ h.
        let l = leb-true a P h in
        and_both (le-leb (a * size) area ((le-div_iff_mul-le some_size).0 (omega (arith, l, lesser.by_area)))) (le-leb (a * 65) tickets ((le-div_iff_mul-le (omega arith)).0 (omega (arith, l, lesser.by_tickets)))))
        (λ h.
        let x = leb-true (a * size) area (and_left (leb (a * size) area) _ h) in
        let y = leb-true (a * 65) tickets (and_right (leb (a * size) area) _ h) in
        le-leb a P (lesser.is_one a ((le-div_iff_mul-le some_size).1 x) ((le-div_iff_mul-le (omega arith)).1 y)))

    some_body : 0 < merge_below size
    unfolding merge_below body_limit
    some_body = omega (arith, q.least)

    -- b asks for at most k pages
    asks : (b k : ℕ) → leb b (k * merge_below size) ≡ leb (pages_asked size b) k
    asks b k =
        let m : ℕ = merge_below size in
        one_test (leb b (k * merge_below size)) (leb (pages_asked size b) k)
        (λ h. let l = leb-true b (k * merge_below size) h in
        let d : (b + (merge_below size - 1)) / merge_below size < k + 1 = (div-lt_iff_lt-mul some_body).1 (omega (arith, l, some_body)) in
        le-leb (pages_asked size b) k (omega (arith, d)))
        (λ h. let l = leb-true (pages_asked size b) k h in
        let d : b + (merge_below size - 1) < (k + 1) * merge_below size = (div-lt_iff_lt-mul some_body).0 (omega (arith, l)) in
        le-leb b (k * merge_below size) (omega (arith, d, some_body)))

    module _ (n b p : ℕ) (e : p ≡ P) where
      pub too_few_pages : p < 2 * n → false ≡ row_has_pages size n b area tickets
      too_few_pages l = sym (lt-leb (row_pages_asked size n b) P (omega (arith, l, e))) ∙ there (row_pages_asked size n b)

      pub the_budget_decides : 2 * n ≤ p → (r : Bool) → r ≡ leb b ((p - 2 * n) * merge_below size) → r ≡ row_has_pages size n b area tickets
      unfolding merge_below body_limit
      the_budget_decides l r d =
          d
          ∙ asks b (p - 2 * n)
          ∙ one_test (leb (pages_asked size b) (p - 2 * n)) (leb (row_pages_asked size n b) P)
          (λ h. le-leb (row_pages_asked size n b) P (omega (arith, leb-true (pages_asked size b) (p - 2 * n) h, l, e)))
          (λ h. le-leb (pages_asked size b) (p - 2 * n) (omega (arith, leb-true (row_pages_asked size n b) P h, l, e)))
          ∙ there (row_pages_asked size n b)

      pub a_budget_fits : area < 18446744073709551616 → Fits w64 ((p - 2 * n) * merge_below size)
      unfolding merge_below body_limit
      a_budget_fits h =
          let x : (p - 2 * n) * merge_below size ≤ (area / size) * size = mul-le-mul (omega (arith, e, lesser.by_area)) (omega arith) in
          record { fits = omega (arith, x, div-mul-le_self area size, h) }

-- ---- row after row

module _ (size list store : ℕ) (separators changes : List (List ℕ)) (values area tickets : ℕ) where
  abbrev N : ℕ
  N = call_verdict size list store separators changes values area tickets

  module _ (t₁ : Bool) (e₁ : t₁ ≡ room_right size list store) where
    pub a_wrong_room_has_number_7 : not t₁ ≡ true → 7 ≡ N
    unfolding call_verdict
    a_wrong_room_has_number_7 h = rw (← e₁, not-true t₁ h)

    module _ (h₁ : not t₁ ≡ false) (t₂ : Bool) (e₂ : t₂ ≡ leb (values_length changes) values) where
      pub missing_values_have_number_10 : not t₂ ≡ true → 10 ≡ N
      unfolding call_verdict
      missing_values_have_number_10 h = rw (← e₁, not-false t₁ h₁, ← e₂, not-true t₂ h)

      module _ (h₂ : not t₂ ≡ false) (t₃ : Bool) (e₃ : t₃ ≡ lengths_fit (value_limit size) changes) where
        pub long_values_have_number_12 : not t₃ ≡ true → 12 ≡ N
        unfolding call_verdict
        long_values_have_number_12 h = rw (← e₁, not-false t₁ h₁, ← e₂, not-false t₂ h₂, ← e₃, not-true t₃ h)

        module _ (h₃ : not t₃ ≡ false) (t₄ : Bool) (e₄ : t₄ ≡ keys_rising changes) where
          pub falling_keys_have_number_13 : not t₄ ≡ true → 13 ≡ N
          unfolding call_verdict
          falling_keys_have_number_13 h = rw (← e₁, not-false t₁ h₁, ← e₂, not-false t₂ h₂, ← e₃, not-false t₃ h₃, ← e₄, not-true t₄ h)

          module _ (h₄ : not t₄ ≡ false) (t₅ : Bool) (e₅ : t₅ ≡ row_has_pages size (length separators) (put_bodies changes) area tickets) where
            pub a_short_area_has_number_17 : not t₅ ≡ true → 17 ≡ N
            unfolding call_verdict
            a_short_area_has_number_17 h = rw (← e₁, not-false t₁ h₁, ← e₂, not-false t₂ h₂, ← e₃, not-false t₃ h₃, ← e₄, not-false t₄ h₄, ← e₅, not-true t₅ h)

            module _ (h₅ : not t₅ ≡ false) (t₆ : Bool) (e₆ : t₆ ≡ short_from_zero separators) where
              pub a_long_row_has_number_18 : not t₆ ≡ true → 18 ≡ N
              unfolding call_verdict
              a_long_row_has_number_18 h =
                  rw (← e₁, not-false t₁ h₁, ← e₂, not-false t₂ h₂, ← e₃, not-false t₃ h₃, ← e₄, not-false t₄ h₄, ← e₅, not-false t₅ h₅, ← e₆, not-true t₆ h)

              pub a_right_row_is_accepted : not t₆ ≡ false → 0 ≡ N
              unfolding call_verdict
              a_right_row_is_accepted h =
                  rw (← e₁, not-false t₁ h₁, ← e₂, not-false t₂ h₂, ← e₃, not-false t₃ h₃, ← e₄, not-false t₄ h₄, ← e₅, not-false t₅ h₅, ← e₆, not-false t₆ h)

pub the_limit_of_a_value : (size most : ℕ) (changes : List (List ℕ)) (t : Bool) → most ≡ value_limit size → t ≡ lengths_fit most changes → t ≡ lengths_fit (value_limit size) changes
the_limit_of_a_value size most changes t e d = rw (← e) d

-- ---- the pages, then the rest

module _ (size : ℕ) (pages : List ℕ) (separators : List (List ℕ)) (t : Bool) (e : t ≡ whole_pages size (length pages) (length separators)) where
  no_whole_pages : (later : ℕ) → not t ≡ true → 1 ≡ pages_verdict size pages separators later
  no_whole_pages later h = rw (← e, not-true t h)

  pub no_whole_pages_have_number_1 : not t ≡ true → 1 ≡ lent_row_verdict size pages separators
  unfolding lent_row_verdict
  no_whole_pages_have_number_1 h = no_whole_pages (unless 18 (short_from_zero separators) 0) h

  module _ (h : not t ≡ false) where
    module _ (v : ℕ) (ev : v ≡ leaves_verdict size 0 (row_of size pages separators)) where
      a_bad_leaf : (later : ℕ) → (v ≡ 0 → ⊥) → v ≡ pages_verdict size pages separators later
      a_bad_leaf later n = rw (← e, not-false t h, ← ev) (sym (first_refused v later n))

      no_bad_leaf : (later : ℕ) → v ≡ 0 → later ≡ pages_verdict size pages separators later
      no_bad_leaf later z = rw (← e, not-false t h, ← ev, z)

      pub a_bad_leaf_has_its_number : (v ≡ 0 → ⊥) → v ≡ lent_row_verdict size pages separators
      unfolding lent_row_verdict
      a_bad_leaf_has_its_number n = a_bad_leaf (unless 18 (short_from_zero separators) 0) n

      module _ (z : v ≡ 0) (u : Bool) (d : u ≡ short_from_zero separators) where
        pub a_lent_row_too_long_has_number_18 : not u ≡ true → 18 ≡ lent_row_verdict size pages separators
        unfolding lent_row_verdict
        a_lent_row_too_long_has_number_18 k = let a : 18 ≡ unless 18 (short_from_zero separators) 0 = rw (← d, not-true u k) in a ∙ no_bad_leaf (unless 18 (short_from_zero separators) 0) z

        pub a_right_lent_row_is_accepted : not u ≡ false → 0 ≡ lent_row_verdict size pages separators
        unfolding lent_row_verdict
        a_right_lent_row_is_accepted k = let a : 0 ≡ unless 18 (short_from_zero separators) 0 = rw (← d, not-false u k) in a ∙ no_bad_leaf (unless 18 (short_from_zero separators) 0) z

  -- the row call
  module _ (list store : ℕ) (changes : List (List ℕ)) (values area tickets : ℕ) where
    pub the_call_needs_whole_pages : not t ≡ true → 1 ≡ row_verdict size list store pages separators changes values area tickets
    unfolding row_verdict
    the_call_needs_whole_pages h = no_whole_pages (call_verdict size list store separators changes values area tickets) h

    module _ (h : not t ≡ false) (v : ℕ) (ev : v ≡ leaves_verdict size 0 (row_of size pages separators)) where
      pub the_call_needs_good_leaves : (v ≡ 0 → ⊥) → v ≡ row_verdict size list store pages separators changes values area tickets
      unfolding row_verdict
      the_call_needs_good_leaves n = a_bad_leaf h v ev (call_verdict size list store separators changes values area tickets) n

      pub the_rest_decides : v ≡ 0 → (r : ℕ) → r ≡ call_verdict size list store separators changes values area tickets → r ≡ row_verdict size list store pages separators changes values area tickets
      unfolding row_verdict
      the_rest_decides z r d = d ∙ no_bad_leaf h v ev (call_verdict size list store separators changes values area tickets) z
