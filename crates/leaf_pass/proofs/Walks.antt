-- A pass that found nothing wrong: which entries it saw, and what they come to. Assumes nothing.
use mathlib.Core.Path.{◌≡◌, refl, sym, subst, ◌∙◌}
use mathlib.Core.Bool.{Bool, true, false, ◌&&◌, ◌||◌}
use mathlib.Core.List.{List, [], ◌∷◌, ◌++◌}
use Prim.Native.Nat.{ℕ, suc, ◌+◌, ◌-◌, ◌≤◌, ◌<◌}
use native.Mathlib.Omega.{arith}
use lib.Dec.{eqb, leb, ltb}
use lib.ListN.{length, take, drop, length-append}
use Rattle.std.specs.Prelude.{Option, Some, None, option_and_then}
use Rattle.std.proofs.lemmas.Option.{cond_some, option_and_then_some, same_Some}
use borrow.Author.Tests.{eq-eqb, ne_eqb, eqb-true, lt-ltb, le-leb, leb-true}
use Rattle.leaf_node.specs.Limits.{value_limit}
use Rattle.leaf_node.specs.Record.{Record, total}
use Rattle.leaf_node.specs.Page.{count, key_at, records_between, values_size}
use Rattle.leaf_node.specs.Good.{KeysRise}
use Rattle.leaf_node.specs.Fits.{All, nil, cons}
use Rattle.leaf_node.specs.Steps.{Laid}
use Rattle.leaf_node.proofs.Laying.{range_length}
use Rattle.leaf_model.specs.Basics.{nonempty}
use Rattle.leaf_model.specs.Work.{zero_key}
use Rattle.leaf_model.proofs.Tests.{and_left, and_right}
use Rattle.leaf_model.proofs.Lists.{all_append, all_right_lem}
use Rattle.leaf_work.specs.declared.Entry.{Entry}
use Rattle.leaf_work.specs.Tests.{every, same_bytes, is_zero, is_set, bit}
use Rattle.leaf_work.specs.Lent.{insert_at, chunk_of, an_insert}
use Rattle.leaf_work.specs.Pending.{held, entry_places, places_of, records_held}
use Rattle.leaf_work.specs.Sound.{is_flag, is_insert, is_chunk, is_operation, placed}
use Rattle.leaf_work.proofs.Tests.{and_both, bit_small, map-append}
use Rattle.leaf_work.proofs.Operations.{chunk_held, total_append}
use Rattle.leaf_work.proofs.Decoding.{Shape, insert, keep, placed_head, placed_upto, value_long}
use Rattle.leaf_pass.specs.declared.Tally.{Tally}
use Rattle.leaf_pass.specs.declared.Bounds.{Bounds}
use Rattle.leaf_pass.specs.Pass.{is_behind, insert_right, chunk_lies, chunk_right, with_insert, with_chunk, insert_passed, chunk_passed, passed, passed_all}
use Rattle.leaf_pass.proofs.Entries.{by_tests, places_of_a_chunk, place_of_an_insert}
use Rattle.leaf_pass.proofs.Rises.{behind, rises, last_from, is_some, is_behind_lem, rises_left, rises_right, rises_append, last_append, between_rises, between_first, between_last, between_some}

-- how many entries are inserts
abbrev pub inserts_in : List Entry → ℕ
inserts_in [] = 0
inserts_in (e ∷ es) = elim (an_insert e) [ true ↦ suc (inserts_in es) | false ↦ inserts_in es ]

module _ (b : Bounds) (p : List ℕ) where
  pub passed_append : (z : Tally) (xs ys : List Entry) → passed_all b p z (xs ++ ys) ≡ option_and_then (λ y. passed_all b p y ys) (passed_all b p z xs)
  passed_append z [] ys = refl
  passed_append z (x ∷ xs) ys = go (λ y. passed_append y xs ys) (passed b p z x)
    where
      go : ((y : Tally) → passed_all b p y (xs ++ ys) ≡ option_and_then (λ z. passed_all b p z ys) (passed_all b p y xs)) → (o : Option Tally)
          → option_and_then (λ y. passed_all b p y (xs ++ ys)) o ≡ option_and_then (λ y. passed_all b p y ys) (option_and_then (λ y. passed_all b p y xs) o)
      go ih None = refl
      go ih (Some y) = ih y

  -- ---- one entry among the used ones

  module _ (z : Tally) (e : Entry) (l : z.seen < b.used) where
    insert_next : an_insert e ≡ true → passed b p z e ≡ insert_passed b z e
    insert_next k = by_tests b p z e (lt-ltb z.seen b.used l) k

    chunk_next : an_insert e ≡ false → passed b p z e ≡ chunk_passed b p z e
    chunk_next k = by_tests b p z e (lt-ltb z.seen b.used l) k

  -- ---- the used ones

  pub data Walk : Tally → List Entry → Tally → Type 0 where
    stop : {z : Tally} → Walk z [] z
    take_insert : {z y : Tally} {e : Entry} {es : List Entry} → an_insert e ≡ true → insert_right b z e ≡ true → Walk (with_insert z e) es y → Walk z (e ∷ es) y
    take_chunk : {z y : Tally} {e : Entry} {es : List Entry} → an_insert e ≡ false → chunk_right b p z e ≡ true → Walk (with_chunk p z e) es y → Walk z (e ∷ es) y

  pub walked : (z y : Tally) (es : List Entry) → z.seen + length es ≤ b.used → passed_all b p z es ≡ Some y → Walk z es y
  walked z y [] l h = subst (Walk z []) (same_Some z y h) stop
  walked z y (e ∷ es) l h =
      option_and_then_some (λ x. passed_all b p x es) (passed b p z e) y h (λ x. go (walked (with_insert z e) y es (omega arith)) (walked (with_chunk p z e) y es (omega arith)) x (an_insert e) refl)
    where
      go : (passed_all b p (with_insert z e) es ≡ Some y → Walk (with_insert z e) es y) → (passed_all b p (with_chunk p z e) es ≡ Some y → Walk (with_chunk p z e) es y)
          → (x : Tally) (t : Bool) → an_insert e ≡ t → passed b p z e ≡ Some x → passed_all b p x es ≡ Some y → Walk z (e ∷ es) y
      go ih jh x true k q r =
          let f = cond_some (insert_right b z e) (with_insert z e) x (sym (insert_next z e (omega arith) k) ∙ q) in
          take_insert k f.0 (ih (rw f.1 r))
      go ih jh x false k q r =
          let f = cond_some (chunk_right b p z e) (with_chunk p z e) x (sym (chunk_next z e (omega arith) k) ∙ q) in
          take_chunk k f.0 (jh (rw f.1 r))

  pub walk_is_the_pass : {z y : Tally} {es : List Entry} → Walk z es y → z.seen + length es ≤ b.used → passed_all b p z es ≡ Some y
  walk_is_the_pass stop l = refl
  walk_is_the_pass (take_insert {z} {y} {e} {es} k f w) l = rw (insert_next z e (omega arith) k, f) (walk_is_the_pass w (omega arith))
  walk_is_the_pass (take_chunk {z} {y} {e} {es} k f w) l = rw (chunk_next z e (omega arith) k, f) (walk_is_the_pass w (omega arith))

  -- ---- what the entries come to

  module _ (size : ℕ) (most-is : b.most ≡ value_limit size) (store : List ℕ) (fits : b.filled ≤ length store) (low_in : b.low ≤ count p)
      (laid : 0 < count p → Laid p (count p)) (rise : KeysRise p)
      (fitting-base : (from to : ℕ) → from ≤ to → to ≤ count p → All (λ r. leb (length r.value) (value_limit size) ≡ true) (records_between p from to)) where
    abbrev recs : List Entry → List Record
    recs es = records_held store p (places_of p es)

    abbrev Fitting : Record → Type 0
    Fitting r = leb (length r.value) (value_limit size) ≡ true

    -- an insert's records, a chunk's records

    put_record : Entry → Record
    put_record e = record { key = e.key; value = take (e.to - e.from) (drop e.from store); flag = is_set e.flag }

    put_records : (e : Entry) (es : List Entry) → an_insert e ≡ true → recs (e ∷ es) ≡ put_record e ∷ recs es
    unfolding entry_places held put_record
    put_records e es k = rw (k, entry_places)

    keep_records : (e : Entry) (es : List Entry) → an_insert e ≡ false → recs (e ∷ es) ≡ records_between p e.from e.to ++ recs es
    unfolding entry_places
    keep_records e es k =
        map-append (held store p) (entry_places p e) (places_of p es) ∙ rw (k, entry_places, chunk_held store p e.from e.to)

    pub record Come (z : Tally) (es : List Entry) (y : Tally) : Type 0 where
      pub seen : y.seen ≡ z.seen + length es
      pub ops : every (is_operation b.low p) es ≡ true
      pub ends : placed y.end z.end es ≡ true
      pub counted : y.count ≡ z.count + length (recs es)
      pub summed : y.bytes ≡ z.bytes + total (recs es)
      pub fitting : All Fitting (recs es)
      pub rising : rises (is_some z.count) z.last (recs es) ≡ true
      pub latest : y.last ≡ last_from z.last (recs es)
      pub inserted : y.inserts ≡ z.inserts + inserts_in es

    some_more : (n m : ℕ) → 0 < m → is_some (n + m) ≡ true
    some_more n m h = rw (ne_eqb (n + m) 0 (λ e. omega (arith, e, h)))

    or-true : (t : Bool) → (t || true) ≡ true
    or-true true = refl
    or-true false = refl

    a_chunk : (e : Entry) → chunk_lies b.low e ≡ true → eqb e.sum (values_size p e.from e.to) ≡ true → is_chunk b.low p e ≡ true
    unfolding chunk_lies
    a_chunk e g h =
        let g₁ = and_right (eqb e.kind 2) (ltb e.from e.to && (leb e.to b.low && (same_bytes e.key zero_key && is_zero e.flag))) g in
        let g₂ = and_right (ltb e.from e.to) (leb e.to b.low && (same_bytes e.key zero_key && is_zero e.flag)) g₁ in
        let g₃ = and_right (leb e.to b.low) (same_bytes e.key zero_key && is_zero e.flag) g₂ in
        and_both (and_left (eqb e.kind 2) _ g)
        (and_both (and_both (and_left (ltb e.from e.to) _ g₁) (and_left (leb e.to b.low) _ g₂)) (and_both h g₃))

    module _ {z y : Tally} {e : Entry} {es : List Entry} where
      come_insert : an_insert e ≡ true → insert_right b z e ≡ true → Come (with_insert z e) es y → Come z (e ∷ es) y
      unfolding insert_right total put_record
      come_insert k f c =
          let s = place_of_an_insert b z e f in
          let fields = leb e.from e.to && (is_zero e.sum && is_flag e.flag) in
          let place = eqb e.from z.end && (leb e.to b.filled && leb (e.to - e.from) b.most) in
          let right : is_insert e ≡ true = and_both k (and_left fields (place && is_behind z.count z.last e.key) f) in
          let near : is_behind z.count z.last e.key ≡ true = and_right place _ (and_right fields (place && is_behind z.count z.last e.key) f) in
          let long : length (take (e.to - e.from) (drop e.from store)) ≡ e.to - e.from = value_long b.low store p b.filled fits e.from e.to s.order s.inside in
          record {
            seen = omega (arith, c.seen);
            ops = rw (right, every) c.ops;
            ends = rw (k, eq-eqb e.from z.end s.begins, placed) c.ends;
            counted = rw (put_records e es k) (omega (arith, c.counted));
            summed = rw (put_records e es k) (omega (arith, c.summed, long));
            fitting = rw (put_records e es k) (cons {x = put_record e} (rw long (le-leb (e.to - e.from) (value_limit size) (omega (arith, s.fitting, most-is)))) c.fitting);
            rising = rw (put_records e es k) (and_both {a = behind (is_some z.count) z.last e.key} (rw (← is_behind_lem z.count z.last e.key) near) (rw (some_more z.count 1 (omega arith)) at c.rising));
            latest = rw (put_records e es k) c.latest;
            inserted = rw (k, inserts_in) (omega (arith, c.inserted));
          }

      come_chunk : an_insert e ≡ false → chunk_right b p z e ≡ true → Come (with_chunk p z e) es y → Come z (e ∷ es) y
      unfolding chunk_right chunk_lies values_size
      come_chunk k f c =
          let lies = chunk_lies b.low e in
          let sums = eqb e.sum (values_size p e.from e.to) in
          let g = and_left lies (sums && is_behind z.count z.last (key_at p e.from)) f in
          let h = and_right lies (sums && is_behind z.count z.last (key_at p e.from)) f in
          let s = places_of_a_chunk b.low e g in
          let sum : e.sum ≡ values_size p e.from e.to = eqb-true _ _ (and_left sums _ h) in
          let near : behind (is_some z.count) z.last (key_at p e.from) ≡ true = rw (← is_behind_lem z.count z.last (key_at p e.from)) (and_right sums _ h) in
          let to_in : e.to ≤ count p = omega (arith, s.in_low, low_in) in
          let from_in : e.from ≤ e.to = omega (arith, s.some) in
          let long : length (records_between p e.from e.to) ≡ e.to - e.from = range_length p (count p) (laid (omega (arith, s.some, to_in))) e.from e.to from_in to_in in
          let right : is_chunk b.low p e ≡ true = a_chunk e g (and_left sums _ h) in
          let again : is_some z.count || nonempty (records_between p e.from e.to) ≡ is_some (z.count + (e.to - e.from)) =
          rw (between_some p rise e.from e.to s.some to_in, some_more z.count (e.to - e.from) (omega (arith, s.some))) (or-true (is_some z.count)) in
          record {
            seen = omega (arith, c.seen);
            ops = rw (k, right, every) c.ops;
            ends = rw (k, placed) c.ends;
            counted = rw (keep_records e es k, length-append (records_between p e.from e.to) (recs es), long) (omega (arith, c.counted));
            summed = rw (keep_records e es k, total_append (records_between p e.from e.to) (recs es)) (omega (arith, c.summed, sum));
            fitting = rw (keep_records e es k) (all_append (fitting-base e.from e.to from_in to_in) c.fitting);
            rising = rw (keep_records e es k)
                (rises_append (is_some z.count) z.last (records_between p e.from e.to) (recs es)
                (between_rises p rise e.from e.to s.some to_in (is_some z.count) z.last near)
                (rw (again, between_last p rise e.from e.to s.some to_in z.last) c.rising));
            latest = rw (keep_records e es k, last_append z.last (records_between p e.from e.to) (recs es), between_last p rise e.from e.to s.some to_in z.last) c.latest;
            inserted = rw (k, inserts_in) (omega (arith, c.inserted));
          }

    pub come : {z y : Tally} {es : List Entry} → Walk z es y → Come z es y
    unfolding total
    come {z} stop = record {
      seen = omega arith;
      ops = refl;
      ends = eq-eqb z.end z.end refl;
      counted = omega arith;
      summed = omega arith;
      fitting = nil;
      rising = refl;
      latest = refl;
      inserted = omega arith;
    }
    come (take_insert k f w) = come_insert k f (come w)
    come (take_chunk k f w) = come_chunk k f (come w)

    -- and the other way

    head_fitting : {x : Record} {xs : List Record} → All Fitting (x ∷ xs) → Fitting x
    head_fitting (cons a az) = a

    tail_fitting : {x : Record} {xs : List Record} → All Fitting (x ∷ xs) → All Fitting xs
    tail_fitting (cons a az) = az

    module _ (z : Tally) {es : List Entry} (ss : All (Shape b.low p) es) where
      module _ (from to : ℕ) (key : List ℕ) (flag : Bool) (o : from ≤ to) (h : placed b.filled z.end (insert_at from to key (bit flag) ∷ es) ≡ true)
          (li : All Fitting (recs (insert_at from to key (bit flag) ∷ es))) (ri : rises (is_some z.count) z.last (recs (insert_at from to key (bit flag) ∷ es)) ≡ true) where
        abbrev e₁ : Entry
        e₁ = insert_at from to key (bit flag)

        next_placed : placed b.filled to es ≡ true
        next_placed = (placed_head b.filled z.end from to key (bit flag) es h).1

        inside : to ≤ b.filled
        inside = placed_upto b.filled to ss next_placed

        li₁ : All Fitting (put_record e₁ ∷ recs es)
        li₁ = rw (put_records e₁ es refl) at li

        ri₁ : rises (is_some z.count) z.last (put_record e₁ ∷ recs es) ≡ true
        ri₁ = rw (put_records e₁ es refl) at ri

        insert_is_right : insert_right b z e₁ ≡ true
        unfolding insert_right put_record
        insert_is_right =
            let long : length (take (to - from) (drop from store)) ≡ to - from = value_long b.low store p b.filled fits from to o inside in
            let fitting : to - from ≤ b.most = omega (arith, long, most-is, leb-true (length (take (to - from) (drop from store))) (value_limit size) (head_fitting li₁)) in
            and_both (and_both (le-leb from to o) (le-leb (bit flag) 1 (bit_small flag)))
            (and_both
            (and_both (eq-eqb from z.end (placed_head b.filled z.end from to key (bit flag) es h).0) (and_both (le-leb to b.filled inside) (le-leb (to - from) b.most fitting)))
            (rw (is_behind_lem z.count z.last key) (and_left (behind (is_some z.count) z.last key) _ ri₁)))

        next_rising : rises (is_some (z.count + 1)) key (recs es) ≡ true
        unfolding put_record
        next_rising = rw (some_more z.count 1 (omega arith)) (and_right (behind (is_some z.count) z.last key) _ ri₁)

      module _ (from to : ℕ) (l : from < to) (m : to ≤ b.low)
          (li : All Fitting (recs (chunk_of from to (values_size p from to) ∷ es))) (ri : rises (is_some z.count) z.last (recs (chunk_of from to (values_size p from to) ∷ es)) ≡ true) where
        abbrev e₂ : Entry
        e₂ = chunk_of from to (values_size p from to)

        abbrev cs : List Record
        cs = records_between p from to

        to_in : to ≤ count p
        to_in = omega (arith, low_in)

        li₂ : All Fitting (cs ++ recs es)
        li₂ = rw (keep_records e₂ es refl) at li

        ri₂ : rises (is_some z.count) z.last (cs ++ recs es) ≡ true
        ri₂ = rw (keep_records e₂ es refl) at ri

        chunk_is_right : chunk_right b p z e₂ ≡ true
        unfolding chunk_right chunk_lies
        chunk_is_right =
            and_both (and_both (lt-ltb from to l) (and_both (le-leb to b.low m) refl))
            (and_both (eq-eqb (values_size p from to) (values_size p from to) refl)
            (rw (is_behind_lem z.count z.last (key_at p from))
            (between_first p rise from to l to_in (is_some z.count) z.last (rises_left (is_some z.count) z.last cs (recs es) ri₂))))

        next_rising₂ : rises (is_some (z.count + (to - from))) (key_at p (to - 1)) (recs es) ≡ true
        next_rising₂ =
            let again : (is_some z.count || nonempty cs) ≡ is_some (z.count + (to - from)) = rw (between_some p rise from to l to_in, some_more z.count (to - from) (omega arith)) (or-true (is_some z.count)) in
            rw (← again, ← between_last p rise from to l to_in z.last) (rises_right (is_some z.count) z.last cs (recs es) ri₂)

    pub to_walk : (z : Tally) {es : List Entry} → All (Shape b.low p) es → placed b.filled z.end es ≡ true → All Fitting (recs es)
        → rises (is_some z.count) z.last (recs es) ≡ true → (y : Tally) × Walk z es y
    to_walk z nil h li ri = (z, stop)
    to_walk z (cons {xs = es} (insert from to key flag o) ss) h li ri =
        let r = to_walk (with_insert z (insert_at from to key (bit flag))) ss (next_placed z ss from to key flag o h li ri) (tail_fitting (li₁ z ss from to key flag o h li ri)) (next_rising z ss from to key flag o h li ri) in
        (r.0, take_insert {e = insert_at from to key (bit flag)} refl (insert_is_right z ss from to key flag o h li ri) r.1)
    to_walk z (cons {xs = es} (keep from to l m) ss) h li ri =
        let r = to_walk (with_chunk p z (chunk_of from to (values_size p from to))) ss h (all_right_lem (records_between p from to) (recs es) (li₂ z ss from to l m li ri)) (next_rising₂ z ss from to l m li ri) in
        (r.0, take_chunk {e = chunk_of from to (values_size p from to)} refl (chunk_is_right z ss from to l m li ri) r.1)
