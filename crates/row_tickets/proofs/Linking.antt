-- One leaf linked, and leaf after leaf: what the functions write is what the definitions say. Assumes nothing.
use mathlib.Core.Path.{◌≡◌, sym, ap, ◌∙◌}
use mathlib.Core.List.{List, ◌∷◌}
use Prim.Native.Nat.{ℕ, suc, ◌+◌, ◌-◌, ◌*◌, ◌≤◌, ◌<◌}
use native.Mathlib.Omega.{arith}
use lib.ListN.{length, take, drop}
use lib.Seq.{drop-drop}
use Rattle.leaf_node.specs.Ticket.{length_read}
use Rattle.row_tickets.specs.Linked.{separator_at, linked, linked_all, last_linked, separators_read}

-- ---- leaf after leaf

module _ (tickets₀ : List ℕ) (n : ℕ) (last own : List ℕ) (count : ℕ) where
  pub record LinkedTo (tickets key : List ℕ) (at i : ℕ) : Type 0 where
    pub i_in : i ≤ count
    pub at_in : at ≤ 65 * i
    pub as_long : length tickets ≡ length tickets₀
    pub tickets_are : linked_all (n + i) key (separators_read (count - i) (drop at own)) tickets ≡ linked_all n last (separators_read count own) tickets₀
    pub last_is : last_linked (n + i) key (separators_read (count - i) (drop at own)) ≡ last_linked n last (separators_read count own)

  module _ (tickets key : List ℕ) (at i : ℕ) (h : LinkedTo tickets key at i) (less : i < count) where
    abbrev b : List ℕ
    b = drop at own

    left_is : separators_read (count - i) b ≡ take 32 (drop 1 b) ∷ separators_read (count - (i + 1)) (drop (length_read b) b)
    left_is = let m : count - i ≡ suc (count - (i + 1)) = omega (arith, less) in ap (λ (k : ℕ). separators_read k b) m

    abbrev s : List ℕ
    s = take 32 (drop 1 b)

    pub one_more_is_linked : (separator : List ℕ) → separator ≡ take 32 (drop (at + 1) own) → (tickets' : List ℕ) → tickets' ≡ linked (n + i) key separator tickets → length tickets' ≡ length tickets
        → (key' : List ℕ) → key' ≡ separator_at (n + i) separator → (len : ℕ) → (len ≡ length_read b) × (len ≤ 65) → LinkedTo tickets' key' (at + len) (i + 1)
    one_more_is_linked separator p tickets' q l key' k len m =
        let s-is : separator ≡ s = p ∙ ap (take 32) (sym (drop-drop 1 at own)) in
        let n-is : n + (i + 1) ≡ n + i + 1 = omega arith in
        let b-is : drop (at + len) own ≡ drop (length_read b) b = sym (drop-drop len at own) ∙ ap (λ (x : ℕ). drop x b) m.0 in
        let q' : tickets' ≡ linked (n + i) key s tickets = q ∙ ap (λ (x : List ℕ). linked (n + i) key x tickets) s-is in
        let k' : key' ≡ separator_at (n + i) s = k ∙ ap (separator_at (n + i)) s-is in
        record {
          i_in = omega (arith, less);
          at_in = omega (arith, h.at_in, m.1);
          as_long = l ∙ h.as_long;
          tickets_are = rw (n-is, b-is, q', k') (sym (ap (λ (ss : List (List ℕ)). linked_all (n + i) key ss tickets) left_is) ∙ h.tickets_are);
          last_is = rw (n-is, b-is, k') (sym (ap (λ (ss : List (List ℕ)). last_linked (n + i) key ss) left_is) ∙ h.last_is);
        }
