-- A ticket, written part after part. Assumes nothing.
use mathlib.Core.Path.{◌≡◌, refl, sym, ◌∙◌}
use mathlib.Core.Option.{some}
use mathlib.Core.List.{List, [], ◌∷◌, append_assoc}
use Prim.Native.Nat.{ℕ, suc, ◌+◌, ◌≤◌}
use native.Mathlib.Omega.{arith}
use native.Mathlib.Numerals.{add-one}
use lib.ListN.{length, take, drop, set, length-append}
use lib.Seq.{set_split}
use Rattle.leaf_node.specs.Build.{put}
use Rattle.leaf_node.specs.Ticket.{packed_with}
use Rattle.leaf_builder.proofs.Putting.{put_put}

-- ---- kind and separator

module _ (d : List ℕ) (at : ℕ) (s : List ℕ) (room : at + 33 ≤ length d) (ls : length s ≡ 32) (k : ℕ) where
  one_byte : set d at k ≡ put d at (k ∷ [])
  unfolding put
  one_byte = set_split d at k (omega arith) ∙ rw (add-one at) (sym (append_assoc (take at d) (k ∷ []) (drop (suc at) d)))

  pub kind_and_separator : (x : List ℕ) → x ≡ put (set d at k) (at + 1) s → x ≡ put d at (k ∷ s)
  kind_and_separator x q = q ∙ rw (one_byte, put_put d at (k ∷ []) (at + 1) s refl (omega arith))

-- ---- the ticket

module _ (at : ℕ) (s : List ℕ) (ls : length s ≡ 32) where
  module _ (c : List ℕ) (lc : length c ≡ 32) where
    pub a_ticket_with_a_cutoff : (d x y : List ℕ) → at + 65 ≤ length d → x ≡ put d at (1 ∷ s) → y ≡ put x (at + 33) c → y ≡ put d at (packed_with s (some c))
    a_ticket_with_a_cutoff d x y room q p = p ∙ rw (q, put_put d at (1 ∷ s) (at + 33) c (omega arith) (omega arith))

    pub a_ticket_with_a_cutoff_ends : at + 65 ≡ at + length (packed_with s (some c))
    a_ticket_with_a_cutoff_ends = omega (arith, length-append s c)
