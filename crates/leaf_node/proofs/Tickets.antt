-- Tickets that are packed one behind the other are read back as they were. Assumes nothing.
use Prim.Native.Nat.{ℕ}
use mathlib.Core.Path.{◌≡◌, refl, ap}
use mathlib.Core.Option.{Option, none, some}
use mathlib.Core.List.{List, ◌∷◌, ◌++◌, append_assoc}
use native.Mathlib.Omega.{arith}
use lib.ListN.{length, take, drop, length-append}
use lib.Seq.{take_at, drop_at}
use Rattle.leaf_node.specs.Ticket.{Ticket, packed_with, packed, packed_all, cutoff_read, length_read, read_tickets, Formed}
use Rattle.leaf_node.specs.Fits.{All, nil, cons}

-- the first ticket of a buffer: its separator, its cutoff, and where the next begins
module _ (s : List ℕ) (rest : List ℕ) (l : length s ≡ 32) where
  separator_read : (o : Option (List ℕ)) → take 32 (drop 1 (packed_with s o ++ rest)) ≡ s
  separator_read (some c) = rw (append_assoc s c rest) (take_at s (c ++ rest) 32 l)
  separator_read none = take_at s rest 32 l

  cutoff_read_lem : (o : Option (List ℕ)) → ((k : List ℕ) → o ≡ some k → length k ≡ 32) → cutoff_read (packed_with s o ++ rest) ≡ o
  cutoff_read_lem (some c) h =
      ap some (rw (append_assoc s c rest, drop_at s (c ++ rest) 32 l) (take_at c rest 32 (h c refl)))
  cutoff_read_lem none h = refl

  rest_read : (o : Option (List ℕ)) → ((k : List ℕ) → o ≡ some k → length k ≡ 32) → drop (length_read (packed_with s o ++ rest)) (packed_with s o ++ rest) ≡ rest
  rest_read (some c) h = drop_at (s ++ c) rest 64 (simp length-append (omega (arith, h c refl)))
  rest_read none h = drop_at s rest 32 l

pub packed_tickets_are_read_back : {ts : List Ticket} → All Formed ts → (rest : List ℕ) → read_tickets (length ts) (packed_all ts ++ rest) ≡ ts
packed_tickets_are_read_back nil rest = refl
packed_tickets_are_read_back (cons {x = t} {xs = ts} f a) rest =
    let b = packed_all ts ++ rest in
    let e : packed_all (t ∷ ts) ++ rest ≡ packed t ++ b = append_assoc (packed t) (packed_all ts) rest in
    let s = separator_read t.separator b f.separator t.cutoff in
    let c = cutoff_read_lem t.separator b f.separator t.cutoff f.cutoff in
    let r = rest_read t.separator b f.separator t.cutoff f.cutoff in
    let more : read_tickets (length ts) (drop (length_read (packed t ++ b)) (packed t ++ b)) ≡ ts = rw r (packed_tickets_are_read_back a rest) in
    rw e (λ i. record { separator = s i; cutoff = c i } ∷ more i)
