-- Tickets: document 01, "Digest, step by step": "packed: kind 1, then separator and cutoff (65 bytes); kind 2, then separator (33 bytes), no cutoff".
use Rattle.std.specs.Prelude.{ℕ, zero, suc, ◌≡◌, true, false, List, [], ◌∷◌, ◌++◌, eqb, length, get_or, take, drop}
use Rattle.std.proofs.Math.Option.{Option, none, some}

pub record Ticket : Type 0 where
  pub separator : List ℕ
  pub cutoff : Option (List ℕ)

-- ---- writing

abbrev pub packed_with : List ℕ → Option (List ℕ) → List ℕ
packed_with separator (some cutoff) = 1 ∷ separator ++ cutoff
packed_with separator none = 2 ∷ separator

abbrev pub packed : Ticket → List ℕ
packed t = packed_with t.separator t.cutoff

-- the tickets of a row of leaves, one behind the other
abbrev pub packed_all : List Ticket → List ℕ
packed_all [] = []
packed_all (t ∷ ts) = packed t ++ packed_all ts

-- ---- reading

-- the first ticket's cutoff and length go by its kind
abbrev pub cutoff_read : List ℕ → Option (List ℕ)
cutoff_read bytes = elim (eqb (get_or bytes 0 0) 1) [ true ↦ some (take 32 (drop 33 bytes)) | false ↦ none ]

abbrev pub length_read : List ℕ → ℕ
length_read bytes = elim (eqb (get_or bytes 0 0) 1) [ true ↦ 65 | false ↦ 33 ]

-- the first n tickets of a buffer
abbrev pub read_tickets : ℕ → List ℕ → List Ticket
read_tickets zero bytes = []
read_tickets (suc n) bytes = record { separator = take 32 (drop 1 bytes); cutoff = cutoff_read bytes } ∷ read_tickets n (drop (length_read bytes) bytes)

-- a ticket whose keys have 32 bytes
pub record Formed (t : Ticket) : Type 0 where
  pub separator : length t.separator ≡ 32
  pub cutoff : (k : List ℕ) → t.cutoff ≡ some k → length k ≡ 32
