-- Document 01, "The tally of demand 3": what the tally holds, and a sequence of calls from an opening on.
use Rattle.std.specs.Prelude.{Bool, true, false, ◌&&◌, List, [], ◌∷◌, ◌++◌, ℕ}
use Rattle.std.proofs.Math.Option.{Option, none, some}
use Rattle.bit_ops.specs.Key.{lt_key, eq_key}
use Rattle.leaf_node.specs.Record.{Record}
use Rattle.leaf_model.specs.Work.{Open, Work, Leaf, Base, Change, Call, Ingest, Digest, NextBase, RemoveCutoff, zero_key, inserted, good_base, allowed, effect, gives}

-- "a record of that key is struck out"
abbrev pub strike : List ℕ → List Record → List Record
strike k [] = []
strike k (x ∷ xs) = elim (eq_key k x.key) [ true ↦ strike k xs | false ↦ x ∷ strike k xs ]

-- "a new value and its flag then stand at the key's place in rising order"
abbrev pub place : Record → List Record → List Record
place r [] = r ∷ []
place r (x ∷ xs) = elim (lt_key x.key r.key) [ true ↦ x ∷ place r xs | false ↦ r ∷ x ∷ xs ]

abbrev pub place_all : List Record → List Record → List Record
place_all [] t = t
place_all (r ∷ rs) t = place r (place_all rs t)

-- "Ingest: a record of that key is struck out; a new value and its flag then stand at the key's place in rising order."
abbrev pub changed : List ℕ → Option Change → List Record → List Record
changed k c t = place_all (inserted k c) (strike k t)

-- "Next base: the new page's records go behind." "Digest, cutoff removal [..]: no change." `step` has the refused calls.
abbrev pub tallied : Call → List Record → List Record
tallied (Ingest k c) t = changed k c t
tallied Digest t = t
tallied (NextBase b) t = t ++ b.records
tallied RemoveCutoff t = t

-- a work, the leaves given out so far, "earlier digests first", and the tally, which is "fed only the calls and whether each was refused"
pub record Run : Type 0 where
  pub work : Work
  pub leaves : List Leaf
  pub tally : List Record

abbrev pub taken : ℕ → Run → Call → Run
taken size s c = record { work = effect size s.work c; leaves = s.leaves ++ gives size s.work c; tally = tallied c s.tally }

-- A call, and whether it passes all tests that are not made here (room, area, lent pages). A refused call changes nothing.
pub record Try : Type 0 where
  pub call : Call
  pub passes : Bool

abbrev pub step : ℕ → Run → Try → Run
step size s c = elim (c.passes && allowed size s.work c.call) [ true ↦ taken size s c.call | false ↦ s ]

abbrev pub steps : ℕ → Run → List Try → Run
steps size s [] = s
steps size s (c ∷ cs) = steps size (step size s c) cs

-- "Opening: with a base (page, separator, optional cutoff), or with none and no cutoff." The tally: "the base page's records, or none".
abbrev pub opened_on : Base → Run
opened_on b = record {
  work = record {
    turn = Open;
    listed = [];
    rest = b.records;
    override = none;
    latest = b.separator;
    cutoff = b.cutoff;
    floor = b.separator;
    last = none;
  };
  leaves = [];
  tally = b.records;
}

-- over records, no base is one without records, whose separator is zeros, and which has no cutoff
abbrev pub opened : Option Base → Run
opened (some b) = opened_on b
opened none = opened_on (record { records = []; separator = zero_key; cutoff = none })

abbrev pub good_opening : ℕ → Option Base → Bool
good_opening size none = true
good_opening size (some b) = good_base size b
