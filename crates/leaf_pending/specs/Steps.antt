-- What the functions below the calls require, as plain facts; `proofs/Twins.antt` has them of all that earns no refusal.
use Rattle.std.specs.Prelude.{◌≡◌, List, ℕ, ◌+◌, ◌≤◌, ◌<◌, length, get_or}
use Rattle.leaf_work.specs.declared.Work.{Work}
use Rattle.leaf_work.specs.declared.Entry.{Entry}
use Rattle.leaf_work.specs.Lent.{blank}
use Rattle.leaf_work.specs.Pending.{Store, Base, Place, held_by}
use Rattle.leaf_work.specs.Ready.{EntryIn}
use Rattle.leaf_pending.specs.declared.TwinPlace.{TwinPlace}
use Rattle.leaf_pending.specs.Reply.{holder_number}

-- an entry whose records can be read, over a base of n records
pub record EntryRead (n : ℕ) (e : Entry) : Type 0 where
  pub order : e.from ≤ e.to
  pub chunk_in : (e.kind ≡ 1 → ⊥) → e.to ≤ n

-- a work whose entries and rest can be read
pub record Walk (w : Work) (list : List Entry) (n : ℕ) : Type 0 where
  pub used_in : w.used ≤ length list
  pub low_in : w.low ≤ n
  pub entries : (i : ℕ) → i < w.used → EntryIn w.low w.filled (get_or list i blank)

-- a place that lies in its holder
abbrev pub LiesIn : List ℕ → List ℕ → Place → Type 0
LiesIn store page x = x.offset + x.size ≤ length (held_by x.holder store page)

-- a twin whose place lies in its holder
pub record TwinIn (t : TwinPlace) (store page : List ℕ) : Type 0 where
  pub in_store : t.holder ≡ holder_number Store → t.offset + t.len ≤ length store
  pub in_base_lem : t.holder ≡ holder_number Base → t.offset + t.len ≤ length page
