-- Document 02, M-101: what the steps over a leaf's changes require, and what they make, by the definitions of an ingest and of the room in the middle.
use Rattle.std.proofs.Math.Option.{Option, none, some}
use Rattle.std.specs.Prelude.{◌≡◌, true, false, List, [], ℕ, ◌+◌, ◌≤◌, length, drop, Result, IfOk}
use Rattle.refusal.specs.declared.Refusal.{Refusal}
use Rattle.refusal.specs.Numbers.{number_of}
use Rattle.leaf_model.specs.Work.{Change}
use Rattle.leaf_work.specs.declared.Work.{Work}
use Rattle.leaf_work.specs.declared.Entry.{Entry}
use Rattle.leaf_work.specs.Pending.{pending_of}
use Rattle.leaf_work.specs.Ready.{Ready}
use Rattle.leaf_work.specs.Outcome.{ingest_number, Ingested, ingest_on}
use Rattle.row_turns.specs.Changes.{changed_all}
use Rattle.row_turns.specs.Turns.{rooms_verdict}
use Rattle.row_changes.specs.Packed.{key_of, is_put, flag_of, value_length, change_of, edits_of}
use Rattle.row_changes.specs.Tests.{values_length}
use Rattle.row_work.specs.Loaded.{Loaded, Stays}
use Rattle.row_ingest.specs.declared.Taking.{Taking}

-- "either a deletion or a value's length and flag"
abbrev pub change_by : List ℕ → List ℕ → Option Change
change_by c value = elim (is_put c) [ true ↦ some (record { value = value; flag = flag_of c }) | false ↦ none ]

-- ---- one change

-- its value is there, and the work takes an ingest
pub record ChangeThere (t : Taking) (list : List Entry) (store page c values : List ℕ) : Type 0 where
  pub ready : Ready t.work list store page
  pub value_there : t.value + value_length c ≤ length values

-- an ingest of change c, whose value begins at t's place
abbrev pub ingested_by : Taking → List Entry → List ℕ → List ℕ → List ℕ → List ℕ → Ingested
ingested_by t list store page c values = ingest_on 4096 t.work list store page (key_of c) (change_of c (drop t.value values)) 0

pub record ChangeTaken (t : Taking) (list : List Entry) (store page c values : List ℕ) (r : Result Taking Refusal) (list' : List Entry) (store' : List ℕ) : Type 0 where
  pub number_is : number_of r ≡ ingest_number (ingested_by t list store page c values).reply
  pub taken_is : IfOk r (λ t'. t' ≡ record { work = (ingested_by t list store page c values).work; value = t.value + value_length c })
  pub list_is : list' ≡ (ingested_by t list store page c values).list
  pub store_is : store' ≡ (ingested_by t list store page c values).store

-- ---- all of them

module _ (w : Work) (list : List Entry) (store page : List ℕ) (changes : List (List ℕ)) (values : List ℕ) where
  pub record ChangesThere : Type 0 where
    pub values_there : values_length changes ≤ length values
    pub loaded : Loaded 4096 w list store page (edits_of changes values)

  -- all changes are made
  pub record AllMade (t : Taking) (list' : List Entry) (store' : List ℕ) : Type 0 where
    pub value_is : t.value ≡ values_length changes
    pub loaded : Loaded 4096 t.work list' store' page []
    pub changed : Stays w t.work list' store' page (changed_all (edits_of changes values) (pending_of w list store page))

  -- room alone refuses them, and where it doesn't, they are made
  pub record ChangesTaken (r : Result Taking Refusal) (list' : List Entry) (store' : List ℕ) : Type 0 where
    pub number_is : number_of r ≡ rooms_verdict (length list) (length store) (edits_of changes values) (pending_of w list store page)
    pub made : IfOk r (λ t. AllMade t list' store')
