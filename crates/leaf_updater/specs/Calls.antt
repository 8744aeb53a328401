-- Document 01, "To the testers": "Each call's contract settles reply, work record and every lent byte from the inputs, refused calls as well".
-- What the calls on a work answer and leave, in terms of the definitions that the claim speaks of: the contracts' own words. Primes are what
-- is there after the call. The digest's words are crate `digest`'s `DigestSays`.
use Rattle.std.specs.Prelude.{◌≡◌, Bool, List, ℕ}
use Rattle.std.proofs.Math.Option.{Option}
use Rattle.leaf_model.specs.Work.{Change}
use Rattle.leaf_work.specs.declared.Work.{Work}
use Rattle.leaf_work.specs.declared.Entry.{Entry}
use Rattle.leaf_work.specs.Verdict.{Opening}
use Rattle.leaf_work.specs.Outcome.{reply_number, Opened, open_of, Ingested, ingest_of, Changed, next_base_of, remove_cutoff_of}
use Rattle.leaf_take.specs.declared.LeafReport.{LeafReport}
use Rattle.leaf_take.specs.Reply.{report_out}

abbrev pub OpenSays : Bool → Opening → Work → List Entry → List ℕ → ℕ → Work → List Entry → List ℕ → Type 0
OpenSays every x w list store r w' list' store' =
    (let o : Opened = open_of 4096 every x w list store in (r ≡ reply_number o.reply) × (w' ≡ o.work) × (list' ≡ o.list) × (store' ≡ o.store))

abbrev pub IngestSays : Work → List Entry → List ℕ → List ℕ → List ℕ → Option Change → LeafReport → Work → List Entry → List ℕ → Type 0
IngestSays w list store page key c r w' list' store' =
    (let o : Ingested = ingest_of 4096 w list store page key c in (r ≡ report_out o.reply) × (w' ≡ o.work) × (list' ≡ o.list) × (store' ≡ o.store))

-- next base and cutoff removal only read list and store
abbrev pub NextBaseSays : Work → List Entry → List ℕ → List ℕ → List ℕ → Bool → List ℕ → ℕ → Work → Type 0
NextBaseSays w list store page separator cut cutoff r w' =
    (let o : Changed = next_base_of 4096 w list store page separator cut cutoff in (r ≡ reply_number o.reply) × (w' ≡ o.work))

abbrev pub RemoveCutoffSays : Work → List Entry → List ℕ → ℕ → Work → Type 0
RemoveCutoffSays w list store r w' = (let o : Changed = remove_cutoff_of 4096 w list store in (r ≡ reply_number o.reply) × (w' ≡ o.work))
