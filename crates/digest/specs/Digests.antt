-- Document 01, "To the testers": "Each call's contract settles reply, work record and every lent byte from the inputs, refused calls as well".
-- What a digest answers in numbers and leaves: the contract's own words. Primes are what is there after the call.
use Rattle.std.specs.Prelude.{◌≡◌, List, ℕ}
use Rattle.leaf_work.specs.declared.Work.{Work}
use Rattle.leaf_work.specs.declared.Entry.{Entry}
use Rattle.leaf_work.specs.Digest.{Digested, digest_of}
use Rattle.leaf_digest.specs.declared.LeafGave.{LeafGave}
use Rattle.leaf_digest.specs.Reply.{gave_out}

abbrev pub DigestSays : Work → List Entry → List ℕ → List ℕ → List ℕ → List ℕ → LeafGave → Work → List Entry → List ℕ → List ℕ → List ℕ → Type 0
DigestSays w list store page area tickets r w' list' store' area' tickets' =
    (let o : Digested = digest_of 4096 w list store page area tickets in
    (r ≡ gave_out o.reply) × (w' ≡ o.work) × (list' ≡ o.list) × (store' ≡ o.store) × (area' ≡ o.area) × (tickets' ≡ o.tickets))
