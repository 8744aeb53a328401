-- Document 01, "A work and its turns": the answer of a digest, as the definition has it.
use Rattle.std.specs.Prelude.{List, ℕ, Option, None, Some, Result, Ok, Err}
use Rattle.refusal.specs.declared.Refusal.{Refusal}
use Rattle.refusal.specs.Numbers.{number}
use Rattle.leaf_model.specs.Work.{zero_key}
use Rattle.leaf_work.specs.Digest as outcome
use Rattle.leaf_digest.specs.declared.LeafGave.{LeafGave}
use Rattle.leaf_digest.specs.declared.Given.{Given}

-- the struct for each case; a refusal has zeros in every other field
abbrev pub gave_out : outcome.DigestReply → LeafGave
gave_out (outcome.DigestRefused n) = record { refusal = n; waiting = 0; leaves = 0; cutoff = zero_key }
gave_out (outcome.Finished leaves) = record { refusal = 0; waiting = 0; leaves = leaves; cutoff = zero_key }
gave_out (outcome.Merge leaves cutoff) = record { refusal = 0; waiting = 1; leaves = leaves; cutoff = cutoff }

-- "how many leaves it gave, and done, or the cutoff for which it waits"
abbrev pub waits_for : ℕ → Option (List ℕ) → outcome.DigestReply
waits_for leaves None = outcome.Finished leaves
waits_for leaves (Some cutoff) = outcome.Merge leaves cutoff

abbrev pub given_of : Given → outcome.DigestReply
given_of given = waits_for given.leaves given.cutoff

-- the same or a refusal
abbrev pub reply_of : Result Given Refusal → outcome.DigestReply
reply_of (Ok given) = given_of given
reply_of (Err refusal) = outcome.DigestRefused (number refusal)
