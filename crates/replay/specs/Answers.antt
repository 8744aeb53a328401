-- Answers of calls on a work against a record of the file `sequences`: compare/src/record/sequences.rs has the table of its bytes.
use Rattle.std.specs.Prelude.{Bool, cond, ◌&&◌, List, ℕ, ◌*◌, leb, eqb, length, get_or, take, drop}
use Rattle.leaf_node.specs.Page.{word}
use Rattle.leaf_node.specs.Build.{put}
use Rattle.leaf_take.specs.declared.LeafReport.{LeafReport}
use Rattle.leaf_digest.specs.declared.LeafGave.{LeafGave}
use Rattle.leaf_work.specs.Tests.{every}
use Rattle.replay.specs.Parts.{has_at, has_part, is_held}

-- a page: the lent one's first bytes are the record's, where both are long enough
abbrev pub page_lent : List ℕ → List ℕ → List ℕ
page_lent v page = cond (leb 4205 (length v) && leb 4096 (length page)) (put page 0 (take 4096 (drop 109 v))) page

-- an ingest: refusal, and the cell that it reports
abbrev pub same_report : List ℕ → LeafReport → Bool
same_report v reply =
    (eqb reply.refusal (get_or v 71 0) && eqb reply.reported (get_or v 72 0)) && (eqb reply.offset (word v 73) && eqb reply.len (word v 75))

-- a digest: refusal, how many leaves, and the cutoff for which it waits
abbrev pub same_digest : List ℕ → LeafGave → Bool
same_digest v reply =
    (eqb reply.refusal (get_or v 71 0) && eqb reply.waiting (get_or v 72 0)) && (eqb reply.leaves (word v 73) && has_at v 77 reply.cutoff)

-- the bytes of area and tickets behind the leaves and tickets that are due hold what they held
abbrev pub only_given : List ℕ → List ℕ → List ℕ → Bool
only_given v area tickets = every is_held (drop (4096 * word v 73) area) && every is_held (drop (word v 75) tickets)

-- a leaf that begins there: its record is one of a leaf, with its page and its ticket
abbrev pub same_leaf : List ℕ → List ℕ → ℕ → List ℕ → ℕ → Bool
same_leaf v area leaf tickets ticket = eqb (get_or v 0 0) 6 && (has_part v 109 area leaf 4096 && has_part v 1 tickets ticket (word v 67))
