-- Answers of calls on a work against a record, part by part. Assumes nothing.
use mathlib.Core.Path.{◌≡◌}
use mathlib.Core.Bool.{Bool, ◌&&◌}
use mathlib.Core.List.{List, ◌++◌}
use Prim.Native.Nat.{ℕ, ◌*◌, ◌≤◌, ◌<◌}
use lib.Dec.{eqb}
use borrow.Author.Tests.{le-leb, lt-leb}
use native.Mathlib.Omega.{arith}
use lib.ListN.{length, get_or, take, drop, length-drop}
use lib.Seq.{length-take-le}
use Rattle.leaf_node.specs.Page.{word}
use Rattle.leaf_node.specs.Build.{put}
use Rattle.leaf_take.specs.declared.LeafReport.{LeafReport}
use Rattle.leaf_digest.specs.declared.LeafGave.{LeafGave}
use Rattle.leaf_work.specs.Tests.{every}
use Rattle.replay.specs.Parts.{has_at, has_part, is_held}
use Rattle.replay.specs.declared.score.Score.{Score}
use Rattle.replay.specs.Counts.{Counted}
use Rattle.replay.specs.Answers.{page_lent, same_report, same_digest, only_given, same_leaf}

module _ (v : List ℕ) (m n : ℕ) (e : m ≡ word v 73) where
  pub the_report_decides : n ≡ word v 75 → (reply : LeafReport) (a b : ℕ) → a ≡ get_or v 71 0 → b ≡ get_or v 72 0
      → ((eqb reply.refusal a && eqb reply.reported b) && (eqb reply.offset m && eqb reply.len n)) ≡ same_report v reply
  the_report_decides f reply a b g h = rw (e, f, g, h)

  pub the_rest_is_held : n ≡ word v 75 → (area tickets : List ℕ) (a b : Bool) → a ≡ every is_held (drop (4096 * m) area) → b ≡ every is_held (drop n tickets)
      → (a && b) ≡ only_given v area tickets
  the_rest_is_held f area tickets a b g h = rw (g, h, e, f)

pub the_digest_decides : (v : List ℕ) (m : ℕ) → m ≡ word v 73 → (reply : LeafGave) (a b : ℕ) → a ≡ get_or v 71 0 → b ≡ get_or v 72 0 → (c : Bool)
    → c ≡ has_at v 77 reply.cutoff → ((eqb reply.refusal a && eqb reply.waiting b) && (eqb reply.leaves m && c)) ≡ same_digest v reply
the_digest_decides v m e reply a b g h c q = rw (e, g, h, q)

module _ (v page : List ℕ) where
  pub a_short_record_lends_nothing : length v < 4205 → page ≡ page_lent v page
  a_short_record_lends_nothing h = rw (lt-leb 4205 (length v) h)

  pub a_short_page_stays : 4205 ≤ length v → length page < 4096 → page ≡ page_lent v page
  a_short_page_stays h k = rw (le-leb 4205 (length v) h, lt-leb 4096 (length page) k)

  pub the_page_is_lent : 4205 ≤ length v → 4096 ≤ length page → (p : List ℕ) → p ≡ take 4096 (drop 109 v) → p ++ drop 4096 page ≡ page_lent v page
  unfolding put
  the_page_is_lent h k p e =
      let n : length (take 4096 (drop 109 v)) ≡ 4096 = length-take-le 4096 (drop 109 v) (omega (arith, length-drop 109 v)) in
      rw (le-leb 4205 (length v) h, le-leb 4096 (length page) k, e, n)

-- the record of a leaf, its page and its ticket
pub the_leaf_is_counted : (v area tickets : List ℕ) (leaf ticket n kind : ℕ) (a b : Bool) (before after : Score) → n ≡ word v 67 → kind ≡ get_or v 0 0 → a ≡ has_part v 109 area leaf 4096
    → b ≡ has_part v 1 tickets ticket n → Counted (eqb kind 6 && (a && b)) before after → Counted (same_leaf v area leaf tickets ticket) before after
the_leaf_is_counted v area tickets leaf ticket n kind a b before after e k f g c = rw (← e, ← k, ← f, ← g) c
