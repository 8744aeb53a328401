-- What is claimed of a sequence of calls over records: demand 3 as far as it speaks of leaves and the tally. Refusals and the digest's steps are in leaf_claim.
use Rattle.std.specs.Prelude.{◌≡◌, true, List, ◌∷◌, ◌++◌, map, ℕ, ◌≤◌, ◌<◌}
use Rattle.std.proofs.Math.Option.{some}
use Rattle.bit_ops.specs.Key.{num}
use Rattle.leaf_node.specs.Limits.{body_limit, merge_below}
use Rattle.leaf_node.specs.Record.{Record, body}
use Rattle.leaf_node.specs.Fits.{All, Rising}
use Rattle.leaf_model.specs.Basics.{joined, nonempty}
use Rattle.leaf_model.specs.Work.{Leaf, pending, last_key}
use Rattle.leaf_model.specs.Tally.{Run}

-- keys in order, by the numbers that they spell: `lt_key a b` is true, `lt_key b a` is false
abbrev pub Lt : List ℕ → List ℕ → Type 0
Lt a b = num a < num b

abbrev pub Le : List ℕ → List ℕ → Type 0
Le a b = num a ≤ num b

-- the records of leaves, in order
abbrev pub records_of : List Leaf → List Record
records_of ls = joined (map (λ l. l.records) ls)

-- ---- what is due of each leaf that was given out

-- "a leaf's body is at most 4,094, at least 2,047 unless it has no cutoff"
pub record BodyRight (size : ℕ) (l : Leaf) : Type 0 where
  pub most : body l.records ≤ body_limit size
  pub least : (c : List ℕ) → l.cutoff ≡ some c → merge_below size ≤ body l.records

-- "its separator is at or below its first key, its cutoff above its last"
pub record BoundsRight (l : Leaf) : Type 0 where
  pub some_record : nonempty l.records ≡ true
  pub first : All (λ r. Le l.separator r.key) l.records
  pub last : (c : List ℕ) → l.cutoff ≡ some c → Lt (last_key l.records) c

-- "a leaf that isn't its digest's last, or whose digest answered a merge request, has the next leaf's separator as its cutoff, as soon
-- as a next leaf is given"
abbrev pub LinksRight : List Leaf → Type 0
LinksRight ls = (xs ys : List Leaf) (x y : Leaf) → ls ≡ xs ++ (x ∷ y ∷ ys) → x.linked ≡ true → x.cutoff ≡ some y.separator

-- ---- the claim

pub record RecordsClaim (size : ℕ) (s : Run) : Type 0 where
  -- leaves given out and pending records are the tally, in order
  pub tally : records_of s.leaves ++ pending s.work ≡ s.tally
  pub rising : Rising s.tally
  pub bodies : All (BodyRight size) s.leaves
  pub bounds : All BoundsRight s.leaves
  pub linked : LinksRight s.leaves
