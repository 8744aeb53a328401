-- Document 01's limits at page size 4,096, each from both sides, by computation from the definitions: the bodies of the leaves that are cut,
-- and of what is left. A definition with "at least" for "over" answers one of them otherwise. One record for each subject, so that a wrong
-- definition fails in the part that is about it. Assumes nothing.
use mathlib.Core.Path.{◌≡◌, refl}
use mathlib.Core.Bool.{true, false}
use mathlib.Core.Option.{none, some}
use Rattle.std.specs.Prelude as std
use mathlib.Core.List.{List, [], ◌∷◌, ◌++◌, map}
use Prim.Native.Nat.{ℕ, ◌+◌}
use lib.ListN.{replicate}
use Rattle.bit_ops.specs.Key.{num, lt_key, eq_key}
use Rattle.bit_ops.specs.Steps.{zeros}
use Rattle.leaf_node.specs.Limits.{body_limit, merge_below, bulk_above, bulk_target, value_limit, pages_asked}
use Rattle.leaf_node.specs.Record.{Record, body}
use Rattle.leaf_model.specs.Cut.{Cut, target_of, take_until, take_leaves, cut_as_written, cut, cut_all}
use Rattle.leaf_model.specs.Work.{Waiting, Call, Ingest, Digest, NextBase, plan}
use Rattle.leaf_model.specs.Tally.{Run, Try, steps, opened}

-- a key that starts with the byte b
abbrev key_of : ℕ → List ℕ
key_of b = b ∷ zeros 31

-- records whose values have the lengths, with rising keys from key_of b on
abbrev valued : ℕ → List ℕ → List Record
valued b [] = []
valued b (n ∷ ns) = record { key = key_of b; value = replicate n 0; flag = false } ∷ valued (b + 1) ns

-- the bodies of the leaves, and last the body of what is left
abbrev bodies : Cut → List ℕ
bodies c = map body c.leaves ++ (body c.left ∷ [])

-- the same of steps 1 to 3 in both forms, of steps 1 to 4 without a cutoff, and under a cutoff
abbrev cut_of : List ℕ → List ℕ
cut_of ns = bodies (cut_all 4096 (valued 1 ns))

abbrev cut_as_written_of : List ℕ → List ℕ
cut_as_written_of ns = bodies (cut_as_written 4096 (valued 1 ns))

abbrev digest_of : List ℕ → List ℕ
digest_of ns = bodies (plan 4096 none (valued 1 ns))

abbrev digest_under_cutoff_of : List ℕ → List ℕ
digest_under_cutoff_of ns = bodies (plan 4096 (some (key_of 255)) (valued 1 ns))

-- an empty base from key_of 1 to key_of 9, and two inserts of 1,023 each: the digest asks for a merge
abbrev passing : Call → Try
passing c = record { call = c; passes = true }

abbrev insert : ℕ → ℕ → Try
insert b n = passing (Ingest (key_of b) (some (record { value = replicate n 0; flag = false })))

abbrev waiting : Run
waiting = steps 4096 (opened (some (record { records = []; separator = key_of 1; cutoff = some (key_of 9) }))) (insert 2 989 ∷ insert 3 989 ∷ passing Digest ∷ [])

-- then a base of one record from key_of 9 on, and a digest
abbrev merged : Run
merged = steps 4096 waiting (passing (NextBase (record { records = valued 10 (100 ∷ []); separator = key_of 9; cutoff = none })) ∷ passing Digest ∷ [])

-- a body of 4,094 is not cut, one of 4,095 is: its half is the target
pub record WhichAreHalved : Type 0 where
  pub target_of_4094 : target_of 4096 4094 ≡ std.None
  pub target_of_4095 : target_of 4096 4095 ≡ std.Some 2047

which_are_halved : WhichAreHalved
unfolding target_of body_limit bulk_above bulk_target
which_are_halved = record {
  target_of_4094 = refl;
  target_of_4095 = refl;
}

-- a body of 7,369 is halved, one of 7,370 is cut in bulk
pub record WhichAreCutInBulk : Type 0 where
  pub target_of_7369 : target_of 4096 7369 ≡ std.Some 3684
  pub target_of_7370 : target_of 4096 7370 ≡ std.Some 3070

which_are_cut_in_bulk : WhichAreCutInBulk
unfolding target_of body_limit bulk_above bulk_target
which_are_cut_in_bulk = record {
  target_of_7369 = refl;
  target_of_7370 = refl;
}

-- a leaf may be filled to 4,094; in this row no record would pass that
pub record FilledLeaves : Type 0 where
  pub filled_to_4094 : digest_of (1330 ∷ 1330 ∷ 1332 ∷ 1332 ∷ []) ≡ 4094 ∷ 1366 ∷ 0 ∷ []

filled_leaves : FilledLeaves
unfolding cut_all target_of cut plan body_limit bulk_above bulk_target
filled_leaves = record { filled_to_4094 = refl }

-- and not to 4,095: the record that would pass 4,094 ends the leaf below target and starts the next one, so that nothing is lost
pub record OverfullLeaves : Type 0 where
  pub leaf_4095 : digest_of (1332 ∷ 1332 ∷ 1331 ∷ 1331 ∷ 1331 ∷ []) ≡ 2732 ∷ 2730 ∷ 1365 ∷ 0 ∷ []
  pub two_of_1332_and_three_of_1330 : digest_of (1332 ∷ 1332 ∷ 1330 ∷ 1330 ∷ 1330 ∷ []) ≡ 2732 ∷ 4092 ∷ 0 ∷ []
  pub five_of_1332 : digest_of (replicate 5 1332) ≡ 2732 ∷ 2732 ∷ 1366 ∷ 0 ∷ []
  pub five_of_1332_ask : pages_asked 4096 6830 ≡ 4

overfull_leaves : OverfullLeaves
unfolding cut_all target_of cut plan body_limit merge_below bulk_above bulk_target
overfull_leaves = record {
  leaf_4095 = refl;
  two_of_1332_and_three_of_1330 = refl;
  five_of_1332 = refl;
  five_of_1332_ask = refl;
}

-- the first target is kept: halved again, the second leaf of the first row would be cut in two
pub record KeptTarget : Type 0 where
  pub four_of_1332 : digest_of (replicate 4 1332) ≡ 2732 ∷ 2732 ∷ 0 ∷ []
  pub six_of_1200 : digest_of (replicate 6 1200) ≡ 3702 ∷ 3702 ∷ 0 ∷ []
  pub three_of_1331 : digest_of (replicate 3 1331) ≡ 2730 ∷ 1365 ∷ 0 ∷ []

kept_target : KeptTarget
unfolding cut_all target_of cut plan body_limit bulk_above bulk_target
kept_target = record {
  four_of_1332 = refl;
  six_of_1200 = refl;
  three_of_1331 = refl;
}

-- both sides of these limits by the leaves that are cut: a body of 7,369 has the target 3,684, one of 7,370 the target 3,070
pub record CutBodies : Type 0 where
  pub body_4094 : cut_of (1330 ∷ 1330 ∷ 1332 ∷ []) ≡ 4094 ∷ []
  pub body_4095 : cut_of (1331 ∷ 1331 ∷ 1331 ∷ []) ≡ 2730 ∷ 1365 ∷ []
  pub leaf_4094 : digest_of (1332 ∷ 1332 ∷ 1330 ∷ 1330 ∷ 1332 ∷ []) ≡ 2732 ∷ 4094 ∷ 0 ∷ []
  pub body_7369 : cut_of (replicate 14 466 ++ (335 ∷ [])) ≡ 4000 ∷ 3369 ∷ []
  pub body_7370 : cut_of (replicate 14 466 ++ (336 ∷ [])) ≡ 3500 ∷ 3500 ∷ 370 ∷ []

cut_bodies : CutBodies
unfolding cut_all target_of cut plan body_limit bulk_above bulk_target
cut_bodies = record {
  body_4094 = refl;
  body_4095 = refl;
  leaf_4094 = refl;
  body_7369 = refl;
  body_7370 = refl;
}

-- step 3 as the paper tells it, in two of these rows
pub record CutAsWritten : Type 0 where
  pub four_of_1332_as_written : cut_as_written_of (replicate 4 1332) ≡ 2732 ∷ 2732 ∷ 0 ∷ []
  pub two_of_1332_and_three_of_1330_as_written : cut_as_written_of (1332 ∷ 1332 ∷ 1330 ∷ 1330 ∷ 1330 ∷ []) ≡ 2732 ∷ 4092 ∷ 0 ∷ []

cut_as_written_lem : CutAsWritten
unfolding cut_as_written target_of take_leaves take_until body_limit bulk_above bulk_target
cut_as_written_lem = record {
  four_of_1332_as_written = refl;
  two_of_1332_and_three_of_1330_as_written = refl;
}

-- under a cutoff, a body of 2,046 waits, one of 2,047 is a leaf
pub record WhichWait : Type 0 where
  pub body_2046 : digest_under_cutoff_of (989 ∷ 989 ∷ []) ≡ 2046 ∷ []
  pub body_2047 : digest_under_cutoff_of (989 ∷ 990 ∷ []) ≡ 2047 ∷ 0 ∷ []

which_wait : WhichWait
unfolding cut_all target_of cut plan body_limit merge_below bulk_above bulk_target
which_wait = record {
  body_2046 = refl;
  body_2047 = refl;
}

-- after a merge the joined leaf has the first base's separator, not the second's
pub record Merged : Type 0 where
  pub waits : waiting.work.turn ≡ Waiting
  pub joined_leaf : map (λ l. body l.records) merged.leaves ≡ 2180 ∷ []
  pub joined_separator : map (λ l. l.separator) merged.leaves ≡ key_of 1 ∷ []

after_a_merge : Merged
unfolding cut_all target_of cut plan body_limit merge_below bulk_above bulk_target value_limit num lt_key eq_key
after_a_merge = record {
  waits = refl;
  joined_leaf = refl;
  joined_separator = refl;
}

-- all of them
pub record Boundaries : Type 0 where
  pub halved : WhichAreHalved
  pub in_bulk : WhichAreCutInBulk
  pub filled : FilledLeaves
  pub overfull : OverfullLeaves
  pub target : KeptTarget
  pub limits : CutBodies
  pub as_written : CutAsWritten
  pub merge_request : WhichWait
  pub merge : Merged

pub boundaries : Boundaries
boundaries = record {
  halved = which_are_halved;
  in_bulk = which_are_cut_in_bulk;
  filled = filled_leaves;
  overfull = overfull_leaves;
  target = kept_target;
  limits = cut_bodies;
  as_written = cut_as_written_lem;
  merge_request = which_wait;
  merge = after_a_merge;
}
