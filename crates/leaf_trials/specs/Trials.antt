-- Document 01, "Bench trials (marked * are the proved table)". Each of the starred ones but those of `separate` goes through the calls: opening, ingests, and a digest that is lent just the
-- pages that it asks for, filled with 9, and 65 ticket bytes a page.
use Rattle.std.specs.Prelude.{◌≡◌, Bool, true, false, List, [], ◌∷◌, ◌++◌, ℕ, zero, suc, ◌+◌, ◌*◌, take, drop, replicate}
use Rattle.std.proofs.Math.Option.{Option, none, some}
use Rattle.bit_ops.specs.Steps.{zeros}
use Rattle.bit_ops.specs.Separate.{separate_of}
use Rattle.leaf_node.specs.Limits.{pages_asked}
use Rattle.leaf_node.specs.Record.{Record, body}
use Rattle.leaf_node.specs.Build.{build}
use Rattle.leaf_model.specs.Work.{Change, zero_key}
use Rattle.leaf_work.specs.Lent.{blank, regarded}
use Rattle.leaf_work.specs.Pending.{Store, Base, pending_of}
use Rattle.leaf_work.specs.Verdict.{Opening, with_base_lem, with_none, open_verdict}
use Rattle.leaf_work.specs.Outcome.{open_work, IngestReply, IngestRefused, Quiet, Reported, ingest_of, TwinReply, TwinRefused, Found, twin_of}
use Rattle.leaf_work.specs.Digest.{DigestReply, DigestRefused, Finished, Merge, Digested, digest_of}
use Rattle.leaf_claim.specs.Sequence.{Call, ingest, State, lent, nexts, opened}

abbrev size : ℕ
size = 4096

-- "zeros after"
abbrev key_of : ℕ → List ℕ
key_of b = b ∷ zeros 31

-- ---- records and calls

abbrev record_of : ℕ → ℕ → Bool → Record
record_of k n flag = record { key = key_of k; value = replicate n 7; flag = flag }

-- records with values of these lengths, under keys from k on
abbrev records_from : ℕ → List ℕ → List Record
records_from k [] = []
records_from k (n ∷ ns) = record_of k n false ∷ records_from (k + 1) ns

abbrev put_all : List Record → List Call
put_all [] = []
put_all (r ∷ rs) = ingest [] r.key (some (record { value = r.value; flag = r.flag })) ∷ put_all rs

abbrev opens : Opening → State
opens x = opened size false x (open_work false (with_none false)) (replicate 121 blank) (zeros 8192)

abbrev no_base : State
no_base = opens (with_none false)

abbrev empty_base_with_cutoff : State
empty_base_with_cutoff = opens (with_base_lem (build size []) zero_key true (key_of 255))

abbrev base : List Record → State
base rs = opens (with_base_lem (build size rs) zero_key false zero_key)

-- ---- a trial: the records are put, then digested

pub record Shown : Type 0 where
  pub asked : ℕ
  pub reply : DigestReply
  pub area : List ℕ
  pub tickets : List ℕ

abbrev shown : ℕ → Digested → Shown
shown asked r = record { asked = asked; reply = r.reply; area = r.area; tickets = r.tickets }

-- `pages` are lent
abbrev digests : ℕ → State → Shown
digests pages s =
    shown (pages_asked size (body (pending_of s.work s.list s.store (regarded s.work s.page))))
    (digest_of size s.work s.list s.store (lent s []) (replicate (pages * size) 9) (replicate (pages * 65) 9))

abbrev puts : ℕ → State → List Record → Shown
puts pages s rs = digests pages (nexts size s (put_all rs))

-- ---- tickets: "kind 1, then separator and cutoff (65 bytes); kind 2, then separator (33 bytes), no cutoff"

abbrev between : List ℕ → List ℕ → List ℕ
between separator cutoff = 1 ∷ (separator ++ cutoff)

abbrev from : List ℕ → List ℕ
from separator = 2 ∷ separator

-- ---- what is expected, in document 01's order

-- one leaf, the last, from zeros on
abbrev one_leaf : ℕ → List Record → Shown
one_leaf asked rs = record {
  asked = asked;
  reply = Finished 1;
  area = build size rs ++ drop size (replicate (asked * size) 9);
  tickets = from zero_key ++ drop 33 (replicate (asked * 65) 9);
}

-- two leaves, the second from the key `cut` on
abbrev two_leaves : ℕ → List Record → List ℕ → List Record → Shown
two_leaves asked rs cut ss = record {
  asked = asked;
  reply = Finished 2;
  area = build size rs ++ build size ss ++ drop (2 * size) (replicate (asked * size) 9);
  tickets = between zero_key cut ++ from cut ++ drop 98 (replicate (asked * 65) 9);
}

-- the starred trials without a base
pub record WithoutBase : Type 0 where
  -- "One empty value: number bytes 00 10; flagged, 00 90."
  pub empty : puts 1 no_base (record_of 1 0 false ∷ []) ≡ one_leaf 1 (record_of 1 0 false ∷ [])
  pub empty_number : take 2 (drop 34 (puts 1 no_base (record_of 1 0 false ∷ [])).area) ≡ 0x00 ∷ 0x10 ∷ []
  pub flagged_number : take 2 (drop 34 (puts 1 no_base (record_of 1 0 true ∷ [])).area) ≡ 0x00 ∷ 0x90 ∷ []
  -- "`separate` of keys starting 10 and 13 (hex, zeros after): starts 12." "Same of 00 and 80: starts 80."
  pub separate_10_13 : separate_of (key_of 0x10) (key_of 0x13) ≡ key_of 0x12
  pub separate_00_80 : separate_of (key_of 0x00) (key_of 0x80) ≡ key_of 0x80
  -- "Three values of 1,330 (4,092): one leaf."
  pub three_of_1330 : puts 2 no_base (records_from 1 (1330 ∷ 1330 ∷ 1330 ∷ [])) ≡ one_leaf 2 (records_from 1 (1330 ∷ 1330 ∷ 1330 ∷ []))
  -- "Three of 1,331 (4,095): leaves of 2,730 and 1,365."
  pub three_of_1331 : puts 3 no_base (records_from 1 (1331 ∷ 1331 ∷ 1331 ∷ [])) ≡ two_leaves 3 (records_from 1 (1331 ∷ 1331 ∷ [])) (key_of 3) (records_from 3 (1331 ∷ []))
  pub body_2730 : body (records_from 1 (1331 ∷ 1331 ∷ [])) ≡ 2730
  pub body_1365 : body (records_from 3 (1331 ∷ [])) ≡ 1365
  -- "Four of 1,332 (5,464): two leaves of 2,732."
  pub four_of_1332 : puts 3 no_base (records_from 1 (1332 ∷ 1332 ∷ 1332 ∷ 1332 ∷ []))
      ≡ two_leaves 3 (records_from 1 (1332 ∷ 1332 ∷ [])) (key_of 3) (records_from 3 (1332 ∷ 1332 ∷ []))
  pub body_2732 : body (records_from 1 (1332 ∷ 1332 ∷ [])) ≡ 2732
  -- "Five of 1,332 (6,830): 2,732, 2,732, 1,366; four pages asked."
  pub five_of_1332 : puts 4 no_base (records_from 1 (1332 ∷ 1332 ∷ 1332 ∷ 1332 ∷ 1332 ∷ []))
      ≡ record {
        asked = 4;
        reply = Finished 3;
        area = build size (records_from 1 (1332 ∷ 1332 ∷ [])) ++ build size (records_from 3 (1332 ∷ 1332 ∷ [])) ++ build size (records_from 5 (1332 ∷ [])) ++ replicate size 9;
        tickets = between zero_key (key_of 3) ++ between (key_of 3) (key_of 5) ++ from (key_of 5) ++ replicate 97 9;
      }
  pub body_1366 : body (records_from 5 (1332 ∷ [])) ≡ 1366
  -- "Six of 1,200 (7,404): 3,702 twice."
  pub six_of_1200 : puts 4 no_base (records_from 1 (1200 ∷ 1200 ∷ 1200 ∷ 1200 ∷ 1200 ∷ 1200 ∷ []))
      ≡ two_leaves 4 (records_from 1 (1200 ∷ 1200 ∷ 1200 ∷ [])) (key_of 4) (records_from 4 (1200 ∷ 1200 ∷ 1200 ∷ []))
  pub body_3702 : body (records_from 1 (1200 ∷ 1200 ∷ 1200 ∷ [])) ≡ 3702
  -- "Record bodies in brackets": of all that is put
  pub all_4092 : body (records_from 1 (1330 ∷ 1330 ∷ 1330 ∷ [])) ≡ 4092
  pub all_4095 : body (records_from 1 (1331 ∷ 1331 ∷ 1331 ∷ [])) ≡ 4095
  pub all_5464 : body (records_from 1 (1332 ∷ 1332 ∷ 1332 ∷ 1332 ∷ [])) ≡ 5464
  pub all_6830 : body (records_from 1 (1332 ∷ 1332 ∷ 1332 ∷ 1332 ∷ 1332 ∷ [])) ≡ 6830
  pub all_7404 : body (records_from 1 (1200 ∷ 1200 ∷ 1200 ∷ 1200 ∷ 1200 ∷ 1200 ∷ [])) ≡ 7404

-- those with an empty base under a cutoff
pub record UnderCutoff : Type 0 where
  -- "Empty base with cutoff; values 989 and 990 (2,047): a leaf."
  pub leaf_of_2047 : puts 1 empty_base_with_cutoff (records_from 1 (989 ∷ 990 ∷ []))
      ≡ record { asked = 1; reply = Finished 1; area = build size (records_from 1 (989 ∷ 990 ∷ [])); tickets = between zero_key (key_of 255) }
  -- "989 twice (2,046): merge request."
  pub merge_of_2046 : puts 1 empty_base_with_cutoff (records_from 1 (989 ∷ 989 ∷ []))
      ≡ record { asked = 1; reply = Merge 0 (key_of 255); area = replicate size 9; tickets = replicate 65 9 }
  -- "Record bodies in brackets": of all that is put
  pub all_2047 : body (records_from 1 (989 ∷ 990 ∷ [])) ≡ 2047
  pub all_2046 : body (records_from 1 (989 ∷ 989 ∷ [])) ≡ 2046

-- inserts before a base
pub record BeforeBase : Type 0 where
  -- "Two inserts of 1,332 before a base of three 1,330: leaves 2,732 and 4,092."
  pub two_before_a_base : puts 4 (base (records_from 10 (1330 ∷ 1330 ∷ 1330 ∷ []))) (records_from 1 (1332 ∷ 1332 ∷ []))
      ≡ two_leaves 4 (records_from 1 (1332 ∷ 1332 ∷ [])) (key_of 8) (records_from 10 (1330 ∷ 1330 ∷ 1330 ∷ []))
  pub body_4092 : body (records_from 10 (1330 ∷ 1330 ∷ 1330 ∷ [])) ≡ 4092

-- "The starred trials form a joint list"
pub record Trials : Type 0 where
  pub without_base : WithoutBase
  pub under_cutoff : UnderCutoff
  pub before_base : BeforeBase

-- ---- the trials without a star

-- two flagged records in the base
abbrev flagged_base : State
flagged_base = base (record_of 10 3 true ∷ record_of 20 4 true ∷ [])

abbrev answers : State → ℕ → Option Change → IngestReply
answers s k c = (ingest_of size s.work s.list s.store (lent s []) (key_of k) c).reply

abbrev value : ℕ → Option Change
value n = some (record { value = replicate n 7; flag = false })

-- n records under keys from k on, with empty values
abbrev empty_records : ℕ → ℕ → List Record
empty_records k zero = []
empty_records k (suc n) = record_of k 0 false ∷ empty_records (k + 1) n

abbrev opening_refusal : List ℕ → ℕ → ℕ
opening_refusal page entries = open_verdict size (with_base_lem page zero_key false zero_key) (replicate entries blank) (zeros 8192)

-- a base record, a new one, a base record
abbrev mixed : State
mixed = nexts size flagged_base (put_all (record_of 15 6 false ∷ []))

abbrev twin : ℕ → TwinReply
twin i = twin_of size mixed.work mixed.list mixed.store mixed.page i

pub record OtherTrials : Type 0 where
  -- "Flagged first base record deleted: nothing reported. Flagged second one deleted first: reported."
  pub first_deleted : answers flagged_base 10 none ≡ Quiet
  pub second_deleted : answers flagged_base 20 none ≡ Reported 4092 4
  pub second_deleted_later : answers (nexts size flagged_base (ingest [] (key_of 15) none ∷ [])) 20 none ≡ Quiet
  -- "1,332 accepted, 1,333 refused 12"
  pub value_of_1332 : answers no_base 1 (value 1332) ≡ Quiet
  pub value_of_1333 : answers no_base 1 (value 1333) ≡ IngestRefused 12
  -- "n 120 and 121"
  pub count_of_120 : opening_refusal (build size (empty_records 0 120)) 121 ≡ 0
  pub count_of_121 : opening_refusal (121 ∷ zeros 4095) 121 ≡ 2
  -- "list of 120 refused 7"
  pub list_of_120 : opening_refusal (build size []) 120 ≡ 7
  -- no pages are asked for nothing, and an area that is a byte short is refused 17
  pub no_area : (digest_of size no_base.work no_base.list no_base.store [] [] []).reply ≡ Finished 0
  pub short_area_lem : (digest_of size mixed.work mixed.list mixed.store mixed.page (zeros 4095) (zeros 65)).reply ≡ DigestRefused 17
  -- the twin call: page, store, page, then No. 10
  pub twin_0 : twin 0 ≡ Found (record { holder = Base; offset = 4089; size = 3; key = key_of 10; flag = true })
  pub twin_1 : twin 1 ≡ Found (record { holder = Store; offset = 0; size = 6; key = key_of 15; flag = false })
  pub twin_2 : twin 2 ≡ Found (record { holder = Base; offset = 4092; size = 4; key = key_of 20; flag = true })
  pub twin_3 : twin 3 ≡ TwinRefused 10
