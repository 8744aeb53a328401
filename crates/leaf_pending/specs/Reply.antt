-- The replies of the twin call. Document 01, "Room and soundness": "A twin call answers holder, offset, length, key and flag, or the refusal".
use Rattle.std.specs.Prelude.{false, cond, List, [], ℕ, eqb, take, drop, Result, Ok, Err}
use Rattle.refusal.specs.declared.Refusal.{Refusal}
use Rattle.refusal.specs.Refusal.{accepted}
use Rattle.refusal.specs.Numbers.{number}
use Rattle.leaf_model.specs.Work.{zero_key}
use Rattle.leaf_work.specs.Pending.{Holder, Store, Base, Place}
use Rattle.leaf_work.specs.Outcome.{TwinReply, TwinRefused, Found}
use Rattle.leaf_pending.specs.declared.Holder as code
use Rattle.leaf_pending.specs.declared.Holder.TheVariants as holders
use Rattle.leaf_pending.specs.declared.Place as found
use Rattle.leaf_pending.specs.declared.TwinPlace.{TwinPlace}

-- ---- the reply in the words of the definitions

abbrev pub holder_of : code.Holder → Holder
holder_of holders.Store = Store
holder_of holders.Base = Base

abbrev pub place_of : found.Place → Place
place_of t = record { holder = holder_of t.holder; offset = t.offset; size = t.len; key = t.key; flag = t.flag }

abbrev pub twin_reply : Result found.Place Refusal → TwinReply
twin_reply (Ok t) = Found (place_of t)
twin_reply (Err refusal) = TwinRefused (number refusal)

-- ---- the reply as a struct

abbrev pub holder_number : Holder → ℕ
holder_number Store = 1
holder_number Base = 2

abbrev pub place_out : Place → TwinPlace
place_out x = record { refusal = accepted; holder = holder_number x.holder; flag = x.flag; offset = x.offset; len = x.size; key = x.key }

-- the struct for each case
unfoldable pub twin_out : TwinReply → TwinPlace
twin_out (TwinRefused n) = record { refusal = n; holder = 0; flag = false; offset = 0; len = 0; key = zero_key }
twin_out (Found x) = place_out x

-- "handed back as a part of whichever of the two holds it, store or base page"; "the part is empty when refused": the bytes that a twin names
unfoldable pub twin_part : List ℕ → List ℕ → TwinPlace → List ℕ
twin_part store page t =
    cond (eqb t.holder (holder_number Store)) (take t.len (drop t.offset store)) (cond (eqb t.holder (holder_number Base)) (take t.len (drop t.offset page)) [])
