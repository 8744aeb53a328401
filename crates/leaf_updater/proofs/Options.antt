-- Base and cutoff that are lent beside a flag, as options. Assumes nothing.
use mathlib.Core.Path.{◌≡◌, refl}
use mathlib.Core.Bool.{Bool, true, false}
use mathlib.Core.List.{List}
use Prim.Native.Nat.{ℕ}
use Rattle.std.specs.Prelude as std
use Rattle.std.specs.Borrow.{Bor}
use Rattle.std.specs.Option.{is_some}
use Rattle.std.specs.Bool.{then_some}
use Rattle.leaf_work.specs.declared.Work.{Work}
use Rattle.leaf_work.specs.declared.Entry.{Entry}
use Rattle.leaf_work.specs.Tests.{key_if, lent_key}
use Rattle.leaf_work.specs.Verdict.{open_verdict}
use Rattle.leaf_work.specs.Outcome.{open_of, next_base_of}
use Rattle.leaf_open.specs.declared.Base.{Base}
use Rattle.leaf_open.specs.Opening.{key_or_zeros, opening_of, opening_lent}

module _ (cut : Bool) (k : List ℕ) (c : std.Option (Bor (List ℕ))) where
  pub next_base_by_its_flag : lent_key c ≡ key_if cut k → (w : Work) (list : List Entry) (store page s : List ℕ)
      → next_base_of 4096 w list store page s (is_some c) (key_or_zeros c) ≡ next_base_of 4096 w list store page s cut k
  unfolding next_base_of
  next_base_by_its_flag e w list store page s = go cut c e
    where
      go : (cut : Bool) (c : std.Option (Bor (List ℕ))) → lent_key c ≡ key_if cut k
          → next_base_of 4096 w list store page s (is_some c) (key_or_zeros c) ≡ next_base_of 4096 w list store page s cut k
      go true (std.Some b) e = let f : b.now ≡ k = cc in rw f refl
      go true std.None e = cc
      go false (std.Some b) e = cc
      go false std.None e = refl

  pub opening_by_its_flags : lent_key c ≡ key_if cut k → (based : Bool) (base : Base) (every : Bool) (w : Work) (list : List Entry) (store : List ℕ)
      → open_of 4096 every (opening_lent (then_some based base) c) w list store ≡ open_of 4096 every (opening_of based base.page.now base.separator.now cut k) w list store
  unfolding open_of open_verdict opening_lent opening_of
  opening_by_its_flags e based base every w list store = go based cut c e
    where
      go : (based cut : Bool) (c : std.Option (Bor (List ℕ))) → lent_key c ≡ key_if cut k
          → open_of 4096 every (opening_lent (then_some based base) c) w list store ≡ open_of 4096 every (opening_of based base.page.now base.separator.now cut k) w list store
      go true true (std.Some b) e = let f : b.now ≡ k = cc in rw f refl
      go true true std.None e = cc
      go true false (std.Some b) e = cc
      go true false std.None e = refl
      go false true (std.Some b) e = refl
      go false true std.None e = cc
      go false false (std.Some b) e = cc
      go false false std.None e = refl
