-- `prefix_len` and `separate`: document 01, "The three modules", No. 1.
use Rattle.std.specs.Prelude.{ℕ, zero, suc, ◌+◌, ◌-◌, ◌*◌, ◌/◌, ◌^◌, true, false, cond, List, eqb}
use Rattle.refusal.specs.Refusal.{accepted, equal_keys}
use Rattle.bit_ops.specs.Key.{num, bytes_of, eq_key}

-- how many leading bits two numbers of n bits share: all n where they are equal, else as many as they share without their last bits
unfoldable pub shared : ℕ → ℕ → ℕ → ℕ
shared zero a b = 0
shared (suc n) a b = elim (eqb a b) [ true ↦ suc n | false ↦ shared n (a / 2) (b / 2) ]

-- "`prefix_len` is the count of shared leading bits"
unfoldable pub shared_bits : List ℕ → List ℕ → ℕ
shared_bits a b = shared 256 (num a) (num b)

-- the first m of the n bits of v, as a number
unfoldable pub leading : ℕ → ℕ → ℕ → ℕ
leading n m v = v / 2 ^ (n - m)

-- "the result is b's leading bits, one more than a and b share, then zeros"
unfoldable pub separate_of : List ℕ → List ℕ → List ℕ
separate_of a b =
    let kept : ℕ = shared_bits a b + 1 in
    bytes_of 32 (leading 256 kept (num b) * 2 ^ (256 - kept))

-- "equal keys are refused": No. 11, "twins"
unfoldable pub separate_verdict : List ℕ → List ℕ → ℕ
separate_verdict a b = cond (eq_key a b) equal_keys accepted

-- what a lent key that held `held` has after the call: the separator; where the call is refused, what it held
unfoldable pub separate_leaves : List ℕ → List ℕ → List ℕ → List ℕ
separate_leaves a b held = cond (eq_key a b) held (separate_of a b)
