-- Past three tests the product fits 32 bits.
use mathlib.Core.Bool.{true}
use mathlib.Core.Path.{◌≡◌}
use Prim.Native.Nat.{◌*◌, ℕ}
use native.Mathlib.Omega.{arith}
use mir.Syntax.{w32}
use mir.Val.{Fits}
use Rattle.allowed.proofs.Limits.{products, size-limits}
use Rattle.allowed.specs.Allowed.{size_allowed}
use Rattle.allowed.proofs.sizes_allowed.Goals as goal
use Rattle.allowed.proofs.sizes_allowed.Goals.{else-size_allowed, else-size_allowed-2}
use Rattle.allowed.proofs.sizes_allowed.Goals.{then-size_allowed, then-size_allowed-2}

fit : (n1 n2 n3 : ℕ) → size_allowed n1 ≡ true → size_allowed n2 ≡ true → size_allowed n3 ≡ true
    → Fits w32 (n1 * n2 * n3)
fit n1 n2 n3 h1 h2 h3 =
    omega (arith, products n1 n2 n3 (size-limits n1 h1).1 (size-limits n2 h2).1 (size-limits n3 h3).1)

pub overflow_mul-result-then-size_allowed-3 : goal.overflow_mul-result-then-size_allowed-3
overflow_mul-result-then-size_allowed-3 c =
    elim c.if-size_allowed-2.branch [
      | then-size_allowed-2 v ↦ elim c.if-size_allowed.branch [
        | then-size_allowed w ↦ fit c.args.n1 c.args.n2 c.args.n3 (cc) (cc) (cc)
        | else-size_allowed w ↦ absurd (cc)
      ]
      | else-size_allowed-2 v ↦ absurd (cc)
    ]
