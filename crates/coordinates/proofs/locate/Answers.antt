-- The test of the face is the definition's own, in 64 bits, which hold n×D; over 0 the quotient is 0.
use mathlib.Core.Path.{◌≡◌, refl}
use Prim.Native.Nat.{◌%◌, ◌/◌, ◌≤◌, ℕ}
use native.Mathlib.Nat.{div-zero, mod-zero, mul-le-mul}
use native.Mathlib.Omega.{arith}
use Rattle.coordinates.proofs.Faces.{off-face}
use Rattle.coordinates.specs.declared.Located.{Located}
use Rattle.coordinates.proofs.locate.Goals as goal

abbrev at : ℕ → ℕ → Located
at cell remainder = record { cell = cell; remainder = remainder }

-- over 0
by_zero : (x D : ℕ) → D ≡ 0 → at 0 x ≡ at (x / D) (x % D)
by_zero x D e = rw (e, div-zero x, mod-zero x) refl

pub overflow_mul-size : goal.overflow_mul-size
overflow_mul-size c =
    let size : c.args.size ≤ 65535 = omega arith in
    let divisor : c.args.divisor ≤ 4294967295 = omega arith in
    record { fits = omega (arith, mul-le-mul size divisor) }

pub returns-then-divisor-eq0 : goal.returns-then-divisor-eq0
returns-then-divisor-eq0 c =
    let a = c.args in
    rw (off-face a.x a.divisor a.size (λ e. omega arith))
    (by_zero a.x a.divisor c.if-divisor-eq0.true)
