-- Three sizes of 16 bits have a product that fits.
use Prim.Native.Nat.{◌≤◌}
use native.Mathlib.Nat.{mul-le-mul}
use native.Mathlib.Omega.{arith}
use Rattle.sums.proofs.Places.{box-le}
use Rattle.shape.proofs.entries_of.Goals as goal

pub overflow_mul-result : goal.overflow_mul-result
overflow_mul-result c =
    let a = c.args in
    let h1 : a.n1 ≤ 65535 = omega arith in
    let h2 : a.n2 ≤ 65535 = omega arith in
    omega (arith, mul-le-mul h1 h2)

pub overflow_mul-result-2 : goal.overflow_mul-result-2
overflow_mul-result-2 c =
    let a = c.args in
    let h1 : a.n1 ≤ 65535 = omega arith in
    let h2 : a.n2 ≤ 65535 = omega arith in
    let h3 : a.n3 ≤ 65535 = omega arith in
    omega (arith, box-le h1 h2 h3)
