-- Section 3.7: the order that defines a net as a list of bytes.
use Rattle.std.specs.Prelude.{cond, ◌+◌, ◌-◌, ℕ, ltb}
use Rattle.spline.specs.Multiplicities.{Multiplicities}

-- the byte at a position of the order that defines a net, and 4 past its end
unfoldable pub defined_byte : Multiplicities → ℕ → ℕ
defined_byte v i =
    let ones = v.v1 - 1 in
    let threes = ones + (v.v3 - 1) in
    let twos = threes + (v.v2 - 1) in
    cond (ltb i ones) 1 (cond (ltb i threes) 3 (cond (ltb i twos) 2 4))
