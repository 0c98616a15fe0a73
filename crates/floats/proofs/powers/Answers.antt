-- After i turns the table holds the powers 0 to i, and ones behind.
use mathlib.Core.List.{List}
use mathlib.Core.Path.{◌∙◌, ◌≡◌, ap}
use Prim.Native.Nat.{◌+◌, ◌<◌}
use native.Mathlib.Omega.{arith}
use lib.Ieee.{Float, binary64, mul, nan, of_bits, of_int}
use lib.IntN.{pos}
use lib.ListN.{length, set}
use Rattle.sums.proofs.Fill.{fill-store, filled_at}
use Rattle.sums.specs.Fill.{tabulate}
use Rattle.floats.proofs.FloatPowers.{length-ones, power-next, powers-first, powers-past}
use Rattle.floats.proofs.FloatPowers.{powers-tabled, powers-within}
use Rattle.floats.specs.Floats.{float, float_at}
use Rattle.floats.specs.Powers.{float_power, ones}
use Rattle.floats.proofs.powers.Goals as goal

pub returns-then-m-gt9 : goal.returns-then-m-gt9
unfolding of_bits of_int ones tabulate
returns-then-m-gt9 c =
    record {
      table = powers-past c.args.base c.args.m (omega arith);
      exact_within = λ h. absurd (omega (arith, h.0));
    }

pub loop-i-init : goal.loop-i-init
unfolding of_bits of_int ones tabulate
loop-i-init c = powers-first c.args.base

pub loop-i-preserved : goal.loop-i-preserved
loop-i-preserved c =
    let at = c.loop-i in
    let base = c.args.base in
    let f = float_power base in
    let room : at.i + 1 < length ones = omega (arith, length-ones) in
    let made : mul binary64 (float_at at.p at.i) (float (pos base)) ≡ f (at.i + 1)
    = ap (λ (l : List Float). mul binary64 (float_at l at.i) (float (pos base))) at.invariant
    ∙ ap (λ (x : Float). mul binary64 x (float (pos base)))
    (filled_at f (at.i + 1) ones at.i nan (omega arith))
    ∙ power-next base at.i in
    ap (λ (l : List Float). set l (at.i + 1) (mul binary64 (float_at at.p at.i) (float (pos base))))
    at.invariant
    ∙ fill-store f (at.i + 1) ones _ room made

pub returns : goal.returns
returns c =
    let at = c.loop-i in
    let a = c.args in
    let e : at.i ≡ a.m = omega arith in
    let table = rw e at at.invariant ∙ powers-within a.base a.m (omega arith) in
    record { table = table; exact_within = powers-tabled a.base a.m table }
