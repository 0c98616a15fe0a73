-- The checks of a divisor. Section 5.3.
use Rattle.std.specs.Prelude.{◌||◌, ◌*◌, ◌^◌, ℕ, eqb, ltb}
use Rattle.sums.specs.Coefficient.{factorial}
use Rattle.spline.specs.Multiplicities.{Multiplicities, degree}
use Rattle.checks.specs.Checks.{Checked, and_then, no_refusal, refuse_if}
use Rattle.checks.specs.declared.Refusal.TheVariants.{BadDivisor, LargeLiveScale, LargeScale}

-- Section 5.3: m!×D^m, which 11 and 15 are about
abbrev pub scale : ℕ → ℕ → ℕ
scale m D = factorial m * D ^ m

-- Section 5.3: its largest value in an exact call, 2^48
abbrev pub limit : ℕ
limit = 281474976710656

-- Section 5.3: 10 for a divisor out of bounds, 11 for one too large for the degree
unfoldable pub divisor_checks : Multiplicities → ℕ → Checked
divisor_checks v D =
    refuse_if BadDivisor (eqb D 0 || ltb 4096 D)
    (refuse_if LargeScale (ltb limit (scale (degree v) D)) no_refusal)

-- Section 5.3: the largest m!×D^m of a live call, 2^37
abbrev pub live_limit : ℕ
live_limit = 137438953472

-- Section 5.3: 15 for a divisor too large for a live call
unfoldable pub live_scale_check : Multiplicities → ℕ → Checked
live_scale_check v D = refuse_if LargeLiveScale (ltb live_limit (scale (degree v) D)) no_refusal

-- Section 5.3: 10, 11, 15
unfoldable pub live_divisor_checks : Multiplicities → ℕ → Checked
live_divisor_checks v D = and_then (divisor_checks v D) (live_scale_check v D)
