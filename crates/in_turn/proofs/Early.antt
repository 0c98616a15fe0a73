-- What a live valuing call looks at before its blending is the first part of its checks.
use mathlib.Core.Bool.{Bool}
use mathlib.Core.List.{List}
use mathlib.Core.Path.{◌≡◌, refl, sym}
use Prim.Native.Nat.{ℕ}
use lib.IntN.{ℤ}
use Rattle.checks.proofs.Checks.{stopped-passed, then-passed}
use Rattle.checks.specs.declared.Refusal.{Refusal}
use Rattle.unit.specs.Unit.{net_of}
use Rattle.unit.specs.declared.Unit.{Unit}
use Rattle.divisor_checks.specs.Divisor.{divisor_checks, live_divisor_checks, live_scale_check}
use Rattle.axis_order.specs.Weights.{weight_sum}
use Rattle.axis_order.specs.declared.Placing.{Placing}
use Rattle.possible.specs.Possible.{live_placing_checks, placing_checks}
use Rattle.answers.specs.Live.{live_valuing_answer, live_valuing_checks}
use Rattle.in_turn.specs.Early.{early_checks}
use Rattle.checks.specs.Checks.{Checked, and_then, no_refusal, passed_or}
use Rattle.std.specs.Prelude.{Err, Ok, Result}
use Rattle.answers.specs.declared.LiveValue.{LiveValue}

-- the last of two checks has passed, where both have or it did behind another
last-passed : (a b c : Checked) → passed_or (and_then a b) no_refusal (λ r. and_then c b) ≡ no_refusal → b ≡ no_refusal
last-passed a (Ok _) c h = refl
last-passed (Ok _) (Err s) c h = (then-passed c (Err s) h).1
last-passed (Err t) (Err s) c h = (then-passed c (Err s) h).1

module _ (u : Unit) (net : List ℕ) (corrections : List ℤ) (uncertainties : List ℕ) (q : Placing)
    (with_uncertainty : Bool) where
  abbrev valued : Result LiveValue Refusal
  valued = live_valuing_answer u net corrections uncertainties q with_uncertainty

  -- what 21, 22, 17 or 15 refuses before the blending
  pub early-refused : {r : Refusal} → early_checks u q ≡ Err r → Err r ≡ valued
  unfolding early_checks live_valuing_answer live_valuing_checks
  early-refused {r} h = go (live_divisor_checks (net_of u) (weight_sum q)) h
    where
      go : (k : Checked) → passed_or k no_refusal (λ r. live_placing_checks u q) ≡ Err r → Err r ≡ valued
      go (Ok _) e = stopped-passed r (sym e)
      go (Err s) e = rw e refl

  -- past it 15 does not apply
  pub past-fifteen : early_checks u q ≡ no_refusal → live_scale_check (net_of u) (weight_sum q) ≡ no_refusal
  unfolding early_checks live_divisor_checks live_placing_checks
  past-fifteen h =
      last-passed (divisor_checks (net_of u) (weight_sum q)) (live_scale_check (net_of u) (weight_sum q))
      (placing_checks u q) h
