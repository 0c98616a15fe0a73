-- What calls that place and value in turn answer where a point is not placed: Sections 11.4 and 11.8.
use Rattle.std.specs.Prelude.{Err, IsErrAnd, Ok, Result, ℕ, ◌≡◌}
use Rattle.checks.specs.declared.Refusal.{Refusal}
use Rattle.unit.specs.Unit.{net_of}
use Rattle.unit.specs.declared.Unit.{Unit}
use Rattle.limits.specs.Limits.{lent_checks}
use Rattle.divisor_checks.specs.Divisor.{live_divisor_checks}
use Rattle.checks.specs.Checks.{Checked, and_then, passed_or}
use Rattle.answers.specs.declared.Fraction.{Fraction}
use Rattle.answers.specs.declared.LiveValue.{LiveValue}

-- what is answered where a refusal of some kind is handed on and these checks come before it: theirs, as one
-- of that kind, or else that refusal
abbrev pub HandedOn : {A R : Type 0} → (Refusal → R → Type 0) → Checked → R → Result A R → Type 0
HandedOn gives (Ok _) r answer = answer ≡ Err r
HandedOn gives (Err s) r answer = IsErrAnd answer (gives s)

module _ (u : Unit) (net_length corrections_length uncertainties_length : ℕ) where
  -- a point call: the refusal of what is lent, or else that of the placing call
  unfoldable pub unplaced_point : Refusal → Result Fraction Refusal
  unplaced_point r =
      passed_or (lent_checks u net_length corrections_length uncertainties_length) (Err r)
      Err

  -- a live call: that of what is lent, then of the divisor, or else that of the placing call
  unfoldable pub unplaced_live : ℕ → Refusal → Result LiveValue Refusal
  unplaced_live D r =
      passed_or
      (and_then (lent_checks u net_length corrections_length uncertainties_length)
      (live_divisor_checks (net_of u) D))
      (Err r) Err
