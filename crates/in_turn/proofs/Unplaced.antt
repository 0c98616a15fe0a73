-- A point that is not placed is refused so by the call that places and values in turn.
use mathlib.Core.Bool.{Bool}
use mathlib.Core.List.{List}
use mathlib.Core.Path.{◌≡◌, ap, refl}
use Prim.Native.Nat.{ℕ}
use lib.IntN.{ℤ}
use lib.ListN.{length}
use Rattle.checks.specs.declared.Refusal.{Refusal}
use Rattle.unit.specs.Unit.{net_of}
use Rattle.unit.specs.declared.Unit.{Unit}
use Rattle.limits.specs.Limits.{lent_checks}
use Rattle.divisor_checks.specs.Divisor.{live_divisor_checks}
use Rattle.placing.specs.Place.{place_answer}
use Rattle.answers.specs.Live.{live_answer}
use Rattle.answers.specs.Point.{point_answer}
use Rattle.in_turn.specs.Unplaced.{HandedOn, unplaced_live, unplaced_point}
use Rattle.answers.specs.declared.Fraction.{Fraction}
use Rattle.answers.specs.declared.LiveValue.{LiveValue}
use Rattle.answers.proofs.Live as live
use Rattle.answers.proofs.Point as point
use Rattle.checks.specs.Checks.{Checked, and_then, passed_or}
use Rattle.std.specs.Prelude.{Err, Ok, Result}

-- a refusal of the library's own kind is handed on as it is
as_it_is : {A : Type 0} (k : Checked) (r : Refusal) (answer : Result A Refusal)
    → HandedOn (λ s t. t ≡ s) k r answer → answer ≡ passed_or k (Err r) Err
as_it_is (Ok _) r answer h = h
as_it_is (Err s) r (Ok a) h = absurd h
as_it_is (Err s) r (Err t) h = ap Err h

-- so a point call's answer is the definition's
pub as-point : (u : Unit) (n c k : ℕ) (r : Refusal) (answer : Result Fraction Refusal)
    → HandedOn (λ s t. t ≡ s) (lent_checks u n c k) r answer → answer ≡ unplaced_point u n c k r
unfolding unplaced_point
as-point u n c k r answer h = as_it_is (lent_checks u n c k) r answer h

-- and so is a live call's
pub as-live : (u : Unit) (n c k D : ℕ) (r : Refusal) (answer : Result LiveValue Refusal)
    → HandedOn (λ s t. t ≡ s) (and_then (lent_checks u n c k) (live_divisor_checks (net_of u) D)) r answer
    → answer ≡ unplaced_live u n c k D r
unfolding unplaced_live
as-live u n c k D r answer h =
    as_it_is (and_then (lent_checks u n c k) (live_divisor_checks (net_of u) D)) r answer h

module _ (u : Unit) (net : List ℕ) (corrections : List ℤ) (uncertainties : List ℕ) (x y z : ℤ) (D : ℕ)
    {r : Refusal} (h : place_answer u x y z D ≡ Err r) where
  abbrev lent : Checked
  lent = lent_checks u (length net) (length corrections) (length uncertainties)

  -- by the point call
  pub point-unplaced : unplaced_point u (length net) (length corrections) (length uncertainties) r
      ≡ point_answer u net corrections uncertainties x y z D
  unfolding unplaced_point
  point-unplaced = go lent refl
    where
      go : (k : Checked) → lent ≡ k
          → passed_or k (Err r) Err ≡ point_answer u net corrections uncertainties x y z D
      go (Ok _) e = point.place-stops u net corrections uncertainties x y z D e h
      go (Err s) e = point.lent-refused u net corrections uncertainties x y z D e

  -- by the live call
  pub live-unplaced : (flag : Bool)
      → unplaced_live u (length net) (length corrections) (length uncertainties) D r
      ≡ live_answer u net corrections uncertainties x y z D flag
  unfolding unplaced_live
  live-unplaced flag = go lent (live_divisor_checks (net_of u) D) refl refl
    where
      go : (k d : Checked) → lent ≡ k → live_divisor_checks (net_of u) D ≡ d
          → passed_or (and_then k d) (Err r) Err
          ≡ live_answer u net corrections uncertainties x y z D flag
      go (Err s) d e f = live.lent-refused u net corrections uncertainties x y z D flag e
      go (Ok _) (Err s) e f = live.divisor-refused u net corrections uncertainties x y z D flag e f
      go (Ok _) (Ok _) e f = live.place-stops u net corrections uncertainties x y z D flag e f h
