-- The live call beside the exact one: Section 14.7.
use Rattle.std.specs.Prelude.{Bool, Err, Float, List, Ok, Result, false, length, nat_abs, negsuc, pos, true}
use Rattle.std.specs.Prelude.{ℕ, ℤ, ◌<◌, ◌↔◌, ◌≡◌, ◌≤◌}
use Rattle.std.specs.Float.{binary64}
use Rattle.std.specs.Float.Ieee.{of_int, to_bits}
use Rattle.std.specs.Float.Ieee.Exact.{HasValue}
use Rattle.sums.specs.Fill.{number_at, signed_at}
use Rattle.spline.specs.Multiplicities.{degree}
use Rattle.checks.specs.declared.Refusal.{Refusal}
use Rattle.unit.specs.Unit.{net_of}
use Rattle.unit.specs.declared.Unit.{Unit}
use Rattle.limits.specs.Limits.{lent_checks}
use Rattle.divisor_checks.specs.Divisor.{divisor_checks, live_limit, scale}
use Rattle.axis_order.specs.declared.Placing.{Placing}
use Rattle.answers.specs.Live.{live_answer, live_value, live_valuing_answer}
use Rattle.answers.specs.Point.{point_answer, valuing_answer}
use Rattle.answers.specs.declared.Fraction.{Fraction}
use Rattle.checks.specs.Checks.{no_refusal}
use Rattle.answers.specs.declared.LiveValue.{LiveValue}
use Rattle.answers.specs.declared.LiveValue.TheVariants.{Both, Shift}
use Rattle.checks.specs.declared.Refusal.TheVariants.{LargeLiveScale}

-- ---- floats

abbrev pub negative : ℤ → Bool
negative (pos n) = false
negative (negsuc n) = true

-- a float has the bits of z as a float, and those of 0 are all 0
pub record IsFloatOf (x : Float) (z : ℤ) : Type 0 where
  pub bits : to_bits binary64 x ≡ to_bits binary64 (of_int binary64 z)
  pub zero : z ≡ pos 0 → to_bits binary64 x ≡ 0

-- a float is finite and has exactly the value z, and z's sign
abbrev pub IsExactly : Float → ℤ → Type 0
IsExactly x z = HasValue x (negative z) (nat_abs z) 1

-- what is said of a float and a number holds, with the uncertainty switched on, of N and U of a fraction,
-- switched off of N alone
abbrev pub HasFloats : (Float → ℤ → Type 0) → Bool → Fraction → Result LiveValue Refusal → Type 0
HasFloats P true f (Ok (Both x)) = P x.numerator f.numerator × P x.uncertainty (pos f.uncertainty)
HasFloats P true f (Ok (Shift n)) = ⊥
HasFloats P false f (Ok (Shift n)) = P n f.numerator
HasFloats P false f (Ok (Both x)) = ⊥
HasFloats P flag f (Err r) = ⊥

-- ---- what is lent

-- the block slices hold numbers of 16 bits, as any slices that can be lent do
pub record SixteenBits (corrections : List ℤ) (uncertainties : List ℕ) : Type 0 where
  pub of_corrections : (i : ℕ) → nat_abs (signed_at corrections i) ≤ 32768
  pub of_uncertainties : (i : ℕ) → number_at uncertainties i ≤ 65535

-- 15 is looked at, since no check before it applies, and applies
pub record MeetsFifteen (u : Unit) (net_length corrections_length uncertainties_length D : ℕ) : Type 0 where
  pub lent : lent_checks u net_length corrections_length uncertainties_length ≡ no_refusal
  pub divisor : divisor_checks (net_of u) D ≡ no_refusal
  pub above : live_limit < scale (degree (net_of u)) D

-- ---- the statements

-- where the live answer is no refusal, the exact one is a fraction, and what P says of a float and a number
-- holds of its N and U
abbrev pub Agrees : (Float → ℤ → Type 0) → Bool → Result Fraction Refusal → Result LiveValue Refusal → Type 0
Agrees P flag exact live =
    ((r : Refusal) → live ≡ Err r → ⊥)
    → (f : Fraction) × (exact ≡ Ok f) × HasFloats P flag f live

-- Each point that the live call answers the exact call answers, and the floats have the bits of its N and U
-- as floats; so it is with the two valuing calls and a placing.
abbrev pub LiveExact : Type 0
LiveExact =
    (u : Unit) (net : List ℕ) (corrections : List ℤ) (uncertainties : List ℕ) (flag : Bool)
    → ((x y z : ℤ) (D : ℕ)
    → Agrees IsFloatOf flag (point_answer u net corrections uncertainties x y z D)
    (live_answer u net corrections uncertainties x y z D flag))
    × ((q : Placing)
    → Agrees IsFloatOf flag (valuing_answer u net corrections uncertainties q)
    (live_valuing_answer u net corrections uncertainties q flag))

-- And these floats are exactly N and U.
abbrev pub LiveWhole : Type 0
LiveWhole =
    (u : Unit) (net : List ℕ) (corrections : List ℤ) (uncertainties : List ℕ) (flag : Bool)
    → SixteenBits corrections uncertainties
    → ((x y z : ℤ) (D : ℕ)
    → Agrees IsExactly flag (point_answer u net corrections uncertainties x y z D)
    (live_answer u net corrections uncertainties x y z D flag))
    × ((q : Placing)
    → Agrees IsExactly flag (valuing_answer u net corrections uncertainties q)
    (live_valuing_answer u net corrections uncertainties q flag))

-- A point that the exact call refuses is refused here by 15 where this is looked at before and applies, and
-- else by the same number and place.
abbrev pub LiveRefused : Type 0
LiveRefused =
    (u : Unit) (net : List ℕ) (corrections : List ℤ) (uncertainties : List ℕ) (x y z : ℤ)
    (D : ℕ) (flag : Bool)
    → (r : Refusal) → point_answer u net corrections uncertainties x y z D ≡ Err r
    → (let answer = live_answer u net corrections uncertainties x y z D flag in
    let Fifteen = MeetsFifteen u (length net) (length corrections) (length uncertainties) D in
    (Fifteen → answer ≡ Err LargeLiveScale) × ((Fifteen → ⊥) → answer ≡ Err r))

-- One that the exact call answers is answered here where m!×D^m is at most 2^37, and else refused by 15.
abbrev pub LiveAnswered : Type 0
LiveAnswered =
    (u : Unit) (net : List ℕ) (corrections : List ℤ) (uncertainties : List ℕ) (x y z : ℤ)
    (D : ℕ) (flag : Bool)
    → (f : Fraction) → point_answer u net corrections uncertainties x y z D ≡ Ok f
    → (let answer = live_answer u net corrections uncertainties x y z D flag in
    (f.denominator ≤ live_limit → answer ≡ Ok (live_value flag f.numerator f.uncertainty))
    × (live_limit < f.denominator → answer ≡ Err LargeLiveScale))

-- The flag changes no check.
abbrev pub LiveFlag : Type 0
LiveFlag =
    (u : Unit) (net : List ℕ) (corrections : List ℤ) (uncertainties : List ℕ) (x y z : ℤ)
    (D : ℕ) (r : Refusal)
    → (live_answer u net corrections uncertainties x y z D true ≡ Err r)
    ↔ (live_answer u net corrections uncertainties x y z D false ≡ Err r)
