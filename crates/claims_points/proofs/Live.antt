-- The live call beside the exact one: both go by the same checks but for 15.
use mathlib.Core.Bool.{Bool, false, true}
use mathlib.Core.List.{List}
use mathlib.Core.Path.{◌∙◌, ◌≡◌, refl, sym}
use Prim.Native.Nat.{◌<◌, ◌≤◌, ℕ}
use native.Mathlib.Omega.{arith}
use borrow.Author.Tests.{le-ltb, lt-ltb, ltb-true}
use lib.Dec.{ltb}
use lib.IntN.{ℤ}
use lib.ListN.{length}
use Rattle.spline.specs.Multiplicities.{Multiplicities, degree}
use Rattle.checks.proofs.Checks.{made-by, refused-by, stopped-passed, then-passed}
use Rattle.checks.specs.declared.Refusal.{Refusal}
use Rattle.unit.specs.Unit.{net_of}
use Rattle.unit.specs.declared.Unit.{Unit}
use Rattle.divisor_checks.specs.Divisor.{divisor_checks, live_divisor_checks, live_limit, live_scale_check, scale}
use Rattle.placing.specs.Place.{inside_check, position_checks}
use Rattle.placing.specs.Placing.{placing}
use Rattle.answers.specs.Live.{live_answer, live_checks, live_value}
use Rattle.answers.specs.Point.{fraction_at, point_answer, point_checks}
use Rattle.answers.specs.declared.Fraction.{Fraction}
use Rattle.claims_points.proofs.Chains.{lent_slices, window}
use Rattle.claims_points.specs.Live.{LiveAnswered, LiveFlag, LiveRefused, MeetsFifteen}
use Rattle.checks.specs.Checks.{Checked, and_then, no_refusal, passed_or, refuse_if}
use Rattle.std.specs.Prelude.{Err, Ok}
use Rattle.checks.specs.declared.Refusal.TheVariants.{LargeLiveScale}

-- ---- answers made of checks

-- what 15 stops has m!×D^m above 2^37
pub above-limit : (v : Multiplicities) (D : ℕ) {r : Refusal} → live_scale_check v D ≡ Err r
    → live_limit < scale (degree v) D
unfolding live_scale_check
above-limit v D {r} h = ltb-true _ _ (go (ltb live_limit (scale (degree v) D)) h)
  where
    go : (b : Bool) → refuse_if LargeLiveScale b no_refusal ≡ Err r → b ≡ true
    go true k = refl
    go false k = stopped-passed r (sym k)

-- 15 lets m!×D^m up to 2^37 pass
pub fifteen-passes : (v : Multiplicities) (D : ℕ) → scale (degree v) D ≤ live_limit
    → live_scale_check v D ≡ no_refusal
unfolding live_scale_check
fifteen-passes v D h = rw (le-ltb live_limit (scale (degree v) D) h) refl

-- and stops what is above
pub fifteen-stops : (v : Multiplicities) (D : ℕ) → live_limit < scale (degree v) D
    → live_scale_check v D ≡ Err LargeLiveScale
unfolding live_scale_check
fifteen-stops v D h = rw (lt-ltb live_limit (scale (degree v) D) h) refl

-- ---- both chains of checks

module _ (u : Unit) (net : List ℕ) (corrections : List ℤ) (uncertainties : List ℕ) (x y z : ℤ) (D : ℕ) where
  abbrev lent : Checked
  lent = lent_slices u net corrections (length uncertainties)

  abbrev divisor : Checked
  divisor = divisor_checks (net_of u) D

  abbrev fifteen : Checked
  fifteen = live_scale_check (net_of u) D

  abbrev inside : Checked
  inside = inside_check u x y z D

  abbrev last : Checked
  last = window u net corrections (placing u x y z D)

  abbrev exact : Checked
  exact = and_then lent (and_then (and_then divisor inside) last)

  abbrev pub live : Checked
  live = and_then lent (and_then (and_then divisor fifteen) (and_then inside last))

  abbrev Fifteen : Type 0
  Fifteen = MeetsFifteen u (length net) (length corrections) (length uncertainties) D

  abbrev fraction : Fraction
  fraction = fraction_at u net corrections uncertainties (placing u x y z D) D

  -- the exact call goes by its chain
  point-is : point_answer u net corrections uncertainties x y z D
      ≡ passed_or exact (Ok fraction) Err
  unfolding point_answer point_checks position_checks
  point-is = refl

  -- and the live call by its own
  pub live-is : (flag : Bool)
      → live_answer u net corrections uncertainties x y z D flag
      ≡ passed_or live (Ok (live_value flag fraction.numerator fraction.uncertainty)) Err
  unfolding live_answer live_checks live_divisor_checks
  live-is flag = refl

  -- 15 where it is looked at and applies
  stopped-here : Fifteen → live ≡ Err LargeLiveScale
  stopped-here m = rw (m.lent, m.divisor, fifteen-stops (net_of u) D m.above) refl

  -- else, what stops the exact call stops the live one
  stopped-alike : {r : Refusal} → (Fifteen → ⊥) → exact ≡ Err r → live ≡ Err r
  stopped-alike {r} unmet h = go lent divisor fifteen refl refl refl
    where
      go : (a b c : Checked) → lent ≡ a → divisor ≡ b → fifteen ≡ c → live ≡ Err r
      go (Err s) b c ea eb ec = rw ea (rw ea at h)
      go (Ok _) (Err s) c ea eb ec = rw (ea, eb) (rw (ea, eb) at h)
      go (Ok _) (Ok _) (Ok _) ea eb ec = rw (ea, eb, ec) (rw (ea, eb) at h)
      go (Ok _) (Ok _) (Err s) ea eb ec =
          absurd (unmet (record { lent = ea; divisor = eb; above = above-limit (net_of u) D ec }))

  pub record Passes : Type 0 where
    pub lent-passed : lent ≡ no_refusal
    pub divisor-passed : divisor ≡ no_refusal
    pub inside-passed : inside ≡ no_refusal
    pub window-passed : last ≡ no_refusal

  -- an exact call that goes through has passed all checks but 15
  exact-passes : exact ≡ no_refusal → Passes
  exact-passes h =
      let l = then-passed lent _ h in
      let p = then-passed (and_then divisor inside) last l.1 in
      let d = then-passed divisor inside p.0 in
      record { lent-passed = l.0; divisor-passed = d.0; inside-passed = d.1; window-passed = p.1 }

  -- so has a live one
  pub live-passes : live ≡ no_refusal → Passes
  live-passes h =
      let l = then-passed lent _ h in
      let r = then-passed (and_then divisor fifteen) _ l.1 in
      let d = then-passed divisor fifteen r.0 in
      let i = then-passed inside last r.1 in
      record { lent-passed = l.0; divisor-passed = d.0; inside-passed = i.0; window-passed = i.1 }

  -- 15 lets all others pass
  within-passes : Passes → scale (degree (net_of u)) D ≤ live_limit → live ≡ no_refusal
  within-passes p h =
      rw (
        p.lent-passed,
        p.divisor-passed,
        fifteen-passes (net_of u) D h,
        p.inside-passed,
        p.window-passed,
      ) refl

  above-stops : Passes → live_limit < scale (degree (net_of u)) D → live ≡ Err LargeLiveScale
  above-stops p h =
      stopped-here (record { lent = p.lent-passed; divisor = p.divisor-passed; above = h })

-- ---- the demands

pub live-refused : LiveRefused
live-refused u net corrections uncertainties x y z D flag r h =
    let e = live-is u net corrections uncertainties x y z D flag in
    let stop = refused-by _ _ (sym (point-is u net corrections uncertainties x y z D) ∙ h) in (
      λ m. e ∙ rw (stopped-here u net corrections uncertainties x y z D m) refl,
      λ unmet. e ∙ rw (stopped-alike u net corrections uncertainties x y z D unmet stop) refl,
    )

pub live-answered : LiveAnswered
live-answered u net corrections uncertainties x y z D flag f h =
    let e = live-is u net corrections uncertainties x y z D flag in
    let k = made-by _ _ (sym (point-is u net corrections uncertainties x y z D) ∙ h) in
    let p = exact-passes u net corrections uncertainties x y z D k.0 in
    rw k.1 (
      λ l. e ∙ rw (within-passes u net corrections uncertainties x y z D p l) refl,
      λ l. e ∙ rw (above-stops u net corrections uncertainties x y z D p l) refl,
    )

pub live-flag : LiveFlag
live-flag u net corrections uncertainties x y z D r = (alike true false, alike false true)
  where
    alike : (a b : Bool) → live_answer u net corrections uncertainties x y z D a ≡ Err r
        → live_answer u net corrections uncertainties x y z D b ≡ Err r
    alike a b h =
        let e = live-is u net corrections uncertainties x y z D in
        let f = fraction u net corrections uncertainties x y z D in
        let stop = refused-by (live u net corrections uncertainties x y z D)
        (live_value a f.numerator f.uncertainty) (sym (e a) ∙ h) in
        e b ∙ rw stop refl
