-- An inspection finds the lowest index at which the net differs from the defined one; with none it passes,
-- and then the numbers obey the rule.
use mathlib.Core.Bool.{Bool, ◌||◌, false, not, true}
use mathlib.Core.List.{List}
use mathlib.Core.Path.{◌∙◌, ◌≡◌, ap, refl}
use Prim.Native.Nat.{◌≤◌, ℕ}
use borrow.Author.Tests.{le-ltb, ltb-false, not-false}
use lib.Dec.{ltb}
use lib.ListN.{length}
use Rattle.sums.specs.Search.{Found, at, nowhere}
use Rattle.spline.proofs.Multiplicities.{limits-positive}
use Rattle.spline.specs.Box.{places, width}
use Rattle.spline.specs.Multiplicities.{Multiplicities, allowed}
use Rattle.checks.proofs.Checks.{at-passed, if-passed, made-by, or-false, refused-by}
use Rattle.allowed.proofs.Limits.{allowed-limits}
use Rattle.unit.specs.Unit.{with_net}
use Rattle.unit.specs.declared.Unit.{Unit}
use Rattle.inspection.specs.Inspect.{inspect_answer, inspect_checks}
use Rattle.claims_rule.proofs.Numbers.{difference, difference-lowest, found-holds, holds-found, right-numbers}
use Rattle.claims_rule.specs.Rule.{HoldsDefined, LowestDifference}
use Rattle.claims_nets.specs.Inspections.{Differing, Inspector, Lowest}
use Rattle.checks.specs.Checks.{Checked, no_refusal, passed_or, refuse_at, refuse_if}
use Rattle.std.specs.Prelude.{Err, Ok}
use Rattle.checks.specs.declared.Refusal.TheVariants as refusal

-- ---- the checks

module _ (v : Multiplicities) (net : List ℕ) (defined_length work_length : ℕ) where
  abbrev box : ℕ
  box = places (width v)

  abbrev short : Bool
  short = ltb (length net) box || ltb defined_length box || ltb work_length box

  -- where neither 3 nor 4 applies, the search decides
  checks-are : allowed v ≡ true → box ≤ length net → box ≤ defined_length → box ≤ work_length
      → inspect_checks v net defined_length work_length
      ≡ refuse_at refusal.Differing (difference v net) no_refusal
  unfolding inspect_checks
  checks-are fine room room₁ room₂ =
      simp (fine, le-ltb (length net) _ room, le-ltb defined_length _ room₁, le-ltb work_length _ room₂)

  -- an inspection that was not refused read the defined net of allowed multiplicities
  pub passed-holds : inspect_checks v net defined_length work_length ≡ no_refusal → HoldsDefined v net
  unfolding inspect_checks
  passed-holds h =
      let e = if-passed refusal.BadMultiplicities (not (allowed v)) _ h in
      let f = if-passed refusal.NetRoom short _ e.1 in
      let g = or-false _ (ltb work_length box) f.0 in
      let k = or-false (ltb (length net) box) (ltb defined_length box) g.0 in
      found-holds v net (ltb-false (length net) box k.0)
      (at-passed refusal.Differing (difference v net) no_refusal f.1).0

  pub passed-allowed : inspect_checks v net defined_length work_length ≡ no_refusal → allowed v ≡ true
  unfolding inspect_checks
  passed-allowed h = not-false (allowed v) (if-passed refusal.BadMultiplicities (not (allowed v)) _ h).0

  -- the place of a 14 is the lowest index that differs
  stopped-lowest : (i : ℕ) → inspect_checks v net defined_length work_length ≡ Err (refusal.Differing i)
      → LowestDifference v net i
  unfolding inspect_checks
  stopped-lowest i h = difference-lowest v net i (go (not (allowed v)) short (difference v net) h)
    where
      go : (three four : Bool) (f : Found)
          → refuse_if refusal.BadMultiplicities three
          (refuse_if refusal.NetRoom four (refuse_at refusal.Differing f no_refusal))
          ≡ Err (refusal.Differing i)
          → f ≡ at i
      go true four f k = cc
      go false true f k = cc
      go false false nowhere k = cc
      go false false (at j) k = cc

-- an inspection passes the defined net
pub holds-passes : (u : Unit) (v : Multiplicities) (net : List ℕ) (defined_length work_length : ℕ)
    → allowed v ≡ true
    → places (width v) ≤ length net → places (width v) ≤ defined_length → places (width v) ≤ work_length
    → HoldsDefined v net → inspect_answer u v net defined_length work_length ≡ Ok (with_net u v)
unfolding inspect_answer
holds-passes u v net defined_length work_length fine room room₁ room₂ h =
    ap (λ (k : Checked). passed_or k (Ok (with_net u v)) Err)
    (checks-are v net defined_length work_length fine room room₁ room₂
    ∙ ap (λ (f : Found). refuse_at refusal.Differing f no_refusal) (holds-found v net h))

-- ---- the statements

pub inspector : Inspector
unfolding inspect_answer
inspector u v net defined_length work_length fine room room₁ room₂ =
    let right = right-numbers v (limits-positive (allowed-limits v fine)) net room in (
      λ h. right.0 (passed-holds v net defined_length work_length (made-by _ (with_net u v) h).0),
      λ r. holds-passes u v net defined_length work_length fine room room₁ room₂ (right.1 r),
    )

pub lowest : Lowest
unfolding inspect_answer
lowest u v net defined_length work_length i h =
    stopped-lowest v net defined_length work_length i (refused-by _ (with_net u v) h)

pub differing : Differing
unfolding inspect_answer
differing u v net defined_length work_length fine room room₁ room₂ other =
    go (difference v net) refl
  where
    go : (f : Found) → difference v net ≡ f
        → (i : ℕ) × (inspect_answer u v net defined_length work_length ≡ Err (refusal.Differing i))
        × LowestDifference v net i
    go nowhere e = absurd (other (found-holds v net room e))
    go (at i) e = (
      i,
      ap (λ (k : Checked). passed_or k (Ok (with_net u v)) Err)
          (checks-are v net defined_length work_length fine room room₁ room₂
          ∙ ap (λ (f : Found). refuse_at refusal.Differing f no_refusal) e),
      difference-lowest v net i e,
    )
