-- The placing call gives exactly the placings that are possible, and 17 stops the others.
use mathlib.Core.Bool.{Bool, false, not, true}
use mathlib.Core.Logic.{◌↔◌}
use mathlib.Core.Path.{◌∙◌, ◌≡◌, refl, sym}
use Prim.Native.Nat.{◌<◌, ◌^◌, ◌≤◌, ℕ}
use native.Mathlib.Omega.{arith}
use lib.IntN.{◌*ℤ◌, ◌+ℤ◌, pos, ℤ}
use lib.Signed.{mag, nat_abs-le}
use Rattle.sums.proofs.Search.{false-true}
use Rattle.sums.proofs.Signed.{abs-add, mag-le}
use Rattle.spline.specs.Place.{a1, a2, a3}
use Rattle.checks.proofs.Checks.{stopped-passed}
use Rattle.unit.specs.Unit.{holds_block, holds_net}
use Rattle.unit.specs.declared.Unit.{Unit}
use Rattle.limits.specs.Limits.{unit_checks}
use Rattle.coordinates.proofs.Origin.{origin-small}
use Rattle.axis_order.specs.Weights.{weight_sum}
use Rattle.axis_order.specs.declared.Placing.{Placing}
use Rattle.placing.proofs.Placed.{place-placed, point-accepted}
use Rattle.possible.proofs.FieldTests.{is-possible, possible-is}
use Rattle.possible.proofs.GivenBack.{coordinate, distance_on, distances-small, given_back}
use Rattle.possible.proofs.PlacedPossible.{placed-possible}
use Rattle.possible.specs.Possible.{placing_checks, possible}
use Rattle.chains.proofs.Stopped.{Never, if-never, passed-never, placeless, then-second}
use Rattle.claims_placings.specs.Given.{GivenAt, NeverGiven, OriginFits}
use Rattle.checks.specs.Checks.{no_refusal, refuse_if}
use Rattle.std.specs.Prelude.{Err}
use Rattle.checks.specs.declared.Refusal.TheVariants.{ImpossiblePlacing, NoBlock, NoNet}

-- the checks of the unit are not 17
unit-never : (u : Unit) → Never (placeless ImpossiblePlacing) (unit_checks u)
unfolding unit_checks
unit-never u =
    if-never NoNet (placeless ImpossiblePlacing) (not (holds_net u)) _ (λ _ e. omega arith)
    (if-never NoBlock (placeless ImpossiblePlacing) (not (holds_block u)) no_refusal (λ _ e. omega arith)
    (passed-never (placeless ImpossiblePlacing)))

module _ (u : Unit) (q : Placing) where
  -- one that is not possible is stopped by 17
  pub impossible-stopped : unit_checks u ≡ no_refusal → possible u q ≡ false
      → placing_checks u q ≡ Err ImpossiblePlacing
  unfolding placing_checks
  impossible-stopped e h = rw (e, h) refl

  -- and one that is stopped so is not possible
  stopped-impossible : placing_checks u q ≡ Err ImpossiblePlacing
      → (unit_checks u ≡ no_refusal) × (possible u q ≡ false)
  unfolding placing_checks
  stopped-impossible h =
      let t = then-second (placeless ImpossiblePlacing) 0 (unit_checks u) _ (unit-never u) h in
      (t.0, go (possible u q) t.1)
    where
      go : (b : Bool) → refuse_if ImpossiblePlacing (not b) no_refusal ≡ Err ImpossiblePlacing → b ≡ false
      go true k = stopped-passed ImpossiblePlacing (sym k)
      go false k = refl

  -- it is stopped exactly where no point gives it
  pub stopped-never : (placing_checks u q ≡ Err ImpossiblePlacing) ↔ NeverGiven u q
  stopped-never = (
    λ h.
        let t = stopped-impossible h in
        record {
          equipped = t.0;
          at_no_point = λ x y z D e.
              let p = place-placed u x y z D t.0 e in
              let given = possible-is u _ (placed-possible u x y z D (point-accepted u x y z D p.0)) in
              false-true (sym t.1 ∙ rw p.1 given);
        },
    λ n. go n (possible u q) refl,
  )
    where
      go : NeverGiven u q → (b : Bool) → possible u q ≡ b → placing_checks u q ≡ Err ImpossiblePlacing
      go n true e = absurd (n.at_no_point _ _ _ _ (given_back u q n.equipped (is-possible u q e)))
      go n false e = impossible-stopped n.equipped e

-- a coordinate not far from an origin of 16 bits fits 32
coordinate-fits : (t : ℕ) (o : ℤ) (D : ℕ) → t ≤ 262144 → D ≤ 4096 → mag o < 2 ^ 15
    → mag (pos t +ℤ o *ℤ pos D) < 2 ^ 31
coordinate-fits t o D near few fits =
    let size = abs-add (pos t) (o *ℤ pos D) in
    let shift = origin-small o D (nat_abs-le o fits) in
    omega (arith, mag-le (pos t +ℤ o *ℤ pos D))

-- a placing that is possible is that of a point whose numbers a caller can hand in
pub possible-given : (u : Unit) (q : Placing) → unit_checks u ≡ no_refusal → OriginFits u → possible u q ≡ true
    → GivenAt u q
possible-given u q e origin h =
    let p = is-possible u q h in
    let small = distances-small u q e p in
    let few = p.divisor.few in
    let x = coordinate-fits (distance_on q a1) u.o1 (weight_sum q) small.0 few
    (omega (arith, origin.first)) in
    let y = coordinate-fits (distance_on q a2) u.o2 (weight_sum q) small.1 few
    (omega (arith, origin.second)) in
    let z = coordinate-fits (distance_on q a3) u.o3 (weight_sum q) small.2 few
    (omega (arith, origin.third)) in
    record {
      x = coordinate q a1 u.o1;
      y = coordinate q a2 u.o2;
      z = coordinate q a3 u.o3;
      D = weight_sum q;
      given = given_back u q e p;
      fits = (omega (arith, x), omega (arith, y), omega (arith, z), omega (arith, few));
    }
