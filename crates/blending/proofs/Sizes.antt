-- From the sums at each local place: whether the shares add up, and the sizes of what is blended.
use mathlib.Core.Bool.{true}
use mathlib.Core.List.{List}
use mathlib.Core.Path.{◌∙◌, ◌≡◌, ap, subst, sym}
use Prim.Native.Nat.{◌<◌, ◌≤◌, ℕ}
use borrow.Author.Tests.{eqb-true}
use lib.Dec.{eqb}
use lib.IntN.{ℤ}
use Rattle.sums.proofs.Fill.{filled-cong}
use Rattle.sums.proofs.Search.{all-at, all-cong}
use Rattle.sums.specs.Coefficient.{factorial}
use Rattle.sums.specs.Fill.{filled, number_at}
use Rattle.spline.specs.Multiplicities.{degree}
use Rattle.unit.specs.Unit.{net_of}
use Rattle.unit.specs.declared.Unit.{Unit}
use Rattle.axis_order.specs.declared.Placing.{Placing}
use Rattle.blending.proofs.Values.{adds-up-by-number}
use Rattle.blending.specs.Inner.Sums.{Bounded, Sums, sums}
use Rattle.tetrahedron.specs.LocalPlaces.{local_at, local_places}
use Rattle.tetrahedron.specs.Unity.{whole_at}
use Rattle.frame.specs.Frames.{frame_of}
use Rattle.frame.specs.declared.Frame.{Frame}
use Rattle.blended.specs.Blend.{Sized, blended_correction_at, blended_uncertainty_at, local_of, written_if}
use Rattle.blended.specs.Blending.{adds_up, share_sum}
use Rattle.checks.specs.Checks.{no_refusal}

module _ (u : Unit) (q : Placing) (net : List ℕ) (corrections : List ℤ) (uncertainties : List ℕ) where
  -- the sums at the local place with number t, by the definitions
  abbrev pub defined_sums : ℕ → Sums
  defined_sums t =
      sums (share_sum (net_of u) (number_at net) (local_of q (local_at t)))
      (blended_correction_at u net corrections q t) (blended_uncertainty_at u net uncertainties q t)

  module _ (h : degree (net_of u) ≤ 9) (now : ℕ → Sums) (f : Frame) (e : f ≡ frame_of u q)
      (are : (t : ℕ) → t < f.count → now t ≡ defined_sums t) where
    -- the shares of these sums compared with m! are the test of the definition
    pub evened-by : whole_at f.m (λ t. (now t).shares) ≡ adds_up (net_of u) (number_at net) q
    unfolding whole_at
    evened-by =
        let count = ap (λ (f : Frame). f.count) e in
        let full = factorial (degree (net_of u)) in
        ap (λ (f : Frame). whole_at f.m (λ t. (now t).shares)) e
        ∙ all-cong (local_places (degree (net_of u))) _ _ (λ t l.
        ap (λ (s : Sums). eqb s.shares full) (are t (subst (λ (n : ℕ). t < n) (sym count) l)))
        ∙ adds-up-by-number (net_of u) (number_at net) q h

    -- with shares that add up, bounds on the sums are bounds by m!
    pub sized-by : ((t : ℕ) → t < f.count → Bounded (now t)) → adds_up (net_of u) (number_at net) q ≡ true
        → Sized u net corrections uncertainties q
    unfolding whole_at
    sized-by bounds even =
        let count = ap (λ (f : Frame). f.count) e in
        let each = all-at _ _ (adds-up-by-number (net_of u) (number_at net) q h ∙ even) in
        let shift = blended_correction_at u net corrections q in
        let spread = blended_uncertainty_at u net uncertainties q in
        let bounded : (t : ℕ) → t < local_places (degree (net_of u))
        → Bounded (sums (factorial (degree (net_of u))) (shift t) (spread t))
        = λ t l.
        let k = subst (λ (n : ℕ). t < n) (sym count) l in
        subst Bounded
        (are t k ∙ ap (λ (n : ℕ). sums n (shift t) (spread t)) (eqb-true _ _ (each t l)))
        (bounds t k) in
        record {
          of_corrections = λ t l. (bounded t l).of_corrections;
          of_uncertainties = λ t l. (bounded t l).of_uncertainties;
        }

-- ---- what is written

-- numbers that are the values at each local place fill an array as passed checks have it
pub written-by : {A : Type 0} (u : Unit) (q : Placing) (f : Frame) (now value : ℕ → A) (old : List A)
    → f ≡ frame_of u q → ((t : ℕ) → t < f.count → now t ≡ value t)
    → filled now f.count old ≡ written_if no_refusal value u old
unfolding written_if
written-by u q f now value old e are =
    filled-cong _ _ f.count _ are
    ∙ ap (λ (n : ℕ). filled value n old) (ap (λ (f : Frame). f.count) e)
