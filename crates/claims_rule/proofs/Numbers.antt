-- Numbers are the defined net exactly where they obey the rule, or differ from it first at a lowest index.
use mathlib.Core.Bool.{Bool, false, not}
use mathlib.Core.List.{List}
use mathlib.Core.Logic.{◌↔◌}
use mathlib.Core.Path.{◌∙◌, ◌≡◌, ap, sym}
use Prim.Native.Nat.{◌<◌, ◌≤◌, ℕ}
use native.Mathlib.Omega.{arith}
use borrow.Author.Tests.{eq-eqb, eqb-true, not-false}
use lib.Dec.{eqb}
use lib.ListN.{get_or, length, take}
use lib.Seq.{ext_get_or, get_or-take, length-take-le}
use Rattle.sums.proofs.Search.{false-true, first_found, first-nowhere, nowhere-first}
use Rattle.sums.specs.Search.{Found, at, first, nowhere}
use Rattle.spline.proofs.Box.{length-net_list, net_list-at}
use Rattle.spline.proofs.Inspection.{list-obeys}
use Rattle.spline.proofs.Multiplicities.{Positive, limits-positive}
use Rattle.spline.specs.Box.{defined_number, net_list, places, width}
use Rattle.spline.specs.Defined.{defined}
use Rattle.spline.specs.Multiplicities.{HasRepeat, Multiplicities}
use Rattle.spline.specs.Place.{Direction}
use Rattle.allowed.proofs.Limits.{allowed-limits}
use Rattle.claims_rule.proofs.Plain.{plain-defined, repeat-or-none}
use Rattle.claims_rule.specs.Rule.{HoldsDefined, LowestDifference, OneDirection, RightNumbers}

-- ---- the rule and the defined net

-- numbers obey the rule, or are the simple net, exactly where they are the defined net
pub right-numbers : (v : Multiplicities) → Positive v → (net : List ℕ) → places (width v) ≤ length net
    → HoldsDefined v net ↔ RightNumbers v net
right-numbers v p net room = (right, holds)
  where
    right : HoldsDefined v net → RightNumbers v net
    right h = record {
      repeats = λ d r. (list-obeys v p net room d r).0 h;
      plain = λ none. h ∙ ap (net_list (width v)) (plain-defined v p none);
    }

    holds : RightNumbers v net → HoldsDefined v net
    holds r = elim (repeat-or-none v) [
      | yes k ↦ (list-obeys v p net room k.0 k.1).1 (r.repeats k.0 k.1)
      | no none ↦
          (let e : (d : Direction) → HasRepeat d v → ⊥ = λ d k. none (d, k) in
          r.plain e ∙ ap (net_list (width v)) (sym (plain-defined v p e)))
    ]

-- ---- the search for a difference

module _ (v : Multiplicities) (net : List ℕ) where
  abbrev n : ℕ
  n = places (width v)

  -- the test of an index
  abbrev differs : ℕ → Bool
  differs i = not (eqb (get_or net i 0) (defined_number v i))

  -- the lowest index of the box that differs, if any
  abbrev pub difference : Found
  difference = first n differs

  same_number : (i : ℕ) → differs i ≡ false → get_or net i 0 ≡ defined_number v i
  same_number i h =
      eqb-true (get_or net i 0) (defined_number v i) (not-false (eqb (get_or net i 0) (defined_number v i)) h)

  same-found : (i : ℕ) → get_or net i 0 ≡ defined_number v i → differs i ≡ false
  same-found i h = ap not (eq-eqb (get_or net i 0) (defined_number v i) h)

  -- no difference: the slice holds the defined net, and the other way round
  pub found-holds : n ≤ length net → difference ≡ nowhere → HoldsDefined v net
  found-holds room e =
      ext_get_or 0 (take n net) (net_list (width v) (defined v))
      (length-take-le n net room ∙ sym (length-net_list (width v) (defined v)))
      (λ i l.
      let k : i < n = omega (arith, length-take-le n net room) in
      get_or-take n net i 0 k
      ∙ same_number i (first-nowhere differs n e i k)
      ∙ sym (net_list-at (width v) (defined v) i k))

  pub holds-found : HoldsDefined v net → difference ≡ nowhere
  holds-found h =
      nowhere-first differs n (λ i l.
      same-found i
      (sym (get_or-take n net i 0 l)
      ∙ ap (λ (s : List ℕ). get_or s i 0) h
      ∙ net_list-at (width v) (defined v) i l))

  -- what the search finds is the lowest index that differs
  pub difference-lowest : (i : ℕ) → difference ≡ at i → LowestDifference v net i
  difference-lowest i e =
      let f = first_found differs n i e in
      record {
        within_box = f.0;
        differs = λ q. false-true (sym (same-found i q) ∙ f.1);
        lower_same = λ j l. same_number j (f.2 j l);
      }

-- ---- one direction for all

-- numbers that obey the rule in one direction with a repeat are the defined net, and so obey it in all
pub one-direction : OneDirection
one-direction v fine net room d h o e k =
    let p = limits-positive (allowed-limits v fine) in
    (list-obeys v p net room e k).0 ((list-obeys v p net room d h).1 o)
