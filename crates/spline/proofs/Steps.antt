-- Steps of a direction, and going a whole degree back.
use mathlib.Core.Bool.{Bool, false, true}
use mathlib.Core.Path.{◌∙◌, ◌≡◌, ap, ap₂, fun_ext, refl, sym}
use Prim.Native.Nat.{◌+◌, suc, zero, ℕ}
use native.Mathlib.Nat.{suc-add}
use native.Mathlib.Omega.{arith}
use lib.IntN.{pred-suc, pred_ℤ, suc-pred, ℤ}
use Rattle.spline.proofs.Division.{compose-carry, compose-div-mod, compose-suc}
use Rattle.spline.proofs.Division.{div-compose, mod_below, mod-compose}
use Rattle.spline.specs.Build.{lowered_place, sum_back}
use Rattle.spline.specs.Place.{Axis, Direction, Net, Place, ◌⊕◌, ◌⊖◌, moves}
use Rattle.spline.specs.Place.{compose, down_if, floor_div, floor_mod, up_if}
use Rattle.spline.specs.Rule.{cell, composed, lowered, remainder}

-- ---- a step and back
pub up-down : (h : Bool) (z : ℤ) → up_if h (down_if h z) ≡ z
up-down true z = suc-pred z
up-down false z = refl

pub down-up : (h : Bool) (z : ℤ) → down_if h (up_if h z) ≡ z
down-up true z = pred-suc z
down-up false z = refl

-- q − d + d is q, and q + d − d too
pub ⊖⊕ : (q : Place) (d : Direction) → (q ⊖ d) ⊕ d ≡ q
⊖⊕ q d = fun_ext (λ b. up-down (moves d b) (q b))

pub ⊕⊖ : (q : Place) (d : Direction) → (q ⊕ d) ⊖ d ≡ q
⊕⊖ q d = fun_ext (λ b. down-up (moves d b) (q b))

-- ---- n steps back
-- q − n × d, on one axis
abbrev pub back_if : ℕ → Bool → ℤ → ℤ
back_if zero h z = z
back_if (suc n) h z = back_if n h (down_if h z)

-- on all axes
abbrev pub back : Direction → ℕ → Place → Place
back d n q = λ b. back_if n (moves d b) (q b)

-- the sums back from q + d and from q differ in their first and last terms alone
pub telescope : (d : Direction) (F : Net) (n : ℕ) (q : Place)
    → sum_back d F n (q ⊕ d) + F (back d n q) ≡ sum_back d F n q + F q
unfolding sum_back
telescope d F zero q = refl
telescope d F (suc n) q =
    let i : sum_back d F n q + F (back d (suc n) q) ≡ sum_back d F n (q ⊖ d) + F (q ⊖ d)
    = rw (⊖⊕ q d) at (telescope d F n (q ⊖ d)) in
    let e1 : F ((q ⊕ d) ⊖ d) ≡ F q = ap F (⊕⊖ q d) in
    let e2 : sum_back d F n ((q ⊕ d) ⊖ d) ≡ sum_back d F n q = ap (sum_back d F n) (⊕⊖ q d) in
    omega arith

-- ---- a whole degree back is one cell back
-- n steps back take n off the remainder
pub back-compose : (m n : ℕ) (k : ℤ) (u : ℕ) → back_if n true (compose m k (n + u)) ≡ compose m k u
back-compose m zero k u = ap (compose m k) (omega arith)
back-compose m (suc n) k u =
    ap (λ (z : ℤ). back_if n true (pred_ℤ z)) (ap (compose m k) (suc-add n u) ∙ compose-suc m k (n + u))
    ∙ ap (back_if n true) (pred-suc (compose m k (n + u)))
    ∙ back-compose m n k u

-- an axis that the direction does not move along stays
pub back-stays : (n : ℕ) (z : ℤ) → back_if n false z ≡ z
back-stays zero z = refl
back-stays (suc n) z = back-stays n z

back-cell : (g : ℕ) (z : ℤ)
    → back_if (suc g) true z ≡ compose (suc g) (pred_ℤ (floor_div (suc g) z)) (floor_mod (suc g) z)
back-cell g z =
    let k : ℤ = floor_div (suc g) z in
    let u : ℕ = floor_mod (suc g) z in
    let carried : z ≡ compose (suc g) (pred_ℤ k) (suc g + u)
    = sym (compose-div-mod g z)
    ∙ ap (λ (j : ℤ). compose (suc g) j u) (sym (suc-pred k))
    ∙ compose-carry (suc g) (pred_ℤ k) u in
    ap (back_if (suc g) true) carried ∙ back-compose (suc g) (suc g) (pred_ℤ k) u

-- the cell is one less, where the direction moves
pub div-back : (g : ℕ) (h : Bool) (z : ℤ)
    → floor_div (suc g) (back_if (suc g) h z) ≡ down_if h (floor_div (suc g) z)
div-back g true z =
    ap (floor_div (suc g)) (back-cell g z)
    ∙ div-compose g (pred_ℤ (floor_div (suc g) z)) (floor_mod (suc g) z) (mod_below g z)
div-back g false z = ap (floor_div (suc g)) (back-stays (suc g) z)

-- the remainder stays
pub mod-back : (g : ℕ) (h : Bool) (z : ℤ) → floor_mod (suc g) (back_if (suc g) h z) ≡ floor_mod (suc g) z
mod-back g true z =
    ap (floor_mod (suc g)) (back-cell g z)
    ∙ mod-compose g (pred_ℤ (floor_div (suc g) z)) (floor_mod (suc g) z) (mod_below g z)
mod-back g false z = ap (floor_mod (suc g)) (back-stays (suc g) z)

-- a whole degree back along e, lowered in direction d
pub lowered-cells-back : (d e : Direction) (g : ℕ) (q : Place)
    → lowered_place d g (back e (suc g) q) ≡ composed g (cell (suc g) q ⊖ e) (lowered d (remainder (suc g) q))
lowered-cells-back d e g q =
    ap₂ (λ (k : Axis → ℤ) (u : Axis → ℕ). composed g k (lowered d u))
    (fun_ext (λ b. div-back g (moves e b) (q b)))
    (fun_ext (λ b. mod-back g (moves e b) (q b)))

-- and along d itself, as the step rule has it
pub lowered-back : (d : Direction) (g : ℕ) (q : Place)
    → lowered_place d g (back d (suc g) q) ≡ composed g (cell (suc g) q ⊖ d) (lowered d (remainder (suc g) q))
lowered-back d g q = lowered-cells-back d d g q
