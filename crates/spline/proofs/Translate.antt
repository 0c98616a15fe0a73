-- Places that lie whole degrees apart.
use mathlib.Core.Bool.{Bool, false, true}
use mathlib.Core.Path.{◌∙◌, ◌≡◌, ap, ap₂, fun_ext, refl, sym}
use Prim.Native.Nat.{◌*◌, ◌+◌, suc, zero, ℕ}
use native.Mathlib.Nat.{mul-suc, mul-zero}
use native.Mathlib.Omega.{arith}
use lib.IntN.{+ℤ_assoc, +ℤ_idr, +ℤ-suc_ℤ, ◌*ℤ◌, ◌+ℤ◌, pos, pred_ℤ-+ℤ, ℤ}
use Rattle.spline.proofs.Division.{compose-carry, compose-div-mod}
use Rattle.spline.proofs.Division.{div-compose, mod_below, mod-compose}
use Rattle.spline.specs.Build.{lowered_place}
use Rattle.spline.specs.Place.{Axis, Direction, Place, ◌⊖◌, compose, down_if, floor_div, floor_mod, moves}
use Rattle.spline.specs.Rule.{composed, lowered, remainder}

-- q + m × i
abbrev pub shift : ℕ → Place → (Axis → ℕ) → Place
shift m q i = λ b. q b +ℤ pos (m * i b)

-- ---- whole cells up
compose-plus : (m : ℕ) (k : ℤ) (u v : ℕ) → compose m k (u + v) ≡ compose m k u +ℤ pos v
compose-plus m k u v = sym (+ℤ_assoc (pos m *ℤ k) (pos u) (pos v))

-- i cells up is m × i up
pub compose-cells : (m : ℕ) (k : ℤ) (u i : ℕ) → compose m (k +ℤ pos i) u ≡ compose m k u +ℤ pos (m * i)
compose-cells m k u zero =
    ap (λ (j : ℤ). compose m j u) (+ℤ_idr k)
    ∙ sym (ap (λ (n : ℕ). compose m k u +ℤ pos n) (mul-zero m) ∙ +ℤ_idr (compose m k u))
compose-cells m k u (suc i) =
    ap (λ (j : ℤ). compose m j u) (+ℤ-suc_ℤ k (pos i))
    ∙ compose-carry m (k +ℤ pos i) u
    ∙ ap (compose m (k +ℤ pos i)) (omega arith)
    ∙ compose-plus m (k +ℤ pos i) u m
    ∙ ap (λ (z : ℤ). z +ℤ pos m) (compose-cells m k u i)
    ∙ +ℤ_assoc (compose m k u) (pos (m * i)) (pos m)
    ∙ ap (λ (n : ℕ). compose m k u +ℤ pos n) (sym (mul-suc m i))

module _ (g : ℕ) (z : ℤ) (i : ℕ) where
  abbrev k : ℤ
  k = floor_div (suc g) z

  abbrev u : ℕ
  u = floor_mod (suc g) z

  shift-at : z +ℤ pos (suc g * i) ≡ compose (suc g) (k +ℤ pos i) u
  shift-at =
      ap (λ (y : ℤ). y +ℤ pos (suc g * i)) (sym (compose-div-mod g z))
      ∙ sym (compose-cells (suc g) k u i)

  div-shift : floor_div (suc g) (z +ℤ pos (suc g * i)) ≡ k +ℤ pos i
  div-shift = ap (floor_div (suc g)) shift-at ∙ div-compose g (k +ℤ pos i) u (mod_below g z)

  mod-shift : floor_mod (suc g) (z +ℤ pos (suc g * i)) ≡ u
  mod-shift = ap (floor_mod (suc g)) shift-at ∙ mod-compose g (k +ℤ pos i) u (mod_below g z)

-- ---- shifted places
-- a place that lies i degrees up, lowered, lies i lowered degrees up
pub lowered-shift : (d : Direction) (g : ℕ) (q : Place) (i : Axis → ℕ)
    → lowered_place d g (shift (suc g) q i) ≡ shift g (lowered_place d g q) i
lowered-shift d g q i =
    ap₂ (λ (k : Axis → ℤ) (u : Axis → ℕ). composed g k (lowered d u))
    (fun_ext (λ b. div-shift g (q b) (i b))) (fun_ext (λ b. mod-shift g (q b) (i b)))
    ∙ fun_ext (λ b. compose-cells g (floor_div (suc g) (q b)) (lowered d (remainder (suc g) q) b) (i b))

-- a step back before a shift or after it, on one axis
pub down-plus : (h : Bool) (z : ℤ) (n : ℕ) → down_if h (z +ℤ pos n) ≡ down_if h z +ℤ pos n
down-plus true z n = sym (pred_ℤ-+ℤ z (pos n))
down-plus false z n = refl

-- on all axes
pub shift-⊖ : (d : Direction) (m : ℕ) (q : Place) (i : Axis → ℕ)
    → shift m q i ⊖ d ≡ shift m (q ⊖ d) i
shift-⊖ d m q i = fun_ext (λ b. down-plus (moves d b) (q b) (m * i b))
