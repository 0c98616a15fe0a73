-- Steps and shifts of two directions commute.
use mathlib.Core.Bool.{Bool, false, true}
use mathlib.Core.Path.{◌∙◌, ◌≡◌, ap, fun_ext, refl, sym}
use Prim.Native.Nat.{suc, zero, ℕ}
use lib.IntN.{pred-suc, suc-pred, ℤ}
use Rattle.spline.proofs.Steps.{back, back_if}
use Rattle.spline.specs.Place.{Direction, Place, ◌⊕◌, ◌⊖◌, down_if, moves, up_if}

-- ---- two steps
up_up : (h h' : Bool) (z : ℤ) → up_if h (up_if h' z) ≡ up_if h' (up_if h z)
up_up true true z = refl
up_up true false z = refl
up_up false true z = refl
up_up false false z = refl

-- q + d + e is q + e + d
pub ⊕-comm : (q : Place) (d e : Direction) → (q ⊕ d) ⊕ e ≡ (q ⊕ e) ⊕ d
⊕-comm q d e = fun_ext (λ b. up_up (moves e b) (moves d b) (q b))

down-up_if : (h h' : Bool) (z : ℤ) → down_if h (up_if h' z) ≡ up_if h' (down_if h z)
down-up_if true true z = pred-suc z ∙ sym (suc-pred z)
down-up_if true false z = refl
down-up_if false true z = refl
down-up_if false false z = refl

-- ---- n steps back, and a step
back-up : (n : ℕ) (h h' : Bool) (z : ℤ) → back_if n h (up_if h' z) ≡ up_if h' (back_if n h z)
back-up zero h h' z = refl
back-up (suc n) h h' z = ap (back_if n h) (down-up_if h h' z) ∙ back-up n h h' (down_if h z)

-- n steps back before a step or after it
pub back-⊕ : (d e : Direction) (n : ℕ) (q : Place) → back d n (q ⊕ e) ≡ back d n q ⊕ e
back-⊕ d e n q = fun_ext (λ b. back-up n (moves d b) (moves e b) (q b))

down-down : (h h' : Bool) (z : ℤ) → down_if h (down_if h' z) ≡ down_if h' (down_if h z)
down-down true true z = refl
down-down true false z = refl
down-down false true z = refl
down-down false false z = refl

back-down : (n : ℕ) (h h' : Bool) (z : ℤ) → back_if n h (down_if h' z) ≡ down_if h' (back_if n h z)
back-down zero h h' z = refl
back-down (suc n) h h' z = ap (back_if n h) (down-down h h' z) ∙ back-down n h h' (down_if h z)

back-back_if : (n m : ℕ) (h h' : Bool) (z : ℤ) → back_if n h (back_if m h' z) ≡ back_if m h' (back_if n h z)
back-back_if n zero h h' z = refl
back-back_if n (suc m) h h' z = back-back_if n m h h' (down_if h' z) ∙ ap (back_if m h') (back-down n h h' z)

-- n steps back in two directions, in either order
pub back-back : (d e : Direction) (n : ℕ) (q : Place) → back d n (back e n q) ≡ back e n (back d n q)
back-back d e n q = fun_ext (λ b. back-back_if n n (moves d b) (moves e b) (q b))

-- q − d − e is q − e − d
pub ⊖-comm : (q : Place) (d e : Direction) → (q ⊖ d) ⊖ e ≡ (q ⊖ e) ⊖ d
⊖-comm q d e = fun_ext (λ b. down-down (moves e b) (moves d b) (q b))
