-- Coordinates of places as differences of naturals.
use mathlib.Core.Bool.{Bool, cond, false, true}
use mathlib.Core.Path.{◌≡◌}
use Prim.Native.Nat.{◌*◌, ◌+◌, ◌-◌, ◌<◌, ◌≤◌, suc, zero, ℕ}
use native.Mathlib.Omega.{arith}
use lib.IntN.{negsuc, pos, pred_ℤ, sub_ℕ, ℤ}
use Rattle.sums.proofs.Cases.{by-ltb}
use Rattle.sums.proofs.Signed.{Is, is-as, is_pos, is-sub, same}
use Rattle.spline.proofs.Solution.{Below}
use Rattle.spline.proofs.Steps.{back_if}
use Rattle.spline.specs.Place.{down_if, place}

-- ---- steps back, as differences
is-pred : {z : ℤ} {a b : ℕ} → Is z a b → Is (pred_ℤ z) a (suc b)
is-pred {z = pos zero} h = omega arith
is-pred {z = pos (suc n)} h = omega arith
is-pred {z = negsuc n} h = omega arith

is_down : (h : Bool) {z : ℤ} {a b : ℕ} → Is z a b → Is (down_if h z) a (b + cond h 1 0)
is_down true k = is-as _ _ (is-pred k) (omega arith)
is_down false k = is-as _ _ k (omega arith)

is-back : (s : ℕ) (h : Bool) {z : ℤ} {a b : ℕ} → Is z a b → Is (back_if s h z) a (b + s * cond h 1 0)
is-back zero h k = is-as _ _ k (omega arith)
is-back (suc s) h k = is-as _ _ (is-back s h (is_down h k)) (omega arith)

-- ---- a coordinate after them
-- a step back
pub down-sub : (h : Bool) (n : ℕ) → down_if h (pos n) ≡ sub_ℕ n (cond h 1 0)
down-sub h n = same (is_down h (is_pos n)) (is-sub n (cond h 1 0)) (omega arith)

-- a whole degree back on every axis
pub back-all : (s n : ℕ) → back_if s true (pos n) ≡ sub_ℕ n s
back-all s n = same (is-back s true (is_pos n)) (is-sub n s) (omega arith)

-- and then one along the direction
pub back-both : (s n : ℕ) (h : Bool) → back_if s h (back_if s true (pos n)) ≡ sub_ℕ n (s + s * cond h 1 0)
back-both s n h =
    same (is-back s h (is-back s true (is_pos n))) (is-sub n (s + s * cond h 1 0)) (omega arith)

-- a step back is a cell back from a natural place
pub down-cell : (g n : ℕ) (h : Bool) → down_if h (pos n) ≡ back_if (suc g) true (pos (n + suc g - cond h 1 0))
down-cell g n true =
    same (is_down true (is_pos n)) (is-back (suc g) true (is_pos (n + suc g - 1))) (omega arith)
down-cell g n false =
    same (is_down false (is_pos n)) (is-back (suc g) true (is_pos (n + suc g - 0))) (omega arith)

-- inside, a difference of naturals is a natural
pub sub-inside : (n s : ℕ) → s ≤ n → sub_ℕ n s ≡ pos (n - s)
sub-inside n s h = same (is-sub n s) (is_pos (n - s)) (omega arith)

-- outside it is negative
pub sub-outside : (n s : ℕ) → n < s → Below 0 (sub_ℕ n s)
sub-outside n s h =
    by-ltb (Below 0) n s (negsuc (s - suc n)) (pos (n - s)) (λ l. omega arith) (λ l. absurd (omega arith))

-- equal coordinates, equal places
pub place-cong : {x y z x' y' z' : ℤ} → x ≡ x' → y ≡ y' → z ≡ z' → place x y z ≡ place x' y' z'
place-cong p q r = rw (p, q, r)
