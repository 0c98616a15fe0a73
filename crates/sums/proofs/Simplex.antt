-- The numbers 0 ≤ s ≤ r ≤ p < n one after the other, by p, then by r, then by s: p, r, s stands at
-- tetrahedron p + (triangle r + s), and sums over them are sums over these positions.
use mathlib.Core.Bool.{Bool, ◌&&◌, false, true}
use mathlib.Core.Logic.{⊎_elim}
use mathlib.Core.Path.{◌∙◌, ◌≡◌, ap, ap₂, refl}
use Prim.Native.Nat.{◌+◌, ◌≤◌, suc, zero, ℕ}
use native.Mathlib.Nat.{add-suc, add-zero, le-suc_iff}
use native.Mathlib.Omega.{arith}
use lib.IntN.{◌+ℤ◌, ℤ}
use Rattle.sums.proofs.Sum.{sum-split}
use Rattle.sums.proofs.SumZ.{sum_z-split}
use Rattle.sums.specs.Search.{all_to}
use Rattle.sums.specs.Sum.{sum_to, sum_z}

-- 1 + .. + n
unfoldable pub triangle : ℕ → ℕ
triangle zero = 0
triangle (suc n) = triangle n + suc n

-- triangle 1 + .. + triangle n
unfoldable pub tetrahedron : ℕ → ℕ
tetrahedron zero = 0
tetrahedron (suc n) = tetrahedron n + triangle (suc n)

-- tetrahedron grows
pub tetrahedron-le : (a b : ℕ) → a ≤ b → tetrahedron a ≤ tetrahedron b
unfolding tetrahedron
tetrahedron-le a zero h = let e : a ≡ 0 = omega arith in rw e (omega arith)
tetrahedron-le a (suc b) h = ⊎_elim
    (λ (l : a ≤ b). let ih = tetrahedron-le a b l in omega arith)
    (λ (e : a ≡ suc b). rw e (omega arith))
    (le-suc_iff.0 h)

-- ---- sums by position

-- a sum over the positions of one p is a sum over r and s
sum-triangle : (n : ℕ) (f : ℕ → ℕ)
    → sum_to (triangle n) f ≡ sum_to n (λ r. sum_to (suc r) (λ s. f (triangle r + s)))
unfolding sum_to triangle
sum-triangle zero f = refl
sum-triangle (suc n) f =
    sum-split (triangle n) (suc n) f
    ∙ ap (λ (x : ℕ). x + sum_to (suc n) (λ s. f (triangle n + s))) (sum-triangle n f)

-- a sum over all positions is a sum over p, r and s
pub sum-tetrahedron : (n : ℕ) (f : ℕ → ℕ)
    → sum_to (tetrahedron n) f
    ≡ sum_to n (λ p. sum_to (suc p) (λ r. sum_to (suc r) (λ s. f (tetrahedron p + (triangle r + s)))))
unfolding sum_to tetrahedron
sum-tetrahedron zero f = refl
sum-tetrahedron (suc n) f =
    sum-split (tetrahedron n) (triangle (suc n)) f
    ∙ ap₂ (λ (x y : ℕ). x + y) (sum-tetrahedron n f)
    (sum-triangle (suc n) (λ t. f (tetrahedron n + t)))

-- the same over ℤ
sum_z-triangle : (n : ℕ) (f : ℕ → ℤ)
    → sum_z (triangle n) f ≡ sum_z n (λ r. sum_z (suc r) (λ s. f (triangle r + s)))
unfolding sum_z triangle
sum_z-triangle zero f = refl
sum_z-triangle (suc n) f =
    sum_z-split (triangle n) (suc n) f
    ∙ ap (λ (x : ℤ). x +ℤ sum_z (suc n) (λ s. f (triangle n + s))) (sum_z-triangle n f)

-- a sum over all positions is a sum over p, r and s, over ℤ
pub sum_z-tetrahedron : (n : ℕ) (f : ℕ → ℤ)
    → sum_z (tetrahedron n) f
    ≡ sum_z n (λ p. sum_z (suc p) (λ r. sum_z (suc r) (λ s. f (tetrahedron p + (triangle r + s)))))
unfolding sum_z tetrahedron
sum_z-tetrahedron zero f = refl
sum_z-tetrahedron (suc n) f =
    sum_z-split (tetrahedron n) (triangle (suc n)) f
    ∙ ap₂ (λ (x y : ℤ). x +ℤ y) (sum_z-tetrahedron n f)
    (sum_z-triangle (suc n) (λ t. f (tetrahedron n + t)))

-- ---- tests by position

and_assoc : (a b c : Bool) → ((a && b) && c) ≡ (a && (b && c))
and_assoc true b c = refl
and_assoc false b c = refl

and-true : (a : Bool) → a ≡ (a && true)
and-true true = refl
and-true false = refl

-- a test of a + b numbers is one of the first a and one of the b after them
all_split : (a b : ℕ) (p : ℕ → Bool) → all_to (a + b) p ≡ (all_to a p && all_to b (λ k. p (a + k)))
unfolding all_to
all_split a zero p = rw (add-zero a) (and-true (all_to a p))
all_split a (suc b) p =
    rw (add-suc a b, all_split a b p) (and_assoc (all_to a p) (all_to b (λ k. p (a + k))) (p (a + b)))

-- a test at the positions of one p is a test by r and s
all-triangle : (n : ℕ) (p : ℕ → Bool)
    → all_to (triangle n) p ≡ all_to n (λ r. all_to (suc r) (λ s. p (triangle r + s)))
unfolding all_to triangle
all-triangle zero p = refl
all-triangle (suc n) p =
    all_split (triangle n) (suc n) p
    ∙ ap (λ (x : Bool). x && all_to (suc n) (λ s. p (triangle n + s))) (all-triangle n p)

-- a test at all positions is a test by p, r and s
pub all-tetrahedron : (n : ℕ) (p : ℕ → Bool)
    → all_to (tetrahedron n) p
    ≡ all_to n (λ a. all_to (suc a) (λ r. all_to (suc r) (λ s. p (tetrahedron a + (triangle r + s)))))
unfolding all_to tetrahedron
all-tetrahedron zero p = refl
all-tetrahedron (suc n) p =
    all_split (tetrahedron n) (triangle (suc n)) p
    ∙ ap₂ (λ (x y : Bool). x && y) (all-tetrahedron n p)
    (all-triangle (suc n) (λ t. p (tetrahedron n + t)))
