-- By the rule alone an order has exactly one net: existence and uniqueness.
use mathlib.Core.List.{List, [], ◌∷◌}
use mathlib.Core.Path.{◌∙◌, ◌≡◌, ap, fun_ext, refl, subst, sym}
use Prim.Native.Nat.{◌*◌, ◌+◌, ◌≤◌, suc, ℕ}
use native.Mathlib.Omega.{arith}
use lib.IntN.{negsuc, pos, ℤ}
use Rattle.spline.proofs.Low.{Low, ZeroLow, simple-low, stepped-low}
use Rattle.spline.proofs.Solution.{Below, Vanishes, stepped-obeys, unique}
use Rattle.spline.proofs.Support.{High, ZeroHigh, simple-high, stepped-high, wider}
use Rattle.spline.specs.Build.{Follows, built, done, simple, stepped, then}
use Rattle.spline.specs.Place.{Axis, Direction, Net, Place, a1, a2, a3}
use Rattle.spline.specs.Rule.{Far, Obeys, ZeroFar}

-- ---- existence
-- a bound on each axis gives one for all
zero-far : (m : ℕ) (E : Axis → ℕ) (C : Net) → ZeroLow C → ZeroHigh m E C
    → ZeroFar (m * (E a1 + E a2 + E a3)) C
zero-far m E C l h = record { zero_far = go }
  where
    side : (q : Place) (b : Axis) (N : ℕ) → m * E b ≤ N → (z : ℤ) → z ≡ q b → Far N z → C q ≡ 0
    side q b N le (pos n) e k = h.zero_high q b (subst (High (m * E b)) e (omega arith))
    side q b N le (negsuc n) e k = l.zero_low q b (subst Low e tt)

    go : (q : Place) (b : Axis) → Far (m * (E a1 + E a2 + E a3)) (q b) → C q ≡ 0
    go q a1 k = side q a1 (m * (E a1 + E a2 + E a3)) (omega arith) (q a1) refl k
    go q a2 k = side q a2 (m * (E a1 + E a2 + E a3)) (omega arith) (q a2) refl k
    go q a3 k = side q a3 (m * (E a1 + E a2 + E a3)) (omega arith) (q a3) refl k

exists-from : (ds : List Direction) (g : ℕ) (E : Axis → ℕ) (G : Net) → ZeroLow G → ZeroHigh g E G
    → Follows ds g G (built ds g G)
unfolding built
exists-from [] g E G l h = done
exists-from (d ∷ ds) g E G l h =
    let l' : ZeroLow (stepped d g G) = stepped-low d g G l in
    let h' : ZeroHigh (suc g) (wider d E) (stepped d g G) = stepped-high d g E G h in
    then (stepped d g G) _ (stepped-obeys d g G)
    (zero-far (suc g) (wider d E) (stepped d g G) l' h')
    (exists-from ds (suc g) (wider d E) (stepped d g G) l' h')

-- ---- uniqueness
far-vanishes : (N : ℕ) (C : Net) → ZeroFar N C → Vanishes N C
far-vanishes N C v = record { far = λ q b k. v.zero_far q b (out (q b) k) }
  where
    out : (z : ℤ) → Below N z → Far N z
    out (negsuc n) k = k
    out (pos _) k = elim k [ ]

low-vanishes : (N : ℕ) (C : Net) → ZeroLow C → Vanishes N C
low-vanishes N C v = record { far = λ q b k. v.zero_low q b (low (q b) k) }
  where
    low : (z : ℤ) → Below N z → Low z
    low (negsuc n) k = tt
    low (pos _) k = elim k [ ]

-- the one net that obeys the rule and is 0 far below
pub only : (d : Direction) (g : ℕ) (G C : Net) (N : ℕ) → ZeroLow G → Obeys d g G C → Vanishes N C
    → C ≡ stepped d g G
only d g G C N l o v =
    let low = low-vanishes N (stepped d g G) (stepped-low d g G l) in
    fun_ext (unique d g G C (stepped d g G) o (stepped-obeys d g G) N v low)

only-from : {ds : List Direction} {g : ℕ} {G R : Net} → Follows ds g G R → ZeroLow G → R ≡ built ds g G
unfolding built
only-from done l = refl
only-from (then {d = d} {ds = ds} {g = g} {G = G} C N o v f) l =
    let e : C ≡ stepped d g G = only d g G C N l o (far-vanishes N C v) in
    only-from f (subst ZeroLow (sym e) (stepped-low d g G l)) ∙ ap (built ds (suc g)) e

-- ---- from the simple net
-- the chain exists, and its end is what `built` computes
pub exists : (ds : List Direction) → Follows ds 1 simple (built ds 1 simple)
exists ds = exists-from ds 1 (λ b. 2) simple simple-low simple-high

-- no other net is the end of one
pub only_one : (ds : List Direction) (R : Net) → Follows ds 1 simple R → R ≡ built ds 1 simple
only_one ds R f = only-from f simple-low
