-- Shapes of multiplicities: their widths, and their limits.
use mathlib.Core.Bool.{and-eq-true_iff, true}
use mathlib.Core.Path.{◌≡◌, fun_ext, refl}
use Prim.Native.Nat.{◌*◌, ◌+◌, ◌≤◌, ℕ}
use native.Mathlib.Nat.{mul-le-mul}
use native.Mathlib.Omega.{arith}
use borrow.Author.Tests.{le-leb, leb-true}
use lib.Dec.{leb}
use Rattle.spline.specs.Box.{places, width}
use Rattle.spline.specs.Inner.Limits.{Limits}
use Rattle.spline.specs.Multiplicities.{Multiplicities}
use Rattle.spline.specs.Place.{Axis, a1, a2, a3}
use Rattle.allowed.proofs.Limits.{limits-range, range-limits}
use Rattle.shape.specs.Inner.Boxes.{Boxed}
use Rattle.shape.specs.Shape.{boxed, held_in, shape_of, side_allowed, widths}
use Rattle.shape.specs.declared.Shape.{Shape}

-- shapes with the same degree and the same widths are the same
pub shape-cong : {m w1 w2 w3 m' w1' w2' w3' : ℕ} → m ≡ m' → w1 ≡ w1' → w2 ≡ w2' → w3 ≡ w3'
    → ◌≡◌ {A = Shape} (record { m = m; w1 = w1; w2 = w2; w3 = w3 })
    (record { m = m'; w1 = w1'; w2 = w2'; w3 = w3' })
shape-cong p q r s = rw (p, q, r, s)

-- the widths in the shape of multiplicities are those of their box
pub shape-widths : (v : Multiplicities) → widths (shape_of v) ≡ width v
shape-widths v = fun_ext axis
  where
    axis : (b : Axis) → widths (shape_of v) b ≡ width v b
    axis a1 = refl
    axis a2 = refl
    axis a3 = refl

width-most : (m e : ℕ) → m ≤ 9 → e ≤ 10 → m * e + 1 ≤ 91
width-most m e hm he = let p = mul-le-mul hm he in omega arith

-- multiplicities within the limits have a box within them
pub limits-boxed : (v : Multiplicities) → Limits v 12 → Boxed (shape_of v)
limits-boxed v l = record {
  degree_most = omega arith;
  least1 = omega arith;
  least2 = omega arith;
  least3 = omega arith;
  most1 = width-most _ _ (omega arith) (omega arith);
  most2 = width-most _ _ (omega arith) (omega arith);
  most3 = width-most _ _ (omega arith) (omega arith);
}

-- ---- the test of a shape, and the facts that it stands for

side-limits : (w : ℕ) → side_allowed w ≡ true → (1 ≤ w) × (w ≤ 91)
unfolding side_allowed
side-limits w h = range-limits w 91 h

limits-side : (w : ℕ) → 1 ≤ w → w ≤ 91 → side_allowed w ≡ true
unfolding side_allowed
limits-side w a b = limits-range w 91 a b

-- a shape that passes its test is within the limits
pub boxed-limits : (s : Shape) → boxed s ≡ true → Boxed s
unfolding boxed
boxed-limits s h =
    let c = (and-eq-true_iff _ _).0 h in
    let b = (and-eq-true_iff _ _).0 c.0 in
    let a = (and-eq-true_iff _ _).0 b.0 in
    let l1 = side-limits s.w1 a.1 in
    let l2 = side-limits s.w2 b.1 in
    let l3 = side-limits s.w3 c.1 in
    record {
      degree_most = leb-true s.m 9 a.0;
      least1 = l1.0;
      least2 = l2.0;
      least3 = l3.0;
      most1 = l1.1;
      most2 = l2.1;
      most3 = l3.1;
    }

-- and one within the limits passes it
limits-boxes : (s : Shape) → Boxed s → boxed s ≡ true
unfolding boxed
limits-boxes s l =
    simp (
      le-leb s.m 9 l.degree_most,
      limits-side s.w1 l.least1 l.most1,
      limits-side s.w2 l.least2 l.most2,
      limits-side s.w3 l.least3 l.most3,
    )

-- ---- a shape and the length of a slice that holds its box

-- what `held_in` says of them
pub record Held (s : Shape) (n : ℕ) : Type 0 where
  pub boxed : Boxed s
  pub room : places (widths s) ≤ n

-- where the test passes, the shape is within the limits and its box has room
pub held-limits : (s : Shape) (n : ℕ) → held_in s n ≡ true → Held s n
unfolding held_in
held-limits s n h =
    let e = (and-eq-true_iff (boxed s) (leb (places (widths s)) n)).0 h in
    record { boxed = boxed-limits s e.0; room = leb-true (places (widths s)) n e.1 }

-- and where these hold, the test passes
pub limits-held : (s : Shape) (n : ℕ) → Boxed s → places (widths s) ≤ n → held_in s n ≡ true
unfolding held_in
limits-held s n b l = simp (limits-boxes s b, le-leb (places (widths s)) n l)
