-- The places of a row that are on the edge are those from which one step back leaves the box.
use mathlib.Core.Bool.{cond}
use mathlib.Core.Logic.{◌⊎◌, inl, inr}
use mathlib.Core.Path.{◌≡◌, subst, sym}
use Prim.Native.Nat.{◌<◌, ◌≤◌, ℕ}
use native.Mathlib.Omega.{arith}
use lib.Dec.{ltb}
use Rattle.sums.proofs.Cases.{by-ltb}
use Rattle.edges.specs.EdgeWidth.{edge_width}
use Rattle.shape.specs.declared.Vector.{Vector}

-- the first n of a row's w1 places are on the edge, and the others are not
pub record OnEdge (v : Vector) (w1 y z n : ℕ) : Type 0 where
  pub most : n ≤ w1
  pub leaves : (x : ℕ) → x < n → (x < v.x) ⊎ (y < v.y) ⊎ (z < v.z)
  pub stays : (x : ℕ) → n ≤ x → x < w1 → (v.x ≤ x) × (v.y ≤ y) × (v.z ≤ z)

-- so it is with the width of the edge
pub on_edge : (v : Vector) (w1 y z n : ℕ) → v.x ≤ w1 → n ≡ edge_width v w1 y z → OnEdge v w1 y z n
unfolding edge_width
on_edge v w1 y z n h e =
    subst (OnEdge v w1 y z) (sym e)
    (by-ltb (OnEdge v w1 y z) y v.y w1 (cond (ltb z v.z) w1 v.x)
    (λ l. record { most = omega arith; leaves = λ x k. inr (inl l); stays = λ x k t. absurd (omega arith) })
    (λ l. by-ltb (OnEdge v w1 y z) z v.z w1 v.x
    (λ k. record { most = omega arith; leaves = λ x t. inr (inr k); stays = λ x t u. absurd (omega arith) })
    (λ k. record { most = h; leaves = λ x t. inl t; stays = λ x t u. (t, l, k) })))
