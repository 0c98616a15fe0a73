-- Cell and remainder of a coordinate, on the far face and off it.
use mathlib.Core.Bool.{Bool, false, true}
use mathlib.Core.Path.{◌≡◌, refl, subst, sym}
use Prim.Native.Nat.{◌%◌, ◌*◌, ◌-◌, ◌/◌, ◌≤◌, ℕ}
use native.Mathlib.Nat.{mod-lt}
use native.Mathlib.Omega.{arith}
use borrow.Author.Tests.{eq-eqb, eqb-false, eqb-true, ne_eqb}
use lib.Dec.{eqb}
use Rattle.coordinates.specs.Coordinates.{located}
use Rattle.coordinates.specs.declared.Located.{Located}

module _ (x D n : ℕ) where
  -- the far face is in the last cell, a whole D from its low end
  pub on-face : x ≡ n * D → located x D n ≡ record { cell = n - 1; remainder = D }
  unfolding located
  on-face e = simp (eq-eqb x (n * D) e)

  -- any other coordinate has its quotient and remainder
  pub off-face : (x ≡ n * D → ⊥) → located x D n ≡ record { cell = x / D; remainder = x % D }
  unfolding located
  off-face h = simp (ne_eqb x (n * D) h)

  -- what holds in both cases
  pub by-face : (P : Located → Type 0)
      → (x ≡ n * D → P (record { cell = n - 1; remainder = D }))
      → ((x ≡ n * D → ⊥) → P (record { cell = x / D; remainder = x % D }))
      → P (located x D n)
  by-face P face off = go (eqb x (n * D)) refl
    where
      go : (t : Bool) → eqb x (n * D) ≡ t → P (located x D n)
      go true h = let e = eqb-true x (n * D) h in subst P (sym (on-face e)) (face e)
      go false h = let k = eqb-false x (n * D) h in subst P (sym (off-face k)) (off k)

  -- no remainder is above the divisor
  pub remainder-most : 1 ≤ D → (located x D n).remainder ≤ D
  remainder-most h =
      by-face (λ l. l.remainder ≤ D) (λ e. omega arith) (λ k. omega (arith, mod-lt x h))
