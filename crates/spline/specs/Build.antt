-- The simple net, the rule's solution, and what an order builds: Sections 3.2, 3.5, 3.6.
use Rattle.std.specs.Prelude.{List, [], ◌∷◌, map, ℕ, zero, suc, ◌+◌, ◌*◌, ℤ, pos, negsuc}
use Rattle.spline.specs.Place.{a1, a2, a3, Direction, along, diagonal, Place, Net, ◌⊖◌}
use Rattle.spline.specs.Rule.{lowered, cell, remainder, composed, Obeys, ZeroFar}

abbrev pub is_one : ℤ → ℕ
is_one (pos zero) = 0
is_one (pos (suc zero)) = 1
is_one (pos (suc (suc n))) = 0
is_one (negsuc n) = 0

-- Section 3.2: the simple net, 1 at (1,1,1) and 0 at all other places
unfoldable pub simple : Net
simple q = is_one (q a1) * is_one (q a2) * is_one (q a3)

-- Section 3.6: R comes from G, of degree g, by a chain of nets, each of which obeys the rule with the one
-- before it and is 0 far outside
pub data Follows : List Direction → ℕ → Net → Net → Type 0 where
  done : {g : ℕ} {G : Net} → Follows [] g G G
  then : {d : Direction} {ds : List Direction} {g : ℕ} {G R : Net} (C : Net) (far : ℕ)
      → Obeys d g G C → ZeroFar far C → Follows ds (suc g) C R → Follows (d ∷ ds) g G R

-- Section 3.3: the lowered place L(q) = (m−1) × k + w, for G of degree g = m−1
abbrev pub lowered_place : Direction → ℕ → Place → Place
lowered_place d g q = composed g (cell (suc g) q) (lowered d (remainder (suc g) q))

-- Section 3.5: the sum back F(q−d) + F(q−2d) + .. + F(q−nd)
unfoldable pub sum_back : Direction → Net → ℕ → Net
sum_back d F zero q = 0
sum_back d F (suc n) q = F (q ⊖ d) + sum_back d F n (q ⊖ d)

-- Section 3.5: the rule solved for C, G(L(q−d)) + .. + G(L(q−md)). That it obeys the rule, and that no other
-- net which is 0 far outside does, are laws.
unfoldable pub stepped : Direction → ℕ → Net → Net
stepped d g G = sum_back d (λ p. G (lowered_place d g p)) (suc g)

-- Section 3.6: the end of the chain that `Follows` speaks of
unfoldable pub built : List Direction → ℕ → Net → Net
built [] g G = G
built (d ∷ ds) g G = built ds (suc g) (stepped d g G)

-- Section 2.1: the direction of a byte 1 to 4; every other byte counts as 4, and a build refuses it
abbrev pub direction : ℕ → Direction
direction zero = diagonal
direction (suc zero) = along a1
direction (suc (suc zero)) = along a2
direction (suc (suc (suc zero))) = along a3
direction (suc (suc (suc (suc n)))) = diagonal

-- Section 3.6: the net that an order of bytes builds
abbrev pub order_net : List ℕ → Net
order_net order = built (map direction order) 1 simple
