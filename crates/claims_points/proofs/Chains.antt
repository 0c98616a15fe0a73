-- The parts of the chains of checks that points and placings go by, over what is lent;
-- of the uncertainties the length.
use mathlib.Core.List.{List}
use Prim.Native.Nat.{ℕ}
use lib.IntN.{ℤ}
use lib.ListN.{length}
use Rattle.sums.specs.Fill.{number_at}
use Rattle.unit.specs.Unit.{net_of, sizes}
use Rattle.unit.specs.declared.Unit.{Unit}
use Rattle.limits.specs.Limits.{lent_checks, room_checks}
use Rattle.axis_order.specs.declared.Placing.{Placing}
use Rattle.blended.specs.Blend.{correction_at, window_checks}
use Rattle.checks.specs.Checks.{Checked}

module _ (u : Unit) (net : List ℕ) (corrections : List ℤ) where
  -- 4 and 9
  abbrev pub room : ℕ → Checked
  room = room_checks u (length net) (length corrections)

  -- 21, 22, 4 and 9
  abbrev pub lent_slices : ℕ → Checked
  lent_slices = lent_checks u (length net) (length corrections)

  -- 13 and 23
  abbrev pub window : Placing → Checked
  window = window_checks (net_of u) (sizes u) (number_at net) (correction_at (sizes u) corrections)
