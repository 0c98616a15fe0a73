-- What a build answers and leaves in its slices, by its checks.
use mathlib.Core.List.{List}
use mathlib.Core.Path.{◌≡◌}
use Prim.Native.Nat.{ℕ}
use lib.IntN.{ℤ}
use lib.ListN.{length}
use Rattle.sums.specs.Fill.{filled}
use Rattle.spline.specs.Box.{net_list}
use Rattle.spline.specs.Multiplicities.{order_multiplicities}
use Rattle.checks.specs.declared.Refusal.{Refusal}
use Rattle.unit.specs.Unit.{with_net}
use Rattle.unit.specs.declared.Unit.{Unit}
use Rattle.orders.specs.Order.{build_checks}
use Rattle.builds.proofs.OrderNets.{net_over}
use Rattle.builds.specs.Build.{build_answer, build_net, BuildWork}
use Rattle.std.specs.Prelude.{Err, Ok}
use Rattle.checks.specs.Checks.{Checked, no_refusal}

module _ (u : Unit) (order net : List ℕ) (work : List ℤ) where
  abbrev checks : Checked
  checks = build_checks order (length net) (length work)

  -- a refused build leaves both slices as they were
  pub build-refused : (r : Refusal) → checks ≡ Err r
      → (build_answer u order (length net) (length work) ≡ Err r)
      × (build_net order net (length work) ≡ net) × BuildWork order (length net) work work
  unfolding build_answer build_net BuildWork
  build-refused r h = (simp h, simp h, simp h)

  -- one that passed its checks sets the unit's net, and leaves the net of the order in the net slice
  pub build-passed : checks ≡ no_refusal
      → (build_answer u order (length net) (length work) ≡ Ok (with_net u (order_multiplicities order)))
      × (build_net order net (length work) ≡ net_over order net)
      × ((after : List ℤ) → length after ≡ length work → BuildWork order (length net) work after)
  unfolding build_answer build_net BuildWork filled net_list
  build-passed h = (simp h, simp h, λ after same. simp h same)
