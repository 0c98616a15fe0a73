-- What a build answers and leaves in its slices: Section 6.2.
use Rattle.std.specs.Prelude.{Err, List, Ok, Result, drop, length, ℕ, ℤ, ◌++◌, ◌≡◌}
use Rattle.spline.specs.Box.{net_list}
use Rattle.spline.specs.Build.{order_net}
use Rattle.spline.specs.Multiplicities.{order_multiplicities}
use Rattle.unit.specs.Unit.{with_net}
use Rattle.unit.specs.declared.Unit.{Unit}
use Rattle.orders.specs.Order.{build_checks, order_places, order_width}
use Rattle.checks.specs.Checks.{Checked, passed_or}
use Rattle.checks.specs.declared.Refusal.{Refusal}

-- Section 6.2: the answer, for slices of these lengths
unfoldable pub build_answer : Unit → List ℕ → ℕ → ℕ → Result Unit Refusal
build_answer u order net_length work_length =
    passed_or (build_checks order net_length work_length)
    (Ok (with_net u (order_multiplicities order)))
    Err

-- Section 6.2: the net slice afterwards, its box filled with the net
unfoldable pub build_net : List ℕ → List ℕ → ℕ → List ℕ
build_net order net work_length =
    passed_or (build_checks order (length net) work_length)
    (net_list (order_width order) (order_net order) ++ drop (order_places order) net)
    (λ _. net)

-- Sections 6.2, 5.2: the work slice keeps its length, and all of itself if the build was refused
abbrev pub WorkAfter : Checked → List ℤ → List ℤ → Type 0
WorkAfter (Ok _) before after = length after ≡ length before
WorkAfter (Err r) before after = after ≡ before

-- Section 6.2: the work slice before and after a build
unfoldable pub BuildWork : List ℕ → ℕ → List ℤ → List ℤ → Type 0
BuildWork order net_length before after =
    WorkAfter (build_checks order net_length (length before)) before after
