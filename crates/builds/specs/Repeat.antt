-- Repeats, each in its two halves, and all of an order one after another: Section 6.3.
use Rattle.std.specs.Prelude.{List, [], ◌∷◌, ℕ, ℤ}
use Rattle.sums.specs.Fill.{filled}
use Rattle.spline.specs.Build.{direction}
use Rattle.spline.specs.Multiplicities.{Multiplicities, more, order_multiplicities}
use Rattle.spline.specs.Place.{Direction}
use Rattle.shape.specs.Shape.{shape_of}
use Rattle.differences.specs.Pass.{differences_of}
use Rattle.summations.specs.Pass.{sums_of}
use Rattle.orders.specs.Order.{order_number, order_places}

-- Section 6.3: the work slice between the halves of a repeat of d, from a net of multiplicities v, with the
-- differences in it
abbrev pub work_between : Direction → Multiplicities → List ℕ → List ℤ → List ℤ
work_between d v net work = differences_of d (shape_of v) (shape_of (more d v)) net work

-- Section 6.3: the net slice after both, with their sums in it
abbrev pub net_repeated : Direction → Multiplicities → List ℕ → List ℤ → List ℕ
net_repeated d v net work = sums_of d (shape_of (more d v)) net (work_between d v net work)

-- the two slices of a build
pub record Slices : Type 0 where
  pub net : List ℕ
  pub work : List ℤ

abbrev pub slices : List ℕ → List ℤ → Slices
slices net work = record { net = net; work = work }

-- Section 6.3: both slices after the repeats of these bytes one after another, from a net of multiplicities v
unfoldable pub repeats : List ℕ → Multiplicities → Slices → Slices
repeats [] v s = s
repeats (b ∷ bytes) v s =
    let d = direction b in
    repeats bytes (more d v)
    (slices (net_repeated d v s.net s.work) (work_between d v s.net s.work))

-- Section 6.3: both slices after all repeats of an order, from the simple net
unfoldable pub taken_up : List ℕ → List ℕ → List ℤ → Slices
taken_up order net work =
    repeats order (order_multiplicities []) (slices (filled (order_number []) (order_places []) net) work)
