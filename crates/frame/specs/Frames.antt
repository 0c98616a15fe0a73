-- What a unit and a placing fix for a blending: the window's extents and its lowest entry, the widths of the
-- net's box, the sizes of the block, and the steps through the box along the axes p, r, s. Section 10.2.
use Rattle.std.specs.Prelude.{cond, ◌*◌, ◌+◌, ◌-◌, ◌/◌, ℕ, eqb}
use Rattle.spline.specs.Box.{width}
use Rattle.spline.specs.Multiplicities.{degree, extent}
use Rattle.spline.specs.Place.{a1, a2, a3}
use Rattle.unit.specs.Unit.{net_of}
use Rattle.unit.specs.declared.Unit.{Unit}
use Rattle.axis_order.specs.declared.Placing.{Placing}
use Rattle.tetrahedron.specs.LocalPlaces.{local_places}
use Rattle.frame.specs.declared.Frame.{Frame}

-- the step through the net's box along the axis of a number
unfoldable pub step_on : ℕ → ℕ → ℕ → ℕ
step_on w1 w2 axis = cond (eqb axis 1) 1 (cond (eqb axis 2) w1 (w1 * w2))

abbrev pub frame_of : Unit → Placing → Frame
frame_of u q = record {
  m = degree (net_of u);
  count = local_places (degree (net_of u));
  groups = (local_places (degree (net_of u)) + 3) / 4;
  e1 = extent (net_of u) a1;
  e2 = extent (net_of u) a2;
  e3 = extent (net_of u) a3;
  w1 = width (net_of u) a1;
  w2 = width (net_of u) a2;
  n1 = u.n1;
  n2 = u.n2;
  low1 = q.k1 + 1 - extent (net_of u) a1;
  low2 = q.k2 + 1 - extent (net_of u) a2;
  low3 = q.k3 + 1 - extent (net_of u) a3;
  s1 = step_on (width (net_of u) a1) (width (net_of u) a2) q.p;
  s2 = step_on (width (net_of u) a1) (width (net_of u) a2) q.r;
  s3 = step_on (width (net_of u) a1) (width (net_of u) a2) q.s;
}
