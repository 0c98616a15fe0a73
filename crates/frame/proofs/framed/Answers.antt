-- Each field is the definition's, once the shape is that of the unit's net.
use mathlib.Core.Path.{◌∙◌, ap, refl}
use native.Mathlib.Omega.{arith}
use Rattle.shape.specs.Shape.{shape_of}
use Rattle.tetrahedron.proofs.Numbers.{count-few}
use Rattle.frame.proofs.framed.Goals as goal

pub overflow_add-result : goal.overflow_add-result
overflow_add-result c =
    let e = c.local_places-count.ensures in
    let few = count-few c.shape_of-s.result.m in
    omega arith

pub returns : goal.returns
returns c =
    rw (
      c.step_on.ensures,
      c.step_on-2.ensures,
      c.step_on-3.ensures,
      c.low_on.ensures,
      c.low_on-2.ensures,
      c.low_on-3.ensures,
      c.local_places-count.ensures,
      c.shape_of-s.ensures.value ∙ ap shape_of c.of_unit.ensures,
      c.extent_of-e1.ensures,
      c.extent_of-e2.ensures,
      c.extent_of-e3.ensures,
    ) refl
