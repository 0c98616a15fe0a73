-- The degree is that of the multiplicities, and each width is computed of it as the definition has it.
use mathlib.Core.Path.{◌∙◌, ap}
use Prim.Native.Nat.{◌*◌, ◌+◌, ℕ}
use Rattle.shape.proofs.Shapes.{shape-cong}
use Rattle.shape.proofs.shape_of.Goals as goal

pub returns : goal.returns
returns c =
    let a = c.args in
    let e = c.degree_of-m.ensures.0 in
    let e1 = c.width_of.ensures in
    let e2 = c.width_of-2.ensures in
    let e3 = c.width_of-3.ensures in record {
      value = shape-cong e
          (e1.0 ∙ ap (λ (m : ℕ). m * (a.c.v1 + a.c.v4) + 1) e)
          (e2.0 ∙ ap (λ (m : ℕ). m * (a.c.v2 + a.c.v4) + 1) e)
          (e3.0 ∙ ap (λ (m : ℕ). m * (a.c.v3 + a.c.v4) + 1) e);
      w1_bound = (e1.1, e2.1, e3.1);
    }
