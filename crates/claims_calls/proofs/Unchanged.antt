-- A refused build and a refused load leave the slices that they were lent: their checks did not pass.
use mathlib.Core.Path.{refl}
use lib.ListN.{length}
use Rattle.builds.specs.Build.{build_answer, build_net, BuildWork}
use Rattle.orders.specs.Order.{build_checks}
use Rattle.field.specs.Load.{load_answer, load_checks, load_corrections, load_uncertainties}
use Rattle.claims_calls.specs.Refusals.{Unchanged}
use Rattle.checks.proofs.Checks.{refused-by}

pub unchanged : Unchanged
unfolding build_answer build_net BuildWork load_answer load_corrections load_uncertainties
unchanged r = (
  λ u order net before after h w.
      let e = refused-by (build_checks order (length net) (length before)) _ h in
      (rw e refl, rw e at w),
  λ u file corrections uncertainties h.
      let e = refused-by (load_checks file (length corrections) (length uncertainties)) _ h in
      (rw e refl, rw e refl),
)
