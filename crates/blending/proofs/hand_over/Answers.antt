-- A turn writes one place more of each array.
use mathlib.Core.Path.{refl, sym}
use native.Mathlib.Omega.{arith}
use mir.Facts.{to_z-of_z}
use mir.Syntax.{w64}
use mir.Val.{SFits}
use Rattle.sums.proofs.Fill.{fill_none, fill-store}
use Rattle.sums.specs.Fill.{number_at, signed_at}
use Rattle.blending.proofs.hand_over.Goals as goal

pub loop-t-init : goal.loop-t-init
loop-t-init c = (
  sym (fill_none (signed_at c.args.corrections.now) _),
  sym (fill_none (number_at c.args.uncertainties.now) _),
)

pub loop-t-preserved : goal.loop-t-preserved
loop-t-preserved c =
    let at = c.loop-t in
    let f : SFits w64 (signed_at c.args.corrections.now at.t) = record { sfits = omega arith } in (
      rw at.invariant.0 (fill-store _ at.t _ _ (omega arith) (to_z-of_z f)),
      rw at.invariant.1 (fill-store _ at.t _ _ (omega arith) refl),
    )
