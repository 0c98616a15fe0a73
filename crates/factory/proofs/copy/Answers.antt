-- A refused call returns before it writes; one that has passed its check lays the table and sets the unit.
use mathlib.Core.Path.{◌∙◌, ◌≡◌, ap, sym}
use lib.ListN.{length}
use Rattle.sums.specs.Fill.{filled}
use Rattle.spline.specs.Box.{net_list}
use Rattle.factory.proofs.Accepted.{factory-accepted}
use Rattle.factory.specs.Factory.{factory_answer, factory_checks, factory_net}
use Rattle.factory.proofs.copy.Goals as goal
use Rattle.factory.proofs.copy.Goals.{In_ok-check_room}
use Rattle.std.specs.Prelude.{Ok}
use Rattle.checks.specs.Checks.{no_refusal}

-- the check has passed
passed : (c : In_ok-check_room)
    → factory_checks (length c.args.net.now) ≡ no_refusal
passed c = sym c.check_room.ensures ∙ c.in_ok-check_room.was

pub lay_table-requires : goal.lay_table-requires
lay_table-requires c = factory-accepted _ (passed (goal.at.lay_table-requires c).In_ok-check_room)

pub returns : goal.returns
unfolding factory_answer factory_net filled net_list
returns c =
    let r = passed (goal.at.returns c).In_ok-check_room in
    let laid = c.lay_table in record { answer = simp r (ap Ok c.with_net.ensures); net = simp r laid.ensures }
