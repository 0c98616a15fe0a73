-- Checks 3 and 4 stop with their refusal; past them the defined net is laid, and the two lists are compared.
use mathlib.Core.List.{List}
use mathlib.Core.Path.{◌∙◌, ◌≡◌, ap, sym}
use Prim.Native.Nat.{ℕ}
use lib.ListN.{length}
use Rattle.spline.specs.Multiplicities.{Multiplicities}
use Rattle.shape.specs.Shape.{counted}
use Rattle.shape.specs.declared.Shape.{Shape}
use Rattle.comparison.specs.Compare.{comparison}
use Rattle.inspection.proofs.InspectChecks.{compared, given, given-limits}
use Rattle.inspection.proofs.InspectChecks.{laid-length, rooms}
use Rattle.inspection.proofs.check_net.Goals as goal
use Rattle.inspection.proofs.check_net.Goals.{In_ok-check_given}
use Rattle.checks.specs.Checks.{no_refusal}

-- 3 and 4 have passed
module _ (t : In_ok-check_given) where
  abbrev v : Multiplicities
  v = counted t.args.c

  abbrev net : List ℕ
  net = t.args.net.now

  abbrev defined : List ℕ
  defined = t.args.defined.now

  abbrev room : ℕ
  room = length t.args.work.now

  passed : given v net defined room ≡ no_refusal
  passed = sym t.check_given.ensures ∙ t.in_ok-check_given.was

pub lay_defined-requires : goal.lay_defined-requires
lay_defined-requires c =
    let t = (goal.at.lay_defined-requires c).In_ok-check_given in
    let r = rooms (v t) (net t) (defined t) (room t) (passed t) in record {
      limits = given-limits (v t) (net t) (defined t) (room t) (passed t);
      c_in_bounds = (r.1, r.2);
    }

pub returns : goal.returns
returns c =
    let t = (goal.at.returns c).In_ok-check_given in
    let l = c.lay_defined in
    let laid = l.new.defined in
    let shape = c.shape_of.ensures.value in record {
      value = c.compare.ensures
          ∙ ap (λ (s : Shape). comparison s (net t) laid) shape
          ∙ compared (v t) (net t) (defined t) (room t) (passed t) laid l.ensures.defined_after;
      defined_len_unchanged =
          laid-length (v t) (net t) (defined t) (room t) (passed t) laid l.ensures.defined_after;
      work_len_unchanged = l.ensures.work_len_unchanged;
    }
