-- All checks have passed before the first write, so the file has its entries and the slices have room.
use mathlib.Core.Path.{◌∙◌, ap, sym}
use Prim.Native.Nat.{◌<◌}
use native.Mathlib.Omega.{arith}
use lib.Signed.{mag}
use Rattle.file.proofs.Twos.{read_back}
use Rattle.field.proofs.Accepted.{corrections-loaded, most-entries, uncertainties-loaded}
use Rattle.field.specs.Load.{load_answer, load_corrections, load_uncertainties}
use Rattle.field.proofs.load.Goals as goal
use Rattle.std.specs.Prelude.{Ok}

pub returns-in_err-check_load-clause-corrections : goal.returns-in_err-check_load-clause-corrections
unfolding load_corrections
returns-in_err-check_load-clause-corrections c =
    simp (sym c.check_load.ensures ∙ c.in_err-check_load.was)

pub returns-in_err-check_load-clause-uncertainties : goal.returns-in_err-check_load-clause-uncertainties
unfolding load_uncertainties
returns-in_err-check_load-clause-uncertainties c =
    simp (sym c.check_load.ensures ∙ c.in_err-check_load.was)

pub overflow_cast-n : goal.overflow_cast-n
overflow_cast-n c =
    let a = c.args in
    let e = sym c.check_load.ensures ∙ c.in_ok-check_load.was in
    omega (arith, c.entries-n.ensures, most-entries a.file.now a.corrections.now a.uncertainties.now e)

pub returns : goal.returns
unfolding load_answer
returns c =
    let a = c.args in
    let file = a.file.now in
    let sizes = c.read-sizes.ensures in
    let origin = c.read-origin.ensures in
    let e = sym c.check_load.ensures ∙ c.in_ok-check_load.was in
    let n = c.entries-n.ensures in
    let o = c.read-origin.result in
    let fits1 : mag o.o1 < 32768 = omega arith in
    let fits2 : mag o.o2 < 32768 = omega arith in
    let fits3 : mag o.o3 < 32768 = omega arith in
    let o1 = read_back fits1 origin.0 in
    let o2 = read_back fits2 origin.1 in
    let o3 = read_back fits3 origin.2 in record {
      answer = simp e (ap Ok (c.with_block.ensures ∙ simp (sizes.0, sizes.1, sizes.2, o1, o2, o3)));
      corrections = c.read_corrections.ensures.corrections
          ∙ corrections-loaded file a.corrections.now a.uncertainties.now e _ n;
      uncertainties = c.read_uncertainties.ensures.uncertainties
          ∙ uncertainties-loaded file a.corrections.now a.uncertainties.now e _ n;
    }
