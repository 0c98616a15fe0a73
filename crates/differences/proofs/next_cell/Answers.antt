-- The next coordinate is in the same cell until the remainder is g, and begins the next cell then.
use mathlib.Core.Path.{◌≡◌, ap, sym}
use Prim.Native.Nat.{◌%◌, ◌*◌, ◌/◌, suc}
use native.Mathlib.Omega.{arith}
use Rattle.cells.proofs.RunningCells.{next-carries, next-within}
use Rattle.cells.specs.declared.Cell.{Cell}
use Rattle.differences.proofs.next_cell.Goals as goal

pub returns-then-c-g : goal.returns-then-c-g
returns-then-c-g c =
    let g = c.args.g in
    λ n h. let k : c.args.c.base ≡ g * (n / suc g) = ap (λ (t : Cell). t.base) h in
    let u : c.args.c.u ≡ n % suc g = ap (λ (t : Cell). t.u) h in
    rw (k, u) (sym (next-within g n (omega arith)))

pub returns-else-c-g : goal.returns-else-c-g
returns-else-c-g c =
    let g = c.args.g in
    λ n h. let k : c.args.c.base ≡ g * (n / suc g) = ap (λ (t : Cell). t.base) h in
    let u : c.args.c.u ≡ n % suc g = ap (λ (t : Cell). t.u) h in
    rw k (sym (next-carries g n (omega arith)))
