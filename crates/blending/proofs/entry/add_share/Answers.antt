-- The sums of fewer than 4096 entries have room for one more.
use mathlib.Core.Path.{◌∙◌, ◌≡◌, refl}
use Prim.Native.Nat.{◌*◌, ◌+◌, ◌<◌, ◌^◌, ◌≤◌}
use native.Mathlib.Omega.{arith}
use lib.IntN.{*ℤ_comm, ◌*ℤ◌, nat_abs, pos, ℤ}
use mir.Facts.{sfits_widen, to_z-of_z}
use mir.Syntax.{w16, w64}
use mir.Val.{SFits, of_z, to_z}
use Rattle.sums.proofs.MachineSizes.{fits-size, mul-fits, mul-read}
use Rattle.sums.proofs.Signed.{abs-mul}
use Rattle.sums.specs.Fill.{signed_at}
use Rattle.blending.proofs.Machine.{add-fits, add_read}
use Rattle.blending.proofs.Steps.{stored}
use Rattle.blending.proofs.Sweep.{entry-correction, entry-uncertainty}
use Rattle.blending.proofs.entry.add_share.Goals as goal
use Rattle.blending.proofs.entry.add_share.Goals.{Start}

-- the correction at this local place so far
abbrev held : Start → ℤ
held s = signed_at s.args.shifts.now s.args.t

size : (s : Start) → nat_abs s.args.correction < 2 ^ 63
size s = let e = fits-size w16 s.args.correction s.ranges.correction in omega arith

product-most : (s : Start) → nat_abs s.args.correction * s.args.share ≤ 140737488355328
product-most s =
    entry-correction s.args.share s.args.correction s.args.uncertainty (omega arith)
    s.ranges.correction (omega arith)

product : (s : Start) → nat_abs s.args.correction * s.args.share < 2 ^ 63
product s = let e = product-most s in omega arith

spread : (s : Start) → s.args.share * s.args.uncertainty ≤ 281474976710656
spread s =
    entry-uncertainty s.args.share s.args.correction s.args.uncertainty (omega arith)
    s.ranges.correction (omega arith)

-- the product that the code makes, read as it is
product-read : (s : Start)
    → (let correction = to_z w64 (of_z w64 (to_z w16 (of_z w16 s.args.correction))) in
    to_z w64 (of_z w64 (correction *ℤ to_z w64 s.args.share))
    ≡ pos s.args.share *ℤ s.args.correction)
product-read s =
    rw (to_z-of_z s.ranges.correction)
    (mul-read w64 s.args.correction s.args.share (size s) (omega arith) (product s)
    ∙ *ℤ_comm s.args.correction (pos s.args.share))

room : (s : Start) → nat_abs (held s) + nat_abs (pos s.args.share *ℤ s.args.correction) < 2 ^ 63
room s =
    let e = product-most s in
    let m = abs-mul (pos s.args.share) s.args.correction in
    let h = s.requires.2.corrections_small in
    omega arith

pub overflow_cast-shifts : goal.overflow_cast-shifts
overflow_cast-shifts c =
    let f = c.ranges.correction in
    let g : SFits w64 c.args.correction = sfits_widen tt f in
    rw (to_z-of_z f) g

pub overflow_mul-shifts : goal.overflow_mul-shifts
overflow_mul-shifts c =
    rw (to_z-of_z c.ranges.correction)
    (mul-fits w64 c.args.correction c.args.share (size (goal.at.overflow_mul-shifts c).Start) (omega arith) (product (goal.at.overflow_mul-shifts c).Start))

pub overflow_add-shifts : goal.overflow_add-shifts
overflow_add-shifts c = rw (product-read (goal.at.overflow_add-shifts c).Start) (add-fits (held (goal.at.overflow_add-shifts c).Start) (pos c.args.share *ℤ c.args.correction) (room (goal.at.overflow_add-shifts c).Start))

pub overflow_mul-spreads : goal.overflow_mul-spreads
overflow_mul-spreads c = let e = spread (goal.at.overflow_mul-spreads c).Start in omega arith

pub overflow_add-spreads : goal.overflow_add-spreads
overflow_add-spreads c =
    let e = spread (goal.at.overflow_add-spreads c).Start in
    let h = c.requires.2.uncertainties_small in
    omega arith

pub returns : goal.returns
returns c =
    let a = c.args in
    rw (product-read (goal.at.returns c).Start, add_read (held (goal.at.returns c).Start) (pos a.share *ℤ a.correction) (room (goal.at.returns c).Start))
    (stored a.shares.now a.shifts.now a.spreads.now a.t _ _ _ _ c.requires.0 c.requires.1 refl)
