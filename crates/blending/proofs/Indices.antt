-- The steps to an index are small in every frame within limits.
use Prim.Native.Nat.{◌*◌, ◌+◌, ◌-◌, ◌≤◌}
use native.Mathlib.Nat.{mul-le-mul}
use native.Mathlib.Omega.{arith}
use Rattle.frame.specs.declared.Frame.{Frame}
use Rattle.window.specs.declared.position.Position.{Position}
use Rattle.blending.specs.Inner.Frame.{FrameLimits}
use Rattle.blending.specs.Inner.Window.{Within}

module _ (f : Frame) (l : FrameLimits f) (at : Position) (w : Within f at) where
  -- of an entry in the block: to its layer
  pub entry-layer : f.n2 * (f.low3 + at.z) ≤ 4096
  entry-layer = let h : f.low3 + at.z ≤ 64 = omega arith in mul-le-mul l.size2 h

  -- to its row
  pub entry_row : f.n1 * (f.low2 + at.y + f.n2 * (f.low3 + at.z)) ≤ 266240
  entry_row =
      let k = entry-layer in
      let h : f.low2 + at.y + f.n2 * (f.low3 + at.z) ≤ 4160 = omega arith in
      mul-le-mul l.size1 h

  -- of a share in the net: to its layer
  pub share-layer : f.w2 * (f.e3 - 1 - at.z) ≤ 1456
  share-layer = let h : f.e3 - 1 - at.z ≤ 16 = omega arith in mul-le-mul l.width2 h

  -- to its row
  pub share-row : f.w1 * (f.e2 - 1 - at.y + f.w2 * (f.e3 - 1 - at.z)) ≤ 133952
  share-row =
      let k = share-layer in
      let h : f.e2 - 1 - at.y + f.w2 * (f.e3 - 1 - at.z) ≤ 1472 = omega arith in
      mul-le-mul l.width1 h

  -- to the share itself
  pub share-whole : f.m * (f.e1 - 1 - at.x + f.w1 * (f.e2 - 1 - at.y + f.w2 * (f.e3 - 1 - at.z)))
      ≤ 1205712
  share-whole =
      let k = share-row in
      let h : f.e1 - 1 - at.x + f.w1 * (f.e2 - 1 - at.y + f.w2 * (f.e3 - 1 - at.z)) ≤ 133968
      = omega arith in
      mul-le-mul l.degree h
