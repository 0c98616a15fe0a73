-- A frame within limits, and the indices that a blending reaches from it.
use Rattle.std.specs.Prelude.{◌*◌, ◌+◌, ◌-◌, ◌≤◌, ℕ}
use Rattle.tetrahedron.specs.declared.local.LocalPlace.{LocalPlace}
use Rattle.frame.specs.declared.Frame.{Frame}

pub record FrameLimits (f : Frame) : Type 0 where
  pub degree : f.m ≤ 9
  pub places : f.count ≤ 220
  pub grouped : f.count ≤ 4 * f.groups
  pub groups_most : f.groups ≤ 55
  pub some1 : 1 ≤ f.e1
  pub some2 : 1 ≤ f.e2
  pub some3 : 1 ≤ f.e3
  pub extent1 : f.e1 ≤ 16
  pub extent2 : f.e2 ≤ 16
  pub extent3 : f.e3 ≤ 16
  pub width1 : f.w1 ≤ 91
  pub width2 : f.w2 ≤ 91
  pub size1 : f.n1 ≤ 64
  pub size2 : f.n2 ≤ 64
  pub window1 : f.low1 + f.e1 ≤ 64
  pub window2 : f.low2 + f.e2 ≤ 64
  pub window3 : f.low3 + f.e3 ≤ 64
  pub step1 : f.s1 ≤ 8281
  pub step2 : f.s2 ≤ 8281
  pub step3 : f.s3 ≤ 8281

-- ---- indices; x, y, z count the window's entries from the lowest one

-- of an entry in the block
abbrev pub entry_at : Frame → ℕ → ℕ → ℕ → ℕ
entry_at f x y z = f.low1 + x + f.n1 * (f.low2 + y + f.n2 * (f.low3 + z))

-- of its share at the first local place in the net
abbrev pub share_at : Frame → ℕ → ℕ → ℕ → ℕ
share_at f x y z =
    f.m * (f.e1 - 1 - x + f.w1 * (f.e2 - 1 - y + f.w2 * (f.e3 - 1 - z)))

-- how far a local place lies from the first one in the net
abbrev pub offset_of : Frame → LocalPlace → ℕ
offset_of f l = f.s1 * l.p + f.s2 * l.r + f.s3 * l.s
