-- What the functions that go through the window promise, and what they ask of their callers.
use Rattle.std.specs.Prelude.{◌≡◌, ◌*◌, ◌+◌, ◌<◌, ◌≤◌, ℕ, ℤ}
use Rattle.frame.specs.declared.Frame.{Frame}
use Rattle.window.specs.declared.position.Position.{Position}
use Rattle.blending.specs.Inner.Frame.{FrameLimits, entry_at, share_at}
use Rattle.blending.specs.Inner.Sums.{Small, Sums, add_sums, entry_sums, sums_to}

-- a position of the window
pub record Within (f : Frame) (at : Position) : Type 0 where
  pub low_x : at.x < f.e1
  pub low_y : at.y < f.e2
  pub low_z : at.z < f.e3

-- ---- sums

module _ (net : ℕ → ℕ) (corrections : ℕ → ℤ) (uncertainties : ℕ → ℕ) (f : Frame) (offset : ℕ) where
  -- of one entry, at the local place with this offset
  abbrev pub position_sums : ℕ → ℕ → ℕ → Sums
  position_sums x y z =
      entry_sums (net (share_at f x y z + offset)) (corrections (entry_at f x y z))
      (uncertainties (entry_at f x y z))

  -- of the whole window
  unfoldable pub window_sums : Sums
  window_sums = sums_to f.e3 (λ z. sums_to f.e2 (λ y. sums_to f.e1 (λ x. position_sums x y z)))

-- ---- steps from sums to sums, each a function of the local place's number

-- the places from one number up to another have had v added, the others nothing
pub record AddedIn (from to : ℕ) (v old new : ℕ → Sums) : Type 0 where
  pub inside : (i : ℕ) → from ≤ i → i < to → new i ≡ add_sums (old i) (v i)
  pub before : (i : ℕ) → i < from → new i ≡ old i
  pub after : (i : ℕ) → to ≤ i → new i ≡ old i

-- ---- indices in slices of these lengths

-- the shares of one entry are in the net, and the sums have room for it
pub record EntryIn (net_length : ℕ) (offset : ℕ → ℕ) (groups share : ℕ) (now : ℕ → Sums) : Type 0 where
  pub few : groups ≤ 55
  pub in_net : (t : ℕ) → t < 4 * groups → share + offset t < net_length
  pub small : (t : ℕ) → t < 4 * groups → Small 4095 (now t)

-- every entry of the window is in the block, and its shares are in the net
module _ (net_length corrections_length uncertainties_length : ℕ) where
  pub record InWindow (offset : ℕ → ℕ) (f : Frame) : Type 0 where
    pub limits : FrameLimits f
    pub in_corrections : (x y z : ℕ) → x < f.e1 → y < f.e2 → z < f.e3
        → entry_at f x y z < corrections_length
    pub in_uncertainties : (x y z : ℕ) → x < f.e1 → y < f.e2 → z < f.e3
        → entry_at f x y z < uncertainties_length
    pub in_net : (x y z t : ℕ) → x < f.e1 → y < f.e2 → z < f.e3 → t < 4 * f.groups
        → share_at f x y z + offset t < net_length
