-- The sizes of a block that are allowed: Section 4.3. Which multiplicities are stands in `spline`.
use Rattle.std.specs.Prelude.{Bool, ◌&&◌, ◌*◌, ℕ, leb}

-- Section 4.3: an allowed size on one axis
unfoldable pub size_allowed : ℕ → Bool
size_allowed n = leb 1 n && leb n 64

-- Section 4.3: allowed sizes, with 4096 entries at most
unfoldable pub sizes_allowed : ℕ → ℕ → ℕ → Bool
sizes_allowed n1 n2 n3 = size_allowed n1 && size_allowed n2 && size_allowed n3 && leb (n1 * n2 * n3) 4096
