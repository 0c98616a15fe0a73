-- The layout of a field file, a list of bytes: Section 8.2.
use Rattle.std.specs.Prelude.{cond, List, ◌*◌, ◌+◌, ℕ, ltb, ◌-ℤ◌, pos, ℤ, get_or}

-- Section 8.2: the unsigned 16-bit number that starts at a byte, the low byte first
unfoldable pub word : List ℕ → ℕ → ℕ
word file at = get_or file at 0 + 256 * get_or file (at + 1) 0

-- Section 8.2: the number of the same 16 bits in two's complement
unfoldable pub signed : ℕ → ℤ
signed w = cond (ltb w 32768) (pos w) (pos w -ℤ pos 65536)

-- Section 8.2: the sizes n1, n2, n3 at the start
abbrev pub size1 : List ℕ → ℕ
size1 file = word file 0

abbrev pub size2 : List ℕ → ℕ
size2 file = word file 2

abbrev pub size3 : List ℕ → ℕ
size3 file = word file 4

-- Section 8.2: the origin o1, o2, o3 behind them
abbrev pub origin1 : List ℕ → ℤ
origin1 file = signed (word file 6)

abbrev pub origin2 : List ℕ → ℤ
origin2 file = signed (word file 8)

abbrev pub origin3 : List ℕ → ℤ
origin3 file = signed (word file 10)

-- Section 8.2: the bytes before the arrays
abbrev pub header_length : ℕ
header_length = 12

-- Section 4.3: the number n of entries
abbrev pub entry_count : List ℕ → ℕ
entry_count file = size1 file * size2 file * size3 file

-- Section 8.2: the byte at which each array starts
abbrev pub corrections_start : ℕ
corrections_start = header_length

abbrev pub uncertainties_start : ℕ → ℕ
uncertainties_start n = header_length + 2 * n

-- Section 8.2: the length of a file of n entries
abbrev pub file_length : ℕ → ℕ
file_length n = header_length + 4 * n

-- Section 8.2: the 16 bits of entry i of an array
abbrev pub entry : List ℕ → ℕ → ℕ → ℕ
entry file start i = word file (start + 2 * i)

-- Section 8.2: the correction of entry i
unfoldable pub correction : List ℕ → ℕ → ℤ
correction file i = signed (entry file corrections_start i)

-- Section 8.2: its uncertainty
unfoldable pub uncertainty : List ℕ → ℕ → ℕ
uncertainty file i = entry file (uncertainties_start (entry_count file)) i
