-- What 32 bits keep of a whole number: those of its two's complement.
use Rattle.std.specs.Prelude.{cond, ◌%◌, ◌-◌, suc, ℕ, ltb, ◌-ℤ◌, negsuc, pos, ℤ}

-- as an unsigned number: the remainder by 2^32
unfoldable pub word : ℤ → ℕ
word (pos n) = n % 4294967296
word (negsuc n) = 4294967296 - suc (n % 4294967296)

-- as a signed one: the upper half stands for negative numbers
unfoldable pub signed_word : ℕ → ℤ
signed_word w = cond (ltb w 2147483648) (pos w) (pos w -ℤ pos 4294967296)
