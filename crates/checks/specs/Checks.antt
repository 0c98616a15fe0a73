-- Checks in an order, of which the first that applies refuses: Section 5.1.
use Rattle.std.specs.Prelude.{Bool, Err, Ok, Result, cond, false, true, ℕ}
use Rattle.sums.specs.Search.{Found, at, nowhere}
use Rattle.checks.specs.declared.Refusal.{Refusal}
use Rattle.checks.specs.declared.Refusal.TheVariants.{BadByte, BadDivisor, BadLength, BadMultiplicities}
use Rattle.checks.specs.declared.Refusal.TheVariants.{BadSizes, BlockRoom, Differing, ImpossiblePlacing}
use Rattle.checks.specs.declared.Refusal.TheVariants.{LargeLiveScale, LargeScale, LargeUncertainty}
use Rattle.checks.specs.declared.Refusal.TheVariants.{LongOrder, NetRoom, NoBlock, NoNet, Outside}
use Rattle.checks.specs.declared.Refusal.TheVariants.{ShortFile, UncertainGap, UnevenShares, WindowGap}

-- Section 5.1: what checks find: nothing, or a refusal that stops the call
abbrev pub Checked : Type 0
Checked = Result Unit Refusal

abbrev pub no_refusal : Checked
no_refusal = Ok tt

-- Section 5.3: the number of a refusal
abbrev pub number_of : Refusal → ℕ
number_of LongOrder = 1
number_of (BadByte i) = 2
number_of BadMultiplicities = 3
number_of NetRoom = 4
number_of ShortFile = 5
number_of BadSizes = 6
number_of BadLength = 7
number_of (LargeUncertainty i) = 8
number_of BlockRoom = 9
number_of BadDivisor = 10
number_of LargeScale = 11
number_of Outside = 12
number_of (WindowGap i) = 13
number_of (Differing i) = 14
number_of LargeLiveScale = 15
number_of (UncertainGap i) = 16
number_of ImpossiblePlacing = 17
number_of NoNet = 21
number_of NoBlock = 22
number_of UnevenShares = 23

-- Section 5.3: the place that a refusal speaks of, 0 where it speaks of none
abbrev pub place_of : Refusal → ℕ
place_of (BadByte i) = i
place_of (LargeUncertainty i) = i
place_of (WindowGap i) = i
place_of (Differing i) = i
place_of (UncertainGap i) = i
place_of r = 0

-- Section 5.1: a refusal that applies under a condition; then the further checks
abbrev pub refuse_if : Refusal → Bool → Checked → Checked
refuse_if refusal applies next = cond applies (Err refusal) next

-- Section 5.1: a refusal that applies where something is found, and speaks of its place; then the further
-- checks
abbrev pub refuse_at : (ℕ → Refusal) → Found → Checked → Checked
refuse_at refusal nowhere next = next
refuse_at refusal (at i) next = Err (refusal i)

-- Section 5.1: the further checks, where those before have passed
abbrev pub and_then : Checked → Checked → Checked
and_then (Ok _) next = next
and_then (Err r) next = Err r

-- Section 5.1: whether none refused
abbrev pub passes : Checked → Bool
passes (Ok _) = true
passes (Err r) = false

-- Section 5.1: a value by whether all checks passed or one refused
abbrev pub passed_or : {A : Type 0} → Checked → A → (Refusal → A) → A
passed_or (Ok _) made kept = made
passed_or (Err r) made kept = kept r
