-- Nets that are built: what the step rule says of them, in what order repeats may be taken up, and what a
-- call that sets a net keeps. Sections 14.2, 14.3, 14.12.
use Rattle.std.specs.Prelude.{List, Ok, Result, [], cond, eqb, length, map, suc, true, ℕ, ◌↔◌, ◌∷◌, ◌≡◌, ◌≤◌}
use Rattle.spline.specs.Box.{spread, width}
use Rattle.spline.specs.Build.{Follows, direction, simple}
use Rattle.spline.specs.Defined.{defined_order}
use Rattle.spline.specs.Multiplicities.{Multiplicities, order_multiplicities}
use Rattle.spline.specs.Place.{Net, Place}
use Rattle.unit.specs.Unit.{holds_net, with_net}
use Rattle.unit.specs.declared.Unit.{Unit}
use Rattle.builds.specs.Build.{build_answer, build_net}
use Rattle.orders.specs.Order.{build_checks, order_checks, order_places, order_width}
use Rattle.inspection.specs.Inspect.{inspect_answer, inspect_checks}
use Rattle.factory.specs.Factory.{factory_answer, factory_checks, factory_net, factory_shape}
use Rattle.claims_rule.specs.Rule.{HoldsDefined}
use Rattle.checks.specs.Checks.{no_refusal}
use Rattle.checks.specs.declared.Refusal.{Refusal}

-- ---- nets that calls leave

-- Section 14.3: a build that is not refused. Its answer is the unit with a net of these multiplicities, this
-- counts as having a net, and the net slice then holds the defined net.
pub record BuildsDefined (v : Multiplicities) (u : Unit) (order net : List ℕ) (work_length : ℕ) : Type 0 where
  pub answered : build_answer u order (length net) work_length ≡ Ok (with_net u v)
  pub has_net : holds_net (with_net u v) ≡ true
  pub holds : HoldsDefined v (build_net order net work_length)

-- Section 14.5: the multiplicities and the numbers of a net that was built or passed, the net slice after a
-- build or at an inspection that was not refused. The factory's net counts as built where it was copied.
pub data BuiltOrPassed : Multiplicities → List ℕ → Type 0 where
  built : (order net : List ℕ) (work_length : ℕ) → build_checks order (length net) work_length ≡ no_refusal
      → BuiltOrPassed (order_multiplicities order) (build_net order net work_length)
  passed : (v : Multiplicities) (net : List ℕ) (defined_length work_length : ℕ)
      → inspect_checks v net defined_length work_length ≡ no_refusal → BuiltOrPassed v net
  copied : (net : List ℕ) → factory_checks (length net) ≡ no_refusal
      → BuiltOrPassed factory_shape (factory_net net)

-- ---- the rule

-- Section 14.2, the numbers of a net: the step rule defines them (Section 3.1). What a build writes, with
-- zeros outside the box, is at every place of ℤ³ the one net to which the rule leads when it takes up the
-- order's bytes, starting at the simple net.
abbrev pub Written : Type 0
Written =
    (order net : List ℕ) (work_length : ℕ)
    → build_checks order (length net) work_length ≡ no_refusal
    → (R : Net)
    → Follows (map direction order) 1 simple R
    ↔ ((q : Place) → spread (order_width order) (build_net order net work_length) q ≡ R q)

-- Section 14.2: any net that was built or passed is, with zeros outside the box, the one to which the rule
-- leads in the defined order of its multiplicities.
abbrev pub Held : Type 0
Held =
    (v : Multiplicities) (s : List ℕ) → BuiltOrPassed v s
    → (R : Net)
    → Follows (defined_order v) 1 simple R ↔ ((q : Place) → spread (width v) s q ≡ R q)

-- ---- any order

-- Section 14.3: how often a byte stands in an order
abbrev pub count_byte : ℕ → List ℕ → ℕ
count_byte b [] = 0
count_byte b (x ∷ xs) = cond (eqb b x) (suc (count_byte b xs)) (count_byte b xs)

-- Section 14.3. Of two orders the first has at most eight bytes, each 1 to 4, and the second has as many of
-- each byte; both builds are lent enough room. Then 1 and 2 do not apply to the second either. Whatever units
-- and slices held before, each build answers its unit with a net of the first order's multiplicities, and the
-- defined net of these is what its net slice then begins with.
abbrev pub Orders : Type 0
Orders =
    (order₁ order₂ : List ℕ)
    → order_checks order₁ ≡ no_refusal
    → ((b : ℕ) → count_byte b order₁ ≡ count_byte b order₂)
    → (u₁ u₂ : Unit) (net₁ net₂ : List ℕ) (work_length₁ work_length₂ : ℕ)
    → order_places order₁ ≤ length net₁ → order_places order₁ ≤ work_length₁
    → order_places order₂ ≤ length net₂ → order_places order₂ ≤ work_length₂
    → (order_checks order₂ ≡ no_refusal)
    × BuildsDefined (order_multiplicities order₁) u₁ order₁ net₁ work_length₁
    × BuildsDefined (order_multiplicities order₁) u₂ order₂ net₂ work_length₂

-- ---- the block half of the unit

-- two units have the same block half, origin included
pub record SameBlock (u after : Unit) : Type 0 where
  pub flag : after.has_block ≡ u.has_block
  pub size1 : after.n1 ≡ u.n1
  pub size2 : after.n2 ≡ u.n2
  pub size3 : after.n3 ≡ u.n3
  pub origin1 : after.o1 ≡ u.o1
  pub origin2 : after.o2 ≡ u.o2
  pub origin3 : after.o3 ≡ u.o3

-- A build, an inspection and the factory call keep it.
abbrev pub BlockKept : Type 0
BlockKept =
    (u after : Unit)
    → (let Keeps : Result Unit Refusal → Type 0 = λ answer. answer ≡ Ok after → SameBlock u after in
    ((order : List ℕ) (net_length work_length : ℕ) → Keeps (build_answer u order net_length work_length))
    × ((v : Multiplicities) (net : List ℕ) (defined_length work_length : ℕ)
    → Keeps (inspect_answer u v net defined_length work_length))
    × ((net_length : ℕ) → Keeps (factory_answer u net_length)))
