-- Nets by the step rule alone: which net it leads to, and which numbers obey it. Sections 14.2 to 14.4.
use Rattle.std.specs.Prelude.{true, List, map, ◌↔◌, ◌≡◌, ◌<◌, ◌≤◌, ℕ, get_or, length, take}
use Rattle.spline.specs.Box.{defined_number, net_list, places, spread, width}
use Rattle.spline.specs.Build.{Follows, direction, order_net, simple}
use Rattle.spline.specs.Defined.{defined, defined_order}
use Rattle.spline.specs.Multiplicities.{HasRepeat, Multiplicities, allowed, degree, fewer}
use Rattle.spline.specs.Place.{Direction, Net}
use Rattle.spline.specs.Rule.{Obeys}

-- Section 14.3: the slice begins with the defined net of these multiplicities
abbrev pub HoldsDefined : Multiplicities → List ℕ → Type 0
HoldsDefined v s = take (places (width v)) s ≡ net_list (width v) (defined v)

-- ---- the rule

-- Section 14.2: the net that the contract of a build cites is, for any bytes, the one to which the rule
-- leads.
abbrev pub Rule : Type 0
Rule = (order : List ℕ) (R : Net) → Follows (map direction order) 1 simple R ↔ (R ≡ order_net order)

-- Section 14.2: the defined net, with which an inspection compares, is the one to which the rule leads in the
-- defined order.
abbrev pub DefinedRule : Type 0
DefinedRule = (v : Multiplicities) (R : Net) → Follows (defined_order v) 1 simple R ↔ (R ≡ defined v)

-- ---- numbers that obey it

-- Section 14.4: the step rule in one direction, at all places of ℤ³. C is the slice's numbers with zeros
-- outside the box, and G the defined net with one repeat of the direction fewer.
abbrev pub ObeysIn : Direction → Multiplicities → List ℕ → Type 0
ObeysIn d v s = Obeys d (degree (fewer d v)) (defined (fewer d v)) (spread (width v) s)

-- Section 14.4: the rule in all directions that have a repeat; the simple net where none has
pub record RightNumbers (v : Multiplicities) (s : List ℕ) : Type 0 where
  pub repeats : (d : Direction) → HasRepeat d v → ObeysIn d v s
  pub plain : ((d : Direction) → HasRepeat d v → ⊥) → take (places (width v)) s ≡ net_list (width v) simple

-- Section 14.4. Numbers that obey the rule at all places of ℤ³ in one direction with a repeat obey it in all
-- of them.
abbrev pub OneDirection : Type 0
OneDirection =
    (v : Multiplicities) → allowed v ≡ true
    → (net : List ℕ) → places (width v) ≤ length net
    → (d : Direction) → HasRepeat d v → ObeysIn d v net
    → (e : Direction) → HasRepeat e v → ObeysIn e v net

-- ---- numbers that do not

-- Section 14.4: i is the lowest index of the box at which a slice differs from the defined net
pub record LowestDifference (v : Multiplicities) (s : List ℕ) (i : ℕ) : Type 0 where
  pub within_box : i < places (width v)
  pub differs : get_or s i 0 ≡ defined_number v i → ⊥
  pub lower_same : (j : ℕ) → j < i → get_or s j 0 ≡ defined_number v j
