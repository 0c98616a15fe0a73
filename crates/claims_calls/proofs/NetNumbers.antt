-- The numbers by which the checks of builds, copies and inspections refuse, in their order.
use mathlib.Core.Bool.{◌&&◌, ◌||◌, not}
use mathlib.Core.List.{List, [], ◌∷◌}
use mathlib.Core.Path.{refl}
use Prim.Native.Nat.{ℕ}
use lib.Dec.{ltb}
use lib.ListN.{get_or, length}
use Rattle.sums.specs.Search.{first}
use Rattle.spline.specs.Box.{defined_number, places, width}
use Rattle.spline.specs.Multiplicities.{Multiplicities, allowed}
use Rattle.shape.specs.Shape.{held_in, widths}
use Rattle.shape.specs.declared.Shape.{Shape}
use Rattle.orders.specs.Order.{bad_byte, build_checks, order_checks, order_places}
use Rattle.inspection_checks.specs.Room.{shorter}
use Rattle.comparison.specs.Compare.{comparison, differs, differs_from}
use Rattle.inspection.specs.Inspect.{inspect_checks}
use Rattle.factory.specs.Factory.{factory_checks, factory_places}
use Rattle.claims_calls.proofs.Numbered.{Numbered, at-numbered, if-numbered, then-numbered}
use Rattle.checks.specs.Checks.{no_refusal, refuse_if}
use Rattle.checks.specs.declared.Refusal.TheVariants.{BadByte, BadMultiplicities, Differing, LongOrder, NetRoom}

pub build-numbered : (order : List ℕ) (net_length work_length : ℕ)
    → Numbered (1 ∷ 2 ∷ 4 ∷ []) (build_checks order net_length work_length)
unfolding build_checks order_checks
build-numbered order net_length work_length =
    let short = ltb net_length (order_places order) || ltb work_length (order_places order) in
    then-numbered (1 ∷ 2 ∷ []) (4 ∷ []) (order_checks order) (refuse_if NetRoom short no_refusal)
    (if-numbered LongOrder (ltb 8 (length order)) _ (2 ∷ [])
    (at-numbered BadByte (first (length order) (λ i. bad_byte (get_or order i 0))) no_refusal [] (λ _. refl) tt))
    (if-numbered NetRoom short no_refusal [] tt)

pub inspect-numbered : (v : Multiplicities) (net : List ℕ) (defined_length work_length : ℕ)
    → Numbered (3 ∷ 4 ∷ 14 ∷ []) (inspect_checks v net defined_length work_length)
unfolding inspect_checks
inspect-numbered v net defined_length work_length =
    let n = places (width v) in
    if-numbered BadMultiplicities (not (allowed v)) _ (4 ∷ 14 ∷ [])
    (if-numbered NetRoom (ltb (length net) n || ltb defined_length n || ltb work_length n) _ (14 ∷ [])
    (at-numbered Differing (first n (differs_from (defined_number v) net)) no_refusal [] (λ _. refl) tt))

pub given-numbered : (v : Multiplicities) (net_length defined_length work_length : ℕ)
    → Numbered (3 ∷ 4 ∷ [])
    (refuse_if BadMultiplicities (not (allowed v))
    (refuse_if NetRoom (shorter net_length defined_length work_length (places (width v))) no_refusal))
given-numbered v net_length defined_length work_length =
    if-numbered BadMultiplicities (not (allowed v)) _ (4 ∷ [])
    (if-numbered NetRoom (shorter net_length defined_length work_length (places (width v))) no_refusal [] tt)

pub compare-numbered : (s : Shape) (net defined : List ℕ) → Numbered (4 ∷ 14 ∷ []) (comparison s net defined)
unfolding comparison
compare-numbered s net defined =
    if-numbered NetRoom (not (held_in s (length net) && held_in s (length defined))) _ (14 ∷ [])
    (at-numbered Differing (first (places (widths s)) (differs net defined)) no_refusal [] (λ _. refl) tt)

pub copy-numbered : (net_length : ℕ) → Numbered (4 ∷ []) (factory_checks net_length)
unfolding factory_checks
copy-numbered net_length = if-numbered NetRoom (ltb net_length factory_places) no_refusal [] tt
