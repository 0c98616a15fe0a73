-- Every refusal of a call is that of a check, so it has a number of the call's list, and the place 0 if that
-- number speaks of none.
use mathlib.Core.Bool.{false}
use mathlib.Core.List.{[], ◌++◌, ◌∷◌}
use mathlib.Core.Path.{◌∙◌, ◌≡◌, ap, refl, sym}
use Prim.Native.Nat.{ℕ}
use lib.ListN.{length}
use Rattle.sums.proofs.Search.{false-true}
use Rattle.spline.specs.Place.{on_axes}
use Rattle.checks.specs.declared.Refusal.{Refusal}
use Rattle.unit.specs.declared.Unit.{Unit}
use Rattle.builds.specs.Build.{build_answer}
use Rattle.orders.specs.Order.{build_checks}
use Rattle.inspection.specs.Inspect.{inspect_answer, inspect_checks}
use Rattle.factory.specs.Factory.{factory_answer, factory_checks}
use Rattle.limits.specs.Limits.{unit_checks}
use Rattle.field.specs.Load.{load_answer, load_checks}
use Rattle.placing.specs.Place.{place_answer, position_checks}
use Rattle.window.specs.Window.{found_of}
use Rattle.answers.specs.Live.{live_answer, live_checks, live_valuing_answer, live_valuing_checks}
use Rattle.answers.specs.Point.{point_answer, point_checks, valuing_answer}
use Rattle.claims_calls.proofs.CheckNumbers.{blend-numbered, cell-numbered, divisor-numbered}
use Rattle.claims_calls.proofs.CheckNumbers.{early-numbered, lent-numbered, live-divisor-numbered}
use Rattle.claims_calls.proofs.CheckNumbers.{live-numbered, live-placing-numbered, live-value-numbered}
use Rattle.claims_calls.proofs.CheckNumbers.{of_cell, of_divisor, of_lent, of_placing, of_unit, of_window}
use Rattle.claims_calls.proofs.CheckNumbers.{place-numbered, placed-numbered, point-numbered}
use Rattle.claims_calls.proofs.CheckNumbers.{room-numbered, signs-numbered, unit-numbered}
use Rattle.claims_calls.proofs.FileNumbers.{block-room-numbered, file-numbered, gap-numbered}
use Rattle.claims_calls.proofs.FileNumbers.{limit-numbered, load-numbered}
use Rattle.claims_calls.proofs.NetNumbers.{build-numbered, compare-numbered, copy-numbered}
use Rattle.claims_calls.proofs.NetNumbers.{given-numbered, inspect-numbered}
use Rattle.claims_calls.proofs.Numbered.{Listed, at-numbered, no-place, stopped-listed}
use Rattle.claims_calls.specs.Refusals.{Call, NoPlace, NotZero, Numbers, Refuses, among, blend, build}
use Rattle.claims_calls.specs.Refusals.{check_block_room, check_build, check_cell, check_divisor}
use Rattle.claims_calls.specs.Refusals.{check_early, check_file, check_given, check_window, compare}
use Rattle.claims_calls.specs.Refusals.{check_gap, check_lent, check_limit, check_live_divisor}
use Rattle.claims_calls.specs.Refusals.{check_live_placing, check_placed, check_room, check_signs}
use Rattle.claims_calls.specs.Refusals.{check_unit, copy, inspect, live, live_valuing, load, numbers_of}
use Rattle.claims_calls.specs.Refusals.{place, point, value}
use Rattle.blended.specs.Blend.{blend_checks}
use Rattle.checks.specs.Checks.{and_then, no_refusal}
use Rattle.checks.specs.declared.Refusal.TheVariants.{WindowGap}
use Rattle.checks.proofs.Checks.{refused-by}

listed : (u : Unit) (c : Call) (r : Refusal) → Refuses u c r → Listed (numbers_of c) r
unfolding build_answer inspect_answer factory_answer load_answer place_answer point_answer live_answer valuing_answer
    live_valuing_answer
listed u (build order net work) r h =
    stopped-listed (1 ∷ 2 ∷ 4 ∷ []) _ (build-numbered order net work) refl
    (refused-by (build_checks order net work) _ h)
listed u (copy net) r h =
    stopped-listed (4 ∷ []) _ (copy-numbered net) refl (refused-by (factory_checks net) _ h)
listed u (inspect v net defined work) r h =
    stopped-listed (3 ∷ 4 ∷ 14 ∷ []) _ (inspect-numbered v net defined work) refl
    (refused-by (inspect_checks v net defined work) _ h)
listed u (load file cs us) r h =
    stopped-listed (5 ∷ 6 ∷ 7 ∷ 8 ∷ 16 ∷ 9 ∷ []) _ (load-numbered file (length cs) (length us)) refl
    (refused-by (load_checks file (length cs) (length us)) _ h)
listed u (place x y z D) r h =
    stopped-listed (of_unit ++ of_divisor ++ of_cell) _ (place-numbered u x y z D) refl
    (refused-by (and_then (unit_checks u) (position_checks u x y z D)) _ h)
listed u (point net cs us x y z D) r h =
    stopped-listed (of_lent ++ (of_divisor ++ of_cell) ++ of_window) _
    (point-numbered u net cs us x y z D) refl (refused-by (point_checks u net cs us x y z D) _ h)
listed u (live net cs us x y z D flag) r h =
    stopped-listed (of_lent ++ (of_divisor ++ 15 ∷ []) ++ of_cell ++ of_window) _
    (live-numbered u net cs us x y z D) refl (refused-by (live_checks u net cs us x y z D) _ h)
listed u (value net cs us q) r h =
    stopped-listed ((of_placing ++ 4 ∷ 9 ∷ []) ++ of_window) _ (blend-numbered u net cs us q) refl
    (refused-by (blend_checks u net cs us q) _ h)
listed u (live_valuing net cs us q flag) r h =
    stopped-listed ((of_placing ++ 15 ∷ []) ++ 4 ∷ 9 ∷ 13 ∷ 23 ∷ []) _
    (live-value-numbered u net cs us q) refl (refused-by (live_valuing_checks u net cs us q) _ h)
listed u (blend net cs us q) r h =
    stopped-listed ((of_placing ++ 4 ∷ 9 ∷ []) ++ of_window) _ (blend-numbered u net cs us q) refl h
listed u (check_build order net work) r h =
    stopped-listed (1 ∷ 2 ∷ 4 ∷ []) _ (build-numbered order net work) refl h
listed u (check_given v net defined work) r h =
    stopped-listed (3 ∷ 4 ∷ []) _ (given-numbered v net defined work) refl h
listed u (compare s net defined) r h = stopped-listed (4 ∷ 14 ∷ []) _ (compare-numbered s net defined) refl h
listed u check_unit r h = stopped-listed of_unit _ (unit-numbered u) refl h
listed u (check_room net cs us) r h = stopped-listed (4 ∷ 9 ∷ []) _ (room-numbered u net cs us) refl h
listed u (check_lent net cs us) r h =
    stopped-listed of_lent _ (lent-numbered u net cs us) refl h
listed u (check_divisor D) r h = stopped-listed of_divisor _ (divisor-numbered u D) refl h
listed u (check_live_divisor D) r h =
    stopped-listed (of_divisor ++ 15 ∷ []) _ (live-divisor-numbered u D) refl h
listed u (check_signs x y z) r h = stopped-listed (12 ∷ []) _ (signs-numbered x y z) refl h
listed u (check_cell k1 k2 k3) r h =
    stopped-listed (12 ∷ []) _ (cell-numbered u (on_axes k1 k2 k3)) refl h
listed u (check_placed q net cs us) r h =
    stopped-listed (of_placing ++ 4 ∷ 9 ∷ []) _ (placed-numbered u q net cs us) refl h
listed u (check_live_placing q) r h =
    stopped-listed (of_placing ++ 15 ∷ []) _ (live-placing-numbered u q) refl h
listed u (check_early q) r h = stopped-listed (of_placing ++ 15 ∷ []) _ (early-numbered u q) refl h
listed u (check_window gap) r h =
    stopped-listed (13 ∷ []) _ (at-numbered WindowGap (found_of gap) no_refusal [] (λ _. refl) tt) refl h
listed u (check_block_room n cs us) r h = stopped-listed (9 ∷ []) _ (block-room-numbered n cs us) refl h
listed u (check_file file) r h = stopped-listed (5 ∷ 6 ∷ 7 ∷ 8 ∷ 16 ∷ []) _ (file-numbered file) refl h
listed u (check_limit i uncertainty) r h = stopped-listed (8 ∷ []) _ (limit-numbered i uncertainty) refl h
listed u (check_gap i correction uncertainty) r h =
    stopped-listed (16 ∷ []) _ (gap-numbered i correction uncertainty) refl h

pub numbers : Numbers
numbers u c r h = (listed u c r h).is

pub no_place : NoPlace
no_place u c r h = no-place r

-- 0 is in none of the lists
never-zero : (c : Call) → among 0 (numbers_of c) ≡ false
never-zero (build order net work) = refl
never-zero (copy net) = refl
never-zero (inspect v net defined work) = refl
never-zero (load file cs us) = refl
never-zero (place x y z D) = refl
never-zero (point net cs us x y z D) = refl
never-zero (live net cs us x y z D flag) = refl
never-zero (value net cs us q) = refl
never-zero (live_valuing net cs us q flag) = refl
never-zero (blend net cs us q) = refl
never-zero (check_build order net work) = refl
never-zero (check_given v net defined work) = refl
never-zero (compare s net defined) = refl
never-zero check_unit = refl
never-zero (check_room net cs us) = refl
never-zero (check_lent net cs us) = refl
never-zero (check_divisor D) = refl
never-zero (check_live_divisor D) = refl
never-zero (check_signs x y z) = refl
never-zero (check_cell k1 k2 k3) = refl
never-zero (check_placed q net cs us) = refl
never-zero (check_live_placing q) = refl
never-zero (check_early q) = refl
never-zero (check_window gap) = refl
never-zero (check_block_room n cs us) = refl
never-zero (check_file file) = refl
never-zero (check_limit i uncertainty) = refl
never-zero (check_gap i correction uncertainty) = refl

pub not-zero : NotZero
not-zero u c r h e =
    false-true (sym (never-zero c) ∙ sym (ap (λ (n : ℕ). among n (numbers_of c)) e) ∙ numbers u c r h)
