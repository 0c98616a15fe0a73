-- The figures that were worked by hand follow from the definitions, by computing.
use mathlib.Core.Path.{refl}
use Rattle.sums.specs.Coefficient.{factorial, multinomial}
use Rattle.sums.specs.Fill.{tabulate}
use Rattle.sums.specs.Search.{all_to, first}
use Rattle.sums.specs.Simplex.{bernstein, sum_simplex, sum_simplex_z}
use Rattle.sums.specs.Sum.{sum_box, sum_box_z, sum_to, sum_z}
use Rattle.spline.specs.Box.{net_list}
use Rattle.spline.specs.Build.{built, simple, stepped, sum_back}
use Rattle.spline.specs.Multiplicities.{allowed}
use Rattle.spline.specs.Rule.{lower_above}
use Rattle.allowed.specs.Allowed.{size_allowed, sizes_allowed}
use Rattle.unit.specs.Unit.{holds_block, holds_net}
use Rattle.limits.specs.Limits.{lent_checks, unit_checks}
use Rattle.divisor_checks.specs.Divisor.{divisor_checks}
use Rattle.coordinates.specs.Coordinates.{from_origin, located, sign_check}
use Rattle.cell_checks.specs.Inside.{cell_check, inside}
use Rattle.axis_order.specs.AxisOrder.{rank_axes, with_third}
use Rattle.placing.specs.Place.{inside_check, position_checks}
use Rattle.placing.specs.Placing.{placing}
use Rattle.answers.specs.Bernstein.{shift_numerator, uncertainty_numerator}
use Rattle.answers.specs.Point.{point_answer, point_checks}
use Rattle.claims_figures.specs.Figures.{AllFigures}
use Rattle.blended.specs.Blend.{window_checks}
use Rattle.blended.specs.Blending.{adds_up, all_simplex, blended_correction, blended_uncertainty, local_place}
use Rattle.blended.specs.Blending.{share, share_sum}
use Rattle.blended.specs.Gaps.{first_gap, window_gap}

pub all-figures : AllFigures
unfolding sum_to sum_z sum_box sum_box_z factorial multinomial sum_simplex sum_simplex_z bernstein all_to first
    tabulate lower_above simple sum_back stepped built allowed net_list holds_net size_allowed sizes_allowed
    holds_block from_origin located inside with_third rank_axes placing local_place share share_sum
    blended_correction blended_uncertainty shift_numerator uncertainty_numerator all_simplex adds_up window_gap
    first_gap unit_checks divisor_checks sign_check cell_check inside_check position_checks lent_checks window_checks
    point_checks point_answer
all-figures =
    (refl, (refl, (refl, (refl, (refl, (refl, (refl, (refl, (refl, (refl, (refl, (refl, tt))))))))))))
