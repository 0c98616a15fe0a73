-- The further figures that were worked by hand follow from the definitions, by computing.
use mathlib.Core.List.{◌++◌}
use mathlib.Core.Path.{refl}
use lib.Ieee.{of_bits, of_int}
use Rattle.sums.specs.Coefficient.{factorial, multinomial}
use Rattle.sums.specs.Fill.{tabulate}
use Rattle.sums.specs.Search.{all_to, first}
use Rattle.sums.specs.Simplex.{bernstein, sum_simplex, sum_simplex_z}
use Rattle.sums.specs.Sum.{sum_box, sum_box_z, sum_to, sum_z}
use Rattle.spline.specs.Box.{net_list}
use Rattle.spline.specs.Build.{simple}
use Rattle.spline.specs.Multiplicities.{allowed}
use Rattle.allowed.specs.Allowed.{size_allowed, sizes_allowed}
use Rattle.unit.specs.Unit.{holds_block, holds_net}
use Rattle.file.specs.File.{correction, signed, uncertainty, word}
use Rattle.file_checks.specs.FileChecks.{file_checks, layout_checks}
use Rattle.limits.specs.Limits.{lent_checks, unit_checks}
use Rattle.field.specs.Load.{load_answer, load_checks}
use Rattle.encoding.specs.Encoding.{bits, encoding, little_endian}
use Rattle.divisor_checks.specs.Divisor.{divisor_checks, live_divisor_checks, live_scale_check}
use Rattle.coordinates.specs.Coordinates.{from_origin, located, sign_check}
use Rattle.cell_checks.specs.Inside.{cell_check, inside}
use Rattle.axis_order.specs.AxisOrder.{rank_axes, with_third}
use Rattle.placing.specs.Place.{inside_check, position_checks}
use Rattle.placing.specs.Placing.{placing}
use Rattle.three_axes.specs.Axes.{are_axes}
use Rattle.placing_fields.specs.Fields.{faces_in_last, remainder_on, ties_in_order}
use Rattle.possible.specs.Possible.{placed_checks, placing_checks, possible}
use Rattle.answers.specs.Bernstein.{shift_numerator, uncertainty_numerator}
use Rattle.answers.specs.Live.{live_answer, live_checks}
use Rattle.answers.specs.Point.{point_answer, point_checks, valuing_answer}
use Rattle.claims_figures.specs.Figures.{AllHold}
use Rattle.claims_figures.specs.FurtherFigures.{AllFurtherFigures, file_figures, gap_figures, live_figures}
use Rattle.claims_figures.specs.FurtherFigures.{origin_figures, placing_figures}
use Rattle.blended.specs.Blend.{blend_checks, window_checks}
use Rattle.blended.specs.Blending.{adds_up, all_simplex, blended_correction, blended_uncertainty, local_place}
use Rattle.blended.specs.Blending.{share, share_sum}
use Rattle.blended.specs.Gaps.{first_gap, window_gap}

pub all-further-figures : AllFurtherFigures
unfolding sum_to sum_z sum_box sum_box_z factorial multinomial sum_simplex sum_simplex_z bernstein all_to first
    tabulate simple allowed net_list holds_net size_allowed sizes_allowed
    holds_block from_origin located inside with_third rank_axes placing local_place share share_sum
    blended_correction blended_uncertainty shift_numerator uncertainty_numerator all_simplex adds_up window_gap
    first_gap unit_checks divisor_checks sign_check cell_check inside_check position_checks lent_checks window_checks
    blend_checks point_checks point_answer live_scale_check live_divisor_checks live_checks live_answer little_endian
    bits encoding word signed correction uncertainty layout_checks file_checks load_checks of_int of_bits are_axes
    ties_in_order remainder_on faces_in_last possible placing_checks placed_checks valuing_answer load_answer
all-further-figures = (refl, (refl, gaps))
  where
    files : AllHold file_figures
    files = (refl, (refl, (refl, (refl, (refl, tt)))))

    origins : AllHold (origin_figures ++ file_figures)
    origins = (refl, (refl, (refl, (refl, (refl, (refl, (refl, (refl, (refl, files)))))))))

    placings : AllHold (placing_figures ++ (origin_figures ++ file_figures))
    placings = (refl, (refl, (refl, (refl, (refl, (refl, (refl, (refl, (refl, (refl, origins))))))))))

    lives : AllHold (live_figures ++ (placing_figures ++ (origin_figures ++ file_figures)))
    lives = (refl, (refl, (refl, (refl, (refl, (refl, (refl, (refl, placings))))))))

    gaps : AllHold (gap_figures ++ (live_figures ++ (placing_figures ++ (origin_figures ++ file_figures))))
    gaps = (refl, (refl, (refl, (refl, (refl, lives)))))
