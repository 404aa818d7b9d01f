-- The starred fits hold, and those with gaps, each by computing its definition. Assumes nothing.
use mathlib.Core.Path.{refl}
use lib.Ieee.{size}
use Rattle.integers.specs.Integers.{max_z, min_z, floor_half, all_zero}
use Rattle.integers.specs.Lists.{none, also}
use Rattle.codes.specs.Codes.{in_order}
use Rattle.boxes.specs.Shape.{check_shape}
use Rattle.boxes.specs.Boxes.{at_most, before, side_size, sides, product, check_box}
use Rattle.boxes.specs.Split.{first_largest, left_half, right_half, split_checks, split_answer}
use Rattle.loss.specs.Loss.{loss_of}
use Rattle.residuals.specs.Cost.{residual, size_at, e_min, e_max, nearest_to0, least_size, least, unless_gap, total_loss}
use Rattle.integers.specs.Sums.{Σ}
use Rattle.residuals.specs.Cost.{cost, bound, least_at, least_over}
use Rattle.labels.specs.Labels.{first_least, nearest_label, fitting, sample_label, label}
use Rattle.certificate.specs.Search.{ahead, lower_bound, first_smallest, better, begin, split, is_solved, answer, if_room, step, follow, run}
use Rattle.certificate.specs.Search.{search}
use Rattle.coefficients.specs.Coefficient.{exponent_of, fraction_of, fields_of, pattern_of}
use Rattle.scale.specs.Scale.{check_scale}
use Rattle.loss.specs.Loss.{check_loss, check_loss_for}
use Rattle.boxes.specs.Boxes.{check_start}
use Rattle.points.specs.Points.{unsigned_at, signed_at, point_at, skipped, first_points, points_of, check_store, stray_from, check_stray}
use Rattle.model_checks.specs.Checks.{check_model}
use Rattle.fields.specs.Fields.{big_endian, from_big_endian, vector_bytes, vector_of}
use Rattle.job_records.specs.Jobs.{job_bytes, job_of}
use Rattle.decimal.specs.Text.{digits_of, decimal, signed, behind_commas, joined}
use Rattle.answer_line.specs.Line.{fields, line}
use Rattle.search_checks.specs.Checks.{check_job}
use Rattle.search.specs.Search.{searched}
use Rattle.fit_line.specs.Report.{check_fit, fit_answer, fit_line}
use Rattle.bench_fits.specs.Starred.{StarredHold}
use Rattle.bench_fits.specs.Gaps.{GapsHold}
use Rattle.bench_fits.specs.Spoiled.{SpoiledHold}
use Rattle.ranks.specs.Largest.{insert_down, sort_down, nth_largest}

pub starred_hold : StarredHold
unfolding max_z min_z floor_half all_zero in_order check_shape at_most before side_size sides product check_box first_largest left_half right_half
    split_checks split_answer loss_of Σ residual size_at e_min e_max nearest_to0 least_size least first_least nearest_label fitting
    sample_label label unless_gap total_loss cost bound ahead lower_bound first_smallest better begin split is_solved answer if_room step follow
    run search exponent_of fraction_of fields_of pattern_of size check_scale check_loss check_loss_for check_start unsigned_at signed_at point_at
    skipped first_points points_of check_store stray_from check_stray check_model big_endian from_big_endian vector_bytes vector_of job_bytes job_of
    digits_of decimal signed behind_commas joined fields line check_job searched check_fit fit_answer fit_line
starred_hold =
    also refl (also refl (also refl
    (also refl (also refl (also refl
    (also refl (also refl (also refl
    (also refl (also refl (also refl (also refl (also refl (also refl (also refl (also refl (also refl (also refl none))))))))))))))))))

pub gaps_hold : GapsHold
unfolding max_z min_z floor_half all_zero in_order check_shape at_most before side_size sides product check_box first_largest left_half right_half
    split_checks split_answer loss_of Σ residual size_at e_min e_max nearest_to0 least_size least first_least nearest_label fitting
    sample_label label unless_gap total_loss cost bound ahead lower_bound first_smallest better begin split is_solved answer if_room step follow
    run search exponent_of fraction_of fields_of pattern_of size check_scale check_loss check_loss_for check_start unsigned_at signed_at point_at
    skipped first_points points_of check_store stray_from check_stray check_model big_endian from_big_endian vector_bytes vector_of job_bytes job_of
    digits_of decimal signed behind_commas joined fields line check_job searched check_fit fit_answer fit_line
gaps_hold = also refl (also refl (also refl (also refl none)))

pub spoiled_hold : SpoiledHold
unfolding insert_down sort_down nth_largest least_at least_over max_z min_z floor_half all_zero in_order check_shape at_most before side_size sides
    product check_box first_largest left_half right_half split_checks split_answer loss_of Σ residual size_at e_min e_max nearest_to0
    least_size least first_least nearest_label fitting sample_label label unless_gap total_loss cost bound ahead lower_bound first_smallest better
    begin split is_solved answer if_room step follow run search exponent_of fraction_of fields_of pattern_of size check_scale check_loss
    check_loss_for check_start unsigned_at signed_at point_at skipped first_points points_of check_store stray_from check_stray check_model big_endian
    from_big_endian vector_bytes vector_of job_bytes job_of digits_of decimal signed behind_commas joined fields line check_job searched check_fit
    fit_answer fit_line
spoiled_hold = also refl (also refl (also refl (also refl (also refl (also refl none)))))
