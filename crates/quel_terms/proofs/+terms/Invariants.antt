use Rattle.std.proofs.Common.{◌+◌, ◌*◌}
use Rattle.quel_terms.proofs.+terms.Given as goal

abbrev pub decreases-primaries::inside_by : goal.decreases-primaries::inside_by
decreases-primaries::inside_by l = 40 * l.depth + 1

abbrev pub decreases-primaries::two_by : goal.decreases-primaries::two_by
decreases-primaries::two_by l = 40 * l.depth + 2

abbrev pub decreases-primaries::by_by : goal.decreases-primaries::by_by
decreases-primaries::by_by l = 40 * l.depth + 1

abbrev pub decreases-primaries::inner_where_by : goal.decreases-primaries::inner_where_by
decreases-primaries::inner_where_by l = 40 * l.depth + 1

abbrev pub decreases-primaries::aggregate_by : goal.decreases-primaries::aggregate_by
decreases-primaries::aggregate_by l = 40 * l.depth + 2

abbrev pub decreases-primaries::call_by : goal.decreases-primaries::call_by
decreases-primaries::call_by l = 40 * l.depth + 3

abbrev pub decreases-primaries::named_by : goal.decreases-primaries::named_by
decreases-primaries::named_by l = 40 * l.depth + 4

abbrev pub decreases-primaries::prim_by : goal.decreases-primaries::prim_by
decreases-primaries::prim_by l = 40 * l.depth + 5

abbrev pub decreases-terms::unary_by : goal.decreases-terms::unary_by
decreases-terms::unary_by l = 40 * l.depth + 6

abbrev pub decreases-terms::power_by : goal.decreases-terms::power_by
decreases-terms::power_by l = 40 * l.depth + 1

abbrev pub decreases-terms::pow_by : goal.decreases-terms::pow_by
decreases-terms::pow_by l = 40 * l.depth + 7

abbrev pub decreases-terms::products_by : goal.decreases-terms::products_by
decreases-terms::products_by l = 40 * l.depth + 8

abbrev pub decreases-terms::prod_by : goal.decreases-terms::prod_by
decreases-terms::prod_by l = 40 * l.depth + 9

abbrev pub decreases-terms::sums_by : goal.decreases-terms::sums_by
decreases-terms::sums_by l = 40 * l.depth + 10

abbrev pub decreases-terms::term_by : goal.decreases-terms::term_by
decreases-terms::term_by l = 40 * l.depth + 11

abbrev pub decreases-terms::terms_by : goal.decreases-terms::terms_by
decreases-terms::terms_by l = 40 * l.depth + 12

abbrev pub decreases-terms::term_from : goal.decreases-terms::term_from
decreases-terms::term_from l = 40 * l.depth + 12

abbrev pub decreases-qualifications::compare_by : goal.decreases-qualifications::compare_by
decreases-qualifications::compare_by l = 40 * l.depth + 12

abbrev pub decreases-qualifications::grouped_by : goal.decreases-qualifications::grouped_by
decreases-qualifications::grouped_by l = 40 * l.depth + 13

abbrev pub decreases-qualifications::mixed_group_by : goal.decreases-qualifications::mixed_group_by
decreases-qualifications::mixed_group_by l = 40 * l.depth + 14

abbrev pub decreases-qualifications::operand_by : goal.decreases-qualifications::operand_by
decreases-qualifications::operand_by l = 40 * l.depth + 15

abbrev pub decreases-qualifications::neg_by : goal.decreases-qualifications::neg_by
decreases-qualifications::neg_by l = 40 * l.depth + 16

abbrev pub decreases-qualifications::ands_by : goal.decreases-qualifications::ands_by
decreases-qualifications::ands_by l = 40 * l.depth + 17

abbrev pub decreases-qualifications::conj_by : goal.decreases-qualifications::conj_by
decreases-qualifications::conj_by l = 40 * l.depth + 18

abbrev pub decreases-qualifications::ors_by : goal.decreases-qualifications::ors_by
decreases-qualifications::ors_by l = 40 * l.depth + 19

abbrev pub decreases-qualifications::mixed_from : goal.decreases-qualifications::mixed_from
decreases-qualifications::mixed_from l = 40 * l.depth + 20

abbrev pub decreases-qualifications::mixed_by : goal.decreases-qualifications::mixed_by
decreases-qualifications::mixed_by l = 40 * l.depth + 21
