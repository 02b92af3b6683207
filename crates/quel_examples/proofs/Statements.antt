-- The statements are read: computed.
use Rattle.std.proofs.Common.{refl}
use Rattle.calculus.specs.Chars.{is_chars}
use Rattle.calculus.specs.Name.{is_name}
use Rattle.quel_grammar.specs.Words.{fixed_of, symbol_at}
use Rattle.quel_grammar.specs.Lexer.{word_at, int_at, text_at, token_at, piece_at}
use Rattle.quel_grammar.specs.Pieces.{pieces_behind, pieces_from}
use Rattle.quel_grammar.specs.Bounds.{past_behind, first_past}
use Rattle.quel_grammar.specs.Reading.{look_up}
use Rattle.quel_grammar.specs.TermReaders.{inside_by, abs_by, two_by, by_by, inner_qual_by, inner_where_by, aggregate_by, opened_by, attribute_of, named_by, prim_by, signed_by, unary_by, raised_by, power_by, pow_by, next_product_by, products_by, prod_by, next_sum_by, sums_by, term_by, terms_by, term_from, right_side_by, compare_by, grouped_by, compared_by, mixed_group_by, negated_by, plain_by, operand_by, neg_by, next_and_by, ands_by, conj_by, next_or_by, ors_by, mixed_from, mixed_by, qual_by, level}
use Rattle.quel_grammar.specs.PartReaders.{list_by, maybe, closed, in_parens, all_target, dot_target, set_target, target_by, where_by, direction_at, key_at, keys_by, sort_by, name_into, plain_into, into_at, named_at, numbers_at, drop_by, on_by, keyed_by, structure_by, covered_by}
use Rattle.quel_grammar.specs.StatementReaders.{range_at, retrieve_by, changed_by, append_by, delete_by, create_by, destroy_names, destroy_by, modify_by, index_by, print_by, help_at, copy_by, permit_by, rule_by, define_by, statement_by}
use Rattle.quel_grammar.specs.NextReader.{next_of_tokens, next_at}
use Rattle.quel_grammar.specs.Next.{IsNext}
use Rattle.quel_grammar.proofs.Answered.{is_next}
use Rattle.quel_examples.specs.Words.{Computed}
use Rattle.quel_examples.specs.Statements.{Statements}

-- what is computed
computed : Statements Computed
unfolding fixed_of symbol_at word_at int_at text_at token_at piece_at pieces_behind pieces_from past_behind first_past look_up inside_by abs_by two_by by_by inner_qual_by inner_where_by aggregate_by opened_by attribute_of named_by prim_by signed_by unary_by raised_by power_by pow_by next_product_by products_by prod_by next_sum_by sums_by term_by terms_by term_from right_side_by compare_by grouped_by compared_by mixed_group_by negated_by plain_by operand_by neg_by next_and_by ands_by conj_by next_or_by ors_by mixed_from mixed_by qual_by level list_by maybe closed in_parens all_target dot_target set_target target_by where_by direction_at key_at keys_by sort_by name_into plain_into into_at named_at numbers_at drop_by on_by keyed_by structure_by covered_by range_at retrieve_by changed_by append_by delete_by create_by destroy_names destroy_by modify_by index_by print_by help_at copy_by permit_by rule_by define_by statement_by next_of_tokens next_at is_name is_chars
computed = record { white_space = refl; letters_of_both_cases = refl; create = refl; widths = refl; sums_group_from_the_left = refl; powers_group_from_the_right = refl; a_sign_binds_closest = refl; parentheses_leave_nothing = refl; functions = refl; functions_are_names = refl; aggregates = refl; qualifications = refl; results = refl; operations_count_once = refl; numbers = refl; all_numbers = refl; keys = refl; the_longest_statement = refl; before_a_bad_byte = refl; and_then_the_bad_byte = refl }

-- so that is what the grammar allows
pub statements : Statements IsNext
statements = record { white_space = is_next _ _ _ computed.white_space; letters_of_both_cases = is_next _ _ _ computed.letters_of_both_cases; create = is_next _ _ _ computed.create; widths = is_next _ _ _ computed.widths; sums_group_from_the_left = is_next _ _ _ computed.sums_group_from_the_left; powers_group_from_the_right = is_next _ _ _ computed.powers_group_from_the_right; a_sign_binds_closest = is_next _ _ _ computed.a_sign_binds_closest; parentheses_leave_nothing = is_next _ _ _ computed.parentheses_leave_nothing; functions = is_next _ _ _ computed.functions; functions_are_names = is_next _ _ _ computed.functions_are_names; aggregates = is_next _ _ _ computed.aggregates; qualifications = is_next _ _ _ computed.qualifications; results = is_next _ _ _ computed.results; operations_count_once = is_next _ _ _ computed.operations_count_once; numbers = is_next _ _ _ computed.numbers; all_numbers = is_next _ _ _ computed.all_numbers; keys = is_next _ _ _ computed.keys; the_longest_statement = is_next _ _ _ computed.the_longest_statement; before_a_bad_byte = is_next _ _ _ computed.before_a_bad_byte; and_then_the_bad_byte = is_next _ _ _ computed.and_then_the_bad_byte }
