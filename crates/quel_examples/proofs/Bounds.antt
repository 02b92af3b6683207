-- The bounds hold: computed.
use Rattle.std.proofs.Common.{refl}
use Rattle.calculus.specs.Chars.{is_chars}
use Rattle.calculus.specs.Name.{is_name}
use Rattle.quel_grammar.specs.Words.{fixed_of, symbol_at}
use Rattle.quel_grammar.specs.Lexer.{word_at, int_at, text_at, token_at, piece_at}
use Rattle.quel_grammar.specs.Pieces.{pieces_behind, pieces_from}
use Rattle.quel_grammar.specs.Bounds.{past_behind, first_past}
use Rattle.quel_grammar.specs.Reading.{look_up}
use Rattle.quel_grammar.specs.TermReaders.{inside_by, abs_by, two_by, by_by, inner_qual_by, inner_where_by, aggregate_by, opened_by, attribute_of, named_by, prim_by, signed_by, unary_by, raised_by, power_by, pow_by, next_product_by, products_by, prod_by, next_sum_by, sums_by, term_by, terms_by, term_from, right_side_by, compare_by, grouped_by, compared_by, mixed_group_by, negated_by, plain_by, operand_by, neg_by, next_and_by, ands_by, conj_by, next_or_by, ors_by, mixed_from, mixed_by, qual_by, level}
use Rattle.quel_grammar.specs.PartReaders.{list_by, maybe, closed, in_parens, all_target, dot_target, set_target, target_by, where_by, direction_at, key_at, keys_by, sort_by, name_into, plain_into, into_at, named_at, numbers_at, drop_by, on_by, keyed_by, structure_by, covered_by}
use Rattle.quel_grammar.specs.StatementReaders.{range_at, retrieve_by, changed_by, append_by, delete_by, create_by, destroy_names, destroy_by, modify_by, index_by, print_by, help_at, copy_by, permit_by, rule_by, define_by, statement_by}
use Rattle.quel_grammar.specs.NextReader.{next_of_tokens, next_at}
use Rattle.quel_grammar.specs.Next.{IsNext}
use Rattle.quel_grammar.proofs.Answered.{is_next}
use Rattle.quel_examples.specs.Words.{Computed}
use Rattle.quel_examples.specs.Bounds.{Bounds}

-- what is computed
computed : Bounds Computed
unfolding fixed_of symbol_at word_at int_at text_at token_at piece_at pieces_behind pieces_from past_behind first_past look_up inside_by abs_by two_by by_by inner_qual_by inner_where_by aggregate_by opened_by attribute_of named_by prim_by signed_by unary_by raised_by power_by pow_by next_product_by products_by prod_by next_sum_by sums_by term_by terms_by term_from right_side_by compare_by grouped_by compared_by mixed_group_by negated_by plain_by operand_by neg_by next_and_by ands_by conj_by next_or_by ors_by mixed_from mixed_by qual_by level list_by maybe closed in_parens all_target dot_target set_target target_by where_by direction_at key_at keys_by sort_by name_into plain_into into_at named_at numbers_at drop_by on_by keyed_by structure_by covered_by range_at retrieve_by changed_by append_by delete_by create_by destroy_names destroy_by modify_by index_by print_by help_at copy_by permit_by rule_by define_by statement_by next_of_tokens next_at is_name is_chars
computed = record { fifty_parentheses = refl; the_51st_parenthesis = refl; six_keys = refl; the_seventh_key = refl; the_501st_token = refl }

-- so that is what the grammar allows
pub bounds : Bounds IsNext
bounds = record { fifty_parentheses = is_next _ _ _ computed.fifty_parentheses; the_51st_parenthesis = is_next _ _ _ computed.the_51st_parenthesis; six_keys = is_next _ _ _ computed.six_keys; the_seventh_key = is_next _ _ _ computed.the_seventh_key; the_501st_token = is_next _ _ _ computed.the_501st_token }
