-- The tokens are at the edge: computed.
use Rattle.std.proofs.Common.{refl}
use Rattle.calculus.specs.Chars.{is_chars}
use Rattle.calculus.specs.Name.{is_name}
use Rattle.quel_grammar.specs.Words.{fixed_of, symbol_at}
use Rattle.quel_grammar.specs.Lexer.{word_at, int_at, text_at, token_at, piece_at}
use Rattle.quel_grammar.specs.Pieces.{pieces_behind, pieces_from}
use Rattle.quel_grammar.specs.Bounds.{past_behind, first_past}
use Rattle.quel_grammar.specs.Reading.{look_up}
use Rattle.quel_grammar.specs.TermReaders.{inside_by, abs_by, two_by, by_by, inner_qual_by, inner_where_by, aggregate_by, opened_by, attribute_of, named_by, prim_by, signed_by, unary_by, raised_by, power_by, pow_by, next_product_by, products_by, prod_by, next_sum_by, sums_by, term_by, terms_by, term_from, right_side_by, compare_by, grouped_by, compared_by, mixed_group_by, negated_by, plain_by, operand_by, neg_by, next_and_by, ands_by, conj_by, next_or_by, ors_by, mixed_from, mixed_by, qual_by, level}
use Rattle.quel_grammar.specs.PartReaders.{list_by, maybe, closed, in_parens, all_target, dot_target, set_target, target_by, where_by, direction_at, key_at, keys_by, sort_by, name_into, plain_into, into_at, named_at, numbers_at, drop_by, on_by, keyed_by, structure_by, covered_by}
use Rattle.quel_grammar.specs.StatementReaders.{range_at, retrieve_by, changed_by, append_by, delete_by, create_by, destroy_names, destroy_by, modify_by, index_by, print_by, help_at, copy_by, permit_by, rule_by, define_by, statement_by}
use Rattle.quel_grammar.specs.NextReader.{next_of_tokens, next_at}
use Rattle.quel_grammar.specs.Next.{IsNext}
use Rattle.quel_grammar.proofs.Answered.{is_next}
use Rattle.quel_examples.specs.Words.{Computed}
use Rattle.quel_examples.specs.Tokens.{Tokens}

-- what is computed
computed : Tokens Computed
unfolding fixed_of symbol_at word_at int_at text_at token_at piece_at pieces_behind pieces_from past_behind first_past look_up inside_by abs_by two_by by_by inner_qual_by inner_where_by aggregate_by opened_by attribute_of named_by prim_by signed_by unary_by raised_by power_by pow_by next_product_by products_by prod_by next_sum_by sums_by term_by terms_by term_from right_side_by compare_by grouped_by compared_by mixed_group_by negated_by plain_by operand_by neg_by next_and_by ands_by conj_by next_or_by ors_by mixed_from mixed_by qual_by level list_by maybe closed in_parens all_target dot_target set_target target_by where_by direction_at key_at keys_by sort_by name_into plain_into into_at named_at numbers_at drop_by on_by keyed_by structure_by covered_by range_at retrieve_by changed_by append_by delete_by create_by destroy_names destroy_by modify_by index_by print_by help_at copy_by permit_by rule_by define_by statement_by next_of_tokens next_at is_name is_chars
computed = record { a_backslash_takes_the_quote = refl; no_byte = refl; text_of_255_bytes = refl; text_of_256_bytes = refl; text_with_a_newline = refl; text_that_is_open = refl; name_of_12_bytes = refl; greatest_number = refl; no_name_begins_with_a_digit = refl; a_comment_is_white = refl; a_byte_outside = refl }

-- so that is what the grammar allows
pub tokens : Tokens IsNext
tokens = record { a_backslash_takes_the_quote = is_next _ _ _ computed.a_backslash_takes_the_quote; no_byte = is_next _ _ _ computed.no_byte; text_of_255_bytes = is_next _ _ _ computed.text_of_255_bytes; text_of_256_bytes = is_next _ _ _ computed.text_of_256_bytes; text_with_a_newline = is_next _ _ _ computed.text_with_a_newline; text_that_is_open = is_next _ _ _ computed.text_that_is_open; name_of_12_bytes = is_next _ _ _ computed.name_of_12_bytes; greatest_number = is_next _ _ _ computed.greatest_number; no_name_begins_with_a_digit = is_next _ _ _ computed.no_name_begins_with_a_digit; a_comment_is_white = is_next _ _ _ computed.a_comment_is_white; a_byte_outside = is_next _ _ _ computed.a_byte_outside }
