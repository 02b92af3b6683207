use Rattle.std.proofs.Common.{◌≡◌, ◌+◌, ◌*◌, ◌-◌}
use Rattle.tree_words.specs.Words.{items_read, with_front}
use Rattle.quel_tree.specs.Queries.{target, term}
use Rattle.quel_tree.proofs.queries.reading.+reading.Given as goal

-- what is inside is read with one level less; with the same levels each function calls those below it

abbrev pub decreases-read_term : goal.decreases-read_term
decreases-read_term l = 8 * l.levels

abbrev pub decreases-read_qual : goal.decreases-read_qual
decreases-read_qual l = 8 * l.levels

abbrev pub decreases-read_query : goal.decreases-read_query
decreases-read_query l = 8 * l.levels

abbrev pub decreases-boxed_agg : goal.decreases-boxed_agg
decreases-boxed_agg l = 8 * l.levels

abbrev pub decreases-boxed_term : goal.decreases-boxed_term
decreases-boxed_term l = 8 * l.levels + 1

abbrev pub decreases-boxed_qual : goal.decreases-boxed_qual
decreases-boxed_qual l = 8 * l.levels + 1

abbrev pub decreases-term_pair : goal.decreases-term_pair
decreases-term_pair l = 8 * l.levels + 1

abbrev pub decreases-term_and_pattern : goal.decreases-term_and_pattern
decreases-term_and_pattern l = 8 * l.levels + 1

abbrev pub decreases-term_items : goal.decreases-term_items
decreases-term_items l = 8 * l.levels + 1

abbrev pub decreases-read_source : goal.decreases-read_source
decreases-read_source l = 8 * l.levels + 1

abbrev pub decreases-read_target : goal.decreases-read_target
decreases-read_target l = 8 * l.levels + 1

abbrev pub decreases-two_terms : goal.decreases-two_terms
decreases-two_terms l = 8 * l.levels + 2

abbrev pub decreases-two_quals : goal.decreases-two_quals
decreases-two_quals l = 8 * l.levels + 2

abbrev pub decreases-read_terms : goal.decreases-read_terms
decreases-read_terms l = 8 * l.levels + 2

abbrev pub decreases-target_items : goal.decreases-target_items
decreases-target_items l = 8 * l.levels + 2

abbrev pub decreases-groups : goal.decreases-groups
decreases-groups l = 8 * l.levels + 3

abbrev pub decreases-read_targets : goal.decreases-read_targets
decreases-read_targets l = 8 * l.levels + 3

abbrev pub decreases-term_over : goal.decreases-term_over
decreases-term_over l = 8 * l.levels + 7

abbrev pub decreases-qual_over : goal.decreases-qual_over
decreases-qual_over l = 8 * l.levels + 7

abbrev pub decreases-agg_over : goal.decreases-agg_over
decreases-agg_over l = 8 * l.levels + 7

abbrev pub decreases-query_over : goal.decreases-query_over
decreases-query_over l = 8 * l.levels + 7

abbrev pub invariant-term_items-loop : goal.invariant-term_items-loop
invariant-term_items-loop l = items_read (term l.levels) l.count l.fn.reader ≡ with_front l.terms.items (items_read (term l.levels) (l.count - l.counter) l.reader)

abbrev pub invariant-target_items-loop : goal.invariant-target_items-loop
invariant-target_items-loop l = items_read (target l.levels) l.count l.fn.reader ≡ with_front l.targets.items (items_read (target l.levels) (l.count - l.counter) l.reader)
