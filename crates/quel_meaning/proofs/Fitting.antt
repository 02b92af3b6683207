-- Computed: which trees are fit for a small database.
use Rattle.std.proofs.Common.{refl}
use Rattle.std.specs.Prelude.{◌≡◌, ℕ, pos, true, false, List, [], ◌∷◌, None, codes}
use Rattle.calculus.specs.declared.value.Domain.TheVariants.{I2, C}
use Rattle.calculus.specs.declared.value.Kind.TheVariants.{Of, Wide}
use Rattle.calculus.specs.declared.operator.CmpOp.TheVariants.{Eq}
use Rattle.calculus.specs.declared.query.RelKey.{RelKey}
use Rattle.calculus.specs.declared.query.QTerm.TheVariants as q
use Rattle.calculus.specs.declared.query.QTerm.{QTerm}
use Rattle.calculus.specs.declared.query.QQual.TheVariants as qual
use Rattle.calculus.specs.declared.query.Query.{Query}
use Rattle.calculus.specs.declared.query.Target.{Target}
use Rattle.calculus.specs.declared.request.Checked.{Checked}
use Rattle.calculus.specs.declared.request.Checked.TheVariants as checked
use Rattle.calculus.specs.declared.request.Utility.TheVariants as utility
use Rattle.calculus.specs.declared.request.UpdateOp.TheVariants as op
use Rattle.calculus.specs.declared.request.CopyForm.TheVariants.{Bin, Fixed}
use Rattle.calculus.specs.declared.schema.Permit.{Permit}
use Rattle.calculus.specs.declared.schema.Spec.TheVariants as spec
use Rattle.calculus.specs.Catalogue.{catalogue_at}
use Rattle.calculus.specs.Constant.{constant_text, unescaped}
use Rattle.calculus.specs.Finding.{found}
use Rattle.calculus.specs.Kinds.{kind_of, attribute_kind, constant_kind, number_kind, operated_kind, joined_kind, is_text_kind, kinds_fit, comparable}
use Rattle.calculus.specs.QueryParts.{term_aggregates, qual_aggregates}
use Rattle.calculus.specs.Sizes.{level_of, term_size, qual_size, measure_of, query_size, query_level, variables, expanded_variables, update_variables, update_expanded_variables}
use Rattle.calculus.specs.Stored.{range_at, info_at}
use Rattle.calculus.specs.Tree as tree
use Rattle.quel_meaning.specs.Ranges.{range_of}
use Rattle.quel_meaning.specs.Scope.{named, ranged, entry_named}
use Rattle.quel_meaning.specs.WrittenParts.{aggregate_vars, aggregates_in, aggregates_in_qual, vars_in}
use Rattle.quel_meaning.specs.Naming.{mentions, name_refusal}
use Rattle.quel_meaning.specs.Aggregates.{aggregate_allowed, aggregates_allowed}
use Rattle.quel_meaning.specs.KindsInQueries.{aggregate_kind, kind_in_query, kinds_fit_in_query, query_fits, assignments_fit}
use Rattle.quel_meaning.specs.WrittenQuery.{where_tree, query_of}
use Rattle.quel_meaning.specs.Passing.{has_too_many, is_full, is_too_large, is_too_wide, is_taken}
use Rattle.quel_meaning.specs.StatementUpdate.{append_of, replace_of, delete_of, into_of}
use Rattle.quel_meaning.specs.Causes.{refusals}
use Rattle.quel_meaning.specs.Resolved.{tree_of, resolved}
use Rattle.quel_meaning.specs.FitQueries.{source_fits, reads_fit, asked_fits}
use Rattle.quel_meaning.specs.Fit.{update_fits, view_fits, utility_fits, suits, fits, is_fit}
use Rattle.quel_meaning.specs.SpelledTree.{update_is_spelled, utility_is_spelled, tree_is_spelled}
use Rattle.calculus.specs.Chars.{is_chars}
use Rattle.calculus.specs.Name.{is_name}
use Rattle.calculus.specs.declared.query.QQual.{QQual}
use Rattle.calculus.specs.declared.request.UpdateOp.{UpdateOp}
use Rattle.std.specs.Prelude.{Bool}
use Rattle.quel_meaning.proofs.SmallTexts.{key, db, target, counted}

abbrev checked_tree : Checked → Bool
checked_tree tree = is_fit db (codes "ann") tree

abbrev asked : List RelKey → List Target → QQual → Checked
asked vars targets q = checked.Answer (record { query = tree.query vars targets q; sort = [] } ∷ [])

-- the key of p, and the target a of a number
abbrev p : RelKey
p = key (codes "p")

abbrev number : QTerm → Target
number t = target (codes "a") Wide t

abbrev update : UpdateOp → RelKey → ℕ → List ℕ → Query → Checked
update does rel old places query = checked.Update (record { op = does; rel = rel; old = old; places = places; query = query; checks = []; new_cut = qual.True })

-- retrieve into w (e.b)
abbrev made : List ℕ → Checked
made name = update op.Into (key name) 255 (0 ∷ []) (tree.query (p ∷ []) (target (codes "b") (Of (C 6)) (q.Attr 0 1) ∷ []) qual.True)

-- replace e (a = 1)
abbrev replaced : ℕ → List ℕ → Checked
replaced old places = update op.Replace p old places (tree.query (p ∷ []) (number (q.Int (pos 1)) ∷ []) qual.True)

abbrev one_count : ℕ → Target
one_count slot = number (counted (codes "p") slot)

-- a permit of these rights for everybody
abbrev permit : ℕ → Permit
permit ops = record { number = 0; ops = ops; attrs = []; user = None; qual = qual.True }

record Facts : Type 0 where
  a_query : checked_tree (asked (p ∷ []) (target (codes "a") (Of I2) (q.Attr 0 0) ∷ []) qual.True) ≡ true
  kinds_of_targets : checked_tree (asked (p ∷ []) (number (q.Attr 0 0) ∷ []) qual.True) ≡ false
  nothing_there : checked_tree (asked (key (codes "z") ∷ []) (number (q.Int (pos 1)) ∷ []) qual.True) ≡ false
  over_a_view : checked_tree (asked (key (codes "two") ∷ []) (number (q.Int (pos 1)) ∷ []) qual.True) ≡ false
  over_a_catalogue : checked_tree (asked (key (codes "relation") ∷ []) (number (q.Int (pos 1)) ∷ []) qual.True) ≡ true
  past_the_attributes : checked_tree (asked (p ∷ []) (target (codes "a") (Of I2) (q.Attr 0 2) ∷ []) qual.True) ≡ false
  past_the_variables : checked_tree (asked (p ∷ []) (target (codes "a") (Of I2) (q.Attr 1 0) ∷ []) qual.True) ≡ false
  slots_count : checked_tree (asked [] (one_count 0 ∷ one_count 1 ∷ []) qual.True) ≡ true
  slots_begin_at_0 : checked_tree (asked [] (one_count 1 ∷ []) qual.True) ≡ false
  slots_differ : checked_tree (asked [] (one_count 0 ∷ one_count 0 ∷ []) qual.True) ≡ false
  text_with_number : checked_tree (asked (p ∷ []) (number (q.Int (pos 1)) ∷ []) (qual.Cmp Eq (q.Attr 0 0) (q.Attr 0 1))) ≡ false
  a_replacement : checked_tree (replaced 0 (0 ∷ [])) ≡ true
  a_number_for_a_text : checked_tree (replaced 0 (1 ∷ [])) ≡ false
  no_old_variable : checked_tree (replaced 1 (0 ∷ [])) ≡ false
  two_places : checked_tree (replaced 0 (0 ∷ 1 ∷ [])) ≡ false
  a_new_relation : checked_tree (made (codes "w")) ≡ true
  a_name_in_use : checked_tree (made (codes "p")) ≡ false
  a_catalogue_name : checked_tree (made (codes "attribute")) ≡ false
  a_structure : checked_tree (checked.Utility (utility.Modify p spec.Isam (1 ∷ 0 ∷ []))) ≡ true
  no_structure : checked_tree (checked.Utility (utility.Modify p spec.View [])) ≡ false
  keys_differ : checked_tree (checked.Utility (utility.Modify p spec.Isam (1 ∷ 1 ∷ []))) ≡ false
  a_destroyed_catalogue : checked_tree (checked.Utility (utility.Destroy (key (codes "relation") ∷ []))) ≡ true
  destroyed_twice : checked_tree (checked.Utility (utility.Destroy (p ∷ p ∷ []))) ≡ false
  no_columns : checked_tree (checked.Utility (utility.Copy p [] true (codes "f"))) ≡ false
  a_column : checked_tree (checked.Utility (utility.Copy p (record { attr = 1; form = Fixed 3 } ∷ []) true (codes "f"))) ≡ true
  a_binary_text : checked_tree (checked.Utility (utility.Copy p (record { attr = 1; form = Bin 2 } ∷ []) true (codes "f"))) ≡ false
  a_view_over_a_view : checked_tree (checked.Utility (utility.View (key (codes "w")) (tree.query (key (codes "two") ∷ []) (target (codes "a") (Of I2) (q.Attr 0 0) ∷ []) qual.True))) ≡ true
  greatest_number : checked_tree (asked [] (number (q.Int (pos 9223372036854775807)) ∷ []) qual.True) ≡ true
  no_greater_number : checked_tree (asked [] (number (q.Int (pos 9223372036854775808)) ∷ []) qual.True) ≡ false
  no_name : checked_tree (made (codes "W")) ≡ false
  no_pattern : checked_tree (asked (p ∷ []) (target (codes "a") (Of I2) (q.Attr 0 0) ∷ []) (qual.Like (q.Attr 0 1) (10 ∷ []) true)) ≡ false
  no_file_name : checked_tree (checked.Utility (utility.Copy p (record { attr = 1; form = Fixed 3 } ∷ []) true (10 ∷ []))) ≡ false
  all_rights : checked_tree (checked.Utility (utility.Permit p (permit 15))) ≡ true
  no_right : checked_tree (checked.Utility (utility.Permit p (permit 16))) ≡ false
  no_aggregate_in_a_view : checked_tree (checked.Utility (utility.View (key (codes "w")) (tree.query [] (one_count 0 ∷ []) qual.True))) ≡ false

facts : Facts
unfolding resolved tree_of name_refusal mentions range_of ranged named found entry_named info_at range_at catalogue_at refusals aggregates_allowed aggregate_allowed aggregate_vars aggregates_in aggregates_in_qual vars_in query_of where_tree append_of replace_of delete_of into_of kind_in_query kinds_fit_in_query aggregate_kind query_fits assignments_fit kind_of attribute_kind constant_kind number_kind operated_kind joined_kind is_text_kind kinds_fit comparable constant_text unescaped has_too_many is_full is_too_large is_too_wide is_taken variables expanded_variables update_variables update_expanded_variables term_aggregates qual_aggregates measure_of term_size qual_size query_size query_level level_of source_fits reads_fit asked_fits update_fits view_fits utility_fits suits fits update_is_spelled utility_is_spelled tree_is_spelled is_name is_chars
facts = record { a_query = refl; kinds_of_targets = refl; nothing_there = refl; over_a_view = refl; over_a_catalogue = refl; past_the_attributes = refl; past_the_variables = refl; slots_count = refl; slots_begin_at_0 = refl; slots_differ = refl; text_with_number = refl; a_replacement = refl; a_number_for_a_text = refl; no_old_variable = refl; two_places = refl; a_new_relation = refl; a_name_in_use = refl; a_catalogue_name = refl; a_structure = refl; no_structure = refl; keys_differ = refl; a_destroyed_catalogue = refl; destroyed_twice = refl; no_columns = refl; a_column = refl; a_binary_text = refl; a_view_over_a_view = refl; greatest_number = refl; no_greater_number = refl; no_name = refl; no_pattern = refl; no_file_name = refl; all_rights = refl; no_right = refl; no_aggregate_in_a_view = refl }
