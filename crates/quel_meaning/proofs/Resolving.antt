-- Computed: what small statements are resolved to, or the number that refuses them.
use Rattle.std.proofs.Common.{refl}
use Rattle.std.specs.Prelude.{◌≡◌, pos, true, false, [], ◌∷◌, Some, None, Ok, Err, codes, replicate}
use Rattle.calculus.specs.declared.value.Domain.TheVariants.{I1, I2, C}
use Rattle.calculus.specs.declared.value.Kind.TheVariants.{Of, Wide}
use Rattle.calculus.specs.declared.operator.ArithOp.TheVariants.{Add}
use Rattle.calculus.specs.declared.operator.CmpOp.TheVariants.{Eq, Ne, Gt}
use Rattle.calculus.specs.declared.operator.AggOp.TheVariants.{Sum}
use Rattle.calculus.specs.declared.query.QTerm.TheVariants as q
use Rattle.calculus.specs.declared.query.QQual.TheVariants as qual
use Rattle.calculus.specs.declared.query.Query.{Query}
use Rattle.calculus.specs.declared.query.AggSource.{Named}
use Rattle.calculus.specs.declared.request.Checked.{Checked}
use Rattle.calculus.specs.declared.request.Checked.TheVariants as checked
use Rattle.calculus.specs.declared.request.Utility.TheVariants as utility
use Rattle.calculus.specs.declared.request.UpdateOp.TheVariants as op
use Rattle.calculus.specs.declared.request.CopyForm.TheVariants.{Bin, Until}
use Rattle.calculus.specs.declared.schema.Spec.TheVariants as spec
use Rattle.calculus.specs.declared.statement.Qual.{True, Cmp}
use Rattle.calculus.specs.declared.statement.Item.TheVariants as item
use Rattle.calculus.specs.declared.statement.Statement.TheVariants as statement
use Rattle.calculus.specs.Catalogue.{catalogue_at}
use Rattle.calculus.specs.Constant.{constant_text, unescaped}
use Rattle.calculus.specs.Finding.{found}
use Rattle.calculus.specs.Kinds.{kind_of, attribute_kind, constant_kind, number_kind, operated_kind, joined_kind, is_text_kind, kinds_fit, comparable}
use Rattle.calculus.specs.QueryParts.{term_aggregates, qual_aggregates}
use Rattle.calculus.specs.Sizes.{level_of, term_size, qual_size, measure_of, query_size, query_level, variables, expanded_variables, update_variables, update_expanded_variables}
use Rattle.calculus.specs.Stored.{range_at, info_at}
use Rattle.calculus.specs.Tree as tree
use Rattle.calculus.specs.Written.{neg, operation, aggregate}
use Rattle.quel_meaning.specs.Ranges.{range_of}
use Rattle.quel_meaning.specs.Scope.{named, ranged, entry_named}
use Rattle.quel_meaning.specs.WrittenParts.{aggregate_vars, aggregates_in, aggregates_in_qual, vars_in}
use Rattle.quel_meaning.specs.Naming.{mentions, name_refusal}
use Rattle.quel_meaning.specs.Aggregates.{aggregate_allowed, aggregates_allowed}
use Rattle.quel_meaning.specs.KindsInQueries.{aggregate_kind, kind_in_query, kinds_fit_in_query, query_fits, assignments_fit}
use Rattle.quel_meaning.specs.WrittenQuery.{where_tree, query_of}
use Rattle.quel_meaning.specs.Passing.{has_too_many, is_full, is_too_large, is_too_wide, is_taken}
use Rattle.quel_meaning.specs.StatementUpdate.{append_of, replace_of, delete_of, into_of}
use Rattle.quel_meaning.specs.Causes.{refusals}
use Rattle.quel_meaning.specs.Resolved.{tree_of, resolved}
use Rattle.quel_meaning.proofs.SmallTexts.{key, of, dot, retrieve, ea, count_of, set, eb, fk, int, chars, target, sum_by_k, plus_one, counted}

-- ---- what is refused, by its number

record Refused : Type 0 where
  unknown_variable : of (retrieve (item.Attr (codes "x") (codes "a") ∷ []) True) ≡ Err 11
  gone_relation : of (retrieve (item.Attr (codes "gone") (codes "a") ∷ item.Attr (codes "x") (codes "a") ∷ []) True) ≡ Err 10
  unknown_attribute_first : of (retrieve (item.Attr (codes "e") (codes "z") ∷ item.Attr (codes "x") (codes "a") ∷ []) True) ≡ Err 12
  aggregate_in_the_text : of (retrieve (set (codes "n") (count_of (dot (codes "x") (codes "a"))) ∷ item.Attr (codes "e") (codes "z") ∷ []) True) ≡ Err 11
  all_of_another : of (statement.Append (codes "p") (item.All (codes "f") ∷ []) True) ≡ Err 12
  unknown_relation : of (statement.Print (codes "p" ∷ codes "zz" ∷ [])) ≡ Err 10
  over_a_view_of_two : of (retrieve (set (codes "n") (count_of (dot (codes "v") (codes "a"))) ∷ []) True) ≡ Err 18
  over_no_variable : of (retrieve (set (codes "n") (count_of (int 1)) ∷ []) True) ≡ Err 18
  over_two_variables : of (retrieve (set (codes "n") (count_of (operation Add ea fk)) ∷ []) True) ≡ Err 18
  in_another : of (retrieve (set (codes "n") (count_of (operation Add ea (count_of ea))) ∷ []) True) ≡ Err 18
  in_a_view : of (statement.View (codes "w") (set (codes "n") (count_of ea) ∷ []) True) ≡ Err 18
  eleven_aggregates : of (retrieve (replicate 11 (set (codes "n") (count_of ea))) True) ≡ Err 14
  a_second_variable : of (statement.Rule (codes "e") (Cmp Gt ea fk)) ≡ Err 14
  set_twice : of (statement.Append (codes "p") (set (codes "a") (int 1) ∷ set (codes "a") (chars (codes "x")) ∷ []) True) ≡ Err 17
  text_plus_one : of (retrieve (set (codes "x") (operation Add eb (int 1)) ∷ []) True) ≡ Err 13
  sum_of_texts : of (retrieve (set (codes "x") (aggregate (record { op = Sum; arg = eb; by = []; qual = True })) ∷ []) True) ≡ Err 13
  number_is_text : of (retrieve (item.Attr (codes "e") (codes "a") ∷ []) (Cmp Eq ea (chars (codes "1")))) ≡ Err 13
  text_for_a_number : of (statement.Append (codes "p") (set (codes "a") (chars (codes "1")) ∷ []) True) ≡ Err 13
  no_title : of (statement.Retrieve None (set (codes "x") (int 1) ∷ []) True ((codes "y", true) ∷ [])) ≡ Err 12
  kinds_before_titles : of (statement.Retrieve None (set (codes "x") (neg eb) ∷ []) True ((codes "y", true) ∷ [])) ≡ Err 13
  fifty_targets : of (retrieve (replicate 50 (set (codes "x") (int 1))) True) ≡ Err 16
  name_in_use : of (statement.Retrieve (Some (codes "p")) (set (codes "x") (int 1) ∷ []) True []) ≡ Err 15
  a_catalogue_name : of (statement.Create (codes "relation") ((codes "x", I1) ∷ [])) ≡ Err 15
  a_catalogue : of (statement.Append (codes "relation") (set (codes "relid") (chars (codes "x")) ∷ []) True) ≡ Err 28
  a_view : of (statement.Delete (codes "v") True) ≡ Err 26
  too_wide : of (statement.Create (codes "w") ((codes "a", C 255) ∷ (codes "b", C 255) ∷ (codes "c", C 255) ∷ (codes "d", C 255) ∷ [])) ≡ Err 16
  named_twice : of (statement.Destroy (codes "p" ∷ codes "s" ∷ codes "p" ∷ [])) ≡ Err 17
  binary_text : of (statement.Copy (codes "p") ((codes "a", Until 9) ∷ (codes "b", Bin 2) ∷ []) true (codes "f")) ≡ Err 13

refused : Refused
unfolding resolved tree_of name_refusal mentions range_of ranged named found entry_named info_at range_at catalogue_at refusals aggregates_allowed aggregate_allowed aggregate_vars aggregates_in aggregates_in_qual vars_in query_of where_tree append_of replace_of delete_of into_of kind_in_query kinds_fit_in_query aggregate_kind query_fits assignments_fit kind_of attribute_kind constant_kind number_kind operated_kind joined_kind is_text_kind kinds_fit comparable constant_text unescaped has_too_many is_full is_too_large is_too_wide is_taken variables expanded_variables update_variables update_expanded_variables term_aggregates qual_aggregates measure_of term_size qual_size query_size query_level level_of
refused = record {
  unknown_variable = refl;
  gone_relation = refl;
  unknown_attribute_first = refl;
  aggregate_in_the_text = refl;
  all_of_another = refl;
  unknown_relation = refl;
  over_a_view_of_two = refl;
  over_no_variable = refl;
  over_two_variables = refl;
  in_another = refl;
  in_a_view = refl;
  eleven_aggregates = refl;
  a_second_variable = refl;
  set_twice = refl;
  text_plus_one = refl;
  sum_of_texts = refl;
  number_is_text = refl;
  text_for_a_number = refl;
  no_title = refl;
  kinds_before_titles = refl;
  fifty_targets = refl;
  name_in_use = refl;
  a_catalogue_name = refl;
  a_catalogue = refl;
  a_view = refl;
  too_wide = refl;
  named_twice = refl;
  binary_text = refl;
}

-- ---- what is resolved

-- replace e (a = e.a + 1) where e.b = "x*"
abbrev replaced : Checked
replaced = checked.Update (record {
  op = op.Replace;
  rel = key (codes "p");
  old = 0;
  places = 0 ∷ [];
  query = tree.query (key (codes "p") ∷ []) (target (codes "a") Wide (tree.operation Add (q.Attr 0 0) (q.Int (pos 1))) ∷ []) (qual.Like (q.Attr 0 1) (codes "x*") true);
  checks = [];
  new_cut = qual.True;
})

-- retrieve (n = count(e.a), x = sum(f.k by f.k where f.k > 1), e.all) where count(f.k) > e.a
abbrev grouped : Query
grouped = tree.query (key (codes "s") ∷ key (codes "p") ∷ [])
    (target (codes "n") Wide (counted (codes "p") 0)
    ∷ target (codes "x") Wide (tree.aggregate (record { slot = 1; op = Sum; source = Named (key (codes "s")); arg = q.Attr 0 0; by = q.Attr 0 0 ∷ []; link = q.Attr 0 0 ∷ []; qual = qual.Cmp Gt (q.Attr 0 0) (q.Int (pos 1)) }))
    ∷ target (codes "a") (Of I2) (q.Attr 1 0)
    ∷ target (codes "b") (Of (C 6)) (q.Attr 1 1)
    ∷ [])
    (qual.Cmp Gt (counted (codes "s") 2) (q.Attr 1 0))

record Trees : Type 0 where
  a_replacement : of (statement.Replace (codes "e") (set (codes "a") plus_one ∷ []) (Cmp Eq eb (chars (codes "x*")))) ≡ Ok replaced
  slots_in_the_text :
      of (statement.Retrieve None (set (codes "n") (count_of ea) ∷ set (codes "x") sum_by_k ∷ item.All (codes "e") ∷ []) (Cmp Gt (count_of fk) ea) ((codes "a", true) ∷ []))
      ≡ Ok (checked.Answer (record { query = grouped; sort = record { column = 2; down = true } ∷ [] } ∷ []))
  the_right_constant :
      of (retrieve (set (codes "x") (int 1) ∷ []) (Cmp Ne (chars (codes "x")) (chars (codes "a*"))))
      ≡ Ok (checked.Answer (record { query = tree.query [] (target (codes "x") Wide (q.Int (pos 1)) ∷ []) (qual.Like (q.Chars (codes "x")) (codes "a*") false); sort = [] } ∷ []))
  a_new_relation :
      of (statement.Retrieve (Some (codes "w")) (item.Attr (codes "e") (codes "b") ∷ []) True ((codes "b", true) ∷ []))
      ≡ Ok (checked.Update (record { op = op.Into; rel = key (codes "w"); old = 255; places = 0 ∷ []; query = tree.query (key (codes "p") ∷ []) (target (codes "b") (Of (C 6)) (q.Attr 0 1) ∷ []) qual.True; checks = []; new_cut = qual.True }))
  an_append_of_all :
      of (statement.Append (codes "p") (item.All (codes "e") ∷ []) True)
      ≡ Ok (checked.Update (record { op = op.Append; rel = key (codes "p"); old = 255; places = 0 ∷ 1 ∷ []; query = tree.query (key (codes "p") ∷ []) (target (codes "a") (Of I2) (q.Attr 0 0) ∷ target (codes "b") (Of (C 6)) (q.Attr 0 1) ∷ []) qual.True; checks = []; new_cut = qual.True }))
  a_rule : of (statement.Rule (codes "e") (Cmp Gt ea (int 1))) ≡ Ok (checked.Utility (utility.Rule (key (codes "p")) (record { number = 0; qual = qual.Cmp Gt (q.Attr 0 0) (q.Int (pos 1)) })))
  a_hash : of (statement.Modify (codes "p") spec.Hash []) ≡ Ok (checked.Utility (utility.Modify (key (codes "p")) spec.Hash (0 ∷ [])))
  a_heap : of (statement.Modify (codes "p") spec.Heap []) ≡ Ok (checked.Utility (utility.Modify (key (codes "p")) spec.Heap []))
  a_print :
      of (statement.Print (codes "two" ∷ []))
      ≡ Ok (checked.Answer (record { query = tree.query (key (codes "two") ∷ []) (target (codes "a") (Of I2) (q.Attr 0 0) ∷ []) qual.True; sort = [] } ∷ []))
  a_help :
      of (statement.Help (Some (codes "p")))
      ≡ Ok (checked.Answer (record {
        query = tree.query (key (codes "attribute") ∷ []) (target (codes "attid") (Of I2) (q.Attr 0 2) ∷ target (codes "attname") (Of (C 12)) (q.Attr 0 3) ∷ target (codes "attfrmt") (Of (C 4)) (q.Attr 0 4) ∷ [])
            (tree.both (qual.Like (q.Attr 0 0) (codes "p") true) (qual.Like (q.Attr 0 1) (codes "ann") true));
        sort = [];
      } ∷ []))
  a_destroy : of (statement.Destroy (codes "two" ∷ codes "relation" ∷ [])) ≡ Ok (checked.Utility (utility.Destroy (key (codes "two") ∷ key (codes "relation") ∷ [])))

trees : Trees
unfolding resolved tree_of name_refusal mentions range_of ranged named found entry_named info_at range_at catalogue_at refusals aggregates_allowed aggregate_allowed aggregate_vars aggregates_in aggregates_in_qual vars_in query_of where_tree append_of replace_of delete_of into_of kind_in_query kinds_fit_in_query aggregate_kind query_fits assignments_fit kind_of attribute_kind constant_kind number_kind operated_kind joined_kind is_text_kind kinds_fit comparable constant_text unescaped has_too_many is_full is_too_large is_too_wide is_taken variables expanded_variables update_variables update_expanded_variables term_aggregates qual_aggregates measure_of term_size qual_size query_size query_level level_of
trees = record { a_replacement = refl; slots_in_the_text = refl; the_right_constant = refl; a_new_relation = refl; an_append_of_all = refl; a_rule = refl; a_hash = refl; a_heap = refl; a_print = refl; a_help = refl; a_destroy = refl }
