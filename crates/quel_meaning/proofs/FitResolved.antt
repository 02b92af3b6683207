-- What a written statement asks for is fit, once the views in it are expanded.
use Rattle.std.proofs.Common.{◌≡◌, refl, subst, ℕ, true, List, Some, None, Ok}
use Rattle.calculus.specs.declared.request.Checked.{Checked}
use Rattle.calculus.specs.declared.statement.Statement.{Statement}
use Rattle.calculus.specs.declared.statement.Statement.TheVariants as statement
use Rattle.calculus.specs.Database.{Db}
use Rattle.calculus.specs.IsDatabase.{IsDatabase}
use Rattle.calculus.specs.Name.{is_name}
use Rattle.calculus.specs.Replacement.{first_refusal}
use Rattle.quel_meaning.specs.Ranges.{Ranges}
use Rattle.quel_meaning.specs.Scope.{Scope, named}
use Rattle.quel_meaning.specs.Naming.{name_refusal}
use Rattle.quel_meaning.specs.Causes.{refusals}
use Rattle.quel_meaning.specs.Resolved.{tree_of, resolved}
use Rattle.quel_meaning.specs.FitQueries.{kept_or_viewed}
use Rattle.quel_meaning.specs.Fit.{suits, fits, is_fit_with_views}
use Rattle.quel_meaning.specs.IsWritten.{items_are_written, is_written}
use Rattle.quel_meaning.proofs.Accepted.{scope, accepted}
use Rattle.quel_meaning.proofs.Each.{left, and}
use Rattle.quel_meaning.proofs.FitAnswers.{retrieve_fits}
use Rattle.quel_meaning.proofs.FitKept.{copy_fits, permit_fits, rule_fits, create_fits}
use Rattle.quel_meaning.proofs.FitMade.{into_fits, view_stmt_fits}
use Rattle.quel_meaning.proofs.FitShown.{print_fits, help_all_fits, help_fits}
use Rattle.quel_meaning.proofs.FitUpdates.{append_fits, replace_fits, delete_fits}
use Rattle.quel_meaning.proofs.FitUtilities.{destroy_fits, drop_permits_fits, drop_rules_fits, modify_fits, index_fits}
use Rattle.quel_meaning.proofs.SpelledResolved.{tree_spelled}

tree_suits : (s : Scope) → IsDatabase s.db → (stmt : Statement) → is_written stmt ≡ true → name_refusal s stmt ≡ None → first_refusal (refusals s stmt) ≡ None
    → suits (kept_or_viewed s.db) s.db s.user (tree_of s stmt) ≡ true
unfolding tree_of suits is_written
tree_suits s is (statement.Range var rel) w h k = refl
tree_suits s is (statement.Retrieve None items qual sort) w h k = retrieve_fits s items qual sort h k
tree_suits s is (statement.Retrieve (Some name) items qual sort) w h k = into_fits s is name items qual sort w h k
tree_suits s is (statement.Append rel items qual) w h k = append_fits s is rel items qual (left (items_are_written items) _ w) h k
tree_suits s is (statement.Replace var items qual) w h k = replace_fits s is var items qual (left (items_are_written items) _ w) h k
tree_suits s is (statement.Delete var qual) w h k = delete_fits s is var qual h k
tree_suits s is (statement.Create rel attrs) w h k = create_fits s rel attrs w k
tree_suits s is (statement.Destroy rels) w h k = destroy_fits s rels k
tree_suits s is (statement.DropPermits rel numbers) w h k = drop_permits_fits s rel numbers h
tree_suits s is (statement.DropRules rel numbers) w h k = drop_rules_fits s rel numbers h
tree_suits s is (statement.Modify rel to keys) w h k = modify_fits s is rel to keys w h k
tree_suits s is (statement.Index base name keys) w h k = index_fits s base name keys w h k
tree_suits s is (statement.Print rels) w h k = print_fits s is rels h
tree_suits s is (statement.Help None) w h k = and _ _ (help_all_fits s is) refl
tree_suits s is (statement.Help (Some rel)) w h k = and _ _ (help_fits s is (named s rel)) refl
tree_suits s is (statement.Copy rel columns from file) w h k = copy_fits s rel columns from file w h k
tree_suits s is (statement.View name items qual) w h k = view_stmt_fits s is name items qual w h k
tree_suits s is (statement.Permit ops var attrs user qual) w h k = permit_fits s ops var attrs user qual h k
tree_suits s is (statement.Rule var qual) w h k = rule_fits s var qual h k

tree_fits : (s : Scope) → IsDatabase s.db → is_name s.user ≡ true → (stmt : Statement) → is_written stmt ≡ true → name_refusal s stmt ≡ None
    → first_refusal (refusals s stmt) ≡ None → is_fit_with_views s.db s.user (tree_of s stmt) ≡ true
unfolding fits
tree_fits s is u stmt w h k = and _ _ (tree_spelled s is u stmt w h) (tree_suits s is stmt w h k)

pub resolved_fits : (db : Db) (user : List ℕ) (ranges : Ranges) (stmt : Statement) (tree : Checked) → IsDatabase db → is_name user ≡ true → is_written stmt ≡ true
    → resolved db user ranges stmt ≡ Ok tree → is_fit_with_views db user tree ≡ true
resolved_fits db user ranges stmt tree is u w e =
    let a = accepted db user ranges stmt tree e in
    subst (λ t. is_fit_with_views db user t ≡ true) a.is (tree_fits (scope db user ranges) is u stmt w a.names a.none)
