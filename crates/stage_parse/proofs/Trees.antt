-- What comes of a statement, by what it is resolved to and what is cut of that.
use Rattle.std.proofs.Common.{◌≡◌, refl, sym, ap, ◌∙◌, ℕ, Bool, true, false, List, Result, Ok, Err}
use Rattle.calculus.specs.declared.request.Checked.{Checked}
use Rattle.calculus.specs.declared.statement.Statement.{Statement}
use Rattle.calculus.specs.Database.{Db}
use Rattle.calculus.specs.IsDatabase.{IsDatabase}
use Rattle.calculus.specs.Name.{is_name}
use Rattle.calculus.specs.Who.{Who, Unrestricted, asker_of, as_user}
use Rattle.quel_meaning.specs.Fit.{suits, fits, is_fit, is_fit_with_views}
use Rattle.quel_meaning.specs.FitQueries.{kept_or_viewed}
use Rattle.quel_meaning.specs.IsWritten.{is_written}
use Rattle.quel_meaning.specs.Meaning.{checked_permitted, checked_tree, checked_tree_by, tree_if_permitted, permitted_tree, ruled_tree, tree_meaning}
use Rattle.quel_meaning.specs.Ranges.{Ranges}
use Rattle.quel_meaning.specs.Resolved.{resolved}
use Rattle.quel_meaning.specs.SpelledTree.{tree_is_spelled}
use Rattle.quel_meaning.proofs.Each.{left}
use Rattle.quel_meaning.proofs.FitResolved.{resolved_fits}
use Rattle.quel_resolve.specs.Answers.{Resolves}
use Rattle.utility_trees.specs.Answers.{Says}
use Rattle.utility_trees.specs.declared.fault.CheckFault.{CheckFault}
use Rattle.utility_trees.specs.declared.fault.CheckFault.TheVariants as fault
use Rattle.view_text.specs.Expanded.{expanded_tree}
use Rattle.tree_laws.proofs.FitTree.{fit_ruled}
use Rattle.tree_laws.proofs.Means.{ruled_means_same}
use Rattle.spelling_laws.proofs.PutSpelled.{all_spelled}
use Rattle.stage_parse.specs.Checks.{IsChecked, Checks}

-- ---- constants

-- what is fit has constants that are ones, and so has what is put in
put_spelled : (db : Db) → IsDatabase db → (user : List ℕ) (who : Who) (tree : Checked) → is_fit_with_views db user tree ≡ true → tree_is_spelled (ruled_tree db (expanded_tree db who tree)) ≡ true
unfolding fits
put_spelled db d user who tree h = all_spelled db d who tree (left (tree_is_spelled tree) (suits (kept_or_viewed db) db user tree) h)

-- ---- what is checked

checked_of : (db : Db) (user : List ℕ) (ranges : Ranges) (s : Statement) → checked_tree db (asker_of user) ranges s ≡ tree_if_permitted db (asker_of user) (resolved db user ranges s)
unfolding checked_tree_by
checked_of db user ranges s = refl

checked_refused : (db : Db) (user : List ℕ) (ranges : Ranges) (s : Statement) (number : ℕ) → resolved db user ranges s ≡ Err number → checked_tree db (asker_of user) ranges s ≡ Err number
checked_refused db user ranges s number e = checked_of db user ranges s ∙ ap (tree_if_permitted db (asker_of user)) e

checked_with : (db : Db) (user : List ℕ) (ranges : Ranges) (s : Statement) (tree : Checked) (b : Bool) → resolved db user ranges s ≡ Ok tree → checked_permitted db (as_user user) tree ≡ b
    → checked_tree db (asker_of user) ranges s ≡ permitted_tree b tree
checked_with db user ranges s tree b e h = checked_of db user ranges s ∙ ap (tree_if_permitted db (asker_of user)) e ∙ ap (λ p. permitted_tree p tree) h

-- ---- what comes of a statement

-- what a statement asks for is fit but for the views in it
pub fit_resolved : (db : Db) (user : List ℕ) (ranges : Ranges) (s : Statement) (tree : Checked) → IsDatabase db → is_name user ≡ true → is_written s ≡ true
    → Resolves db user ranges s (Ok tree) → is_fit_with_views db user tree ≡ true
fit_resolved db user ranges s tree d named written h = resolved_fits db user ranges s tree d named written h

-- it is cut, and the rules join it
comes : (db : Db) (user : List ℕ) (ranges : Ranges) (s : Statement) (tree made : Checked) → IsDatabase db → is_name user ≡ true → is_written s ≡ true
    → Resolves db user ranges s (Ok tree)
    → (made ≡ ruled_tree db (expanded_tree db (as_user user) tree)) × (checked_permitted db (as_user user) tree ≡ true) → IsChecked db user ranges s made
comes db user ranges s tree made d named written h k =
    let fit : is_fit_with_views db user tree ≡ true = fit_resolved db user ranges s tree d named written h in
    record {
      asked = tree;
      checked_tree = checked_with db user ranges s tree true h k.1;
      expanded = k.0;
      fit = ap (is_fit db user) k.0 ∙ fit_ruled db d (as_user user) user tree fit (put_spelled db d user (as_user user) tree fit);
      means = λ shelf. ap (tree_meaning db shelf Unrestricted user) k.0 ∙ sym (ruled_means_same db d (as_user user) shelf user tree fit);
    }

-- it isn't permitted
refused : (db : Db) (user : List ℕ) (ranges : Ranges) (s : Statement) (tree : Checked) (number : ℕ) → Resolves db user ranges s (Ok tree)
    → (number ≡ 23) × (checked_permitted db (as_user user) tree ≡ false) → Checks db user ranges s (Err (fault.No number))
refused db user ranges s tree number h k = checked_with db user ranges s tree false h k.1 ∙ ap Err (sym k.0)

-- by what is told of what is cut and ruled
pub follows : (db : Db) (user : List ℕ) (ranges : Ranges) (s : Statement) (tree : Checked) → IsDatabase db → is_name user ≡ true → is_written s ≡ true
    → Resolves db user ranges s (Ok tree) → (result : Result Checked CheckFault)
    → Says (λ made. (made ≡ ruled_tree db (expanded_tree db (as_user user) tree)) × (checked_permitted db (as_user user) tree ≡ true))
    (λ number. (number ≡ 23) × (checked_permitted db (as_user user) tree ≡ false)) result
    → Checks db user ranges s result
follows db user ranges s tree d named written h (Ok made) k = comes db user ranges s tree made d named written h k
follows db user ranges s tree d named written h (Err (fault.No number)) k = refused db user ranges s tree number h k
follows db user ranges s tree d named written h (Err (fault.Base cause)) k = tt
follows db user ranges s tree d named written h (Err fault.OutOfMemory) k = tt

-- it has no tree
pub passed_on : (db : Db) (user : List ℕ) (ranges : Ranges) (s : Statement) (cause : CheckFault) → Resolves db user ranges s (Err cause) → Checks db user ranges s (Err cause)
passed_on db user ranges s (fault.No number) h = checked_refused db user ranges s number h
passed_on db user ranges s (fault.Base cause) h = tt
passed_on db user ranges s fault.OutOfMemory h = tt
