-- What is known of a tree by what it is.
use Rattle.std.proofs.Common.{◌≡◌, sym, ap, ◌∙◌, subst, ℕ, true, false, List, map, Result, Ok, Err, IfOk, Contains}
use Rattle.std.specs.List.{list_all}
use Rattle.calculus.specs.declared.request.Asked.{Asked}
use Rattle.calculus.specs.declared.request.Checked.{Checked}
use Rattle.calculus.specs.declared.request.Checked.TheVariants as checked
use Rattle.calculus.specs.declared.request.Update.{Update}
use Rattle.calculus.specs.declared.request.Utility.{Utility}
use Rattle.calculus.specs.Who.{Who, Unrestricted, as_user}
use Rattle.calculus.specs.Database.{Db}
use Rattle.calculus.specs.IsDatabase.{IsDatabase}
use Rattle.calculus.specs.Permission.{query_permitted, update_permitted}
use Rattle.quel_meaning.specs.Fit.{is_fit_with_views}
use Rattle.quel_meaning.specs.Meaning.{checked_permitted, tree_meaning}
use Rattle.fault_io.specs.Files.{Files}
use Rattle.tree_laws.proofs.Means.{means_same}
use Rattle.view_text.specs.Expanded.{expanded_asked, expanded_update, expanded_tree}
use Rattle.cut_rules.specs.Refused.{IsRefusedIn, IsRefusedOf, IsRefusedBy}

pub answer_put : (db : Db) (who : Who) (tree : Checked) (asked : List Asked) → tree ≡ checked.Answer asked → checked.Answer (map (expanded_asked db who) asked) ≡ expanded_tree db who tree
unfolding expanded_tree
answer_put db who tree asked t = sym (ap (expanded_tree db who) t)

pub update_put : (db : Db) (who : Who) (tree : Checked) (u made : Update) → tree ≡ checked.Update u → made ≡ expanded_update db who u → checked.Update made ≡ expanded_tree db who tree
unfolding expanded_tree
update_put db who tree u made t e = ap checked.Update e ∙ sym (ap (expanded_tree db who) t)

pub utility_put : (db : Db) (who : Who) (tree : Checked) (work made : Utility) → tree ≡ checked.Utility work → made ≡ work → checked.Utility made ≡ expanded_tree db who tree
unfolding expanded_tree
utility_put db who tree work made t e = ap checked.Utility e ∙ sym (ap (expanded_tree db who) t)

pub answer_permitted : (db : Db) (who : Who) (tree : Checked) (asked : List Asked) → tree ≡ checked.Answer asked → list_all (λ a. query_permitted db who a.query) asked ≡ checked_permitted db who tree
unfolding checked_permitted
answer_permitted db who tree asked t = sym (ap (checked_permitted db who) t)

pub change_permitted_is : (db : Db) (who : Who) (tree : Checked) (u : Update) → tree ≡ checked.Update u → update_permitted db who u ≡ checked_permitted db who tree
unfolding checked_permitted
change_permitted_is db who tree u t = sym (ap (checked_permitted db who) t)

pub utility_permitted : (db : Db) (who : Who) (tree : Checked) (work : Utility) → tree ≡ checked.Utility work → checked_permitted db who tree ≡ true
unfolding checked_permitted
utility_permitted db who tree work t = ap (checked_permitted db who) t

pub answer_refused : (db : Db) (who : Who) (tree : Checked) (asked : List Asked) (var : ℕ) → tree ≡ checked.Answer asked
    → (list_all (λ a. query_permitted db who a.query) asked ≡ false) × ((a : Asked) × (Contains asked a) × IsRefusedIn db who a.query var) → (checked_permitted db who tree ≡ false) × IsRefusedBy db who tree var
answer_refused db who tree asked var t r = (sym (answer_permitted db who tree asked t) ∙ r.0, subst (λ t. IsRefusedBy db who t var) (sym t) r.1)

pub update_refused : (db : Db) (who : Who) (tree : Checked) (u : Update) (var : ℕ) → tree ≡ checked.Update u
    → (update_permitted db who u ≡ false) × IsRefusedOf db who u var → (checked_permitted db who tree ≡ false) × IsRefusedBy db who tree var
update_refused db who tree u var t r = (sym (change_permitted_is db who tree u t) ∙ r.0, subst (λ t. IsRefusedBy db who t var) (sym t) r.1)

pub put_means : (db : Db) → IsDatabase db → (shelf : Files) (user : List ℕ) (tree : Checked) → is_fit_with_views db user tree ≡ true → {E : Type 0} → (result : Result Checked E)
    → IfOk result (λ made. made ≡ expanded_tree db (as_user user) tree) → IfOk result (λ made. tree_meaning db shelf Unrestricted user made ≡ tree_meaning db shelf (as_user user) user tree)
put_means db d shelf user tree fit (Ok made) e = ap (tree_meaning db shelf Unrestricted user) e ∙ sym (means_same db d (as_user user) shelf user tree fit)
put_means db d shelf user tree fit (Err error) e = e
