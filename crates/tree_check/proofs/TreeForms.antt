-- The test of a tree is that of its kind.
use Rattle.std.proofs.Common.{◌≡◌, refl, sym, ap, ℕ, Bool, true, false, ◌&&◌, IsTrue, List}
use Rattle.std.specs.List.{list_all}
use Rattle.calculus.specs.declared.request.Asked.{Asked}
use Rattle.calculus.specs.declared.request.Checked.{Checked}
use Rattle.calculus.specs.declared.request.Checked.TheVariants as checked
use Rattle.calculus.specs.declared.request.Update.{Update}
use Rattle.calculus.specs.declared.request.Utility.{Utility}
use Rattle.calculus.specs.declared.request.Utility.TheVariants as utility
use Rattle.calculus.specs.Database.{Db}
use Rattle.calculus.specs.IsDatabase.{user_is_named}
use Rattle.calculus.specs.Rights.{are_rights}
use Rattle.calculus.specs.Spelled.{qual_is_spelled}
use Rattle.quel_meaning.specs.Fit.{is_fit, fits, suits, update_fits, utility_fits}
use Rattle.quel_meaning.specs.FitQueries.{asked_fits, kept_alone}
use Rattle.quel_meaning.specs.SpelledTree.{tree_is_spelled, utility_is_spelled}
use Rattle.update_laws.specs.Walked.{names_rights}

pub of_answer : (db : Db) (user : List ℕ) (tree : Checked) (asked : List Asked) → tree ≡ checked.Answer asked
    → list_all (asked_fits (kept_alone db) db) asked ≡ suits (kept_alone db) db user tree
unfolding suits
of_answer db user tree asked e = sym (ap (suits (kept_alone db) db user) e)

pub of_update : (db : Db) (user : List ℕ) (tree : Checked) (u : Update) → tree ≡ checked.Update u → update_fits (kept_alone db) db u ≡ suits (kept_alone db) db user tree
unfolding suits
of_update db user tree u e = sym (ap (suits (kept_alone db) db user) e)

pub of_utility : (db : Db) (user : List ℕ) (tree : Checked) (work : Utility) → tree ≡ checked.Utility work → utility_fits db user work ≡ suits (kept_alone db) db user tree
unfolding suits
of_utility db user tree work e = sym (ap (suits (kept_alone db) db user) e)

-- a tree whose constants and names are those of their types is fit where it suits
pub spelled : (db : Db) (user : List ℕ) (tree : Checked) → IsTrue (tree_is_spelled tree) → suits (kept_alone db) db user tree ≡ is_fit db user tree
unfolding fits
spelled db user tree h = sym (ap (λ b. b && suits (kept_alone db) db user tree) h)

-- a permit of what are no rights isn't
pub unspelled : (tree : Checked) → names_rights tree ≡ false → tree_is_spelled tree ≡ false
unfolding tree_is_spelled utility_is_spelled
unspelled (checked.Utility (utility.Permit rel permit)) h = go (user_is_named permit.user) (are_rights permit.ops) h
  where
    go : (a b : Bool) → b ≡ false → (a && (b && qual_is_spelled permit.qual)) ≡ false
    go true true k = absurd (cc k)
    go true false k = refl
    go false b k = refl
unspelled (checked.Utility (utility.Create rel attrs)) h = absurd (cc h)
unspelled (checked.Utility (utility.Destroy rels)) h = absurd (cc h)
unspelled (checked.Utility (utility.Modify rel to keys)) h = absurd (cc h)
unspelled (checked.Utility (utility.Index base name keys)) h = absurd (cc h)
unspelled (checked.Utility (utility.Copy rel columns from file)) h = absurd (cc h)
unspelled (checked.Utility (utility.View rel query)) h = absurd (cc h)
unspelled (checked.Utility (utility.Rule rel rule)) h = absurd (cc h)
unspelled (checked.Utility (utility.DropPermits rel numbers)) h = absurd (cc h)
unspelled (checked.Utility (utility.DropRules rel numbers)) h = absurd (cc h)
unspelled (checked.Answer asked) h = absurd (cc h)
unspelled (checked.Update u) h = absurd (cc h)

pub unfit : (db : Db) (user : List ℕ) (tree : Checked) → names_rights tree ≡ false → false ≡ is_fit db user tree
unfolding fits
unfit db user tree h = sym (ap (λ b. b && suits (kept_alone db) db user tree) (unspelled tree h))
