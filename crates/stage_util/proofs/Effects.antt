-- What the utilities do, by what is planned or copied.
use Rattle.std.proofs.Common.{◌≡◌, refl, ap, ◌∙◌, ℕ, true, false, List, Ok, Err}
use Rattle.calculus.specs.declared.change.DbChange.{DbChange}
use Rattle.calculus.specs.declared.reply.Refusal.{Refusal}
use Rattle.calculus.specs.declared.reply.Reply.TheVariants as reply
use Rattle.calculus.specs.declared.request.Checked.TheVariants as checked
use Rattle.calculus.specs.declared.request.Utility.{Utility}
use Rattle.calculus.specs.declared.request.Utility.TheVariants as utility
use Rattle.calculus.specs.Change.{laid}
use Rattle.calculus.specs.Database.{Db}
use Rattle.calculus.specs.IsDatabase.{IsDatabase}
use Rattle.calculus.specs.Who.{asker_of}
use Rattle.copy_util.specs.Copies.{IsCopy}
use Rattle.fault_io.specs.Files.{Files, stored}
use Rattle.network_meaning.specs.LocalSteps.{outcome_of}
use Rattle.network_meaning.specs.Sorts.{Cargo, Cargo.change, Cargo.tree}
use Rattle.plan_laws.specs.Fitting.{is_copy}
use Rattle.quel_meaning.specs.Copying.{copied_from, copied_into, file_of_constant, refusal}
use Rattle.quel_meaning.specs.Meaning.{Effect, change_effect, file_effect, numbered_effect, tree_meaning, utility_effect}
use Rattle.quel_meaning.specs.Planned.{planned}
use Rattle.quel_network.specs.Quel.{quel}
use Rattle.quel_network.specs.Sorts.{User, quel_sorts}
use Rattle.quel_network.specs.Spelling.{is_refusal_number}
use Rattle.quel_network.specs.TreeRefusals.{outcome_has}
use Rattle.quel_network.specs.Trees.{outcome_of_effect, outcome_of_tree}
use Rattle.stage_util.specs.Working.{effect}

-- work of the utilities, as what a stage carries out
abbrev pub work_of : Utility → Cargo quel_sorts
work_of work = tree (checked.Utility work)

-- nothing was changed, and this refused it
abbrev pub refused_by : Db → Files → Refusal → Effect
refused_by db files r = record { db = db; shelf = files; reply = reply.Refused r }

-- this change was laid
abbrev pub changed_by : Db → Files → DbChange → Effect
changed_by db files c = record { db = laid db c; shelf = files; reply = reply.Done }

effect_is : (user : List ℕ) (work : Utility) (db : Db) (files : Files) → effect user (work_of work) db files ≡ utility_effect db files user work
unfolding tree_meaning
effect_is user work db files = refl

plan_effect : (db : Db) (files : Files) (user : List ℕ) (work : Utility) → is_copy work ≡ false → utility_effect db files user work ≡ numbered_effect db files (planned db user work)
unfolding utility_effect
plan_effect db files user (utility.Copy rel columns from file) h = absurd (cc h)
plan_effect db files user work h = refl

-- ---- plans

pub planned_effect : (user : List ℕ) (work : Utility) (db : Db) (files : Files) (change : DbChange) → is_copy work ≡ false → planned db user work ≡ Ok change → effect user (work_of work) db files ≡ changed_by db files change
planned_effect user work db files c none e = effect_is user work db files ∙ plan_effect db files user work none ∙ ap (numbered_effect db files) e

pub unplanned_effect : (user : List ℕ) (work : Utility) (db : Db) (files : Files) (number : ℕ) → is_copy work ≡ false → planned db user work ≡ Err number → effect user (work_of work) db files ≡ refused_by db files (refusal number)
unplanned_effect user work db files number none e = effect_is user work db files ∙ plan_effect db files user work none ∙ ap (numbered_effect db files) e

-- ---- copies

module _ (user : List ℕ) (work : Utility) (db : Db) (files : Files) where
  from_effect : (c : IsCopy work true) → utility_effect db files user work ≡ change_effect db files (copied_from db files user c.rel c.columns c.constant)
  unfolding utility_effect
  from_effect c = ap (utility_effect db files user) c.is

  pub from_done : (c : IsCopy work true) (change : DbChange) → copied_from db files user c.rel c.columns c.constant ≡ Ok change → effect user (work_of work) db files ≡ changed_by db files change
  from_done c laying e = effect_is user work db files ∙ from_effect c ∙ ap (change_effect db files) e

  pub from_refused : (c : IsCopy work true) (r : Refusal) → copied_from db files user c.rel c.columns c.constant ≡ Err r → effect user (work_of work) db files ≡ refused_by db files r
  from_refused c r e = effect_is user work db files ∙ from_effect c ∙ ap (change_effect db files) e

  into_effect : (c : IsCopy work false) → utility_effect db files user work ≡ file_effect db files (file_of_constant c.constant) (copied_into db user c.rel c.columns)
  unfolding utility_effect
  into_effect c = ap (utility_effect db files user) c.is

  pub into_done : (c : IsCopy work false) (bytes : List ℕ) → copied_into db user c.rel c.columns ≡ Ok bytes
      → effect user (work_of work) db files ≡ record { db = db; shelf = stored files (file_of_constant c.constant) bytes; reply = reply.Done }
  into_done c bytes e = effect_is user work db files ∙ into_effect c ∙ ap (file_effect db files (file_of_constant c.constant)) e

  pub into_refused : (c : IsCopy work false) (r : Refusal) → copied_into db user c.rel c.columns ≡ Err r → effect user (work_of work) db files ≡ refused_by db files r
  into_refused c r e = effect_is user work db files ∙ into_effect c ∙ ap (file_effect db files (file_of_constant c.constant)) e

-- ---- as the network has it

pub outcome_is : (user : User) (x : Cargo quel_sorts) (db : Db) (files : Files) → outcome_of (quel user) x db files ≡ outcome_of_effect (effect user.asker.user x db files)
unfolding quel outcome_of_tree
outcome_is user (tree t) db files = refl
outcome_is user (change c) db files = refl

-- what refuses work of the utilities has a number that refusals have
pub number_known : (user : List ℕ) (work : Utility) (db : Db) (files : Files) (r : Refusal) → IsDatabase db → effect user (work_of work) db files ≡ refused_by db files r → is_refusal_number r.code ≡ true
unfolding outcome_of_tree
number_known user work db files r is e = (outcome_has (asker_of user) (checked.Utility work) db files r is (ap outcome_of_effect e)).known
