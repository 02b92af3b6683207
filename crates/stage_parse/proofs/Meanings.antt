-- What comes of a statement, by what was found and checked.
use Rattle.std.proofs.Common.{IfOk, ◌≡◌, ℕ, Bool, true, false, List, [], Option, Some, None, Result, Ok, Err, refl, sym, ap, subst, ◌∙◌}
use Rattle.calculus.specs.declared.request.Checked.{Checked}
use Rattle.calculus.specs.declared.schema.RelInfo.{RelInfo}
use Rattle.calculus.specs.declared.statement.Statement.{Statement}
use Rattle.calculus.specs.declared.statement.Statement.TheVariants.{Range}
use Rattle.calculus.specs.Database.{Db}
use Rattle.calculus.specs.Finding.{found}
use Rattle.calculus.specs.IsDatabase.{IsDatabase}
use Rattle.calculus.specs.Name.{is_name}
use Rattle.calculus.specs.Who.{Asker, AsUser, asker_of, as_user}
use Rattle.fault_io.specs.Files.{Files}
use Rattle.frame_codec.specs.declared.message.Message.{Message}
use Rattle.message_codec.specs.MessageLaws.{tree_by}
use Rattle.network_meaning.specs.Sorts.{Meaning.names, Meaning.objects, Meaning.runs}
use Rattle.quel_grammar.specs.NextReader.{next_at}
use Rattle.quel_grammar.proofs.Answered.{reads}
use Rattle.quel_meaning.specs.Copying.{refusal}
use Rattle.quel_meaning.specs.IsWritten.{is_written}
use Rattle.quel_meaning.specs.Meaning.{Effect, checked_permitted, checked_tree, checked_tree_by, is_range, permitted_tree, tree_if_permitted}
use Rattle.quel_meaning.specs.Ranges.{Ranges, declared}
use Rattle.quel_meaning.specs.Resolved.{resolved}
use Rattle.quel_network.specs.Spelling.{is_refusal_number}
use Rattle.quel_network.specs.TreeRefusals.{objection_has}
use Rattle.quel_network.specs.Trees.{checked_meaning, meaning_of, outcome_of_effect, outcome_of_tree, range_meaning}
use Rattle.quel_tree.specs.Message.{most_tree_levels}
use Rattle.quel_tree.specs.Requests.{checked as checked_codec}
use Rattle.reading_laws.proofs.Statements.{computed_written}
use Rattle.spelling_laws.proofs.Read.{grammatical_put_in}
use Rattle.stage_parse.specs.declared.judged.Judged.{Judged}
use Rattle.stage_parse.specs.declared.judged.Judged.TheVariants as judged
use Rattle.utility_trees.specs.declared.fault.CheckFault.{CheckFault}
use Rattle.utility_trees.specs.declared.fault.CheckFault.TheVariants as fault
use Rattle.stage_parse.specs.Checks.{Checks, IsChecked}
use Rattle.stage_parse.specs.Judging.{IsDeclared, IsRefusal, IsRefused, IsTree, Judges, KeepsRanges, RefusesIt, SendsTree, WasRead}

-- what is read is written
pub was_written : (s : Statement) → WasRead s → is_written s ≡ true
was_written s w = computed_written w.text w.from s w.end w.is

-- ---- what is sent

pub refusal_shaped : (number line : ℕ) (m : Message) → IsRefused number line m → IsRefusal line m
refusal_shaped number line m h = record { refusal = record { code = number; line = line; row = 0 }; spells = h }

pub tree_shaped : (t : Checked) (bytes : List ℕ) → (checked_codec most_tree_levels).Fits t → bytes ≡ (checked_codec most_tree_levels).write t → IsTree (record { kind = 2; bytes = bytes })
tree_shaped t bytes fits e = record { asked = t; spells = tree_by t bytes fits e }

pub tree_sent : (t sent : Checked) (bytes : List ℕ) → (checked_codec most_tree_levels).Fits sent → bytes ≡ (checked_codec most_tree_levels).write sent → sent ≡ t → SendsTree t (judged.Asks (record { kind = 2; bytes = bytes }))
tree_sent t sent bytes fits e same = subst (λ (x : Checked). SendsTree x (judged.Asks (record { kind = 2; bytes = bytes }))) same (tree_by sent bytes fits e)

-- ---- a declaration

pub declares_some : (ranges ranges' : Ranges) (var : List ℕ) (o : Option RelInfo) (info : RelInfo) (line : ℕ) → Some info ≡ o → ranges' ≡ declared ranges var info.key → IsDeclared ranges var o line ranges' judged.Declared
declares_some ranges ranges' var o info line e h = subst (λ (x : Option RelInfo). IsDeclared ranges var x line ranges' judged.Declared) e h

pub declares_none : (ranges ranges' : Ranges) (var : List ℕ) (o : Option RelInfo) (line : ℕ) (m : Message) → None ≡ o → IsRefused 10 line m → IsDeclared ranges var o line ranges' (judged.Refused m)
declares_none ranges ranges' var o line m e h = subst (λ (x : Option RelInfo). IsDeclared ranges var x line ranges' (judged.Refused m)) e h

range_is : (db : Db) (user : List ℕ) (shelf : Files) (ranges : Ranges) (var rel : List ℕ) → meaning_of (asker_of user) db shelf ranges (Range var rel) ≡ range_meaning ranges var (found db user rel)
unfolding meaning_of
range_is db user shelf ranges var rel = refl

module _ (db : Db) (user : List ℕ) (ranges ranges' : Ranges) (s : Statement) (line : ℕ) where
  -- it means that
  pub declared_means : (var rel : List ℕ) → s ≡ Range var rel → (j : Judged) → IsDeclared ranges var (found db user rel) line ranges' j → Judges db user ranges s line ranges' j
  declared_means var rel is j h = go (found db user rel) refl j h
    where
      means : (o : Option RelInfo) → found db user rel ≡ o → (shelf : Files) → meaning_of (asker_of user) db shelf ranges s ≡ range_meaning ranges var o
      means o e shelf = ap (λ (x : Statement). meaning_of (asker_of user) db shelf ranges x) is ∙ range_is db user shelf ranges var rel ∙ ap (λ (x : Option RelInfo). range_meaning ranges var x) e

      go : (o : Option RelInfo) → found db user rel ≡ o → (j : Judged) → IsDeclared ranges var o line ranges' j → Judges db user ranges s line ranges' j
      go (Some info) e judged.Declared h = λ shelf. means (Some info) e shelf ∙ ap (λ (x : Ranges). names x) (sym h)
      go (Some info) e (judged.Refused m) h = absurd h
      go (Some info) e (judged.Asks m) h = absurd h
      go None e judged.Declared h = absurd h
      go None e (judged.Refused m) h = record { refusal = refusal 10; spells = h; means = means None e }
      go None e (judged.Asks m) h = absurd h

-- ---- any other statement

other_is : (db : Db) (user : List ℕ) (shelf : Files) (ranges : Ranges) (s : Statement) → is_range s ≡ false → meaning_of (asker_of user) db shelf ranges s ≡ checked_meaning (asker_of user) db shelf (checked_tree db (asker_of user) ranges s)
unfolding meaning_of
other_is db user shelf ranges (Range var rel) h = absurd (cc h)
other_is db user shelf ranges s h = refl

resolved_as : (db : Db) (asker : Asker) (r : Result Checked ℕ) (asked : Checked) → tree_if_permitted db asker r ≡ Ok asked → r ≡ Ok asked
resolved_as db asker (Err number) asked e = absurd (cc e)
resolved_as db asker (Ok t) asked e = go (checked_permitted db (AsUser asker) t) e
  where
    go : (b : Bool) → permitted_tree b t ≡ Ok asked → ◌≡◌ {A = Result Checked ℕ} (Ok t) (Ok asked)
    go true e = e
    go false e = absurd (cc e)

was_resolved : (db : Db) (user : List ℕ) (ranges : Ranges) (s : Statement) (asked : Checked) → checked_tree db (asker_of user) ranges s ≡ Ok asked → resolved db user ranges s ≡ Ok asked
unfolding checked_tree_by
was_resolved db user ranges s asked e = resolved_as db (asker_of user) (resolved db user ranges s) asked e

module _ (db : Db) (user : List ℕ) (ranges : Ranges) (s : Statement) (t : Checked) (c : IsChecked db user ranges s t) where
  -- its tree has a spelling, as it was read of a text
  tree_fits : IsDatabase db → is_name user ≡ true → WasRead s → (checked_codec most_tree_levels).Fits t
  tree_fits is named w =
      subst (λ (x : Checked). (checked_codec most_tree_levels).Fits x) (sym c.expanded)
      (grammatical_put_in next_at reads db is user named ranges w.text w.from s w.end w.is c.asked (was_resolved db user ranges s c.asked c.checked_tree) (as_user user))

  -- it comes to what the statement means
  tree_means : is_range s ≡ false → (shelf : Files) → meaning_of (asker_of user) db shelf ranges s ≡ runs (outcome_of_tree (asker_of user) t db shelf)
  unfolding outcome_of_tree
  tree_means other shelf =
      other_is db user shelf ranges s other ∙ ap (λ (r : Result Checked ℕ). checked_meaning (asker_of user) db shelf r) c.checked_tree
      ∙ ap (λ (e : Effect). runs (outcome_of_effect e)) (sym (c.means shelf))

  asks_it : IsDatabase db → is_name user ≡ true → WasRead s → is_range s ≡ false → (line : ℕ) (j : Judged) → ((checked_codec most_tree_levels).Fits t → SendsTree t j) → Judges db user ranges s line ranges j
  asks_it is named w other line judged.Declared sends = absurd (sends (tree_fits is named w))
  asks_it is named w other line (judged.Refused m) sends = absurd (sends (tree_fits is named w))
  asks_it is named w other line (judged.Asks m) sends = record {
    asked = t;
    spells = sends (tree_fits is named w);
    fit = record { fit = c.fit; spelled = tree_fits is named w; database = is };
    means = tree_means other;
  }

-- a tree that was handed on is the statement's
pub sent_means : (db : Db) (user : List ℕ) (ranges : Ranges) (s : Statement) (line : ℕ) (t : Checked) (j : Judged) → IsDatabase db → is_name user ≡ true → WasRead s → is_range s ≡ false → IsChecked db user ranges s t
    → ((checked_codec most_tree_levels).Fits t → SendsTree t j) → Judges db user ranges s line ranges j
sent_means db user ranges s line t j is named w other c sends = asks_it db user ranges s t c is named w other line j sends

module _ (db : Db) (user : List ℕ) (ranges : Ranges) (s : Statement) (number : ℕ) (other : is_range s ≡ false) (e : checked_tree db (asker_of user) ranges s ≡ Err number) where
  refusal_means : (shelf : Files) → meaning_of (asker_of user) db shelf ranges s ≡ objects (refusal number)
  refusal_means shelf = other_is db user shelf ranges s other ∙ ap (λ (r : Result Checked ℕ). checked_meaning (asker_of user) db shelf r) e

  -- a refusal that was sent is the statement's
  pub refused_means : (line : ℕ) (m : Message) → (is_refusal_number number ≡ true → IsRefused number line m) → RefusesIt db user ranges s line m
  refused_means line m sends = record {
    refusal = refusal number;
    spells = sends (objection_has (asker_of user) db [] ranges s (refusal number) (refusal_means [])).known;
    means = refusal_means;
  }

-- the number of a cause that is one
pub number_of : (db : Db) (user : List ℕ) (ranges : Ranges) (s : Statement) (number : ℕ) (cause : CheckFault) → cause ≡ fault.No number → Checks db user ranges s (Err cause) → checked_tree db (asker_of user) ranges s ≡ Err number
number_of db user ranges s number cause e h = subst (λ (x : CheckFault). Checks db user ranges s (Err x)) e h

-- what holds of what comes, where it follows from what is said of it
pub if_ok_to : {T E : Type 0} (r : Result T E) {P Q : T → Type 0} → ((x : T) → P x → Q x) → IfOk r P → IfOk r Q
if_ok_to (Ok x) f h = f x h
if_ok_to (Err e) f h = tt

-- without a declaration the range variables stay
pub keeps_any : {E : Type 0} (ranges : Ranges) (r : Result Judged E) → IfOk r (KeepsRanges ranges ranges)
keeps_any ranges (Ok judged.Declared) = tt
keeps_any ranges (Ok (judged.Refused m)) = refl
keeps_any ranges (Ok (judged.Asks m)) = refl
keeps_any ranges (Err e) = tt
