-- What is made of a tree, part by part.
use Rattle.std.proofs.Common.{◌≡◌, inl, inr, refl, sym, ap, subst, ℕ, zero, suc, true, false, List, [], ◌∷◌, length, map, Some, Result, Ok, Err, IsErrOf}
use Rattle.std.specs.Prelude.{IfErr, IfOk, IsFalse}
use Rattle.std.specs.declared.option.Option.{Option}
use Rattle.std.proofs.lemmas.List.{length-map}
use Rattle.base_trait.specs.Causes.{MayCome as BaseMayCome}
use Rattle.base_trait.specs.declared.fault.BaseFault.{BaseFault}
use Rattle.base_trait.specs.declared.fault.BaseFault.TheVariants as base
use Rattle.calculus.specs.declared.change.DbChange.{DbChange}
use Rattle.calculus.specs.declared.query.QTerm.{QTerm}
use Rattle.calculus.specs.declared.query.Query.{Query}
use Rattle.calculus.specs.declared.query.Target.{Target}
use Rattle.calculus.specs.declared.reply.Reply.{Reply}
use Rattle.calculus.specs.declared.reply.Reply.TheVariants as reply
use Rattle.calculus.specs.declared.reply.Table.{Table as Printed}
use Rattle.calculus.specs.declared.request.Asked.{Asked}
use Rattle.calculus.specs.declared.request.Checked.{Checked}
use Rattle.calculus.specs.declared.request.Checked.TheVariants as checked
use Rattle.calculus.specs.declared.request.Update.{Update}
use Rattle.calculus.specs.Change.{IsLawful}
use Rattle.calculus.specs.Database.{Db}
use Rattle.calculus.specs.IsDatabase.{IsDatabase}
use Rattle.calculus.specs.QueryParts.{targets_of}
use Rattle.calculus.specs.Replacement.{updated}
use Rattle.calculus.specs.Who.{Unrestricted, asker_of}
use Rattle.message_codec.specs.MessageLaws.{change_by}
use Rattle.net_core.specs.declared.fault.WorkFault.{WorkFault}
use Rattle.net_core.specs.declared.fault.WorkFault.TheVariants as work
use Rattle.quel_meaning.proofs.Each.{Each}
use Rattle.quel_meaning.specs.Copying.{refusal}
use Rattle.quel_meaning.specs.Fit.{is_fit}
use Rattle.quel_meaning.specs.Meaning.{answer_reply, tree_meaning}
use Rattle.quel_meaning.specs.Tables.{column_of, some_query_lacks, table_of}
use Rattle.quel_network.specs.TableFits.{TableStands}
use Rattle.quel_network.specs.TableLaws.{tables_stand as fit_tables_stand}
use Rattle.quel_network.specs.Trees.{IsFitTree, outcome_by, outcome_of_tree, sent_table}
use Rattle.quel_tree.specs.Message.{most_tree_levels}
use Rattle.quel_tree.specs.Queries.{query, target_over, trees}
use Rattle.quel_tree.specs.Relations.{column, columns as columns_codec}
use Rattle.quel_tree.specs.Requests.{asked as asked_codec, checked as checked_codec}
use Rattle.spelling_laws.proofs.Changes.{lawful_spelled}
use Rattle.tree_words.specs.Codec.{Codec}
use Rattle.tree_words.specs.Words.{ItemsFit, list, number16}
use Rattle.stage_proc.specs.Comes.{Answers, CannotBeShown, Comes, ComesTo, HasHead, HeadIsSpelled, IsHanded, IsRefused, IsUnfit, ShowsRefusal, Updates, head_of}
use Rattle.stage_proc.specs.declared.processed.Processed.{Processed}
use Rattle.stage_proc.specs.declared.processed.Processed.TheVariants as processed
use Rattle.stage_proc.specs.declared.stopped.Stopped.{Stopped}
use Rattle.stage_proc.specs.declared.stopped.Stopped.TheVariants.{No, Base, OutOfMemory}
use Rattle.stage_proc.specs.Plans.{Plans}
use Rattle.stage_proc.specs.Sending.{answer_frames, refusal_frames}
use Rattle.stage_proc.specs.Stopping.{HasWorkCause, IsCausedHere, IsFaultOf, IsOfSending, IsRefusing, MayComeHere, StopsBy, of_base}
use Rattle.stage_proc.proofs.Outcomes.{RefusedBy, queries_answered}

-- ---- the heads of a tree that has a spelling have one

items_columns : (term : Codec QTerm) (n : ℕ) (ts : List Target) → ItemsFit (target_over term) n ts → ItemsFit column n (map column_of ts)
unfolding column
items_columns term zero [] h = tt
items_columns term zero (t ∷ ts) h = h
items_columns term (suc n) [] h = h
items_columns term (suc n) (t ∷ ts) h = ((h.0.0, h.0.1.0), items_columns term n ts h.1)

columns_fit : (term : Codec QTerm) (ts : List Target) → (list number16 (target_over term)).Fits ts → columns_codec.Fits (map column_of ts)
unfolding columns_codec list
columns_fit term ts h = subst (λ n. number16.Fits n × ItemsFit column n (map column_of ts)) (sym (length-map ts column_of)) (h.0, items_columns term (length ts) ts h.1)

query_columns : (n : ℕ) (q : Query) → (query n).Fits q → columns_codec.Fits (map column_of (targets_of q))
unfolding trees list
query_columns zero q h = absurd h
query_columns (suc n) q h = columns_fit (trees n).term (targets_of q) h.1.0

asked_spelled : (n : ℕ) (a : Asked) → (asked_codec n).Fits a → HeadIsSpelled a
unfolding asked_codec
asked_spelled n a h = query_columns n a.query h.0

each_item : (n k : ℕ) (xs : List Asked) → ItemsFit (asked_codec n) k xs → Each HeadIsSpelled xs
each_item n zero [] h = tt
each_item n zero (x ∷ xs) h = absurd h
each_item n (suc k) [] h = absurd h
each_item n (suc k) (x ∷ xs) h = (asked_spelled n x h.0, each_item n k xs h.1)

heads_of_answer : (asked : List Asked) → (checked_codec most_tree_levels).Fits (checked.Answer asked) → Each HeadIsSpelled asked
unfolding checked_codec list
heads_of_answer asked h = each_item most_tree_levels (length asked) asked h.1

pub heads_spelled : (tree : Checked) (asked shown : List Asked) → (checked_codec most_tree_levels).Fits tree → tree ≡ checked.Answer asked → shown ≡ asked → Each HeadIsSpelled shown
heads_spelled tree asked shown h is same =
    subst (λ (xs : List Asked). Each HeadIsSpelled xs) (sym same) (heads_of_answer asked (subst (λ (t : Checked). (checked_codec most_tree_levels).Fits t) is h))

-- so have those of the tables
pub heads_have : (ts : List Printed) (asked : List Asked) → map (λ t. t.columns) ts ≡ map head_of asked → Each HeadIsSpelled asked → Each HasHead ts
heads_have [] asked e h = tt
heads_have (t ∷ ts) [] e h = absurd (cc e)
heads_have (t ∷ ts) (a ∷ asked) e h =
    let one : t.columns ≡ head_of a = cc e in
    let later : map (λ t. t.columns) ts ≡ map head_of asked = cc e in
    (subst columns_codec.Fits (sym one) h.0, heads_have ts asked later h.1)

-- ---- queries

-- tables are shown
pub shown_answers : (asked : List Asked) (known : Option Db) (ts : List Printed) (made : Processed) → map (λ t. t.columns) ts ≡ map head_of asked → ((db : Db) → known ≡ Some db → IsFalse (some_query_lacks db Unrestricted asked))
    → ((db : Db) → known ≡ Some db → ts ≡ map (table_of db Unrestricted) asked) → Each TableStands (map sent_table ts) × (made ≡ processed.Shows (answer_frames ts)) → Answers asked known made
shown_answers asked known ts made heads none are (stand, is) =
    subst (λ (m : Processed). Answers asked known m) (sym is) (inl (record {
      tables = ts;
      heads = heads;
      stand = stand;
      are = refl;
      exact = λ db e. queries_answered db asked ts (none db e) (are db e);
    }))

-- a refusal is shown
refused_shows : (cause : Db → ℕ → Type 0) (known : Option Db) (stopped : Stopped) → IsRefusing stopped → ((db : Db) → known ≡ Some db → RefusedBy (cause db) stopped) → (number : ℕ) → stopped ≡ No number
    → ShowsRefusal cause known (refusal_frames number)
refused_shows cause known stopped refusing why number is = record {
  number = number;
  among = subst IsRefusing is refusing;
  are = refl;
  exact = λ db e. subst (RefusedBy (cause db)) is (why db e);
}

pub refused_answers : (asked : List Asked) (known : Option Db) (stopped : Stopped) (made : Processed) → IsRefusing stopped → ((db : Db) → known ≡ Some db → RefusedBy (λ number. answer_reply db Unrestricted asked ≡ reply.Refused (refusal number)) stopped)
    → IsRefused stopped made → Answers asked known made
refused_answers asked known stopped made refusing why (number, is, made_so) =
    subst (λ (m : Processed). Answers asked known m) (sym made_so)
    (inr (refused_shows (λ db number. answer_reply db Unrestricted asked ≡ reply.Refused (refusal number)) known stopped refusing why number is))

by_lacks : (db : Db) (asked : List Asked) → some_query_lacks db Unrestricted asked ≡ false → answer_reply db Unrestricted asked ≡ reply.Tables (map (table_of db Unrestricted) asked)
by_lacks db asked e = queries_answered db asked (map (table_of db Unrestricted) asked) e refl

-- the tables of a fit tree can be shown
pub can_be_shown : (user : List ℕ) (tree : Checked) (known : Option Db) (asked shown : List Asked) → tree ≡ checked.Answer asked → shown ≡ asked → ((db : Db) → known ≡ Some db → CannotBeShown db shown) → IsUnfit user tree known
unfolding outcome_of_tree tree_meaning
can_be_shown user tree known asked shown is same cannot db e fit =
    let c : CannotBeShown db asked = subst (λ (xs : List Asked). CannotBeShown db xs) same (cannot db e) in
    c.1 (fit_tables_stand (asker_of user) (checked.Answer asked) db [] (map sent_table (map (table_of db Unrestricted) asked)) (subst (λ (t : Checked). IsFitTree (asker_of user) t db) is fit)
    (ap (λ (r : Reply). outcome_by db [] r) (by_lacks db asked c.0)))

-- ---- updates

-- a change is handed on
pub handed_updates : (u : Update) (known : Option Db) (c : DbChange) (made : Processed) → ((db : Db) → known ≡ Some db → IsDatabase db) → ((db : Db) → known ≡ Some db → (updated db Unrestricted u ≡ Ok c) × IsLawful db c)
    → IsHanded c made → Updates u known made
handed_updates u known c (processed.Shows frames) database plans h = absurd h
handed_updates u known c (processed.Changes bytes) database plans (sent, fits, are, same) = record {
  sent = sent;
  fits = fits;
  are = change_by sent bytes fits are;
  exact = λ db e.
      let is : sent ≡ c = same (lawful_spelled db c (database db e) (plans db e).1) in
      subst (λ (x : DbChange). (updated db Unrestricted u ≡ Ok x) × IsLawful db x) (sym is) (plans db e);
}
handed_updates u known c processed.HandsOn database plans h = absurd h

pub refused_updates : (u : Update) (known : Option Db) (stopped : Stopped) (made : Processed) → IsRefusing stopped
    → ((db : Db) → known ≡ Some db → Plans {T = DbChange} (λ change. (updated db Unrestricted u ≡ Ok change) × IsLawful db change) (λ number. updated db Unrestricted u ≡ Err number) (Err stopped)) → IsRefused stopped made → Updates u known made
refused_updates u known stopped made refusing why (number, is, made_so) =
    subst (λ (m : Processed). Updates u known m) (sym made_so)
    (refused_shows (λ db number. updated db Unrestricted u ≡ Err number) known stopped refusing (λ db e. by_plans db stopped (why db e)) number is)
  where
    by_plans : (db : Db) (s : Stopped) → Plans {T = DbChange} (λ change. (updated db Unrestricted u ≡ Ok change) × IsLawful db change) (λ number. updated db Unrestricted u ≡ Err number) (Err s) → RefusedBy (λ number. updated db Unrestricted u ≡ Err number) s
    by_plans db (No number) h = h
    by_plans db (Base fault) h = tt
    by_plans db OutOfMemory h = tt

-- ---- causes

pub base_cause : (known : Option Db) (before now : ℕ) (f : BaseFault) → BaseMayCome known before now f → MayComeHere known before now (of_base f)
base_cause known before now base.Disk m = m
base_cause known before now (base.Damaged file page) m = m
base_cause known before now base.OutOfMemory m = m

pub no_base_unlawful : (f : BaseFault) → of_base f ≡ work.Unlawful → ⊥
no_base_unlawful base.Disk e = cc e
no_base_unlawful (base.Damaged file page) e = cc e
no_base_unlawful base.OutOfMemory e = cc e

-- where what was made couldn't be sent
pub sent_cause : {T : Type 0} (known : Option Db) (before now : ℕ) (r : Result T WorkFault) → now ≡ before → IfErr r IsOfSending → IsCausedHere known before now r
sent_cause known before now (Ok x) e h = e
sent_cause known before now (Err f) e (inl is) = subst (λ (x : WorkFault). MayComeHere known before now x) (sym is) e
sent_cause known before now (Err f) e (inr is) = subst (λ (x : WorkFault). MayComeHere known before now x) (sym is) e

fault_cause : (known : Option Db) (before now : ℕ) (stopped : Stopped) (f : WorkFault) → StopsBy known before now stopped → IsFaultOf stopped f → MayComeHere known before now f
fault_cause known before now (No number) f stops is = subst (λ (x : WorkFault). MayComeHere known before now x) (sym is) stops
fault_cause known before now (Base fault) f stops is = subst (λ (x : WorkFault). MayComeHere known before now x) (sym is) (base_cause known before now fault stops)
fault_cause known before now OutOfMemory f stops is = subst (λ (x : WorkFault). MayComeHere known before now x) (sym is) stops

-- where something stopped the tree
pub refused_cause : (known : Option Db) (before now : ℕ) (stopped : Stopped) (r : Result Processed WorkFault) → StopsBy known before now stopped → IfOk r (IsRefused stopped) → IfErr r (IsFaultOf stopped) → IsCausedHere known before now r
refused_cause known before now stopped (Ok made) stops (number, is, made_so) h = subst (λ (s : Stopped). StopsBy known before now s) is stops
refused_cause known before now stopped (Err f) stops p h = fault_cause known before now stopped f stops h

no_fault : (stopped : Stopped) → IsFaultOf stopped work.Unlawful → ⊥
no_fault (No number) e = cc e
no_fault (Base fault) e = no_base_unlawful fault (sym e)
no_fault OutOfMemory e = cc e

pub never_unlawful : (stopped : Stopped) (r : Result Processed WorkFault) → IfErr r (IsFaultOf stopped) → IsErrOf r work.Unlawful → ⊥
never_unlawful stopped (Ok made) h e = cc e
never_unlawful stopped (Err f) h e = let is : f ≡ work.Unlawful = cc e in no_fault stopped (subst (λ (x : WorkFault). IsFaultOf stopped x) is h)

-- one call behind another that answered, by which the database stayed
pub cause_later : {T : Type 0} (known then : Option Db) (before mid now : ℕ) (r : Result T WorkFault) → then ≡ known → mid ≡ before → HasWorkCause {T = T} then mid now r → HasWorkCause {T = T} known before now r
cause_later {T = T} known then before mid now r same counted h =
    subst (λ (o : Option Db). HasWorkCause {T = T} o before now r) same (subst (λ (n : ℕ). HasWorkCause {T = T} then n now r) counted h)

-- ---- whole trees

pub answer_made : (tree : Checked) (asked shown : List Asked) (known : Option Db) (made : Processed) → tree ≡ checked.Answer asked → shown ≡ asked → Answers shown known made → ComesTo tree known made
answer_made tree asked shown known made is same h =
    subst (λ (t : Checked). ComesTo t known made) (sym is) (subst (λ (xs : List Asked). Answers xs known made) same h)

pub update_made : (tree : Checked) (u : Update) (known : Option Db) (made : Processed) → tree ≡ checked.Update u → Updates u known made → ComesTo tree known made
update_made tree u known made is h = subst (λ (t : Checked). ComesTo t known made) (sym is) h

-- what it comes to where the base has stayed
pub comes : (user : List ℕ) (tree : Checked) (known then : Option Db) (made : Processed) → then ≡ known → ((db : Db) → known ≡ Some db → is_fit db user tree ≡ true) → ComesTo tree then made → Comes user tree known made
comes user tree known then made same fit how = record { fit = fit; how = subst (λ (o : Option Db). ComesTo tree o made) same how }

-- the same fault of another call
pub fault_is : {T : Type 0} (f g : WorkFault) → IsErrOf {T = T} (Err f) g → f ≡ g
fault_is f g e = cc e

pub same_fault : {A B : Type 0} (f g : WorkFault) → IsErrOf {T = A} (Err f) g → IsErrOf {T = B} (Err f) g
same_fault f g e = ap (λ (x : WorkFault). Err x) (fault_is f g e)
