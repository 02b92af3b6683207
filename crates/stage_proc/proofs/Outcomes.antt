-- What refuses an update and queries, cause by cause.
use Rattle.std.proofs.Common.{◌≡◌, refl, sym, ◌∙◌, ap, subst, ℕ, ◌≤◌, map, ◌<◌, nat_lt, Bool, true, false, not, List, [], ◌∷◌, length, IsTrue, IsFalse, Some, None, Result, Ok, Err}
use Rattle.std.specs.Prelude.{IfErr, IsErr, IsErrAnd}
use Rattle.std.specs.declared.option.Option.{Option}
use Rattle.std.proofs.lemmas.Bool.{lt-ltb, le-ltb}
use Rattle.calculus.specs.declared.change.DbChange.{DbChange}
use Rattle.calculus.specs.declared.change.Pair.{Pair}
use Rattle.calculus.specs.declared.request.Asked.{Asked}
use Rattle.calculus.specs.declared.request.Update.{Update}
use Rattle.calculus.specs.declared.reply.Reply.TheVariants.{Refused, Tables}
use Rattle.calculus.specs.declared.reply.Table.{Table as Printed}
use Rattle.calculus.specs.Database.{Db}
use Rattle.calculus.specs.Limits.{most_rows}
use Rattle.calculus.specs.Pairs.{pairs}
use Rattle.calculus.specs.Replacement.{after, contended, change_of, first_refusal, update_lacks, values_fit, rows_after, updated}
use Rattle.calculus.specs.Stored.{rows_at}
use Rattle.calculus.specs.Who.{Who, Unrestricted}
use Rattle.ovqp.specs.declared.fault.QueryFault.{QueryFault}
use Rattle.ovqp.specs.declared.fault.QueryFault.TheVariants as query
use Rattle.quel_meaning.specs.Copying.{refusal}
use Rattle.quel_meaning.specs.Meaning.{answer_reply}
use Rattle.quel_meaning.specs.Tables.{table_of, some_query_lacks}
use Rattle.stage_proc.specs.Causes as pairing
use Rattle.stage_proc.specs.TableCauses as asking
use Rattle.stage_proc.specs.declared.fault.PairFault.{PairFault}
use Rattle.stage_proc.specs.declared.fault.PairFault.TheVariants as pair
use Rattle.stage_proc.specs.declared.stopped.Stopped.{Stopped}
use Rattle.stage_proc.specs.declared.stopped.Stopped.TheVariants.{No, Base, OutOfMemory}
use Rattle.stage_proc.specs.Plans.{ArePairs, Plans}
use Rattle.stage_proc.specs.Stopping.{HasStopCause, IsRefusing, StopsBy, change_stop, pair_stop, query_stop}
use Rattle.update_change.specs.Causes as changing
use Rattle.update_change.specs.Changes.{MakesNew}
use Rattle.update_change.specs.declared.fault.UpdateFault.{UpdateFault}
use Rattle.update_change.specs.declared.fault.UpdateFault.TheVariants as change

-- ---- updates

-- the outcome of an update of which these causes are there
update_outcome : Bool → Bool → Bool → Bool → DbChange → Result DbChange ℕ
update_outcome lacks fit contends many made =
    elim (first_refusal ((20, lacks) ∷ (21, not fit) ∷ (22, contends) ∷ (29, many) ∷ [])) [ None ↦ Ok made | Some number ↦ Err number ]

updated_is : (db : Db) (who : Who) (u : Update)
    → updated db who u ≡ update_outcome (update_lacks db who u) (values_fit db who u) (contended (pairs db who u)) (nat_lt most_rows (length (rows_after db who u))) (change_of db who u)
unfolding updated update_outcome
updated_is db who u = refl

outcome_at : (db : Db) (u : Update) (l f c m : Bool) → update_lacks db Unrestricted u ≡ l → values_fit db Unrestricted u ≡ f → contended (pairs db Unrestricted u) ≡ c
    → nat_lt most_rows (length (rows_after db Unrestricted u)) ≡ m → updated db Unrestricted u ≡ update_outcome l f c m (change_of db Unrestricted u)
outcome_at db u l f c m a b d e = updated_is db Unrestricted u ∙ (λ i. update_outcome (a i) (b i) (d i) (e i) (change_of db Unrestricted u))

lacking_refused : (db : Db) (u : Update) → IsTrue (update_lacks db Unrestricted u) → updated db Unrestricted u ≡ Err 20
unfolding update_outcome
lacking_refused db u h = outcome_at db u true _ _ _ h refl refl refl

unfit_refused : (db : Db) (u : Update) → IsFalse (update_lacks db Unrestricted u) → IsFalse (values_fit db Unrestricted u) → updated db Unrestricted u ≡ Err 21
unfolding update_outcome
unfit_refused db u l h = outcome_at db u false false _ _ l h refl refl

many_rows : (n : ℕ) → most_rows < n → nat_lt most_rows n ≡ true
many_rows n h = lt-ltb most_rows n h

few_rows : (n : ℕ) → n ≤ most_rows → nat_lt most_rows n ≡ false
few_rows n h = le-ltb most_rows n h

module _ (db : Db) (u : Update) (ps : List Pair) (are : ArePairs db u ps) where
  contended_refused : IsTrue (contended ps) → updated db Unrestricted u ≡ Err 22
  unfolding update_outcome
  contended_refused h = outcome_at db u false true true _ are.values are.fit (ap contended (sym are.are) ∙ h) refl

  many_refused : IsFalse (contended ps) → most_rows < length (after (rows_at db u.rel) ps) → updated db Unrestricted u ≡ Err 29
  unfolding update_outcome
  many_refused h many =
      outcome_at db u false true false true are.values are.fit (ap contended (sym are.are) ∙ h)
      (ap (λ ps. nat_lt most_rows (length (after (rows_at db u.rel) ps))) (sym are.are) ∙ many_rows _ many)

  pub changed : IsFalse (contended ps) → length (after (rows_at db u.rel) ps) ≤ most_rows → (made : DbChange) → made ≡ change_of db Unrestricted u → updated db Unrestricted u ≡ Ok made
  unfolding update_outcome
  changed h few made is =
      outcome_at db u false true false false are.values are.fit (ap contended (sym are.are) ∙ h)
      (ap (λ ps. nat_lt most_rows (length (after (rows_at db u.rel) ps))) (sym are.are) ∙ few_rows _ few)
      ∙ ap Ok (sym is)

-- ---- faults

-- this of the number that refuses
abbrev pub RefusedBy : (ℕ → Type 0) → Stopped → Type 0
RefusedBy refused (No number) = refused number
RefusedBy refused (Base fault) = Unit {0}
RefusedBy refused OutOfMemory = Unit {0}

-- where nothing is made, what is said of the number says all
pub refused_by : {T : Type 0} {Q : Stopped → Type 0} (made : T → Type 0) (refused : ℕ → Type 0) (r : Result T Stopped) → IsErr r × IsErrAnd r Q → ((s : Stopped) → Q s → RefusedBy refused s)
    → Plans made refused r
refused_by made refused (Ok x) h f = absurd (cc h.0)
refused_by made refused (Err (No number)) h f = f (No number) h.1
refused_by made refused (Err (Base fault)) h f = tt
refused_by made refused (Err OutOfMemory) h f = tt

-- what refuses the change of an update
pub change_stops : (db : Db) (u : Update) (ps : List Pair) (known : Option Db) (before now : ℕ) (fault : UpdateFault)
    → known ≡ Some db → MakesNew db u → ArePairs db u ps → changing.MayFail u ps known before now fault → RefusedBy (λ number. updated db Unrestricted u ≡ Err number) (change_stop fault)
change_stops db u ps known before now (change.Contended old first second) e new are may = contended_refused db u ps are may.1
change_stops db u ps known before now (change.TooMany count) e new are may =
    let many = may.2 db e new in many_refused db u ps are may.1 (subst (λ n. most_rows < n) many.0 many.1)
change_stops db u ps known before now (change.Base fault) e new are may = tt
change_stops db u ps known before now change.OutOfMemory e new are may = tt

-- what refuses its pairs
pub pair_stops : (db : Db) (u : Update) (known : Option Db) (before now : ℕ) (fault : PairFault)
    → known ≡ Some db → pairing.MayFailIn u known before now fault → RefusedBy (λ number. updated db Unrestricted u ≡ Err number) (pair_stop fault)
pair_stops db u known before now (pair.NotFit row) e may = let unfit = may.1 db e in unfit_refused db u unfit.none_lacks unfit.unfit
pair_stops db u known before now (pair.Query (query.NoValue at)) e may = lacking_refused db u (may.1 db e).somewhere
pair_stops db u known before now (pair.Query (query.Base fault)) e may = tt
pair_stops db u known before now (pair.Query query.OutOfMemory) e may = tt
pair_stops db u known before now pair.OutOfMemory e may = tt

queries_lack : (db : Db) (asked : List Asked) → IsTrue (some_query_lacks db Unrestricted asked) → answer_reply db Unrestricted asked ≡ Refused (refusal 20)
queries_lack db asked h = ap (λ b. elim b [ true ↦ Refused (refusal 20) | false ↦ Tables (map (table_of db Unrestricted) asked) ]) h

-- what refuses queries
pub query_stops : (db : Db) (asked : List Asked) (known : Option Db) (before now : ℕ) (fault : QueryFault) → known ≡ Some db → asking.MayFail (λ db at. asking.OneLacksIn db asked at) known before now fault
    → RefusedBy (λ number. answer_reply db Unrestricted asked ≡ Refused (refusal number)) (query_stop fault)
query_stops db asked known before now (query.NoValue at) e may = queries_lack db asked (may.1 db e).somewhere
query_stops db asked known before now (query.Base fault) e may = tt
query_stops db asked known before now query.OutOfMemory e may = tt

-- where none lacks a value, these are the tables
pub queries_answered : (db : Db) (asked : List Asked) (ts : List Printed) → IsFalse (some_query_lacks db Unrestricted asked) → ts ≡ map (table_of db Unrestricted) asked → answer_reply db Unrestricted asked ≡ Tables ts
queries_answered db asked ts h e = ap (λ b. elim b [ true ↦ Refused (refusal 20) | false ↦ Tables (map (table_of db Unrestricted) asked) ]) h ∙ ap Tables (sym e)

-- ---- the numbers are those of refusals

pub query_refuses : (fault : QueryFault) → IsRefusing (query_stop fault)
query_refuses (query.NoValue at) = refl
query_refuses (query.Base fault) = tt
query_refuses query.OutOfMemory = tt

pub pair_refuses : (fault : PairFault) → IsRefusing (pair_stop fault)
pair_refuses (pair.NotFit row) = refl
pair_refuses (pair.Query fault) = query_refuses fault
pair_refuses pair.OutOfMemory = tt

pub change_refuses : (fault : UpdateFault) → IsRefusing (change_stop fault)
change_refuses (change.Contended old first second) = refl
change_refuses (change.TooMany count) = refl
change_refuses (change.Base fault) = tt
change_refuses change.OutOfMemory = tt

-- ---- causes

pub pair_caused : (u : Update) (known : Option Db) (before now : ℕ) (fault : PairFault) → pairing.MayFailIn u known before now fault → StopsBy known before now (pair_stop fault)
pair_caused u known before now (pair.NotFit row) may = may.0
pair_caused u known before now (pair.Query (query.NoValue at)) may = may.0
pair_caused u known before now (pair.Query (query.Base fault)) may = may
pair_caused u known before now (pair.Query query.OutOfMemory) may = may
pair_caused u known before now pair.OutOfMemory may = may

pub change_caused : (u : Update) (ps : List Pair) (known : Option Db) (before now : ℕ) (fault : UpdateFault) → changing.MayFail u ps known before now fault → StopsBy known before now (change_stop fault)
change_caused u ps known before now (change.Contended old first second) may = may.0
change_caused u ps known before now (change.TooMany count) may = may.0
change_caused u ps known before now (change.Base fault) may = may
change_caused u ps known before now change.OutOfMemory may = may

pub query_caused : (asked : List Asked) (known : Option Db) (before now : ℕ) (fault : QueryFault) → asking.MayFail (λ db at. asking.OneLacksIn db asked at) known before now fault → StopsBy known before now (query_stop fault)
query_caused asked known before now (query.NoValue at) may = may.0
query_caused asked known before now (query.Base fault) may = may
query_caused asked known before now query.OutOfMemory may = may

-- where nothing is made, what is said of what stopped it says all
pub stopped_by : {T : Type 0} {Q : Stopped → Type 0} (known : Option Db) (before now : ℕ) (r : Result T Stopped) → IsErr r × IsErrAnd r Q → before ≤ now → ((s : Stopped) → Q s → StopsBy known before now s)
    → HasStopCause {T = T} known before now r
stopped_by known before now (Ok x) h later f = absurd (cc h.0)
stopped_by known before now (Err s) h later f = record { later = later; caused = f s h.1 }

pub refuses_by : {T : Type 0} {Q P : Stopped → Type 0} (r : Result T Stopped) → IsErr r × IsErrAnd r Q → ((s : Stopped) → Q s → P s) → IfErr r P
refuses_by (Ok x) h f = tt
refuses_by (Err s) h f = f s h.1

-- one call behind another that answered, by which the database stayed
pub stopped_later : {T : Type 0} (known then : Option Db) (before mid now : ℕ) (r : Result T Stopped) → then ≡ known → mid ≡ before → HasStopCause {T = T} then mid now r → HasStopCause {T = T} known before now r
stopped_later {T = T} known then before mid now r same counted h =
    subst (λ t. HasStopCause {T = T} t before now r) same (subst (λ n. HasStopCause {T = T} then n now r) counted h)
