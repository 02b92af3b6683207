-- Why a query isn't expanded, and what it answers once it is.
use Rattle.std.proofs.Common.{◌≡◌, refl, sym, ap, ◌∙◌, subst, ℕ, ◌-◌, ◌^◌, ◌<◌, ◌≤◌, true, false, ◌&&◌, nat_le, List, [], ◌∷◌, length, Option, Some, None, Err, Result, arith}
use Rattle.std.specs.Prelude.{min}
use Rattle.std.proofs.lemmas.Bool.Decides.{nat_tests}
use Rattle.std.specs.List.{list_all}
use Rattle.calculus.specs.declared.query.AggSource.{AggSource, Named}
use Rattle.calculus.specs.declared.query.QAgg.{QAgg}
use Rattle.calculus.specs.declared.query.Query.{Query}
use Rattle.calculus.specs.Tree.{rows_of_query}
use Rattle.calculus.specs.Answer.{answer, lacks}
use Rattle.calculus.specs.Who.{Unrestricted}
use Rattle.calculus.specs.Database.{Db}
use Rattle.calculus.specs.IsDatabase.{IsDatabase, valid_query}
use Rattle.calculus.specs.Permission.{query_permitted}
use Rattle.calculus.specs.QueryParts.{vars_of, query_aggregates}
use Rattle.base_trait.specs.declared.fault.BaseFault.TheVariants as base
use Rattle.quel_meaning.specs.FitQueries.{kept_or_viewed, has_few_targets, source_fits, reads_fit}
use Rattle.tree_laws.specs.Nesting.{aggregates_nest_none}
use Rattle.tree_laws.proofs.Answering.{answer_put, lacks_put}
use Rattle.view_sizes.specs.Listing.{source_lists_few, sources_list_few}
use Rattle.view_text.specs.Expanded.{expanded}
use Rattle.cut_rules.specs.declared.fault.CutFault.{CutFault}
use Rattle.cut_rules.specs.declared.fault.CutFault.TheVariants as cut
use Rattle.cut_rules.specs.declared.fault.ExpandFault.{ExpandFault}
use Rattle.cut_rules.specs.Causes.{HasCause, MayFail, MayNotExpand, HasExpandCause, HasMany}
use Rattle.cut_rules.specs.Faults.{unexpanded}
use Rattle.cut_rules.specs.Refused.{IsRefusedIn}
use Rattle.cut_rules.proofs.Listing.{both_true}
use Rattle.cut_rules.proofs.Fitting.{aggregates_fit}

-- ---- nothing is refused where nobody is restricted

abbrev IsRefusedUnrestricted : Query → Db → ℕ → Type 0
IsRefusedUnrestricted q db var = (query_permitted db Unrestricted q ≡ false) × IsRefusedIn db Unrestricted q var

-- no database is known where none could be
none_known : (known : Option Db) → ((db : Db) → known ≡ Some db → ⊥) → known ≡ None
none_known None f = refl
none_known (Some db) f = absurd (f db refl)

fails : (q : Query) (known mid_known : Option Db) (before mid now : ℕ) → mid_known ≡ known → mid ≡ before → ((db : Db) → known ≡ Some db → query_permitted db Unrestricted q ≡ true)
    → (fault : CutFault) → MayFail (IsRefusedUnrestricted q) mid_known mid now fault → MayNotExpand q known before now (unexpanded fault)
fails q known mid_known before mid now e l unrestricted (cut.NoPermit var) c = (none_known known (λ db h. cc (sym (unrestricted db h) ∙ (c.1 db (e ∙ h)).0)), c.0 ∙ l)
fails q known mid_known before mid now e l unrestricted cut.TooMany c = (none_known known (λ db h. c.1 db (e ∙ h)), c.0 ∙ l)
fails q known mid_known before mid now e l unrestricted (cut.Base base.Disk) c = omega (arith, c, l)
fails q known mid_known before mid now e l unrestricted (cut.Base (base.Damaged file page)) c = (sym e ∙ c.0, c.1 ∙ l)
fails q known mid_known before mid now e l unrestricted (cut.Base base.OutOfMemory) c = c ∙ l
fails q known mid_known before mid now e l unrestricted cut.OutOfMemory c = c ∙ l

pub expand_failed : {S T : Type 0} (q : Query) (known mid_known : Option Db) (before mid now : ℕ) (fault : CutFault) (made : ExpandFault)
    → HasCause {T = S} (IsRefusedUnrestricted q) mid_known mid now (Err fault) → made ≡ unexpanded fault → mid_known ≡ known → mid ≡ before → ((db : Db) → known ≡ Some db → query_permitted db Unrestricted q ≡ true)
    → HasExpandCause {T = T} q known before now (Err made)
expand_failed q known mid_known before mid now fault made c m e l unrestricted =
    let k = c.later in record { later = omega (arith, k, l); caused = subst (λ f. MayNotExpand q known before now f) (sym m) (fails q known mid_known before mid now e l unrestricted fault c.caused) }

-- what isn't put in says nothing of how many variables there are
pub none_many : (db : Db) (q : Query) (fault : CutFault) (made : ExpandFault) → made ≡ unexpanded fault → HasMany db q made
none_many db q fault made m = subst (HasMany db q) (sym m) (go fault)
  where
    go : (fault : CutFault) → HasMany db q (unexpanded fault)
    go (cut.NoPermit var) = tt
    go cut.TooMany = tt
    go (cut.Base fault) = tt
    go cut.OutOfMemory = tt

-- ---- behind a first question

pub expand_behind : {T : Type 0} (q : Query) (known mid_known : Option Db) (before mid now : ℕ) (result : Result T ExpandFault) → HasExpandCause q mid_known mid now result → mid_known ≡ known → mid ≡ before
    → HasExpandCause q known before now result
expand_behind {T} q known mid_known before mid now result c e m = subst (λ d. HasExpandCause {T = T} q d before now result) e (subst (λ n. HasExpandCause {T = T} q mid_known n now result) m c)

-- ---- how many variables

few_source : (db : Db) (source : AggSource) → source_fits (kept_or_viewed db) db source ≡ true → source_lists_few source ≡ true
unfolding source_fits
few_source db (Named key) h = refl
few_source db (rows_of_query q) h =
    let one : nat_le (length (vars_of q)) 1 ≡ true =
    (both_true (nat_le (length (vars_of q)) 1) (has_few_targets q && valid_query db q) (both_true (list_all (kept_or_viewed db).source (vars_of q)) _ h).1).0 in
    grind (arith, nat_tests, one)

few_in : (db : Db) (gs : List QAgg) → list_all (λ (g : QAgg). source_fits (kept_or_viewed db) db g.source) gs ≡ true → list_all (λ (g : QAgg). source_lists_few g.source) gs ≡ true
few_in db [] h = refl
few_in db (g ∷ gs) h =
    let parts = both_true (source_fits (kept_or_viewed db) db g.source) _ h in
    λ i. few_source db g.source parts.0 i && few_in db gs parts.1 i

pub few_sources : (db : Db) (q : Query) → reads_fit (kept_or_viewed db) db q ≡ true → sources_list_few q ≡ true
few_sources db q h = few_in db (query_aggregates q) (aggregates_fit (kept_or_viewed db) db q h)

pub too_many : (vars n capped : ℕ) → vars ≡ min n (2 ^ 64 - 1) → 50 < vars → capped ≡ min vars (2 ^ 32 - 1) → (50 < n) × (capped ≡ min n (2 ^ 32 - 1))
too_many vars n capped e l c = (omega (arith, e, l), omega (arith, e, c))

pub few_enough : (vars n : ℕ) → vars ≡ min n (2 ^ 64 - 1) → vars ≤ 50 → n ≤ 50
few_enough vars n e l = omega (arith, e, l)

-- ---- what it answers

pub same_answer : (db : Db) → IsDatabase db → (q made : Query) → aggregates_nest_none q ≡ true → made ≡ expanded db Unrestricted q → answer db Unrestricted made ≡ answer db Unrestricted q
same_answer db d q made nests e = ap (answer db Unrestricted) e ∙ sym (answer_put db d Unrestricted q nests)

pub same_lack : (db : Db) → IsDatabase db → (q made : Query) → aggregates_nest_none q ≡ true → made ≡ expanded db Unrestricted q → lacks db Unrestricted made ≡ lacks db Unrestricted q
same_lack db d q made nests e = ap (lacks db Unrestricted) e ∙ sym (lacks_put db d Unrestricted q nests)
