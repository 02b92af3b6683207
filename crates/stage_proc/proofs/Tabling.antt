-- The tables of queries, one after the other.
use Rattle.std.proofs.Common.{◌≡◌, refl, sym, ap, ◌∙◌, subst, ℕ, zero, suc, ◌+◌, ◌<◌, ◌≤◌, Bool, true, false, List, [], ◌∷◌, ◌++◌, length, map, get_or, take, Option, Some, Result, Ok, Err, arith}
use Rattle.std.specs.Prelude.{◌||◌, All, IsNone, IfOk, OnOk}
use Rattle.std.specs.List.{list_any}
use Rattle.std.proofs.lemmas.List.{take_more}
use Rattle.calculus.specs.declared.agg_table.AggTable.{AggTable}
use Rattle.calculus.specs.declared.query.Query.{Query}
use Rattle.calculus.specs.declared.reply.Column.{Column}
use Rattle.calculus.specs.declared.reply.Table.{Table}
use Rattle.calculus.specs.declared.request.Asked.{Asked}
use Rattle.calculus.specs.Aggregate.{aggregates}
use Rattle.calculus.specs.Answer.{answer, lacks}
use Rattle.calculus.specs.Assignments.{assigned}
use Rattle.calculus.specs.Database.{Db}
use Rattle.calculus.specs.QueryParts.{targets_of, qual_of}
use Rattle.calculus.specs.Rows.{Row}
use Rattle.calculus.specs.Table.{tabled}
use Rattle.calculus.specs.Targets.{rows_given, some_lacks, target_values}
use Rattle.calculus.specs.Term.{Env, holds}
use Rattle.calculus.specs.VariableRows.{rows_of}
use Rattle.calculus.specs.Who.{Unrestricted}
use Rattle.base_trait.specs.Causes.{MayCome}
use Rattle.quel_meaning.specs.Tables.{column_of, sorted, table_of, some_query_lacks}
use Rattle.ovqp.specs.declared.fault.QueryFault.{QueryFault}
use Rattle.ovqp.specs.declared.fault.QueryFault.TheVariants as query
use Rattle.ovqp.specs.Causes as asking
use Rattle.stage_proc.specs.TableCauses.{MayFail, IsCaused, LacksIn, OneLacksIn, HasOneCause, HasCause}

-- ---- one table

pub made_table : (db : Db) (asked : Asked) (columns : List Column) (rows : List Row) → columns ≡ map column_of (targets_of asked.query) → rows ≡ sorted asked.sort (answer db Unrestricted asked.query)
    → ◌≡◌ {A = Table} (record { columns = columns; rows = rows }) (table_of db Unrestricted asked)
unfolding table_of
made_table db asked columns rows a b = λ i. record { columns = a i; rows = b i }

-- ---- one after the other

map-push : {X Y : Type 0} (f : X → Y) (xs : List X) (x : X) → map f (xs ++ x ∷ []) ≡ map f xs ++ f x ∷ []
map-push f [] x = refl
map-push f (y ∷ ys) x = ap (λ zs. f y ∷ zs) (map-push f ys x)

pub next_made : {X Y : Type 0} (f : X → Y) (xs : List X) (i : ℕ) (x : X) (made new : List Y) (y : Y)
    → i < length xs → x ≡ get_or xs i x → made ≡ map f (take i xs) → y ≡ f x → new ≡ made ++ y ∷ [] → new ≡ map f (take (i + 1) xs)
next_made f xs i x made new y h is before one pushed =
    pushed ∙ (λ j. before j ++ one j ∷ []) ∙ sym (map-push f (take i xs) x) ∙ ap (map f) (ap (λ z. take i xs ++ z ∷ []) is ∙ sym (take_more xs i x h))

-- the same of a part of what is made
pub next_part : {X Y Z : Type 0} (f : X → Z) (part : Y → Z) (xs : List X) (i : ℕ) (x : X) (made new : List Y) (y : Y)
    → i < length xs → x ≡ get_or xs i x → map part made ≡ map f (take i xs) → part y ≡ f x → new ≡ made ++ y ∷ [] → map part new ≡ map f (take (i + 1) xs)
next_part f part xs i x made new y h is before one pushed =
    next_made f xs i x (map part made) (map part new) (part y) h is before one (ap (map part) pushed ∙ map-push part made y)

any-push : {X : Type 0} (p : X → Bool) (xs : List X) (x : X) → list_any p xs ≡ false → p x ≡ false → list_any p (xs ++ x ∷ []) ≡ false
any-push p [] x none h = ap (λ b. b || false) h
any-push p (y ∷ ys) x none h = go (p y) none (any-push p ys x)
  where
    go : (b : Bool) → (b || list_any p ys) ≡ false → (list_any p ys ≡ false → p x ≡ false → list_any p (ys ++ x ∷ []) ≡ false) → (b || list_any p (ys ++ x ∷ [])) ≡ false
    go true e more = cc e
    go false e more = more e h

any-at : {X : Type 0} (p : X → Bool) (xs : List X) (i : ℕ) (x : X) → i < length xs → x ≡ get_or xs i x → p x ≡ true → list_any p xs ≡ true
any-at p [] i x h is passes = absurd (omega (arith, h))
any-at p (y ∷ ys) zero x h is passes = ap (λ b. b || list_any p ys) (ap p (sym is) ∙ passes)
any-at p (y ∷ ys) (suc i) x h is passes = go (p y) (any-at p ys i x (omega (arith, h)) is passes)
  where
    go : (b : Bool) → list_any p ys ≡ true → (b || list_any p ys) ≡ true
    go true e = refl
    go false e = e

pub none_yet : (db : Db) → some_query_lacks db Unrestricted [] ≡ false
unfolding some_query_lacks
none_yet db = refl

pub next_none : (db : Db) (asked : List Asked) (i : ℕ) (one : Asked) → i < length asked → one ≡ get_or asked i one → some_query_lacks db Unrestricted (take i asked) ≡ false → lacks db Unrestricted one.query ≡ false
    → some_query_lacks db Unrestricted (take (i + 1) asked) ≡ false
unfolding some_query_lacks
next_none db asked i one h is before none =
    ap (list_any (λ a. lacks db Unrestricted a.query)) (take_more asked i one h ∙ ap (λ a. take i asked ++ a ∷ []) (sym is))
    ∙ any-push (λ a. lacks db Unrestricted a.query) (take i asked) one before none

one_lacks : (db : Db) (asked : List Asked) (i : ℕ) (one : Asked) → i < length asked → one ≡ get_or asked i one → lacks db Unrestricted one.query ≡ true → some_query_lacks db Unrestricted asked ≡ true
unfolding some_query_lacks
one_lacks db asked i one h is lacking = any-at (λ a. lacks db Unrestricted a.query) asked i one h is lacking

-- what holds of all holds of one
pub one_of : {X : Type 0} (P : X → Type 0) (xs : List X) (i : ℕ) (x : X) → i < length xs → x ≡ get_or xs i x → All P xs → P x
one_of P xs i x h is all = subst P (sym is) (all i x h)

-- ---- what is said of an answer

pub if_ok : {T E : Type 0} (P Q : T → Type 0) → ((x : T) → P x → Q x) → (r : Result T E) → IfOk r P → IfOk r Q
if_ok P Q f (Ok x) h = f x h
if_ok P Q f (Err e) h = tt

pub on_ok : {T E P Q : Type 0} → (P → Q) → (r : Result T E) → OnOk r P → OnOk r Q
on_ok f (Ok x) h = f h
on_ok f (Err e) h = tt

-- ---- tables that stand for the aggregates

pub answer_by_tables : (db : Db) (q : Query) (tables : List AggTable) (set : List Row)
    → ((es : List Env) → rows_given (tabled tables) q es ≡ rows_given (aggregates db Unrestricted) q es) → set ≡ rows_given (tabled tables) q (assigned (rows_of db Unrestricted) q) → set ≡ answer db Unrestricted q
unfolding answer
answer_by_tables db q tables set rows is = is ∙ rows (assigned (rows_of db Unrestricted) q)

pub lacks_by_tables : (db : Db) (q : Query) (tables : List AggTable) (b : Bool)
    → ((es : List Env) → some_lacks (tabled tables) q es ≡ some_lacks (aggregates db Unrestricted) q es) → some_lacks (tabled tables) q (assigned (rows_of db Unrestricted) q) ≡ b → lacks db Unrestricted q ≡ b
unfolding lacks
lacks_by_tables db q tables b same is = sym (same (assigned (rows_of db Unrestricted) q)) ∙ is

lacks_in : (db : Db) (q : Query) (tables : List AggTable) (at : Env)
    → ((e : Env) → target_values (tabled tables) (targets_of q) e ≡ target_values (aggregates db Unrestricted) (targets_of q) e)
    → ((e : Env) → holds (tabled tables) (qual_of q) e ≡ holds (aggregates db Unrestricted) (qual_of q) e)
    → ((es : List Env) → some_lacks (tabled tables) q es ≡ some_lacks (aggregates db Unrestricted) q es)
    → asking.LacksIn (tabled tables) db q at → LacksIn db q at
lacks_in db q tables at values truth same h = record {
  somewhere = lacks_by_tables db q tables true same h.somewhere;
  there = record {
    is_there = h.there.is_there;
    qualifies = sym (truth at) ∙ h.there.qualifies;
    no_value = subst IsNone (values at) h.there.no_value;
  };
}

-- ---- a fault

-- a fault of the answer by tables that stand for the aggregates
may_fail : (q : Query) (tables : List AggTable) (known : Option Db) (before mid now : ℕ) (fault : QueryFault)
    → ((db : Db) → known ≡ Some db → (e : Env) → target_values (tabled tables) (targets_of q) e ≡ target_values (aggregates db Unrestricted) (targets_of q) e)
    → ((db : Db) → known ≡ Some db → (e : Env) → holds (tabled tables) (qual_of q) e ≡ holds (aggregates db Unrestricted) (qual_of q) e)
    → ((db : Db) → known ≡ Some db → (es : List Env) → some_lacks (tabled tables) q es ≡ some_lacks (aggregates db Unrestricted) q es)
    → mid ≡ before → asking.MayFail (tabled tables) q known mid now fault → MayFail (λ db at. LacksIn db q at) known before now fault
may_fail q tables known before mid now (query.NoValue at) values truth same stayed may = (may.0 ∙ stayed, λ db e. lacks_in db q tables at (values db e) (truth db e) (same db e) (may.1 db e))
may_fail q tables known before mid now (query.Base fault) values truth same stayed may = subst (λ n. MayCome known n now fault) stayed may
may_fail q tables known before mid now query.OutOfMemory values truth same stayed may = may ∙ stayed

is_caused : {T : Type 0} (q : Query) (tables : List AggTable) (known : Option Db) (before mid now : ℕ) (result : Result T QueryFault)
    → ((db : Db) → known ≡ Some db → (e : Env) → target_values (tabled tables) (targets_of q) e ≡ target_values (aggregates db Unrestricted) (targets_of q) e)
    → ((db : Db) → known ≡ Some db → (e : Env) → holds (tabled tables) (qual_of q) e ≡ holds (aggregates db Unrestricted) (qual_of q) e)
    → ((db : Db) → known ≡ Some db → (es : List Env) → some_lacks (tabled tables) q es ≡ some_lacks (aggregates db Unrestricted) q es)
    → mid ≡ before → asking.IsCaused {T = T} (tabled tables) q known mid now result → IsCaused {T = T} (λ db at. LacksIn db q at) known before now result
is_caused q tables known before mid now (Ok x) values truth same stayed may = may ∙ stayed
is_caused q tables known before mid now (Err fault) values truth same stayed may = may_fail q tables known before mid now fault values truth same stayed may

pub settled_cause : {T : Type 0} (q : Query) (tables : List AggTable) (known : Option Db) (before mid now : ℕ) (result : Result T QueryFault)
    → ((db : Db) → known ≡ Some db → (e : Env) → target_values (tabled tables) (targets_of q) e ≡ target_values (aggregates db Unrestricted) (targets_of q) e)
    → ((db : Db) → known ≡ Some db → (e : Env) → holds (tabled tables) (qual_of q) e ≡ holds (aggregates db Unrestricted) (qual_of q) e)
    → ((db : Db) → known ≡ Some db → (es : List Env) → some_lacks (tabled tables) q es ≡ some_lacks (aggregates db Unrestricted) q es)
    → mid ≡ before → asking.HasCause {T = T} (tabled tables) q known mid now result → HasOneCause {T = T} q known before now result
settled_cause q tables known before mid now result values truth same stayed cause = record {
  later = omega (arith, stayed, cause.later);
  caused = is_caused q tables known before mid now result values truth same stayed cause.caused;
}

-- a fault of one of several
one_may_fail : (asked : List Asked) (i : ℕ) (one : Asked) (known : Option Db) (before mid now : ℕ) (fault : QueryFault) → i < length asked → one ≡ get_or asked i one → mid ≡ before
    → MayFail (λ db at. LacksIn db one.query at) known mid now fault → MayFail (λ db at. OneLacksIn db asked at) known before now fault
one_may_fail asked i one known before mid now (query.NoValue at) h is stayed may = (
  may.0 ∙ stayed,
  λ db e. record {
    one = one;
    among = (i, h, sym is);
    there = may.1 db e;
    somewhere = one_lacks db asked i one h is (may.1 db e).somewhere;
  },
)
one_may_fail asked i one known before mid now (query.Base fault) h is stayed may = subst (λ n. MayCome known n now fault) stayed may
one_may_fail asked i one known before mid now query.OutOfMemory h is stayed may = may ∙ stayed

pub one_fails : {T : Type 0} (asked : List Asked) (i : ℕ) (one : Asked) (known : Option Db) (before mid now : ℕ) (fault : QueryFault) (result : Result T QueryFault) → i < length asked → one ≡ get_or asked i one
    → result ≡ Err fault → mid ≡ before → mid ≤ now → MayFail (λ db at. LacksIn db one.query at) known mid now fault → HasCause {T = T} asked known before now result
one_fails {T = T} asked i one known before mid now fault result h is made stayed later may =
    subst (HasCause {T = T} asked known before now) (sym made) (record { later = omega (arith, stayed, later); caused = one_may_fail asked i one known before mid now fault h is stayed may })
