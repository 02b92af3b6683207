-- Why queries give no tables.
use Rattle.std.specs.Prelude.{◌≡◌, ℕ, ◌≤◌, List, Option, Some, Result, Ok, Err, Contains, IsTrue}
use Rattle.std.specs.List.{list_all}
use Rattle.calculus.specs.declared.query.Query.{Query}
use Rattle.calculus.specs.declared.request.Asked.{Asked}
use Rattle.calculus.specs.Aggregate.{aggregates}
use Rattle.calculus.specs.Answer.{lacks}
use Rattle.calculus.specs.Assignments.{assigned}
use Rattle.calculus.specs.Database.{Db}
use Rattle.calculus.specs.QueryParts.{vars_of}
use Rattle.calculus.specs.Term.{Env}
use Rattle.calculus.specs.VariableRows.{rows_of}
use Rattle.calculus.specs.Who.{Unrestricted}
use Rattle.base_trait.specs.Causes.{MayCome}
use Rattle.ovqp.specs.ProductCauses.{Lacks}
use Rattle.quel_meaning.specs.FitQueries.{is_kept, kept_alone, slots_count_up, sources_fit}
use Rattle.quel_meaning.specs.Tables.{some_query_lacks}
use Rattle.ovqp.specs.declared.fault.QueryFault.{QueryFault}
use Rattle.ovqp.specs.declared.fault.QueryFault.TheVariants.{NoValue, Base, OutOfMemory}

-- the query ranges over base relations and catalogues alone, its aggregates are over those, and their slots count up
pub record CanBeAnswered (db : Db) (q : Query) : Type 0 where
  pub read : IsTrue (list_all (is_kept db) (vars_of q))
  pub fit : IsTrue (sources_fit (kept_alone db) db q)
  pub numbered : IsTrue (slots_count_up q)

-- the query lacks a value over this database, and this is one of the assignments in which a target does
pub record LacksIn (db : Db) (q : Query) (at : Env) : Type 0 where
  pub somewhere : IsTrue (lacks db Unrestricted q)
  pub there : Lacks (aggregates db Unrestricted) q (assigned (rows_of db Unrestricted) q) at

-- the same of one of these queries
pub record OneLacksIn (db : Db) (asked : List Asked) (at : Env) : Type 0 where
  pub one : Asked
  pub among : Contains asked one
  pub there : LacksIn db one.query at
  pub somewhere : IsTrue (some_query_lacks db Unrestricted asked)

-- this fault may come: a target lacks a value, as is said, where a database is known; a fault of the database where it may come; want of memory; where it isn't the database's, its count stayed
abbrev pub MayFail : (Db → Env → Type 0) → Option Db → ℕ → ℕ → QueryFault → Type 0
MayFail lacking known before now (NoValue at) = (now ≡ before) × ((db : Db) → known ≡ Some db → lacking db at)
MayFail lacking known before now (Base fault) = MayCome known before now fault
MayFail lacking known before now OutOfMemory = now ≡ before

-- an answer where the count stayed, or a fault that may come
abbrev pub IsCaused : {T : Type 0} → (Db → Env → Type 0) → Option Db → ℕ → ℕ → Result T QueryFault → Type 0
IsCaused lacking known before now (Ok x) = now ≡ before
IsCaused lacking known before now (Err fault) = MayFail lacking known before now fault

-- the count of faults never falls, an answer comes only where it stayed, and a fault only where it may: of one query
pub record HasOneCause {T : Type 0} (q : Query) (known : Option Db) (before now : ℕ) (result : Result T QueryFault) : Type 0 where
  pub later : before ≤ now
  pub caused : IsCaused (λ db at. LacksIn db q at) known before now result

-- of several
pub record HasCause {T : Type 0} (asked : List Asked) (known : Option Db) (before now : ℕ) (result : Result T QueryFault) : Type 0 where
  pub later : before ≤ now
  pub caused : IsCaused (λ db at. OneLacksIn db asked at) known before now result
