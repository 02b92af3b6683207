-- Small databases, and queries and updates over them, written short.
use Rattle.calculus.specs.declared.value.Value.{Value}
use Rattle.calculus.specs.declared.value.Value.TheVariants as value
use Rattle.calculus.specs.declared.value.Kind.{Kind}
use Rattle.calculus.specs.declared.operator.AggOp.{AggOp}
use Rattle.calculus.specs.declared.query.RelKey.{RelKey}
use Rattle.calculus.specs.declared.query.Target.{Target}
use Rattle.calculus.specs.declared.schema.Spec.TheVariants as spec
use Rattle.calculus.specs.declared.schema.Attr.{Attr}
use Rattle.calculus.specs.Keys.{key_of}
use Rattle.std.specs.Prelude.{ℕ, ℤ, List, [], codes}
use Rattle.calculus_examples.specs.Words.{Named, True, QTerm, QQual, QAgg, Query, Update, Row, Db, Relation, View, Append, Replace, Delete, Into}

-- the administrator's key of this name
abbrev pub key : List ℕ → RelKey
key name = key_of (codes "ann") name

-- a number
abbrev pub num : ℤ → Value
num n = value.Int n

-- a text
abbrev pub text : List ℕ → Value
text bytes = value.Text bytes

-- an attribute of a kind
abbrev pub attr : List ℕ → Kind → Attr
attr name kind = record { name = name; kind = kind }

-- a heap of the administrator's with these rows
abbrev pub relation : List ℕ → List Attr → List Row → Relation
relation name attrs rows = record { info = record { key = key name; spec = spec.Heap; attrs = attrs; keys = [] }; rows = rows }

-- a view of the administrator's
abbrev pub view : List ℕ → List Attr → Query → View
view name attrs q = record { info = record { key = key name; spec = spec.View; attrs = attrs; keys = [] }; query = q }

-- the administrator's database of these relations
abbrev pub database : List Relation → Db
database relations = record { dba = codes "ann"; relations = relations; indexes = []; views = []; rules = []; permits = [] }

-- a target
abbrev pub target : List ℕ → Kind → QTerm → Target
target name kind term = record { name = name; kind = kind; term = term }

-- an aggregate over one of the administrator's relations or views, without `by`
abbrev pub fold_of : AggOp → List ℕ → QTerm → QQual → QAgg
fold_of op name arg qual = record { slot = 0; op = op; source = Named (key name); arg = arg; by = []; link = []; qual = qual }

-- replaces attributes of the first variable
abbrev pub replace : List ℕ → List ℕ → Query → Update
replace name places q = record { op = Replace; rel = key name; old = 0; places = places; query = q; checks = []; new_cut = True }

-- deletes rows of the first variable
abbrev pub delete : List ℕ → Query → Update
delete name q = record { op = Delete; rel = key name; old = 0; places = []; query = q; checks = []; new_cut = True }

-- appends to a relation
abbrev pub append : List ℕ → List ℕ → Query → Update
append name places q = record { op = Append; rel = key name; old = 255; places = places; query = q; checks = []; new_cut = True }

-- makes a relation
abbrev pub into : List ℕ → List ℕ → Query → Update
into name places q = record { op = Into; rel = key name; old = 255; places = places; query = q; checks = []; new_cut = True }
