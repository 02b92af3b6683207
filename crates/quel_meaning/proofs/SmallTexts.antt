-- A small database, range variables over it, and statements written short.
use Rattle.std.specs.Prelude.{ℕ, pos, List, [], ◌∷◌, None, Result, codes}
use Rattle.calculus.specs.declared.value.Domain.TheVariants.{I2, C}
use Rattle.calculus.specs.declared.value.Kind.{Kind}
use Rattle.calculus.specs.declared.value.Kind.TheVariants.{Of}
use Rattle.calculus.specs.declared.operator.ArithOp.TheVariants.{Add}
use Rattle.calculus.specs.declared.operator.CmpOp.TheVariants.{Eq, Gt}
use Rattle.calculus.specs.declared.operator.AggOp.TheVariants.{Count, Sum}
use Rattle.calculus.specs.declared.query.RelKey.{RelKey}
use Rattle.calculus.specs.declared.query.QTerm.TheVariants as q
use Rattle.calculus.specs.declared.query.QTerm.{QTerm}
use Rattle.calculus.specs.declared.query.QQual.TheVariants as qual
use Rattle.calculus.specs.declared.query.AggSource.{Named}
use Rattle.calculus.specs.declared.query.Target.{Target}
use Rattle.calculus.specs.declared.request.Checked.{Checked}
use Rattle.calculus.specs.declared.schema.Spec.TheVariants as spec
use Rattle.calculus.specs.declared.schema.Attr.{Attr as Attribute}
use Rattle.calculus.specs.declared.statement.Term.{Term, Int, Chars, Attr}
use Rattle.calculus.specs.declared.statement.Qual.{Qual, True, Cmp}
use Rattle.calculus.specs.declared.statement.Item.{Item}
use Rattle.calculus.specs.declared.statement.Item.TheVariants as item
use Rattle.calculus.specs.declared.statement.Statement.{Statement}
use Rattle.calculus.specs.declared.statement.Statement.TheVariants as statement
use Rattle.calculus.specs.Database.{Db, Relation, View}
use Rattle.calculus.specs.Keys.{key_of}
use Rattle.calculus.specs.Tree as tree
use Rattle.calculus.specs.Written.{operation, aggregate}
use Rattle.quel_meaning.specs.Ranges.{Ranges}
use Rattle.quel_meaning.specs.Resolved.{resolved}

abbrev pub key : List ℕ → RelKey
key name = key_of (codes "ann") name

abbrev pub attr : List ℕ → Kind → Attribute
attr name kind = record { name = name; kind = kind }

abbrev pub relation : List ℕ → List Attribute → Relation
relation name attrs = record { info = record { key = key name; spec = spec.Heap; attrs = attrs; keys = [] }; rows = [] }

-- p (a = i2, b = c6), s (k = i2), and the view two (a = x.a) where x.a = y.k
abbrev pub two : View
two = record {
  info = record { key = key (codes "two"); spec = spec.View; attrs = attr (codes "a") (Of I2) ∷ []; keys = [] };
  query = tree.query (key (codes "p") ∷ key (codes "s") ∷ []) (record { name = codes "a"; kind = Of I2; term = q.Attr 0 0 } ∷ []) (qual.Cmp Eq (q.Attr 0 0) (q.Attr 1 0));
}

abbrev pub db : Db
db = record {
  dba = codes "ann";
  relations = relation (codes "p") (attr (codes "a") (Of I2) ∷ attr (codes "b") (Of (C 6)) ∷ []) ∷ relation (codes "s") (attr (codes "k") (Of I2) ∷ []) ∷ [];
  indexes = [];
  views = two ∷ [];
  rules = [];
  permits = [];
}

-- e ranges over p, f over s, v over two, and gone over nothing any more
abbrev pub ranges : Ranges
ranges = (codes "e", key (codes "p")) ∷ (codes "f", key (codes "s")) ∷ (codes "v", key (codes "two")) ∷ (codes "gone", key (codes "old")) ∷ []

abbrev pub of : Statement → Result Checked ℕ
of s = resolved db (codes "ann") ranges s

abbrev pub dot : List ℕ → List ℕ → Term
dot var name = Attr var name

abbrev pub retrieve : List Item → Qual → Statement
retrieve items q = statement.Retrieve None items q []

abbrev pub ea : Term
ea = dot (codes "e") (codes "a")

abbrev pub count_of : Term → Term
count_of t = aggregate (record { op = Count; arg = t; by = []; qual = True })

abbrev pub set : List ℕ → Term → Item
set name t = item.Set name t

abbrev pub eb : Term
eb = dot (codes "e") (codes "b")

abbrev pub fk : Term
fk = dot (codes "f") (codes "k")

abbrev pub int : ℕ → Term
int n = Int (pos n)

abbrev pub chars : List ℕ → Term
chars bytes = Chars bytes

abbrev pub target : List ℕ → Kind → QTerm → Target
target name kind term = record { name = name; kind = kind; term = term }

-- sum(f.k by f.k where f.k > 1)
abbrev pub sum_by_k : Term
sum_by_k = aggregate (record { op = Sum; arg = fk; by = fk ∷ []; qual = Cmp Gt fk (int 1) })

abbrev pub plus_one : Term
plus_one = operation Add ea (int 1)

abbrev pub counted : List ℕ → ℕ → QTerm
counted name slot = tree.aggregate (record { slot = slot; op = Count; source = Named (key name); arg = q.Attr 0 0; by = []; link = []; qual = qual.True })
