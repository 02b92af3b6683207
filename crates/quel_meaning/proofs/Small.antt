-- Words to write small databases with in the worked values.
use Rattle.std.specs.Prelude.{ℕ, List, [], ◌∷◌, codes}
use Rattle.calculus.specs.declared.value.Kind.{Kind}
use Rattle.calculus.specs.declared.query.RelKey.{RelKey}
use Rattle.calculus.specs.declared.query.QTerm as term
use Rattle.calculus.specs.declared.query.Target.{Target}
use Rattle.calculus.specs.declared.schema.Attr.{Attr}
use Rattle.calculus.specs.declared.schema.Spec.TheVariants as spec
use Rattle.calculus.specs.declared.request.Checked.{Checked}
use Rattle.calculus.specs.declared.reply.Reply.{Reply}
use Rattle.calculus.specs.declared.reply.Column.{Column}
use Rattle.calculus.specs.Database.{Db, Relation}
use Rattle.calculus.specs.Keys.{key_of}
use Rattle.calculus.specs.Rows.{Row}
use Rattle.calculus.specs.Who.{Unrestricted}
use Rattle.fault_io.specs.Files.{Files}
use Rattle.quel_meaning.specs.Meaning.{Effect, tree_meaning}

-- the administrator's name
abbrev pub ann : List ℕ
ann = codes "ann"

-- ann's key of this name
abbrev pub key : List ℕ → RelKey
key name = key_of ann name

-- ann's database with nothing in it
abbrev pub nothing : Db
nothing = record { dba = ann; relations = []; indexes = []; views = []; rules = []; permits = [] }

-- ann's database of one relation
abbrev pub one_relation : Relation → Db
one_relation r = record { dba = ann; relations = r ∷ []; indexes = []; views = []; rules = []; permits = [] }

-- a heap of ann's with these rows
abbrev pub heap : List ℕ → List Attr → List Row → Relation
heap name attrs rows = record { info = record { key = key name; spec = spec.Heap; attrs = attrs; keys = [] }; rows = rows }

-- what trees leave and reply that are carried out for ann one after the other
abbrev pub effects : Db → Files → List Checked → List Effect
effects db shelf [] = []
effects db shelf (tree ∷ trees) = let e = tree_meaning db shelf Unrestricted ann tree in e ∷ effects e.db e.shelf trees

-- their replies
abbrev pub replies : List Effect → List Reply
replies [] = []
replies (e ∷ es) = e.reply ∷ replies es

-- an attribute of a kind
abbrev pub attr : List ℕ → Kind → Attr
attr name kind = record { name = name; kind = kind }

-- the target that is an attribute of the only variable, under its own name
abbrev pub target : List ℕ → Kind → ℕ → Target
target name kind place = record { name = name; kind = kind; term = term.Attr 0 place }

-- a column of a kind
abbrev pub column : List ℕ → Kind → Column
column name kind = record { name = name; kind = kind }
