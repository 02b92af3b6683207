-- A relation and a view, whose tree has two parts on two pages.
use Rattle.std.specs.Prelude.{ℕ, zero, suc, pos, [], ◌∷◌, ◌++◌, replicate, codes, None}
use Rattle.calculus.specs.declared.operator.CmpOp.TheVariants.{Eq}
use Rattle.calculus.specs.declared.value.Domain.TheVariants.{I2}
use Rattle.calculus.specs.declared.value.Kind.TheVariants.{Of}
use Rattle.calculus.specs.declared.query.QQual.{QQual, Cmp}
use Rattle.calculus.specs.declared.query.QTerm.TheVariants as terms
use Rattle.calculus.specs.declared.query.Query.{Query}
use Rattle.calculus.specs.declared.schema.RelInfo.{RelInfo}
use Rattle.calculus.specs.declared.schema.Spec.TheVariants as spec
use Rattle.calculus.specs.Keys.{key_of}
use Rattle.calculus.specs.Tree as tree
use Rattle.disk_model.specs.Disk.{Image}
use Rattle.batch_file.specs.Layout.{Entries, addr}
use Rattle.batch_file.specs.Redone.{laid}

-- the pages, each at its address
abbrev pub pages : Entries
pages = (addr 0 0, ((73 ∷ 78 ∷ 71 ∷ 82 ∷ 69 ∷ 83 ∷ 55 ∷ 32 ∷ 1 ∷ 0 ∷ 97 ∷ 110 ∷ 110 ∷ []) ++ replicate 9 32 ++ replicate 1002 0))
    ∷ (addr 0 1, ((1 ∷ []) ++ replicate 1023 0))
    ∷ (addr 1 0, (replicate 1024 0))
    ∷ (addr 5 0, ((0 ∷ 0 ∷ 0 ∷ 0 ∷ 2 ∷ 0 ∷ 152 ∷ 3 ∷ 204 ∷ 3 ∷ 52 ∷ 0 ∷ 152 ∷ 3 ∷ 52 ∷ []) ++ replicate 905 0 ++ (17 ∷ 0 ∷ 0 ∷ 0 ∷ 97 ∷ 110 ∷ 110 ∷ []) ++ replicate 9 32 ++ (118 ∷ []) ++ replicate 11 32 ++ (3 ∷ []) ++ replicate 23 0 ++ (16 ∷ 0 ∷ 0 ∷ 0 ∷ 97 ∷ 110 ∷ 110 ∷ []) ++ replicate 9 32 ++ (112 ∷ []) ++ replicate 11 32 ++ (0 ∷ 0 ∷ 0 ∷ 0 ∷ 0 ∷ 1 ∷ []) ++ replicate 7 0 ++ (1 ∷ []) ++ replicate 10 0))
    ∷ (addr 6 0, ((0 ∷ 0 ∷ 0 ∷ 0 ∷ 3 ∷ 0 ∷ 199 ∷ 3 ∷ 237 ∷ 3 ∷ 19 ∷ 0 ∷ 218 ∷ 3 ∷ 19 ∷ 0 ∷ 199 ∷ 3 ∷ 19 ∷ []) ++ replicate 948 0 ++ (17 ∷ 0 ∷ 0 ∷ 0 ∷ 0 ∷ 97 ∷ []) ++ replicate 11 32 ++ (1 ∷ 2 ∷ 16 ∷ 0 ∷ 0 ∷ 0 ∷ 1 ∷ 116 ∷ []) ++ replicate 11 32 ++ (3 ∷ 3 ∷ 16 ∷ 0 ∷ 0 ∷ 0 ∷ 0 ∷ 97 ∷ []) ++ replicate 11 32 ++ (1 ∷ 2 ∷ [])))
    ∷ (addr 7 0, ((1 ∷ 0 ∷ 0 ∷ 0 ∷ 1 ∷ 0 ∷ 113 ∷ 0 ∷ 113 ∷ 0 ∷ 143 ∷ 3 ∷ []) ++ replicate 101 0 ++ (17 ∷ []) ++ replicate 11 0 ++ (1 ∷ 3 ∷ 97 ∷ 110 ∷ 110 ∷ 1 ∷ 112 ∷ 0 ∷ 1 ∷ 1 ∷ 97 ∷ 0 ∷ 1 ∷ 2 ∷ 0 ∷ 0 ∷ []) ++ replicate 68 4 ++ (1 ∷ 0 ∷ 2 ∷ []) ++ replicate 10 0 ++ (1 ∷ 1 ∷ 0 ∷ 2 ∷ []) ++ replicate 10 0 ++ (2 ∷ 1 ∷ 0 ∷ 2 ∷ []) ++ replicate 10 0 ++ (3 ∷ 1 ∷ 0 ∷ 2 ∷ []) ++ replicate 10 0 ++ (4 ∷ 1 ∷ 0 ∷ 2 ∷ []) ++ replicate 10 0 ++ (5 ∷ 1 ∷ 0 ∷ 2 ∷ []) ++ replicate 10 0 ++ (6 ∷ 1 ∷ 0 ∷ 2 ∷ []) ++ replicate 10 0 ++ (7 ∷ 1 ∷ 0 ∷ 2 ∷ []) ++ replicate 10 0 ++ (8 ∷ 1 ∷ 0 ∷ 2 ∷ []) ++ replicate 10 0 ++ (9 ∷ 1 ∷ 0 ∷ 2 ∷ []) ++ replicate 10 0 ++ (10 ∷ 1 ∷ 0 ∷ 2 ∷ []) ++ replicate 10 0 ++ (11 ∷ 1 ∷ 0 ∷ 2 ∷ []) ++ replicate 10 0 ++ (12 ∷ 1 ∷ 0 ∷ 2 ∷ []) ++ replicate 10 0 ++ (13 ∷ 1 ∷ 0 ∷ 2 ∷ []) ++ replicate 10 0 ++ (14 ∷ 1 ∷ 0 ∷ 2 ∷ []) ++ replicate 10 0 ++ (15 ∷ 1 ∷ 0 ∷ 2 ∷ []) ++ replicate 10 0 ++ (16 ∷ 1 ∷ 0 ∷ 2 ∷ []) ++ replicate 10 0 ++ (17 ∷ 1 ∷ 0 ∷ 2 ∷ []) ++ replicate 10 0 ++ (18 ∷ 1 ∷ 0 ∷ 2 ∷ []) ++ replicate 10 0 ++ (19 ∷ 1 ∷ 0 ∷ 2 ∷ []) ++ replicate 10 0 ++ (20 ∷ 1 ∷ 0 ∷ 2 ∷ []) ++ replicate 10 0 ++ (21 ∷ 1 ∷ 0 ∷ 2 ∷ []) ++ replicate 10 0 ++ (22 ∷ 1 ∷ 0 ∷ 2 ∷ []) ++ replicate 10 0 ++ (23 ∷ 1 ∷ 0 ∷ 2 ∷ []) ++ replicate 10 0 ++ (24 ∷ 1 ∷ 0 ∷ 2 ∷ []) ++ replicate 10 0 ++ (25 ∷ 1 ∷ 0 ∷ 2 ∷ []) ++ replicate 10 0 ++ (26 ∷ 1 ∷ 0 ∷ 2 ∷ []) ++ replicate 10 0 ++ (27 ∷ 1 ∷ 0 ∷ 2 ∷ []) ++ replicate 10 0 ++ (28 ∷ 1 ∷ 0 ∷ 2 ∷ []) ++ replicate 10 0 ++ (29 ∷ 1 ∷ 0 ∷ 2 ∷ []) ++ replicate 10 0 ++ (30 ∷ 1 ∷ 0 ∷ 2 ∷ []) ++ replicate 10 0 ++ (31 ∷ 1 ∷ 0 ∷ 2 ∷ []) ++ replicate 10 0 ++ (32 ∷ 1 ∷ 0 ∷ 2 ∷ []) ++ replicate 10 0 ++ (33 ∷ 1 ∷ 0 ∷ 2 ∷ []) ++ replicate 10 0 ++ (34 ∷ 1 ∷ 0 ∷ 2 ∷ []) ++ replicate 10 0 ++ (35 ∷ 1 ∷ 0 ∷ 2 ∷ []) ++ replicate 10 0 ++ (36 ∷ 1 ∷ 0 ∷ 2 ∷ []) ++ replicate 10 0 ++ (37 ∷ 1 ∷ 0 ∷ 2 ∷ []) ++ replicate 10 0 ++ (38 ∷ 1 ∷ 0 ∷ 2 ∷ []) ++ replicate 10 0 ++ (39 ∷ 1 ∷ 0 ∷ 2 ∷ []) ++ replicate 10 0 ++ (40 ∷ 1 ∷ 0 ∷ 2 ∷ []) ++ replicate 10 0 ++ (41 ∷ 1 ∷ 0 ∷ 2 ∷ []) ++ replicate 10 0 ++ (42 ∷ 1 ∷ 0 ∷ 2 ∷ []) ++ replicate 10 0 ++ (43 ∷ 1 ∷ 0 ∷ 2 ∷ []) ++ replicate 10 0 ++ (44 ∷ 1 ∷ 0 ∷ 2 ∷ []) ++ replicate 10 0 ++ (45 ∷ 1 ∷ 0 ∷ 2 ∷ []) ++ replicate 10 0 ++ (46 ∷ 1 ∷ 0 ∷ 2 ∷ []) ++ replicate 10 0 ++ (47 ∷ 1 ∷ 0 ∷ 2 ∷ []) ++ replicate 10 0 ++ (48 ∷ 1 ∷ 0 ∷ 2 ∷ []) ++ replicate 10 0 ++ (49 ∷ 1 ∷ 0 ∷ 2 ∷ []) ++ replicate 10 0 ++ (50 ∷ 1 ∷ 0 ∷ 2 ∷ []) ++ replicate 10 0 ++ (51 ∷ 1 ∷ 0 ∷ 2 ∷ []) ++ replicate 10 0 ++ (52 ∷ 1 ∷ 0 ∷ 2 ∷ []) ++ replicate 10 0 ++ (53 ∷ 1 ∷ 0 ∷ 2 ∷ []) ++ replicate 10 0 ++ (54 ∷ 1 ∷ 0 ∷ 2 ∷ []) ++ replicate 10 0 ++ (55 ∷ 1 ∷ 0 ∷ 2 ∷ []) ++ replicate 10 0 ++ (56 ∷ 1 ∷ 0 ∷ 2 ∷ []) ++ replicate 10 0 ++ (57 ∷ 1 ∷ 0 ∷ 2 ∷ []) ++ replicate 10 0 ++ (58 ∷ 1 ∷ 0 ∷ 2 ∷ [])))
    ∷ (addr 7 1, ((0 ∷ 0 ∷ 0 ∷ 0 ∷ 1 ∷ 0 ∷ 94 ∷ 3 ∷ 94 ∷ 3 ∷ 162 ∷ []) ++ replicate 851 0 ++ (17 ∷ []) ++ replicate 8 0 ++ (1 ∷ []) ++ replicate 11 0 ++ (59 ∷ 1 ∷ 0 ∷ 2 ∷ []) ++ replicate 10 0 ++ (60 ∷ 1 ∷ 0 ∷ 2 ∷ []) ++ replicate 10 0 ++ (61 ∷ 1 ∷ 0 ∷ 2 ∷ []) ++ replicate 10 0 ++ (62 ∷ 1 ∷ 0 ∷ 2 ∷ []) ++ replicate 10 0 ++ (63 ∷ 1 ∷ 0 ∷ 2 ∷ []) ++ replicate 10 0 ++ (64 ∷ 1 ∷ 0 ∷ 2 ∷ []) ++ replicate 10 0 ++ (65 ∷ 1 ∷ 0 ∷ 2 ∷ []) ++ replicate 10 0 ++ (66 ∷ 1 ∷ 0 ∷ 2 ∷ []) ++ replicate 10 0 ++ (67 ∷ 1 ∷ 0 ∷ 2 ∷ []) ++ replicate 10 0 ++ (68 ∷ 1 ∷ 0 ∷ 2 ∷ []) ++ replicate 10 0 ++ (69 ∷ [])))
    ∷ (addr 16 0, ((0 ∷ 0 ∷ 0 ∷ 0 ∷ 1 ∷ 0 ∷ 251 ∷ 3 ∷ 251 ∷ 3 ∷ 5 ∷ []) ++ replicate 1008 0 ++ (7 ∷ 0 ∷ 98 ∷ 32 ∷ 32 ∷ [])))
    ∷ []

-- an image of these pages and no other
abbrev pub image : Image
image = laid pages (λ a. None)

-- `p.a = n` in the first variable
abbrev pub equals : ℕ → QQual
equals n = Cmp Eq (terms.Attr 0 0) (terms.Int (pos n))

-- `a = 1 or a = 2 or ..`, so many times `or`
abbrev pub one_of : ℕ → QQual
one_of zero = equals 1
one_of (suc n) = tree.either (one_of n) (equals (suc (suc n)))

-- the query of the view: the rows of p whose attribute a is one of 1 to 69
abbrev pub query : Query
query = tree.query (key_of (codes "ann") (codes "p") ∷ []) (record { name = codes "a"; kind = Of I2; term = terms.Attr 0 0 } ∷ []) (one_of 68)

-- what is known of the view
abbrev pub info : RelInfo
info = record { key = key_of (codes "ann") (codes "v"); spec = spec.View; attrs = record { name = codes "a"; kind = Of I2 } ∷ []; keys = [] }
