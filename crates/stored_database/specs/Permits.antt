-- Relations, one of three pages, an index, rules and permits.
use Rattle.std.specs.Prelude.{pos, negsuc, [], ◌∷◌, ◌++◌, replicate, codes, Some, None}
use Rattle.calculus.specs.declared.value.Value.TheVariants.{Int, Text}
use Rattle.calculus.specs.declared.value.Domain.TheVariants.{I1, I2, I4, C}
use Rattle.calculus.specs.declared.value.Kind.TheVariants.{Of}
use Rattle.calculus.specs.declared.query.QQual.{True}
use Rattle.calculus.specs.declared.schema.Spec.TheVariants as spec
use Rattle.calculus.specs.Keys.{key_of}
use Rattle.calculus.specs.Database.{Db}
use Rattle.disk_model.specs.Disk.{Image}
use Rattle.batch_file.specs.Layout.{Entries, addr}
use Rattle.batch_file.specs.Redone.{laid}

-- the pages, each at its address
abbrev pub pages : Entries
pages = (addr 0 0, ((73 ∷ 78 ∷ 71 ∷ 82 ∷ 69 ∷ 83 ∷ 55 ∷ 32 ∷ 1 ∷ 0 ∷ 97 ∷ 110 ∷ 110 ∷ []) ++ replicate 9 32 ++ replicate 1002 0))
    ∷ (addr 0 1, ((1 ∷ []) ++ replicate 1023 0))
    ∷ (addr 1 0, (replicate 1024 0))
    ∷ (addr 5 0, ((0 ∷ 0 ∷ 0 ∷ 0 ∷ 5 ∷ 0 ∷ 252 ∷ 2 ∷ 204 ∷ 3 ∷ 52 ∷ 0 ∷ 152 ∷ 3 ∷ 52 ∷ 0 ∷ 100 ∷ 3 ∷ 52 ∷ 0 ∷ 48 ∷ 3 ∷ 52 ∷ 0 ∷ 252 ∷ 2 ∷ 52 ∷ []) ++ replicate 737 0 ++ (20 ∷ 0 ∷ 0 ∷ 0 ∷ 97 ∷ 110 ∷ 110 ∷ []) ++ replicate 9 32 ++ (112 ∷ 105 ∷ []) ++ replicate 10 32 ++ (4 ∷ 17 ∷ 0 ∷ 0 ∷ 0 ∷ 0 ∷ 0 ∷ 0 ∷ 0 ∷ 0 ∷ 0 ∷ 0 ∷ 0 ∷ 0 ∷ 0 ∷ 0 ∷ 0 ∷ 1 ∷ 1 ∷ 0 ∷ 0 ∷ 0 ∷ 0 ∷ 0 ∷ 19 ∷ 0 ∷ 0 ∷ 0 ∷ 97 ∷ 110 ∷ 110 ∷ []) ++ replicate 9 32 ++ (119 ∷ []) ++ replicate 11 32 ++ (0 ∷ 0 ∷ 0 ∷ 0 ∷ 0 ∷ 1 ∷ []) ++ replicate 7 0 ++ (3 ∷ []) ++ replicate 10 0 ++ (18 ∷ 0 ∷ 0 ∷ 0 ∷ 97 ∷ 110 ∷ 110 ∷ []) ++ replicate 9 32 ++ (113 ∷ []) ++ replicate 11 32 ++ (0 ∷ 0 ∷ 0 ∷ 0 ∷ 0 ∷ 1 ∷ []) ++ replicate 7 0 ++ (1 ∷ []) ++ replicate 10 0 ++ (17 ∷ 0 ∷ 0 ∷ 0 ∷ 97 ∷ 110 ∷ 110 ∷ []) ++ replicate 9 32 ++ (112 ∷ []) ++ replicate 11 32 ++ (0 ∷ 0 ∷ 0 ∷ 0 ∷ 0 ∷ 1 ∷ []) ++ replicate 7 0 ++ (1 ∷ []) ++ replicate 10 0 ++ (16 ∷ 0 ∷ 0 ∷ 0 ∷ 97 ∷ 110 ∷ 110 ∷ []) ++ replicate 9 32 ++ (100 ∷ 105 ∷ 103 ∷ []) ++ replicate 9 32 ++ (0 ∷ 0 ∷ 0 ∷ 0 ∷ 0 ∷ 1 ∷ []) ++ replicate 7 0 ++ (1 ∷ []) ++ replicate 10 0))
    ∷ (addr 6 0, ((0 ∷ 0 ∷ 0 ∷ 0 ∷ 6 ∷ 0 ∷ 142 ∷ 3 ∷ 237 ∷ 3 ∷ 19 ∷ 0 ∷ 218 ∷ 3 ∷ 19 ∷ 0 ∷ 199 ∷ 3 ∷ 19 ∷ 0 ∷ 180 ∷ 3 ∷ 19 ∷ 0 ∷ 161 ∷ 3 ∷ 19 ∷ 0 ∷ 142 ∷ 3 ∷ 19 ∷ []) ++ replicate 879 0 ++ (19 ∷ 0 ∷ 0 ∷ 0 ∷ 1 ∷ 116 ∷ []) ++ replicate 11 32 ++ (3 ∷ 60 ∷ 19 ∷ 0 ∷ 0 ∷ 0 ∷ 0 ∷ 110 ∷ []) ++ replicate 11 32 ++ (1 ∷ 2 ∷ 18 ∷ 0 ∷ 0 ∷ 0 ∷ 0 ∷ 107 ∷ []) ++ replicate 11 32 ++ (2 ∷ 4 ∷ 17 ∷ 0 ∷ 0 ∷ 0 ∷ 1 ∷ 116 ∷ []) ++ replicate 11 32 ++ (3 ∷ 3 ∷ 17 ∷ 0 ∷ 0 ∷ 0 ∷ 0 ∷ 97 ∷ []) ++ replicate 11 32 ++ (1 ∷ 2 ∷ 16 ∷ 0 ∷ 0 ∷ 0 ∷ 0 ∷ 120 ∷ []) ++ replicate 11 32 ++ (0 ∷ 1 ∷ [])))
    ∷ (addr 7 0, ((0 ∷ 0 ∷ 0 ∷ 0 ∷ 6 ∷ 0 ∷ 133 ∷ 3 ∷ 240 ∷ 3 ∷ 16 ∷ 0 ∷ 224 ∷ 3 ∷ 16 ∷ 0 ∷ 204 ∷ 3 ∷ 20 ∷ 0 ∷ 179 ∷ 3 ∷ 25 ∷ 0 ∷ 153 ∷ 3 ∷ 26 ∷ 0 ∷ 133 ∷ 3 ∷ 20 ∷ []) ++ replicate 870 0 ++ (18 ∷ 0 ∷ 0 ∷ 0 ∷ 2 ∷ 1 ∷ []) ++ replicate 8 0 ++ (1 ∷ 1 ∷ 0 ∷ 0 ∷ 0 ∷ 0 ∷ 17 ∷ 0 ∷ 0 ∷ 0 ∷ 2 ∷ 3 ∷ []) ++ replicate 8 0 ++ (3 ∷ 8 ∷ 0 ∷ 0 ∷ 1 ∷ 5 ∷ 99 ∷ 97 ∷ 114 ∷ 108 ∷ 97 ∷ 0 ∷ 17 ∷ 0 ∷ 0 ∷ 0 ∷ 2 ∷ 2 ∷ []) ++ replicate 8 0 ++ (2 ∷ 1 ∷ 0 ∷ 1 ∷ 0 ∷ 1 ∷ 3 ∷ 98 ∷ 111 ∷ 98 ∷ 0 ∷ 17 ∷ 0 ∷ 0 ∷ 0 ∷ 2 ∷ 1 ∷ []) ++ replicate 8 0 ++ (1 ∷ 3 ∷ 0 ∷ 0 ∷ 0 ∷ 0 ∷ 17 ∷ 0 ∷ 0 ∷ 0 ∷ 1 ∷ 5 ∷ []) ++ replicate 8 0 ++ (5 ∷ 0 ∷ 17 ∷ 0 ∷ 0 ∷ 0 ∷ 1 ∷ 2 ∷ []) ++ replicate 8 0 ++ (2 ∷ 0 ∷ [])))
    ∷ (addr 16 0, ((0 ∷ 0 ∷ 0 ∷ 0 ∷ 6 ∷ 0 ∷ 250 ∷ 3 ∷ 255 ∷ 3 ∷ 1 ∷ 0 ∷ 254 ∷ 3 ∷ 1 ∷ 0 ∷ 253 ∷ 3 ∷ 1 ∷ 0 ∷ 252 ∷ 3 ∷ 1 ∷ 0 ∷ 251 ∷ 3 ∷ 1 ∷ 0 ∷ 250 ∷ 3 ∷ 1 ∷ []) ++ replicate 987 0 ++ (5 ∷ 4 ∷ 3 ∷ 2 ∷ 1 ∷ 0 ∷ [])))
    ∷ (addr 17 0, ((0 ∷ 0 ∷ 0 ∷ 0 ∷ 2 ∷ 0 ∷ 246 ∷ 3 ∷ 251 ∷ 3 ∷ 5 ∷ 0 ∷ 246 ∷ 3 ∷ 5 ∷ []) ++ replicate 999 0 ++ (7 ∷ 0 ∷ 98 ∷ 32 ∷ 32 ∷ 254 ∷ 255 ∷ 99 ∷ 100 ∷ 32 ∷ [])))
    ∷ (addr 18 0, (replicate 7 0 ++ (4 ∷ []) ++ replicate 1016 0))
    ∷ (addr 19 0, ((1 ∷ 0 ∷ 0 ∷ 0 ∷ 15 ∷ 0 ∷ 94 ∷ 0 ∷ 194 ∷ 3 ∷ 62 ∷ 0 ∷ 132 ∷ 3 ∷ 62 ∷ 0 ∷ 70 ∷ 3 ∷ 62 ∷ 0 ∷ 8 ∷ 3 ∷ 62 ∷ 0 ∷ 202 ∷ 2 ∷ 62 ∷ 0 ∷ 140 ∷ 2 ∷ 62 ∷ 0 ∷ 78 ∷ 2 ∷ 62 ∷ 0 ∷ 16 ∷ 2 ∷ 62 ∷ 0 ∷ 210 ∷ 1 ∷ 62 ∷ 0 ∷ 148 ∷ 1 ∷ 62 ∷ 0 ∷ 86 ∷ 1 ∷ 62 ∷ 0 ∷ 24 ∷ 1 ∷ 62 ∷ 0 ∷ 218 ∷ 0 ∷ 62 ∷ 0 ∷ 156 ∷ 0 ∷ 62 ∷ 0 ∷ 94 ∷ 0 ∷ 62 ∷ []) ++ replicate 27 0 ++ (22 ∷ 0 ∷ 114 ∷ 111 ∷ 119 ∷ []) ++ replicate 57 32 ++ (21 ∷ 0 ∷ 114 ∷ 111 ∷ 119 ∷ []) ++ replicate 57 32 ++ (20 ∷ 0 ∷ 114 ∷ 111 ∷ 119 ∷ []) ++ replicate 57 32 ++ (15 ∷ 0 ∷ 114 ∷ 111 ∷ 119 ∷ []) ++ replicate 57 32 ++ (14 ∷ 0 ∷ 114 ∷ 111 ∷ 119 ∷ []) ++ replicate 57 32 ++ (13 ∷ 0 ∷ 114 ∷ 111 ∷ 119 ∷ []) ++ replicate 57 32 ++ (12 ∷ 0 ∷ 114 ∷ 111 ∷ 119 ∷ []) ++ replicate 57 32 ++ (11 ∷ 0 ∷ 114 ∷ 111 ∷ 119 ∷ []) ++ replicate 57 32 ++ (10 ∷ 0 ∷ 114 ∷ 111 ∷ 119 ∷ []) ++ replicate 57 32 ++ (5 ∷ 0 ∷ 114 ∷ 111 ∷ 119 ∷ []) ++ replicate 57 32 ++ (4 ∷ 0 ∷ 114 ∷ 111 ∷ 119 ∷ []) ++ replicate 57 32 ++ (3 ∷ 0 ∷ 114 ∷ 111 ∷ 119 ∷ []) ++ replicate 57 32 ++ (2 ∷ 0 ∷ 114 ∷ 111 ∷ 119 ∷ []) ++ replicate 57 32 ++ (1 ∷ 0 ∷ 114 ∷ 111 ∷ 119 ∷ []) ++ replicate 57 32 ++ (0 ∷ 0 ∷ 114 ∷ 111 ∷ 119 ∷ []) ++ replicate 57 32))
    ∷ (addr 19 1, ((2 ∷ 0 ∷ 0 ∷ 0 ∷ 15 ∷ 0 ∷ 94 ∷ 0 ∷ 194 ∷ 3 ∷ 62 ∷ 0 ∷ 132 ∷ 3 ∷ 62 ∷ 0 ∷ 70 ∷ 3 ∷ 62 ∷ 0 ∷ 8 ∷ 3 ∷ 62 ∷ 0 ∷ 202 ∷ 2 ∷ 62 ∷ 0 ∷ 140 ∷ 2 ∷ 62 ∷ 0 ∷ 78 ∷ 2 ∷ 62 ∷ 0 ∷ 16 ∷ 2 ∷ 62 ∷ 0 ∷ 210 ∷ 1 ∷ 62 ∷ 0 ∷ 148 ∷ 1 ∷ 62 ∷ 0 ∷ 86 ∷ 1 ∷ 62 ∷ 0 ∷ 24 ∷ 1 ∷ 62 ∷ 0 ∷ 218 ∷ 0 ∷ 62 ∷ 0 ∷ 156 ∷ 0 ∷ 62 ∷ 0 ∷ 94 ∷ 0 ∷ 62 ∷ []) ++ replicate 27 0 ++ (45 ∷ 0 ∷ 114 ∷ 111 ∷ 119 ∷ []) ++ replicate 57 32 ++ (44 ∷ 0 ∷ 114 ∷ 111 ∷ 119 ∷ []) ++ replicate 57 32 ++ (43 ∷ 0 ∷ 114 ∷ 111 ∷ 119 ∷ []) ++ replicate 57 32 ++ (42 ∷ 0 ∷ 114 ∷ 111 ∷ 119 ∷ []) ++ replicate 57 32 ++ (41 ∷ 0 ∷ 114 ∷ 111 ∷ 119 ∷ []) ++ replicate 57 32 ++ (40 ∷ 0 ∷ 114 ∷ 111 ∷ 119 ∷ []) ++ replicate 57 32 ++ (35 ∷ 0 ∷ 114 ∷ 111 ∷ 119 ∷ []) ++ replicate 57 32 ++ (34 ∷ 0 ∷ 114 ∷ 111 ∷ 119 ∷ []) ++ replicate 57 32 ++ (33 ∷ 0 ∷ 114 ∷ 111 ∷ 119 ∷ []) ++ replicate 58 32 ++ (0 ∷ 114 ∷ 111 ∷ 119 ∷ []) ++ replicate 57 32 ++ (31 ∷ 0 ∷ 114 ∷ 111 ∷ 119 ∷ []) ++ replicate 57 32 ++ (30 ∷ 0 ∷ 114 ∷ 111 ∷ 119 ∷ []) ++ replicate 57 32 ++ (25 ∷ 0 ∷ 114 ∷ 111 ∷ 119 ∷ []) ++ replicate 57 32 ++ (24 ∷ 0 ∷ 114 ∷ 111 ∷ 119 ∷ []) ++ replicate 57 32 ++ (23 ∷ 0 ∷ 114 ∷ 111 ∷ 119 ∷ []) ++ replicate 57 32))
    ∷ (addr 19 2, ((0 ∷ 0 ∷ 0 ∷ 0 ∷ 6 ∷ 0 ∷ 140 ∷ 2 ∷ 194 ∷ 3 ∷ 62 ∷ 0 ∷ 132 ∷ 3 ∷ 62 ∷ 0 ∷ 70 ∷ 3 ∷ 62 ∷ 0 ∷ 8 ∷ 3 ∷ 62 ∷ 0 ∷ 202 ∷ 2 ∷ 62 ∷ 0 ∷ 140 ∷ 2 ∷ 62 ∷ []) ++ replicate 621 0 ++ (55 ∷ 0 ∷ 114 ∷ 111 ∷ 119 ∷ []) ++ replicate 57 32 ++ (54 ∷ 0 ∷ 114 ∷ 111 ∷ 119 ∷ []) ++ replicate 57 32 ++ (53 ∷ 0 ∷ 114 ∷ 111 ∷ 119 ∷ []) ++ replicate 57 32 ++ (52 ∷ 0 ∷ 114 ∷ 111 ∷ 119 ∷ []) ++ replicate 57 32 ++ (51 ∷ 0 ∷ 114 ∷ 111 ∷ 119 ∷ []) ++ replicate 57 32 ++ (50 ∷ 0 ∷ 114 ∷ 111 ∷ 119 ∷ []) ++ replicate 57 32))
    ∷ (addr 20 0, ((0 ∷ 0 ∷ 0 ∷ 0 ∷ 2 ∷ 0 ∷ 238 ∷ 3 ∷ 247 ∷ 3 ∷ 9 ∷ 0 ∷ 238 ∷ 3 ∷ 9 ∷ []) ++ replicate 991 0 ++ (99 ∷ 100 ∷ 32 ∷ []) ++ replicate 6 0 ++ (98 ∷ 32 ∷ 32 ∷ 0 ∷ 0 ∷ 0 ∷ 0 ∷ 1 ∷ 0 ∷ [])))
    ∷ (addr 20 1, (replicate 7 0 ++ (4 ∷ 98 ∷ 32 ∷ 32 ∷ []) ++ replicate 1013 0))
    ∷ []

-- an image of these pages and no other
abbrev pub image : Image
image = laid pages (λ a. None)

-- the database
abbrev pub db : Db
db = record {
  dba = codes "ann";
  relations = (record { info = record { key = key_of (codes "ann") (codes "dig"); spec = spec.Heap; attrs = (record { name = codes "x"; kind = Of I1 } ∷ []); keys = ([]) }; rows = ((Int (pos 0) ∷ []) ∷ (Int (pos 1) ∷ []) ∷ (Int (pos 2) ∷ []) ∷ (Int (pos 3) ∷ []) ∷ (Int (pos 4) ∷ []) ∷ (Int (pos 5) ∷ []) ∷ []) } ∷ record { info = record { key = key_of (codes "ann") (codes "p"); spec = spec.Heap; attrs = (record { name = codes "a"; kind = Of I2 } ∷ record { name = codes "t"; kind = Of (C 3) } ∷ []); keys = ([]) }; rows = ((Int (negsuc 1) ∷ Text (codes "cd") ∷ []) ∷ (Int (pos 7) ∷ Text (codes "b") ∷ []) ∷ []) } ∷ record { info = record { key = key_of (codes "ann") (codes "q"); spec = spec.Heap; attrs = (record { name = codes "k"; kind = Of I4 } ∷ []); keys = ([]) }; rows = ([]) } ∷ record { info = record { key = key_of (codes "ann") (codes "w"); spec = spec.Heap; attrs = (record { name = codes "n"; kind = Of I2 } ∷ record { name = codes "t"; kind = Of (C 60) } ∷ []); keys = ([]) }; rows = ((Int (pos 0) ∷ Text (codes "row") ∷ []) ∷ (Int (pos 1) ∷ Text (codes "row") ∷ []) ∷ (Int (pos 2) ∷ Text (codes "row") ∷ []) ∷ (Int (pos 3) ∷ Text (codes "row") ∷ []) ∷ (Int (pos 4) ∷ Text (codes "row") ∷ []) ∷ (Int (pos 5) ∷ Text (codes "row") ∷ []) ∷ (Int (pos 10) ∷ Text (codes "row") ∷ []) ∷ (Int (pos 11) ∷ Text (codes "row") ∷ []) ∷ (Int (pos 12) ∷ Text (codes "row") ∷ []) ∷ (Int (pos 13) ∷ Text (codes "row") ∷ []) ∷ (Int (pos 14) ∷ Text (codes "row") ∷ []) ∷ (Int (pos 15) ∷ Text (codes "row") ∷ []) ∷ (Int (pos 20) ∷ Text (codes "row") ∷ []) ∷ (Int (pos 21) ∷ Text (codes "row") ∷ []) ∷ (Int (pos 22) ∷ Text (codes "row") ∷ []) ∷ (Int (pos 23) ∷ Text (codes "row") ∷ []) ∷ (Int (pos 24) ∷ Text (codes "row") ∷ []) ∷ (Int (pos 25) ∷ Text (codes "row") ∷ []) ∷ (Int (pos 30) ∷ Text (codes "row") ∷ []) ∷ (Int (pos 31) ∷ Text (codes "row") ∷ []) ∷ (Int (pos 32) ∷ Text (codes "row") ∷ []) ∷ (Int (pos 33) ∷ Text (codes "row") ∷ []) ∷ (Int (pos 34) ∷ Text (codes "row") ∷ []) ∷ (Int (pos 35) ∷ Text (codes "row") ∷ []) ∷ (Int (pos 40) ∷ Text (codes "row") ∷ []) ∷ (Int (pos 41) ∷ Text (codes "row") ∷ []) ∷ (Int (pos 42) ∷ Text (codes "row") ∷ []) ∷ (Int (pos 43) ∷ Text (codes "row") ∷ []) ∷ (Int (pos 44) ∷ Text (codes "row") ∷ []) ∷ (Int (pos 45) ∷ Text (codes "row") ∷ []) ∷ (Int (pos 50) ∷ Text (codes "row") ∷ []) ∷ (Int (pos 51) ∷ Text (codes "row") ∷ []) ∷ (Int (pos 52) ∷ Text (codes "row") ∷ []) ∷ (Int (pos 53) ∷ Text (codes "row") ∷ []) ∷ (Int (pos 54) ∷ Text (codes "row") ∷ []) ∷ (Int (pos 55) ∷ Text (codes "row") ∷ []) ∷ []) } ∷ []);
  indexes = (record { info = record { key = key_of (codes "ann") (codes "pi"); spec = spec.Index; attrs = []; keys = (1 ∷ []) }; base = key_of (codes "ann") (codes "p") } ∷ []);
  views = [];
  rules = ((key_of (codes "ann") (codes "p"), record { number = 2; qual = True }) ∷ (key_of (codes "ann") (codes "p"), record { number = 5; qual = True }) ∷ []);
  permits = ((key_of (codes "ann") (codes "p"), record { number = 1; ops = 3; attrs = ([]); user = None; qual = True }) ∷ (key_of (codes "ann") (codes "p"), record { number = 2; ops = 1; attrs = (0 ∷ []); user = Some (codes "bob"); qual = True }) ∷ (key_of (codes "ann") (codes "p"), record { number = 3; ops = 8; attrs = ([]); user = Some (codes "carla"); qual = True }) ∷ (key_of (codes "ann") (codes "q"), record { number = 1; ops = 1; attrs = ([]); user = None; qual = True }) ∷ []);
}
