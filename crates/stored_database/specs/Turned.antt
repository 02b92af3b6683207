-- The same database with the rows of its catalogues in the other order, as a batch that waits.
use Rattle.std.specs.Prelude.{[], ◌∷◌, ◌++◌, replicate}
use Rattle.disk_model.specs.Disk.{Image}
use Rattle.batch_file.specs.Layout.{Entries, addr}
use Rattle.batch_file.specs.Redone.{laid}
use Rattle.stored_database.specs.Permits as permits

-- the pages of the batch and its gate
abbrev pub pages : Entries
pages = (addr 1 0, ((1 ∷ []) ++ replicate 1023 0))
    ∷ (addr 2 0, ((66 ∷ 65 ∷ 84 ∷ 67 ∷ 72 ∷ 55 ∷ 32 ∷ 32 ∷ 3 ∷ []) ++ replicate 1015 0))
    ∷ (addr 3 0, ((5 ∷ []) ++ replicate 7 0 ++ (6 ∷ []) ++ replicate 7 0 ++ (7 ∷ []) ++ replicate 1007 0))
    ∷ (addr 4 0, ((0 ∷ 0 ∷ 0 ∷ 0 ∷ 5 ∷ 0 ∷ 252 ∷ 2 ∷ 252 ∷ 2 ∷ 52 ∷ 0 ∷ 48 ∷ 3 ∷ 52 ∷ 0 ∷ 100 ∷ 3 ∷ 52 ∷ 0 ∷ 152 ∷ 3 ∷ 52 ∷ 0 ∷ 204 ∷ 3 ∷ 52 ∷ []) ++ replicate 737 0 ++ (20 ∷ 0 ∷ 0 ∷ 0 ∷ 97 ∷ 110 ∷ 110 ∷ []) ++ replicate 9 32 ++ (112 ∷ 105 ∷ []) ++ replicate 10 32 ++ (4 ∷ 17 ∷ 0 ∷ 0 ∷ 0 ∷ 0 ∷ 0 ∷ 0 ∷ 0 ∷ 0 ∷ 0 ∷ 0 ∷ 0 ∷ 0 ∷ 0 ∷ 0 ∷ 0 ∷ 1 ∷ 1 ∷ 0 ∷ 0 ∷ 0 ∷ 0 ∷ 0 ∷ 19 ∷ 0 ∷ 0 ∷ 0 ∷ 97 ∷ 110 ∷ 110 ∷ []) ++ replicate 9 32 ++ (119 ∷ []) ++ replicate 11 32 ++ (0 ∷ 0 ∷ 0 ∷ 0 ∷ 0 ∷ 1 ∷ []) ++ replicate 7 0 ++ (3 ∷ []) ++ replicate 10 0 ++ (18 ∷ 0 ∷ 0 ∷ 0 ∷ 97 ∷ 110 ∷ 110 ∷ []) ++ replicate 9 32 ++ (113 ∷ []) ++ replicate 11 32 ++ (0 ∷ 0 ∷ 0 ∷ 0 ∷ 0 ∷ 1 ∷ []) ++ replicate 7 0 ++ (1 ∷ []) ++ replicate 10 0 ++ (17 ∷ 0 ∷ 0 ∷ 0 ∷ 97 ∷ 110 ∷ 110 ∷ []) ++ replicate 9 32 ++ (112 ∷ []) ++ replicate 11 32 ++ (0 ∷ 0 ∷ 0 ∷ 0 ∷ 0 ∷ 1 ∷ []) ++ replicate 7 0 ++ (1 ∷ []) ++ replicate 10 0 ++ (16 ∷ 0 ∷ 0 ∷ 0 ∷ 97 ∷ 110 ∷ 110 ∷ []) ++ replicate 9 32 ++ (100 ∷ 105 ∷ 103 ∷ []) ++ replicate 9 32 ++ (0 ∷ 0 ∷ 0 ∷ 0 ∷ 0 ∷ 1 ∷ []) ++ replicate 7 0 ++ (1 ∷ []) ++ replicate 10 0))
    ∷ (addr 4 1, ((0 ∷ 0 ∷ 0 ∷ 0 ∷ 6 ∷ 0 ∷ 142 ∷ 3 ∷ 142 ∷ 3 ∷ 19 ∷ 0 ∷ 161 ∷ 3 ∷ 19 ∷ 0 ∷ 180 ∷ 3 ∷ 19 ∷ 0 ∷ 199 ∷ 3 ∷ 19 ∷ 0 ∷ 218 ∷ 3 ∷ 19 ∷ 0 ∷ 237 ∷ 3 ∷ 19 ∷ []) ++ replicate 879 0 ++ (19 ∷ 0 ∷ 0 ∷ 0 ∷ 1 ∷ 116 ∷ []) ++ replicate 11 32 ++ (3 ∷ 60 ∷ 19 ∷ 0 ∷ 0 ∷ 0 ∷ 0 ∷ 110 ∷ []) ++ replicate 11 32 ++ (1 ∷ 2 ∷ 18 ∷ 0 ∷ 0 ∷ 0 ∷ 0 ∷ 107 ∷ []) ++ replicate 11 32 ++ (2 ∷ 4 ∷ 17 ∷ 0 ∷ 0 ∷ 0 ∷ 1 ∷ 116 ∷ []) ++ replicate 11 32 ++ (3 ∷ 3 ∷ 17 ∷ 0 ∷ 0 ∷ 0 ∷ 0 ∷ 97 ∷ []) ++ replicate 11 32 ++ (1 ∷ 2 ∷ 16 ∷ 0 ∷ 0 ∷ 0 ∷ 0 ∷ 120 ∷ []) ++ replicate 11 32 ++ (0 ∷ 1 ∷ [])))
    ∷ (addr 4 2, ((0 ∷ 0 ∷ 0 ∷ 0 ∷ 6 ∷ 0 ∷ 133 ∷ 3 ∷ 133 ∷ 3 ∷ 20 ∷ 0 ∷ 153 ∷ 3 ∷ 26 ∷ 0 ∷ 179 ∷ 3 ∷ 25 ∷ 0 ∷ 204 ∷ 3 ∷ 20 ∷ 0 ∷ 224 ∷ 3 ∷ 16 ∷ 0 ∷ 240 ∷ 3 ∷ 16 ∷ []) ++ replicate 870 0 ++ (18 ∷ 0 ∷ 0 ∷ 0 ∷ 2 ∷ 1 ∷ []) ++ replicate 8 0 ++ (1 ∷ 1 ∷ 0 ∷ 0 ∷ 0 ∷ 0 ∷ 17 ∷ 0 ∷ 0 ∷ 0 ∷ 2 ∷ 3 ∷ []) ++ replicate 8 0 ++ (3 ∷ 8 ∷ 0 ∷ 0 ∷ 1 ∷ 5 ∷ 99 ∷ 97 ∷ 114 ∷ 108 ∷ 97 ∷ 0 ∷ 17 ∷ 0 ∷ 0 ∷ 0 ∷ 2 ∷ 2 ∷ []) ++ replicate 8 0 ++ (2 ∷ 1 ∷ 0 ∷ 1 ∷ 0 ∷ 1 ∷ 3 ∷ 98 ∷ 111 ∷ 98 ∷ 0 ∷ 17 ∷ 0 ∷ 0 ∷ 0 ∷ 2 ∷ 1 ∷ []) ++ replicate 8 0 ++ (1 ∷ 3 ∷ 0 ∷ 0 ∷ 0 ∷ 0 ∷ 17 ∷ 0 ∷ 0 ∷ 0 ∷ 1 ∷ 5 ∷ []) ++ replicate 8 0 ++ (5 ∷ 0 ∷ 17 ∷ 0 ∷ 0 ∷ 0 ∷ 1 ∷ 2 ∷ []) ++ replicate 8 0 ++ (2 ∷ 0 ∷ [])))
    ∷ []

-- an image of these pages over those of the database
abbrev pub image : Image
image = laid pages permits.image
