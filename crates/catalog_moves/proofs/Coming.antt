-- Rows that come behind others, one after the other.
use Rattle.std.proofs.Common.{◌≡◌, refl, sym, ap, ◌∙◌, subst, ℕ, zero, suc, ◌+◌, ◌<◌, ◌≤◌, true, List, [], ◌∷◌, ◌++◌, append_assoc, length, map, take, get_or, rules, arith}
use Rattle.std.specs.Prelude.{nat_lt, All}
use Rattle.std.specs.List.{AllByRecursion, flat_map}
use Rattle.std.proofs.lemmas.Bool.{lt-ltb}
use Rattle.std.proofs.lemmas.List.{append-nil, take_more, map-append, length-take}
use Rattle.std.proofs.lemmas.List.Concat.{flat_map-append}
use Rattle.std.proofs.lemmas.List.Sorted.{IsPermutation-refl}
use Rattle.std.specs.List.Sorted.{IsPermutation}
use Rattle.calculus.specs.declared.schema.Attr.{Attr}
use Rattle.page_chain.specs.Lying.{IsShort}
use Rattle.stored_database.specs.Catalogue.{Catalogue}
use Rattle.stored_database.specs.Columns.{column_bytes}
use Rattle.stored_database.specs.Entries.{Entry, entry_bytes}
use Rattle.stored_database.specs.Parts.{Part, part_bytes}
use Rattle.stored_database.specs.Printed.{columns_from}
use Rattle.stored_database.specs.Trees.{parts_from}
use Rattle.stored_database.proofs.Pairs.{all_append}
use Rattle.catalog_moves.specs.declared.rows.SomeRows.{SomeRows}
use Rattle.catalog_moves.specs.Moves.{Came, CameParts, AreRows, FitOnPages}

pub came_none : (old new : List (List ℕ)) → new ≡ old → Came old new []
came_none old new e = record { rows = e ∙ sym (append-nil old); short = tt }

pub came_then : (a b c xs ys : List (List ℕ)) → Came a b xs → Came b c ys → Came a c (xs ++ ys)
came_then a b c xs ys one two = record {
  rows = two.rows ∙ ap (λ l. l ++ ys) one.rows ∙ append_assoc a xs ys;
  short = all_append (λ row. IsShort row) xs ys one.short two.short;
}

pub parts_none : (old new : List (List ℕ)) → new ≡ old → CameParts old new []
parts_none old new e = record { came = came_none old new e; placed = tt }

pub parts_then : (a b c : List (List ℕ)) (xs ys : List Part) → CameParts a b xs → CameParts b c ys → CameParts a c (xs ++ ys)
parts_then a b c xs ys one two = record {
  came = subst (Came a c) (sym (map-append part_bytes xs ys)) (came_then a b c (map part_bytes xs) (map part_bytes ys) one.came two.came);
  placed = all_append (λ p. nat_lt p.place 65536 ≡ true) xs ys one.placed two.placed;
}

-- what holds of all holds at a place
pub all_at : {X : Type 0} (P : X → Type 0) (xs : List X) (i : ℕ) (d : X) → i < length xs → AllByRecursion P xs → P (get_or xs i d)
all_at P [] i d within all = absurd (omega (arith, within))
all_at P (x ∷ xs) zero d within all = all.0
all_at P (x ∷ xs) (suc i) d within all = all_at P xs i d (search rules) all.1

-- one more of those whose parts come
pub flat_more : {X : Type 0} (g : X → List Part) (xs : List X) (i : ℕ) (x : X) → i < length xs → x ≡ get_or xs i x → (a b c : List (List ℕ))
    → CameParts a b (flat_map g (take i xs)) → CameParts b c (g x) → CameParts a c (flat_map g (take (i + 1) xs))
flat_more g xs i x within is a b c before one =
    subst (CameParts a c)
    (sym (ap (flat_map g) (take_more xs i x within ∙ ap (λ y. take i xs ++ y ∷ []) (sym is)) ∙ flat_map-append g (take i xs) (x ∷ []) ∙ ap (λ l. flat_map g (take i xs) ++ l) (append-nil (g x))))
    (parts_then a b c (flat_map g (take i xs)) (g x) before one)

-- ---- columns

columns_last : (file place : ℕ) (attrs : List Attr) (a : Attr) → columns_from file place (attrs ++ a ∷ []) ≡ columns_from file place attrs ++ record { file = file; place = place + length attrs; attr = a } ∷ []
unfolding columns_from
columns_last file place [] a = ap (λ n. record { file = file; place = n; attr = a } ∷ []) (omega arith)
columns_last file place (b ∷ attrs) a =
    ap (λ l. record { file = file; place = place; attr = b } ∷ l)
    (columns_last file (suc place) attrs a ∙ ap (λ n. columns_from file (suc place) attrs ++ record { file = file; place = n; attr = a } ∷ []) (omega arith))

pub columns_more : (file : ℕ) (attrs : List Attr) (i : ℕ) (a : Attr) → i < length attrs → a ≡ get_or attrs i a → (old mid new : List (List ℕ))
    → Came old mid (map column_bytes (columns_from file 0 (take i attrs))) → Came mid new (column_bytes (record { file = file; place = i; attr = a }) ∷ [])
    → Came old new (map column_bytes (columns_from file 0 (take (i + 1) attrs)))
columns_more file attrs i a within is old mid new before one =
    subst (Came old new) (sym (ap (map column_bytes) whole ∙ map-append column_bytes (columns_from file 0 (take i attrs)) _))
    (came_then old mid new (map column_bytes (columns_from file 0 (take i attrs))) _ before one)
  where
    whole : columns_from file 0 (take (i + 1) attrs) ≡ columns_from file 0 (take i attrs) ++ record { file = file; place = i; attr = a } ∷ []
    whole =
        ap (columns_from file 0) (take_more attrs i a within ∙ ap (λ b. take i attrs ++ b ∷ []) (sym is))
        ∙ columns_last file 0 (take i attrs) a
        ∙ ap (λ n. columns_from file 0 (take i attrs) ++ record { file = file; place = n; attr = a } ∷ []) (omega (arith, length-take i attrs, within))

-- ---- places

pub few_placed : (file sort number place : ℕ) (pieces : List (List ℕ)) → place + length pieces ≤ 65536 → AllByRecursion (λ p. nat_lt p.place 65536 ≡ true) (parts_from file sort number place pieces)
unfolding parts_from
few_placed file sort number place [] few = tt
few_placed file sort number place (piece ∷ more) few = (lt-ltb place 65536 (omega (arith, few)), few_placed file sort number (suc place) more (omega (arith, few)))

pub as_many_parts : (file sort number place : ℕ) (pieces : List (List ℕ)) → length (map part_bytes (parts_from file sort number place pieces)) ≡ length pieces
unfolding parts_from
as_many_parts file sort number place [] = refl
as_many_parts file sort number place (piece ∷ more) = ap suc (as_many_parts file sort number (suc place) more)

-- the parts of a tree with these bytes come
pub bytes_come : (file sort number : ℕ) (pieces : List (List ℕ)) (old new rows : List (List ℕ)) → rows ≡ map part_bytes (parts_from file sort number 0 pieces) → Came old new rows → length rows ≤ 65536
    → CameParts old new (parts_from file sort number 0 pieces)
bytes_come file sort number pieces old new rows are came few = record {
  came = subst (Came old new) are came;
  placed = few_placed file sort number 0 pieces (omega (arith, few, ap length are, as_many_parts file sort number 0 pieces));
}

-- ---- rows that came where there were none

pub came_are : (old new came : List (List ℕ)) → old ≡ [] → Came old new came → new ≡ came
came_are old new came e c = c.rows ∙ ap (λ l. l ++ came) e

pub came_short : (old new came : List (List ℕ)) → old ≡ [] → Came old new came → AllByRecursion (λ row. IsShort row) new
came_short old new came e c = subst (λ rows. AllByRecursion (λ row. IsShort row) rows) (sym (came_are old new came e c)) c.short

pub are_rows : (rows : SomeRows) (cat : Catalogue) (es cs ps : List (List ℕ)) → es ≡ [] → cs ≡ [] → ps ≡ []
    → Came es rows.entries.items (map entry_bytes cat.entries) → Came cs rows.columns.items (map column_bytes cat.columns) → CameParts ps rows.parts.items cat.parts → AreRows cat rows
are_rows rows cat es cs ps e f g entries columns parts = record {
  entries = came_are es rows.entries.items _ e entries;
  columns = came_are cs rows.columns.items _ f columns;
  parts = came_are ps rows.parts.items _ g parts.came;
  short_entries = came_short es rows.entries.items _ e entries;
  short_columns = came_short cs rows.columns.items _ f columns;
  short_parts = came_short ps rows.parts.items _ g parts.came;
  placed = parts.placed;
}

pub only_parts : (rows : SomeRows) (ps : List Part) (old : List (List ℕ)) → rows.entries.items ≡ [] → rows.columns.items ≡ [] → old ≡ [] → CameParts old rows.parts.items ps
    → AreRows (record { entries = []; columns = []; parts = ps }) rows
only_parts rows ps old e f g parts = are_rows rows (record { entries = []; columns = []; parts = ps }) [] [] old refl refl g (came_none [] rows.entries.items e) (came_none [] rows.columns.items f) parts

pub none_rows : (rows : SomeRows) → rows.entries.items ≡ [] → rows.columns.items ≡ [] → rows.parts.items ≡ [] → AreRows (record { entries = []; columns = []; parts = [] }) rows
none_rows rows e f g = only_parts rows [] [] e f refl (parts_none [] rows.parts.items g)

-- ---- rows that fit on pages

-- with what came they fit as they did
pub came_fit : (old new came : List (List ℕ)) → AllByRecursion (λ row. IsShort row) old → Came old new came → AllByRecursion (λ row. IsShort row) new
came_fit old new came fit c = subst (λ rows. AllByRecursion (λ row. IsShort row) rows) (sym c.rows) (all_append (λ row. IsShort row) old came fit c.short)

-- no rows do
pub none_fit : (rows : SomeRows) → rows.entries.items ≡ [] → rows.columns.items ≡ [] → rows.parts.items ≡ [] → FitOnPages rows
none_fit rows e f g = let none = none_rows rows e f g in record { entries = none.short_entries; columns = none.short_columns; parts = none.short_parts }

-- ---- rows that go and come

pub are_short : (rows : List (List ℕ)) → AllByRecursion (λ row. IsShort row) rows → All (λ row. IsShort row) rows
are_short rows h k d within = all_at (λ row. IsShort row) rows k d within h

pub as_they_are : (xs ys : List (List ℕ)) → xs ≡ ys → IsPermutation xs ys
as_they_are xs ys e = subst (IsPermutation xs) e (IsPermutation-refl xs)

-- one more of those whose rows come
pub rows_more : {X : Type 0} (g : X → List (List ℕ)) (xs : List X) (i : ℕ) (x : X) → i < length xs → x ≡ get_or xs i x → (a b c : List (List ℕ))
    → Came a b (flat_map g (take i xs)) → Came b c (g x) → Came a c (flat_map g (take (i + 1) xs))
rows_more g xs i x within is a b c before one =
    subst (Came a c)
    (sym (ap (flat_map g) (take_more xs i x within ∙ ap (λ y. take i xs ++ y ∷ []) (sym is)) ∙ flat_map-append g (take i xs) (x ∷ []) ∙ ap (λ l. flat_map g (take i xs) ++ l) (append-nil (g x))))
    (came_then a b c (flat_map g (take i xs)) (g x) before one)

pub only_entries : (rows : SomeRows) (es : List Entry) (old : List (List ℕ)) → old ≡ [] → rows.columns.items ≡ [] → rows.parts.items ≡ [] → Came old rows.entries.items (map entry_bytes es)
    → AreRows (record { entries = es; columns = []; parts = [] }) rows
only_entries rows es old e f g came = are_rows rows (record { entries = es; columns = []; parts = [] }) old [] [] e refl refl came (came_none [] rows.columns.items f) (parts_none [] rows.parts.items g)

-- so it is where the list is known by another name, and what the rows are of too
pub more_of : {X D : Type 0} (g : D → X → List (List ℕ)) (xs ds : List X) → ds ≡ xs → (i : ℕ) (x : X) → i < length ds → x ≡ get_or ds i x → (a b c : List (List ℕ)) (s t : D) → t ≡ s
    → Came a b (flat_map (g s) (take i xs)) → Came b c (g t x) → Came a c (flat_map (g s) (take (i + 1) xs))
more_of g xs ds e i x within is a b c s t same before one =
    rows_more (g s) xs i x (subst (λ l. i < length l) e within) (subst (λ l. x ≡ get_or l i x) e is) a b c before (subst (λ s. Came b c (g s x)) same one)

-- one more of those whose parts come
pub parts_of : {X D : Type 0} (g : D → X → List Part) (xs ds : List X) → ds ≡ xs → (i : ℕ) (x : X) → i < length ds → x ≡ get_or ds i x → (a b c : List (List ℕ)) (s t : D) → t ≡ s
    → CameParts a b (flat_map (g s) (take i xs)) → CameParts b c (g t x) → CameParts a c (flat_map (g s) (take (i + 1) xs))
parts_of g xs ds e i x within is a b c s t same before one =
    flat_more (g s) xs i x (subst (λ l. i < length l) e within) (subst (λ l. x ≡ get_or l i x) e is) a b c before (subst (λ s. CameParts b c (g s x)) same one)
