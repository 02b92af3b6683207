-- A table of files that is made of the entries of a catalogue, one after the other.
use Rattle.std.proofs.Common.{◌≡◌, refl, sym, ap, ◌∙◌, ℕ, zero, suc, ◌+◌, ◌<◌, Bool, true, false, not, cond, ◌||◌, ◌&&◌, List, [], ◌∷◌, ◌++◌, length, map, take, get_or, Some, None, Option, option_map, rules, arith}
use Rattle.std.specs.Prelude.{is_some}
use Rattle.std.specs.List.{find, list_any}
use Rattle.std.proofs.lemmas.List.{take_more}
use Rattle.calculus.specs.declared.query.RelKey.{RelKey}
use Rattle.calculus.specs.Keys.{same_key}
use Rattle.calculus.specs.Lists.{differ_by, insert_by}
use Rattle.catalog_rows.specs.declared.entries.EntryRow.{EntryRow}
use Rattle.catalog_rows.specs.Shown.{entry_in}
use Rattle.stored_database.proofs.Orders.{same_key_is}
use Rattle.stored_database.specs.Entries.{Entry}
use Rattle.stored_database.specs.Printed.{files_in, entry_under}
use Rattle.catalog_moves.specs.declared.files.FilePlace.{FilePlace}
use Rattle.catalog_moves.specs.Files.{place_at, files_at, place_in, by_place}
use Rattle.catalog_moves.proofs.Tables.{place_put}

-- the first entry under a key
abbrev pub entry_of : RelKey → List EntryRow → Option EntryRow
entry_of key es = find (λ e. same_key e.key key) es

-- the places say what the entries say
abbrev pub Says : List FilePlace → List EntryRow → Type 0
Says places es = (key : RelKey) → place_at places key ≡ option_map place_in (entry_of key es)

-- the first of these that passes, else that one
abbrev or_last : {X : Type 0} → (X → Bool) → X → Option X → Option X
or_last test x None = cond (test x) (Some x) None
or_last test x (Some y) = Some y

find_last : {X : Type 0} (test : X → Bool) (xs : List X) (x : X) → find test (xs ++ x ∷ []) ≡ or_last test x (find test xs)
find_last test [] x = refl
find_last test (y ∷ ys) x = go (test y) (find_last test ys x)
  where
    go : (b : Bool) → find test (ys ++ x ∷ []) ≡ or_last test x (find test ys) → cond b (Some y) (find test (ys ++ x ∷ [])) ≡ or_last test x (cond b (Some y) (find test ys))
    go true later = refl
    go false later = later

pub nothing_said : (places : List FilePlace) → places ≡ [] → Says places []
unfolding place_at
nothing_said places e key = ap (λ (ps : List FilePlace). place_at ps key) e

pub one_more : (es : List EntryRow) (i : ℕ) (e : EntryRow) (old new : List FilePlace) → i < length es → e ≡ get_or es i e → Says old (take i es) → is_some (place_at old e.key) ≡ false
    → new ≡ insert_by by_place (place_in e) old → Says new (take (i + 1) es)
one_more es i e old new within is said fresh put key =
    ap (λ (ps : List FilePlace). place_at ps key) put
    ∙ place_put (place_in e) old key
    ∙ go (same_key e.key key) (entry_of key (take i es)) refl refl (said key)
    ∙ sym (ap (option_map place_in) (ap (entry_of key) (take_more es i e within ∙ ap (λ x. take i es ++ x ∷ []) (sym is)) ∙ find_last (λ e. same_key e.key key) (take i es) e))
  where
    none : same_key e.key key ≡ true → (x : EntryRow) → place_at old key ≡ Some (place_in x) → ⊥
    none same x at = cc (fresh, ap (λ k. is_some (place_at old k)) (same_key_is e.key key same), at)

    go : (b : Bool) (o : Option EntryRow) → same_key e.key key ≡ b → entry_of key (take i es) ≡ o → place_at old key ≡ option_map place_in o
        → cond b (Some (place_in e)) (place_at old key) ≡ option_map place_in (or_last (λ e. same_key e.key key) e o)
    go true (Some x) s f at = absurd (none s x at)
    go true None s f at = ap (λ b. option_map place_in (cond b (Some e) None)) (sym s)
    go false (Some x) s f at = at
    go false None s f at = at ∙ ap (λ b. option_map place_in (cond b (Some e) None)) (sym s)

-- ---- keys that stand twice

some_mapped : {X Y : Type 0} (f : X → Y) (o : Option X) → is_some (option_map f o) ≡ is_some o
some_mapped f None = refl
some_mapped f (Some x) = refl

any_at : (k : RelKey) (es : List EntryRow) (i : ℕ) (d : EntryRow) → i < length es → same_key k (get_or es i d).key ≡ true → list_any (same_key k) (map (λ (e : EntryRow). e.key) es) ≡ true
any_at k [] i d within h = absurd (omega (arith, within))
any_at k (e ∷ es) zero d within h = ap (λ b. b || list_any (same_key k) (map (λ (e : EntryRow). e.key) es)) h
any_at k (e ∷ es) (suc i) d within h = go (same_key k e.key) (any_at k es i d (search rules) h)
  where
    go : (b : Bool) → list_any (same_key k) (map (λ (e : EntryRow). e.key) es) ≡ true → (b || list_any (same_key k) (map (λ (e : EntryRow). e.key) es)) ≡ true
    go true later = refl
    go false later = later

twice : (es : List EntryRow) (i : ℕ) (d : EntryRow) → i < length es → is_some (entry_of (get_or es i d).key (take i es)) ≡ true → differ_by same_key (map (λ (e : EntryRow). e.key) es) ≡ false
twice [] i d within h = absurd (omega (arith, within))
twice (e ∷ es) zero d within h = cc h
twice (e ∷ es) (suc i) d within h = go (same_key e.key (get_or es i d).key) refl h (twice es i d (search rules))
  where
    k : RelKey
    k = (get_or es i d).key

    go : (b : Bool) → same_key e.key k ≡ b → is_some (cond b (Some e) (entry_of k (take i es))) ≡ true → (is_some (entry_of k (take i es)) ≡ true → differ_by same_key (map (λ (e : EntryRow). e.key) es) ≡ false)
        → (not (list_any (same_key e.key) (map (λ (e : EntryRow). e.key) es)) && differ_by same_key (map (λ (e : EntryRow). e.key) es)) ≡ false
    go true s h later = ap (λ b. not b && differ_by same_key (map (λ (e : EntryRow). e.key) es)) (any_at e.key es i d (search rules) s)
    go false s h later = ap (λ b. not (list_any (same_key e.key) (map (λ (e : EntryRow). e.key) es)) && b) (later h) ∙ never (not (list_any (same_key e.key) (map (λ (e : EntryRow). e.key) es)))
      where
        never : (b : Bool) → (b && false) ≡ false
        never true = refl
        never false = refl

pub stands_twice : (es : List EntryRow) (i : ℕ) (e : EntryRow) (old : List FilePlace) → i < length es → e ≡ get_or es i e → Says old (take i es) → is_some (place_at old e.key) ≡ true
    → differ_by same_key (map (λ (e : EntryRow). e.key) es) ≡ false
stands_twice es i e old within is said there =
    twice es i e within
    (ap (λ (e : EntryRow). is_some (entry_of e.key (take i es))) (sym is)
    ∙ sym (some_mapped place_in (entry_of e.key (take i es))) ∙ ap is_some (sym (said e.key)) ∙ there)

-- ---- the files

-- where the places say what the entries say, the files are those of the entries
pub files_said : (places : List FilePlace) (es : List EntryRow) → Says places es → files_at places ≡ files_in (record { entries = map entry_in es; columns = []; parts = [] })
unfolding files_at files_in entry_under
files_said places es said = λ i. record { file = λ k. file k i; used = λ k. used k i }
  where
    mapped : (k : RelKey) (es : List EntryRow) → find (λ (e : Entry). same_key e.key k) (map entry_in es) ≡ option_map entry_in (entry_of k es)
    mapped k [] = refl
    mapped k (e ∷ es) = go (same_key e.key k) (mapped k es)
      where
        go : (b : Bool) → find (λ (e : Entry). same_key e.key k) (map entry_in es) ≡ option_map entry_in (entry_of k es)
            → cond b (Some (entry_in e)) (find (λ (e : Entry). same_key e.key k) (map entry_in es)) ≡ option_map entry_in (cond b (Some e) (entry_of k es))
        go true later = refl
        go false later = later

    file_too : (o : Option EntryRow) → elim (option_map place_in o) as (λ (o : Option FilePlace). ℕ) [ None ↦ 0 | Some p ↦ p.file ] ≡ elim (option_map entry_in o) as (λ (o : Option Entry). ℕ) [ None ↦ 0 | Some e ↦ e.file ]
    file_too None = refl
    file_too (Some e) = refl

    used_too : (o : Option EntryRow) → elim (option_map place_in o) as (λ (o : Option FilePlace). ℕ) [ None ↦ 0 | Some p ↦ p.used ] ≡ elim (option_map entry_in o) as (λ (o : Option Entry). ℕ) [ None ↦ 0 | Some e ↦ e.used ]
    used_too None = refl
    used_too (Some e) = refl

    file : (k : RelKey) → elim (place_at places k) as (λ (o : Option FilePlace). ℕ) [ None ↦ 0 | Some p ↦ p.file ] ≡ elim (find (λ (e : Entry). same_key e.key k) (map entry_in es)) as (λ (o : Option Entry). ℕ) [ None ↦ 0 | Some e ↦ e.file ]
    file k =
        ap (λ (o : Option FilePlace). elim o as (λ (o : Option FilePlace). ℕ) [ None ↦ 0 | Some p ↦ p.file ]) (said k)
        ∙ file_too (entry_of k es)
        ∙ ap (λ (o : Option Entry). elim o as (λ (o : Option Entry). ℕ) [ None ↦ 0 | Some e ↦ e.file ]) (sym (mapped k es))

    used : (k : RelKey) → elim (place_at places k) as (λ (o : Option FilePlace). ℕ) [ None ↦ 0 | Some p ↦ p.used ] ≡ elim (find (λ (e : Entry). same_key e.key k) (map entry_in es)) as (λ (o : Option Entry). ℕ) [ None ↦ 0 | Some e ↦ e.used ]
    used k =
        ap (λ (o : Option FilePlace). elim o as (λ (o : Option FilePlace). ℕ) [ None ↦ 0 | Some p ↦ p.used ]) (said k)
        ∙ used_too (entry_of k es)
        ∙ ap (λ (o : Option Entry). elim o as (λ (o : Option Entry). ℕ) [ None ↦ 0 | Some e ↦ e.used ]) (sym (mapped k es))
