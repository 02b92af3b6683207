-- The pages of a relation whose rows change, or that is made.
use Rattle.std.proofs.Common.{◌≡◌, refl, sym, ap, ap₂, subst, ◌∙◌, inl, inr, ℕ, ◌^◌, ◌<◌, ◌≤◌, nat_le, ◌&&◌, not, Bool, true, false, IsTrue, All, List, [], ◌∷◌, map, length, Option, Some, None, arith}
use Rattle.std.specs.Prelude.{◌⊎◌, is_some}
use Rattle.std.specs.List.{list_all, list_any}
use Rattle.std.specs.List.Sorted.{IsStrictlySortedBy}
use Rattle.std.specs.declared.cmp.Ordering.TheVariants.{Less, Equal, Greater}
use Rattle.std.proofs.lemmas.Bool.Decides.{nat_tests}
use Rattle.std.proofs.lemmas.Cmp.{tied_itself}
use Rattle.std.proofs.lemmas.List.Elements.{All-from_recursion}
use Rattle.std.proofs.lemmas.Option.{same_Some, none-some}
use Rattle.am_traits.specs.Pages.{SameElsewhere, KeepsOthers}
use Rattle.calculus.specs.declared.schema.RelFile.{RelFile}
use Rattle.calculus.specs.declared.query.RelKey.{RelKey}
use Rattle.calculus.specs.declared.change.DbChange.{DbChange}
use Rattle.calculus.specs.declared.change.DbChange.TheVariants as change
use Rattle.calculus.specs.declared.schema.Attr.{Attr}
use Rattle.calculus.specs.declared.schema.RelInfo.{RelInfo}
use Rattle.calculus.specs.declared.value.Domain.{Domain}
use Rattle.calculus.specs.declared.value.Kind.{Kind}
use Rattle.calculus.specs.declared.value.Kind.TheVariants.{Of, Wide}
use Rattle.calculus.specs.Change.{IsLawful, names_what_is_there, adds_what_is_new, lists_once, rows_differ}
use Rattle.calculus.specs.Database.{Db, Relation, relation_at, is_relation, entries}
use Rattle.calculus.specs.IsDatabase.{IsDatabase, value_fits, row_fits, relation_rows_fit, attrs_stand, are_stored}
use Rattle.calculus.specs.Keys.{same_key, key_cmp}
use Rattle.calculus.specs.Limits.{most_rows}
use Rattle.calculus.specs.Replacement.{with_rows, without_rows}
use Rattle.calculus.specs.Rows.{Row, has, set_of}
use Rattle.calculus.specs.Stored.{rows_at, attrs_at}
use Rattle.calculus.specs.Value.{row_cmp}
use Rattle.std.specs.Ordering.{eq_by_cmp, is_eq}
use Rattle.std.specs.declared.cmp.Ordering.{Ordering}
use Rattle.calculus.specs.Orders.{row_exact}
use Rattle.catalog_pages.proofs.Items.{any_of}
use Rattle.change_laws.specs.Fit.{change_is_fit, rows_are_fit, relation_is_fit, key_is_free}
use Rattle.change_laws.proofs.Exactly.{fits_exactly}
use Rattle.disk_model.specs.Disk.{Image}
use Rattle.disk_model.specs.declared.disk.Addr.{Addr}
use Rattle.page_cells.specs.RowBytes.{is_row}
use Rattle.page_chain.specs.Lists.{◌>>=◌, each}
use Rattle.page_chain.specs.Pages.{pages_of}
use Rattle.page_chain.specs.Rows.{set_on, reader}
use Rattle.plan_laws.proofs.RowsChanged.{its_rows, its_attrs}
use Rattle.relation_rows.specs.Sets.{HasSet, HasNoneOf}
use Rattle.schema_laws.proofs.Alike.{attrs_alike}
use Rattle.stored_database.specs.Printed.{Files, is_file, rows_in}
use Rattle.stored_database.specs.Spelled.{domain_of}
use Rattle.stored_database.proofs.Members.{IsIn, of_all, all_of, of_tests, tests_of, in_map, in_first, found_in, each_parts}
use Rattle.stored_database.proofs.Orders.{key_total, same_key_is}
use Rattle.stored_database.proofs.Pairs.{pass_all}
use Rattle.stored_database.proofs.Reading.{both, together}
use Rattle.stored_database.specs.Names.{is_number32}
use Rattle.catalog_laws.specs.Placed.{Suits, MakesPages, IsMade, IsFree, is_used}
use Rattle.catalog.specs.Filling.{IsFileOf, IsFileWith}
use Rattle.catalog.specs.Laid.{MayTake, HasMade, PutsNoRows, SeesTheSame}

-- ---- rows that fit

fits_kind : (a : Attr) (d : Domain) (k : Kind) → a.kind ≡ k → domain_of a ≡ Some d → a.kind ≡ Of d
fits_kind a d (Of e) is h = is ∙ ap Of (same_Some e d (sym (ap (λ (k : Kind). elim k as (λ k. Option Domain) [ Wide ↦ None | Of domain ↦ Some domain ]) is) ∙ h))
fits_kind a d Wide is h = absurd (none-some d (sym (ap (λ (k : Kind). elim k as (λ k. Option Domain) [ Wide ↦ None | Of domain ↦ Some domain ]) is) ∙ h))

-- a row that fits attributes has a value for each domain
fits_domains : (attrs : List Attr) (ds : List Domain) (row : Row) → each domain_of attrs ≡ Some ds → row_fits attrs row ≡ true → is_row row ds ≡ true
fits_domains [] ds [] h fit = ap (is_row []) (sym (same_Some [] ds h))
fits_domains [] ds (v ∷ vs) h fit = absurd (cc fit)
fits_domains (a ∷ attrs) ds [] h fit = absurd (cc fit)
fits_domains (a ∷ attrs) ds (v ∷ vs) h fit =
    let p = each_parts domain_of a attrs ds h in
    let two = both (value_fits v a.kind) (row_fits attrs vs) fit in
    ap (is_row (v ∷ vs)) p.4 ∙ ap₂ (λ (s t : Bool). s && t) (sym (ap (value_fits v) (fits_kind a p.0 a.kind refl p.2)) ∙ two.0) (fits_domains attrs p.1 vs p.3 two.1)

pub all_rows : (attrs : List Attr) (ds : List Domain) (rows : List Row) → each domain_of attrs ≡ Some ds → list_all (row_fits attrs) rows ≡ true → All (λ row. IsTrue (is_row row ds)) rows
all_rows attrs ds rows h fit =
    All-from_recursion (λ row. IsTrue (is_row row ds)) rows (all_of (λ row. IsTrue (is_row row ds)) rows (λ row at. fits_domains attrs ds row h (of_tests (row_fits attrs) rows row fit at)))

-- ---- relations

-- two relations of a database with one key are one
one_of : (rs : List Relation) → IsStrictlySortedBy key_cmp (map (λ (r : Relation). r.info.key) rs) → (a b : Relation) → IsIn a rs → IsIn b rs → a.info.key ≡ b.info.key → a ≡ b
unfolding IsStrictlySortedBy
one_of [] up a b at bt e = absurd at
one_of (r ∷ rs) up a b (inl h) (inl k) e = h ∙ sym k
one_of (r ∷ rs) up a b (inl h) (inr bt) e =
    cc (
      tied_itself key_total r.info.key,
      of_all (λ k. key_cmp r.info.key k ≡ Less) (map (λ (r : Relation). r.info.key) rs) b.info.key up.0 (in_map (λ (r : Relation). r.info.key) rs b bt),
      ap (key_cmp r.info.key) (sym e ∙ ap (λ (s : Relation). s.info.key) h),
    )
one_of (r ∷ rs) up a b (inr at) (inl k) e =
    cc (
      tied_itself key_total r.info.key,
      of_all (λ k. key_cmp r.info.key k ≡ Less) (map (λ (r : Relation). r.info.key) rs) a.info.key up.0 (in_map (λ (r : Relation). r.info.key) rs a at),
      ap (key_cmp r.info.key) (e ∙ ap (λ (s : Relation). s.info.key) k),
    )
one_of (r ∷ rs) up a b (inr at) (inr bt) e = one_of rs up.1 a b at bt e

-- A relation that stands under a key.
pub record Under (db : Db) (key : RelKey) : Type 0 where
  pub r : Relation
  pub found : relation_at db key ≡ Some r
  pub there : IsIn r db.relations
  pub named : r.info.key ≡ key

pub under : (db : Db) (key : RelKey) → is_relation db key ≡ true → Under db key
under db key e = go (relation_at db key) refl e
  where
    go : (o : Option Relation) → relation_at db key ≡ o → is_some o ≡ true → Under db key
    go None is e = absurd (cc e)
    go (Some r) is e = let at = found_in (λ (r : Relation). same_key r.info.key key) db.relations r is in record { r = r; found = is; there = at.0; named = same_key_is r.info.key key at.1 }

pub named_relation : (db : Db) (rel : RelKey) (remove add : List Row) → IsLawful db (change.Rows rel remove add) → is_relation db rel ≡ true
unfolding names_what_is_there
named_relation db rel remove add lawful = (both (is_relation db rel) _ lawful.names_are_there).0

-- ---- rows of a relation change

-- what is known of rows that go and come
pub record RowsGo (rows remove add : List Row) : Type 0 where
  pub differ : rows_differ remove ≡ true
  pub there : All (λ row. IsTrue (has rows row)) remove
  pub new_differ : rows_differ add ≡ true
  pub new : list_any (has rows) add ≡ false

not_so : (b : Bool) → not b ≡ true → b ≡ false
not_so true e = absurd (cc e)
not_so false e = refl

rows_go : (db : Db) (rel : RelKey) (remove add : List Row) → IsLawful db (change.Rows rel remove add) → RowsGo (rows_at db rel) remove add
unfolding names_what_is_there adds_what_is_new lists_once
rows_go db rel remove add lawful =
    let once = both (rows_differ remove) (rows_differ add) lawful.nothing_is_listed_twice in
    let named = both (is_relation db rel) (list_all (has (rows_at db rel)) remove) lawful.names_are_there in
    record {
      differ = once.0;
      there = All-from_recursion (λ row. IsTrue (has (rows_at db rel) row)) remove (pass_all (has (rows_at db rel)) remove named.1);
      new_differ = once.1;
      new = not_so (list_any (has (rows_at db rel)) add) lawful.additions_are_new;
    }

equal_of : (o : Ordering) → is_eq o ≡ true → o ≡ Equal
equal_of Less e = cc e
equal_of Equal e = refl
equal_of Greater e = cc e

-- what passes of all rows passes of those that are among them
all_among : (test : Row → Bool) (rows others : List Row) → list_all test rows ≡ true → list_all (has rows) others ≡ true → list_all test others ≡ true
all_among test rows others all among = tests_of test others (λ row at. passes row (any_of (eq_by_cmp row_cmp row) rows (of_tests (has rows) others row among at)))
  where
    passes : (row : Row) → (x : Row) × IsIn x rows × (eq_by_cmp row_cmp row x ≡ true) → test row ≡ true
    passes row its = ap test (row_exact row its.0 (equal_of (row_cmp row its.0) its.2)) ∙ of_tests test rows its.0 all its.1

-- a number of pages that is one at least and has four bytes
used_small : (used : ℕ) → 1 ≤ used → used < 2 ^ 32 → is_used used
used_small used some few = together (nat_le 1 used) (is_number32 used) (grind (arith, nat_tests)) (grind (arith, nat_tests))

-- those that go and come fit
pub rows_that_go_fit : (part : Db) (f : Files) (rel : RelKey) (remove add : List Row) (file : RelFile) → IsDatabase part → IsLawful part (change.Rows rel remove add) → IsFileOf part f rel file
    → All (λ row. IsTrue (is_row row file.domains)) remove × All (λ row. IsTrue (is_row row file.domains)) add
unfolding rows_are_fit change_is_fit
rows_that_go_fit part f rel remove add file is lawful its =
    let u = under part rel (named_relation part rel remove add lawful) in
    let domains = its.domains u.r (sym u.found) in
    let same : attrs_at part rel ≡ u.r.info.attrs = its_attrs part rel u.r u.found in
    let fit : rows_are_fit part rel remove add ≡ true = (fits_exactly part (change.Rows rel remove add) is).1 lawful in
    let a = both (is_relation part rel) _ fit in
    let b = both (list_all (has (rows_at part rel)) remove) _ a.1 in
    let c = both (not (list_any (has (rows_at part rel)) add)) _ b.1 in
    let d = both (rows_differ remove) _ c.1 in
    let e = both (rows_differ add) _ d.1 in
    let g = both (list_all (row_fits (attrs_at part rel)) add) _ e.1 in
    let stored : list_all (row_fits (attrs_at part rel)) (rows_at part rel) ≡ true =
    (λ i. list_all (row_fits (same i)) (its_rows part rel u.r u.found i)) ∙ of_tests relation_rows_fit part.relations u.r is.rows_fit u.there in (
      all_rows u.r.info.attrs file.domains remove domains (subst (λ attrs. list_all (row_fits attrs) remove ≡ true) same (all_among (row_fits (attrs_at part rel)) (rows_at part rel) remove stored b.0)),
      all_rows u.r.info.attrs file.domains add domains (subst (λ attrs. list_all (row_fits attrs) add ≡ true) same g.0),
    )

-- The relation of a database whose rows change, and the set of its rows on its pages.
pub record Standing (db : Db) (rel : RelKey) (remove add : List Row) (file : RelFile) (m : Image) : Type 0 where
  pub at : Under db rel
  pub read : each domain_of at.r.info.attrs ≡ Some file.domains
  pub set : set_on (reader file.domains) file.used (pages_of m file.file) ≡ Some at.r.rows
  pub go : RowsGo at.r.rows remove add
  pub alone : (s : Relation) → IsIn s db.relations → same_key s.info.key rel ≡ true → s ≡ at.r

pub standing : (part db : Db) (f : Files) (rel : RelKey) (remove add : List Row) (file : RelFile) (m : Image) → is_relation part rel ≡ true → IsFileOf part f rel file
    → MayTake part db f (change.Rows rel remove add) m → Standing db rel remove add file m
unfolding rows_in SeesTheSame
standing part db f rel remove add file m here its may =
    let u = under db rel (named_relation db rel remove add may.lawful) in
    let p = under part rel here in
    let attrs : p.r.info.attrs ≡ u.r.info.attrs =
    sym (its_attrs part rel p.r p.found) ∙ sym (attrs_alike part rel) ∙ ap (λ (s : Db). attrs_at s rel) may.schema ∙ attrs_alike db rel ∙ its_attrs db rel u.r u.found in
    let read : each domain_of u.r.info.attrs ≡ Some file.domains = ap (each domain_of) (sym attrs) ∙ its.domains p.r (sym p.found) in
    let rows = of_all (λ (r : Relation). rows_in (pages_of may.over) f r ≡ Some r.rows) db.relations u.r may.has.rows u.there in
    let sees : pages_of may.over (f.file u.r.info.key) ≡ pages_of m (f.file u.r.info.key) = subst (λ (key : RelKey). pages_of may.over (f.file key) ≡ pages_of m (f.file key)) (sym u.named) may.sees in
    record {
      at = u;
      read = read;
      set =
          ap₂ (λ (n : ℕ) (k : ℕ). set_on (reader file.domains) n (pages_of m k)) (its.pages ∙ ap f.used (sym u.named)) (its.number ∙ ap f.file (sym u.named))
          ∙ sym (λ i. set_on (reader file.domains) (f.used u.r.info.key) (sees i))
          ∙ sym (ap (λ o. o >>= (λ domains. set_on (reader domains) (f.used u.r.info.key) (pages_of may.over (f.file u.r.info.key)))) read) ∙ rows;
      go = subst (λ rows. RowsGo rows remove add) (its_rows db rel u.r u.found) (rows_go db rel remove add may.lawful);
      alone = λ s at e. one_of db.relations may.is.relations_ascend s u.r at u.there (same_key_is s.info.key rel e ∙ sym u.named);
    }

-- the pages are made so
pub rows_made : (part db : Db) (f : Files) (rel : RelKey) (remove add : List Row) (file : RelFile) (m : Image) (old known : Option Image) (used : ℕ) → is_relation part rel ≡ true → IsFileOf part f rel file
    → MayTake part db f (change.Rows rel remove add) m → old ≡ Some m → 1 ≤ used → used < 2 ^ 32 → KeepsOthers file.file old known
    → ((rows : List Row) → set_on (reader file.domains) file.used (pages_of m file.file) ≡ Some rows → rows_differ remove ≡ true → All (λ row. IsTrue (has rows row)) remove → rows_differ add ≡ true
    → list_any (has rows) add ≡ false → HasSet file.domains file.file used (with_rows add (without_rows remove rows)) known)
    → HasMade (change.Rows rel remove add) db f file.file used m known
unfolding Suits MakesPages
rows_made part db f rel remove add file m old known used here its may is some few others changed =
    let s = standing part db f rel remove add file m here its may in
    let made = changed s.at.r.rows s.set s.go.differ s.go.there s.go.new_differ s.go.new in
    let kept = others.each m is in
    let same : kept.0 ≡ made.image = same_Some kept.0 made.image (sym kept.1 ∙ made.still_known) in
    record {
      image = made.image;
      still_known = made.still_known;
      suits = (its.number, used_small used some few);
      makes = all_of (λ r. same_key r.info.key rel ≡ true → IsMade file.file used r.info.attrs (with_rows add (without_rows remove r.rows)) m made.image) db.relations (λ r at e.
          subst (λ (r : Relation). IsMade file.file used r.info.attrs (with_rows add (without_rows remove r.rows)) m made.image) (sym (s.alone r at e))
          (record { domains = file.domains; read = s.read; are = made.are; elsewhere = subst (SameElsewhere file.file m) same kept.2 }));
    }

-- damage is found only where no database may take the change
pub none_there : (part : Db) (f : Files) (rel : RelKey) (remove add : List Row) (file : RelFile) (m : Image) (a : Addr) → is_relation part rel ≡ true → IsFileOf part f rel file → HasNoneOf file remove m a
    → (db : Db) → MayTake part db f (change.Rows rel remove add) m → ⊥
none_there part f rel remove add file m a here its fault db may = let s = standing part db f rel remove add file m here its may in fault s.at.r.rows s.set s.go.differ s.go.there

pub no_file : (part : Db) (f : Files) (rel : RelKey) (remove add : List Row) (m : Image) → (f.file rel < 16) ⊎ (f.used rel < 1) → (db : Db) → MayTake part db f (change.Rows rel remove add) m → ⊥
no_file part f rel remove add m none db may =
    let u = under db rel (named_relation db rel remove add may.lawful) in
    let high = (both (nat_le 16 (f.file u.r.info.key)) _ (of_tests (λ (i : RelInfo). is_file (f.file i.key)) (entries db) u.r.info may.has.are_files
    (in_first (map (λ (r : Relation). r.info) db.relations) _ u.r.info (in_map (λ (r : Relation). r.info) db.relations u.r u.there)))).0 in
    let some = (both (nat_le 1 (f.used u.r.info.key)) _ (of_tests (λ (r : Relation). nat_le 1 (f.used r.info.key) && is_number32 (f.used r.info.key)) db.relations u.r may.has.some_pages u.there)).0 in
    go none (ap (λ k. nat_le 16 (f.file k)) (sym u.named) ∙ high) (ap (λ k. nat_le 1 (f.used k)) (sym u.named) ∙ some)
  where
    go : (f.file rel < 16) ⊎ (f.used rel < 1) → nat_le 16 (f.file rel) ≡ true → nat_le 1 (f.used rel) ≡ true → ⊥
    go (inl less) high some = grind (arith, nat_tests)
    go (inr less) high some = grind (arith, nat_tests)

-- what isn't there is none
pub none_is : {A : Type 0} (o : Option A) → ((x : A) → o ≡ Some x → ⊥) → o ≡ None
none_is None off = refl
none_is (Some x) off = absurd (off x refl)

-- ---- a relation is made

-- What a relation that may be made has.
pub record Makeable (info : RelInfo) (rows : List Row) : Type 0 where
  pub stand : attrs_stand info.attrs ≡ true
  pub stored : are_stored info.attrs ≡ true
  pub differ : rows_differ rows ≡ true
  pub fit : list_all (row_fits info.attrs) rows ≡ true
  pub few : nat_le (length rows) most_rows ≡ true

pub makeable : (part : Db) (info : RelInfo) (rows : List Row) → IsDatabase part → IsLawful part (change.Create info rows) → Makeable info rows
unfolding relation_is_fit change_is_fit
makeable part info rows is lawful =
    let fit : relation_is_fit part info rows ≡ true = (fits_exactly part (change.Create info rows) is).1 lawful in
    let a = both (key_is_free part info.key) _ fit in
    let b = both _ _ a.1 in
    let c = both (attrs_stand info.attrs) _ b.1 in
    let d = both (are_stored info.attrs) _ c.1 in
    let e = both (rows_differ rows) _ d.1 in
    let g = both (list_all (row_fits info.attrs) rows) _ e.1 in
    record { stand = c.0; stored = d.0; differ = e.0; fit = g.0; few = g.1 }

pub few_rows : (info : RelInfo) (rows : List Row) → Makeable info rows → length rows < 2 ^ 30
few_rows info rows its = let le = at_most (length rows) its.few in omega (arith, le)
  where
    at_most : (n : ℕ) → nat_le n most_rows ≡ true → n ≤ 100000
    at_most n h = grind (arith, nat_tests)

pub relation_made : (db : Db) (f : Files) (info : RelInfo) (rows : List Row) (file : RelFile) (number : ℕ) (m : Image) (old known : Option Image) (used : ℕ) → IsFree f number → IsFileWith info number 0 file
    → old ≡ Some m → 1 ≤ used → used < 2 ^ 32 → KeepsOthers file.file old known → HasSet file.domains file.file used (set_of rows) known → HasMade (change.Create info rows) db f number used m known
unfolding Suits MakesPages
relation_made db f info rows file number m old known used free its is some few others made =
    let kept = others.each m is in
    let same : kept.0 ≡ made.image = same_Some kept.0 made.image (sym kept.1 ∙ made.still_known) in
    record {
      image = made.image;
      still_known = made.still_known;
      suits = (free, used_small used some few);
      makes = subst (λ (n : ℕ). IsMade n used info.attrs (set_of rows) m made.image) its.number
          (record { domains = file.domains; read = its.domains; are = made.are; elsewhere = subst (SameElsewhere file.file m) same kept.2 });
    }

-- ---- no page of a relation is put

puts_same : (made : DbChange) (db : Db) (file used : ℕ) (m : Image) → PutsNoRows made → MakesPages made db file used m m
unfolding PutsNoRows MakesPages
puts_same (change.Rows rel remove add) db file used m puts = absurd puts
puts_same (change.Create info rows) db file used m puts = absurd puts
puts_same (change.Destroy rels) db file used m puts = refl
puts_same (change.Modify rel to keys) db file used m puts = refl
puts_same (change.Index base name keys) db file used m puts = refl
puts_same (change.View info query) db file used m puts = refl
puts_same (change.Permit rel permit) db file used m puts = refl
puts_same (change.Rule rel rule) db file used m puts = refl
puts_same (change.DropPermits rel numbers) db file used m puts = refl
puts_same (change.DropRules rel numbers) db file used m puts = refl

-- what isn't of the two kinds that put pages puts none
pub puts_none : (made : DbChange) → ((rel : RelKey) (remove add : List Row) → made ≡ change.Rows rel remove add → ⊥) → ((info : RelInfo) (rows : List Row) → made ≡ change.Create info rows → ⊥) → PutsNoRows made
unfolding PutsNoRows
puts_none (change.Rows rel remove add) one other = one rel remove add refl
puts_none (change.Create info rows) one other = other info rows refl
puts_none (change.Destroy rels) one other = tt
puts_none (change.Modify rel to keys) one other = tt
puts_none (change.Index base name keys) one other = tt
puts_none (change.View info query) one other = tt
puts_none (change.Permit rel permit) one other = tt
puts_none (change.Rule rel rule) one other = tt
puts_none (change.DropPermits rel numbers) one other = tt
puts_none (change.DropRules rel numbers) one other = tt

pub nothing_made : (made : DbChange) (db : Db) (f : Files) (file used : ℕ) (m : Image) (known : Option Image) → PutsNoRows made → Suits made f file used → known ≡ Some m → HasMade made db f file used m known
nothing_made made db f file used m known puts suits is = record { image = m; still_known = is; suits = suits; makes = puts_same made db file used m puts }
