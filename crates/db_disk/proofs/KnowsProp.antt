-- What a catalogue knows is a proposition.
use Rattle.std.proofs.Common.{◌≡◌, refl, sym, ◌∙◌, ℕ, Bool, List, [], ◌∷◌, ◌++◌, Option, Some}
use Rattle.std.specs.Coded.{Coded, Coded-set, codes}
use Rattle.std.specs.List.{AllByRecursion}
use Rattle.std.proofs.lemmas.Option.{same_Some}
use mathlib.Core.HLevel.{is_prop→PathP}
use mathlib.Core.Logic.{∥∥₁_elim}
use denote.Struct.Props.{props}
use Rattle.calculus.specs.contracts.query.QQual as quals
use Rattle.calculus.specs.contracts.query.Query as queries
use Rattle.calculus.specs.Database.{Db, Index, Relation, View}
use Rattle.calculus.specs.Rows.{Row}
use Rattle.disk_model.specs.Disk.{Image}
use Rattle.page_chain.specs.Chains.{chain}
use Rattle.page_chain.specs.Pages.{Pages, pages_of}
use Rattle.stored_database.specs.Catalogue.{Catalogue, most_pages}
use Rattle.stored_database.specs.Printed.{Files, HasFiles, rows_in}
use Rattle.catalog_moves.specs.declared.files.FileTable.{FileTable}
use Rattle.catalog_moves.specs.Bases.{IndexBases}
use Rattle.catalog_moves.specs.Files.{base_at, files_of, places_of}
use Rattle.catalog_pages.specs.Ends.{AreEnds, EndsAt}
use Rattle.catalog.specs.Knows.{Knows}
use Rattle.catalog.specs.declared.catalog.Catalog.{Catalog}

db_coded : Coded Db
db_coded = hlevel (codes, quals.the_row.coded, queries.the_row.coded)

catalogue_coded : Coded (Option Catalogue)
catalogue_coded = hlevel codes

rows_coded : Coded (Option (List Row))
rows_coded = hlevel codes

numbers_coded : Coded (Option (List ℕ))
numbers_coded = hlevel codes

bool_prop : (a b : Bool) → IsProp (a ≡ b)
bool_prop a b = hlevel props

-- two databases are the same in at most one way
pub db_prop : (one other : Db) → IsProp (one ≡ other)
db_prop one other = Coded-set db_coded one other

-- the numbers in front of the last
front_of : (xs ys : List ℕ) (x y : ℕ) → xs ++ x ∷ [] ≡ ys ++ y ∷ [] → xs ≡ ys
front_of [] [] x y e = refl
front_of [] (b ∷ []) x y e = absurd (cc e)
front_of [] (b ∷ c ∷ ys) x y e = absurd (cc e)
front_of (a ∷ []) [] x y e = absurd (cc e)
front_of (a ∷ c ∷ xs) [] x y e = absurd (cc e)
front_of (a ∷ xs) (b ∷ ys) x y e =
    let heads : a ≡ b = cc e in
    let tails : xs ++ x ∷ [] ≡ ys ++ y ∷ [] = cc e in
    let rest = front_of xs ys x y tails in
    λ i. heads i ∷ rest i

ends_prop : (pages : Pages) (last : ℕ) → IsProp (EndsAt pages last)
ends_prop pages last a b =
    let same : a.earlier ≡ b.earlier = front_of a.earlier b.earlier last last (same_Some _ _ (sym a.chain ∙ b.chain)) in
    let chains = is_prop→PathP (λ i. chain most_pages pages ≡ Some (same i ++ last ∷ [])) (λ i. Coded-set numbers_coded _ _) a.chain b.chain in
    λ i. record { earlier = same i; chain = chains i }

are_ends_prop : (m : Image) (c : Catalog) → IsProp (AreEnds m c.ends)
are_ends_prop m c a b = λ i. record {
  entries = ends_prop (pages_of m 5) c.ends.entries a.entries b.entries i;
  columns = ends_prop (pages_of m 6) c.ends.columns a.columns b.columns i;
  parts = ends_prop (pages_of m 7) c.ends.parts a.parts b.parts i;
}

rows_prop : (files : ℕ → Pages) (f : Files) (rs : List Relation) → IsProp (AllByRecursion (λ r. rows_in files f r ≡ Some r.rows) rs)
rows_prop files f [] a b = refl
rows_prop files f (r ∷ rs) a b = λ i. (Coded-set rows_coded _ _ a.0 b.0 i, rows_prop files f rs a.1 b.1 i)

has_prop : (db : Db) (files : ℕ → Pages) (f : Files) → IsProp (HasFiles db files f)
has_prop db files f a b =
    λ i. record {
      are_files = bool_prop _ _ a.are_files b.are_files i;
      files_differ = bool_prop _ _ a.files_differ b.files_differ i;
      some_pages = bool_prop _ _ a.some_pages b.some_pages i;
      rows = rows_prop files f db.relations a.rows b.rows i;
    }

number_prop : (a b : ℕ) → IsProp (a ≡ b)
number_prop a b = hlevel props

numbers_prop : {A : Type 0} (f g : A → ℕ) (xs : List A) → IsProp (AllByRecursion (λ x. f x ≡ g x) xs)
numbers_prop f g [] a b = refl
numbers_prop f g (x ∷ xs) a b = λ i. (number_prop (f x) (g x) a.0 b.0 i, numbers_prop f g xs a.1 b.1 i)

bases_prop : (table : FileTable) (db : Db) → IsProp (IndexBases table db)
bases_prop table db a b = λ i. record {
  there = λ k h. bool_prop _ _ (a.there k h) (b.there k h) i;
  are_files = bool_prop _ _ a.are_files b.are_files i;
  files_differ = bool_prop _ _ a.files_differ b.files_differ i;
  relations = numbers_prop (λ (r : Relation). base_at (places_of table) r.info.key) (λ r. 0) db.relations a.relations b.relations i;
  views = numbers_prop (λ (v : View). base_at (places_of table) v.info.key) (λ v. 0) db.views a.views b.views i;
  indexes = numbers_prop (λ (x : Index). base_at (places_of table) x.info.key) (λ x. (files_of table).file x.base) db.indexes a.indexes b.indexes i;
}

knows_prop : (c : Catalog) (m : Image) (db : Db) → IsProp (Knows c m db)
knows_prop c m db a b = λ i. record {
  plain = db_prop _ _ a.plain b.plain i;
  catalogue = Coded-set catalogue_coded _ _ a.catalogue b.catalogue i;
  has = has_prop db _ _ a.has b.has i;
  ends = are_ends_prop m c a.ends b.ends i;
  owners = bool_prop _ _ a.owners b.owners i;
  bases = bases_prop c.files db a.bases b.bases i;
}

-- what is known truncated is known
pub untruncated : {c : Catalog} {m : Image} {db : Db} → ∥ Knows c m db ∥₁ → Knows c m db
untruncated {c} {m} {db} h = ∥∥₁_elim h (knows_prop c m db) (λ k. k)
