-- Views over one and two relations, and a database that holds them.
use Rattle.calculus.specs.Answer.{answer}
use Rattle.calculus.specs.Change.{laid, IsLawful}
use Rattle.calculus.specs.IsDatabase.{IsDatabase, vars_are_there}
use Rattle.calculus.specs.Reads.{query_reads}
use Rattle.calculus.specs.Sizes.{expanded_variables, level_of, query_size}
use Rattle.calculus.specs.Who.{as_user}
use Rattle.calculus.specs.declared.change.DbChange.TheVariants as change
use Rattle.calculus_examples.specs.Small.{key, num, text, attr, relation, view, target, fold_of}
use Rattle.std.specs.Prelude.{◌≡◌, ℕ, pos, true, false, List, [], ◌∷◌, Some, codes}
use Rattle.calculus_examples.specs.Words.{C, Of, Wide, Eq, Count, Attr, True, Cmp, Like, Query, query, aggregate, Row, Unrestricted, Db}
use Rattle.std.specs.List.{list_all}

-- a row of two texts
abbrev pub pair : List ℕ → List ℕ → Row
pair s t = text s ∷ text t ∷ []

-- define view sells (name = e.name) where e.dept = i.dept
abbrev pub sells : Query
sells = query (key (codes "emp") ∷ key (codes "item") ∷ []) (target (codes "name") (Of (C 6)) (Attr 0 0) ∷ []) (Cmp Eq (Attr 0 1) (Attr 1 0))

-- define view depts (dept = i.dept)
abbrev pub depts : Query
depts = query (key (codes "item") ∷ []) (target (codes "dept") (Of (C 6)) (Attr 0 0) ∷ []) True

-- emp (name, dept) holds ann of toy, item (dept, part) the car and the doll of toy
abbrev pub db : Db
db = record {
  dba = codes "ann";
  relations =
      relation (codes "emp") (attr (codes "name") (Of (C 6)) ∷ attr (codes "dept") (Of (C 6)) ∷ []) (pair (codes "ann") (codes "toy") ∷ [])
      ∷ relation (codes "item") (attr (codes "dept") (Of (C 6)) ∷ attr (codes "part") (Of (C 6)) ∷ [])
      (pair (codes "toy") (codes "car") ∷ pair (codes "toy") (codes "doll") ∷ [])
      ∷ [];
  indexes = [];
  views = view (codes "depts") (attr (codes "dept") (Of (C 6)) ∷ []) depts ∷ view (codes "sells") (attr (codes "name") (Of (C 6)) ∷ []) sells ∷ [];
  rules = [];
  permits = [];
}

-- retrieve (v.name)
abbrev pub names : Query
names = query (key (codes "sells") ∷ []) (target (codes "name") (Of (C 6)) (Attr 0 0) ∷ []) True

-- retrieve (n = count(w.dept))
abbrev pub count_of_depts : Query
count_of_depts = query [] (target (codes "n") Wide (aggregate (fold_of Count (codes "depts") (Attr 0 0) True)) ∷ []) True

-- retrieve (r.relid) where r.relspec = "view"
abbrev pub view_names : Query
view_names = query (key (codes "relation") ∷ []) (target (codes "relid") (Of (C 12)) (Attr 0 0) ∷ []) (Like (Attr 0 2) (codes "view") true)

-- what the views show
pub record Shown : Type 0 where
  pub each_name_once : answer db Unrestricted names ≡ (text (codes "ann") ∷ []) ∷ []
  pub each_dept_once : answer db Unrestricted count_of_depts ≡ (num (pos 1) ∷ []) ∷ []
  pub nothing_without_a_permit : answer db (as_user (codes "bob")) names ≡ []
  pub the_catalogue_has_them : answer db (as_user (codes "bob")) view_names ≡ (text (codes "depts") ∷ []) ∷ (text (codes "sells") ∷ []) ∷ []
  pub sells_has_two_variables : expanded_variables db names ≡ 2
  pub depts_has_one : expanded_variables db count_of_depts ≡ 1
  pub level_one : level_of db (key (codes "sells")) ≡ Some 1
  pub size_four : query_size db names ≡ 4
  pub read_through_a_view : query_reads db names ≡ key (codes "emp") ∷ key (codes "item") ∷ []
  pub read_by_an_aggregate : query_reads db count_of_depts ≡ key (codes "item") ∷ []
  pub the_catalogue_is_read : query_reads db view_names ≡ key (codes "relation") ∷ []

-- the database is one; without emp, which a view names, it isn't
pub record Lawful : Type 0 where
  pub is_one : IsDatabase db
  pub emp_is_named : list_all (λ v. vars_are_there (laid db (change.Destroy (key (codes "emp") ∷ []))) v.query) (laid db (change.Destroy (key (codes "emp") ∷ []))).views ≡ false
  pub with_its_view_it_goes : IsLawful db (change.Destroy (key (codes "sells") ∷ key (codes "emp") ∷ []))
