-- What another user may read, append and delete.
use Rattle.calculus.specs.Answer.{answer}
use Rattle.calculus.specs.Permission.{query_permitted, update_permitted}
use Rattle.calculus.specs.Replacement.{updated}
use Rattle.calculus.specs.Who.{as_user}
use Rattle.calculus.specs.declared.change.DbChange.TheVariants as change
use Rattle.calculus.specs.declared.schema.Permit.{Permit}
use Rattle.calculus_examples.specs.Small.{key, num, text, attr, relation, target, fold_of, replace, delete, append}
use Rattle.std.specs.Prelude.{◌≡◌, ℕ, pos, true, false, List, [], ◌∷◌, Some, Ok, codes}
use Rattle.calculus_examples.specs.Words.{I2, C, Of, Wide, Add, Lt, Gt, Count, Int, Chars, Attr, QQual, True, Cmp, Query, Update, operation, query, aggregate, Unrestricted, Db}

-- retrieve of these attributes for bob
abbrev pub to_bob : ℕ → ℕ → List ℕ → QQual → Permit
to_bob number ops attrs qual = record { number = number; ops = ops; attrs = attrs; user = Some (codes "bob"); qual = qual }

-- emp (name, sal) holds bo with 9; bob may read names, and salaries, but not both together
abbrev pub db : Db
db = record {
  dba = codes "ann";
  relations = relation (codes "emp") (attr (codes "name") (Of (C 6)) ∷ attr (codes "sal") (Of I2) ∷ []) ((text (codes "bo") ∷ num (pos 9) ∷ []) ∷ []) ∷ [];
  indexes = [];
  views = [];
  rules = [];
  permits = (key (codes "emp"), to_bob 1 1 (0 ∷ []) True) ∷ (key (codes "emp"), to_bob 2 1 (1 ∷ []) True) ∷ [];
}

-- retrieve (e.name, e.sal)
abbrev pub whole : Query
whole = query (key (codes "emp") ∷ []) (target (codes "name") (Of (C 6)) (Attr 0 0) ∷ target (codes "sal") (Of I2) (Attr 0 1) ∷ []) True

-- retrieve (e.name)
abbrev pub names : Query
names = query (key (codes "emp") ∷ []) (target (codes "name") (Of (C 6)) (Attr 0 0) ∷ []) True

-- retrieve (n = count(e.name where e.sal > 1))
abbrev pub count_of_names : Query
count_of_names = query [] (target (codes "n") Wide (aggregate (fold_of Count (codes "emp") (Attr 0 0) (Cmp Gt (Attr 0 1) (Int (pos 1))))) ∷ []) True

-- delete e
abbrev pub clear : Update
clear = delete (codes "emp") (query (key (codes "emp") ∷ []) [] True)

-- p (a, b) holds 3 with b and 7 with z; bob may read a, and append and replace it below 5
abbrev pub cut : Db
cut = record {
  dba = codes "ann";
  relations =
      relation (codes "p") (attr (codes "a") (Of I2) ∷ attr (codes "b") (Of (C 6)) ∷ [])
      ((num (pos 3) ∷ text (codes "b") ∷ []) ∷ (num (pos 7) ∷ text (codes "z") ∷ []) ∷ [])
      ∷ [];
  indexes = [];
  views = [];
  rules = [];
  permits = (key (codes "p"), to_bob 1 6 (0 ∷ []) (Cmp Lt (Attr 0 0) (Int (pos 5)))) ∷ (key (codes "p"), to_bob 2 1 (0 ∷ []) True) ∷ [];
}

-- append to p (a = n)
abbrev pub one : ℕ → Update
one n = append (codes "p") (0 ∷ []) (query [] (target (codes "a") Wide (Int (pos n)) ∷ []) True)

-- replace e (a = e.a + 1)
abbrev pub one_more : Update
one_more = replace (codes "p") (0 ∷ []) (query (key (codes "p") ∷ []) (target (codes "a") Wide (operation Add (Attr 0 0) (Int (pos 1))) ∷ []) True)

-- append to p (a = 1, b = "x")
abbrev pub two_attrs : Update
two_attrs = append (codes "p") (0 ∷ 1 ∷ []) (query [] (target (codes "a") Wide (Int (pos 1)) ∷ target (codes "b") (Of (C 1)) (Chars (codes "x")) ∷ []) True)

-- what bob may do
pub record Rights : Type 0 where
  pub no_permit_for_both : query_permitted db (as_user (codes "bob")) whole ≡ false
  pub a_permit_for_names : query_permitted db (as_user (codes "bob")) names ≡ true
  pub names_are_read : answer db (as_user (codes "bob")) names ≡ (text (codes "bo") ∷ []) ∷ []
  pub an_aggregate_reads_what_it_names : query_permitted db (as_user (codes "bob")) count_of_names ≡ false
  pub no_permit_to_delete : update_permitted db (as_user (codes "bob")) clear ≡ false
  pub the_owner_may : update_permitted db (as_user (codes "ann")) clear ≡ true
  pub nobody_in_particular_may : update_permitted db Unrestricted clear ≡ true

-- what bob's permits let through
pub record Cuts : Type 0 where
  pub below_five : updated cut (as_user (codes "bob")) (one 4) ≡ Ok (change.Rows (key (codes "p")) [] ((num (pos 4) ∷ text [] ∷ []) ∷ []))
  pub not_above : updated cut (as_user (codes "bob")) (one 7) ≡ Ok (change.Rows (key (codes "p")) [] [])
  pub nobody_in_particular : updated cut Unrestricted (one 7) ≡ Ok (change.Rows (key (codes "p")) [] ((num (pos 7) ∷ text [] ∷ []) ∷ []))
  pub only_old_rows_below_five : updated cut (as_user (codes "bob")) one_more
      ≡ Ok (change.Rows (key (codes "p")) ((num (pos 3) ∷ text (codes "b") ∷ []) ∷ []) ((num (pos 4) ∷ text (codes "b") ∷ []) ∷ []))
  pub both_attributes_need_a_permit : update_permitted cut (as_user (codes "bob")) two_attrs ≡ false
