-- Files that say the same of all that is there.
use Rattle.std.proofs.Common.{◌≡◌, refl, ap, ap₂, subst, ◌∙◌, inl, inr, ℕ, ◌&&◌, nat_le, true, false, List, [], ◌∷◌, map, Some}
use Rattle.std.specs.Prelude.{nat_eq}
use Rattle.calculus.specs.declared.query.RelKey.{RelKey}
use Rattle.calculus.specs.declared.change.DbChange.{DbChange}
use Rattle.calculus.specs.declared.change.DbChange.TheVariants as change
use Rattle.calculus.specs.declared.schema.RelInfo.{RelInfo}
use Rattle.calculus.specs.declared.schema.Spec.{Spec}
use Rattle.calculus.specs.Change.{laid, restructured}
use Rattle.calculus.specs.Database.{Db, Relation, entries, is_there}
use Rattle.calculus.specs.Keys.{same_key}
use Rattle.calculus.specs.Lists.{differ_by}
use Rattle.page_chain.specs.Lists.{◌>>=◌, each}
use Rattle.page_chain.specs.Pages.{Pages}
use Rattle.page_chain.specs.Rows.{set_on, reader}
use Rattle.stored_database.specs.Names.{is_number32}
use Rattle.stored_database.specs.Printed.{Files, HasFiles, MayHave, is_file, relation_entry, rows_in}
use Rattle.stored_database.specs.Spelled.{domain_of}
use Rattle.stored_database.proofs.Members.{IsIn, of_all, all_of, of_tests, tests_of, in_map, filter_in}
use Rattle.stored_database.proofs.PrintedStands.{may_have}
use Rattle.stored_database.specs.ChangeLaws.{Agree}
use Rattle.stored_database.specs.Moves.{going, coming, only_entries, under}
use Rattle.stored_database.proofs.Staying.{info_there, relation_there, relation_is_there}
use Rattle.catalog_laws.specs.Followed.{SayTheSame, AreKept}

-- what is the same of each item is the same of all
map_same : {A B : Type 0} (f g : A → B) (xs : List A) → ((x : A) → IsIn x xs → f x ≡ g x) → map f xs ≡ map g xs
map_same f g [] same = refl
map_same f g (x ∷ xs) same = ap₂ (λ y ys. y ∷ ys) (same x (inl refl)) (map_same f g xs (λ y at. same y (inr at)))

itself : (after kept : Files) (db : Db) → kept ≡ after → SayTheSame db after kept
itself after kept db e = record { file = λ key at. ap (λ (g : Files). g.file key) e; used = λ key at. ap (λ (g : Files). g.used key) e }

-- files are kept that say the same
pub kept_say : (made : DbChange) (db : Db) (after kept : Files) → AreKept made db after kept → SayTheSame (laid db made) after kept
unfolding AreKept
kept_say (change.Rows rel remove add) db after kept are = itself after kept (laid db (change.Rows rel remove add)) are
kept_say (change.Create info rows) db after kept are = itself after kept (laid db (change.Create info rows)) are
kept_say (change.Destroy rels) db after kept are = are
kept_say (change.Modify rel to keys) db after kept are = are
kept_say (change.Index base name keys) db after kept are = itself after kept (laid db (change.Index base name keys)) are
kept_say (change.View info query) db after kept are = itself after kept (laid db (change.View info query)) are
kept_say (change.Permit rel permit) db after kept are = itself after kept (laid db (change.Permit rel permit)) are
kept_say (change.Rule rel rule) db after kept are = itself after kept (laid db (change.Rule rel rule)) are
kept_say (change.DropPermits rel numbers) db after kept are = itself after kept (laid db (change.DropPermits rel numbers)) are
kept_say (change.DropRules rel numbers) db after kept are = itself after kept (laid db (change.DropRules rel numbers)) are

-- they agree on what stays as the others do
pub kept_agree : (made : DbChange) (db : Db) (f after kept : Files) → SayTheSame (laid db made) after kept → Agree db made f after → Agree db made f kept
kept_agree made db f after kept say agree = record {
  file_stays = λ key here there. say.file key there ∙ agree.file_stays key here there;
  used_stays = λ key here there off. say.used key (relation_is_there (laid db made) key there) ∙ agree.used_stays key here there off;
}

-- and a database may have them where it may have the others
pub kept_may : (db : Db) (f g : Files) → SayTheSame db f g → MayHave db f → MayHave db g
kept_may db f g say may = record {
  are_files = tests_of (λ (i : RelInfo). is_file (g.file i.key)) (entries db) (λ i at. ap is_file (say.file i.key (info_there db i at)) ∙ of_tests (λ (i : RelInfo). is_file (f.file i.key)) (entries db) i may.are_files at);
  files_differ =
      ap (differ_by nat_eq) (map_same (λ (i : RelInfo). g.file i.key) (λ (i : RelInfo). f.file i.key) (entries db) (λ i at. say.file i.key (info_there db i at))) ∙ may.files_differ;
  some_pages = tests_of (λ (r : Relation). nat_le 1 (g.used r.info.key) && is_number32 (g.used r.info.key)) db.relations (λ r at.
      ap (λ (n : ℕ). nat_le 1 n && is_number32 n) (say.used r.info.key (relation_there db r at))
      ∙ of_tests (λ (r : Relation). nat_le 1 (f.used r.info.key) && is_number32 (f.used r.info.key)) db.relations r may.some_pages at);
}

-- and has them where it has the others
pub kept_has : (db : Db) (f g : Files) (pages : ℕ → Pages) → SayTheSame db f g → HasFiles db pages f → HasFiles db pages g
unfolding rows_in
kept_has db f g pages say has =
    let may = kept_may db f g say (may_have db pages f has) in
    record {
      are_files = may.are_files;
      files_differ = may.files_differ;
      some_pages = may.some_pages;
      rows = all_of (λ (r : Relation). rows_in pages g r ≡ Some r.rows) db.relations (λ r at.
          (λ i. each domain_of r.info.attrs >>= (λ domains. set_on (reader domains) (say.used r.info.key (relation_there db r at) i) (pages (say.file r.info.key (relation_there db r at) i))))
          ∙ of_all (λ (r : Relation). rows_in pages f r ≡ Some r.rows) db.relations r has.rows at);
    }

-- the same rows go with them
pub kept_going : (made : DbChange) (db : Db) (f after kept : Files) → AreKept made db after kept → going f kept db made ≡ going f after db made
unfolding AreKept going
kept_going (change.Rows rel remove add) db f after kept are = ap (λ (g : Files). going f g db (change.Rows rel remove add)) are
kept_going (change.Create info rows) db f after kept are = refl
kept_going (change.Destroy rels) db f after kept are = refl
kept_going (change.Modify rel to keys) db f after kept are = refl
kept_going (change.Index base name keys) db f after kept are = refl
kept_going (change.View info query) db f after kept are = refl
kept_going (change.Permit rel permit) db f after kept are = refl
kept_going (change.Rule rel rule) db f after kept are = refl
kept_going (change.DropPermits rel numbers) db f after kept are = refl
kept_going (change.DropRules rel numbers) db f after kept are = refl

-- a relation of another structure is there
restructured_there : (rel : RelKey) (db : Db) (to : Spec) (keys : List ℕ) (r : Relation) → IsIn r (under rel db.relations) → is_there (laid db (change.Modify rel to keys)) r.info.key ≡ true
unfolding laid
restructured_there rel db to keys r at =
    let its = filter_in (λ (r : Relation). same_key r.info.key rel) db.relations r at in
    relation_there (laid db (change.Modify rel to keys)) (restructured to keys r)
    (subst (λ s. IsIn s (laid db (change.Modify rel to keys)).relations) (ap (λ b. elim b as (λ b. Relation) [ true ↦ restructured to keys r | false ↦ r ]) its.1)
    (in_map (λ r. elim (same_key r.info.key rel) as (λ b. Relation) [ true ↦ restructured to keys r | false ↦ r ]) db.relations r its.0))

-- and the same come
pub kept_coming : (made : DbChange) (db : Db) (f after kept : Files) → AreKept made db after kept → coming f kept db made ≡ coming f after db made
unfolding AreKept coming
kept_coming (change.Rows rel remove add) db f after kept are = ap (λ (g : Files). coming f g db (change.Rows rel remove add)) are
kept_coming (change.Create info rows) db f after kept are = ap (λ (g : Files). coming f g db (change.Create info rows)) are
kept_coming (change.Destroy rels) db f after kept are = refl
kept_coming (change.Modify rel to keys) db f after kept are =
    ap only_entries (map_same (λ r. relation_entry kept (restructured to keys r)) (λ r. relation_entry after (restructured to keys r)) (under rel db.relations) (λ r at.
    let there = restructured_there rel db to keys r at in
    (λ i. record { file = are.file r.info.key there i; key = r.info.key; spec = to; base = 0; primary = 1; directory = 0; used = are.used r.info.key there i; keys = keys })))
kept_coming (change.Index base name keys) db f after kept are = ap (λ (g : Files). coming f g db (change.Index base name keys)) are
kept_coming (change.View info query) db f after kept are = ap (λ (g : Files). coming f g db (change.View info query)) are
kept_coming (change.Permit rel permit) db f after kept are = ap (λ (g : Files). coming f g db (change.Permit rel permit)) are
kept_coming (change.Rule rel rule) db f after kept are = ap (λ (g : Files). coming f g db (change.Rule rel rule)) are
kept_coming (change.DropPermits rel numbers) db f after kept are = refl
kept_coming (change.DropRules rel numbers) db f after kept are = refl
