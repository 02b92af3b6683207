use Rattle.std.proofs.Common.{rules, refl, subst, ◌≡◌, true, false, ℕ, List, [], Some}
use Rattle.std.specs.List.{list_all}
use Rattle.calculus.specs.Database.{Db}
use Rattle.calculus.specs.IsDatabase.{IsDatabase}
use Rattle.plain_base.specs.Shown.{database_of}
use Rattle.catalog_read.specs.Parts.{Parts, index_in, whole}
use Rattle.catalog_read.specs.Applying.{IsLeft, nothing_in, is_of_its_base}
use Rattle.catalog_read.proofs.Starts.{owners_of_bases}
use Rattle.catalog_read.proofs.Known.{built, refused, not_agreed, if_answered}
use Rattle.catalog_read.proofs.building.build_schema.Goals as goal

pub returns-then-not-are_of_their_bases-clause-refused : goal.returns-then-not-are_of_their_bases-clause-refused
returns-then-not-are_of_their_bases-clause-refused c none db made is agree =
    let own : list_all (λ x. is_of_its_base (index_in x)) c.args.parts.indexes ≡ false = search rules in
    not_agreed c.args.dba c.args.parts own db made is agree

pub returns-in-Ok-clause-built : goal.returns-in-Ok-clause-built
returns-in-Ok-clause-built c =
    let own : list_all (λ x. is_of_its_base (index_in x)) c.args.parts.indexes ≡ true = search rules in
    if_answered c.laid_on_nothing.result (λ found known plain is. built c.args.dba c.args.parts (database_of plain) (nothing_in c.args.dba) own plain.is refl
    (subst (λ changes. (owner : List ℕ) (parts : Parts) → IsLeft owner changes (nothing_in c.args.dba) parts → IsLeft owner [] (database_of plain) parts) c.in-Ok.ensures (known plain is)))
    c.laid_on_nothing.ensures.built

pub returns-in-Ok-clause-refused : goal.returns-in-Ok-clause-refused
returns-in-Ok-clause-refused c =
    let own : list_all (λ x. is_of_its_base (index_in x)) c.args.parts.indexes ≡ true = search rules in
    if_answered c.laid_on_nothing.result (λ found known none db made is agree. refused c.args.dba c.args.parts (nothing_in c.args.dba) own refl
    (subst (λ changes. (owner : List ℕ) (parts : Parts) (db : Db) → IsLeft owner changes (nothing_in c.args.dba) parts → whole owner parts ≡ Some db → IsDatabase db → ⊥) c.in-Ok.ensures (known none))
    db made is agree) c.laid_on_nothing.ensures.refused

pub returns-in-Ok-clause-owners : goal.returns-in-Ok-clause-owners
returns-in-Ok-clause-owners c =
    let own : list_all (λ x. is_of_its_base (index_in x)) c.args.parts.indexes ≡ true = search rules in
    if_answered c.laid_on_nothing.result (λ found known plain is. owners_of_bases c.args.dba c.args.parts (database_of plain) own (built c.args.dba c.args.parts (database_of plain) (nothing_in c.args.dba) own plain.is refl
    (subst (λ changes. (owner : List ℕ) (parts : Parts) → IsLeft owner changes (nothing_in c.args.dba) parts → IsLeft owner [] (database_of plain) parts) c.in-Ok.ensures (known plain is))))
    c.laid_on_nothing.ensures.built
