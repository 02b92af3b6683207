-- What is said through views of what stands under a key in a schema.
use Rattle.std.proofs.Common.{◌≡◌, refl, sym, ap, ◌∙◌, ℕ, zero, suc, Bool, true, false, List, [], ◌∷◌, map, Option, Some, None}
use Rattle.calculus.specs.declared.query.RelKey.{RelKey}
use Rattle.calculus.specs.Limits.{greatest_level}
use Rattle.calculus.specs.Who.{Who, Unrestricted, AsUser}
use Rattle.calculus.specs.Database.{Db, Relation, View}
use Rattle.calculus.specs.Stored.{Range, Kept, Viewed, range_at}
use Rattle.calculus.specs.Through.{Saying, FromBelow, through}
use Rattle.calculus.specs.Rights.{Right, Retrieve, permitted}
use Rattle.calculus.specs.QueryParts.{vars_of}
use Rattle.calculus.specs.Used.{used_vars}
use Rattle.calculus.specs.Permission.{Reads, range_permitted, vars_permitted, permitted_within, readable}
use Rattle.calculus.specs.Sizes.{Known, range_level, level_above, level_within, level_of, plain_measure, range_measure, query_measure, measure_within, measure_of}
use Rattle.calculus.specs.Reads.{range_reads, vars_read, reads_of}
use Rattle.calculus.specs.Schema.{bare, schema_of}
use Rattle.schema_laws.proofs.Alike.{range_alike}

-- what doesn't look at the rows that are kept is the same through any number of levels
pub through_alike : {X : Type 0} (of_range : Saying X) (of_view : FromBelow X) (past : X)
    → ((f : View → X) (key : RelKey) (r : Relation) → of_range f key (Some (Kept (bare r))) ≡ of_range f key (Some (Kept r)))
    → (n : ℕ) (db : Db) (key : RelKey) → through of_range of_view past n (schema_of db) key ≡ through of_range of_view past n db key
through_alike of_range of_view past same zero db key = range_alike (of_range (λ view. past) key) (same (λ view. past) key) db key
through_alike of_range of_view past same (suc n) db key =
    range_alike (of_range (of_view (through of_range of_view past n (schema_of db))) key) (same (of_view (through of_range of_view past n (schema_of db))) key) db key
    ∙ (λ i. of_range (of_view (λ k. through_alike of_range of_view past same n db k i)) key (range_at db key))

pub level_alike : (db : Db) (key : RelKey) → level_of (schema_of db) key ≡ level_of db key
unfolding level_of
level_alike db key =
    through_alike (λ of_view key range. range_level of_view range) (λ below view. level_above (map below (vars_of view.query))) None (λ f key r. refl) greatest_level db key

pub measure_alike : (db : Db) (key : RelKey) → measure_of (schema_of db) key ≡ measure_of db key
unfolding measure_of
measure_alike db key =
    through_alike (λ of_view key range. range_measure of_view range) (λ below view. query_measure below view.query) plain_measure (λ f key r. refl) greatest_level db key

pub reads_alike : (db : Db) (key : RelKey) → reads_of (schema_of db) key ≡ reads_of db key
unfolding reads_of
reads_alike db key = through_alike range_reads (λ below view. vars_read below view.query) [] (λ f key r. refl) greatest_level db key

pub permitted_alike : (db : Db) (who : Who) (right : Right) (attrs : List ℕ) (key : RelKey) → permitted (schema_of db) who right attrs key ≡ permitted db who right attrs key
unfolding permitted schema_of
permitted_alike db Unrestricted right attrs key = refl
permitted_alike db (AsUser asker) right attrs key = refl

range_reading : Db → Who → Saying (List ℕ → Bool)
range_reading db who of_view key range attrs = range_permitted (λ view. of_view view attrs) db who key attrs range

range_read_alike : (db : Db) (who : Who) (of_view : View → List ℕ → Bool) (key : RelKey) (range : Option Range) (attrs : List ℕ)
    → range_reading (schema_of db) who of_view key range attrs ≡ range_reading db who of_view key range attrs
unfolding range_reading
range_read_alike db who of_view key None attrs = permitted_alike db who Retrieve attrs key
range_read_alike db who of_view key (Some (Kept relation)) attrs = permitted_alike db who Retrieve attrs key
range_read_alike db who of_view key (Some (Viewed view)) attrs = refl

pub readable_alike : (db : Db) (who : Who) (key : RelKey) (attrs : List ℕ) → readable (schema_of db) who key attrs ≡ readable db who key attrs
unfolding readable range_reading
readable_alike db who key attrs =
    (λ i. through {X = List ℕ → Bool} (λ of_view key range attrs. range_read_alike db who of_view key range attrs i) (λ below view attrs. vars_permitted below view.query (used_vars view.query)) (λ attrs. false) greatest_level (schema_of db) key attrs)
    ∙ ap (λ (f : List ℕ → Bool). f attrs)
    (through_alike {X = List ℕ → Bool} (range_reading db who) (λ below view attrs. vars_permitted below view.query (used_vars view.query)) (λ attrs. false) (λ f key r. refl) greatest_level db key)
