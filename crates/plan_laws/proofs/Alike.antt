-- Two databases in which variables range over the same: the same views, and relations with the same attributes. Levels, sizes and kinds are the same in both.
use Rattle.std.proofs.Common.{◌≡◌, refl, ap, ◌∙◌, ℕ, zero, suc, nat_le, nat_lt, Bool, ◌&&◌, List, [], ◌∷◌, Option, Some, None, map, length}
use Rattle.std.specs.Prelude.{◌+◌, not, sum, sum_by, bytes_eq, is_some, option_map}
use Rattle.std.specs.List.{list_all}
use Rattle.calculus.specs.declared.value.Kind.{Kind}
use Rattle.calculus.specs.declared.query.RelKey.{RelKey}
use Rattle.calculus.specs.declared.query.Query.{Query}
use Rattle.calculus.specs.declared.schema.Permit.{Permit}
use Rattle.calculus.specs.declared.schema.Rule.{Rule}
use Rattle.calculus.specs.Database.{Db, View, Index, is_relation}
use Rattle.calculus.specs.Limits.{greatest_level, most_expanded_variables, greatest_size}
use Rattle.calculus.specs.Stored.{Range, Kept, Viewed, range_at, range_info, info_at, attrs_in, attrs_at, kinds_at}
use Rattle.calculus.specs.Structures.{is_index}
use Rattle.calculus.specs.QueryParts.{vars_of, targets_of, qual_of, query_aggregates}
use Rattle.calculus.specs.Kinds.{kind_of, kinds_fit}
use Rattle.calculus.specs.Lists.{is_any}
use Rattle.calculus.specs.Sizes.{Measure, Known, range_level, level_above, level_within, level_of, range_measure, query_measure, measure_within, measure_of, query_size, expanded_variables, source_variables, plain_measure}
use Rattle.calculus.specs.IsDatabase.{valid_query, vars_are_there, valid_row_qual, valid_permit, valid_index, has_kind, keys_stand, user_is_named}

-- ---- what is the same

-- the two are both nothing, both kept with the same attributes, or the same view
abbrev pub AlikeRange : Option Range → Option Range → Type 0
AlikeRange None None = Unit {0}
AlikeRange None (Some r) = ⊥
AlikeRange (Some r) None = ⊥
AlikeRange (Some (Kept r)) (Some (Kept s)) = r.info.attrs ≡ s.info.attrs
AlikeRange (Some (Kept r)) (Some (Viewed w)) = ⊥
AlikeRange (Some (Viewed v)) (Some (Kept s)) = ⊥
AlikeRange (Some (Viewed v)) (Some (Viewed w)) = v ≡ w

-- under each key the two have the like, and the one has a base relation where the other has
pub record Alike (db later : Db) : Type 0 where
  pub ranges : (key : RelKey) → AlikeRange (range_at db key) (range_at later key)
  pub relations : (key : RelKey) → is_relation db key ≡ is_relation later key

pub alike_itself : (r : Option Range) → AlikeRange r r
alike_itself None = tt
alike_itself (Some (Kept r)) = refl
alike_itself (Some (Viewed v)) = refl

-- ---- levels

range_level_same : (f g : View → Option ℕ) → ((view : View) → f view ≡ g view) → (r s : Option Range) → AlikeRange r s → range_level f r ≡ range_level g s
range_level_same f g h None None a = refl
range_level_same f g h None (Some s) a = absurd a
range_level_same f g h (Some r) None a = absurd a
range_level_same f g h (Some (Kept r)) (Some (Kept s)) a = refl
range_level_same f g h (Some (Kept r)) (Some (Viewed w)) a = absurd a
range_level_same f g h (Some (Viewed v)) (Some (Kept s)) a = absurd a
range_level_same f g h (Some (Viewed v)) (Some (Viewed w)) a = h v ∙ ap g a

level_at : (db later : Db) → Alike db later → (n : ℕ) (key : RelKey) → level_within n db key ≡ level_within n later key
level_at db later alike zero key = range_level_same (λ view. None) (λ view. None) (λ view. refl) (range_at db key) (range_at later key) (alike.ranges key)
level_at db later alike (suc n) key =
    range_level_same (λ view. level_above (map (level_within n db) (vars_of view.query))) (λ view. level_above (map (level_within n later) (vars_of view.query)))
    (λ view. ap (λ level. level_above (map level (vars_of view.query))) (λ i key. level_at db later alike n key i)) (range_at db key) (range_at later key) (alike.ranges key)

level_same : (db later : Db) → Alike db later → level_of db ≡ level_of later
unfolding level_of
level_same db later alike = λ i key. level_at db later alike greatest_level key i

-- ---- sizes

range_measure_same : (f g : View → Measure) → ((view : View) → f view ≡ g view) → (r s : Option Range) → AlikeRange r s → range_measure f r ≡ range_measure g s
range_measure_same f g h None None a = refl
range_measure_same f g h None (Some s) a = absurd a
range_measure_same f g h (Some r) None a = absurd a
range_measure_same f g h (Some (Kept r)) (Some (Kept s)) a = refl
range_measure_same f g h (Some (Kept r)) (Some (Viewed w)) a = absurd a
range_measure_same f g h (Some (Viewed v)) (Some (Kept s)) a = absurd a
range_measure_same f g h (Some (Viewed v)) (Some (Viewed w)) a = h v ∙ ap g a

measure_at : (db later : Db) → Alike db later → (n : ℕ) (key : RelKey) → measure_within n db key ≡ measure_within n later key
measure_at db later alike zero key = range_measure_same (λ view. plain_measure) (λ view. plain_measure) (λ view. refl) (range_at db key) (range_at later key) (alike.ranges key)
measure_at db later alike (suc n) key =
    range_measure_same (λ view. query_measure (measure_within n db) view.query) (λ view. query_measure (measure_within n later) view.query)
    (λ view. ap (λ known. query_measure known view.query) (λ i key. measure_at db later alike n key i)) (range_at db key) (range_at later key) (alike.ranges key)

measure_same : (db later : Db) → Alike db later → measure_of db ≡ measure_of later
unfolding measure_of
measure_same db later alike = λ i key. measure_at db later alike greatest_level key i

-- ---- attributes and kinds

pub range_attrs_same : (r s : Option Range) → AlikeRange r s → attrs_in (option_map range_info r) ≡ attrs_in (option_map range_info s)
range_attrs_same None None a = refl
range_attrs_same None (Some s) a = absurd a
range_attrs_same (Some r) None a = absurd a
range_attrs_same (Some (Kept r)) (Some (Kept s)) a = a
range_attrs_same (Some (Kept r)) (Some (Viewed w)) a = absurd a
range_attrs_same (Some (Viewed v)) (Some (Kept s)) a = absurd a
range_attrs_same (Some (Viewed v)) (Some (Viewed w)) a = ap (λ view. view.info.attrs) a

pub attrs_same : (db later : Db) → Alike db later → attrs_at db ≡ attrs_at later
unfolding info_at
attrs_same db later alike = λ i key. range_attrs_same (range_at db key) (range_at later key) (alike.ranges key) i

kinds_same : (db later : Db) → Alike db later → kinds_at db ≡ kinds_at later
kinds_same db later alike = ap (λ attrs key. map (λ a. a.kind) (attrs key)) (attrs_same db later alike)

pub range_there_same : (r s : Option Range) → AlikeRange r s → is_some r ≡ is_some s
range_there_same None None a = refl
range_there_same None (Some s) a = absurd a
range_there_same (Some r) None a = absurd a
range_there_same (Some r) (Some s) a = refl

-- something to range over stands under the key
abbrev is_ranged : Db → RelKey → Bool
is_ranged db key = is_some (range_at db key)

there_same : (db later : Db) → Alike db later → is_ranged db ≡ is_ranged later
there_same db later alike = λ i key. range_there_same (range_at db key) (range_at later key) (alike.ranges key) i

relations_same : (db later : Db) → Alike db later → is_relation db ≡ is_relation later
relations_same db later alike = λ i key. alike.relations key i

-- ---- the facts of a database that carry over

pub levels_stay : (db later : Db) → Alike db later → (views : List View)
    → list_all (λ v. is_some (level_of db v.info.key)) views ≡ list_all (λ v. is_some (level_of later v.info.key)) views
levels_stay db later alike views = ap (λ level. list_all (λ v. is_some (level v.info.key)) views) (level_same db later alike)

pub vars_stay : (db later : Db) → Alike db later → (views : List View) → list_all (λ v. vars_are_there db v.query) views ≡ list_all (λ v. vars_are_there later v.query) views
vars_stay db later alike views = ap (λ there. list_all (λ v. list_all there (vars_of v.query)) views) (there_same db later alike)

-- the kinds in a query fit, where attributes have these kinds
abbrev stands_by : (RelKey → List Kind) → Query → Bool
stands_by kinds q = list_all (λ t. has_kind (kind_of t.term (map kinds (vars_of q))) t.kind) (targets_of q) && kinds_fit (qual_of q) (map kinds (vars_of q))

pub queries_stay : (db later : Db) → Alike db later → (views : List View) → list_all (λ v. valid_query db v.query) views ≡ list_all (λ v. valid_query later v.query) views
queries_stay db later alike views = ap (λ kinds. list_all (λ v. stands_by kinds v.query) views) (kinds_same db later alike)

-- the variables of a query once expanded, where this is known of what variables range over
abbrev expanded_by : Known → Query → ℕ
expanded_by known q = (query_measure known q).variables + sum_by (λ g. source_variables known g.source) (query_aggregates q)

pub expansions_stay : (db later : Db) → Alike db later → (views : List View)
    → list_all (λ v. nat_le (expanded_variables db v.query) most_expanded_variables) views ≡ list_all (λ v. nat_le (expanded_variables later v.query) most_expanded_variables) views
unfolding expanded_variables
expansions_stay db later alike views = ap (λ known. list_all (λ v. nat_le (expanded_by known v.query) most_expanded_variables) views) (measure_same db later alike)

-- the size of a query, where this is known of what variables range over
abbrev size_by : Known → Query → ℕ
size_by known q = sum (query_measure known q).attrs + (query_measure known q).qual

pub sizes_stay : (db later : Db) → Alike db later → (views : List View)
    → list_all (λ v. nat_le (query_size db v.query) greatest_size) views ≡ list_all (λ v. nat_le (query_size later v.query) greatest_size) views
unfolding query_size
sizes_stay db later alike views = ap (λ known. list_all (λ v. nat_le (size_by known v.query) greatest_size) views) (measure_same db later alike)

pub rules_stay : (db later : Db) → Alike db later → (rules : List (RelKey × Rule))
    → list_all (λ p. is_relation db p.0 && valid_row_qual db p.0 p.1.qual) rules ≡ list_all (λ p. is_relation later p.0 && valid_row_qual later p.0 p.1.qual) rules
rules_stay db later alike rules =
    λ i. list_all (λ p. relations_same db later alike i p.0 && kinds_fit p.1.qual (kinds_same db later alike i p.0 ∷ [])) rules

pub permits_stay : (db later : Db) → Alike db later → db.dba ≡ later.dba → (permits : List (RelKey × Permit))
    → list_all (λ p. valid_permit db p.0 p.1) permits ≡ list_all (λ p. valid_permit later p.0 p.1) permits
permits_stay db later alike dba permits =
    λ i. list_all (λ p. relations_same db later alike i p.0
    && (bytes_eq p.0.owner (dba i) && (user_is_named p.1.user
    && (list_all (λ a. nat_lt a (length (attrs_same db later alike i p.0))) p.1.attrs && kinds_fit p.1.qual (kinds_same db later alike i p.0 ∷ []))))) permits

pub indexes_stay : (db later : Db) → Alike db later → (indexes : List Index) → list_all (valid_index db) indexes ≡ list_all (valid_index later) indexes
indexes_stay db later alike indexes = λ i. list_all (λ x. is_index x.info.spec
    && (relations_same db later alike i x.base && (not (is_any x.info.attrs) && (is_any x.info.keys && keys_stand (attrs_same db later alike i x.base) x.info.keys)))) indexes
