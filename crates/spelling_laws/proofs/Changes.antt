-- Lawful changes have spellings.
use Rattle.std.proofs.Common.{◌≡◌, refl, sym, ap, ◌∙◌, true≢false, subst, ℕ, suc, ◌+◌, ◌-◌, ◌≤◌, ℤ, pos, negsuc, w64, Bool, true, false, ◌&&◌, not, cond, List, [], ◌∷◌, filter, length, Option, Some, None, option_map, arith}
use Rattle.std.specs.Prelude.{nat_le, nat_lt, nat_eq, is_some, FitsSigned, find, bytes_eq}
use Rattle.std.specs.List.{list_all, list_any, AllByRecursion}
use Rattle.std.proofs.lemmas.Bool.{and_parts, leb-true}
use Rattle.std.proofs.lemmas.List.{length-map}
use Rattle.calculus.specs.declared.change.DbChange.{DbChange}
use Rattle.calculus.specs.declared.change.DbChange.TheVariants as changes
use Rattle.calculus.specs.declared.query.QQual.{QQual}
use Rattle.calculus.specs.declared.query.RelKey.{RelKey}
use Rattle.calculus.specs.declared.query.Target.{Target}
use Rattle.calculus.specs.declared.schema.Attr.{Attr}
use Rattle.calculus.specs.declared.schema.Permit.{Permit}
use Rattle.calculus.specs.declared.schema.RelInfo.{RelInfo}
use Rattle.calculus.specs.declared.schema.Rule.{Rule}
use Rattle.calculus.specs.declared.value.Domain.{Domain}
use Rattle.calculus.specs.declared.value.Domain.TheVariants.{I1, I2, I4, C}
use Rattle.calculus.specs.declared.value.Kind.{Kind}
use Rattle.calculus.specs.declared.value.Kind.TheVariants.{Of, Wide}
use Rattle.calculus.specs.declared.value.Value.{Value}
use Rattle.calculus.specs.declared.value.Value.TheVariants.{Int, Text}
use Rattle.calculus.specs.Change.{IsLawful, rows_differ, permit_numbers, rule_numbers}
use Rattle.calculus.specs.Database.{Db, Relation, relation_at, view_at, is_relation, is_there, permits_on, rules_on}
use Rattle.calculus.specs.Catalogue.{catalogue_at}
use Rattle.calculus.specs.IsDatabase.{IsDatabase, key_is_named, attrs_stand, are_stored, keys_stand, valid_structure, value_fits, row_fits, relation_rows_fit, valid_view_info, same_kind, attrs_are_targets, valid_query, vars_are_there, valid_row_qual, permit_attrs_stand, valid_permit, user_is_named}
use Rattle.calculus.specs.Keys.{same_key, key_of}
use Rattle.calculus.specs.Limits.{most_rows, most_permits, most_rules, greatest_number, most_listed_attributes, most_expanded_variables, most_variables, most_keys, most_levels, greatest_size, greatest_qual_size}
use Rattle.calculus.specs.Lists.{is_any, has_number, differ_by}
use Rattle.calculus.specs.Name.{is_name}
use Rattle.calculus.specs.QueryParts.{vars_of, targets_of}
use Rattle.calculus.specs.Rights.{are_rights}
use Rattle.calculus.specs.Rows.{Row, Ascends, has}
use Rattle.calculus.specs.Sizes.{qual_size, variables, expanded_variables, query_size, query_level}
use Rattle.calculus.specs.Spelled.{qual_is_spelled, query_is_spelled}
use Rattle.calculus.specs.Storable.{query_is_storable, row_qual_is_small, row_qual_is_storable, permit_lists_are_storable}
use Rattle.calculus.specs.Stored.{Range, Kept, Viewed, range_at, range_info, info_at, attrs_in, kept_rows, rows_at, attrs_at, kinds_at}
use Rattle.calculus.specs.Structures.{is_keyed, is_structure, is_view}
use Rattle.calculus.specs.Text.{is_text}
use Rattle.calculus.specs.TreeLevels.{qual_levels, query_levels}
use Rattle.calculus.specs.Value.{fits, number_fits as fits_number}
use Rattle.change_laws.specs.Fit.{key_is_free, number_is_free, numbers_may_go, permits_may_go, rules_may_go, rows_are_fit, relation_is_fit, permit_is_fit, rule_is_fit, structure_is_fit, index_is_fit, destroying_is_fit, view_is_small, view_is_fit, change_is_fit}
use Rattle.change_laws.proofs.Counted.{length_without}
use Rattle.change_laws.proofs.Exactly.{fits_exactly}
use Rattle.quel_meaning.specs.Passing.{is_too_high}
use Rattle.quel_meaning.proofs.DatabaseFacts.{found_passes, stood}
use Rattle.quel_meaning.proofs.Each.{Each, each_to, each_passes, in_map, in_filter, and}
use Rattle.quel_meaning.proofs.Keys.{find_passes, same_keys}
use Rattle.quel_tree.specs.Changes.{change}
use Rattle.quel_tree.specs.Message.{most_tree_levels}
use Rattle.quel_tree.specs.Names.{text}
use Rattle.quel_tree.specs.Relations.{attr, rel_info, rel_key}
use Rattle.quel_tree.specs.Values.{value, row}
use Rattle.tree_words.specs.Words.{byte, list, number32, number64}
use Rattle.spelling_laws.specs.Short.{is_place, is_number, are_short, qual_is_short, attr_is_short}
use Rattle.spelling_laws.proofs.Fields.{place_fits, number_fits, not_above, not_below, list_fits, rows_fit, short_fits, name_fits, key_fits, attr_fits, specs_fit}
use Rattle.spelling_laws.proofs.Named.{IsNamed, named_key, there_named, entries_named, few_attrs_at, few_kinds_at}
use Rattle.spelling_laws.proofs.Numbers.{there_is, count_is, short_is, places_are}
use Rattle.spelling_laws.proofs.Queries.{plain_query_short}
use Rattle.spelling_laws.proofs.Requests.{permit_fits, rule_fits}
use Rattle.spelling_laws.proofs.Spelled.{query_fits}
use Rattle.spelling_laws.proofs.Stored.{few_keys, few_numbers, among, rows_among}
use Rattle.spelling_laws.proofs.Terms.{few_one, plain_qual_short}
use Rattle.spelling_laws.proofs.Trees.{relation_named, keys_short, attrs_short}

-- ---- rows

number_fit : (d : Domain) (n : ℤ) → fits_number n d ≡ true → FitsSigned w64 n
number_fit I1 (pos n) h = let few = not_above 127 127 n h in record { sfits = omega (arith, few) }
number_fit I1 (negsuc n) h = let few = not_below 127 127 n h in record { sfits = omega (arith, few) }
number_fit I2 (pos n) h = let few = not_above 32767 32767 n h in record { sfits = omega (arith, few) }
number_fit I2 (negsuc n) h = let few = not_below 32767 32767 n h in record { sfits = omega (arith, few) }
number_fit I4 (pos n) h = let few = not_above 2147483647 2147483647 n h in record { sfits = omega (arith, few) }
number_fit I4 (negsuc n) h = let few = not_below 2147483647 2147483647 n h in record { sfits = omega (arith, few) }
number_fit (C width) n h = absurd (true≢false (sym h))

value_fit : (v : Value) (k : Kind) → value_fits v k ≡ true → value.Fits v
unfolding value number64 text
value_fit (Int n) Wide h = absurd (true≢false (sym h))
value_fit (Text t) Wide h = absurd (true≢false (sym h))
value_fit (Int n) (Of d) h = number_fit d n h
value_fit (Text t) (Of d) h = (and_parts (fits (Text t) d) (is_text t) h).1

-- a row that fits attributes has as many values
row_fit : (attrs : List Attr) (vs : Row) → row_fits attrs vs ≡ true → (length vs ≡ length attrs) × Each value.Fits vs
row_fit [] [] h = (refl, tt)
row_fit [] (v ∷ vs) h = absurd (true≢false (sym h))
row_fit (a ∷ attrs) [] h = absurd (true≢false (sym h))
row_fit (a ∷ attrs) (v ∷ vs) h =
    let two = and_parts (value_fits v a.kind) (row_fits attrs vs) h in
    let rest = row_fit attrs vs two.1 in
    (ap suc rest.0, (value_fit v a.kind two.0, rest.1))

row_spelled : (attrs : List Attr) → length attrs ≤ 49 → (vs : Row) → row_fits attrs vs ≡ true → row.Fits vs
unfolding row
row_spelled attrs few vs h = let two = row_fit attrs vs h in let same = two.0 in list_fits value vs (count_is (length vs) (omega (arith, few, same))) two.1

-- ---- a relation with its rows

-- what is known of a relation
info_spelled : (info : RelInfo) → IsNamed info.key → are_short attr_is_short info.attrs ≡ true → are_short is_place info.keys ≡ true → rel_info.Fits info
unfolding rel_info
info_spelled info key attrs keys = (key_fits info.key key, (specs_fit info.spec, (short_fits attr attr_is_short attr_fits info.attrs attrs, short_fits byte is_place place_fits info.keys keys)))

none_short : (keys : List ℕ) → not (is_any keys) ≡ true → are_short is_place keys ≡ true
none_short [] h = refl
none_short (k ∷ keys) h = absurd (true≢false (sym h))

few_stand : (attrs : List Attr) → attrs_stand attrs ≡ true → length attrs ≤ 49
few_stand attrs h = leb-true (length attrs) 49 (stood attrs h).few

-- keys that stand for few attributes
stand_short : (attrs : List Attr) (keys : List ℕ) → length attrs ≤ 49 → keys_stand attrs keys ≡ true → are_short is_place keys ≡ true
stand_short attrs keys few h =
    let one = and_parts (list_all (λ k. nat_lt k (length attrs)) keys) _ h in
    let two = and_parts (differ_by nat_eq keys) (nat_le (length keys) most_keys) one.1 in
    let most = leb-true (length keys) most_keys two.1 in
    short_is is_place keys (omega (arith, most)) (places_are (length attrs) keys (omega (arith, few)) one.0)

structure_short : (info : RelInfo) → length info.attrs ≤ 49 → valid_structure info ≡ true → are_short is_place info.keys ≡ true
structure_short info few h = go (is_keyed info.spec) h
  where
    go : (b : Bool) → (elim b as (λ b. Bool) [ true ↦ is_any info.keys && keys_stand info.attrs info.keys | false ↦ is_structure info.spec && not (is_any info.keys) ]) ≡ true → are_short is_place info.keys ≡ true
    go true h = stand_short info.attrs info.keys few (and_parts (is_any info.keys) (keys_stand info.attrs info.keys) h).1
    go false h = none_short info.keys (and_parts (is_structure info.spec) (not (is_any info.keys)) h).1

free_key : (db : Db) (key : RelKey) → key_is_free db key ≡ true → key_is_named key ≡ true
unfolding key_is_free
free_key db key h = (and_parts (key_is_named key) _ h).0

-- ---- changes of a database

module _ (db : Db) (d : IsDatabase db) where
  -- the base relation under a key
  record Standing (key : RelKey) : Type 0 where
    relation : Relation
    found : find (λ (r : Relation). same_key r.info.key key) db.relations ≡ Some relation

  standing : (key : RelKey) → is_relation db key ≡ true → Standing key
  standing key h = let one = there_is (relation_at db key) h in record { relation = one.0; found = one.1 }

  rows_are : (key : RelKey) (s : Standing key) → rows_at db key ≡ s.relation.rows
  unfolding range_at
  rows_are key s = go (relation_at db key) s.found
    where
      go : (o : Option Relation) → o ≡ Some s.relation → kept_rows (elim o as (λ o. Option Range) [
        | Some relation ↦ Some (Kept relation)
        | None ↦ elim (view_at db key) [ Some view ↦ Some (Viewed view) | None ↦ option_map Kept (catalogue_at db key) ]
      ]) ≡ s.relation.rows
      go None e = absurd (cc e)
      go (Some r) e = let same : r ≡ s.relation = cc e in ap (λ (r : Relation). r.rows) same

  attrs_are : (key : RelKey) (s : Standing key) → attrs_at db key ≡ s.relation.info.attrs
  unfolding info_at range_at
  attrs_are key s = go (relation_at db key) s.found
    where
      go : (o : Option Relation) → o ≡ Some s.relation → attrs_in (option_map range_info (elim o as (λ o. Option Range) [
        | Some relation ↦ Some (Kept relation)
        | None ↦ elim (view_at db key) [ Some view ↦ Some (Viewed view) | None ↦ option_map Kept (catalogue_at db key) ]
      ])) ≡ s.relation.info.attrs
      go None e = absurd (cc e)
      go (Some r) e = let same : r ≡ s.relation = cc e in ap (λ (r : Relation). r.info.attrs) same

  few_rows : (key : RelKey) (s : Standing key) → length (rows_at db key) ≤ 100000
  few_rows key s =
      let few = leb-true (length s.relation.rows) most_rows (found_passes (λ (r : Relation). same_key r.info.key key) (λ (r : Relation). nat_le (length r.rows) most_rows) db.relations s.relation d.few_rows s.found) in
      let same = ap length (rows_are key s) in omega (arith, few, same)

  all_fit : (key : RelKey) (s : Standing key) → list_all (row_fits (attrs_at db key)) (rows_at db key) ≡ true
  all_fit key s =
      let all = found_passes (λ (r : Relation). same_key r.info.key key) relation_rows_fit db.relations s.relation d.rows_fit s.found in
      (λ i. list_all (row_fits (attrs_are key s i)) (rows_are key s i)) ∙ all

  ascend : (key : RelKey) (s : Standing key) → Ascends (rows_at db key)
  ascend key s = subst Ascends (sym (rows_are key s)) (found_each db.relations d.rows_ascend s.found)
    where
      found_each : (rs : List Relation) → AllByRecursion (λ (r : Relation). Ascends r.rows) rs → find (λ (r : Relation). same_key r.info.key key) rs ≡ Some s.relation → Ascends s.relation.rows
      found_each [] all e = absurd (cc e)
      found_each (r ∷ rs) all e = go (same_key r.info.key key) refl e (found_each rs all.1)
        where
          go : (b : Bool) → same_key r.info.key key ≡ b → cond b (Some r) (find (λ (r : Relation). same_key r.info.key key) rs) ≡ Some s.relation
              → (find (λ (r : Relation). same_key r.info.key key) rs ≡ Some s.relation → Ascends s.relation.rows) → Ascends s.relation.rows
          go true f e later = let same : r ≡ s.relation = cc e in subst (λ (r : Relation). Ascends r.rows) same all.0
          go false f e later = later e

  rows_spelled : (key : RelKey) (rows : List Row) → length rows ≤ 4294967295 → Each (λ vs. row_fits (attrs_at db key) vs ≡ true) rows → (list number32 row).Fits rows
  rows_spelled key rows few all = rows_fit row rows few (each_to (λ vs. row_fits (attrs_at db key) vs ≡ true) row.Fits (row_spelled (attrs_at db key) (few_attrs_at db d key)) rows all)

  -- ---- qualifications over a row

  over_row : (rel : RelKey) (q : QQual) → valid_row_qual db rel q ≡ true → qual_is_short q ≡ true
  over_row rel q h = let few = few_kinds_at db d rel in plain_qual_short (kinds_at db rel ∷ []) (few_one (kinds_at db rel) (omega (arith, few))) q h

  -- what is stored of a qualification: few levels, and constants that are ones
  record Storable (q : QQual) : Type 0 where
    levels : qual_levels q ≤ 3000
    spelled : qual_is_spelled q ≡ true

  storable : (q : QQual) → row_qual_is_storable q ≡ true → Storable q
  storable q h =
      let one = and_parts (row_qual_is_small q) (qual_is_spelled q) h in
      record { levels = leb-true (qual_levels q) most_levels (and_parts (nat_le (qual_size [] q) greatest_qual_size) (nat_le (qual_levels q) most_levels) one.0).1; spelled = one.1 }

  -- ---- numbers that go

  numbers_spelled : (rel : RelKey) (standing numbers : List ℕ) → length standing ≤ 100 → Each (λ n. is_number n ≡ true) standing → numbers_may_go db rel standing numbers ≡ true
      → IsNamed rel × (are_short is_number numbers ≡ true)
  unfolding numbers_may_go
  numbers_spelled rel standing numbers few all h =
      let one = and_parts (is_relation db rel) _ h in
      let two = and_parts (list_all (has_number standing) numbers) (differ_by nat_eq numbers) one.1 in
      let most = few_numbers numbers standing two.0 two.1 in (
        relation_named db d rel one.0,
        short_is is_number numbers (omega (arith, few, most)) (each_to (λ n. has_number standing n ≡ true) (λ n. is_number n ≡ true) (among (λ n. is_number n ≡ true) standing all) numbers (each_passes (has_number standing) numbers two.0)),
      )

  few_permits : (rel : RelKey) (s : Standing rel) → length (permit_numbers db rel) ≤ 100
  few_permits rel s =
      let same = same_keys s.relation.info.key rel (find_passes (λ (r : Relation). same_key r.info.key rel) db.relations s.relation s.found) in
      let few = found_passes (λ (r : Relation). same_key r.info.key rel) (λ (r : Relation). nat_le (length (permits_on db r.info.key)) most_permits) db.relations s.relation d.few_permits s.found in
      let most : length (permits_on db rel) ≤ 100 = subst (λ key. length (permits_on db key) ≤ 100) same (leb-true (length (permits_on db s.relation.info.key)) most_permits few) in
      let long = length-map (permits_on db rel) (λ (p : Permit). p.number) in
      omega (arith, most, long)

  few_rules : (rel : RelKey) (s : Standing rel) → length (rule_numbers db rel) ≤ 100
  few_rules rel s =
      let same = same_keys s.relation.info.key rel (find_passes (λ (r : Relation). same_key r.info.key rel) db.relations s.relation s.found) in
      let few = found_passes (λ (r : Relation). same_key r.info.key rel) (λ (r : Relation). nat_le (length (rules_on db r.info.key)) most_rules) db.relations s.relation d.few_rules s.found in
      let most : length (rules_on db rel) ≤ 100 = subst (λ key. length (rules_on db key) ≤ 100) same (leb-true (length (rules_on db s.relation.info.key)) most_rules few) in
      let long = length-map (rules_on db rel) (λ (r : Rule). r.number) in
      omega (arith, most, long)

  permits_numbered : (rel : RelKey) → Each (λ n. is_number n ≡ true) (permit_numbers db rel)
  permits_numbered rel =
      in_map (λ n. is_number n ≡ true) (λ (p : Permit). p.number) (permits_on db rel)
      (in_map (λ (p : Permit). is_number p.number ≡ true) (λ (p : RelKey × Permit). p.1) (filter (λ p. same_key p.0 rel) db.permits)
      (in_filter (λ (p : RelKey × Permit). is_number p.1.number ≡ true) (λ p. same_key p.0 rel) db.permits (each_passes (λ (p : RelKey × Permit). nat_le p.1.number greatest_number) db.permits d.small_permit_numbers)))

  rules_numbered : (rel : RelKey) → Each (λ n. is_number n ≡ true) (rule_numbers db rel)
  rules_numbered rel =
      in_map (λ n. is_number n ≡ true) (λ (r : Rule). r.number) (rules_on db rel)
      (in_map (λ (r : Rule). is_number r.number ≡ true) (λ (p : RelKey × Rule). p.1) (filter (λ p. same_key p.0 rel) db.rules)
      (in_filter (λ (p : RelKey × Rule). is_number p.1.number ≡ true) (λ p. same_key p.0 rel) db.rules (each_passes (λ (p : RelKey × Rule). nat_le p.1.number greatest_number) db.rules d.small_rule_numbers)))

  -- ---- views

  as_many : (attrs : List Attr) (ts : List Target) → attrs_are_targets attrs ts ≡ true → length ts ≡ length attrs
  as_many [] [] same = refl
  as_many [] (t ∷ ts) same = absurd (true≢false (sym same))
  as_many (a ∷ attrs) [] same = absurd (true≢false (sym same))
  as_many (a ∷ attrs) (t ∷ ts) same =
      let one = and_parts (bytes_eq a.name t.name) _ same in
      let two = and_parts (same_kind a.kind t.kind) (attrs_are_targets attrs ts) one.1 in
      ap suc (as_many attrs ts two.1)

  permits_go : (rel : RelKey) (numbers : List ℕ) → permits_may_go db rel numbers ≡ true → is_relation db rel ≡ true
  unfolding permits_may_go numbers_may_go
  permits_go rel numbers h = (and_parts (is_relation db rel) _ h).0

  rules_go : (rel : RelKey) (numbers : List ℕ) → rules_may_go db rel numbers ≡ true → is_relation db rel ≡ true
  unfolding rules_may_go numbers_may_go
  rules_go rel numbers h = (and_parts (is_relation db rel) _ h).0

  -- ---- each kind of change

  change_spelled : (c : DbChange) → change_is_fit db c ≡ true → (change most_tree_levels).Fits c
  unfolding change change_is_fit rows_are_fit relation_is_fit destroying_is_fit structure_is_fit index_is_fit view_is_fit permit_is_fit rule_is_fit permits_may_go rules_may_go view_is_small number_is_free
  change_spelled (changes.Rows rel remove add) h =
      let one = and_parts (is_relation db rel) _ h in
      let two = and_parts (list_all (has (rows_at db rel)) remove) _ one.1 in
      let three = and_parts (not (list_any (has (rows_at db rel)) add)) _ two.1 in
      let four = and_parts (rows_differ remove) _ three.1 in
      let five = and_parts (rows_differ add) _ four.1 in
      let six = and_parts (list_all (row_fits (attrs_at db rel)) add) (nat_le (length (rows_at db rel) + length add - length remove) most_rows) five.1 in
      let s = standing rel one.0 in
      let few = few_rows rel s in
      let gone = length_without remove (rows_at db rel) (ascend rel s) four.0 two.0 in
      let left = leb-true (length (rows_at db rel) + length add - length remove) most_rows six.1 in (
        key_fits rel (relation_named db d rel one.0),
        (
          rows_spelled rel remove (omega (arith, few, gone)) (rows_among (row_fits (attrs_at db rel)) (rows_at db rel) (all_fit rel s) remove two.0),
          rows_spelled rel add (omega (arith, few, gone, left)) (each_passes (row_fits (attrs_at db rel)) add six.0),
        ),
      )
  change_spelled (changes.Create info rows) h =
      let one = and_parts (key_is_free db info.key) _ h in
      let two = and_parts (valid_structure info) _ one.1 in
      let three = and_parts (attrs_stand info.attrs) _ two.1 in
      let four = and_parts (are_stored info.attrs) _ three.1 in
      let five = and_parts (rows_differ rows) _ four.1 in
      let six = and_parts (list_all (row_fits info.attrs) rows) (nat_le (length rows) most_rows) five.1 in
      let few = leb-true (length rows) most_rows six.1 in
      let attrs = few_stand info.attrs three.0 in (
        info_spelled info (named_key info.key (free_key db info.key one.0)) (attrs_short db d info.attrs three.0) (structure_short info attrs two.0),
        rows_fit row rows (omega (arith, few)) (each_to (λ vs. row_fits info.attrs vs ≡ true) row.Fits (row_spelled info.attrs attrs) rows (each_passes (row_fits info.attrs) rows six.0)),
      )
  change_spelled (changes.Destroy rels) h =
      let one = and_parts (list_all (is_there db) rels) _ h in
      let two = and_parts (differ_by same_key rels) _ one.1 in
      let few = few_keys db d rels one.0 two.0 in
      list_fits rel_key rels (count_is (length rels) (omega (arith, few))) (each_to (λ key. is_there db key ≡ true) rel_key.Fits (λ key h. key_fits key (entries_named db d key h)) rels (each_passes (is_there db) rels one.0))
  change_spelled (changes.Modify rel to keys) h =
      let one = and_parts (is_relation db rel) _ h in (
        key_fits rel (relation_named db d rel one.0),
        (specs_fit to, short_fits byte is_place place_fits keys (structure_short (record { key = rel; spec = to; attrs = attrs_at db rel; keys = keys }) (few_attrs_at db d rel) one.1)),
      )
  change_spelled (changes.Index base name keys) h =
      let one = and_parts (is_relation db base) _ h in
      let two = and_parts (is_any keys) _ one.1 in
      let three = and_parts (keys_stand (attrs_at db base) keys) (key_is_free db (key_of base.owner name)) two.1 in
      let named = named_key (key_of base.owner name) (free_key db (key_of base.owner name) three.1) in (
        key_fits base (relation_named db d base one.0),
        (name_fits name (and_parts (is_name base.owner) (is_name name) named).1, short_fits byte is_place place_fits keys (keys_short db d base keys three.0)),
      )
  change_spelled (changes.View info q) h =
      let one = and_parts (key_is_free db info.key) _ h in
      let two = and_parts (valid_view_info info) _ one.1 in
      let three = and_parts (attrs_stand info.attrs) _ two.1 in
      let four = and_parts (attrs_are_targets info.attrs (targets_of q)) _ three.1 in
      let five = and_parts (vars_are_there db q) _ four.1 in
      let six = and_parts (not (is_too_high (query_level db q))) _ five.1 in
      let seven = and_parts (valid_query db q) _ six.1 in
      let vars = and_parts (nat_le (length (vars_of q)) most_expanded_variables) _ seven.1 in
      let some = and_parts (nat_le (variables q) most_variables) _ vars.1 in
      let expanded = and_parts (nat_le (expanded_variables db q) most_expanded_variables) _ some.1 in
      let size = and_parts (nat_le (query_size db q) greatest_size) (query_is_storable q) expanded.1 in
      let tree = and_parts (nat_le (query_levels q) most_levels) (query_is_spelled q) size.1 in
      let few = leb-true (length (vars_of q)) most_expanded_variables vars.0 in
      let attrs = few_stand info.attrs three.0 in
      let many = as_many info.attrs (targets_of q) four.0 in
      let named = each_to (λ key. is_some (range_at db key) ≡ true) IsNamed (there_named db d) (vars_of q) (each_passes (λ key. is_some (range_at db key)) (vars_of q) five.0) in
      let short = plain_query_short db d q (omega (arith, few)) named (omega (arith, attrs, many)) seven.0 tree.1 in (
        info_spelled info (named_key info.key (free_key db info.key one.0)) (attrs_short db d info.attrs three.0) (none_short info.keys (and_parts (is_view info.spec) (not (is_any info.keys)) two.0).1),
        query_fits most_tree_levels q (leb-true (query_levels q) most_levels tree.0) tree.1 short.0,
      )
  change_spelled (changes.Permit rel permit) h =
      let one = and_parts (valid_permit db rel permit) _ h in
      let two = and_parts (row_qual_is_storable permit.qual) _ one.1 in
      let three = and_parts (permit_lists_are_storable permit) _ two.1 in
      let four = and_parts (nat_le permit.number greatest_number) _ three.1 in
      let a = and_parts (is_relation db rel) _ one.0 in
      let b = and_parts (bytes_eq rel.owner db.dba) _ a.1 in
      let c = and_parts (user_is_named permit.user) _ b.1 in
      let e = and_parts (permit_attrs_stand db rel permit.attrs) (valid_row_qual db rel permit.qual) c.1 in
      let lists = and_parts (nat_le (length permit.attrs) most_listed_attributes) (are_rights permit.ops) three.0 in
      let most = leb-true (length permit.attrs) most_listed_attributes lists.0 in
      let attrs = few_attrs_at db d rel in
      let own = storable permit.qual two.0 in
      let places = short_is is_place permit.attrs (omega (arith, most)) (places_are (length (attrs_at db rel)) permit.attrs (omega (arith, attrs)) e.0) in (
        key_fits rel (relation_named db d rel a.0),
        permit_fits most_tree_levels permit own.levels
            (and (user_is_named permit.user) (are_rights permit.ops && qual_is_spelled permit.qual) c.0 (and (are_rights permit.ops) (qual_is_spelled permit.qual) lists.1 own.spelled))
            (and (is_number permit.number) (are_short is_place permit.attrs && qual_is_short permit.qual) four.0 (and (are_short is_place permit.attrs) (qual_is_short permit.qual) places (over_row rel permit.qual e.1))),
      )
  change_spelled (changes.Rule rel rule) h =
      let one = and_parts (is_relation db rel) _ h in
      let two = and_parts (valid_row_qual db rel rule.qual) _ one.1 in
      let three = and_parts (row_qual_is_storable rule.qual) _ two.1 in
      let four = and_parts (nat_le rule.number greatest_number) _ three.1 in
      let own = storable rule.qual three.0 in
      (key_fits rel (relation_named db d rel one.0), rule_fits most_tree_levels rule own.levels own.spelled (and (is_number rule.number) (qual_is_short rule.qual) four.0 (over_row rel rule.qual two.0)))
  change_spelled (changes.DropPermits rel numbers) h =
      let there = permits_go rel numbers h in
      let two = numbers_spelled rel (permit_numbers db rel) numbers (few_permits rel (standing rel there)) (permits_numbered rel) h in
      (key_fits rel two.0, short_fits number32 is_number number_fits numbers two.1)
  change_spelled (changes.DropRules rel numbers) h =
      let there = rules_go rel numbers h in
      let two = numbers_spelled rel (rule_numbers db rel) numbers (few_rules rel (standing rel there)) (rules_numbered rel) h in
      (key_fits rel two.0, short_fits number32 is_number number_fits numbers two.1)

pub lawful_spelled : (db : Db) (c : DbChange) → IsDatabase db → IsLawful db c → (change most_tree_levels).Fits c
lawful_spelled db c d lawful = change_spelled db d c ((fits_exactly db c d).1 lawful)
