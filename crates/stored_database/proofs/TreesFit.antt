-- Each view, rule and permit of a database has a spelling.
use Rattle.std.proofs.Common.{◌≡◌, refl, sym, ap, ◌∙◌, true≢false, ℕ, suc, ◌<◌, ◌≤◌, ◌/◌, ◌%◌, ◌&&◌, true, List, [], ◌∷◌, map, length, Option, Some, None, arith}
use Rattle.std.specs.Prelude.{is_some, nat_le, nat_lt, bytes_eq}
use Rattle.std.proofs.lemmas.Bool.{and_parts, leb-true, ltb-true, lt-ltb, eqb-true}
use Rattle.std.specs.List.{AllByRecursion, list_all}
use Rattle.calculus.specs.declared.query.QQual.{QQual}
use Rattle.calculus.specs.declared.query.Query.{Query, Query', Row_of-Target, end_of-Target, more_of-Target, items-the_row-Target}
use Rattle.calculus.specs.declared.query.RelKey.{RelKey}
use Rattle.calculus.specs.declared.query.Target.{Target}
use Rattle.calculus.specs.declared.schema.Attr.{Attr}
use Rattle.calculus.specs.declared.schema.Permit.{Permit}
use Rattle.calculus.specs.declared.schema.Rule.{Rule}
use Rattle.calculus.specs.declared.value.Domain.{Domain}
use Rattle.calculus.specs.declared.value.Domain.TheVariants.{I1, I2, I4, C}
use Rattle.calculus.specs.declared.value.Kind.{Kind}
use Rattle.calculus.specs.declared.value.Kind.TheVariants.{Of, Wide}
use Rattle.calculus.specs.Database.{Db, View, is_relation}
use Rattle.calculus.specs.IsDatabase.{IsDatabase, is_domain, is_kind, attrs_stand, same_domain, same_kind, attrs_are_targets, has_kind, var_kinds, valid_query, vars_are_there, valid_row_qual, user_is_named, permit_attrs_stand, valid_permit}
use Rattle.calculus.specs.Kinds.{kind_of, kinds_fit}
use Rattle.calculus.specs.Limits.{greatest_qual_size, most_levels, most_listed_attributes, greatest_number, most_expanded_variables}
use Rattle.calculus.specs.Lists.{is_any, differ_by}
use Rattle.calculus.specs.Limits.{most_attributes}
use Rattle.calculus.specs.Name.{is_name}
use Rattle.calculus.specs.QueryParts.{vars_of, targets_of, qual_of}
use Rattle.calculus.specs.Rights.{are_rights}
use Rattle.calculus.specs.Sizes.{qual_size}
use Rattle.calculus.specs.Spelled.{term_is_spelled, targets_are_spelled, qual_is_spelled, query_is_spelled}
use Rattle.calculus.specs.Storable.{query_is_storable, row_qual_is_small, row_qual_is_storable, permit_lists_are_storable}
use Rattle.calculus.specs.Stored.{range_at, attrs_at, kinds_at}
use Rattle.calculus.specs.TreeLevels.{term_levels, greatest_target_levels, qual_levels, query_levels}
use Rattle.quel_tree.specs.Message.{most_tree_levels}
use Rattle.quel_tree.specs.Names.{name}
use Rattle.quel_tree.specs.Permits.{permit, rule}
use Rattle.quel_tree.specs.Queries.{trees, qual, query, target}
use Rattle.quel_tree.specs.Relations.{rel_key}
use Rattle.quel_tree.specs.Values.{domain, kind}
use Rattle.tree_words.specs.Codec.{Codec}
use Rattle.tree_words.specs.Ways.{option}
use Rattle.tree_words.specs.Words.{byte, ItemsFit, list, number16, number32}
use Rattle.stored_database.proofs.Pairs.{all_then, pass_all}
use Rattle.stored_database.proofs.RangesFit.{IsNamed, there_is_named, few_attrs_at, few_kinds}
use Rattle.stored_database.proofs.SpelledTrees.{AreSpelled}
use Rattle.stored_database.proofs.TermsFit.{Few, term_fits, qual_fits}

-- ---- numbers and lists

fits_16 : (n : ℕ) → n < 65536 → number16.Fits n
unfolding number16
fits_16 n h = (omega arith, omega arith)

fits_32 : (n : ℕ) → n < 4294967296 → number32.Fits n
unfolding number32
fits_32 n h = (fits_16 (n / 65536) (omega arith), fits_16 (n % 65536) (omega arith))

items_fit : {A : Type 0} (c : Codec A) (xs : List A) → AllByRecursion c.Fits xs → ItemsFit c (length xs) xs
items_fit c [] all = tt
items_fit c (x ∷ xs) all = (all.0, items_fit c xs all.1)

-- a short list of what fits fits
list_fits : {A : Type 0} (c : Codec A) (xs : List A) → length xs < 65536 → AllByRecursion c.Fits xs → (list number16 c).Fits xs
unfolding list
list_fits c xs few all = (fits_16 (length xs) few, items_fit c xs all)

-- ---- names and kinds

name_fits : (bytes : List ℕ) → is_name bytes ≡ true → name.Fits bytes
unfolding name
name_fits bytes e = e

key_fits : (key : RelKey) → IsNamed key → rel_key.Fits key
unfolding rel_key
key_fits key named = (name_fits key.owner named.owner, name_fits key.name named.name)

domain_fits : (d : Domain) → is_domain d ≡ true → domain.Fits d
unfolding domain
domain_fits I1 e = tt
domain_fits I2 e = tt
domain_fits I4 e = tt
domain_fits (C width) e =
    let two = and_parts (nat_le 1 width) (nat_le width 255) e in
    let least = leb-true 1 width two.0 in
    let most = leb-true width 255 two.1 in
    (omega (arith, most), lt-ltb 0 width (omega (arith, least)))

kind_fits : (k : Kind) → is_kind k ≡ true → kind.Fits k
unfolding kind
kind_fits Wide e = tt
kind_fits (Of d) e = domain_fits d e

domain_too : (d e : Domain) → same_domain d e ≡ true → is_domain d ≡ true → is_domain e ≡ true
domain_too d I1 same is = refl
domain_too d I2 same is = refl
domain_too d I4 same is = refl
domain_too I1 (C n) same is = absurd (true≢false (sym same))
domain_too I2 (C n) same is = absurd (true≢false (sym same))
domain_too I4 (C n) same is = absurd (true≢false (sym same))
domain_too (C m) (C n) same is = ap (λ w. nat_le 1 w && nat_le w 255) (sym (eqb-true m n same)) ∙ is

kind_too : (k l : Kind) → same_kind k l ≡ true → is_kind k ≡ true → is_kind l ≡ true
kind_too k Wide same is = refl
kind_too Wide (Of e) same is = absurd (true≢false (sym same))
kind_too (Of d) (Of e) same is = domain_too d e same is

-- ---- targets

-- targets that are those of attributes have kinds, and are as many
kinds_of_targets : (attrs : List Attr) (ts : List Target) → attrs_are_targets attrs ts ≡ true → list_all (λ a. is_kind a.kind) attrs ≡ true → AllByRecursion (λ t. is_kind t.kind ≡ true) ts
kinds_of_targets attrs [] same are = tt
kinds_of_targets [] (t ∷ ts) same are = absurd (true≢false (sym same))
kinds_of_targets (a ∷ attrs) (t ∷ ts) same are =
    let one = and_parts (bytes_eq a.name t.name) (same_kind a.kind t.kind && attrs_are_targets attrs ts) same in
    let two = and_parts (same_kind a.kind t.kind) (attrs_are_targets attrs ts) one.1 in
    let its = and_parts (is_kind a.kind) (list_all (λ a. is_kind a.kind) attrs) are in
    (kind_too a.kind t.kind two.0 its.0, kinds_of_targets attrs ts two.1 its.1)

as_many : (attrs : List Attr) (ts : List Target) → attrs_are_targets attrs ts ≡ true → length ts ≡ length attrs
as_many [] [] same = refl
as_many [] (t ∷ ts) same = absurd (true≢false (sym same))
as_many (a ∷ attrs) [] same = absurd (true≢false (sym same))
as_many (a ∷ attrs) (t ∷ ts) same =
    let one = and_parts (bytes_eq a.name t.name) (same_kind a.kind t.kind && attrs_are_targets attrs ts) same in
    ap suc (as_many attrs ts (and_parts (same_kind a.kind t.kind) (attrs_are_targets attrs ts) one.1).1)

-- each target has a name, its constants are ones, and its term has no more levels
targets_spelled : {k : _} (row : Row_of-Target k) (n : ℕ) → targets_are_spelled row ≡ true → greatest_target_levels row ≤ n
    → AllByRecursion (λ (t : Target). (is_name t.name ≡ true) × (term_is_spelled t.term ≡ true) × (term_levels t.term ≤ n)) (items-the_row-Target _ row)
targets_spelled end_of-Target n spelled h = tt
targets_spelled (more_of-Target called of t rest) n spelled h =
    let one = and_parts (is_name called) (term_is_spelled t && targets_are_spelled rest) spelled in
    let two = and_parts (term_is_spelled t) (targets_are_spelled rest) one.1 in
    ((one.0, two.0, omega (arith, h)), targets_spelled rest n two.1 (omega (arith, h)))

has_some : (o : Option Kind) (k : Kind) → has_kind o k ≡ true → is_some o ≡ true
has_some None k e = e
has_some (Some l) k e = refl

targets_fit : (vars : List (List Kind)) → Few vars → (n : ℕ) (ts : List Target) → AllByRecursion (λ (t : Target). (is_name t.name ≡ true) × (term_is_spelled t.term ≡ true) × (term_levels t.term ≤ n)) ts
    → AllByRecursion (λ t. is_kind t.kind ≡ true) ts → AllByRecursion (λ t. has_kind (kind_of t.term vars) t.kind ≡ true) ts → AllByRecursion (target n).Fits ts
targets_fit vars few n [] spelled kinds has = tt
targets_fit vars few n (t ∷ ts) spelled kinds has =
    ((name_fits t.name spelled.0.0, (kind_fits t.kind kinds.0, term_fits vars few n t.term spelled.0.2 (has_some (kind_of t.term vars) t.kind has.0) spelled.0.1)), targets_fit vars few n ts spelled.1 kinds.1 has.1)

-- ---- queries

query_fits : (n : ℕ) (vars : List (List Kind)) → Few vars → (q : Query) → query_levels q ≤ suc n → query_is_spelled q ≡ true → length (vars_of q) < 65536 → AllByRecursion IsNamed (vars_of q)
    → length (targets_of q) < 65536 → AllByRecursion (λ t. is_kind t.kind ≡ true) (targets_of q) → AllByRecursion (λ t. has_kind (kind_of t.term vars) t.kind ≡ true) (targets_of q)
    → kinds_fit (qual_of q) vars ≡ true → (query (suc n)).Fits q
unfolding trees
query_fits n vars few (Query' keys marks targets q) h spelled few_keys named few_targets kinds has fit =
    let both = and_parts (targets_are_spelled targets) (qual_is_spelled q) spelled in (
      list_fits rel_key keys few_keys (all_then IsNamed rel_key.Fits keys key_fits named),
      (
        list_fits (target n) (items-the_row-Target _ targets) few_targets (targets_fit vars few n (items-the_row-Target _ targets) (targets_spelled targets n both.0 (omega (arith, h))) kinds has),
        qual_fits vars few n q (omega (arith, h)) fit both.1,
      ),
    )

module _ (db : Db) (d : IsDatabase db) where
  view_fits : (v : View) → query_is_storable v.query ≡ true → nat_le (length (vars_of v.query)) most_expanded_variables ≡ true → vars_are_there db v.query ≡ true → valid_query db v.query ≡ true
      → attrs_are_targets v.info.attrs (targets_of v.query) ≡ true → attrs_stand v.info.attrs ≡ true → (query most_tree_levels).Fits v.query
  view_fits v storable few there stands same attrs =
      let tree = and_parts (nat_le (query_levels v.query) most_levels) (query_is_spelled v.query) storable in
      let levels = leb-true (query_levels v.query) most_levels tree.0 in
      let keys = leb-true (length (vars_of v.query)) most_expanded_variables few in
      let two = and_parts (list_all (λ t. has_kind (kind_of t.term (var_kinds db v.query)) t.kind) (targets_of v.query)) (kinds_fit (qual_of v.query) (var_kinds db v.query)) stands in
      let some = and_parts (is_any v.info.attrs) _ attrs in
      let short = and_parts (nat_le (length v.info.attrs) most_attributes) _ some.1 in
      let names = and_parts (list_all (λ a. is_name a.name) v.info.attrs) _ short.1 in
      let differ = and_parts (differ_by bytes_eq (map (λ a. a.name) v.info.attrs)) _ names.1 in
      let kinds = and_parts (list_all (λ a. is_kind a.kind) v.info.attrs) _ differ.1 in
      let most = leb-true (length v.info.attrs) most_attributes short.0 in
      let many = as_many v.info.attrs (targets_of v.query) same in
      query_fits 2999 (var_kinds db v.query) (few_kinds db d (vars_of v.query) (omega (arith, keys))) v.query (omega (arith, levels)) tree.1 (omega (arith, keys))
      (all_then (λ key. is_some (range_at db key) ≡ true) IsNamed (vars_of v.query) (there_is_named db d) (pass_all (λ key. is_some (range_at db key)) (vars_of v.query) there))
      (omega (arith, most, many)) (kinds_of_targets v.info.attrs (targets_of v.query) same kinds.0)
      (pass_all (λ t. has_kind (kind_of t.term (var_kinds db v.query)) t.kind) (targets_of v.query) two.0) two.1

  views_fit : (vs : List View) → list_all (λ v. query_is_storable v.query) vs ≡ true → list_all (λ v. nat_le (length (vars_of v.query)) most_expanded_variables) vs ≡ true → list_all (λ v. vars_are_there db v.query) vs ≡ true
      → list_all (λ v. valid_query db v.query) vs ≡ true → list_all (λ v. attrs_are_targets v.info.attrs (targets_of v.query)) vs ≡ true → list_all (λ v. attrs_stand v.info.attrs) vs ≡ true
      → AllByRecursion (λ v. (query most_tree_levels).Fits v.query) vs
  views_fit [] storable few there stands same attrs = tt
  views_fit (v ∷ vs) storable few there stands same attrs =
      let a = and_parts (query_is_storable v.query) (list_all (λ v. query_is_storable v.query) vs) storable in
      let b = and_parts (nat_le (length (vars_of v.query)) most_expanded_variables) (list_all (λ v. nat_le (length (vars_of v.query)) most_expanded_variables) vs) few in
      let c = and_parts (vars_are_there db v.query) (list_all (λ v. vars_are_there db v.query) vs) there in
      let e = and_parts (valid_query db v.query) (list_all (λ v. valid_query db v.query) vs) stands in
      let g = and_parts (attrs_are_targets v.info.attrs (targets_of v.query)) (list_all (λ v. attrs_are_targets v.info.attrs (targets_of v.query)) vs) same in
      let h = and_parts (attrs_stand v.info.attrs) (list_all (λ v. attrs_stand v.info.attrs) vs) attrs in
      (view_fits v a.0 b.0 c.0 e.0 g.0 h.0, views_fit vs a.1 b.1 c.1 e.1 g.1 h.1)

  -- ---- rules and permits

  row_qual_fits : (rel : RelKey) (q : QQual) → row_qual_is_storable q ≡ true → valid_row_qual db rel q ≡ true → (qual most_tree_levels).Fits q
  row_qual_fits rel q storable stands =
      let one = and_parts (row_qual_is_small q) (qual_is_spelled q) storable in
      let two = and_parts (nat_le (qual_size [] q) greatest_qual_size) (nat_le (qual_levels q) most_levels) one.0 in
      qual_fits (map (kinds_at db) (rel ∷ [])) (few_kinds db d (rel ∷ []) (omega arith)) most_tree_levels q (leb-true (qual_levels q) most_levels two.1) stands one.1

  small : (n : ℕ) → nat_le n greatest_number ≡ true → n < 4294967296
  small n e = let most = leb-true n greatest_number e in omega (arith, most)

  rules_fit : (ps : List (RelKey × Rule)) → list_all (λ p. row_qual_is_storable p.1.qual) ps ≡ true → list_all (λ p. is_relation db p.0 && valid_row_qual db p.0 p.1.qual) ps ≡ true → list_all (λ p. nat_le p.1.number greatest_number) ps ≡ true
      → AllByRecursion (λ p. (rule most_tree_levels).Fits p.1) ps
  unfolding rule
  rules_fit [] storable stands numbers = tt
  rules_fit (p ∷ ps) storable stands numbers =
      let a = and_parts (row_qual_is_storable p.1.qual) (list_all (λ p. row_qual_is_storable p.1.qual) ps) storable in
      let b = and_parts (is_relation db p.0 && valid_row_qual db p.0 p.1.qual) (list_all (λ p. is_relation db p.0 && valid_row_qual db p.0 p.1.qual) ps) stands in
      let c = and_parts (nat_le p.1.number greatest_number) (list_all (λ p. nat_le p.1.number greatest_number) ps) numbers in
      ((fits_32 p.1.number (small p.1.number c.0), row_qual_fits p.0 p.1.qual a.0 (and_parts (is_relation db p.0) (valid_row_qual db p.0 p.1.qual) b.0).1), rules_fit ps a.1 b.1 c.1)

  user_fits : (user : Option (List ℕ)) → user_is_named user ≡ true → (option name).Fits user
  unfolding option
  user_fits None e = tt
  user_fits (Some user) e = name_fits user e

  places_fit : (rel : RelKey) (attrs : List ℕ) → permit_attrs_stand db rel attrs ≡ true → AllByRecursion byte.Fits attrs
  places_fit rel attrs e =
      let few = few_attrs_at db d rel in
      all_then (λ a. nat_lt a (length (attrs_at db rel)) ≡ true) byte.Fits attrs (λ a e. (let less = ltb-true a (length (attrs_at db rel)) e in omega (arith, less, few))) (pass_all (λ a. nat_lt a (length (attrs_at db rel))) attrs e)

  permit_fits : (rel : RelKey) (p : Permit) → row_qual_is_storable p.qual ≡ true → permit_lists_are_storable p ≡ true → valid_permit db rel p ≡ true → nat_le p.number greatest_number ≡ true → (permit most_tree_levels).Fits p
  unfolding permit
  permit_fits rel p storable lists stands number =
      let one = and_parts (is_relation db rel) _ stands in
      let two = and_parts (bytes_eq rel.owner db.dba) _ one.1 in
      let three = and_parts (user_is_named p.user) _ two.1 in
      let four = and_parts (permit_attrs_stand db rel p.attrs) (valid_row_qual db rel p.qual) three.1 in
      let five = and_parts (nat_le (length p.attrs) most_listed_attributes) (are_rights p.ops) lists in
      let few = leb-true (length p.attrs) most_listed_attributes five.0 in
      let rights = leb-true p.ops 15 five.1 in
      (fits_32 p.number (small p.number number), (omega (arith, rights), (list_fits byte p.attrs (omega (arith, few)) (places_fit rel p.attrs four.0), (user_fits p.user three.0, row_qual_fits rel p.qual storable four.1))))

  permits_fit : (ps : List (RelKey × Permit)) → list_all (λ p. row_qual_is_storable p.1.qual) ps ≡ true → list_all (λ p. permit_lists_are_storable p.1) ps ≡ true → list_all (λ p. valid_permit db p.0 p.1) ps ≡ true → list_all (λ p. nat_le p.1.number greatest_number) ps ≡ true
      → AllByRecursion (λ p. (permit most_tree_levels).Fits p.1) ps
  permits_fit [] storable lists stands numbers = tt
  permits_fit (p ∷ ps) storable lists stands numbers =
      let a = and_parts (row_qual_is_storable p.1.qual) (list_all (λ p. row_qual_is_storable p.1.qual) ps) storable in
      let b = and_parts (permit_lists_are_storable p.1) (list_all (λ p. permit_lists_are_storable p.1) ps) lists in
      let c = and_parts (valid_permit db p.0 p.1) (list_all (λ p. valid_permit db p.0 p.1) ps) stands in
      let e = and_parts (nat_le p.1.number greatest_number) (list_all (λ p. nat_le p.1.number greatest_number) ps) numbers in
      (permit_fits p.0 p.1 a.0 b.0 c.0 e.0, permits_fit ps a.1 b.1 c.1 e.1)

  -- each tree of a database has a spelling
  pub trees_are_spelled : AreSpelled db
  trees_are_spelled = record {
    views = views_fit db.views d.storable_views d.few_listed_variables d.views_name_what_is_there d.view_queries_stand d.view_attrs_are_targets d.view_attrs_stand;
    rules = rules_fit db.rules d.storable_rules d.rules_stand d.small_rule_numbers;
    permits = permits_fit db.permits d.storable_permits d.storable_lists d.permits_stand d.small_permit_numbers;
  }
