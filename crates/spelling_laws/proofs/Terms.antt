-- Terms and qualifications whose kinds fit are short, where their aggregates are good.
use Rattle.std.proofs.Common.{◌≡◌, refl, sym, ap, ◌∙◌, subst, true≢false, ℕ, zero, suc, ◌≤◌, Bool, true, false, ◌&&◌, cond, List, [], ◌∷◌, map, length, slice_get, Option, Some, None, arith}
use Rattle.std.proofs.lemmas.Bool.{and_parts}
use Rattle.std.proofs.lemmas.List.{length-map}
use Rattle.std.proofs.lemmas.Option.{slice_get_within}
use Rattle.calculus.specs.declared.operator.AggOp.{AggOp}
use Rattle.calculus.specs.declared.query.QAgg.{QAgg}
use Rattle.calculus.specs.declared.query.QQual.{QQual}
use Rattle.calculus.specs.declared.query.QQual.TheVariants as quals
use Rattle.calculus.specs.declared.query.QTerm.{QTerm, Agg', items-the_row-QTerm, Row_of-QTerm, end_of-QTerm, more_of-QTerm, Row_of-QAgg, end_of-QAgg, more_of-QAgg}
use Rattle.calculus.specs.declared.query.QTerm.TheVariants as terms
use Rattle.calculus.specs.declared.query.RelKey.{RelKey}
use Rattle.calculus.specs.declared.value.Kind.{Kind}
use Rattle.calculus.specs.Aggregate.{source_kinds}
use Rattle.calculus.specs.Database.{Db}
use Rattle.calculus.specs.IsDatabase.{IsDatabase}
use Rattle.calculus.specs.Kinds.{kind_in, attribute_kind, constant_kind, is_number_kind, number_kind, operated_kind, joined_kind, kind_of, comparable, is_text_kind, kinds_fit}
use Rattle.calculus.specs.QueryParts.{aggregates_of, term_aggregates, qual_aggregates}
use Rattle.calculus.specs.Spelled.{term_is_spelled, aggregate_is_spelled, source_is_spelled, terms_are_spelled, qual_is_spelled}
use Rattle.calculus.specs.Stored.{kinds_at}
use Rattle.calculus.specs.Tree as tree
use Rattle.quel_meaning.specs.KindsInQueries.{links_fit, fitting_kind, aggregate_kind, kind_of_row, kind_in_query, kinds_fit_in_query}
use Rattle.quel_meaning.proofs.Each.{Each, front_of, back_of, in_map, and}
use Rattle.quel_meaning.proofs.KindFacts.{no_aggregate, kind_too}
use Rattle.quel_meaning.proofs.LawfulKinds.{IsKind, AreKinds, kinds_stored}
use Rattle.spelling_laws.specs.Short.{is_place, is_count, term_is_short, aggregate_is_short, source_is_short, terms_are_short, qual_is_short}
use Rattle.spelling_laws.proofs.LawfulKinds.{attribute_lawful, wide, number_lawful, operated_lawful, joined_lawful, fitting_lawful, constant_lawful}
use Rattle.spelling_laws.proofs.Named.{few_kinds_at}
use Rattle.spelling_laws.proofs.Numbers.{There, place_is, get_there}

-- ---- parts that are there

number_there : (k : Option Kind) → There (number_kind k) → There k
unfolding number_kind
number_there None h = h
number_there (Some k) h = refl

operated_there : (k l : Option Kind) → There (operated_kind k l) → There k × There l
unfolding operated_kind
operated_there None l h = absurd (true≢false (sym h))
operated_there (Some k) l h = (refl, go (is_number_kind k) h)
  where
    go : (b : Bool) → There (cond b (number_kind l) None) → There l
    go true h = number_there l h
    go false h = absurd (true≢false (sym h))

joined_there : (k l : Option Kind) → There (joined_kind k l) → There k × There l
unfolding joined_kind
joined_there None l h = absurd (true≢false (sym h))
joined_there (Some k) None h = absurd (true≢false (sym h))
joined_there (Some k) (Some l) h = (refl, refl)

pub comparable_there : (k l : Option Kind) → comparable k l ≡ true → There k × There l
unfolding comparable
comparable_there None l h = absurd (true≢false (sym h))
comparable_there (Some k) None h = absurd (true≢false (sym h))
comparable_there (Some k) (Some l) h = (refl, refl)

text_there : (k : Option Kind) → is_text_kind k ≡ true → There k
unfolding is_text_kind
text_there None h = h
text_there (Some k) h = refl

fitting_there : (fit : Bool) (op : AggOp) (o : Option Kind) → There (fitting_kind fit op o) → (fit ≡ true) × There o
fitting_there fit op None h = absurd (true≢false (sym h))
fitting_there false op (Some k) h = absurd (true≢false (sym h))
fitting_there true op (Some k) h = (refl, refl)

-- ---- few variables, with few attributes each

-- so many variables, and attributes of each, that one byte can say their places
pub record AreFew (vars : List (List Kind)) : Type 0 where
  pub few : length vars ≤ 256
  pub each : Each (λ (kinds : List Kind). length kinds ≤ 256) vars

pub few_one : (kinds : List Kind) → length kinds ≤ 256 → AreFew (kinds ∷ [])
few_one kinds h = record { few = omega arith; each = (h, tt) }

each_one : {A : Type 0} (P : A → Type 0) (xs : List A) → ((x : A) → P x) → Each P xs
each_one P [] h = tt
each_one P (x ∷ xs) h = (h x, each_one P xs h)

pub few_vars : (db : Db) → IsDatabase db → (keys : List RelKey) → length keys ≤ 256 → AreFew (map (kinds_at db) keys)
few_vars db d keys h = record {
  few = omega (arith, h, length-map keys (kinds_at db));
  each = in_map (λ (kinds : List Kind). length kinds ≤ 256) (kinds_at db) keys (each_one (λ key. length (kinds_at db key) ≤ 256) keys (λ key. let few = few_kinds_at db d key in omega (arith, few)));
}

pub kinds_vars : (db : Db) → IsDatabase db → (keys : List RelKey) → AreKinds (map (kinds_at db) keys)
kinds_vars db d keys = in_map (λ (kinds : List Kind). Each IsKind kinds) (kinds_at db) keys (each_one (λ key. Each IsKind (kinds_at db key)) keys (kinds_stored db d))

in_each : {A : Type 0} (P : A → Type 0) (xs : List A) (k : ℕ) (x : A) → Each P xs → slice_get xs k ≡ Some x → P x
in_each P [] k x h e = absurd (cc e)
in_each P (y ∷ ys) zero x h e = let same : y ≡ x = cc e in subst P same h.0
in_each P (y ∷ ys) (suc k) x h e = in_each P ys k x h.1 e

attribute_short : (vars : List (List Kind)) → AreFew vars → (var attr : ℕ) → There (attribute_kind vars var attr) → (is_place var && is_place attr) ≡ true
unfolding attribute_kind
attribute_short vars few var attr h = go (slice_get vars var) refl h
  where
    go : (o : Option (List Kind)) → slice_get vars var ≡ o → There (kind_in o attr) → (is_place var && is_place attr) ≡ true
    go None e h = absurd (true≢false (sym h))
    go (Some kinds) e h =
        let one = slice_get_within vars var kinds e in
        let two = get_there kinds attr h in
        let most : length kinds ≤ 256 = in_each (λ (kinds : List Kind). length kinds ≤ 256) vars var kinds few.each e in
        let all = few.few in
        and (is_place var) (is_place attr) (place_is var (omega (arith, one, all))) (place_is attr (omega (arith, two, most)))

-- ---- without aggregates

module _ (vars : List (List Kind)) (few : AreFew vars) where
  pub plain_short : (t : QTerm) → There (kind_of t vars) → term_is_short t ≡ true
  unfolding kind_of
  plain_short (terms.Int k) there = refl
  plain_short (terms.Chars bs) there = refl
  plain_short (terms.Attr var attr) there = attribute_short vars few var attr there
  plain_short (tree.neg t) there = plain_short t (number_there (kind_of t vars) there)
  plain_short (tree.abs t) there = plain_short t (number_there (kind_of t vars) there)
  plain_short (tree.operation op t u) there =
      let two = operated_there (kind_of t vars) (kind_of u vars) there in and (term_is_short t) (term_is_short u) (plain_short t two.0) (plain_short u two.1)
  plain_short (tree.concat t u) there =
      let two = joined_there (kind_of t vars) (kind_of u vars) there in and (term_is_short t) (term_is_short u) (plain_short t two.0) (plain_short u two.1)
  plain_short (Agg' mark row) there = absurd (true≢false (sym there))

  pub plain_qual_short : (q : QQual) → kinds_fit q vars ≡ true → qual_is_short q ≡ true
  unfolding kinds_fit
  plain_qual_short quals.True fit = refl
  plain_qual_short (quals.Cmp op t u) fit =
      let two = comparable_there (kind_of t vars) (kind_of u vars) fit in and (term_is_short t) (term_is_short u) (plain_short t two.0) (plain_short u two.1)
  plain_qual_short (quals.Like t pattern same) fit = plain_short t (text_there (kind_of t vars) fit)
  plain_qual_short (tree.both p q) fit =
      let two = and_parts (kinds_fit p vars) (kinds_fit q vars) fit in and (qual_is_short p) (qual_is_short q) (plain_qual_short p two.0) (plain_qual_short q two.1)
  plain_qual_short (tree.either p q) fit =
      let two = and_parts (kinds_fit p vars) (kinds_fit q vars) fit in and (qual_is_short p) (qual_is_short q) (plain_qual_short p two.0) (plain_qual_short q two.1)
  plain_qual_short (tree.negated q) fit = plain_qual_short q fit

-- ---- aggregates

-- an aggregate's slot, source and number of grouping terms are short, and its source has few attributes, whose kinds are ones
pub record GoodAgg (db : Db) (g : QAgg) : Type 0 where
  pub slot : is_count g.slot ≡ true
  pub source : source_is_short g.source ≡ true
  pub groups : is_count (length g.by) ≡ true
  pub kinds : length (source_kinds db g.source) ≤ 256
  pub lawful : Each IsKind (source_kinds db g.source)

links_short : (inner vars : List (List Kind)) → AreFew inner → AreFew vars → {j k : _} (by : Row_of-QTerm j) (link : Row_of-QTerm k)
    → links_fit inner (items-the_row-QTerm _ by) vars (items-the_row-QTerm _ link) ≡ true
    → (terms_are_short by ≡ true) × (terms_are_short link ≡ true) × (length (items-the_row-QTerm _ by) ≡ length (items-the_row-QTerm _ link))
links_short inner vars one two end_of-QTerm end_of-QTerm h = (refl, refl, refl)
links_short inner vars one two end_of-QTerm (more_of-QTerm u us) h = absurd (true≢false (sym h))
links_short inner vars one two (more_of-QTerm t ts) end_of-QTerm h = absurd (true≢false (sym h))
links_short inner vars one two (more_of-QTerm t ts) (more_of-QTerm u us) h =
    let parts = and_parts (comparable (kind_of t inner) (kind_of u vars)) (links_fit inner (items-the_row-QTerm _ ts) vars (items-the_row-QTerm _ us)) h in
    let sides = comparable_there (kind_of t inner) (kind_of u vars) parts.0 in
    let rest = links_short inner vars one two ts us parts.1 in
    (and (term_is_short t) (terms_are_short ts) (plain_short inner one t sides.0) rest.0, and (term_is_short u) (terms_are_short us) (plain_short vars two u sides.1) rest.1, ap suc rest.2)

eight : (a b c d e f g h : Bool) → a ≡ true → b ≡ true → c ≡ true → d ≡ true → e ≡ true → f ≡ true → g ≡ true → h ≡ true → (a && (b && (c && (d && (e && (f && (g && h))))))) ≡ true
eight a b c d e f g h p q r s t u v w = and a (b && (c && (d && (e && (f && (g && h)))))) p (and b (c && (d && (e && (f && (g && h))))) q (and c (d && (e && (f && (g && h)))) r (and d (e && (f && (g && h))) s (and e (f && (g && h)) t (and f (g && h) u (and g h v w))))))

module _ (db : Db) where
  row_short : (vars : List (List Kind)) → AreFew vars → {n : _} (row : Row_of-QAgg n) → There (kind_of_row db row vars) → Each (GoodAgg db) (aggregates_of row) → aggregate_is_short row ≡ true
  unfolding aggregate_kind
  row_short vars few end_of-QAgg there good = refl
  row_short vars few (more_of-QAgg slot op source arg bys by links link q rest) there good =
      let inner = source_kinds db source ∷ [] in
      let fit = fitting_there (links_fit inner (items-the_row-QTerm _ by) vars (items-the_row-QTerm _ link) && kinds_fit q inner) op (kind_of arg inner) there in
      let parts = and_parts (links_fit inner (items-the_row-QTerm _ by) vars (items-the_row-QTerm _ link)) (kinds_fit q inner) fit.0 in
      let one = few_one (source_kinds db source) good.0.kinds in
      let lists = links_short inner vars one few by link parts.0 in
      eight (is_count slot) (source_is_short source) (term_is_short arg) (is_count (length (items-the_row-QTerm _ by))) (terms_are_short by) (is_count (length (items-the_row-QTerm _ link))) (terms_are_short link) (qual_is_short q)
      good.0.slot good.0.source (plain_short inner one arg fit.1) good.0.groups lists.0 (ap (λ n. is_count n) (sym lists.2) ∙ good.0.groups) lists.1 (plain_qual_short inner one q parts.1)

  module _ (vars : List (List Kind)) (few : AreFew vars) where
    pub short_in : (t : QTerm) → There (kind_in_query db t vars) → Each (GoodAgg db) (term_aggregates t) → term_is_short t ≡ true
    unfolding kind_in_query term_aggregates
    short_in (terms.Int k) there good = refl
    short_in (terms.Chars bs) there good = refl
    short_in (terms.Attr var attr) there good = attribute_short vars few var attr there
    short_in (tree.neg t) there good = short_in t (number_there (kind_in_query db t vars) there) good
    short_in (tree.abs t) there good = short_in t (number_there (kind_in_query db t vars) there) good
    short_in (tree.operation op t u) there good =
        let two = operated_there (kind_in_query db t vars) (kind_in_query db u vars) there in
        and (term_is_short t) (term_is_short u) (short_in t two.0 (front_of (GoodAgg db) (term_aggregates t) (term_aggregates u) good)) (short_in u two.1 (back_of (GoodAgg db) (term_aggregates t) (term_aggregates u) good))
    short_in (tree.concat t u) there good =
        let two = joined_there (kind_in_query db t vars) (kind_in_query db u vars) there in
        and (term_is_short t) (term_is_short u) (short_in t two.0 (front_of (GoodAgg db) (term_aggregates t) (term_aggregates u) good)) (short_in u two.1 (back_of (GoodAgg db) (term_aggregates t) (term_aggregates u) good))
    short_in (Agg' mark row) there good = row_short vars few row there good

    pub qual_short_in : (q : QQual) → kinds_fit_in_query db q vars ≡ true → Each (GoodAgg db) (qual_aggregates q) → qual_is_short q ≡ true
    unfolding kinds_fit_in_query qual_aggregates
    qual_short_in quals.True fit good = refl
    qual_short_in (quals.Cmp op t u) fit good =
        let two = comparable_there (kind_in_query db t vars) (kind_in_query db u vars) fit in
        and (term_is_short t) (term_is_short u) (short_in t two.0 (front_of (GoodAgg db) (term_aggregates t) (term_aggregates u) good)) (short_in u two.1 (back_of (GoodAgg db) (term_aggregates t) (term_aggregates u) good))
    qual_short_in (quals.Like t pattern same) fit good = short_in t (text_there (kind_in_query db t vars) fit) good
    qual_short_in (tree.both p q) fit good =
        let two = and_parts (kinds_fit_in_query db p vars) (kinds_fit_in_query db q vars) fit in
        and (qual_is_short p) (qual_is_short q) (qual_short_in p two.0 (front_of (GoodAgg db) (qual_aggregates p) (qual_aggregates q) good)) (qual_short_in q two.1 (back_of (GoodAgg db) (qual_aggregates p) (qual_aggregates q) good))
    qual_short_in (tree.either p q) fit good =
        let two = and_parts (kinds_fit_in_query db p vars) (kinds_fit_in_query db q vars) fit in
        and (qual_is_short p) (qual_is_short q) (qual_short_in p two.0 (front_of (GoodAgg db) (qual_aggregates p) (qual_aggregates q) good)) (qual_short_in q two.1 (back_of (GoodAgg db) (qual_aggregates p) (qual_aggregates q) good))
    qual_short_in (tree.negated q) fit good = qual_short_in q fit good

  -- ---- kinds

  none_good : (t : QTerm) (vars : List (List Kind)) (k : Kind) → kind_of t vars ≡ Some k → Each (GoodAgg db) (term_aggregates t)
  none_good t vars k e = subst (λ gs. Each (GoodAgg db) gs) (sym (no_aggregate t vars k e)) tt

  mutual
    unfolding kind_in_query term_aggregates aggregate_kind

    pub kind_lawful : (vars : List (List Kind)) → AreKinds vars → (t : QTerm) → term_is_spelled t ≡ true → Each (GoodAgg db) (term_aggregates t) → (k : Kind) → kind_in_query db t vars ≡ Some k → IsKind k
    kind_lawful vars are (terms.Int n) spelled good k e = wide k e
    kind_lawful vars are (terms.Chars bytes) spelled good k e = let same : constant_kind bytes ≡ k = cc e in subst IsKind same (constant_lawful bytes spelled)
    kind_lawful vars are (terms.Attr var attr) spelled good k e = attribute_lawful vars var attr k are e
    kind_lawful vars are (tree.neg t) spelled good k e = number_lawful (kind_in_query db t vars) k e
    kind_lawful vars are (tree.abs t) spelled good k e = number_lawful (kind_in_query db t vars) k e
    kind_lawful vars are (tree.operation op t u) spelled good k e = operated_lawful (kind_in_query db t vars) (kind_in_query db u vars) k e
    kind_lawful vars are (tree.concat t u) spelled good k e =
        joined_lawful (kind_in_query db t vars) (kind_in_query db u vars) k
        (λ l f. kind_lawful vars are t (and_parts (term_is_spelled t) (term_is_spelled u) spelled).0 (front_of (GoodAgg db) (term_aggregates t) (term_aggregates u) good) l f) e
    kind_lawful vars are (Agg' mark row) spelled good k e = row_lawful vars row spelled good k e

    row_lawful : (vars : List (List Kind)) {n : _} (row : Row_of-QAgg n) → aggregate_is_spelled row ≡ true → Each (GoodAgg db) (aggregates_of row) → (k : Kind) → kind_of_row db row vars ≡ Some k → IsKind k
    row_lawful vars end_of-QAgg spelled good k e = absurd (cc e)
    row_lawful vars (more_of-QAgg slot op source arg bys by links link q rest) spelled good k e =
        let inner = source_kinds db source ∷ [] in
        let one = and_parts (source_is_spelled source) (term_is_spelled arg && (terms_are_spelled by && (terms_are_spelled link && qual_is_spelled q))) spelled in
        let two = and_parts (term_is_spelled arg) (terms_are_spelled by && (terms_are_spelled link && qual_is_spelled q)) one.1 in
        fitting_lawful (links_fit inner (items-the_row-QTerm _ by) vars (items-the_row-QTerm _ link) && kinds_fit q inner) op (kind_of arg inner) k
        (λ l f. kind_lawful inner (good.0.lawful, tt) arg two.0 (none_good arg inner l f) l (kind_too db arg inner l f)) e

  pub plain_lawful : (vars : List (List Kind)) → AreKinds vars → (t : QTerm) → term_is_spelled t ≡ true → (k : Kind) → kind_of t vars ≡ Some k → IsKind k
  plain_lawful vars are t spelled k e = kind_lawful vars are t spelled (none_good t vars k e) k (kind_too db t vars k e)
