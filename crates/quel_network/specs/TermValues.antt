-- The values of terms suit their kinds.
use Rattle.std.specs.Prelude.{◌≡◌, ℕ, ◌+◌, min, max, Bool, true, false, cond, IsTrue, ◌&&◌, List, [], ◌∷◌, ◌++◌, length, nat_le, map, Option, Some, None, IfSome}
use Rattle.std.proofs.Common.{refl, ap, subst, ◌∙◌, arith, length-append}
use Rattle.std.proofs.lemmas.Bool.{and_parts, eqb-true, leb-true}
use Rattle.calculus.specs.declared.query.QAgg.{QAgg}
use Rattle.calculus.specs.declared.query.QTerm.{QTerm, Int, Chars, Attr, Agg', Row_of-QAgg, end_of-QAgg, more_of-QAgg}
use Rattle.calculus.specs.declared.query.Query.{Query, Query', items-the_row-Target, Row_of-Target, end_of-Target, more_of-Target}
use Rattle.calculus.specs.declared.query.Target.{Target}
use Rattle.calculus.specs.declared.value.Domain.TheVariants.{I1, I2, I4, C}
use Rattle.calculus.specs.declared.value.Kind.{Kind}
use Rattle.calculus.specs.declared.value.Kind.TheVariants.{Of, Wide}
use Rattle.calculus.specs.declared.value.Value.{Value}
use Rattle.calculus.specs.declared.value.Value.TheVariants as value
use Rattle.calculus.specs.Chars.{is_chars}
use Rattle.calculus.specs.Constant.{constant_text}
use Rattle.calculus.specs.Database.{Db}
use Rattle.calculus.specs.IsDatabase.{has_kind, same_kind, value_fits}
use Rattle.calculus.specs.Kinds.{is_number_kind, constant_kind, number_kind, operated_kind, joined_kind, text_width, joined_widths, kind_of}
use Rattle.calculus.specs.Name.{is_name}
use Rattle.calculus.specs.QueryParts.{aggregates_of, term_aggregates, targets_of}
use Rattle.calculus.specs.Rows.{Row}
use Rattle.calculus.specs.Spelled.{term_is_spelled, aggregate_is_spelled, source_is_spelled, terms_are_spelled, qual_is_spelled, targets_are_spelled, query_is_spelled}
use Rattle.calculus.specs.Targets.{all_there, target_values}
use Rattle.calculus.specs.Term.{Env, Aggs, val, of_text, joined_text, joined_values, aggregate_value, no_aggs, value_before}
use Rattle.calculus.specs.Text.{is_text}
use Rattle.calculus.specs.Tree.{neg, abs, operation, concat}
use Rattle.quel_meaning.specs.KindsInQueries.{aggregate_kind, kind_of_row, kind_in_query}
use Rattle.quel_meaning.proofs.Each.{Each, front_of, back_of}
use Rattle.quel_meaning.proofs.KindFacts.{kind_too}
use Rattle.quel_network.specs.NumberRange.{opposite_gives, without_sign_gives, operated_values_give}
use Rattle.quel_network.specs.Suiting.{GivesBy, Gives, GivesKind, RowFits, EnvSuits, gives_none, attribute_suits}
use Rattle.quel_network.specs.TextFacts.{constant_is_text, joined_is_text, text_fits}

-- what the aggregate gives in the assignment suits its kind, where the constants of its source and of its term are those of their types
abbrev pub AggGives : Db → Aggs → List (List Kind) → Env → QAgg → Type 0
AggGives db aggs vars e g = IsTrue (source_is_spelled g.source) → IsTrue (term_is_spelled g.arg) → Gives (aggregate_kind db g vars) (aggs g e)

-- ---- the forms of a term

constant_suits : (bytes : List ℕ) → IsTrue (is_chars bytes) → Gives (Some (constant_kind bytes)) (Some (value.Text (constant_text bytes)))
unfolding constant_kind
constant_suits bytes h = text_fits (max 1 (length (constant_text bytes))) (constant_text bytes) (omega arith) (constant_is_text bytes h)

wide_suits : (k : Option Kind) (v : Option Value) → GivesBy true v → Gives (number_kind k) v
unfolding number_kind
wide_suits None v h = tt
wide_suits (Some k) v h = go (is_number_kind k)
  where
    go : (b : Bool) → Gives (cond b (Some Wide) None) v
    go true = h
    go false = tt

operated_suits : (k l : Option Kind) (v : Option Value) → GivesBy true v → Gives (operated_kind k l) v
unfolding operated_kind
operated_suits None l v h = tt
operated_suits (Some k) l v h = go (is_number_kind k)
  where
    go : (b : Bool) → Gives (cond b (number_kind l) None) v
    go true = wide_suits l v h
    go false = tt

-- the value, where there is one, is a text of at most this width
abbrev GivesText : ℕ → Option Value → Type 0
GivesText width v = GivesKind (Of (C width)) v

of_text_gives : (m n : ℕ) (f : List ℕ → Option Value) (v : Option Value) → GivesText m v → ((bytes : List ℕ) → IsTrue (value_fits (value.Text bytes) (Of (C m))) → GivesText n (f bytes)) → GivesText n (of_text f v)
of_text_gives m n f None p h = tt
of_text_gives m n f (Some (value.Int z)) p h = tt
of_text_gives m n f (Some (value.Text bytes)) p h = h bytes p

text_if_short : (m n : ℕ) (s t : List ℕ) → IsTrue (value_fits (value.Text s) (Of (C m))) → IsTrue (value_fits (value.Text t) (Of (C n))) → GivesText (min (m + n) 255) (joined_text s t)
text_if_short m n s t h k = go (nat_le (length (s ++ t)) 255) refl
  where
    go : (b : Bool) → nat_le (length (s ++ t)) 255 ≡ b → GivesText (min (m + n) 255) (cond b (Some (value.Text (s ++ t))) None)
    go true e =
        let one = and_parts (nat_le (length s) m) (is_text s) h in
        let other = and_parts (nat_le (length t) n) (is_text t) k in
        let first = leb-true (length s) m one.0 in
        let second = leb-true (length t) n other.0 in
        let few = leb-true (length (s ++ t)) 255 e in
        let sum = length-append s t in
        text_fits (min (m + n) 255) (s ++ t) (omega (arith, first, second, few, sum)) (joined_is_text s t one.1 other.1 e)
    go false e = tt

joined_texts : (m n : ℕ) (v w : Option Value) → GivesText m v → GivesText n w → GivesText (min (m + n) 255) (joined_values v w)
unfolding joined_values
joined_texts m n v w p q =
    of_text_gives m (min (m + n) 255) (λ s. of_text (λ t. joined_text s t) w) v p (λ s h. of_text_gives n (min (m + n) 255) (λ t. joined_text s t) w q (λ t k. text_if_short m n s t h k))

joined_by : (k l : Kind) (v w : Option Value) → GivesKind k v → GivesKind l w → Gives (joined_widths (text_width k) (text_width l)) (joined_values v w)
joined_by Wide l v w p q = tt
joined_by (Of I1) l v w p q = tt
joined_by (Of I2) l v w p q = tt
joined_by (Of I4) l v w p q = tt
joined_by (Of (C m)) Wide v w p q = tt
joined_by (Of (C m)) (Of I1) v w p q = tt
joined_by (Of (C m)) (Of I2) v w p q = tt
joined_by (Of (C m)) (Of I4) v w p q = tt
joined_by (Of (C m)) (Of (C n)) v w p q = joined_texts m n v w p q

joined_suits : (k l : Option Kind) (v w : Option Value) → Gives k v → Gives l w → Gives (joined_kind k l) (joined_values v w)
unfolding joined_kind
joined_suits None l v w p q = tt
joined_suits (Some k) None v w p q = tt
joined_suits (Some k) (Some l) v w p q = joined_by k l v w p q

aggregate_suits : (db : Db) (aggs : Aggs) (vars : List (List Kind)) (e : Env) {n : _} (row : Row_of-QAgg n) → IsTrue (aggregate_is_spelled row) → Each (AggGives db aggs vars e) (aggregates_of row)
    → Gives (kind_of_row db row vars) (aggregate_value aggs row e)
aggregate_suits db aggs vars e end_of-QAgg c h = tt
aggregate_suits db aggs vars e (more_of-QAgg slot op source arg bys by links link qual rest) c h =
    let source_stands = and_parts (source_is_spelled source) (term_is_spelled arg && (terms_are_spelled by && (terms_are_spelled link && qual_is_spelled qual))) c in
    let arg_stands = and_parts (term_is_spelled arg) (terms_are_spelled by && (terms_are_spelled link && qual_is_spelled qual)) source_stands.1 in
    h.0 source_stands.0 arg_stands.0

-- ---- terms

-- the value of a term whose constants are those of their types, over rows that suit the kinds of variables, where its aggregates give what suits theirs
pub term_suits : (db : Db) (aggs : Aggs) (t : QTerm) (vars : List (List Kind)) (e : Env) → IsTrue (term_is_spelled t) → EnvSuits vars e → Each (AggGives db aggs vars e) (term_aggregates t)
    → Gives (kind_in_query db t vars) (val aggs t e)
unfolding val term_aggregates kind_in_query
term_suits db aggs (Int n) vars e c r a = c
term_suits db aggs (Chars bytes) vars e c r a = constant_suits bytes c
term_suits db aggs (Attr var attr) vars e c r a = attribute_suits vars e var attr r
term_suits db aggs (neg t) vars e c r a = wide_suits (kind_in_query db t vars) _ (opposite_gives (val aggs t e))
term_suits db aggs (abs t) vars e c r a = wide_suits (kind_in_query db t vars) _ (without_sign_gives (val aggs t e))
term_suits db aggs (operation op t u) vars e c r a = operated_suits (kind_in_query db t vars) (kind_in_query db u vars) _ (operated_values_give op (val aggs t e) (val aggs u e))
term_suits db aggs (concat t u) vars e c r a =
    let parts = and_parts (term_is_spelled t) (term_is_spelled u) c in
    joined_suits (kind_in_query db t vars) (kind_in_query db u vars) (val aggs t e) (val aggs u e)
    (term_suits db aggs t vars e parts.0 r (front_of (AggGives db aggs vars e) (term_aggregates t) (term_aggregates u) a))
    (term_suits db aggs u vars e parts.1 r (back_of (AggGives db aggs vars e) (term_aggregates t) (term_aggregates u) a))
term_suits db aggs (Agg' mark row) vars e c r a = aggregate_suits db aggs vars e row c a

-- no aggregate gives a value
pub none_give : (db : Db) (vars : List (List Kind)) (e : Env) (gs : List QAgg) → Each (AggGives db no_aggs vars e) gs
none_give db vars e [] = tt
none_give db vars e (g ∷ gs) = (λ s a. gives_none (aggregate_kind db g vars), none_give db vars e gs)

-- the same of a term that has a kind by itself
pub alone_suits : (db : Db) (t : QTerm) (vars : List (List Kind)) (e : Env) (k : Kind) → kind_of t vars ≡ Some k → IsTrue (term_is_spelled t) → EnvSuits vars e
    → GivesKind k (val no_aggs t e)
alone_suits db t vars e k h c r = subst (λ o. Gives o (val no_aggs t e)) (kind_too db t vars k h) (term_suits db no_aggs t vars e c r (none_give db vars e (term_aggregates t)))

-- ---- targets

same_is : (k l : Kind) → same_kind k l ≡ true → k ≡ l
same_is Wide Wide h = refl
same_is Wide (Of d) h = absurd (cc h)
same_is (Of d) Wide h = absurd (cc h)
same_is (Of I1) (Of I1) h = refl
same_is (Of I1) (Of I2) h = absurd (cc h)
same_is (Of I1) (Of I4) h = absurd (cc h)
same_is (Of I1) (Of (C n)) h = absurd (cc h)
same_is (Of I2) (Of I1) h = absurd (cc h)
same_is (Of I2) (Of I2) h = refl
same_is (Of I2) (Of I4) h = absurd (cc h)
same_is (Of I2) (Of (C n)) h = absurd (cc h)
same_is (Of I4) (Of I1) h = absurd (cc h)
same_is (Of I4) (Of I2) h = absurd (cc h)
same_is (Of I4) (Of I4) h = refl
same_is (Of I4) (Of (C n)) h = absurd (cc h)
same_is (Of (C m)) (Of I1) h = absurd (cc h)
same_is (Of (C m)) (Of I2) h = absurd (cc h)
same_is (Of (C m)) (Of I4) h = absurd (cc h)
same_is (Of (C m)) (Of (C n)) h = ap (λ (width : ℕ). Of (C width)) (eqb-true m n h)

has_gives : (o : Option Kind) (k : Kind) (v : Option Value) → has_kind o k ≡ true → Gives o v → GivesKind k v
has_gives None k v h g = absurd (cc h)
has_gives (Some l) k v h g = subst (λ (kind : Kind). GivesKind kind v) (same_is l k h) g

-- a kind that a term has by itself it has in a query
pub has_too : (db : Db) (t : QTerm) (vars : List (List Kind)) (k : Kind) → has_kind (kind_of t vars) k ≡ true → has_kind (kind_in_query db t vars) k ≡ true
has_too db t vars k h = go (kind_of t vars) refl h
  where
    go : (o : Option Kind) → kind_of t vars ≡ o → has_kind o k ≡ true → has_kind (kind_in_query db t vars) k ≡ true
    go None e h = absurd (cc h)
    go (Some l) e h = ap (λ o. has_kind o k) (kind_too db t vars l e) ∙ h

-- a target is of the kind of its term, whose constants are those of their types
pub record TargetStands (db : Db) (vars : List (List Kind)) (t : Target) : Type 0 where
  pub kind : has_kind (kind_in_query db t.term vars) t.kind ≡ true
  pub spelled : IsTrue (term_is_spelled t.term)

-- the kinds of targets
abbrev pub target_kinds : List Target → List Kind
target_kinds ts = map (λ t. t.kind) ts

before_fits : (k : Kind) (ks : List Kind) (v : Option Value) (vs : Option Row) → GivesKind k v → IfSome vs (RowFits ks) → IfSome (value_before v vs) (RowFits (k ∷ ks))
before_fits k ks None vs p q = tt
before_fits k ks (Some v) None p q = tt
before_fits k ks (Some v) (Some vs) p q = (p, q)

-- the row of the targets' values fits their kinds
pub targets_fit : (db : Db) (aggs : Aggs) (ts : List Target) (vars : List (List Kind)) (e : Env) → Each (TargetStands db vars) ts → EnvSuits vars e
    → Each (λ t. Each (AggGives db aggs vars e) (term_aggregates t.term)) ts → IfSome (target_values aggs ts e) (RowFits (target_kinds ts))
targets_fit db aggs [] vars e c r a = tt
targets_fit db aggs (t ∷ ts) vars e c r a =
    before_fits t.kind (target_kinds ts) (val aggs t.term e) (all_there (map (λ t. val aggs t.term e) ts))
    (has_gives (kind_in_query db t.term vars) t.kind (val aggs t.term e) c.0.kind (term_suits db aggs t.term vars e c.0.spelled r a.0)) (targets_fit db aggs ts vars e c.1 r a.1)

in_targets : {n : _} (row : Row_of-Target n) → IsTrue (targets_are_spelled row) → Each (λ t. IsTrue (term_is_spelled t.term)) (items-the_row-Target _ row)
in_targets end_of-Target h = tt
in_targets (more_of-Target name kind term rest) h =
    let named = and_parts (is_name name) (term_is_spelled term && targets_are_spelled rest) h in
    let parts = and_parts (term_is_spelled term) (targets_are_spelled rest) named.1 in
    (parts.0, in_targets rest parts.1)

-- the constants of each target of a query are those of their types
pub targets_spelled : (q : Query) → IsTrue (query_is_spelled q) → Each (λ t. IsTrue (term_is_spelled t.term)) (targets_of q)
targets_spelled (Query' vars marks targets qual) h = in_targets targets (and_parts (targets_are_spelled targets) (qual_is_spelled qual) h).0
