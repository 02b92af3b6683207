-- A query whose kinds fit has no aggregates.
use Rattle.std.proofs.Common.{◌≡◌, refl, ap, ◌∙◌, Bool, true, false, IsTrue, List, [], ◌∷◌, ◌++◌, Option, Some, None, if◌then◌else◌}
use Rattle.std.specs.Prelude.{flat_map}
use Rattle.std.specs.List.{list_all}
use Rattle.calculus.specs.declared.value.Kind.{Kind}
use Rattle.calculus.specs.declared.query.QTerm.{QTerm, Int, Chars, Attr, Agg'}
use Rattle.calculus.specs.declared.query.QQual.{QQual, True, Cmp, Like}
use Rattle.calculus.specs.declared.query.Target.{Target}
use Rattle.calculus.specs.declared.query.Query.{Query}
use Rattle.calculus.specs.Tree.{neg, abs, operation, concat, either, negated}
use Rattle.calculus.specs.Tree.{both as and_both}
use Rattle.calculus.specs.Kinds.{kind_of, kinds_fit, number_kind, operated_kind, joined_kind, comparable, is_text_kind, is_number_kind}
use Rattle.calculus.specs.QueryParts.{term_aggregates, qual_aggregates, query_aggregates, targets_of, qual_of}
use Rattle.calculus.specs.Database.{Db}
use Rattle.calculus.specs.IsDatabase.{valid_query, has_kind, var_kinds}
use Rattle.plan_laws.proofs.Kept.{both}

-- the kind is there
abbrev HasOne : Option Kind → Type 0
HasOne None = ⊥
HasOne (Some k) = Unit {0}

none_and_none : {X : Type 0} (xs ys : List X) → xs ≡ [] → ys ≡ [] → xs ++ ys ≡ []
none_and_none xs ys e f = ap (λ xs. xs ++ ys) e ∙ f

of_number : (o : Option Kind) → HasOne (number_kind o) → HasOne o
unfolding number_kind
of_number None h = h
of_number (Some k) h = tt

of_operated : (o p : Option Kind) → HasOne (operated_kind o p) → HasOne o × HasOne p
unfolding operated_kind number_kind
of_operated None p h = absurd h
of_operated (Some k) None h = absurd (go (is_number_kind k) h)
  where
    go : (b : Bool) → HasOne (if b then None else None) → ⊥
    go true h = h
    go false h = h
of_operated (Some k) (Some l) h = (tt, tt)

of_joined : (o p : Option Kind) → HasOne (joined_kind o p) → HasOne o × HasOne p
unfolding joined_kind
of_joined None p h = absurd h
of_joined (Some k) None h = absurd h
of_joined (Some k) (Some l) h = (tt, tt)

of_comparable : (o p : Option Kind) → IsTrue (comparable o p) → HasOne o × HasOne p
unfolding comparable
of_comparable None p t = cc t
of_comparable (Some k) None t = cc t
of_comparable (Some k) (Some l) t = (tt, tt)

of_text : (o : Option Kind) → IsTrue (is_text_kind o) → HasOne o
unfolding is_text_kind
of_text None t = cc t
of_text (Some k) t = tt

term_plain : (t : QTerm) (vars : List (List Kind)) → HasOne (kind_of t vars) → term_aggregates t ≡ []
unfolding kind_of term_aggregates
term_plain (Int n) vars h = refl
term_plain (Chars bytes) vars h = refl
term_plain (Attr var attr) vars h = refl
term_plain (neg t) vars h = term_plain t vars (of_number (kind_of t vars) h)
term_plain (abs t) vars h = term_plain t vars (of_number (kind_of t vars) h)
term_plain (operation op t u) vars h =
    let parts = of_operated (kind_of t vars) (kind_of u vars) h in
    none_and_none (term_aggregates t) (term_aggregates u) (term_plain t vars parts.0) (term_plain u vars parts.1)
term_plain (concat t u) vars h =
    let parts = of_joined (kind_of t vars) (kind_of u vars) h in
    none_and_none (term_aggregates t) (term_aggregates u) (term_plain t vars parts.0) (term_plain u vars parts.1)
term_plain (Agg' mark row) vars h = absurd h

qual_plain : (q : QQual) (vars : List (List Kind)) → IsTrue (kinds_fit q vars) → qual_aggregates q ≡ []
unfolding kinds_fit qual_aggregates
qual_plain True vars t = refl
qual_plain (Cmp op l r) vars t =
    let parts = of_comparable (kind_of l vars) (kind_of r vars) t in
    none_and_none (term_aggregates l) (term_aggregates r) (term_plain l vars parts.0) (term_plain r vars parts.1)
qual_plain (Like l pattern same) vars t = term_plain l vars (of_text (kind_of l vars) t)
qual_plain (and_both p q) vars t =
    let parts = both (kinds_fit p vars) (kinds_fit q vars) t in
    none_and_none (qual_aggregates p) (qual_aggregates q) (qual_plain p vars parts.0) (qual_plain q vars parts.1)
qual_plain (either p q) vars t =
    let parts = both (kinds_fit p vars) (kinds_fit q vars) t in
    none_and_none (qual_aggregates p) (qual_aggregates q) (qual_plain p vars parts.0) (qual_plain q vars parts.1)
qual_plain (negated p) vars t = qual_plain p vars t

of_kind : (o : Option Kind) (k : Kind) → IsTrue (has_kind o k) → HasOne o
of_kind None k t = cc t
of_kind (Some l) k t = tt

targets_plain : (ts : List Target) (vars : List (List Kind)) → IsTrue (list_all (λ t. has_kind (kind_of t.term vars) t.kind) ts) → flat_map (λ t. term_aggregates t.term) ts ≡ []
targets_plain [] vars h = refl
targets_plain (t ∷ ts) vars h =
    let parts = both (has_kind (kind_of t.term vars) t.kind) (list_all (λ t. has_kind (kind_of t.term vars) t.kind) ts) h in
    none_and_none (term_aggregates t.term) (flat_map (λ t. term_aggregates t.term) ts) (term_plain t.term vars (of_kind (kind_of t.term vars) t.kind parts.0)) (targets_plain ts vars parts.1)

pub query_plain : (db : Db) (q : Query) → IsTrue (valid_query db q) → query_aggregates q ≡ []
query_plain db q t =
    let parts = both (list_all (λ t. has_kind (kind_of t.term (var_kinds db q)) t.kind) (targets_of q)) (kinds_fit (qual_of q) (var_kinds db q)) t in
    none_and_none (flat_map (λ t. term_aggregates t.term) (targets_of q)) (qual_aggregates (qual_of q)) (targets_plain (targets_of q) (var_kinds db q) parts.0) (qual_plain (qual_of q) (var_kinds db q) parts.1)
