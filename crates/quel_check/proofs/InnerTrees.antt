-- Trees of aggregates.
use Rattle.std.proofs.Common.{◌≡◌, refl, sym, ap, ◌∙◌, subst, ℕ, zero, suc, ◌+◌, ◌<◌, ◌≤◌, add-one, arith, Bool, true, false, ◌||◌, not, List, [], ◌∷◌, ◌++◌, map, take, length, get_or, Option, Some, None}
use Rattle.std.specs.Prelude.{All}
use Rattle.std.specs.List.{list_all, flat_map}
use Rattle.std.specs.Str.{bytes_eq}
use Rattle.std.proofs.lemmas.List.{map-append}
use Rattle.std.proofs.lemmas.List.Folds.{list_all-append}
use Rattle.calculus.specs.declared.query.AggSource.{Named}
use Rattle.calculus.specs.declared.query.QQual.{QQual}
use Rattle.calculus.specs.declared.query.QTerm.{QTerm}
use Rattle.calculus.specs.declared.query.QTerm.TheVariants as qterm
use Rattle.calculus.specs.declared.query.RelKey.{RelKey}
use Rattle.calculus.specs.declared.schema.RelInfo.{RelInfo}
use Rattle.calculus.specs.declared.statement.AggTerm.{AggTerm}
use Rattle.calculus.specs.declared.statement.Qual.{Qual, True, Cmp}
use Rattle.calculus.specs.declared.statement.Term.{Term, Int, Chars, Attr as Dot, Agg', Row_of-AggTerm, end_of-AggTerm, more_of-AggTerm}
use Rattle.calculus.specs.declared.statement.Term.TheVariants.{Agg}
use Rattle.calculus.specs.Lists.{is_any}
use Rattle.calculus.specs.Tree as tree
use Rattle.calculus.specs.Written.{neg, abs, operation, concat, both, either, negated, term_row}
use Rattle.calculus.proofs.Forms as forms
use Rattle.calculus.proofs.WrittenForms.{agg_is, items_of_terms}
use Rattle.quel_check.specs.Known.{Knows, front, is_among, are_among, AreTermTrees, IsTermFrom, IsTermTree, IsQualTree, is_one_of, is_over}
use Rattle.quel_check.proofs.Among.{all_into, kept, themselves}
use Rattle.quel_check.proofs.AggregateForms.{any_joined}
use Rattle.quel_check.proofs.InnerForms.{flat_joined, in_agg, taken}
use Rattle.quel_check.proofs.TreeForms.{both_so, either_none, parted}
use Rattle.quel_check.proofs.VarForms.{vars_agg}
use Rattle.quel_meaning.proofs.Keys.{same_bytes}
use Rattle.quel_meaning.specs.Aggregates.{holds_another}
use Rattle.quel_meaning.specs.Scope.{Scope, ranged, key_found}
use Rattle.quel_meaning.specs.WrittenParts.{Dotted, once, aggregate_of, aggregate_vars, aggregates_in, aggregates_in_qual, attributes, attributes_in_aggregate, attributes_in_qual, linked_vars, outer_vars, outer_vars_in_qual}
use Rattle.quel_meaning.specs.WrittenTree.{Vars, first_var, key_over, term_tree, qual_tree, row_trees}

-- ---- lists of trees

pub no_trees : (vars : Vars) (infos : List RelInfo) → AreTermTrees vars infos [] []
unfolding AreTermTrees
no_trees vars infos s k m a = refl

joined : (vars : Vars) (infos : List RelInfo) (ts : List Term) (t : Term) (trees : List QTerm) (found : QTerm) → AreTermTrees vars infos ts trees → IsTermTree vars infos t found
    → AreTermTrees vars infos (ts ++ t ∷ []) (trees ++ found ∷ [])
unfolding AreTermTrees IsTermTree
joined vars infos ts t trees found h g s k m a =
    let ms = parted vars (flat_map outer_vars ts) (outer_vars t) _ (flat_joined outer_vars ts t) m in
    let ns = either_none _ _ (sym (any_joined (flat_map aggregates_in ts) (aggregates_in t)) ∙ ap is_any (sym (flat_joined aggregates_in ts t)) ∙ a) in
    (λ i. h s k ms.0 ns.0 i ++ g s 0 k ms.1 ns.1 i ∷ []) ∙ sym (map-append (term_tree s vars 0) ts (t ∷ []))

-- the tree of one more term
pub one_more_tree : (vars : Vars) (infos : List RelInfo) (ts : List Term) (i : ℕ) (t : Term) (old new : List QTerm) (found : QTerm) → i < length ts → t ≡ get_or ts i t
    → AreTermTrees vars infos (take i ts) old → IsTermTree vars infos t found → new ≡ old ++ found ∷ [] → AreTermTrees vars infos (take (i + 1) ts) new
one_more_tree vars infos ts i t old new found lt e h g is =
    subst (λ us. AreTermTrees vars infos us new) (sym (ap (λ k. take k ts) (add-one i) ∙ taken ts i t lt e))
    (subst (AreTermTrees vars infos (take i ts ++ t ∷ [])) (sym is) (joined vars infos (take i ts) t old found h g))

-- ---- the variables of what holds no aggregate are those of its attributes

none_before : {X : Type 0} (xs ys : List X) → xs ++ ys ≡ [] → xs ≡ []
none_before [] ys h = refl
none_before (x ∷ xs) ys h = absurd (cc h)

none_behind : {X : Type 0} (xs ys : List X) → xs ++ ys ≡ [] → ys ≡ []
none_behind [] ys h = h
none_behind (x ∷ xs) ys h = absurd (cc h)

none_any : {X : Type 0} (xs : List X) → is_any xs ≡ false → xs ≡ []
none_any [] h = refl
none_any (x ∷ xs) h = absurd (cc h)

abbrev vars_of : List Dotted → Vars
vars_of ds = map (λ d. d.0) ds

row_vars : {m : _} → (row : Row_of-AggTerm m) → aggregate_of row ≡ [] → linked_vars row ≡ vars_of (attributes_in_aggregate row)
row_vars end_of-AggTerm h = refl
row_vars (more_of-AggTerm op arg bys by qual rest) h = absurd (cc h)

term_vars : (t : Term) → aggregates_in t ≡ [] → outer_vars t ≡ vars_of (attributes t)
unfolding aggregates_in
term_vars (Int n) h = refl
term_vars (Chars bytes) h = refl
term_vars (Dot var attr) h = refl
term_vars (neg t) h = term_vars t h
term_vars (abs t) h = term_vars t h
term_vars (operation op t u) h =
    (λ i. term_vars t (none_before _ (aggregates_in u) h) i ++ term_vars u (none_behind (aggregates_in t) _ h) i) ∙ sym (map-append (λ d. d.0) (attributes t) (attributes u))
term_vars (concat t u) h =
    (λ i. term_vars t (none_before _ (aggregates_in u) h) i ++ term_vars u (none_behind (aggregates_in t) _ h) i) ∙ sym (map-append (λ d. d.0) (attributes t) (attributes u))
term_vars (Agg' mark row) h = row_vars row h

terms_vars : (ts : List Term) → flat_map aggregates_in ts ≡ [] → flat_map outer_vars ts ≡ vars_of (flat_map attributes ts)
terms_vars [] h = refl
terms_vars (t ∷ ts) h =
    (λ i. term_vars t (none_before _ (flat_map aggregates_in ts) h) i ++ terms_vars ts (none_behind (aggregates_in t) _ h) i)
    ∙ sym (map-append (λ d. d.0) (attributes t) (flat_map attributes ts))

qual_vars : (q : Qual) → aggregates_in_qual q ≡ [] → outer_vars_in_qual q ≡ vars_of (attributes_in_qual q)
unfolding aggregates_in_qual
qual_vars True h = refl
qual_vars (Cmp op t u) h =
    (λ i. term_vars t (none_before _ (aggregates_in u) h) i ++ term_vars u (none_behind (aggregates_in t) _ h) i) ∙ sym (map-append (λ d. d.0) (attributes t) (attributes u))
qual_vars (both p q) h =
    (λ i. qual_vars p (none_before _ (aggregates_in_qual q) h) i ++ qual_vars q (none_behind (aggregates_in_qual p) _ h) i)
    ∙ sym (map-append (λ d. d.0) (attributes_in_qual p) (attributes_in_qual q))
qual_vars (either p q) h =
    (λ i. qual_vars p (none_before _ (aggregates_in_qual q) h) i ++ qual_vars q (none_behind (aggregates_in_qual p) _ h) i)
    ∙ sym (map-append (λ d. d.0) (attributes_in_qual p) (attributes_in_qual q))
qual_vars (negated p) h = qual_vars p h

-- ---- the parts of an aggregate that may stand

record Inside (g : AggTerm) : Type 0 where
  arg_none : is_any (aggregates_in g.arg) ≡ false
  by_none : is_any (flat_map aggregates_in g.by) ≡ false
  qual_none : is_any (aggregates_in_qual g.qual) ≡ false
  arg_among : are_among (aggregate_vars g) (outer_vars g.arg) ≡ true
  by_among : are_among (aggregate_vars g) (flat_map outer_vars g.by) ≡ true
  qual_among : are_among (aggregate_vars g) (outer_vars_in_qual g.qual) ≡ true

once_all : (ms : Vars) → are_among (once ms) ms ≡ true
once_all ms = all_into (is_among ms) (is_among (once ms)) (λ n h. kept ms n h) ms (themselves ms)

named : (g : AggTerm) → are_among (aggregate_vars g) (vars_of (attributes g.arg) ++ (vars_of (flat_map attributes g.by) ++ vars_of (attributes_in_qual g.qual))) ≡ true
unfolding aggregate_vars
named g =
    ap (are_among (once (vars_of (attributes g.arg ++ (flat_map attributes g.by ++ attributes_in_qual g.qual)))))
    (ap (λ vs. vars_of (attributes g.arg) ++ vs) (sym (map-append (λ d. d.0) (flat_map attributes g.by) (attributes_in_qual g.qual)))
    ∙ sym (map-append (λ d. d.0) (attributes g.arg) (flat_map attributes g.by ++ attributes_in_qual g.qual)))
    ∙ once_all (vars_of (attributes g.arg ++ (flat_map attributes g.by ++ attributes_in_qual g.qual)))

inside : (g : AggTerm) → holds_another g ≡ false → Inside g
inside g h =
    let front = either_none _ _ (sym (any_joined (aggregates_in g.arg) (flat_map aggregates_in g.by ++ aggregates_in_qual g.qual)) ∙ h) in
    let rest = either_none _ _ (sym (any_joined (flat_map aggregates_in g.by) (aggregates_in_qual g.qual)) ∙ front.1) in
    let ms = both_so _ _ (sym (list_all-append (is_among (aggregate_vars g)) (vars_of (attributes g.arg)) (vars_of (flat_map attributes g.by) ++ vars_of (attributes_in_qual g.qual))) ∙ named g) in
    let ns = both_so _ _ (sym (list_all-append (is_among (aggregate_vars g)) (vars_of (flat_map attributes g.by)) (vars_of (attributes_in_qual g.qual))) ∙ ms.1) in
    record {
      arg_none = front.0;
      by_none = rest.0;
      qual_none = rest.1;
      arg_among = ap (are_among (aggregate_vars g)) (term_vars g.arg (none_any _ front.0)) ∙ ms.0;
      by_among = ap (are_among (aggregate_vars g)) (terms_vars g.by (none_any _ rest.0)) ∙ ns.0;
      qual_among = ap (are_among (aggregate_vars g)) (qual_vars g.qual (none_any _ rest.1)) ∙ ns.1;
    }

-- ---- the tree of an aggregate

rows_are : (s : Scope) (vars : Vars) (ts : List Term) → row_trees s vars (term_row ts) ≡ map (term_tree s vars 0) ts
rows_are s vars [] = refl
rows_are s vars (t ∷ ts) = ap (λ us. term_tree s vars 0 t ∷ us) (rows_are s vars ts)

abbrev over_vars : Scope → Vars → ℕ → AggTerm → Vars → QTerm
over_vars s vars n g inner =
    tree.aggregate (record {
      slot = n;
      op = g.op;
      source = Named (key_over s (first_var inner));
      arg = term_tree s inner 0 g.arg;
      by = row_trees s inner (term_row g.by);
      link = row_trees s vars (term_row g.by);
      qual = qual_tree s inner 0 g.qual;
    })

tree_is : (s : Scope) (vars : Vars) (n : ℕ) (g : AggTerm) → term_tree s vars n (Agg g) ≡ over_vars s vars n g (aggregate_vars g)
tree_is s vars n g =
    ap (term_tree s vars n) (agg_is g) ∙ (λ i. over_vars s vars n g (aggregate_vars (record { op = g.op; arg = g.arg; by = items_of_terms g.by i; qual = g.qual })))

the_one : (inner vars : Vars) → is_one_of inner vars ≡ true → vars ≡ first_var vars ∷ []
the_one inner [] h = absurd (cc h)
the_one inner (var ∷ []) h = refl
the_one inner (var ∷ other ∷ more) h = absurd (cc h)

not_so : (b : Bool) → not b ≡ true → b ≡ false
not_so true h = absurd (cc h)
not_so false h = refl

alone_few : (info : RelInfo) → length info.attrs ≤ 256 → All (λ (i : RelInfo). length i.attrs ≤ 256) (info ∷ [])
alone_few info h zero d lt = h
alone_few info h (suc k) d lt = absurd (omega (arith, lt))

known_alone : (s : Scope) (inner vars : Vars) (info : RelInfo) → is_one_of inner vars ≡ true → ranged s (first_var vars) ≡ Some info → length info.attrs ≤ 256 → Knows s vars (info ∷ [])
known_alone s inner vars info one r few = record {
  over = ap (map (ranged s)) (the_one inner vars one) ∙ (λ i. r i ∷ []);
  few_vars = subst (λ vs. length vs ≤ 256) (sym (the_one inner vars one)) (omega arith);
  few_attrs = alone_few info few;
}

-- the tree of an aggregate over one variable, of which it is known what it ranges over
pub of_aggregate : (vars : Vars) (infos : List RelInfo) (inner : Vars) (inner_infos : List RelInfo) (own : Vars) (info : RelInfo) (n : ℕ) (g : AggTerm) (key : RelKey) (arg : QTerm)
    (by link : List QTerm) (qual : QQual) → own ≡ aggregate_vars g → key ≡ info.key
    → ((s : Scope) → Knows s inner inner_infos → is_one_of inner own ≡ true → Some info ≡ ranged s (first_var own))
    → ((s : Scope) → Knows s inner inner_infos → length info.attrs ≤ 256)
    → IsTermTree own (info ∷ []) g.arg arg → AreTermTrees own (info ∷ []) g.by by → AreTermTrees vars infos g.by link → IsQualTree own (info ∷ []) g.qual qual
    → IsTermFrom vars infos inner inner_infos n (Agg g)
    (qterm.Agg (record { slot = n; op = g.op; source = Named key; arg = arg; by = by; link = link; qual = qual }))
unfolding IsTermFrom IsTermTree AreTermTrees IsQualTree
of_aggregate vars infos inner inner_infos own info n g key arg by link qual mine ek over small ha hb hl hq s k ki among stands few =
    let here : is_over inner g ≡ true = (both_so _ _ (sym (ap (list_all (is_over inner)) (in_agg g)) ∙ stands)).0 in
    let parts = both_so (not (holds_another g)) (is_one_of inner (aggregate_vars g)) here in
    let in_it = inside g (not_so (holds_another g) parts.0) in
    let one : is_one_of inner own ≡ true = ap (is_one_of inner) mine ∙ parts.1 in
    let r : ranged s (first_var own) ≡ Some info = sym (over s ki one) in
    let kin = known_alone s inner own info one r (small s ki) in
    let ea = ha s 0 kin (ap (λ vs. are_among vs (outer_vars g.arg)) mine ∙ in_it.arg_among) in_it.arg_none in
    let eb = hb s kin (ap (λ vs. are_among vs (flat_map outer_vars g.by)) mine ∙ in_it.by_among) in_it.by_none ∙ sym (rows_are s own g.by) in
    let el = hl s k (ap (are_among vars) (sym (vars_agg g)) ∙ among) in_it.by_none ∙ sym (rows_are s vars g.by) in
    let eq = hq s 0 kin (ap (λ vs. are_among vs (outer_vars_in_qual g.qual)) mine ∙ in_it.qual_among) in_it.qual_none in
    let es : key ≡ key_over s (first_var own) = ek ∙ sym (ap key_found r) in
    (λ i. qterm.Agg (record { slot = n; op = g.op; source = Named (es i); arg = ea i; by = eb i; link = el i; qual = eq i }))
    ∙ forms.agg_is _ ∙ ap (over_vars s vars n g) mine ∙ sym (tree_is s vars n g)

-- ---- what the variable of an aggregate ranges over

pub first_is : (inner vars : Vars) (v : List ℕ) → front vars ≡ v ∷ [] → is_one_of inner vars ≡ true → (is_among inner v ≡ true) × (v ≡ first_var vars)
first_is inner [] v e h = absurd (cc h)
first_is inner (var ∷ []) v e h = let same : var ≡ v = cc e in (subst (λ x. is_among inner x ≡ true) same h, sym same)
first_is inner (var ∷ other ∷ more) v e h = absurd (cc h)

pub one_among : (inner vars : Vars) → is_one_of inner vars ≡ true → is_among inner (first_var vars) ≡ true
one_among inner [] h = absurd (cc h)
one_among inner (var ∷ []) h = h
one_among inner (var ∷ other ∷ more) h = absurd (cc h)

-- each of these variables ranges over something
pub ranges : (f : List ℕ → Option RelInfo) (vars : Vars) (infos : List RelInfo) (var : List ℕ) → map f vars ≡ map Some infos → is_among vars var ≡ true → f var ≡ None → ⊥
ranges f [] infos var e h n = cc h
ranges f (v ∷ vars) [] var e h n = cc e
ranges f (v ∷ vars) (info ∷ infos) var e h n = go (bytes_eq v var) refl h (let later : map f vars ≡ map Some infos = cc e in λ k. ranges f vars infos var later k n)
  where
    go : (b : Bool) → bytes_eq v var ≡ b → (b || is_among vars var) ≡ true → (is_among vars var ≡ true → ⊥) → ⊥
    go true s h later = let first : f v ≡ Some info = cc e in cc (sym first ∙ ap f (same_bytes v var s) ∙ n)
    go false s h later = later h

-- where nothing is known of its variable, nothing is said of an aggregate
pub of_none : (vars : Vars) (infos : List RelInfo) (inner : Vars) (inner_infos : List RelInfo) (own : Vars) (n : ℕ) (g : AggTerm) (tree : QTerm) → own ≡ aggregate_vars g
    → ((s : Scope) → Knows s inner inner_infos → is_one_of inner own ≡ true → None ≡ ranged s (first_var own)) → IsTermFrom vars infos inner inner_infos n (Agg g) tree
unfolding IsTermFrom
of_none vars infos inner inner_infos own n g tree mine over s k ki among stands few =
    let here : is_over inner g ≡ true = (both_so _ _ (sym (ap (list_all (is_over inner)) (in_agg g)) ∙ stands)).0 in
    let parts = both_so (not (holds_another g)) (is_one_of inner (aggregate_vars g)) here in
    let one : is_one_of inner own ≡ true = ap (is_one_of inner) mine ∙ parts.1 in
    absurd (ranges (ranged s) inner inner_infos (first_var own) ki.over (one_among inner own one) (sym (over s ki one)))
