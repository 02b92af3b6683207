-- What is read has no more of anything than tokens: grouping terms of an aggregate, names, numbers and keys to sort by.
use Rattle.std.proofs.Common.{◌≡◌, sym, subst, ℕ, ◌+◌, ◌≤◌, Bool, true, List, [], ◌++◌, length, length-append, arith}
use Rattle.std.specs.Prelude.{flat_map}
use Rattle.calculus.specs.declared.operator.ArithOp.{ArithOp}
use Rattle.calculus.specs.declared.operator.ArithOp.TheVariants as ops
use Rattle.calculus.specs.declared.statement.AggTerm.{AggTerm}
use Rattle.calculus.specs.declared.statement.Item.{Item}
use Rattle.calculus.specs.declared.statement.Qual.{Qual}
use Rattle.calculus.specs.declared.statement.Qual.TheVariants as quals
use Rattle.calculus.specs.declared.statement.Statement.{Statement}
use Rattle.calculus.specs.declared.statement.Statement.TheVariants as statement
use Rattle.calculus.specs.declared.statement.Term.{Term}
use Rattle.calculus.specs.declared.statement.Term.TheVariants as terms
use Rattle.calculus.proofs.WrittenForms.{neg_is, abs_is, operation_is, concat_is, both_is, either_is, negated_is, agg_is, items_of_terms}
use Rattle.quel_grammar.specs.declared.token.Fixed.TheVariants as fixed
use Rattle.quel_grammar.specs.declared.token.Token.{Token}
use Rattle.quel_grammar.specs.Grammar.{one, word, ◌⋅◌, IsTerm, IsSums, IsProd, IsProducts, IsPow, IsUnary, IsPrim, IsFunction, IsAggregate, IsBy, IsTerms, IsWhere, IsQual, IsOrs, IsConj, IsAnds, IsNeg, IsList}
use Rattle.quel_grammar.specs.Grammar.IsTerm.{sum}
use Rattle.quel_grammar.specs.Grammar.IsSums.{last_sum, next_sum}
use Rattle.quel_grammar.specs.Grammar.IsProd.{product}
use Rattle.quel_grammar.specs.Grammar.IsProducts.{last_product, next_product}
use Rattle.quel_grammar.specs.Grammar.IsPow.{base, power}
use Rattle.quel_grammar.specs.Grammar.IsUnary.{negative, positive, prim}
use Rattle.quel_grammar.specs.Grammar.IsPrim.{int, text, attribute, group, function, aggregate as aggregated}
use Rattle.quel_grammar.specs.Grammar.IsFunction.{abs, mod_, concat}
use Rattle.quel_grammar.specs.Grammar.IsAggregate.{aggregate_of}
use Rattle.quel_grammar.specs.Grammar.IsBy.{ungrouped, by_terms}
use Rattle.quel_grammar.specs.Grammar.IsTerms.{last_term, next_term}
use Rattle.quel_grammar.specs.Grammar.IsWhere.{unqualified, qualified}
use Rattle.quel_grammar.specs.Grammar.IsQual.{choice}
use Rattle.quel_grammar.specs.Grammar.IsOrs.{last_or, next_or}
use Rattle.quel_grammar.specs.Grammar.IsConj.{conjunction}
use Rattle.quel_grammar.specs.Grammar.IsAnds.{last_and, next_and}
use Rattle.quel_grammar.specs.Grammar.IsNeg.{not_, grouped, compared}
use Rattle.quel_grammar.specs.Grammar.IsList.{last, next}
use Rattle.quel_grammar.specs.Statements.{IsStatement, IsTarget, IsSort, IsNumber, IsNumbers}
use Rattle.quel_grammar.specs.Statements.IsTarget.{set_target, attribute_target, all_target}
use Rattle.quel_grammar.specs.Statements.IsSort.{unsorted, sorted}
use Rattle.quel_grammar.specs.Statements.IsNumber.{number}
use Rattle.quel_grammar.specs.Statements.IsNumbers.{all_numbers, listed}
use Rattle.quel_grammar.specs.Statements.IsStatement.{range, retrieve, append, replace, delete, create, destroy, destroy_permit, destroy_integrity, modify, index, print, help, help_about, copy, define_view, define_permit, define_integrity}
use Rattle.quel_meaning.specs.WrittenParts.{aggregates_in, aggregates_in_qual, aggregates_in_item, text_aggregates}
use Rattle.quel_meaning.proofs.Each.{Each, both_of}
use Rattle.spelling_laws.specs.Short.{is_number}

-- an aggregate as it is written has at most so many grouping terms
abbrev pub FewBy : ℕ → AggTerm → Type 0
FewBy n a = length a.by ≤ n

-- so has each aggregate in a term, and in a qualification
abbrev InTerm : ℕ → Term → Type 0
InTerm n t = Each (FewBy n) (aggregates_in t)

abbrev InQual : ℕ → Qual → Type 0
InQual n q = Each (FewBy n) (aggregates_in_qual q)

-- ---- terms and qualifications that are made of others

in_neg : (n : ℕ) (t : Term) → InTerm n t → InTerm n (terms.Neg t)
unfolding aggregates_in
in_neg n t h = subst (InTerm n) (sym (neg_is t)) h

in_abs : (n : ℕ) (t : Term) → InTerm n t → InTerm n (terms.Abs t)
unfolding aggregates_in
in_abs n t h = subst (InTerm n) (sym (abs_is t)) h

in_operation : (n : ℕ) (op : ArithOp) (t u : Term) → InTerm n t → InTerm n u → InTerm n (terms.Arith op t u)
unfolding aggregates_in
in_operation n op t u h k = subst (InTerm n) (sym (operation_is op t u)) (both_of (FewBy n) (aggregates_in t) (aggregates_in u) h k)

in_concat : (n : ℕ) (t u : Term) → InTerm n t → InTerm n u → InTerm n (terms.Concat t u)
unfolding aggregates_in
in_concat n t u h k = subst (InTerm n) (sym (concat_is t u)) (both_of (FewBy n) (aggregates_in t) (aggregates_in u) h k)

in_agg : (n : ℕ) (a : AggTerm) → length a.by ≤ n → InTerm n (terms.Agg a)
unfolding aggregates_in
in_agg n a h = subst (InTerm n) (sym (agg_is a)) (subst (λ us. length us ≤ n) (sym (items_of_terms a.by)) h, tt)

in_and : (n : ℕ) (p q : Qual) → InQual n p → InQual n q → InQual n (quals.And p q)
unfolding aggregates_in_qual
in_and n p q h k = subst (InQual n) (sym (both_is p q)) (both_of (FewBy n) (aggregates_in_qual p) (aggregates_in_qual q) h k)

in_or : (n : ℕ) (p q : Qual) → InQual n p → InQual n q → InQual n (quals.Or p q)
unfolding aggregates_in_qual
in_or n p q h k = subst (InQual n) (sym (either_is p q)) (both_of (FewBy n) (aggregates_in_qual p) (aggregates_in_qual q) h k)

in_not : (n : ℕ) (p : Qual) → InQual n p → InQual n (quals.Not p)
unfolding aggregates_in_qual
in_not n p h = subst (InQual n) (sym (negated_is p)) h

-- ---- how many terms a list of tokens has

terms_many : {us : List Token} {ts : List Term} → IsTerms us ts → length ts ≤ 1 + length us
terms_many (last_term p) = omega arith
terms_many (next_term {ts = ts} {us = us} p q) = let more = terms_many q in let long = length-append ts (one fixed.Comma ⋅ us) in omega (arith, more, long)

by_many : {bs : List Token} {by : List Term} → IsBy bs by → length by ≤ length bs
by_many ungrouped = omega arith
by_many (by_terms p) = let few = terms_many p in omega (arith, few)

list_many : {A : Type 0} {Is : List Token → A → Type 0} {ts : List Token} {xs : List A} → IsList Is ts xs → length xs ≤ 1 + length ts
list_many (last p) = omega arith
list_many (next {ts = ts} {us = us} p q) = let more = list_many q in let long = length-append ts (one fixed.Comma ⋅ us) in omega (arith, more, long)

-- ---- of what is read

mutual
  unfolding aggregates_in aggregates_in_qual

  pub term_by : (n : ℕ) {ts : List Token} {t : Term} → IsTerm ts t → length ts ≤ n → InTerm n t
  term_by n (sum {ts = ts} {us = us} p q) h = let long = length-append ts us in sums_by n q (prod_by n p (omega (arith, h, long))) (omega (arith, h, long))

  sums_by : (n : ℕ) {left v : Term} {us : List Token} → IsSums left us v → InTerm n left → length us ≤ n → InTerm n v
  sums_by n last_sum l h = l
  sums_by n (next_sum {op = op} {ts = ts} {us = us} {left = left} {t = t} s p q) l h =
      let long = length-append ts us in sums_by n q (in_operation n op left t l (prod_by n p (omega (arith, h, long)))) (omega (arith, h, long))

  prod_by : (n : ℕ) {ts : List Token} {t : Term} → IsProd ts t → length ts ≤ n → InTerm n t
  prod_by n (product {ts = ts} {us = us} p q) h = let long = length-append ts us in products_by n q (pow_by n p (omega (arith, h, long))) (omega (arith, h, long))

  products_by : (n : ℕ) {left v : Term} {us : List Token} → IsProducts left us v → InTerm n left → length us ≤ n → InTerm n v
  products_by n last_product l h = l
  products_by n (next_product {op = op} {ts = ts} {us = us} {left = left} {t = t} s p q) l h =
      let long = length-append ts us in products_by n q (in_operation n op left t l (pow_by n p (omega (arith, h, long)))) (omega (arith, h, long))

  pow_by : (n : ℕ) {ts : List Token} {t : Term} → IsPow ts t → length ts ≤ n → InTerm n t
  pow_by n (base p) h = unary_by n p h
  pow_by n (power {ts = ts} {us = us} {t = t} {u = u} p q) h =
      let long = length-append ts (one fixed.Power ⋅ us) in in_operation n ops.Pow t u (unary_by n p (omega (arith, h, long))) (pow_by n q (omega (arith, h, long)))

  unary_by : (n : ℕ) {ts : List Token} {t : Term} → IsUnary ts t → length ts ≤ n → InTerm n t
  unary_by n (negative {t = t} p) h = in_neg n t (unary_by n p (omega (arith, h)))
  unary_by n (positive p) h = unary_by n p (omega (arith, h))
  unary_by n (prim p) h = prim_by n p h

  prim_by : (n : ℕ) {ts : List Token} {t : Term} → IsPrim ts t → length ts ≤ n → InTerm n t
  prim_by n int h = tt
  prim_by n text h = tt
  prim_by n attribute h = tt
  prim_by n (group {ts = ts} p) h = let long = length-append ts (one fixed.Close) in term_by n p (omega (arith, h, long))
  prim_by n (function p) h = function_by n p h
  prim_by n (aggregated p) h = agg_by n p h

  function_by : (n : ℕ) {ts : List Token} {t : Term} → IsFunction ts t → length ts ≤ n → InTerm n t
  function_by n (abs {ts = ts} {t = t} p) h = let long = length-append ts (one fixed.Close) in in_abs n t (term_by n p (omega (arith, h, long)))
  function_by n (mod_ {ts = ts} {us = us} {t = t} {u = u} p q) h =
      let long = length-append ts (one fixed.Comma ⋅ us ⋅ one fixed.Close) in let more = length-append us (one fixed.Close) in
      in_operation n ops.Mod t u (term_by n p (omega (arith, h, long, more))) (term_by n q (omega (arith, h, long, more)))
  function_by n (concat {ts = ts} {us = us} {t = t} {u = u} p q) h =
      let long = length-append ts (one fixed.Comma ⋅ us ⋅ one fixed.Close) in let more = length-append us (one fixed.Close) in
      in_concat n t u (term_by n p (omega (arith, h, long, more))) (term_by n q (omega (arith, h, long, more)))

  agg_by : (n : ℕ) {ts : List Token} {t : Term} → IsAggregate ts t → length ts ≤ n → InTerm n t
  agg_by n (aggregate_of {op = op} {ts = ts} {bs = bs} {ws = ws} {t = t} {by = by} {q = q} a p b w) h =
      let few = by_many b in
      let first = length-append ts (bs ⋅ ws ⋅ one fixed.Close) in let second = length-append bs (ws ⋅ one fixed.Close) in
      in_agg n (record { op = op; arg = t; by = by; qual = q }) (omega (arith, h, few, first, second))

  pub where_by : (n : ℕ) {ws : List Token} {q : Qual} → IsWhere ws q → length ws ≤ n → InQual n q
  where_by n unqualified h = tt
  where_by n (qualified p) h = qual_by n p (omega (arith, h))

  pub qual_by : (n : ℕ) {ts : List Token} {q : Qual} → IsQual ts q → length ts ≤ n → InQual n q
  qual_by n (choice {ts = ts} {us = us} p o) h = let long = length-append ts us in ors_by n o (conj_by n p (omega (arith, h, long))) (omega (arith, h, long))

  ors_by : (n : ℕ) {left q : Qual} {us : List Token} → IsOrs left us q → InQual n left → length us ≤ n → InQual n q
  ors_by n last_or l h = l
  ors_by n (next_or {ts = ts} {us = us} {left = left} {p = p} c o) l h =
      let long = length-append ts us in ors_by n o (in_or n left p l (conj_by n c (omega (arith, h, long)))) (omega (arith, h, long))

  conj_by : (n : ℕ) {ts : List Token} {q : Qual} → IsConj ts q → length ts ≤ n → InQual n q
  conj_by n (conjunction {ts = ts} {us = us} p a) h = let long = length-append ts us in ands_by n a (negation_by n p (omega (arith, h, long))) (omega (arith, h, long))

  ands_by : (n : ℕ) {left q : Qual} {us : List Token} → IsAnds left us q → InQual n left → length us ≤ n → InQual n q
  ands_by n last_and l h = l
  ands_by n (next_and {ts = ts} {us = us} {left = left} {p = p} c a) l h =
      let long = length-append ts us in ands_by n a (in_and n left p l (negation_by n c (omega (arith, h, long)))) (omega (arith, h, long))

  negation_by : (n : ℕ) {ts : List Token} {q : Qual} → IsNeg ts q → length ts ≤ n → InQual n q
  negation_by n (not_ {p = p} c) h = in_not n p (negation_by n c (omega (arith, h)))
  negation_by n (grouped {ts = ts} p) h = let long = length-append ts (one fixed.Close) in qual_by n p (omega (arith, h, long))
  negation_by n (compared {f = f} {ts = ts} {us = us} {t = t} {u = u} p c q) h =
      let long = length-append ts (one f ⋅ us) in both_of (FewBy n) (aggregates_in t) (aggregates_in u) (term_by n p (omega (arith, h, long))) (term_by n q (omega (arith, h, long)))

-- ---- statements

item_by : (n : ℕ) {ts : List Token} {i : Item} → IsTarget ts i → length ts ≤ n → Each (FewBy n) (aggregates_in_item i)
item_by n (set_target p) h = term_by n p (omega (arith, h))
item_by n attribute_target h = tt
item_by n all_target h = tt

items_by : (n : ℕ) {ts : List Token} {is : List Item} → IsList IsTarget ts is → length ts ≤ n → Each (FewBy n) (flat_map aggregates_in_item is)
items_by n (last {x = i} p) h = both_of (FewBy n) (aggregates_in_item i) [] (item_by n p h) tt
items_by n (next {ts = ts} {us = us} {x = i} {xs = is} p q) h =
    let long = length-append ts (one fixed.Comma ⋅ us) in
    both_of (FewBy n) (aggregates_in_item i) (flat_map aggregates_in_item is) (item_by n p (omega (arith, h, long))) (items_by n q (omega (arith, h, long)))

in_both : (n : ℕ) (is : List Item) (q : Qual) → Each (FewBy n) (flat_map aggregates_in_item is) → InQual n q → Each (FewBy n) (flat_map aggregates_in_item is ++ aggregates_in_qual q)
in_both n is q h k = both_of (FewBy n) (flat_map aggregates_in_item is) (aggregates_in_qual q) h k

-- each aggregate of a statement has at most as many grouping terms as the statement has tokens
pub statement_by : (n : ℕ) {ts : List Token} {s : Statement} → IsStatement ts s → length ts ≤ n → Each (FewBy n) (text_aggregates s)
unfolding aggregates_in_qual
statement_by n range h = tt
statement_by n (retrieve {us = us} {rs = rs} {ts = ts} {ws = ws} {ks = ks} {targets = is} {q = q} u i p w k) h =
    let a = length-append us (rs ⋅ one fixed.Open ⋅ ts ⋅ one fixed.Close ⋅ ws ⋅ ks) in
    let b = length-append rs (one fixed.Open ⋅ ts ⋅ one fixed.Close ⋅ ws ⋅ ks) in
    let c = length-append ts (one fixed.Close ⋅ ws ⋅ ks) in let e = length-append ws ks in
    in_both n is q (items_by n p (omega (arith, h, a, b, c, e))) (where_by n w (omega (arith, h, a, b, c, e)))
statement_by n (append {us = us} {ts = ts} {ws = ws} {r = r} {targets = is} {q = q} u p w) h =
    let a = length-append us (word r ⋅ one fixed.Open ⋅ ts ⋅ one fixed.Close ⋅ ws) in let b = length-append ts (one fixed.Close ⋅ ws) in
    in_both n is q (items_by n p (omega (arith, h, a, b))) (where_by n w (omega (arith, h, a, b)))
statement_by n (replace {ts = ts} {ws = ws} {targets = is} {q = q} p w) h = let b = length-append ts (one fixed.Close ⋅ ws) in in_both n is q (items_by n p (omega (arith, h, b))) (where_by n w (omega (arith, h, b)))
statement_by n (delete {q = q} w) h = where_by n w (omega (arith, h))
statement_by n (create p) h = tt
statement_by n (destroy p) h = tt
statement_by n (destroy_permit p) h = tt
statement_by n (destroy_integrity p) h = tt
statement_by n (modify p) h = tt
statement_by n (index p) h = tt
statement_by n (print p) h = tt
statement_by n help h = tt
statement_by n help_about h = tt
statement_by n (copy p w) h = tt
statement_by n (define_view {ts = ts} {ws = ws} {targets = is} {q = q} p w) h = let b = length-append ts (one fixed.Close ⋅ ws) in in_both n is q (items_by n p (omega (arith, h, b))) (where_by n w (omega (arith, h, b)))
statement_by n (define_permit {os = os} {vs = vs} {as_ = as_} {us = us} {ws = ws} {v = v} o over c u w) h =
    let a = length-append os (vs ⋅ word v ⋅ as_ ⋅ one fixed.To ⋅ us ⋅ ws) in let b = length-append vs (word v ⋅ as_ ⋅ one fixed.To ⋅ us ⋅ ws) in
    let c = length-append as_ (one fixed.To ⋅ us ⋅ ws) in let e = length-append us ws in
    where_by n w (omega (arith, h, a, b, c, e))
statement_by n (define_integrity p) h = qual_by n p (omega (arith, h))

-- ---- lists of a statement

-- of the lists of a statement that its tree has and nothing else bounds
abbrev pub FewParts : ℕ → Statement → Type 0
FewParts n (statement.Retrieve into items qual sort) = length sort ≤ n
FewParts n (statement.Destroy rels) = length rels ≤ n
FewParts n (statement.DropPermits rel numbers) = (length numbers ≤ n) × Each (λ k. is_number k ≡ true) numbers
FewParts n (statement.DropRules rel numbers) = (length numbers ≤ n) × Each (λ k. is_number k ≡ true) numbers
FewParts n (statement.Print rels) = length rels ≤ n
FewParts n _ = Unit {0}

sort_many : {ks : List Token} {keys : List (List ℕ × Bool)} → IsSort ks keys → length keys ≤ length ks
sort_many unsorted = omega arith
sort_many (sorted p) = let few = list_many p in omega (arith, few)

listed_numbers : {ts : List Token} {ns : List ℕ} → IsList IsNumber ts ns → Each (λ k. is_number k ≡ true) ns
listed_numbers (last (number h)) = (h, tt)
listed_numbers (next (number h) q) = (h, listed_numbers q)

numbers_many : {ts : List Token} {ns : List ℕ} → IsNumbers ts ns → (length ns ≤ 1 + length ts) × Each (λ k. is_number k ≡ true) ns
numbers_many all_numbers = (omega arith, tt)
numbers_many (listed p) = (list_many p, listed_numbers p)

pub statement_parts : (n : ℕ) {ts : List Token} {s : Statement} → IsStatement ts s → length ts ≤ n → FewParts n s
statement_parts n range h = tt
statement_parts n (retrieve {us = us} {rs = rs} {ts = ts} {ws = ws} {ks = ks} u i p w k) h =
    let a = length-append us (rs ⋅ one fixed.Open ⋅ ts ⋅ one fixed.Close ⋅ ws ⋅ ks) in
    let b = length-append rs (one fixed.Open ⋅ ts ⋅ one fixed.Close ⋅ ws ⋅ ks) in
    let c = length-append ts (one fixed.Close ⋅ ws ⋅ ks) in let e = length-append ws ks in let few = sort_many k in
    omega (arith, h, a, b, c, e, few)
statement_parts n (append u p w) h = tt
statement_parts n (replace p w) h = tt
statement_parts n (delete w) h = tt
statement_parts n (create p) h = tt
statement_parts n (destroy p) h = let few = list_many p in omega (arith, h, few)
statement_parts n (destroy_permit p) h = let few = numbers_many p in let most = few.0 in (omega (arith, h, most), few.1)
statement_parts n (destroy_integrity p) h = let few = numbers_many p in let most = few.0 in (omega (arith, h, most), few.1)
statement_parts n (modify p) h = tt
statement_parts n (index p) h = tt
statement_parts n (print p) h = let few = list_many p in omega (arith, h, few)
statement_parts n help h = tt
statement_parts n help_about h = tt
statement_parts n (copy p w) h = tt
statement_parts n (define_view p w) h = tt
statement_parts n (define_permit o over c u w) h = tt
statement_parts n (define_integrity p) h = tt
