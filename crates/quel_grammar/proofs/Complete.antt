-- Each term and each qualification of the grammar is read, whatever follows that doesn't go on with it.
use Rattle.std.proofs.Common.{◌≡◌, ℕ, zero, suc, List, [], ◌∷◌, ◌++◌, None, Ok, refl, ap, ◌∙◌, append_assoc, ◌≤◌, length, length-append, arith}
use Rattle.calculus.specs.declared.statement.Qual.{Qual}
use Rattle.calculus.specs.declared.statement.Term.{Term}
use Rattle.quel_grammar.specs.declared.token.Fixed.TheVariants as fixed
use Rattle.quel_grammar.specs.declared.token.Token.{Token}
use Rattle.quel_grammar.specs.declared.token.Token.TheVariants as tokens
use Rattle.quel_grammar.specs.Grammar.{one, IsTerm, IsSums, IsProd, IsProducts, IsPow, IsUnary, IsPrim, IsFunction, IsAggregate, IsBy, IsTerms, IsWhere, IsQual, IsOrs, IsConj, IsAnds, IsNeg}
use Rattle.quel_grammar.specs.Grammar.IsTerm.{sum}
use Rattle.quel_grammar.specs.Grammar.IsSums.{last_sum, next_sum}
use Rattle.quel_grammar.specs.Grammar.IsProd.{product}
use Rattle.quel_grammar.specs.Grammar.IsProducts.{last_product, next_product}
use Rattle.quel_grammar.specs.Grammar.IsPow.{base, power}
use Rattle.quel_grammar.specs.Grammar.IsUnary.{negative, positive, prim}
use Rattle.quel_grammar.specs.Grammar.IsPrim.{int, text, attribute, group, function, aggregate}
use Rattle.quel_grammar.specs.Grammar.IsFunction.{abs, mod_, concat}
use Rattle.quel_grammar.specs.Grammar.IsAggregate.{aggregate_of}
use Rattle.quel_grammar.specs.Grammar.IsBy.{ungrouped, by_terms}
use Rattle.quel_grammar.specs.Grammar.IsTerms.{last_term, next_term}
use Rattle.quel_grammar.specs.Grammar.IsWhere.{unqualified, qualified}
use Rattle.quel_grammar.specs.Grammar.IsQual.{choice}
use Rattle.quel_grammar.specs.Grammar.IsOrs.{last_or, next_or}
use Rattle.quel_grammar.specs.Grammar.IsConj.{conjunction}
use Rattle.quel_grammar.specs.Grammar.IsAnds.{last_and, next_and}
use Rattle.quel_grammar.specs.Grammar.IsNeg.{not_, grouped, compared}
use Rattle.quel_grammar.specs.Reading.{first, is_fixed}
use Rattle.quel_grammar.specs.TermReaders.{level, unary_by, pow_by, products_by, prod_by, sums_by, term_by, terms_by, by_by, inner_where_by, compare_by, operand_by, ands_by, conj_by, ors_by, mixed_by}
use Rattle.quel_grammar.specs.TermReaders.Mixed.{Whole}
use Rattle.quel_grammar.proofs.Ends.{ProdEnds, TermEnds, ConjEnds, QualEnds, GroupEnds, close_ends, comma_ends, sums_front, products_front, ands_front, ors_front, comparison_ends, by_front, where_close}
use Rattle.quel_grammar.proofs.TermSteps.{power_ends, power_next, pow_step, products_end, products_next, prod_step, sums_end, sums_next, term_step, inside_step, int_step, text_step, attribute_step, group_step, abs_step, mod_step, concat_step, aggregate_step, ungrouped_step, by_step, terms_end, terms_next, unqualified_step, qualified_step, negative_step, positive_step}
use Rattle.quel_grammar.proofs.QualSteps.{finish, finish_pow, finish_prod, plain_through, pow_through, prod_through, term_through, no_comparison, group_through, function_front, aggregate_front, compare_next, neg_step, not_step, grouped_step, ands_end, ands_next, conj_step, ors_end, ors_next, mixed_step}

mutual
  pub read_term : {ts : List Token} {t : Term} → IsTerm ts t → (n : ℕ) → length ts ≤ n → (rest : List Token) → TermEnds rest → term_by (level n) (ts ++ rest) ≡ Ok (t, rest)
  read_term (sum {ts = ts} {us = us} p q) n le rest ends = rw (append_assoc ts us rest)
      (term_step (level n) _ _ _ (read_prod p n (omega (arith, length-append ts us)) (us ++ rest) (sums_front q rest ends.prod)) ∙ read_sums q n
      (omega (arith, length-append ts us)) rest ends)

  pub read_sums : {left v : Term} {us : List Token} → IsSums left us v → (n : ℕ) → length us ≤ n → (rest : List Token) → TermEnds rest
      → sums_by (level n) left (us ++ rest) ≡ Ok (v, rest)
  read_sums last_sum n le rest ends = sums_end (level n) _ rest ends.sum
  read_sums (next_sum s p q) zero le rest ends = absurd (omega arith)
  read_sums (next_sum {ts = ts} {us = us} s p q) (suc k) le rest ends = rw (append_assoc ts us rest)
      (sums_next k _ _ _ _ _ _ s (read_prod p (suc k) (omega (arith, length-append ts us)) (us ++ rest) (sums_front q rest ends.prod)) ∙ read_sums q k
      (omega (arith, length-append ts us)) rest ends)

  pub read_prod : {ts : List Token} {t : Term} → IsProd ts t → (n : ℕ) → length ts ≤ n → (rest : List Token) → ProdEnds rest → prod_by (level n) (ts ++ rest) ≡ Ok (t, rest)
  read_prod (product {ts = ts} {us = us} p q) n le rest ends = rw (append_assoc ts us rest)
      (prod_step (level n) _ _ _ (read_pow p n (omega (arith, length-append ts us)) (us ++ rest) (products_front q rest ends.power)) ∙ read_products q n
      (omega (arith, length-append ts us)) rest ends)

  pub read_products : {left v : Term} {us : List Token} → IsProducts left us v → (n : ℕ) → length us ≤ n → (rest : List Token) → ProdEnds rest
      → products_by (level n) left (us ++ rest) ≡ Ok (v, rest)
  read_products last_product n le rest ends = products_end (level n) _ rest ends.product
  read_products (next_product s p q) zero le rest ends = absurd (omega arith)
  read_products (next_product {ts = ts} {us = us} s p q) (suc k) le rest ends = rw (append_assoc ts us rest)
      (products_next k _ _ _ _ _ _ s (read_pow p (suc k) (omega (arith, length-append ts us)) (us ++ rest) (products_front q rest ends.power)) ∙ read_products q k
      (omega (arith, length-append ts us)) rest ends)

  pub read_pow : {ts : List Token} {t : Term} → IsPow ts t → (n : ℕ) → length ts ≤ n → (rest : List Token) → first (is_fixed fixed.Power) rest ≡ None
      → pow_by (level n) (ts ++ rest) ≡ Ok (t, rest)
  read_pow (base p) n le rest ends = pow_step (level n) _ _ _ (read_unary p n le rest) ∙ power_ends (level n) _ rest ends
  read_pow (power {ts = ts} {us = us} p q) zero le rest ends = absurd (omega (arith, length-append ts (tokens.Fixed fixed.Power ∷ us)))
  read_pow (power {ts = ts} {us = us} p q) (suc k) le rest ends = rw (append_assoc ts (tokens.Fixed fixed.Power ∷ us) rest)
      (pow_step (level (suc k)) _ _ _ (read_unary p (suc k) (omega (arith, length-append ts (tokens.Fixed fixed.Power ∷ us))) (tokens.Fixed fixed.Power ∷ us ++ rest))
      ∙ power_next k _ _ _ _ (read_pow q k (omega (arith, length-append ts (tokens.Fixed fixed.Power ∷ us))) rest ends))

  pub read_unary : {ts : List Token} {t : Term} → IsUnary ts t → (n : ℕ) → length ts ≤ n → (rest : List Token) → unary_by (level n) (ts ++ rest) ≡ Ok (t, rest)
  read_unary (negative p) zero le rest = absurd (omega arith)
  read_unary (negative p) (suc k) le rest = negative_step k _ _ _ (read_unary p k (omega arith) rest)
  read_unary (positive p) zero le rest = absurd (omega arith)
  read_unary (positive p) (suc k) le rest = positive_step k _ _ _ (read_unary p k (omega arith) rest)
  read_unary (prim p) n le rest = read_prim p n le rest

  pub read_prim : {ts : List Token} {t : Term} → IsPrim ts t → (n : ℕ) → length ts ≤ n → (rest : List Token) → unary_by (level n) (ts ++ rest) ≡ Ok (t, rest)
  read_prim int n le rest = int_step (level n) _ rest
  read_prim text n le rest = text_step (level n) _ rest
  read_prim attribute n le rest = attribute_step (level n) _ _ rest
  read_prim (group p) zero le rest = absurd (omega arith)
  read_prim (group {ts = ts} p) (suc k) le rest = rw (append_assoc ts (one fixed.Close) rest)
      (group_step k _ _ _ (inside_step k _ _ _ (read_term p k (omega (arith, length-append ts (one fixed.Close))) (tokens.Fixed fixed.Close ∷ rest) (close_ends rest).conj.term)))
  read_prim (function p) n le rest = read_function p n le rest
  read_prim (aggregate p) n le rest = read_aggregate p n le rest

  read_function : {ts : List Token} {t : Term} → IsFunction ts t → (n : ℕ) → length ts ≤ n → (rest : List Token) → unary_by (level n) (ts ++ rest) ≡ Ok (t, rest)
  read_function (abs p) zero le rest = absurd (omega arith)
  read_function (abs {ts = ts} p) (suc k) le rest = rw (append_assoc ts (one fixed.Close) rest)
      (abs_step (level (suc k)) _ _ _ (inside_step k _ _ _
      (read_term p k (omega (arith, length-append ts (one fixed.Close))) (tokens.Fixed fixed.Close ∷ rest) (close_ends rest).conj.term)))
  read_function (mod_ p q) zero le rest = absurd (omega arith)
  read_function (mod_ {ts = ts} {us = us} p q) (suc k) le rest =
      let long = length-append ts (tokens.Fixed fixed.Comma ∷ us ++ one fixed.Close) in
      let short = length-append us (one fixed.Close) in
      rw (append_assoc ts (tokens.Fixed fixed.Comma ∷ us ++ one fixed.Close) rest, append_assoc us (one fixed.Close) rest)
      (mod_step k _ _ _ _ _ (read_term p k (omega (arith, long, short)) _ (comma_ends _))
      (inside_step k _ _ _ (read_term q k (omega (arith, long, short)) (tokens.Fixed fixed.Close ∷ rest) (close_ends rest).conj.term)))
  read_function (concat p q) zero le rest = absurd (omega arith)
  read_function (concat {ts = ts} {us = us} p q) (suc k) le rest =
      let long = length-append ts (tokens.Fixed fixed.Comma ∷ us ++ one fixed.Close) in
      let short = length-append us (one fixed.Close) in
      rw (append_assoc ts (tokens.Fixed fixed.Comma ∷ us ++ one fixed.Close) rest, append_assoc us (one fixed.Close) rest)
      (concat_step k _ _ _ _ _ (read_term p k (omega (arith, long, short)) _ (comma_ends _))
      (inside_step k _ _ _ (read_term q k (omega (arith, long, short)) (tokens.Fixed fixed.Close ∷ rest) (close_ends rest).conj.term)))

  read_aggregate : {ts : List Token} {t : Term} → IsAggregate ts t → (n : ℕ) → length ts ≤ n → (rest : List Token) → unary_by (level n) (ts ++ rest) ≡ Ok (t, rest)
  read_aggregate (aggregate_of a p b w) zero le rest = absurd (omega arith)
  read_aggregate (aggregate_of {ts = ts} {bs = bs} {ws = ws} a p b w) (suc k) le rest =
      let long = length-append ts (bs ++ (ws ++ one fixed.Close)) in
      let middle = length-append bs (ws ++ one fixed.Close) in
      let short = length-append ws (one fixed.Close) in
      let ends = where_close w rest in
      rw (append_assoc ts (bs ++ (ws ++ one fixed.Close)) rest, append_assoc bs (ws ++ one fixed.Close) rest, append_assoc ws (one fixed.Close) rest)
      (aggregate_step k _ _ _ _ _ _ _ _ _ a
      (read_term p k (omega (arith, long, middle, short)) (bs ++ (ws ++ tokens.Fixed fixed.Close ∷ rest)) (by_front b _ ends.term))
      (read_by b k (omega (arith, long, middle, short)) (ws ++ tokens.Fixed fixed.Close ∷ rest) ends)
      (read_where w k (omega (arith, long, middle, short)) rest))

  read_by : {bs : List Token} {by : List Term} → IsBy bs by → (k : ℕ) → length bs ≤ k → (rest : List Token) → GroupEnds rest → by_by (level (suc k)) (bs ++ rest) ≡ Ok (by, rest)
  read_by ungrouped k le rest ends = ungrouped_step k rest ends.by
  read_by (by_terms p) k le rest ends = by_step k _ _ _ (read_terms p k (omega arith) [] rest ends)

  read_terms : {us : List Token} {ts : List Term} → IsTerms us ts → (n : ℕ) → length us ≤ n → (before : List Term) (rest : List Token) → GroupEnds rest
      → terms_by (level n) before (us ++ rest) ≡ Ok (before ++ ts, rest)
  read_terms (last_term p) n le before rest ends = terms_end (level n) before _ _ rest (read_term p n le rest ends.term) ends.comma
  read_terms (next_term {ts = ts} {us = us} p q) zero le before rest ends = absurd (omega (arith, length-append ts (tokens.Fixed fixed.Comma ∷ us)))
  read_terms (next_term {ts = ts} {us = us} {t = t} {more = more} p q) (suc k) le before rest ends =
      let long = length-append ts (tokens.Fixed fixed.Comma ∷ us) in
      rw (append_assoc ts (tokens.Fixed fixed.Comma ∷ us) rest)
      (terms_next k before t _ _ (read_term p (suc k) (omega (arith, long)) (tokens.Fixed fixed.Comma ∷ us ++ rest) (comma_ends (us ++ rest)))
      ∙ read_terms q k (omega (arith, long)) (before ++ t ∷ []) rest ends ∙ ap (λ ys. Ok (ys, rest)) (append_assoc before (t ∷ []) more))

  read_where : {ws : List Token} {q : Qual} → IsWhere ws q → (k : ℕ) → length ws ≤ k → (rest : List Token)
      → inner_where_by (level (suc k)) (ws ++ tokens.Fixed fixed.Close ∷ rest) ≡ Ok (q, tokens.Fixed fixed.Close ∷ rest)
  read_where unqualified k le rest = unqualified_step (level (suc k)) rest
  read_where (qualified p) k le rest = qualified_step k _ _ _ (read_qual p k (omega arith) (tokens.Fixed fixed.Close ∷ rest) (close_ends rest))

  through_term : {ts : List Token} {t : Term} → IsTerm ts t → (n : ℕ) → length ts ≤ n → (rest : List Token) → TermEnds rest
      → operand_by (level n) (ts ++ rest) ≡ compare_by (level n) t rest
  through_term (sum {ts = ts} {us = us} p q) n le rest ends = rw (append_assoc ts us rest)
      (through_prod p n (omega (arith, length-append ts us)) (us ++ rest) (sums_front q rest ends.prod) ∙ term_through (level n) _ _ _ _
      (read_sums q n (omega (arith, length-append ts us)) rest ends))

  through_prod : {ts : List Token} {t : Term} → IsProd ts t → (n : ℕ) → length ts ≤ n → (rest : List Token) → ProdEnds rest
      → operand_by (level n) (ts ++ rest) ≡ finish_prod (level n) t rest
  through_prod (product {ts = ts} {us = us} p q) n le rest ends = rw (append_assoc ts us rest)
      (through_pow p n (omega (arith, length-append ts us)) (us ++ rest) (products_front q rest ends.power) ∙ prod_through (level n) _ _ _ _
      (read_products q n (omega (arith, length-append ts us)) rest ends))

  through_pow : {ts : List Token} {t : Term} → IsPow ts t → (n : ℕ) → length ts ≤ n → (rest : List Token) → first (is_fixed fixed.Power) rest ≡ None
      → operand_by (level n) (ts ++ rest) ≡ finish_pow (level n) t rest
  through_pow (base p) n le rest ends = through_unary p n le rest ∙ pow_through (level n) _ _ _ _ (power_ends (level n) _ rest ends)
  through_pow (power {ts = ts} {us = us} p q) zero le rest ends = absurd (omega (arith, length-append ts (tokens.Fixed fixed.Power ∷ us)))
  through_pow (power {ts = ts} {us = us} p q) (suc k) le rest ends = rw (append_assoc ts (tokens.Fixed fixed.Power ∷ us) rest)
      (through_unary p (suc k) (omega (arith, length-append ts (tokens.Fixed fixed.Power ∷ us))) (tokens.Fixed fixed.Power ∷ us ++ rest)
      ∙ pow_through (level (suc k)) _ _ _ _ (power_next k _ _ _ _ (read_pow q k (omega (arith, length-append ts (tokens.Fixed fixed.Power ∷ us))) rest ends)))

  through_unary : {ts : List Token} {t : Term} → IsUnary ts t → (n : ℕ) → length ts ≤ n → (rest : List Token) → operand_by (level n) (ts ++ rest) ≡ finish (level n) t rest
  through_unary (negative p) zero le rest = absurd (omega arith)
  through_unary (negative p) (suc k) le rest = plain_through (level (suc k)) _ _ _ refl refl (negative_step k _ _ _ (read_unary p k (omega arith) rest))
  through_unary (positive p) zero le rest = absurd (omega arith)
  through_unary (positive p) (suc k) le rest = plain_through (level (suc k)) _ _ _ refl refl (positive_step k _ _ _ (read_unary p k (omega arith) rest))
  through_unary (prim p) n le rest = through_prim p n le rest

  through_prim : {ts : List Token} {t : Term} → IsPrim ts t → (n : ℕ) → length ts ≤ n → (rest : List Token) → operand_by (level n) (ts ++ rest) ≡ finish (level n) t rest
  through_prim int n le rest = plain_through (level n) _ _ _ refl refl (int_step (level n) _ rest)
  through_prim text n le rest = plain_through (level n) _ _ _ refl refl (text_step (level n) _ rest)
  through_prim attribute n le rest = plain_through (level n) _ _ _ refl refl (attribute_step (level n) _ _ rest)
  through_prim (group p) zero le rest = absurd (omega arith)
  through_prim (group {ts = ts} p) (suc k) le rest = rw (append_assoc ts (one fixed.Close) rest)
      (group_through k _ _ rest (through_term p k (omega (arith, length-append ts (one fixed.Close))) (tokens.Fixed fixed.Close ∷ rest) (close_ends rest).conj.term ∙ no_comparison
      (level k) _ rest))
  through_prim (function p) n le rest = plain_through (level n) _ _ _ (function_front p rest).0 (function_front p rest).1 (read_function p n le rest)
  through_prim (aggregate p) n le rest = plain_through (level n) _ _ _ (aggregate_front p rest).0 (aggregate_front p rest).1 (read_aggregate p n le rest)

  pub read_qual : {ts : List Token} {q : Qual} → IsQual ts q → (n : ℕ) → length ts ≤ n → (rest : List Token) → QualEnds rest → mixed_by (level n) (ts ++ rest) ≡ Ok (Whole q, rest)
  read_qual (choice {us = vs} (conjunction {ts = ts} {us = us} p a) o) n le rest ends = rw (append_assoc (ts ++ us) vs rest, append_assoc ts us (vs ++ rest))
      (mixed_step (level n) _ _ _ _ _ _ _
      (read_neg p n (omega (arith, length-append (ts ++ us) vs, length-append ts us)) (us ++ (vs ++ rest)) (ands_front a (vs ++ rest) (ors_front o rest ends.conj).term))
      (read_ands a n (omega (arith, length-append (ts ++ us) vs, length-append ts us)) (vs ++ rest) (ors_front o rest ends.conj))
      (read_ors o n (omega (arith, length-append (ts ++ us) vs, length-append ts us)) rest ends))

  read_ors : {left q : Qual} {us : List Token} → IsOrs left us q → (n : ℕ) → length us ≤ n → (rest : List Token) → QualEnds rest → ors_by (level n) left (us ++ rest) ≡ Ok (q, rest)
  read_ors last_or n le rest ends = ors_end (level n) _ rest ends.or
  read_ors (next_or p o) zero le rest ends = absurd (omega arith)
  read_ors (next_or {ts = ts} {us = us} p o) (suc k) le rest ends = rw (append_assoc ts us rest)
      (ors_next k _ _ _ _ (read_conj p (suc k) (omega (arith, length-append ts us)) (us ++ rest) (ors_front o rest ends.conj)) ∙ read_ors o k
      (omega (arith, length-append ts us)) rest ends)

  read_conj : {ts : List Token} {q : Qual} → IsConj ts q → (n : ℕ) → length ts ≤ n → (rest : List Token) → ConjEnds rest → conj_by (level n) (ts ++ rest) ≡ Ok (q, rest)
  read_conj (conjunction {ts = ts} {us = us} p a) n le rest ends = rw (append_assoc ts us rest)
      (conj_step (level n) _ _ _ (neg_step (level n) _ _ _ (read_neg p n (omega (arith, length-append ts us)) (us ++ rest) (ands_front a rest ends.term)))
      ∙ read_ands a n (omega (arith, length-append ts us)) rest ends)

  read_ands : {left q : Qual} {us : List Token} → IsAnds left us q → (n : ℕ) → length us ≤ n → (rest : List Token) → ConjEnds rest
      → ands_by (level n) left (us ++ rest) ≡ Ok (q, rest)
  read_ands last_and n le rest ends = ands_end (level n) _ rest ends.and
  read_ands (next_and p a) zero le rest ends = absurd (omega arith)
  read_ands (next_and {ts = ts} {us = us} p a) (suc k) le rest ends = rw (append_assoc ts us rest)
      (ands_next k _ _ _ _ (neg_step (level (suc k)) _ _ _ (read_neg p (suc k) (omega (arith, length-append ts us)) (us ++ rest) (ands_front a rest ends.term)))
      ∙ read_ands a k (omega (arith, length-append ts us)) rest ends)

  read_neg : {ts : List Token} {q : Qual} → IsNeg ts q → (n : ℕ) → length ts ≤ n → (rest : List Token) → TermEnds rest → operand_by (level n) (ts ++ rest) ≡ Ok (Whole q, rest)
  read_neg (not_ p) zero le rest ends = absurd (omega arith)
  read_neg (not_ p) (suc k) le rest ends = not_step k _ _ _ (neg_step (level k) _ _ _ (read_neg p k (omega arith) rest ends))
  read_neg (grouped p) zero le rest ends = absurd (omega arith)
  read_neg (grouped {ts = ts} p) (suc k) le rest ends = rw (append_assoc ts (one fixed.Close) rest)
      (grouped_step k _ _ _ (read_qual p k (omega (arith, length-append ts (one fixed.Close))) (tokens.Fixed fixed.Close ∷ rest) (close_ends rest)))
  read_neg (compared {f = f} {ts = ts} {us = us} p c q) n le rest ends = rw (append_assoc ts (tokens.Fixed f ∷ us) rest)
      (through_term p n (omega (arith, length-append ts (tokens.Fixed f ∷ us))) (tokens.Fixed f ∷ us ++ rest) (comparison_ends c (us ++ rest))
      ∙ compare_next (level n) _ _ _ _ _ _ c (read_term q n (omega (arith, length-append ts (tokens.Fixed f ∷ us))) rest ends))
