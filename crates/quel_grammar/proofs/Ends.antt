-- What doesn't go on with a term or a qualification.
use Rattle.std.proofs.Common.{◌≡◌, List, [], ◌∷◌, ◌++◌, None, refl}
use Rattle.calculus.specs.declared.operator.CmpOp.{CmpOp}
use Rattle.calculus.specs.declared.statement.Qual.{Qual}
use Rattle.calculus.specs.declared.statement.Term.{Term}
use Rattle.quel_grammar.specs.declared.token.Fixed.{Fixed}
use Rattle.quel_grammar.specs.declared.token.Fixed.TheVariants as fixed
use Rattle.quel_grammar.specs.declared.token.Token.{Token}
use Rattle.quel_grammar.specs.declared.token.Token.TheVariants as tokens
use Rattle.quel_grammar.specs.Grammar.{IsComparison, IsSums, IsProducts, IsBy, IsWhere, IsOrs, IsAnds}
use Rattle.quel_grammar.specs.Grammar.IsSumSign.{plus, minus}
use Rattle.quel_grammar.specs.Grammar.IsProductSign.{times, divide}
use Rattle.quel_grammar.specs.Grammar.IsComparison.{equal, not_equal, less, less_equal, greater, greater_equal}
use Rattle.quel_grammar.specs.Grammar.IsSums.{last_sum, next_sum}
use Rattle.quel_grammar.specs.Grammar.IsProducts.{last_product, next_product}
use Rattle.quel_grammar.specs.Grammar.IsBy.{ungrouped, by_terms}
use Rattle.quel_grammar.specs.Grammar.IsWhere.{unqualified, qualified}
use Rattle.quel_grammar.specs.Grammar.IsOrs.{last_or, next_or}
use Rattle.quel_grammar.specs.Grammar.IsAnds.{last_and, next_and}
use Rattle.quel_grammar.specs.Reading.{first, is_fixed}
use Rattle.quel_grammar.specs.Signs.{sum_sign, product_sign}

-- these tokens go on with no product
pub record ProdEnds (rest : List Token) : Type 0 where
  pub power : first (is_fixed fixed.Power) rest ≡ None
  pub product : first product_sign rest ≡ None

-- these tokens go on with no term
pub record TermEnds (rest : List Token) : Type 0 where
  pub prod : ProdEnds rest
  pub sum : first sum_sign rest ≡ None

-- these tokens go on with no conjunction
pub record ConjEnds (rest : List Token) : Type 0 where
  pub term : TermEnds rest
  pub and : first (is_fixed fixed.And) rest ≡ None

-- these tokens go on with no qualification
pub record QualEnds (rest : List Token) : Type 0 where
  pub conj : ConjEnds rest
  pub or : first (is_fixed fixed.Or) rest ≡ None

abbrev term_ends : (rest : List Token) → first (is_fixed fixed.Power) rest ≡ None → first product_sign rest ≡ None → first sum_sign rest ≡ None → TermEnds rest
term_ends rest e f g = record { prod = record { power = e; product = f }; sum = g }

abbrev qual_ends : (rest : List Token) → TermEnds rest → first (is_fixed fixed.And) rest ≡ None → first (is_fixed fixed.Or) rest ≡ None → QualEnds rest
qual_ends rest e f g = record { conj = record { term = e; and = f }; or = g }

pub nothing_ends : QualEnds []
nothing_ends = qual_ends _ (term_ends _ refl refl refl) refl refl

pub close_ends : (rest : List Token) → QualEnds (tokens.Fixed fixed.Close ∷ rest)
close_ends rest = qual_ends _ (term_ends _ refl refl refl) refl refl

pub sort_ends : (rest : List Token) → QualEnds (tokens.Fixed fixed.Sort ∷ rest)
sort_ends rest = qual_ends _ (term_ends _ refl refl refl) refl refl

pub comma_ends : (rest : List Token) → TermEnds (tokens.Fixed fixed.Comma ∷ rest)
comma_ends rest = term_ends _ refl refl refl

pub sums_front : {left v : Term} {us : List Token} → IsSums left us v → (rest : List Token) → ProdEnds rest → ProdEnds (us ++ rest)
sums_front last_sum rest ends = ends
sums_front (next_sum plus p q) rest ends = record { power = refl; product = refl }
sums_front (next_sum minus p q) rest ends = record { power = refl; product = refl }

pub products_front : {left v : Term} {us : List Token} → IsProducts left us v → (rest : List Token) → first (is_fixed fixed.Power) rest ≡ None
    → first (is_fixed fixed.Power) (us ++ rest) ≡ None
products_front last_product rest ends = ends
products_front (next_product times p q) rest ends = refl
products_front (next_product divide p q) rest ends = refl

pub ands_front : {left q : Qual} {us : List Token} → IsAnds left us q → (rest : List Token) → TermEnds rest → TermEnds (us ++ rest)
ands_front last_and rest ends = ends
ands_front (next_and p q) rest ends = term_ends _ refl refl refl

pub ors_front : {left q : Qual} {us : List Token} → IsOrs left us q → (rest : List Token) → ConjEnds rest → ConjEnds (us ++ rest)
ors_front last_or rest ends = ends
ors_front (next_or p q) rest ends = record { term = term_ends _ refl refl refl; and = refl }

pub comparison_ends : {f : Fixed} {op : CmpOp} → IsComparison f op → (rest : List Token) → TermEnds (tokens.Fixed f ∷ rest)
comparison_ends equal rest = term_ends _ refl refl refl
comparison_ends not_equal rest = term_ends _ refl refl refl
comparison_ends less rest = term_ends _ refl refl refl
comparison_ends less_equal rest = term_ends _ refl refl refl
comparison_ends greater rest = term_ends _ refl refl refl
comparison_ends greater_equal rest = term_ends _ refl refl refl

pub by_front : {bs : List Token} {by : List Term} → IsBy bs by → (rest : List Token) → TermEnds rest → TermEnds (bs ++ rest)
by_front ungrouped rest ends = ends
by_front (by_terms p) rest ends = term_ends _ refl refl refl

-- what stands behind the terms of an aggregate
pub record GroupEnds (rest : List Token) : Type 0 where
  pub term : TermEnds rest
  pub comma : first (is_fixed fixed.Comma) rest ≡ None
  pub by : first (is_fixed fixed.By) rest ≡ None

pub where_close : {ws : List Token} {q : Qual} → IsWhere ws q → (rest : List Token) → GroupEnds (ws ++ tokens.Fixed fixed.Close ∷ rest)
where_close unqualified rest = record { term = term_ends _ refl refl refl; comma = refl; by = refl }
where_close (qualified p) rest = record { term = term_ends _ refl refl refl; comma = refl; by = refl }
