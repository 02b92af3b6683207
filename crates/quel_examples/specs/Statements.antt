-- Texts of which a statement is read.
use Rattle.std.specs.Prelude.{ℕ, List, [], ◌∷◌, true, None, Some, codes}
use Rattle.calculus.specs.declared.operator.AggOp.TheVariants as aggs
use Rattle.calculus.specs.declared.operator.ArithOp.TheVariants.{Sub, Mul, Pow, Mod}
use Rattle.calculus.specs.declared.operator.CmpOp.{CmpOp}
use Rattle.calculus.specs.declared.operator.CmpOp.TheVariants.{Eq, Ne, Lt, Gt, Ge}
use Rattle.calculus.specs.declared.schema.Spec.TheVariants as structures
use Rattle.calculus.specs.declared.statement.Item.TheVariants as items
use Rattle.calculus.specs.declared.statement.Qual.{Qual}
use Rattle.calculus.specs.declared.statement.Qual.TheVariants as quals
use Rattle.calculus.specs.declared.statement.Statement.{Statement}
use Rattle.calculus.specs.declared.statement.Statement.TheVariants as statements
use Rattle.calculus.specs.declared.statement.Term.{Term}
use Rattle.calculus.specs.declared.statement.Term.TheVariants as terms
use Rattle.calculus.specs.declared.value.Domain.TheVariants as domains
use Rattle.quel_grammar.specs.Next.{Next}
use Rattle.quel_grammar.specs.Next.Next.{Nothing, Read, Syntax}
use Rattle.quel_examples.specs.Words.{int}

-- e.NAME
abbrev of_e : List ℕ → Term
of_e name = terms.Attr (codes "e") name

-- the statement that prints x, which is this term
abbrev shows : Term → Statement
shows t = statements.Retrieve None (items.Set (codes "x") t ∷ []) quals.True []

-- e.NAME, compared with a number
abbrev e_is : CmpOp → List ℕ → ℕ → Qual
e_is op name n = quals.Cmp op (of_e name) (int n)

-- sum(e.s by e.d, e.k where e.s > 0)
abbrev sum_by : Term
sum_by = terms.Agg (record { op = aggs.Sum; arg = of_e (codes "s"); by = of_e (codes "d") ∷ of_e (codes "k") ∷ []; qual = e_is Gt (codes "s") 0 })

-- retrieve (e.d, x = sum(e.s by e.d, e.k where e.s > 0)) where e.d != 7 sort by x:d
abbrev aggregated : Statement
aggregated = statements.Retrieve None (items.Attr (codes "e") (codes "d") ∷ items.Set (codes "x") sum_by ∷ []) (e_is Ne (codes "d") 7) ((codes "x", true) ∷ [])

-- delete e where (e.a) = 1 and not (e.b < 2 or e.c >= 3) or e.d = 4
abbrev qualified : Statement
qualified = statements.Delete (codes "e") (quals.Or
    (quals.And (e_is Eq (codes "a") 1) (quals.Not (quals.Or (e_is Lt (codes "b") 2) (e_is Ge (codes "c") 3))))
    (e_is Eq (codes "d") 4))

-- what is read
pub record Statements (Is : List ℕ → ℕ → Next → Type 0) : Type 0 where
  pub white_space : Is (codes "  /* nothing */ ") 0 Nothing
  pub letters_of_both_cases : Is (codes "RANGE of E is Emp") 0 (Read (statements.Range (codes "e") (codes "emp")) 17)
  pub create : Is (codes "create g (a = i1)") 0 (Read (statements.Create (codes "g") ((codes "a", domains.I1) ∷ [])) 17)
  pub widths : Is (codes "create g (a = c255, b = c1)") 0 (Read (statements.Create (codes "g") ((codes "a", domains.C 255) ∷ (codes "b", domains.C 1) ∷ [])) 27)
  pub sums_group_from_the_left : Is (codes "retrieve (x = 1 - 2 - 3 * 4)") 0 (Read (shows (terms.Arith Sub (terms.Arith Sub (int 1) (int 2)) (terms.Arith Mul (int 3) (int 4)))) 28)
  pub powers_group_from_the_right : Is (codes "retrieve (x = 2 ** 3 ** 4)") 0 (Read (shows (terms.Arith Pow (int 2) (terms.Arith Pow (int 3) (int 4)))) 26)
  pub a_sign_binds_closest : Is (codes "retrieve (x = -2 ** +2)") 0 (Read (shows (terms.Arith Pow (terms.Neg (int 2)) (int 2))) 23)
  pub parentheses_leave_nothing : Is (codes "retrieve (x = ((1)))") 0 (Read (shows (int 1)) 20)
  pub functions : Is (codes "retrieve (x = abs(mod(e.a, 2)))") 0 (Read (shows (terms.Abs (terms.Arith Mod (of_e (codes "a")) (int 2)))) 31)
  pub functions_are_names : Is (codes "retrieve (abs.mod)") 0 (Read (statements.Retrieve None (items.Attr (codes "abs") (codes "mod") ∷ []) quals.True []) 18)
  pub aggregates : Is (codes "retrieve (e.d, x = sum(e.s by e.d, e.k where e.s > 0)) where e.d != 7 sort by x:d") 0 (Read aggregated 81)
  pub qualifications : Is (codes "delete e where (e.a) = 1 and not (e.b < 2 or e.c >= 3) or e.d = 4") 0 (Read qualified 65)
  pub results : Is (codes "retrieve unique into r (e.all)") 0 (Read (statements.Retrieve (Some (codes "r")) (items.All (codes "e") ∷ []) quals.True []) 30)
  pub operations_count_once : Is (codes "define permit delete, retrieve, delete of e (a) to all") 0 (Read (statements.Permit 9 (codes "e") (codes "a" ∷ []) None quals.True) 54)
  pub numbers : Is (codes "destroy permit r 4294967295, 1") 0 (Read (statements.DropPermits (codes "r") (4294967295 ∷ 1 ∷ [])) 30)
  pub all_numbers : Is (codes "destroy integrity r all") 0 (Read (statements.DropRules (codes "r") []) 23)
  pub keys : Is (codes "modify r to isam on a, b") 0 (Read (statements.Modify (codes "r") structures.Isam (codes "a" ∷ codes "b" ∷ [])) 24)
  pub the_longest_statement : Is (codes "help print e") 0 (Read (statements.Help None) 4)
  pub before_a_bad_byte : Is (codes "delete e #") 0 (Read (statements.Delete (codes "e") quals.True) 8)
  pub and_then_the_bad_byte : Is (codes "delete e #") 8 (Syntax 9)
