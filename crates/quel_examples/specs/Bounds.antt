-- Texts whose tokens reach or pass the bounds on a statement.
use Rattle.std.specs.Prelude.{ℕ, List, zero, suc, [], ◌∷◌, ◌++◌, codes}
use Rattle.calculus.specs.declared.operator.CmpOp.TheVariants as comparisons
use Rattle.calculus.specs.declared.schema.Spec.TheVariants as structures
use Rattle.calculus.specs.declared.statement.Qual.TheVariants as quals
use Rattle.calculus.specs.declared.statement.Statement.{Statement}
use Rattle.calculus.specs.declared.statement.Statement.TheVariants as statements
use Rattle.quel_grammar.specs.Next.{Next}
use Rattle.quel_grammar.specs.Next.Next.{Read, Syntax}
use Rattle.quel_examples.specs.Words.{int}

-- a text so many times
abbrev pub repeated : ℕ → List ℕ → List ℕ
repeated zero text = []
repeated (suc n) text = text ++ repeated n text

-- a comparison in so many parentheses, behind a whole statement
abbrev pub nested : ℕ → List ℕ
nested n = codes "delete e where " ++ (repeated n (codes "(") ++ (codes "1 = 1" ++ repeated n (codes ")")))

-- a list of so many names more than one
abbrev pub printed : ℕ → List ℕ
printed n = codes "print x" ++ repeated n (codes ",x")

-- modify r to hash on a,b,c,d,e,f
abbrev hashed : Statement
hashed = statements.Modify (codes "r") structures.Hash (codes "a" ∷ codes "b" ∷ codes "c" ∷ codes "d" ∷ codes "e" ∷ codes "f" ∷ [])

-- what is within the bounds, and what is past them
pub record Bounds (Is : List ℕ → ℕ → Next → Type 0) : Type 0 where
  pub fifty_parentheses : Is (nested 50) 0 (Read (statements.Delete (codes "e") (quals.Cmp comparisons.Eq (int 1) (int 1))) 120)
  pub the_51st_parenthesis : Is (nested 51) 0 (Syntax 65)
  pub six_keys : Is (codes "modify r to hash on a,b,c,d,e,f") 0 (Read hashed 31)
  pub the_seventh_key : Is (codes "index on r is n (a,b,c,d,e,f,g)") 0 (Syntax 29)
  pub the_501st_token : Is (printed 250) 0 (Syntax 505)
