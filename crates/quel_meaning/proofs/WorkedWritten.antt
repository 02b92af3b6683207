-- Computed: what statements have that are read.
use Rattle.std.proofs.Common.{refl}
use Rattle.std.specs.Prelude.{◌≡◌, ℕ, pos, true, false, List, [], ◌∷◌, Option, Some, None, codes}
use Rattle.calculus.specs.declared.operator.AggOp.TheVariants.{Count}
use Rattle.calculus.specs.declared.operator.CmpOp.TheVariants.{Eq}
use Rattle.calculus.specs.declared.statement.Item.TheVariants as item
use Rattle.calculus.specs.declared.statement.Qual.{Qual, True, Cmp}
use Rattle.calculus.specs.declared.statement.Statement.{Statement}
use Rattle.calculus.specs.declared.statement.Statement.TheVariants as statement
use Rattle.calculus.specs.declared.statement.Term.{Term, Int, Chars, Attr}
use Rattle.calculus.specs.Chars.{is_chars}
use Rattle.calculus.specs.Name.{is_name}
use Rattle.calculus.specs.Written.{aggregate, negated}
use Rattle.quel_meaning.specs.IsWritten.{is_written}

-- retrieve [into] (x = the term) where the qualification
abbrev retrieve : Option (List ℕ) → Term → Qual → Statement
retrieve into term qual = statement.Retrieve into (item.Set (codes "x") term ∷ []) qual []

-- a number of 64 bits, and one more
abbrev greatest : Term
greatest = Int (pos 9223372036854775807)

abbrev too_great : Term
too_great = Int (pos 9223372036854775808)

-- count(e.a where e.a = the term)
abbrev counted : Term → Term
counted term = aggregate (record { op = Count; arg = Attr (codes "e") (codes "a"); by = []; qual = Cmp Eq (Attr (codes "e") (codes "a")) term })

record Facts : Type 0 where
  a_number : is_written (retrieve None greatest True) ≡ true
  no_number : is_written (retrieve None too_great True) ≡ false
  a_text : is_written (retrieve None (Chars (codes "a*")) True) ≡ true
  no_text : is_written (retrieve None (Chars (10 ∷ [])) True) ≡ false
  in_an_aggregate : is_written (retrieve None (counted greatest) True) ≡ true
  not_in_an_aggregate : is_written (retrieve None (counted too_great) True) ≡ false
  not_where : is_written (retrieve None greatest (negated (Cmp Eq greatest too_great))) ≡ false
  a_result : is_written (retrieve (Some (codes "w")) greatest True) ≡ true
  no_name_of_a_result : is_written (retrieve (Some (codes "W")) greatest True) ≡ false
  no_target : is_written (statement.Replace (codes "e") [] True) ≡ false
  all_rights : is_written (statement.Permit 15 (codes "e") [] None True) ≡ true
  no_right : is_written (statement.Permit 16 (codes "e") [] None True) ≡ false
  no_user : is_written (statement.Permit 1 (codes "e") [] (Some (codes "9")) True) ≡ false

facts : Facts
unfolding is_written is_chars is_name
facts = record { a_number = refl; no_number = refl; a_text = refl; no_text = refl; in_an_aggregate = refl; not_in_an_aggregate = refl; not_where = refl; a_result = refl; no_name_of_a_result = refl; no_target = refl; all_rights = refl; no_right = refl; no_user = refl }
