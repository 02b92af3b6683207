-- The columns of a copied file are of forms that are ones.
use Rattle.std.proofs.Common.{◌≡◌, ℕ, true, List, refl}
use Rattle.std.specs.List.{list_all}
use Rattle.calculus.specs.declared.request.CopyForm.{CopyForm}
use Rattle.quel_grammar.specs.declared.token.Token.{Token}
use Rattle.quel_grammar.specs.Grammar.{IsList}
use Rattle.quel_grammar.specs.Statements.{IsCopyForm, IsColumn}
use Rattle.quel_grammar.specs.Statements.IsCopyForm.{bytes1, bytes2, bytes4, wide, to_tab, to_newline, to_blank, to_comma, to_colon}
use Rattle.quel_grammar.specs.Statements.IsColumn.{column}
use Rattle.quel_meaning.specs.Columns.{is_copy_form}
use Rattle.quel_meaning.proofs.Each.{passed}
use Rattle.reading_laws.proofs.Spelled.{Spelled}
use Rattle.reading_laws.proofs.Attributes.{width_stands}
use Rattle.reading_laws.proofs.Items.{list_each}

form_stands : {ts : List Token} {form : CopyForm} → IsCopyForm ts form → is_copy_form form ≡ true
form_stands bytes1 = refl
form_stands bytes2 = refl
form_stands bytes4 = refl
form_stands (wide {digits = digits} h) = width_stands digits h
form_stands to_tab = refl
form_stands to_newline = refl
form_stands to_blank = refl
form_stands to_comma = refl
form_stands to_colon = refl

column_stands : {ts : List Token} {c : List ℕ × CopyForm} → IsColumn ts c → Spelled ts → is_copy_form c.1 ≡ true
column_stands (column p) h = form_stands p

-- the columns that are read are of forms that are ones
pub forms_written : {ts : List Token} {columns : List (List ℕ × CopyForm)} → IsList IsColumn ts columns → Spelled ts → list_all (λ c. is_copy_form c.1) columns ≡ true
forms_written p h = passed (λ (c : List ℕ × CopyForm). is_copy_form c.1) _ (list_each (λ (c : List ℕ × CopyForm). is_copy_form c.1 ≡ true) (λ ts c. column_stands) p h)
