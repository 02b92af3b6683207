-- Lists that are read have an item, and the items of a target list are written.
use Rattle.std.proofs.Common.{◌≡◌, true, List, refl}
use Rattle.std.specs.List.{list_all}
use Rattle.calculus.specs.declared.statement.Item.{Item}
use Rattle.calculus.specs.declared.statement.Qual.{Qual}
use Rattle.calculus.specs.Name.{is_name}
use Rattle.calculus.specs.Lists.{is_any}
use Rattle.quel_grammar.specs.declared.token.Token.{Token}
use Rattle.quel_grammar.specs.Grammar.{IsList, IsWhere}
use Rattle.quel_grammar.specs.Grammar.IsList.{last, next}
use Rattle.quel_grammar.specs.Statements.{IsTarget}
use Rattle.quel_grammar.specs.Statements.IsTarget.{set_target, attribute_target, all_target}
use Rattle.quel_meaning.specs.IsWritten.{term_is_written, item_is_written, items_are_written, qual_is_written, query_is_written}
use Rattle.quel_meaning.proofs.Each.{Each, front_of, back_of, passed, and}
use Rattle.reading_laws.proofs.Spelled.{Spelled}
use Rattle.reading_laws.proofs.Constants.{term_safe, where_safe}

-- a list that is read has an item
pub list_any : {A : Type 0} {Is : List Token → A → Type 0} {ts : List Token} {xs : List A} → IsList Is ts xs → is_any xs ≡ true
list_any (last p) = refl
list_any (next p q) = refl

-- what holds of each item that is read of tokens that are spelled as they must be holds of each in a list
pub list_each : {A : Type 0} {Is : List Token → A → Type 0} (Q : A → Type 0) → ((ts : List Token) (x : A) → Is ts x → Spelled ts → Q x)
    → {ts : List Token} {xs : List A} → IsList Is ts xs → Spelled ts → Each Q xs
list_each Q f (last p) h = (f _ _ p h, tt)
list_each Q f (next {ts = ts} p q) h = (f _ _ p (front_of _ ts _ h), list_each Q f q (back_of _ ts _ h).1)

item_written : {ts : List Token} {i : Item} → IsTarget ts i → Spelled ts → item_is_written i ≡ true
item_written (set_target {n = n} {t = t} p) h = and (is_name n) (term_is_written t) h.0 (term_safe p h.1.1)
item_written attribute_target h = refl
item_written all_target h = refl

-- a target list that is read is written
pub items_written : {ts : List Token} {is : List Item} → IsList IsTarget ts is → Spelled ts → items_are_written is ≡ true
items_written {is = is} p h = and (is_any is) (list_all item_is_written is) (list_any p) (passed item_is_written is (list_each (λ i. item_is_written i ≡ true) (λ ts i. item_written) p h))

-- so are a target list and a qualification
pub query_written : {ts ws : List Token} {is : List Item} {q : Qual} → IsList IsTarget ts is → IsWhere ws q → Spelled ts → Spelled ws → query_is_written is q ≡ true
query_written {is = is} {q = q} p w h k = and (items_are_written is) (qual_is_written q) (items_written p h) (where_safe w k)
