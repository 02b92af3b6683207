use Rattle.std.proofs.Common.{◌≡◌, ◌==◌, ℕ, Bool, true, false, refl, Option, Some, None, List, map, ap, sym, ◌∙◌}
use Rattle.page_chain.specs.Lists.{◌>>=◌, when}
use Rattle.tree_words.specs.Codec.{Codec}
use Rattle.stored_database.specs.Parts.{Part}
use Rattle.stored_database.proofs.Reading.{number_itself, same_number}
use Rattle.catalog_rows.specs.Shown.{part_in}
use Rattle.catalog_read.specs.Rows.{numbered_in, tree_in}
use Rattle.catalog_read.specs.declared.rows.TreeKey.{TreeKey}
use Rattle.catalog_read.proofs.numbered.numbered_tree.Goals as goal

-- what is found of the part's tree
found_in : {A : Type 0} (codec : ℕ → Codec A) (number : A → ℕ) (parts : List Part) (p : Part) (t : TreeKey) (o : Option A) → t ≡ record { file = p.file; sort = p.sort; number = p.number }
    → o ≡ tree_in codec parts t.file t.sort t.number → (o >>= (λ x. when (number x == p.number) x)) ≡ numbered_in codec number parts p
found_in codec number parts p t o key is =
    ap (λ o. o >>= (λ x. when (number x == p.number) x)) (is ∙ ap (λ (t : TreeKey). tree_in codec parts t.file t.sort t.number) key)

-- the tree has the part's number
has_number : {A : Type 0} (number : A → ℕ) (x : A) (found n : ℕ) → found ≡ number x → found ≡ n → Some x ≡ when (number x == n) x
has_number number x found n is same = ap (λ b. when b x) (sym (number_itself n) ∙ ap (λ m. m == n) (sym same ∙ is))

-- it has another
has_other : {A : Type 0} (number : A → ℕ) (x : A) (found n : ℕ) → found ≡ number x → (found ≡ n → ⊥) → None ≡ when (number x == n) x
has_other number x found n is other = go (number x == n) refl
  where
    go : (b : Bool) → (number x == n) ≡ b → None ≡ when b x
    go true e = absurd (other (is ∙ same_number (number x) n e))
    go false e = refl

pub returns-then-number-part : goal.returns-then-number-part
returns-then-number-part g c =
    let number = g.T.HasNumber.number in
    has_number number c.in-Ok-Some.value c.number.result c.args.part.now.number c.number.ensures c.if-number-part.true
    ∙ ap (λ o. o >>= (λ x. when (number x == c.args.part.now.number) x)) (sym c.in-Ok-Some.field-0-is)
    ∙ found_in g.T.Spelled.codec number (map part_in c.args.rows.now.parts) (part_in c.args.part.now) c.tree_of_part.result c.in-Ok-Some.field-0 c.tree_of_part.ensures c.in-Ok-Some.ensures

pub returns-else-number-part : goal.returns-else-number-part
returns-else-number-part g c =
    let number = g.T.HasNumber.number in
    has_other number c.in-Ok-Some.value c.number.result c.args.part.now.number c.number.ensures c.if-number-part.false
    ∙ ap (λ o. o >>= (λ x. when (number x == c.args.part.now.number) x)) (sym c.in-Ok-Some.field-0-is)
    ∙ found_in g.T.Spelled.codec number (map part_in c.args.rows.now.parts) (part_in c.args.part.now) c.tree_of_part.result c.in-Ok-Some.field-0 c.tree_of_part.ensures c.in-Ok-Some.ensures

pub returns-in-Ok-None : goal.returns-in-Ok-None
returns-in-Ok-None g c =
    ap (λ o. o >>= (λ x. when (g.T.HasNumber.number x == c.args.part.now.number) x)) (sym c.in-Ok-None.field-0-is)
    ∙ found_in g.T.Spelled.codec g.T.HasNumber.number (map part_in c.args.rows.now.parts) (part_in c.args.part.now) c.tree_of_part.result c.in-Ok-None.field-0 c.tree_of_part.ensures c.in-Ok-None.ensures
