-- The names of a whole statement are those of its two parts.
use Rattle.std.proofs.Common.{◌≡◌, refl, sym, ap, ◌∙◌, ℕ, List, ◌++◌, map, true, Some, None, is_some}
use Rattle.std.proofs.lemmas.List.{append-nil}
use Rattle.calculus.specs.declared.statement.Item.{Item}
use Rattle.calculus.specs.declared.statement.Qual.{Qual}
use Rattle.calculus.specs.declared.statement.Statement.{Statement}
use Rattle.calculus.specs.declared.statement.Statement.TheVariants as statement
use Rattle.quel_meaning.specs.Naming.{Mention, query_mentions, mentions, mention_refusal, first_number, name_refusal}
use Rattle.quel_meaning.specs.Scope.{Scope}
use Rattle.quel_meaning.specs.WrittenParts.{items_of, where_of}
use Rattle.quel_names.proofs.Numbers.{before_more, after_none}
use Rattle.quel_names.specs.Parts.{head, title_in}

-- the names in the target list and in the qualification
abbrev pub tail : Scope → Statement → List Mention
tail s stmt = query_mentions s (title_in stmt) (items_of stmt) (where_of stmt)

pub parted : (s : Scope) (stmt : Statement) → mentions s stmt ≡ head stmt ++ tail s stmt
unfolding mentions
parted s (statement.Range var rel) = refl
parted s (statement.Retrieve into items qual sort) = refl
parted s (statement.Append rel items qual) = refl
parted s (statement.Replace var items qual) = refl
parted s (statement.Delete var qual) = refl
parted s (statement.Create rel attrs) = refl
parted s (statement.Destroy rels) = sym (append-nil _)
parted s (statement.DropPermits rel numbers) = refl
parted s (statement.DropRules rel numbers) = refl
parted s (statement.Modify rel to keys) = sym (append-nil _)
parted s (statement.Index base name keys) = sym (append-nil _)
parted s (statement.Print rels) = sym (append-nil _)
parted s (statement.Help None) = refl
parted s (statement.Help (Some rel)) = refl
parted s (statement.Copy rel columns from file) = sym (append-nil _)
parted s (statement.View name items qual) = refl
parted s (statement.Permit ops var attrs user qual) = refl
parted s (statement.Rule var qual) = refl

-- where a name of the first part refuses, it is the statement's
pub head_is : (s : Scope) (stmt : Statement) → is_some (first_number (map (mention_refusal s) (head stmt))) ≡ true → first_number (map (mention_refusal s) (head stmt)) ≡ name_refusal s stmt
unfolding name_refusal
head_is s stmt h = before_more (mention_refusal s) (head stmt) (tail s stmt) h ∙ ap (λ ms. first_number (map (mention_refusal s) ms)) (sym (parted s stmt))

-- where none does, it is the second's
pub tail_is : (s : Scope) (stmt : Statement) → first_number (map (mention_refusal s) (head stmt)) ≡ None → first_number (map (mention_refusal s) (tail s stmt)) ≡ name_refusal s stmt
unfolding name_refusal
tail_is s stmt h = after_none (mention_refusal s) (head stmt) (tail s stmt) h ∙ ap (λ ms. first_number (map (mention_refusal s) ms)) (sym (parted s stmt))

-- ---- titles that are the same are mentioned the same

pub titled_same : (s : Scope) (f g : List ℕ → List Mention) → ((name : List ℕ) → f name ≡ g name) → (items : List Item) (qual : Qual) → query_mentions s f items qual ≡ query_mentions s g items qual
titled_same s f g e items qual = ap (λ (t : List ℕ → List Mention). query_mentions s t items qual) (λ j name. e name j)
