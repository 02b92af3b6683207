-- What a statement asks for.
use Rattle.std.proofs.Common.{◌≡◌, refl, ap, ◌∙◌, subst, ℕ, nat_eq, nat_lt, Bool, true, false, ◌||◌, List, [], ◌∷◌, Some, None, Result, Ok, Err}
use Rattle.std.specs.List.{list_all}
use Rattle.std.proofs.lemmas.Bool.{eqb-true}
use Rattle.calculus.specs.declared.request.Checked.{Checked}
use Rattle.calculus.specs.declared.statement.Statement.{Statement}
use Rattle.calculus.specs.declared.statement.Statement.TheVariants as statement
use Rattle.calculus.specs.Database.{Db}
use Rattle.calculus.specs.Lists.{has_number}
use Rattle.calculus.specs.Who.{Asker, AsUser}
use Rattle.quel_meaning.specs.Meaning.{Resolving, checked_permitted, permitted_tree, tree_if_permitted, checked_tree_by, checked_tree, checked_outcome, is_range, meaning_by}
use Rattle.quel_meaning.specs.Purpose.{refusal_numbers}
use Rattle.quel_meaning.specs.Ranges.{Ranges}
use Rattle.quel_meaning.specs.Resolved.{resolved}
use Rattle.quel_meaning.specs.State.{State}
use Rattle.quel_meaning.proofs.Accepted.{refused_by}
use Rattle.quel_meaning.proofs.Each.{left, right}

-- ---- the numbers that refuse

-- the number of a refusal for which no row is looked at
abbrev is_early : ℕ → Bool
is_early n = nat_lt n 20 || has_number (23 ∷ 26 ∷ 28 ∷ []) n

one_of : (ns : List ℕ) (n : ℕ) → list_all is_early ns ≡ true → has_number ns n ≡ true → is_early n ≡ true
one_of [] n h k = absurd (cc k)
one_of (m ∷ ns) n h k = go (one_of ns n (right (is_early m) _ h)) (nat_eq m n) refl k
  where
    go : (has_number ns n ≡ true → is_early n ≡ true) → (b : Bool) → nat_eq m n ≡ b → (b || has_number ns n) ≡ true → is_early n ≡ true
    go later true e k = subst (λ x. is_early x ≡ true) (eqb-true m n e) (left (is_early m) _ h)
    go later false e k = later k

all_early : (s : Statement) → list_all is_early (10 ∷ 11 ∷ 12 ∷ refusal_numbers s) ≡ true
unfolding refusal_numbers
all_early (statement.Range var rel) = refl
all_early (statement.Retrieve None items qual sort) = refl
all_early (statement.Retrieve (Some name) items qual sort) = refl
all_early (statement.Append rel items qual) = refl
all_early (statement.Replace var items qual) = refl
all_early (statement.Delete var qual) = refl
all_early (statement.Create rel attrs) = refl
all_early (statement.Destroy rels) = refl
all_early (statement.DropPermits rel numbers) = refl
all_early (statement.DropRules rel numbers) = refl
all_early (statement.Modify rel to keys) = refl
all_early (statement.Index base name keys) = refl
all_early (statement.Print rels) = refl
all_early (statement.Help rel) = refl
all_early (statement.Copy rel columns from file) = refl
all_early (statement.View name items qual) = refl
all_early (statement.Permit ops var attrs user qual) = refl
all_early (statement.Rule var qual) = refl

pub refused_early : (db : Db) (asker : Asker) (ranges : Ranges) (s : Statement) (n : ℕ) → checked_tree db asker ranges s ≡ Err n → (nat_lt n 20 || has_number (23 ∷ 26 ∷ 28 ∷ []) n) ≡ true
unfolding checked_tree_by
refused_early db asker ranges s n e = go (resolved db asker.user ranges s) refl e
  where
    lacks : (tree : Checked) (permitted : Bool) → permitted_tree permitted tree ≡ Err n → is_early n ≡ true
    lacks tree true k = absurd (cc k)
    lacks tree false k = let same : 23 ≡ n = cc k in subst (λ m. is_early m ≡ true) same refl

    go : (r : Result Checked ℕ) → resolved db asker.user ranges s ≡ r → tree_if_permitted db asker r ≡ Err n → is_early n ≡ true
    go (Err m) f k = let same : m ≡ n = cc k in subst (λ x. is_early x ≡ true) same (one_of (10 ∷ 11 ∷ 12 ∷ refusal_numbers s) m (all_early s) (refused_by db asker.user ranges s m f))
    go (Ok tree) f k = lacks tree (checked_permitted db (AsUser asker) tree) k

-- ---- the trees

-- a tree that a statement asks for
pub record IsCheckedTree (resolved : Resolving) (db : Db) (asker : Asker) (ranges : Ranges) (s : Statement) (tree : Checked) : Type 0 where
  pub resolved_so : resolved db asker.user ranges s ≡ Ok tree
  pub permitted : checked_permitted db (AsUser asker) tree ≡ true

pub checked_so : (resolved : Resolving) (db : Db) (asker : Asker) (ranges : Ranges) (s : Statement) (tree : Checked)
    → checked_tree_by resolved db asker ranges s ≡ Ok tree → IsCheckedTree resolved db asker ranges s tree
unfolding checked_tree_by
checked_so resolved db asker ranges s tree e = go (resolved db asker.user ranges s) refl e
  where
    allowed : (t : Checked) → resolved db asker.user ranges s ≡ Ok t → (permitted : Bool) → checked_permitted db (AsUser asker) t ≡ permitted → permitted_tree permitted t ≡ Ok tree
        → IsCheckedTree resolved db asker ranges s tree
    allowed t f true p k = let same : t ≡ tree = cc k in record { resolved_so = f ∙ ap Ok same; permitted = subst (λ x. checked_permitted db (AsUser asker) x ≡ true) same p }
    allowed t f false p k = absurd (cc k)

    go : (r : Result Checked ℕ) → resolved db asker.user ranges s ≡ r → tree_if_permitted db asker r ≡ Ok tree → IsCheckedTree resolved db asker ranges s tree
    go (Err n) f k = absurd (cc k)
    go (Ok t) f k = allowed t f (checked_permitted db (AsUser asker) t) refl k

pub checked_tree_permitted : (resolved : Resolving) (db : Db) (asker : Asker) (ranges : Ranges) (s : Statement) (tree : Checked)
    → checked_tree_by resolved db asker ranges s ≡ Ok tree → checked_permitted db (AsUser asker) tree ≡ true
checked_tree_permitted resolved db asker ranges s tree e = (checked_so resolved db asker ranges s tree e).permitted

pub checked_resolved : (resolved : Resolving) (db : Db) (asker : Asker) (ranges : Ranges) (s : Statement) (tree : Checked)
    → checked_tree_by resolved db asker ranges s ≡ Ok tree → resolved db asker.user ranges s ≡ Ok tree
checked_resolved resolved db asker ranges s tree e = (checked_so resolved db asker ranges s tree e).resolved_so

-- ---- what statements mean by what they ask for

pub meaning_checked : (resolved : Resolving) (state : State) (asker : Asker) (s : Statement) → is_range s ≡ false
    → meaning_by resolved state asker s ≡ checked_outcome state asker (checked_tree_by resolved state.db asker state.ranges s)
unfolding meaning_by
meaning_checked resolved state asker (statement.Range var rel) h = absurd (cc h)
meaning_checked resolved state asker s h = refl
