-- Rules and permits that are new have a number of their own.
use Rattle.std.proofs.Common.{◌≡◌, sym, ap, ◌∙◌, true≢false, ℕ, true, not, List, map, filter}
use Rattle.std.specs.Ordering.{is_eq, nat_cmp}
use Rattle.std.specs.declared.cmp.Ordering.TheVariants.{Equal}
use Rattle.std.specs.Prelude.{nat_eq}
use Rattle.calculus.specs.declared.query.RelKey.{RelKey}
use Rattle.calculus.specs.Keys.{same_key, key_cmp, numbered_cmp}
use Rattle.calculus.specs.Lists.{has_number}
use Rattle.stored_database.proofs.Members.{IsIn, in_map, in_filter}
use Rattle.stored_database.proofs.Orders.{key_exact, same_key_turned}
use Rattle.stored_database.proofs.PrintedColumns.{then_equal}
use Rattle.stored_database.proofs.PrintedEntries.{nat_equal}
use Rattle.stored_database.proofs.Reading.{number_itself}
use Rattle.stored_database.proofs.Moved.{some_any}

-- what has a number that none on its relation has is equal to none
pub number_is_fresh : {X : Type 0} (number : X → ℕ) (ps : List (RelKey × X)) (rel : RelKey) (x : X)
    → not (has_number (map number (map (λ p. p.1) (filter (λ p. same_key p.0 rel) ps))) (number x)) ≡ true
    → (p : RelKey × X) → IsIn p ps → numbered_cmp number (rel, x) p ≡ Equal → ⊥
number_is_fresh {X} number ps rel x new p at e =
    let parts = then_equal (key_cmp rel p.0) (nat_cmp (number x) (number p.1)) (ap is_eq e) in
    let key : same_key p.0 rel ≡ true = same_key_turned rel p.0 (sym (key_exact rel p.0) ∙ parts.0) in
    let there = in_map number (map (λ p. p.1) (filter (λ p. same_key p.0 rel) ps)) p.1
    (in_map (λ (p : RelKey × X). p.1) (filter (λ p. same_key p.0 rel) ps) p (in_filter (λ p. same_key p.0 rel) ps p at key)) in
    true≢false (sym new ∙ some_any (λ m. nat_eq m (number x)) (map number (map (λ p. p.1) (filter (λ p. same_key p.0 rel) ps))) (number p.1) there
    (ap (nat_eq (number p.1)) (nat_equal (number x) (number p.1) parts.1) ∙ number_itself (number p.1)))
