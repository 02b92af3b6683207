-- A permit is made, or permits are dropped.
use Rattle.std.proofs.lemmas.Cmp.{tied_itself}
use Rattle.stored_database.proofs.Orders.{numbered_total}
use Rattle.std.proofs.Common.{◌≡◌, refl, inr, ℕ, ◌&&◌, List, [], ◌∷◌}
use Rattle.std.specs.declared.cmp.Ordering.{Ordering}
use Rattle.std.specs.declared.cmp.Ordering.TheVariants.{Equal}
use Rattle.calculus.specs.declared.query.RelKey.{RelKey}
use Rattle.calculus.specs.declared.change.DbChange.TheVariants as change
use Rattle.calculus.specs.declared.schema.Permit.{Permit}
use Rattle.calculus.specs.Change.{laid, adds_what_is_new}
use Rattle.calculus.specs.Keys.{same_key, numbered_cmp}
use Rattle.calculus.specs.Lists.{has_number, insert_by}
use Rattle.stored_database.specs.Printed.{entries_for}
use Rattle.stored_database.proofs.Members.{IsIn}
use Rattle.stored_database.proofs.PrintedTrees.{parts_are, trees_for, same_tree, grouped_trees, permit_tree}
use Rattle.stored_database.proofs.Sets.{in_insert}
use Rattle.stored_database.specs.ChangeLaws.{resizes}
use Rattle.stored_database.specs.Moves.{going, coming, nothing, dropped_permits}
use Rattle.stored_database.proofs.Lists.{among_rest, moved_three, moved_out, moved_in}
use Rattle.stored_database.proofs.Numbered.{number_is_fresh}
use Rattle.stored_database.proofs.Three.{entries_are_apart, attributes_are_apart, attributes_for, columns_are, trees_are_apart, permit_trees}
use Rattle.stored_database.proofs.Staying.{permit_tree_stays}
use Rattle.stored_database.proofs.Unmoved.{Moves, entries_same, attributes_same, view_trees_same, rule_trees_same}

module _ (rel : RelKey) (made : Permit) where
  abbrev by_number : RelKey × Permit → RelKey × Permit → Ordering
  by_number = numbered_cmp (λ (p : Permit). p.number)

  pub permit : Moves (change.Permit rel made)
  unfolding laid going coming entries_for adds_what_is_new resizes
  permit db f after stands new_allowed lawful agree = record {
    gone_attributes = [];
    come_attributes = attributes_for after (record nothing { permits = (rel, made) ∷ [] });
    gone_trees = [];
    come_trees = trees_for after (record nothing { permits = (rel, made) ∷ [] });
    gone_columns_are = refl;
    come_columns_are = columns_are after (record nothing { permits = (rel, made) ∷ [] });
    gone_parts_are = refl;
    come_parts_are = parts_are after (record nothing { permits = (rel, made) ∷ [] });
    entries = entries_same f after db (change.Permit rel made) stands new_allowed agree (λ r at. at) (λ r. refl) (λ v at. at) (λ x at. at) (entries_are_apart after (laid db (change.Permit rel made)) new_allowed);
    columns = attributes_same f after db (change.Permit rel made) stands new_allowed agree (λ r at. at) (λ v at. at) (λ x at. at) (attributes_are_apart after (laid db (change.Permit rel made)) new_allowed);
    trees = moved_three same_tree grouped_trees.itself grouped_trees.turned
        (view_trees_same f after db (change.Permit rel made) stands new_allowed agree (λ v at. at))
        (rule_trees_same f after db (change.Permit rel made) stands new_allowed agree (λ p at. at))
        (moved_in same_tree grouped_trees.itself grouped_trees.turned (permit_tree f) (permit_tree after) db.permits by_number (rel, made) (tied_itself (numbered_total (λ (p : Permit). p.number)) (rel, made)) (permit_trees after (laid db (change.Permit rel made)) new_allowed) fresh
        (λ p at. permit_tree_stays f after db (change.Permit rel made) stands new_allowed agree p at (kept p at)))
        (trees_are_apart f db stands) (trees_are_apart after (laid db (change.Permit rel made)) new_allowed);
  }
    where
      fresh : (p : RelKey × Permit) → IsIn p db.permits → by_number (rel, made) p ≡ Equal → ⊥
      fresh p at e = number_is_fresh (λ (p : Permit). p.number) db.permits rel made lawful.additions_are_new p at e

      kept : (p : RelKey × Permit) → IsIn p db.permits → IsIn p (insert_by by_number (rel, made) db.permits)
      kept p at = in_insert by_number (rel, made) db.permits p (λ s k e. absurd (fresh s k e)) (inr at)

module _ (rel : RelKey) (numbers : List ℕ) where
  pub permits_dropped : Moves (change.DropPermits rel numbers)
  unfolding laid going coming entries_for resizes
  permits_dropped db f after stands new_allowed lawful agree = record {
    gone_attributes = attributes_for f (dropped_permits rel numbers db);
    come_attributes = [];
    gone_trees = trees_for f (dropped_permits rel numbers db);
    come_trees = [];
    gone_columns_are = columns_are f (dropped_permits rel numbers db);
    come_columns_are = refl;
    gone_parts_are = parts_are f (dropped_permits rel numbers db);
    come_parts_are = refl;
    entries = entries_same f after db (change.DropPermits rel numbers) stands new_allowed agree (λ r at. at) (λ r. refl) (λ v at. at) (λ x at. at) (entries_are_apart after (laid db (change.DropPermits rel numbers)) new_allowed);
    columns = attributes_same f after db (change.DropPermits rel numbers) stands new_allowed agree (λ r at. at) (λ v at. at) (λ x at. at) (attributes_are_apart after (laid db (change.DropPermits rel numbers)) new_allowed);
    trees = moved_three same_tree grouped_trees.itself grouped_trees.turned
        (view_trees_same f after db (change.DropPermits rel numbers) stands new_allowed agree (λ v at. at))
        (rule_trees_same f after db (change.DropPermits rel numbers) stands new_allowed agree (λ p at. at))
        (moved_out same_tree grouped_trees.itself grouped_trees.turned (permit_tree f) (permit_tree after) db.permits (λ p. same_key p.0 rel && has_number numbers p.1.number) (permit_trees f db stands)
        (λ p at off. permit_tree_stays f after db (change.DropPermits rel numbers) stands new_allowed agree p at (among_rest (λ p. same_key p.0 rel && has_number numbers p.1.number) db.permits p at off)))
        (trees_are_apart f db stands) (trees_are_apart after (laid db (change.DropPermits rel numbers)) new_allowed);
  }
