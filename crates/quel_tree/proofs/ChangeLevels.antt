-- A spelling of a permit, a rule or a change asks for as many levels as its query or qualification has.
use Rattle.std.proofs.Common.{ℕ, ◌∷◌, refl, arith}
use Rattle.tree_words.specs.Words.{both, byte, list, number16, number32}
use Rattle.tree_words.specs.Ways.{option}
use Rattle.calculus.specs.declared.change.DbChange.{DbChange}
use Rattle.calculus.specs.declared.change.DbChange.TheVariants as changes
use Rattle.calculus.specs.declared.schema.Permit.{Permit}
use Rattle.calculus.specs.declared.schema.Rule.{Rule}
use Rattle.calculus.specs.TreeLevels.{qual_levels}
use Rattle.quel_tree.specs.Changes.{change}
use Rattle.quel_tree.specs.Levels.{HasLevels, change_levels}
use Rattle.quel_tree.specs.Names.{name}
use Rattle.quel_tree.specs.Permits.{permit, rule}
use Rattle.quel_tree.specs.Relations.{rel_info, rel_key, spec}
use Rattle.quel_tree.specs.Values.{row}
use Rattle.quel_tree.proofs.Levelled.{fixed, made, behind}
use Rattle.quel_tree.proofs.TreeLevels.{levels_of_qual, levels_of_query}

pub levels_of_permit : (n : ℕ) (p : Permit) → (permit n).Fits p → HasLevels permit p (qual_levels p.qual) n
unfolding permit
levels_of_permit n p f =
    made permit p (λ bs. bs) 0 (behind number32 p.number f.0 (behind byte p.ops f.1.0 (behind (list number16 byte) p.attrs f.1.1.0 (behind (option name) p.user f.1.1.1.0 (levels_of_qual n p.qual f.1.1.1.1)))))
    (omega arith) (λ m h g. g) (λ m. refl)

pub levels_of_rule : (n : ℕ) (r : Rule) → (rule n).Fits r → HasLevels rule r (qual_levels r.qual) n
unfolding rule
levels_of_rule n r f = made rule r (λ bs. bs) 0 (behind number32 r.number f.0 (levels_of_qual n r.qual f.1)) (omega arith) (λ m h g. g) (λ m. refl)

pub levels_of_change : (n : ℕ) (c : DbChange) → (change n).Fits c → HasLevels change c (change_levels c) n
unfolding change
levels_of_change n (changes.Rows rel remove add) f =
    made change (changes.Rows rel remove add) (λ bs. 0 ∷ bs) 0 (fixed (both rel_key (both (list number32 row) (list number32 row))) (rel, (remove, add)) n f) (omega arith) (λ m h g. g) (λ m. refl)
levels_of_change n (changes.Create info rows) f = made change (changes.Create info rows) (λ bs. 1 ∷ bs) 0 (fixed (both rel_info (list number32 row)) (info, rows) n f) (omega arith) (λ m h g. g) (λ m. refl)
levels_of_change n (changes.Destroy rels) f = made change (changes.Destroy rels) (λ bs. 2 ∷ bs) 0 (fixed (list number16 rel_key) rels n f) (omega arith) (λ m h g. g) (λ m. refl)
levels_of_change n (changes.Modify rel to keys) f =
    made change (changes.Modify rel to keys) (λ bs. 3 ∷ bs) 0 (fixed (both rel_key (both spec (list number16 byte))) (rel, (to, keys)) n f) (omega arith) (λ m h g. g) (λ m. refl)
levels_of_change n (changes.Index base called keys) f =
    made change (changes.Index base called keys) (λ bs. 4 ∷ bs) 0 (fixed (both rel_key (both name (list number16 byte))) (base, (called, keys)) n f) (omega arith) (λ m h g. g) (λ m. refl)
levels_of_change n (changes.View info query) f = made change (changes.View info query) (λ bs. 5 ∷ bs) 0 (behind rel_info info f.0 (levels_of_query n query f.1)) (omega arith) (λ m h g. g) (λ m. refl)
levels_of_change n (changes.Permit rel permit) f = made change (changes.Permit rel permit) (λ bs. 6 ∷ bs) 0 (behind rel_key rel f.0 (levels_of_permit n permit f.1)) (omega arith) (λ m h g. g) (λ m. refl)
levels_of_change n (changes.Rule rel rule) f = made change (changes.Rule rel rule) (λ bs. 7 ∷ bs) 0 (behind rel_key rel f.0 (levels_of_rule n rule f.1)) (omega arith) (λ m h g. g) (λ m. refl)
levels_of_change n (changes.DropPermits rel numbers) f =
    made change (changes.DropPermits rel numbers) (λ bs. 8 ∷ bs) 0 (fixed (both rel_key (list number16 number32)) (rel, numbers) n f) (omega arith) (λ m h g. g) (λ m. refl)
levels_of_change n (changes.DropRules rel numbers) f =
    made change (changes.DropRules rel numbers) (λ bs. 9 ∷ bs) 0 (fixed (both rel_key (list number16 number32)) (rel, numbers) n f) (omega arith) (λ m h g. g) (λ m. refl)
