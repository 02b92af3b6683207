-- The parts of a printed catalogue: which of them are the first of rules and of permits.
use Rattle.std.proofs.Common.{◌≡◌, refl, ap, ap₂, ◌∙◌, ℕ, ◌<◌, ◌==◌, ◌&&◌, Bool, false, List, [], ◌∷◌, ◌++◌, map, filter, length}
use Rattle.std.proofs.lemmas.List.{append-nil}
use Rattle.std.specs.List.{AllByRecursion, flat_map}
use Rattle.calculus.specs.Database.{Db}
use Rattle.quel_tree.specs.Permits as spellings
use Rattle.stored_database.specs.Parts.{Part, of_view, of_rule, of_permit}
use Rattle.stored_database.specs.Printed.{Files, parts_for}
use Rattle.stored_database.specs.Trees.{tree_bytes}
use Rattle.stored_database.proofs.Pairs.{all_each}
use Rattle.stored_database.proofs.Groups.{filter_append, filter_flat}
use Rattle.stored_database.proofs.Pieces.{first_of, its_first, no_first}
use Rattle.stored_database.proofs.PrintedTrees.{Tree, parts_of, view_tree, rule_tree, permit_tree}
use Rattle.stored_database.proofs.SpelledTrees.{rule_has_bytes, permit_has_bytes}

-- nothing of each
flat_none : {X A : Type 0} (g : X → List A) (xs : List X) → AllByRecursion (λ x. g x ≡ []) xs → flat_map g xs ≡ []
flat_none g [] all = refl
flat_none {X} {A} g (x ∷ xs) all = ap₂ (λ (k l : List A). k ++ l) all.0 (flat_none g xs all.1)

-- one of each
flat_one : {X A : Type 0} (g : X → List A) (h : X → A) (xs : List X) → AllByRecursion (λ x. g x ≡ h x ∷ []) xs → flat_map g xs ≡ map h xs
flat_one g h [] all = refl
flat_one {X} {A} g h (x ∷ xs) all = ap₂ (λ (k l : List A). k ++ l) all.0 (flat_one g h xs all.1)

-- the first part of a tree
abbrev pub first_part : Tree → Part
first_part t = first_of t.file t.sort t.number t.bytes

-- whether a part is the first of a tree of this sort
abbrev pub is_first : ℕ → Part → Bool
is_first sort p = (p.sort == sort) && (p.place == 0)

-- of trees of another sort none is
none_of : {X : Type 0} (s : ℕ) (h : X → Tree) (xs : List X) → AllByRecursion (λ x. ((h x).sort == s) ≡ false) xs → filter (is_first s) (flat_map (λ x. parts_of (h x)) xs) ≡ []
none_of {X} s h xs all = filter_flat (is_first s) (λ x. parts_of (h x)) xs ∙ flat_none (λ x. filter (is_first s) (parts_of (h x))) xs (go xs all)
  where
    go : (xs : List X) → AllByRecursion (λ x. ((h x).sort == s) ≡ false) xs → AllByRecursion (λ x. filter (is_first s) (parts_of (h x)) ≡ []) xs
    go [] all = tt
    go (x ∷ xs) all = (no_first s (h x).file (h x).sort (h x).number (h x).bytes all.0, go xs all.1)

-- of trees of this sort one each
one_of : {X : Type 0} (s : ℕ) (file number : X → ℕ) (bytes : X → List ℕ) (xs : List X) → AllByRecursion (λ x. 0 < length (bytes x)) xs
    → filter (is_first s) (flat_map (λ x. parts_of (record { file = file x; sort = s; number = number x; bytes = bytes x })) xs) ≡ map (λ x. first_of (file x) s (number x) (bytes x)) xs
one_of {X} s file number bytes xs all =
    filter_flat (is_first s) (λ x. parts_of (record { file = file x; sort = s; number = number x; bytes = bytes x })) xs
    ∙ flat_one (λ x. filter (is_first s) (parts_of (record { file = file x; sort = s; number = number x; bytes = bytes x }))) (λ x. first_of (file x) s (number x) (bytes x)) xs (go xs all)
  where
    go : (xs : List X) → AllByRecursion (λ x. 0 < length (bytes x)) xs
        → AllByRecursion (λ x. filter (is_first s) (parts_of (record { file = file x; sort = s; number = number x; bytes = bytes x })) ≡ first_of (file x) s (number x) (bytes x) ∷ []) xs
    go [] all = tt
    go (x ∷ xs) all = (its_first (file x) s (number x) (bytes x) all.0, go xs all.1)

module _ (f : Files) (db : Db) where
  three : (s : ℕ) → filter (is_first s) (parts_for f db)
      ≡ filter (is_first s) (flat_map (λ v. parts_of (view_tree f v)) db.views) ++ (filter (is_first s) (flat_map (λ p. parts_of (rule_tree f p)) db.rules) ++ filter (is_first s) (flat_map (λ p. parts_of (permit_tree f p)) db.permits))
  unfolding parts_for
  three s =
      filter_append (is_first s) (flat_map (λ v. parts_of (view_tree f v)) db.views) _
      ∙ ap (λ l. filter (is_first s) (flat_map (λ v. parts_of (view_tree f v)) db.views) ++ l) (filter_append (is_first s) (flat_map (λ p. parts_of (rule_tree f p)) db.rules) (flat_map (λ p. parts_of (permit_tree f p)) db.permits))

  -- the first parts of the rules
  pub rule_firsts : filter (is_first of_rule) (parts_for f db) ≡ map (λ p. first_part (rule_tree f p)) db.rules
  rule_firsts =
      three of_rule
      ∙ ap₂ (λ (k l : List Part). k ++ l) (none_of of_rule (view_tree f) db.views (all_each (λ v. (of_view == of_rule) ≡ false) db.views (λ v. refl)))
      (ap₂ (λ (k l : List Part). k ++ l) (one_of of_rule (λ p. f.file p.0) (λ p. p.1.number) (λ p. tree_bytes spellings.rule p.1) db.rules (all_each (λ p. 0 < length (tree_bytes spellings.rule p.1)) db.rules (λ p. rule_has_bytes p.1)))
      (none_of of_rule (permit_tree f) db.permits (all_each (λ p. (of_permit == of_rule) ≡ false) db.permits (λ p. refl))))
      ∙ append-nil (map (λ p. first_part (rule_tree f p)) db.rules)

  -- and of the permits
  pub permit_firsts : filter (is_first of_permit) (parts_for f db) ≡ map (λ p. first_part (permit_tree f p)) db.permits
  permit_firsts =
      three of_permit
      ∙ ap₂ (λ (k l : List Part). k ++ l) (none_of of_permit (view_tree f) db.views (all_each (λ v. (of_view == of_permit) ≡ false) db.views (λ v. refl)))
      (ap₂ (λ (k l : List Part). k ++ l) (none_of of_permit (rule_tree f) db.rules (all_each (λ p. (of_rule == of_permit) ≡ false) db.rules (λ p. refl)))
      (one_of of_permit (λ p. f.file p.0) (λ p. p.1.number) (λ p. tree_bytes spellings.permit p.1) db.permits (all_each (λ p. 0 < length (tree_bytes spellings.permit p.1)) db.permits (λ p. permit_has_bytes p.1))))
