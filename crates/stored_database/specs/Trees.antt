-- Trees from their parts, and the queries, rules and permits whose bytes they are.
use Rattle.std.specs.Prelude.{ℕ, zero, suc, ◌==◌, ◌&&◌, nat_le, Bool, false, List, [], ◌∷◌, map, filter, take, drop, length, Result, Ok, Err, Option, Some, None, is_some}
use Rattle.std.specs.List.{list_all, concat}
use Rattle.calculus.specs.declared.query.Query.{Query}
use Rattle.calculus.specs.declared.schema.Permit.{Permit}
use Rattle.calculus.specs.declared.schema.Rule.{Rule}
use Rattle.page_chain.specs.Lists.{when, are_from}
use Rattle.quel_tree.specs.Message.{most_tree_levels}
use Rattle.quel_tree.specs.Permits as spellings
use Rattle.quel_tree.specs.Queries as queries
use Rattle.tree_words.specs.Codec.{Codec}
use Rattle.tree_words.specs.Whole.{reads_whole}
use Rattle.stored_database.specs.Parts.{Part}

-- ---- bytes of trees

-- the value that was read
abbrev pub given : {A : Type 0} → Result A ℕ → Option A
given (Ok tree) = Some tree
given (Err left) = None

-- the tree whose spelling the bytes are, all of them
unfoldable pub tree_of : {A : Type 0} → (ℕ → Codec A) → List ℕ → Option A
tree_of codec bytes = given (reads_whole (codec most_tree_levels) bytes)

-- the bytes of a tree
unfoldable pub tree_bytes : {A : Type 0} → (ℕ → Codec A) → A → List ℕ
tree_bytes codec tree = (codec most_tree_levels).write tree

-- the query whose spelling the bytes are
abbrev pub query_of : List ℕ → Option Query
query_of = tree_of queries.query

-- the rule
abbrev pub rule_of : List ℕ → Option Rule
rule_of = tree_of spellings.rule

-- the permit
abbrev pub permit_of : List ℕ → Option Permit
permit_of = tree_of spellings.permit

-- ---- parts

-- the bytes of each part but the last
abbrev pub most_part_bytes : ℕ
most_part_bytes = 900

-- 900 bytes in each part but the last, and 1 to 900 in the last
unfoldable pub are_cut : List (List ℕ) → Bool
are_cut [] = false
are_cut (last ∷ []) = nat_le 1 (length last) && nat_le (length last) most_part_bytes
are_cut (first ∷ next ∷ more) = (length first == most_part_bytes) && are_cut (next ∷ more)

-- the part is one of the tree of this file, sort and number
abbrev pub is_part_of : ℕ → ℕ → ℕ → Part → Bool
is_part_of file sort number p = (p.file == file) && ((p.sort == sort) && (p.number == number))

-- the bytes of a tree, from its parts in the order of their places
unfoldable pub joined : List Part → Option (List ℕ)
joined ps = when (are_from (λ p. p.place) 0 ps && are_cut (map (λ p. p.bytes) ps)) (concat (map (λ p. p.bytes) ps))

-- the bytes of the tree of this file, sort and number
abbrev pub tree_at : List Part → ℕ → ℕ → ℕ → Option (List ℕ)
tree_at parts file sort number = joined (filter (is_part_of file sort number) parts)

-- each part is one of a whole tree
abbrev pub parts_are_whole : List Part → Bool
parts_are_whole parts = list_all (λ p. is_some (tree_at parts p.file p.sort p.number)) parts

-- the first parts of the trees of a sort
abbrev pub firsts : ℕ → List Part → List Part
firsts sort parts = filter (λ p. (p.sort == sort) && (p.place == 0)) parts

-- ---- and back

-- bytes in pieces of 900, the last of which may be shorter, where so many pieces are enough
unfoldable pub pieces : ℕ → List ℕ → List (List ℕ)
pieces zero bytes = []
pieces (suc most) [] = []
pieces (suc most) (b ∷ bytes) = take most_part_bytes (b ∷ bytes) ∷ pieces most (drop most_part_bytes (b ∷ bytes))

-- bytes in pieces of 900, the last of which may be shorter
abbrev pub cut : List ℕ → List (List ℕ)
cut bytes = pieces (length bytes) bytes

-- the pieces from this place on as the parts of the tree of a file, sort and number
unfoldable pub parts_from : ℕ → ℕ → ℕ → ℕ → List (List ℕ) → List Part
parts_from file sort number place [] = []
parts_from file sort number place (piece ∷ more) =
    record { file = file; sort = sort; number = number; place = place; bytes = piece } ∷ parts_from file sort number (suc place) more
