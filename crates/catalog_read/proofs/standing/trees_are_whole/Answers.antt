use Rattle.std.proofs.Common.{◌≡◌, ◌<◌, ◌≤◌, ◌∙◌, ◌&&◌, ap, arith, drop, length, length-drop, map, refl, sym, true, List, [], ◌∷◌}
use Rattle.stored_database.specs.Trees.{parts_are_whole}
use Rattle.catalog_rows.specs.Shown.{part_in}
use Rattle.catalog_rows.specs.declared.part_rows.PartRow.{PartRow}
use Rattle.catalog_read.proofs.WholeTrees.{Goes, tree_fits, tree_goes}
use Rattle.catalog_read.proofs.standing.trees_are_whole.Goals as goal

pub split_at-requires : goal.split_at-requires
split_at-requires c = tree_fits c.tree_of_part.result c.trees.rest.now c.belonging-tree.result.now c.belonging-tree.ensures

pub trees-preserved : goal.trees-preserved
trees-preserved c =
    let goes : Goes c.trees.rest.now c.belonging-tree.result.now c.split_at.result.1.now =
    tree_goes c.tree_of_part.result c.trees.rest.now c.belonging-tree.result.now c.split_at.result.1.now c.in-Some.first.now c.in-Some.field-0-1.now
    c.in-Some.ensures.cases.0 c.tree_of_part.ensures c.trees.invariant.sorted c.belonging-tree.ensures c.split_at.ensures.back in
    record {
      sorted = goes.sorted;
      same =
          ap (λ b. b && parts_are_whole (map part_in c.split_at.result.1.now)) (sym c.if-not-branch.false ∙ c.in_ok-is_whole.ensures)
          ∙ sym goes.whole ∙ c.trees.invariant.same;
    }

pub trees-init : goal.trees-init
trees-init c = record { sorted = c.requires; same = refl }

pub belonging-tree-requires : goal.belonging-tree-requires
belonging-tree-requires c = c.trees.invariant.sorted

-- fewer are left
fewer_left : (xs run behind : List PartRow) → 1 ≤ length run → length run ≤ length xs → behind ≡ drop (length run) xs → length behind < length xs
fewer_left xs run behind some fits back = omega (arith, some, fits, ap length back, length-drop (length run) xs)

pub trees-smaller : goal.trees-smaller
trees-smaller c =
    let goes : Goes c.trees.rest.now c.belonging-tree.result.now c.split_at.result.1.now =
    tree_goes c.tree_of_part.result c.trees.rest.now c.belonging-tree.result.now c.split_at.result.1.now c.in-Some.first.now c.in-Some.field-0-1.now
    c.in-Some.ensures.cases.0 c.tree_of_part.ensures c.trees.invariant.sorted c.belonging-tree.ensures c.split_at.ensures.back in
    fewer_left c.trees.rest.now c.belonging-tree.result.now c.split_at.result.1.now goes.some (tree_fits c.tree_of_part.result c.trees.rest.now c.belonging-tree.result.now c.belonging-tree.ensures) c.split_at.ensures.back

pub returns-then-not-branch : goal.returns-then-not-branch
returns-then-not-branch c =
    let behind = drop (length c.belonging-tree.result.now) c.trees.rest.now in
    let goes : Goes c.trees.rest.now c.belonging-tree.result.now behind =
    tree_goes c.tree_of_part.result c.trees.rest.now c.belonging-tree.result.now behind c.in-Some.first.now c.in-Some.field-0-1.now
    c.in-Some.ensures.cases.0 c.tree_of_part.ensures c.trees.invariant.sorted c.belonging-tree.ensures refl in
    ap (λ b. b && parts_are_whole (map part_in behind)) (sym c.if-not-branch.true ∙ c.in_ok-is_whole.ensures)
    ∙ sym goes.whole ∙ c.trees.invariant.same

-- none are left
none_left : (xs : List PartRow) → length xs ≡ 0 → true ≡ parts_are_whole (map part_in xs)
none_left [] none = refl
none_left (x ∷ xs) none = absurd (omega (arith, none))

pub returns : goal.returns
returns c = none_left c.trees.rest.now c.in_default.ensures.cases ∙ c.trees.invariant.same
