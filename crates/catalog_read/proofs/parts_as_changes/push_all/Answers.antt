use Rattle.std.proofs.Common.{ap, append_assoc, append-nil, arith, length, map, sym, ◌≡◌, ◌++◌, ◌∙◌, [], ◌∷◌, List}
use Rattle.calculus.specs.declared.change.DbChange.{DbChange}
use Rattle.catalog_read.proofs.parts_as_changes.push_all.Goals as goal

-- an item is made
made_next : {T : Type 0} (made : T → DbChange) (before after all : List DbChange) (item : T) (rest items : List T)
    → after ≡ before ++ made item ∷ [] → items ≡ item ∷ rest → before ++ map made items ≡ all → after ++ map made rest ≡ all
made_next made before after all item rest items pushed is inv =
    ap (λ l. l ++ map made rest) pushed ∙ append_assoc before (made item ∷ []) (map made rest) ∙ ap (λ l. before ++ map made l) (sym is) ∙ inv

-- none is left
made_all : {T : Type 0} (made : T → DbChange) (now all : List DbChange) (rest : List T) → length rest ≡ 0 → now ++ map made rest ≡ all → now ≡ all
made_all made now all [] none inv = sym (append-nil now) ∙ inv
made_all made now all (x ∷ rest) none inv = absurd (omega (arith, none))

pub items-init : goal.items-init
items-init g c =
    let made = g.T.Made.made in
    ap (λ l. c.args.changes.now.items ++ map made l) (c.into_iter-item-iterator.ensures.into_iter_gives.0 ∙ c.into_items-item-items.ensures)

pub items-preserved : goal.items-preserved
items-preserved g c =
    made_next g.T.Made.made c.items.changes.items c.push_made.new.changes.items _ c.in-Some.item c.next.new.self.rest.items c.items.item-iterator.rest.items
    c.in_ok-push_made.ensures c.in-Some.ensures.steps.0 c.items.invariant

pub returns : goal.returns
returns g c =
    let rest = c.items.item-iterator.rest in
    made_all g.T.Made.made c.items.changes.items _ rest.items (sym rest.ok.0 ∙ c.in-None.ensures.steps.0) c.items.invariant
