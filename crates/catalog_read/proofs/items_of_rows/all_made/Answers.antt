use Rattle.std.proofs.Common.{◌≡◌, ap, drop, filter, map, option_map, subst, sym, ◌+◌, ◌++◌, ◌∙◌, [], ◌∷◌, Some}
use Rattle.std.proofs.lemmas.List.{map-append}
use Rattle.page_chain.specs.Lists.{each}
use Rattle.catalog_read.specs.Read.{catalogue_shown}
use Rattle.catalog_read.proofs.Each.{front_none, in_front, pick_done, pick_fails, pick_next, pick_not}
use Rattle.catalog_read.proofs.items_of_rows.all_made.Goals as goal
use Rattle.catalog_read.proofs.items_of_rows.all_made.Goals.{then-picks+in-Ok-Some+in_ok-push-in-Ok-Some, else-picks}

pub loop-item-preserved : goal.loop-item-preserved
loop-item-preserved g c =
    let shown = g.T.Made.shown in
    let make = g.T.Made.make (catalogue_shown c.args.rows.now) in
    let picks = g.T.Made.picks in
    elim c.if-picks.branch [
      | then-picks+in-Ok-Some+in_ok-push-in-Ok-Some w ↦
          let item = w.in-Ok-Some.one in
          let new : c.if-picks.made.items ≡ c.loop-item.made.items ++ item ∷ [] = cc (w.made-is, w.in_ok-push-in-Ok-Some.ensures.items) in
          subst (λ l. in_front l (each make (filter picks (drop (c.loop-item.item-index + 1) c.args.items.now))) ≡ each make (filter picks c.args.items.now))
          (sym (ap (map shown) new ∙ map-append shown c.loop-item.made.items (item ∷ [])))
          (pick_next make picks (map shown c.loop-item.made.items) c.args.items.now c.loop-item.item-index c.item-item.result (shown item) _ c.loop-item-test.true c.item-item.is
          (sym c.picks.ensures ∙ w.if-picks.true) (ap (option_map shown) (sym w.in-Ok-Some.field-0-is) ∙ w.in-Ok-Some.ensures) c.loop-item.invariant)
      | else-picks w ↦
          let same : c.if-picks.made.items ≡ c.loop-item.made.items = cc w.made-is in
          subst (λ l. in_front (map shown l) (each make (filter picks (drop (c.loop-item.item-index + 1) c.args.items.now))) ≡ each make (filter picks c.args.items.now)) (sym same)
          (pick_not make picks (map shown c.loop-item.made.items) c.args.items.now c.loop-item.item-index c.item-item.result _ c.loop-item-test.true c.item-item.is
          (sym c.picks.ensures ∙ w.if-picks.false) c.loop-item.invariant)
    ]

pub returns-in-Ok-None : goal.returns-in-Ok-None
returns-in-Ok-None g c =
    let shown = g.T.Made.shown in
    pick_fails (g.T.Made.make (catalogue_shown c.args.rows.now)) g.T.Made.picks (map shown c.loop-item.made.items) c.args.items.now c.loop-item.item-index c.item-item.result _ c.loop-item-test.true c.item-item.is
    (sym c.picks.ensures ∙ c.if-picks.true) (ap (option_map shown) (sym c.in-Ok-None.field-0-is) ∙ c.in-Ok-None.ensures) c.loop-item.invariant

pub make-requires : goal.make-requires
make-requires g c = c.requires

pub loop-item-init : goal.loop-item-init
loop-item-init g c =
    let all = each (g.T.Made.make (catalogue_shown c.args.rows.now)) (filter g.T.Made.picks c.args.items.now) in
    ap (λ l. in_front (map g.T.Made.shown l) all) c.new-made.ensures.items ∙ front_none all

pub returns : goal.returns
returns g c =
    let shown = g.T.Made.shown in
    ap (λ l. Some (map shown l)) c.of.ensures
    ∙ pick_done (g.T.Made.make (catalogue_shown c.args.rows.now)) g.T.Made.picks (map shown c.loop-item.made.items) c.args.items.now c.loop-item.item-index _ c.loop-item-test.false c.loop-item.invariant
