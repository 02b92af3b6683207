use Rattle.std.proofs.Common.{sym, ap, ◌∙◌, ℕ, List, [], ◌∷◌, ◌++◌, ◌+◌, append_assoc, map, take}
use Rattle.std.proofs.lemmas.List.{append-nil, take_all}
use Rattle.std.specs.List.{enumerate_from}
use Rattle.calculus.specs.declared.schema.Attr.{Attr}
use Rattle.calculus.specs.Catalogue.{attribute_row}
use Rattle.calculus.specs.Rows.{Row}
use Rattle.plain_base.proofs.CatalogueLists.{numbered_next}
use Rattle.plain_base.proofs.catalogue_rows.push_attributes.Goals as goal

pub loop-i-preserved : goal.loop-i-preserved
loop-i-preserved c =
    let front : List Row = map (λ (p : ℕ × Attr). attribute_row c.args.key.now p.0 p.1) (enumerate_from 1 (take c.loop-i.i c.args.attrs.now)) in
    c.in_ok-push_attribute_row.ensures
    ∙ ap (λ (rows : List Row). rows ++ attribute_row c.args.key.now (c.loop-i.i + 1) c.index-attrs-i.result ∷ []) c.loop-i.invariant
    ∙ append_assoc c.args.rows.now.items front (attribute_row c.args.key.now (c.loop-i.i + 1) c.index-attrs-i.result ∷ [])
    ∙ ap (λ (rows : List Row). c.args.rows.now.items ++ rows)
    (ap (λ (row : Row). front ++ row ∷ []) (ap (attribute_row c.args.key.now (c.loop-i.i + 1)) c.index-attrs-i.is)
    ∙ sym (numbered_next (λ (p : ℕ × Attr). attribute_row c.args.key.now p.0 p.1) 1 c.args.attrs.now c.loop-i.i c.index-attrs-i.result c.loop-i-test.true))

pub loop-i-init : goal.loop-i-init
loop-i-init c = sym (append-nil c.args.rows.now.items)

pub returns : goal.returns
returns c =
    c.loop-i.invariant
    ∙ ap (λ (attrs : List Attr). c.args.rows.now.items ++ map (λ (p : ℕ × Attr). attribute_row c.args.key.now p.0 p.1) (enumerate_from 1 attrs))
    (take_all c.loop-i.i c.args.attrs.now c.loop-i-test.false)
