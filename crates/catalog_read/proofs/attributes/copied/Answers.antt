use Rattle.std.proofs.Common.{◌≡◌, ◌<◌, ◌+◌, ℕ, ap, sym, map, take, length, get_or, List, [], ◌∷◌, ◌++◌, ◌∙◌}
use Rattle.std.proofs.lemmas.List.{map-append, take_all, take_more}
use Rattle.catalog_rows.specs.declared.columns.ColumnRow.{ColumnRow}
use Rattle.catalog_read.proofs.attributes.copied.Goals as goal

-- what is made of one item more
one_more : {X Y : Type 0} (f : X → Y) (xs : List X) (i : ℕ) (x : X) (now : List Y) (y : Y) → i < length xs → x ≡ get_or xs i x → y ≡ f x → now ≡ map f (take i xs) → now ++ y ∷ [] ≡ map f (take (i + 1) xs)
one_more f xs i x now y low is made inv =
    (λ j. inv j ++ (made ∙ ap f is) j ∷ []) ∙ sym (map-append f (take i xs) (get_or xs i x ∷ [])) ∙ ap (map f) (sym (take_more xs i x low))

pub loop-column-init : goal.loop-column-init
loop-column-init c = c.in_ok-attrs.ensures.items

pub loop-column-preserved : goal.loop-column-preserved
loop-column-preserved c =
    c.in_ok-push.ensures.items
    ∙ one_more (λ (c : ColumnRow). c.attr) c.args.columns.now c.loop-column.column-index c.column-item.result c.loop-column.attrs.items c.in_ok-copy.field-0
    c.loop-column-test.true c.column-item.is c.in_ok-copy.ensures c.loop-column.invariant

pub returns : goal.returns
returns c = c.of.ensures ∙ c.loop-column.invariant ∙ ap (map (λ (c : ColumnRow). c.attr)) (take_all c.loop-column.column-index c.args.columns.now c.loop-column-test.false)
