-- How a list stores its items, so that a type may contain itself through lists.
use mathlib.Core.Path.{◌≡◌, refl, sym}
use mathlib.Core.List as lists
use mathlib.Core.Former.{Former, this, list, via, children}
use base.Stored.{code_map}
use denote.RattleType.{RattleType}
use denote.HoleLaws.{Alike}
use denote.HolePlaces.{Recodes, laid, struct_places}
use denote.Hole.Carrier.{listed, list-listed}
use denote.Hole.Fix.{over}
use denote.Model.Placed.{view_places}
use denote.Param.Weighed.{Weighed, w_list}
use Rattle.std.specs.contracts.alloc.Global as global
use Rattle.std.specs.contracts.impls.GlobalAllocator.TheImpl as allocator
use Rattle.std.specs.declared.alloc.Global.{Global}
use Rattle.std.specs.formers.vec.Vec as vec
use Rattle.memory.specs.contracts.list.List as value
use Rattle.memory.specs.contracts.list.List.TheInside as inside
use Rattle.memory.specs.declared.list.List.TheInside.{Inside}
use Rattle.memory.specs.declared.list.List.TheView.{view, invariant}

-- a list is the list of its items
abbrev pub the_former : Former {0} → Former {0}
the_former g = list g

-- a list weighs as much as its heaviest item
abbrev pub the_weighed : {g : Former {0}} → Weighed g → Weighed (the_former g)
the_weighed weighed = w_list weighed

-- the list without items
pub the_empty : lists.List ⊥
the_empty = lists.[]

abbrev pub the_items : (X : Type 0) → lists.List X → lists.List X
the_items X items = items

pub the_items_listed : (X : Type 0) (items : lists.List X)
    → listed _ (children (the_former this) X items) ≡ the_items X items
the_items_listed X items = list-listed X items

-- the fields of a list hold its items as the vector in them does
abbrev fields : Former {0}
fields =
    via (vec.the_former this Global) Inside (λ X fields. fields.items) (λ X items. record { items = items })
    (λ X fields. refl) (λ X items. refl)

module _ (R R' : RattleType) (h : R.Denot → R'.Denot) where
  -- lists of like items are alike
  pub the_places : Alike R R' h → Alike (value.the_row R) (value.the_row R') ((the_former this).map R.Denot R'.Denot h)
  the_places items_alike =
      let vectors = laid _ _ _ (vec.the_places global.the_row allocator.ghosts R R' h items_alike) in
      let structs = struct_places (inside.the_type R) (inside.the_type R') (vec.mapped h, tt) _ (λ d. refl) refl (vectors, tt) in
      view_places fields (list this) view (λ X Y k fields. refl) (λ X fields. refl) R.Denot R'.Denot h
      (value.the_row R).coded (value.the_row R').coded (invariant R.Denot) (invariant R'.Denot)
      (λ fields p q. refl) (λ fields p q. refl) (λ fields p. tt) (λ fields p. tt)
      (over (inside.the_row R)) (over (inside.the_row R')) structs

  -- lists of items with the same codes have the same codes
  pub the_codes_placed : Recodes R R' h → Recodes (value.the_row R) (value.the_row R') ((the_former this).map R.Denot R'.Denot h)
  the_codes_placed same items = sym (code_map R.coded.code R'.coded.code h (λ item. sym (same item)) items)
