-- How a box stores its value, so that a type may contain itself through boxes.
use mathlib.Core.Path.{refl}
use mathlib.Core.Former.{Former, this, const, pair, via}
use base.Fml.{ftrue}
use base.Stored.{gnil}
use denote.HoleLaws.{Alike}
use denote.HolePlaces.{Recodes, laid, one_value, struct_places}
use denote.Hole.Fix.{over}
use denote.Memory.{part_of}
use denote.Model.Placed.{view_places}
use denote.Param.Weighed.{Weighed}
use denote.RattleType.{RattleType}
use denote.RawPtr.{Ptr}
use denote.Sharing.{nothing}
use Rattle.std.specs.contracts.alloc.Global as global
use Rattle.std.specs.contracts.boxed.Box as box
use Rattle.std.specs.contracts.impls.GlobalAllocator.TheImpl as allocator
use Rattle.std.specs.declared.alloc.Global.{Global}
use Rattle.std.specs.declared.boxed.Box.{Box}
use Rattle.memory.specs.contracts.boxed.Boxed as value
use Rattle.memory.specs.contracts.boxed.Boxed.TheInside as inside
use Rattle.memory.specs.declared.boxed.Boxed.TheInside.{Inside}
use Rattle.memory.specs.declared.boxed.Boxed.TheView.{view, invariant}

-- a box is its value
abbrev pub the_former : Former {0} → Former {0}
the_former g = g

-- a box weighs as much as its value
abbrev pub the_weighed : {g : Former {0}} → Weighed g → Weighed (the_former g)
the_weighed weighed = weighed

-- the same address with another value
abbrev at_address_of : {X Y : Type 0} → Box X Global → Y → Box Y Global
at_address_of b y = record { ptr = b.ptr; alloc = b.alloc; value = y }

-- the fields of a box are an address and an allocator, beside one value
abbrev fields : Former {0}
fields =
    via (pair (const (Ptr × Global)) this) Inside (λ X b. ((b.inner.ptr, b.inner.alloc), b.inner.value))
    (λ X parts. record { inner = record { ptr = parts.0.0; alloc = parts.0.1; value = parts.1 } })
    (λ X b. refl) (λ X parts. refl)

abbrev box_row : RattleType → RattleType
box_row R = box.the_row R global.the_row allocator.ghosts

module _ (R R' : RattleType) (h : R.Denot → R'.Denot) where
  -- std's boxes of like values are alike
  boxes_alike : Alike R R' h → Alike (box_row R) (box_row R') (λ b. at_address_of b (h b.value))
  unfolding part_of
  boxes_alike a = record {
    mir_same = λ i. (box_row (one_value R (a.mir_same i) (λ _. ftrue) (λ _ _. nothing) gnil)).mir;
    own_same = λ b i.
        (box_row (one_value R (a.mir_same i) (a.own_same b.value i) (a.shr_same b.value i) gnil)).own_val (at_address_of b tt);
    shr_same = λ b i.
        (box_row (one_value R (a.mir_same i) (a.own_same b.value i) (a.shr_same b.value i) gnil)).shr_at (at_address_of b tt);
  }

  -- boxes of like values are alike
  pub the_places : Alike R R' h → Alike (value.the_row R) (value.the_row R') ((the_former this).map R.Denot R'.Denot h)
  the_places a =
      let boxes = laid _ _ _ (boxes_alike a) in
      let structs = struct_places (inside.the_type R) (inside.the_type R') ((λ b. at_address_of b (h b.value)), tt) _ (λ d. refl) refl (boxes, tt) in
      view_places fields this view (λ X Y k b. refl) (λ X b. refl) R.Denot R'.Denot h
      (value.the_row R).coded (value.the_row R').coded (invariant R.Denot) (invariant R'.Denot)
      (λ b p q. refl) (λ b p q. refl) (λ b p. tt) (λ b p. tt)
      (over (inside.the_row R)) (over (inside.the_row R')) structs

  -- boxes of values with the same code have the same code
  pub the_codes_placed : Recodes R R' h → Recodes (value.the_row R) (value.the_row R') ((the_former this).map R.Denot R'.Denot h)
  the_codes_placed same = same
