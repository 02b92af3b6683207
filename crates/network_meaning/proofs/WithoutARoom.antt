-- The shape of a network is orderly whatever its room holds.
use Rattle.std.proofs.Common.{◌≡◌, ◌⊎◌, ◌≤◌, ℕ, Bool, true, false, List, [], ◌∷◌, Some, refl, sym, ap, subst, ◌∙◌}
use Rattle.frame_codec.specs.declared.frame.Frame.{Frame}
use Rattle.network_meaning.specs.Sorts.{Sorts}
use Rattle.network_meaning.specs.Language.{Language}
use Rattle.network_meaning.specs.Laws.{Laws}
use Rattle.network_meaning.specs.LocalSteps.{Room}
use Rattle.network_meaning.specs.MessageNetwork.{MessageNetwork, StageNumber}
use Rattle.network_meaning.specs.Due.{IsDue}
use Rattle.network_meaning.specs.Spelled.{IsSpelled}
use Rattle.network_meaning.specs.Orderly.{Phase, spread, Phase.reads, Phase.closes, Phase.sends, Phase.away, Phase.quits_a, Phase.quits_b, Phase.quits_c, Phase.over}
use Rattle.network_meaning.specs.Network.{Network, between, put_between, StepsUnlessBlockedBy, Shows, Orderly, as_messages}
use Rattle.network_meaning.specs.Lawful.{Lawful, comes}
use Rattle.network_meaning.specs.Going.{SomeGoes, AllEnded}
use Rattle.network_meaning.specs.Turn.{turns}
use Rattle.network_meaning.specs.Calls.{Shape, join, Seen, Moves, stage_number, RunsTurns}
use Rattle.network_meaning.specs.OrderlyShape.{shape_of, OrderlyShape}
use Rattle.network_meaning.specs.WorkShape.{WorksInShape}
use Rattle.network_meaning.proofs.NothingUnlawful.{lawful_at}
use Rattle.network_meaning.proofs.Progress.{progress}
use Rattle.network_meaning.proofs.Turn.{phase_turns}
use Rattle.network_meaning.proofs.ShapeKeeps.{shape_placed}
use Rattle.network_meaning.proofs.Whole.{Placed, NextBy, placed_of, any_next, shown_view}

-- the messages with another room
abbrev with_room : {S : Sorts} → MessageNetwork S → Room S → MessageNetwork S
with_room v room =
    record {
      one = v.one;
      two = v.two;
      three = v.three;
      four = v.four;
      a = v.a;
      b = v.b;
      c = v.c;
      d = v.d;
      e = v.e;
      f = v.f;
      first_left = v.first_left;
      last_right = v.last_right;
      room = room;
    }

spread_with : {S : Sorts} (p : Phase S) (room other : Room S) → with_room (spread p room) other ≡ spread p other
spread_with (reads m ranges) room other = refl
spread_with (closes m o ranges) room other = refl
spread_with (sends m ranges t) room other = refl
spread_with (away w p) room other = refl
spread_with (quits_a ranges) room other = refl
spread_with quits_b room other = refl
spread_with quits_c room other = refl
spread_with over room other = refl

spelled_with : {S : Sorts} (L : Language S) (v : MessageNetwork S) (other : Room S) → IsSpelled L v → IsSpelled L (with_room v other)
spelled_with L v other h = record {
  a = h.a;
  b = h.b;
  c = h.c;
  d = h.d;
  e = h.e;
  f = h.f;
  first_left = h.first_left;
  last_right = h.last_right;
  line = h.line;
}

shows_with : {S : Sorts} (L : Language S) (shape : Shape S) (room other : Room S) (v : MessageNetwork S) → Shows L (join shape room) v → Shows L (join shape other) (with_room v other)
shows_with L shape room other v h = record {
  one = h.one;
  two = h.two;
  three = h.three;
  four = h.four;
  room = refl;
  a = h.a;
  b = h.b;
  c = h.c;
  d = h.d;
  e = h.e;
  f = h.f;
  first_left = h.first_left;
  last_right = h.last_right;
  first_got = h.first_got;
  last_got = h.last_got;
  more_one = h.more_one;
  more_two_left = h.more_two_left;
  more_two_right = h.more_two_right;
  more_three_left = h.more_three_left;
  more_three_right = h.more_three_right;
  more_four = h.more_four;
}

-- in each room the network of an orderly shape stands by its phase
in_room : {S : Sorts} (L : Language S) (shape : Shape S) (room : Room S) → OrderlyShape L shape → Placed L (join shape room)
in_room {S} L shape room o =
    let e : with_room (spread o.phase o.room) room ≡ spread o.phase room = spread_with o.phase o.room room in
    record {
      phase = o.phase;
      routed = o.routed;
      due = subst (IsDue L) e o.due;
      spelled = subst (IsSpelled L) e (spelled_with L (spread o.phase o.room) room o.spelled);
      shows = subst (λ (v : MessageNetwork S). Shows L (join shape room) v) e (shows_with L shape o.room room (spread o.phase o.room) o.shows);
    }

shape_of_placed : {S : Sorts} (L : Language S) (n : Network S) → Placed L n → OrderlyShape L (shape_of n)
shape_of_placed L n p = record { phase = p.phase; room = n.room; routed = p.routed; due = p.due; spelled = p.spelled; shows = p.shows }

-- the shape of an orderly network is orderly
pub orderly_shape : {S : Sorts} (L : Language S) (n : Network S) → Orderly L n → OrderlyShape L (shape_of n)
orderly_shape L n o = shape_of_placed L n (placed_of L n o)

-- a step in which work has its shape leads from a network that stands by its phase to one that does
placed_step : {S : Sorts} (L : Language S) (laws : Laws L) (k : StageNumber) (blocked : Bool) (n n' : Network S) → Placed L n → StepsUnlessBlockedBy (WorksInShape L) L k n n' blocked → Placed L n'
placed_step {S} L laws k true n n' p e = subst (λ (x : Network S). Placed L x) (sym e) p
placed_step {S} L laws k false n n' p (s', g, e) =
    let next : NextBy (WorksInShape L) L k (spread p.phase n.room) n (put_between n k s') = any_next (WorksInShape L) L k n p.phase s' p.shows p.spelled g in
    subst (λ (x : Network S). Placed L x) (sym e) (shape_placed L laws k n (put_between n k s') p next)

-- a step keeps the shape orderly, whatever the room is
pub moves_shape : {S : Sorts} (L : Language S) (laws : Laws L) (capacity : ℕ) (k : StageNumber) (blocked : Bool) (old new : Seen S) → OrderlyShape L old.shape → Moves L capacity k blocked old new → OrderlyShape L new.shape
moves_shape L laws capacity k blocked old new o m =
    shape_of_placed L (join new.shape o.room) (placed_step L laws k blocked (join old.shape o.room) (join new.shape o.room) (in_room L old.shape o.room o) (m.shape o.room))

pub runs_shape : {S : Sorts} (L : Language S) (laws : Laws L) (capacity : ℕ) (ks : List ℕ) (old new : Seen S) → OrderlyShape L old.shape → RunsTurns L capacity ks old new → OrderlyShape L new.shape
runs_shape L laws capacity [] old new o e = rw e o
runs_shape L laws capacity (k ∷ ks) old new o (mid, blocked, m, rest) = runs_shape L laws capacity ks mid new (moves_shape L laws capacity (stage_number k) blocked old mid o m) rest

pub shape_goes : {S : Sorts} (L : Language S) (capacity : ℕ) (shape : Shape S) (room : Room S) → 1 ≤ capacity → OrderlyShape L shape → SomeGoes capacity (join shape room) ⊎ AllEnded (join shape room)
shape_goes L capacity shape room le o = let p : Placed L (join shape room) = in_room L shape room o in progress L capacity (join shape room) p.phase le p.shows

pub shape_turns : {S : Sorts} (L : Language S) (shape : Shape S) (room : Room S) → OrderlyShape L shape → turns (as_messages L (join shape room)) ≡ 1
shape_turns L shape room o =
    let p : Placed L (join shape room) = in_room L shape room o in
    ap turns (shown_view L (join shape room) (spread p.phase room) p.shows p.spelled) ∙ phase_turns p.phase room

pub shape_lawful : {S : Sorts} (L : Language S) (laws : Laws L) (k : StageNumber) (shape : Shape S) (room : Room S) (frame : Frame) → OrderlyShape L shape → comes (between (join shape room) k) ≡ Some frame → Lawful L (between (join shape room) k).stage frame
shape_lawful L laws k shape room frame o c = let p : Placed L (join shape room) = in_room L shape room o in lawful_at L laws (join shape room) p.phase k p.shows p.routed p.due p.spelled frame c
