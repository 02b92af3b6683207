-- The start and the end.
use Rattle.std.proofs.Common.{◌≡◌, List, [], ◌∷◌, ◌++◌, Some, None, refl, ap, ◌∙◌}
use Rattle.std.proofs.lemmas.List.{append-nil}
use Rattle.std.specs.declared.option.Option.{Option}
use Rattle.frame_codec.specs.declared.frame.Frame.{Frame}
use Rattle.network_meaning.specs.Sorts.{Sorts, Said}
use Rattle.network_meaning.specs.Language.{Language}
use Rattle.network_meaning.specs.LocalSteps.{Mode, Mode.reading, Mode.idle2, Mode.idle3, Mode.idle4, Mode.waiting, Mode.printing, Want.none, want_of, Room}
use Rattle.network_meaning.specs.Held.{total}
use Rattle.network_meaning.specs.Orderly.{Phase, front_mode, spread, Phase.reads, Phase.closes, Phase.sends, Phase.away, Phase.quits_a, Phase.quits_b, Phase.quits_c, Phase.over}
use Rattle.network_meaning.specs.Network.{LocalState, Network, want, want_with, Shows, Orderly, bytes_in_all, start}
use Rattle.network_meaning.specs.Going.{AllEnded}
use Rattle.network_meaning.proofs.Whole.{total_of}

ended_mode : {S : Sorts} (mode : Mode S) (left right : List Frame) → want_with left right mode ≡ none → want_of mode ≡ none
ended_mode mode [] [] e = e
ended_mode mode [] (f ∷ fs) e = cc
ended_mode mode (f ∷ fs) right e = cc

pub known_end : {S : Sorts} (s : LocalState S) (mode : Mode S) → mode ≡ s.mode → want s ≡ none → want_of mode ≡ none
known_end s mode e h = ap want_of e ∙ ended_mode s.mode s.out_left s.out_right h

pub not_away : {S : Sorts} (m : S.Monitor) (o : Option S.Head) (prints : Option (Said S)) → want_of (front_mode m o prints) ≡ none → ⊥
not_away m o None e = cc
not_away m o (Some s) e = cc

whole_by : {S : Sorts} (L : Language S) (n : Network S) (p : Phase S) → Shows L n (spread p n.room) → AllEnded n → total L (spread p n.room) ≡ n.room.out
whole_by L n (reads m ranges) h e = let x = known_end n.one (reading m) h.one e.one in cc
whole_by L n (closes m o ranges) h e = let x = known_end n.one (printing m o _) h.one e.one in cc
whole_by L n (sends m ranges t) h e = let x = known_end n.one (waiting m None) h.one e.one in cc
whole_by L n (away w p) h e = absurd (not_away w.monitor w.open_head w.prints (known_end n.one _ h.one e.one))
whole_by L n (quits_a ranges) h e = let x = known_end n.two (idle2 ranges) h.two e.two in cc
whole_by L n quits_b h e = let x = known_end n.three idle3 h.three e.three in cc
whole_by L n quits_c h e = let x = known_end n.four idle4 h.four e.four in cc
whole_by L n over h e = append-nil n.room.out

-- where all have ended, the bytes written are all
pub whole_at_end : {S : Sorts} (L : Language S) (n : Network S) → Orderly L n → AllEnded n → bytes_in_all L n ≡ n.room.out
whole_at_end L n o e = total_of L n (spread o.phase n.room) o.shows o.spelled ∙ whole_by L n o.phase o.shows e

pub start_orderly : {S : Sorts} (L : Language S) (m : S.Monitor) (ranges : S.Ranges) (room : Room S) → Orderly L (start m ranges room)
start_orderly L m ranges room = record {
  phase = reads m ranges;
  fits = tt;
  due = tt;
  spelled = record { a = tt; b = tt; c = tt; d = tt; e = tt; f = tt; first_left = tt; last_right = tt; line = tt };
  shows = record {
    one = refl;
    two = refl;
    three = refl;
    four = refl;
    room = refl;
    a = refl;
    b = refl;
    c = refl;
    d = refl;
    e = refl;
    f = refl;
    first_left = refl;
    last_right = refl;
    first_got = refl;
    last_got = refl;
    more_one = tt;
    more_two_left = tt;
    more_two_right = tt;
    more_three_left = tt;
    more_three_right = tt;
    more_four = tt;
  };
}

-- the bytes in all are at the start what was written and the output of the session
pub start_bytes : {S : Sorts} (L : Language S) (m : S.Monitor) (ranges : S.Ranges) (room : Room S) → bytes_in_all L (start m ranges room) ≡ room.out ++ L.script_bytes room.db room.shelf ranges m room.script
start_bytes L m ranges room = refl
