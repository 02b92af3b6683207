-- The steps of stage 1 while the turn is elsewhere.
use Rattle.std.proofs.Common.{List, [], ◌∷◌, ◌++◌, Some, None, map, refl, append_assoc}
use Rattle.std.specs.declared.option.Option.{Option}
use Rattle.network_meaning.specs.Sorts.{Sorts, Said}
use Rattle.network_meaning.specs.Sorts.{Message.said, Message.end}
use Rattle.network_meaning.specs.Language.{Language}
use Rattle.network_meaning.specs.LocalSteps.{Mode.printing, Mode.waiting, Room, is_due, turns_to, open_after, said_bytes, written}
use Rattle.network_meaning.specs.MessageNetwork.{MessageNetwork, StageNumber.first, MessageStep}
use Rattle.network_meaning.specs.Due.{IsDue}
use Rattle.network_meaning.specs.Spelled.{IsSpelled}
use Rattle.network_meaning.specs.Orderly.{Phase, Place, Phase.away, Phase.closes, spread, last_in_f}
use Rattle.network_meaning.specs.Orderly.{Place.at_two, Place.in_b, Place.at_three, Place.in_c, Place.at_four, Place.in_d, Place.in_e_tables, Place.in_e_reply, Place.in_f}
use Rattle.network_meaning.proofs.Keeps.{Keeps, taken, worked, due}

abbrev pub at : {S : Sorts} → S.Monitor → Option S.Head → Option (Said S) → List (Said S) → S.Ranges → Place S → Phase S
at m o prints coming ranges p = away (record { monitor = m; open_head = o; prints = prints; coming = coming; ranges = ranges }) p

takes_end : {S : Sorts} (L : Language S) (m : S.Monitor) (o : Option S.Head) (ranges : S.Ranges) (p : Place S) (room : Room S) (v' : MessageNetwork S) →
    MessageStep L first (spread (at m o None [] ranges p) room) v' → Keeps L (at m o None [] ranges p) room v'
takes_end L m o ranges in_f room v' (s', (act, e1, e2), e3) =
    taken L (at m o None [] ranges in_f) room first [] [] (turns_to (printing m o end)) act s' v' e1 e2 e3
    (record { phase = closes m o ranges; room = room; is = refl; routed = λ h. tt; fits = λ h. tt; due = tt; spelled = record { a = tt; b = tt; c = tt; d = tt; e = tt; f = tt; first_left = tt; last_right = tt; line = tt }; same = refl })
takes_end L m o ranges (at_two b) room v' (s', h, e3) = absurd h
takes_end L m o ranges (in_b line b t) room v' (s', h, e3) = absurd h
takes_end L m o ranges (at_three line b t) room v' (s', h, e3) = absurd h
takes_end L m o ranges (in_c line b x) room v' (s', h, e3) = absurd h
takes_end L m o ranges (at_four line b x) room v' (s', h, e3) = absurd h
takes_end L m o ranges (in_d line b r) room v' (s', h, e3) = absurd h
takes_end L m o ranges (in_e_tables line b ss) room v' (s', h, e3) = absurd h
takes_end L m o ranges (in_e_reply line b r) room v' (s', h, e3) = absurd h

pub front_step : {S : Sorts} (L : Language S) (m : S.Monitor) (o : Option S.Head) (prints : Option (Said S)) (coming : List (Said S)) (ranges : S.Ranges) (p : Place S) (room : Room S) (v' : MessageNetwork S) →
    IsDue L (spread (at m o prints coming ranges p) room) → IsSpelled L (spread (at m o prints coming ranges p) room) → MessageStep L first (spread (at m o prints coming ranges p) room) v' →
    Keeps L (at m o prints coming ranges p) room v'
front_step L m o None [] ranges p room v' d sp h = takes_end L m o ranges p room v' h
front_step L m o None (s ∷ ss) ranges p room v' d sp (s', (act, e1, e2), e3) =
    taken L (at m o None (s ∷ ss) ranges p) room first [] (map said ss ++ last_in_f p) (turns_to (printing m o (said s))) act s' v'
    (due (is_due L o s) (turns_to (printing m o (said s))) act e1) e2 e3
    (record { phase = at m o (Some s) ss ranges p; room = room; is = refl; routed = λ h. h; fits = λ h. h; due = d; spelled = record { a = tt; b = sp.b; c = sp.c; d = sp.d; e = sp.e; f = sp.f.1; first_left = tt; last_right = tt; line = sp.line }; same = refl })
front_step L m o (Some s) coming ranges p room v' d sp (s', (act, room', (e1, e2), e3), e4) =
    worked L (at m o (Some s) coming ranges p) room first (turns_to (waiting m (open_after o s))) act (written room (said_bytes L o s)) room' s' v' e1 e2 e3 e4
    (record { phase = at m (open_after o s) None coming ranges p; room = written room (said_bytes L o s); is = refl; routed = λ h. h; fits = λ h. h; due = d.1; spelled = record { a = tt; b = sp.b; c = sp.c; d = sp.d; e = sp.e; f = sp.f; first_left = tt; last_right = tt; line = sp.line }; same = simp append_assoc })
