-- The turn is in one place.
use Rattle.std.proofs.Common.{◌≡◌, ◌⊎◌, inl, inr, refl, ap, ◌∙◌, ℕ, true, false, List, [], ◌∷◌, ◌++◌, Some, None, map}
use Rattle.std.specs.declared.option.Option.{Option}
use Rattle.network_meaning.specs.Sorts.{Sorts, Message, Said, Shown}
use Rattle.network_meaning.specs.Sorts.{Said.shown, Message.text, Message.cargo, Message.said, Message.end, Message.quit}
use Rattle.network_meaning.specs.Language.{Language}
use Rattle.network_meaning.specs.LocalSteps.{Mode, Act, Room, Works}
use Rattle.network_meaning.specs.LocalSteps.{Mode.reading, Mode.waiting, Mode.printing, Mode.idle2, Mode.parsing, Mode.passing2, Mode.idle3, Mode.working3, Mode.passing3, Mode.idle4, Mode.working4, Mode.ended}
use Rattle.network_meaning.specs.MessageNetwork.{StageNumber, StageNumber.first}
use Rattle.network_meaning.specs.Network.{Network, Orderly, as_messages}
use Rattle.network_meaning.specs.Orderly.{Phase, Place, Front, front_mode, spread}
use Rattle.network_meaning.specs.Orderly.{Phase.reads, Phase.closes, Phase.sends, Phase.away, Phase.quits_a, Phase.quits_b, Phase.quits_c, Phase.over}
use Rattle.network_meaning.specs.Orderly.{Place.at_two, Place.in_b, Place.at_three, Place.in_c, Place.at_four, Place.in_d, Place.in_e_tables, Place.in_e_reply, Place.in_f}
use Rattle.network_meaning.specs.Turn.{has_turn, carries_left, carries_back, carriers, turns}
use Rattle.network_meaning.proofs.Whole.{shown_view}

-- what stage 1 prints of a statement carries nothing
said_back : {S : Sorts} (ss : List (Said S)) (ms : List (Message S)) (n : ℕ) → carriers carries_back (map said ss ++ ms) n ≡ carriers carries_back ms n
said_back [] ms n = refl
said_back (s ∷ ss) ms n = said_back ss ms n

pub shown_left : {S : Sorts} (ss : List (Shown S)) (ms : List (Message S)) (n : ℕ) → carriers carries_left (map (λ s. said (shown s)) ss ++ ms) n ≡ carriers carries_left ms n
shown_left [] ms n = refl
shown_left (s ∷ ss) ms n = shown_left ss ms n

waits : {S : Sorts} (m : S.Monitor) (o : Option S.Head) (prints : Option (Said S)) → has_turn first (front_mode m o prints) ≡ false
waits m o None = refl
waits m o (Some s) = refl

away_turns : {S : Sorts} (w : Front S) (p : Place S) (room : Room S) → turns (spread (away w p) room) ≡ 1
away_turns w (at_two b) room = rw (waits w.monitor w.open_head w.prints, said_back w.coming [] 0) refl
away_turns w (in_b line b t) room = rw (waits w.monitor w.open_head w.prints, said_back w.coming [] 0) refl
away_turns w (at_three line b t) room = rw (waits w.monitor w.open_head w.prints, said_back w.coming [] 0) refl
away_turns w (in_c line b x) room = rw (waits w.monitor w.open_head w.prints, said_back w.coming [] 0) refl
away_turns w (at_four line b x) room = rw (waits w.monitor w.open_head w.prints, said_back w.coming [] 0) refl
away_turns w (in_d line b r) room = rw (waits w.monitor w.open_head w.prints, said_back w.coming [] 0) refl
away_turns w (in_e_tables line b ss) room = rw (waits w.monitor w.open_head w.prints, said_back w.coming [] 0, shown_left ss (end ∷ []) 0) refl
away_turns w (in_e_reply line b r) room = rw (waits w.monitor w.open_head w.prints, said_back w.coming [] 0) refl
away_turns w in_f room = rw (waits w.monitor w.open_head w.prints, said_back w.coming (end ∷ []) 0) refl

-- in each phase the turn is in one place
pub phase_turns : {S : Sorts} (p : Phase S) (room : Room S) → turns (spread p room) ≡ 1
phase_turns (reads m ranges) room = refl
phase_turns (closes m o ranges) room = refl
phase_turns (sends m ranges t) room = refl
phase_turns (away w p) room = away_turns w p room
phase_turns (quits_a ranges) room = refl
phase_turns quits_b room = refl
phase_turns quits_c room = refl
phase_turns over room = refl

-- in an orderly network the turn is in one place
pub one_turn : {S : Sorts} (L : Language S) (n : Network S) → Orderly L n → turns (as_messages L n) ≡ 1
one_turn L n o = ap turns (shown_view L n (spread o.phase n.room) o.shows o.spelled) ∙ phase_turns o.phase n.room

-- who works without the turn leaves the database and the shelf
pub works_of_holder : {S : Sorts} (L : Language S) (k : StageNumber) (mode : Mode S) (room : Room S) (act : Act S) (new : Room S) → Works L mode room act new
    → (has_turn k mode ≡ true) ⊎ ((new.db ≡ room.db) × (new.shelf ≡ room.shelf))
works_of_holder L k (reading m) room act new w = inl refl
works_of_holder L k (waiting m o) room act new w = absurd w
works_of_holder L k (printing m o (text t)) room act new w = absurd w
works_of_holder L k (printing m o (cargo x)) room act new w = absurd w
works_of_holder L k (printing m o (said s)) room act new w = inr (ap (λ r. r.db) w.1, ap (λ r. r.shelf) w.1)
works_of_holder L k (printing m o end) room act new w = inl refl
works_of_holder L k (printing m o quit) room act new w = absurd w
works_of_holder L k (idle2 ranges) room act new w = absurd w
works_of_holder L k (parsing ranges b) room act new w = inl refl
works_of_holder L k (passing2 ranges line b) room act new w = absurd w
works_of_holder L k idle3 room act new w = absurd w
works_of_holder L k (working3 t) room act new w = inl refl
works_of_holder L k passing3 room act new w = absurd w
works_of_holder L k idle4 room act new w = absurd w
works_of_holder L k (working4 x) room act new w = inl refl
works_of_holder L k ended room act new w = absurd w
