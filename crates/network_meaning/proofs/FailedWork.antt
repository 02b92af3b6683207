-- What a piece of work that fails has written begins the bytes in all.
use Rattle.std.proofs.Common.{◌≡◌, ℕ, List, [], ◌++◌, Some, None, refl, sym, subst, append_assoc}
use Rattle.std.proofs.lemmas.List.{append-nil}
use Rattle.std.specs.declared.option.Option.{Option}
use Rattle.network_meaning.specs.Sorts.{Sorts, Said, Event, Event.goes_on, Event.sends, Event.leaves}
use Rattle.network_meaning.specs.Language.{Language, after_event}
use Rattle.network_meaning.specs.Laws.{Laws}
use Rattle.network_meaning.specs.LocalSteps.{Mode, Room, closing, said_bytes}
use Rattle.network_meaning.specs.MessageNetwork.{beside, StageNumber, StageNumber.first, StageNumber.second, StageNumber.third, StageNumber.fourth}
use Rattle.network_meaning.specs.Held.{total}
use Rattle.network_meaning.specs.Orderly.{Phase, Place, spread, Phase.reads, Phase.closes, Phase.sends, Phase.away, Phase.quits_a, Phase.quits_b, Phase.quits_c, Phase.over}
use Rattle.network_meaning.specs.Orderly.{Place.at_two, Place.at_three, Place.at_four}
use Rattle.network_meaning.specs.Network.{Network, between, Orderly, bytes_in_all}
use Rattle.network_meaning.specs.Failing.{work_bytes, Begins}
use Rattle.network_meaning.proofs.Front.{at}
use Rattle.network_meaning.proofs.Whole.{total_of}

-- a front of what comes next
begins_front : (out front bytes all : List ℕ) → Begins front bytes → Begins (out ++ bytes) all → Begins (out ++ front) all
begins_front out front bytes all (r, e) (s, e2) = (r ++ s, rw (e2, e) (simp append_assoc))

begins_next : (out bytes rest : List ℕ) → Begins (out ++ bytes) (out ++ (bytes ++ rest))
begins_next out bytes rest = (rest, sym (append_assoc out bytes rest))

begins_in : (out bytes more rest : List ℕ) → Begins (out ++ bytes) (out ++ ((bytes ++ more) ++ rest))
begins_in out bytes more rest = (more ++ rest, rw (append_assoc bytes more rest) (sym (append_assoc out bytes (more ++ rest))))

begins_none : (out rest : List ℕ) → Begins (out ++ []) (out ++ rest)
begins_none out rest = (rest, rw (append-nil out) refl)

reads_bytes : {S : Sorts} (L : Language S) (m : S.Monitor) (ranges : S.Ranges) (room : Room S) (event : Event S) →
    L.script_bytes room.db room.shelf ranges m room.script ≡ after_event L room.db ranges (L.read m room.script room.shelf) event →
    Begins (room.out ++ (L.read m room.script room.shelf).bytes) (room.out ++ L.script_bytes room.db room.shelf ranges m room.script)
reads_bytes L m ranges room goes_on e = rw e (begins_next room.out (L.read m room.script room.shelf).bytes _)
reads_bytes L m ranges room (sends t) e = rw e (begins_next room.out (L.read m room.script room.shelf).bytes _)
reads_bytes L m ranges room leaves e = rw e ([], sym (append-nil (room.out ++ (L.read m room.script room.shelf).bytes)))

front_bytes : {S : Sorts} (L : Language S) (m : S.Monitor) (o : Option S.Head) (prints : Option (Said S)) (coming : List (Said S)) (ranges : S.Ranges) (p : Place S) (room : Room S) →
    Begins (room.out ++ work_bytes L (spread (at m o prints coming ranges p) room).one room) (total L (spread (at m o prints coming ranges p) room))
front_bytes L m o None coming ranges p room = begins_none room.out _
front_bytes L m o (Some s) coming ranges p room = begins_in room.out (said_bytes L o s) _ _

-- what is written, and the bytes of the work of a stage, begin the bytes in all
writes : {S : Sorts} (L : Language S) (laws : Laws L) (p : Phase S) (room : Room S) (k : StageNumber) → Begins (room.out ++ work_bytes L (beside (spread p room) k).mode room) (total L (spread p room))
writes L laws (reads m ranges) room first = reads_bytes L m ranges room (L.read m room.script room.shelf).event (laws.script room.db room.shelf ranges m room.script)
writes L laws (closes m o ranges) room first = begins_in room.out (closing L o) [] _
writes L laws (away w p) room first = front_bytes L w.monitor w.open_head w.prints w.coming w.ranges p room
writes L laws (away w (at_two b)) room second = begins_none room.out _
writes L laws (away w (at_three line b t)) room third = begins_none room.out _
writes L laws (away w (at_four line b x)) room fourth = begins_none room.out _
writes L laws (sends m ranges t) room first = begins_none room.out _
writes L laws (quits_a ranges) room first = begins_none room.out _
writes L laws quits_b room first = begins_none room.out _
writes L laws quits_c room first = begins_none room.out _
writes L laws over room first = begins_none room.out _
writes L laws _ room _ = begins_none room.out _

-- the same at a stage whose mode this is
writes_at : {S : Sorts} (L : Language S) (laws : Laws L) (k : StageNumber) (n : Network S) (o : Orderly L n) (mode : Mode S) → (beside (spread o.phase n.room) k).mode ≡ mode → Begins (n.room.out ++ work_bytes L mode n.room) (bytes_in_all L n)
writes_at L laws k n o mode e =
    rw (total_of L n (spread o.phase n.room) o.shows o.spelled) (subst (λ (m : Mode _). Begins (n.room.out ++ work_bytes L m n.room) (total L (spread o.phase n.room))) e (writes L laws o.phase n.room k))

mode_bytes : {S : Sorts} (L : Language S) (laws : Laws L) (k : StageNumber) (n : Network S) → Orderly L n → Begins (n.room.out ++ work_bytes L (between n k).stage.mode n.room) (bytes_in_all L n)
mode_bytes L laws first n o = writes_at L laws first n o n.one.mode o.shows.one
mode_bytes L laws second n o = writes_at L laws second n o n.two.mode o.shows.two
mode_bytes L laws third n o = writes_at L laws third n o n.three.mode o.shows.three
mode_bytes L laws fourth n o = writes_at L laws fourth n o n.four.mode o.shows.four

-- what is written and a front of the bytes of a stage's work begin the bytes in all
pub failed_work : {S : Sorts} (L : Language S) (laws : Laws L) (k : StageNumber) (n : Network S) (front : List ℕ) → Orderly L n → Begins front (work_bytes L (between n k).stage.mode n.room) → Begins (n.room.out ++ front) (bytes_in_all L n)
failed_work L laws k n front o h = begins_front n.room.out front (work_bytes L (between n k).stage.mode n.room) (bytes_in_all L n) h (mode_bytes L laws k n o)
