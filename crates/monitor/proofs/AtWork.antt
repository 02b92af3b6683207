-- What the first stage did, as the work of the network.
use Rattle.std.proofs.Common.{◌≡◌, inl, inr, refl, sym, ap, subst, ◌∙◌, ℕ, true, false, List, [], ◌∷◌, ◌++◌, Some, None}
use Rattle.std.proofs.lemmas.List.{append-nil}
use Rattle.std.specs.Io.KnownBytes.{Appends}
use Rattle.std.specs.declared.option.Option.{Option}
use Rattle.calculus.specs.declared.reply.Column.{Column}
use Rattle.calculus.specs.Database.{Db}
use Rattle.calculus.specs.Rows.{Row}
use Rattle.fault_io.specs.Files.{Files, stored}
use Rattle.fault_io.specs.Known.{GrewBy, IsFront}
use Rattle.frame_codec.specs.declared.frame.Frame.{Frame}
use Rattle.frame_codec.specs.Messages.{message_frames}
use Rattle.message_codec.specs.declared.messages.StageMessage.{StageMessage}
use Rattle.message_codec.specs.declared.messages.StageMessage.TheVariants as stage
use Rattle.message_codec.specs.Messages.{message}
use Rattle.net_core.specs.Crashes.{IsForgotten}
use Rattle.net_core.specs.Known.{FailedWork, LeavesFiles, Outside, SparesFiles, StoresFile, known}
use Rattle.network_meaning.specs.Calls.{WorkDone}
use Rattle.network_meaning.specs.Failing.{Begins, work_bytes}
use Rattle.network_meaning.specs.Frames.{spell}
use Rattle.network_meaning.specs.Lawful.{FitWork}
use Rattle.network_meaning.specs.LocalSteps.{Mode.reading, Mode.printing, Room as NetworkRoom, Want.work, Works, closing, read_act, turns_to, written}
use Rattle.network_meaning.specs.MessageNetwork.{StageNumber.first}
use Rattle.network_meaning.specs.Network.{want}
use Rattle.network_meaning.specs.Sorts.{Read}
use Rattle.network_meaning.specs.Turn.{has_turn}
use Rattle.network_meaning.specs.WorkShape.{SendsSpelled, WorkShape}
use Rattle.quel_network.specs.Quel.{quel}
use Rattle.quel_network.specs.Reading.{read}
use Rattle.quel_network.specs.Sorts.{Monitor, User, quel_sorts}
use Rattle.quel_network.specs.Spelling.{payload_of}
use Rattle.quel_network.specs.SpellingLaws.{text_spelled_law}
use Rattle.monitor.specs.declared.at.At.{At}
use Rattle.monitor.specs.declared.at.At.TheVariants as at
use Rattle.monitor.specs.declared.event.Event.{Event as Came}
use Rattle.monitor.specs.declared.event.Event.TheVariants as came
use Rattle.monitor.specs.Doing.{HasDone, LeavesStored, ReadPartly, ReadThrough}
use Rattle.monitor.specs.Printing.{closing_of, printed_as}
use Rattle.monitor.specs.Reading.{was_read}
use Rattle.monitor.specs.Settling.{at_behind, event_of, files_behind, frames_behind}
use Rattle.monitor.specs.Standing.{IsDueAt, at_said, mode_at, standing, waits}

-- ---- where it stands

-- it is to work, so it has nothing to give, and doesn't wait
pub nothing_out : (m : Monitor) (here : At) (got out : List Frame) → want (standing m here got out) ≡ work → out ≡ []
nothing_out m here got [] e = refl
nothing_out m here got (f ∷ fs) e = absurd (cc e)

pub not_waiting : (m : Monitor) (here : At) (begun : Option (List Column)) (got out : List Frame) → here ≡ at.Waiting begun → want (standing m here got out) ≡ work → ⊥
not_waiting m here begun got out is e =
    let none = nothing_out m here got out e in
    let h : want (standing m (at.Waiting begun) got []) ≡ work = subst (λ (x : At). want (standing m x got []) ≡ work) is (subst (λ (fs : List Frame). want (standing m here got fs) ≡ work) none e) in
    cc h

pub not_ended : (m : Monitor) (here : At) (got out : List Frame) → here ≡ at.Ended → want (standing m here got out) ≡ work → ⊥
not_ended m here got out is e =
    let none = nothing_out m here got out e in
    let h : want (standing m at.Ended got []) ≡ work = subst (λ (x : At). want (standing m x got []) ≡ work) is (subst (λ (fs : List Frame). want (standing m here got fs) ≡ work) none e) in
    cc h

-- the database is the one before
same_db : (later db : Db) (before after : Option Db) → after ≡ Some later → after ≡ before → before ≡ Some db → later ≡ db
same_db later db before after e1 e2 e3 = let two : Some later ≡ Some db = sym e1 ∙ e2 ∙ e3 in cc

-- ---- printing

closing_same : (user : User) (begun : Option (List Column)) → closing (quel user) begun ≡ closing_of begun
unfolding quel
closing_same user None = refl
closing_same user (Some columns) = refl

row_same : (user : User) (begun : Option (List Column)) (values : Row) (room : NetworkRoom quel_sorts) (m : Monitor) → work_bytes (quel user) (printing m begun (message (stage.Row values))) room ≡ printed_as begun (stage.Row values)
unfolding quel
row_same user None values room m = refl
row_same user (Some columns) values room m = refl

bytes_same : (user : User) (m : Monitor) (begun : Option (List Column)) (s : StageMessage) (room : NetworkRoom quel_sorts) → work_bytes (quel user) (printing m begun (message s)) room ≡ printed_as begun s
unfolding quel
bytes_same user m begun (stage.Head columns) room = rw (closing_same user begun) refl
bytes_same user m begun (stage.Row values) room = row_same user begun values room m
bytes_same user m begun stage.Done room = rw (closing_same user begun) refl
bytes_same user m begun (stage.Refused r) room = rw (closing_same user begun) refl
bytes_same user m begun stage.End room = closing_same user begun
bytes_same user m begun (stage.Text t) room = refl
bytes_same user m begun (stage.Tree t) room = refl
bytes_same user m begun (stage.Change c) room = refl
bytes_same user m begun stage.Quit room = refl

shape_here : (user : User) (m : Monitor) (begun : Option (List Column)) (s : StageMessage) → IsDueAt (at.Printing begun s) → WorkShape (quel user) (printing m begun (message s)) (turns_to (mode_at m (at_said begun s)))
shape_here user m begun (stage.Head columns) due = refl
shape_here user m begun (stage.Row values) due = refl
shape_here user m begun stage.Done due = refl
shape_here user m begun (stage.Refused r) due = refl
shape_here user m begun stage.End due = refl
shape_here user m begun (stage.Text t) due = absurd (cc due)
shape_here user m begun (stage.Tree t) due = absurd (cc due)
shape_here user m begun (stage.Change c) due = absurd (cc due)
shape_here user m begun stage.Quit due = absurd (cc due)

works_here : (user : User) (m : Monitor) (begun : Option (List Column)) (s : StageMessage) (room : NetworkRoom quel_sorts) → IsDueAt (at.Printing begun s)
    → Works (quel user) (printing m begun (message s)) room (turns_to (mode_at m (at_said begun s))) (written room (work_bytes (quel user) (printing m begun (message s)) room))
works_here user m begun (stage.Head columns) room due = (refl, refl)
works_here user m begun (stage.Row values) room due = (refl, refl)
works_here user m begun stage.Done room due = (refl, refl)
works_here user m begun (stage.Refused r) room due = (refl, refl)
works_here user m begun stage.End room due = (refl, refl)
works_here user m begun (stage.Text t) room due = absurd (cc due)
works_here user m begun (stage.Tree t) room due = absurd (cc due)
works_here user m begun (stage.Change c) room due = absurd (cc due)
works_here user m begun stage.Quit room due = absurd (cc due)

row_fit : (user : User) (m : Monitor) (begun : Option (List Column)) (values : Row) (db : Db) → IsDueAt (at.Printing begun (stage.Row values)) → FitWork (quel user) (printing m begun (message (stage.Row values))) db
unfolding quel
row_fit user m None values db due = due
row_fit user m (Some columns) values db due = due

fit_here : (user : User) (m : Monitor) (begun : Option (List Column)) (s : StageMessage) (db : Db) → IsDueAt (at.Printing begun s) → FitWork (quel user) (printing m begun (message s)) db
fit_here user m begun (stage.Head columns) db due = refl
fit_here user m begun (stage.Row values) db due = row_fit user m begun values db due
fit_here user m begun stage.Done db due = refl
fit_here user m begun (stage.Refused r) db due = refl
fit_here user m begun stage.End db due = tt
fit_here user m begun (stage.Text t) db due = absurd (cc due)
fit_here user m begun (stage.Tree t) db due = absurd (cc due)
fit_here user m begun (stage.Change c) db due = absurd (cc due)
fit_here user m begun stage.Quit db due = absurd (cc due)

-- what is known of the outside but the output is as it was
pub record SameButOutput (o o' : Outside) : Type 0 where
  pub database : o'.database ≡ o.database
  pub files : o'.files ≡ o.files
  pub script : o'.script ≡ o.script

-- it has printed
printed_done : (user : User) (m : Monitor) (begun : Option (List Column)) (s : StageMessage) (got : List Frame) (o o' : Outside) → IsDueAt (at.Printing begun s) → SameButOutput o o' → Appends o.output o'.output (printed_as begun s)
    → WorkDone (quel user) (standing m (at.Printing begun s) got []) (standing m (at_said begun s) got []) (known o) (known o')
printed_done user m begun s got o o' due same wrote = record {
  act = turns_to (mode_at m (at_said begun s));
  is = refl;
  shape = shape_here user m begun s due;
  fit = λ db shelf there files. fit_here user m begun s db due;
  exact = λ room k.
      let bytes = work_bytes (quel user) (printing m begun (message s)) room in
      record {
        room' = written room bytes;
        known = record { db = same.database ∙ k.db; shelf = same.files ∙ k.shelf; script = same.script ∙ k.script };
        wrote = (bytes, refl, subst (λ (bs : List ℕ). Appends o.output o'.output bs) (sym (bytes_same user m begun s room)) wrote);
        works = works_here user m begun s room due;
      };
}

-- the same, wherever it stands
pub work_printed : (user : User) (m : Monitor) (here now : At) (begun : Option (List Column)) (s : StageMessage) (got out : List Frame) (o o' : Outside) → here ≡ at.Printing begun s → now ≡ at_said begun s → want (standing m here got out) ≡ work → IsDueAt here
    → SameButOutput o o' → Appends o.output o'.output (printed_as begun s) → WorkDone (quel user) (standing m here got out) (standing m now got out) (known o) (known o')
work_printed user m here now begun s got out o o' is then e due same wrote =
    rw (nothing_out m here got out e, is, then) (printed_done user m begun s got o o' (subst (λ (x : At). IsDueAt x) is due) same wrote)

-- it has printed in part
pub printed_partly : (user : User) (m : Monitor) (here : At) (begun : Option (List Column)) (s : StageMessage) (o o' : Outside) → here ≡ at.Printing begun s → SameButOutput o o' → GrewBy o.output o'.output (λ more. IsFront more (printed_as begun s))
    → FailedWork (quel user) (mode_at m here) o o'
printed_partly user m here begun s o o' is same wrote = subst (λ (x : At). FailedWork (quel user) (mode_at m x) o o') (sym is) (record {
  part = λ room k. record {
    front = wrote.0;
    begins = subst (λ (bs : List ℕ). Begins wrote.0 bs) (sym (bytes_same user m begun s room)) wrote.2;
    wrote = wrote.1;
    files = inl (same.files ∙ k.shelf);
    database = λ now there. inl (same_db now room.db o.database o'.database there same.database k.db);
  };
  files = λ files there. inl (same.files ∙ there);
})

-- then nothing is to be printed
pub due_printed : (here now : At) (begun : Option (List Column)) (s : StageMessage) → here ≡ at.Printing begun s → now ≡ at_said begun s → IsDueAt now
due_printed here now begun s is then = subst (λ (x : At). IsDueAt x) (sym then) (go s)
  where
    go : (s : StageMessage) → IsDueAt (at_said begun s)
    go (stage.Head columns) = tt
    go (stage.Row values) = tt
    go stage.Done = tt
    go (stage.Refused r) = tt
    go stage.End = tt
    go (stage.Text t) = tt
    go (stage.Tree t) = tt
    go (stage.Change c) = tt
    go stage.Quit = tt

-- where it had the turn it has it still
printed_turn : (P : Type 0) (m m' : Monitor) (begun : Option (List Column)) (s : StageMessage) → has_turn first (mode_at m (at.Printing begun s)) ≡ true → has_turn first (mode_at m' (at_said begun s)) ≡ false → P
printed_turn P m m' begun (stage.Head columns) had has = absurd (cc had)
printed_turn P m m' begun (stage.Row values) had has = absurd (cc had)
printed_turn P m m' begun stage.Done had has = absurd (cc had)
printed_turn P m m' begun (stage.Refused r) had has = absurd (cc had)
printed_turn P m m' begun stage.End had has = absurd (cc has)
printed_turn P m m' begun (stage.Text t) had has = absurd (cc had)
printed_turn P m m' begun (stage.Tree t) had has = absurd (cc had)
printed_turn P m m' begun (stage.Change c) had has = absurd (cc had)
printed_turn P m m' begun stage.Quit had has = absurd (cc had)

pub keeps_printing : (P : Type 0) (m m' : Monitor) (here now : At) (begun : Option (List Column)) (s : StageMessage) → here ≡ at.Printing begun s → now ≡ at_said begun s → has_turn first (mode_at m here) ≡ true → has_turn first (mode_at m' now) ≡ false → P
keeps_printing P m m' here now begun s is then had has =
    printed_turn P m m' begun s (subst (λ (x : At). has_turn first (mode_at m x) ≡ true) is had) (subst (λ (x : At). has_turn first (mode_at m' x) ≡ false) then has)

-- ---- reading

-- what was read, by the event of the network
was_as : (event : Came) (m : Monitor) (shelf : Files) (bytes script : List ℕ)
    → was_read event m shelf bytes script ≡ record { monitor = m; script = script; shelf = files_behind event shelf m.buffer.text; bytes = bytes; event = event_of event m.buffer.text }
was_as came.GoesOn m shelf bytes script = refl
was_as came.Sends m shelf bytes script = refl
was_as came.Leaves m shelf bytes script = refl
was_as (came.Stores name) m shelf bytes script = refl

sends_spelled : (user : User) (event : Came) (bytes : List ℕ) → SendsSpelled (quel user) (event_of event bytes)
sends_spelled user came.GoesOn bytes = tt
sends_spelled user came.Sends bytes = text_spelled_law user bytes
sends_spelled user came.Leaves bytes = tt
sends_spelled user (came.Stores name) bytes = tt

stands_behind : (user : User) (event : Came) (m : Monitor) (got : List Frame)
    → standing m (at_behind event) got (frames_behind event m.buffer.text)
    ≡ record { mode = (read_act m (event_of event m.buffer.text)).mode; got_left = []; got_right = got; out_left = spell (quel user) (read_act m (event_of event m.buffer.text)).left; out_right = spell (quel user) (read_act m (event_of event m.buffer.text)).right }
unfolding quel payload_of
stands_behind user came.GoesOn m got = refl
stands_behind user came.Sends m got = ap (λ (fs : List Frame). standing m (at.Waiting None) got fs) (sym (append-nil (message_frames 1 m.buffer.text)))
stands_behind user came.Leaves m got = ap (λ (fs : List Frame). standing m at.Ended got fs) (sym (append-nil (message_frames 10 [])))
stands_behind user (came.Stores name) m got = refl

reads_so : (user : User) (m : Monitor) (room room' : NetworkRoom quel_sorts) (got : Read quel_sorts) → read m room.script room.shelf ≡ got → room' ≡ record { db = room.db; shelf = got.shelf; script = got.script; out = room.out ++ got.bytes }
    → Works (quel user) (reading m) room (read_act got.monitor got.event) room'
unfolding quel
reads_so user m room room' got e same = rw e (refl, same)

-- it has read
read_done : (user : User) (m m' : Monitor) (here : At) (got out : List Frame) (o o' : Outside) → o'.database ≡ o.database → HasDone m m' here out o.script o'.script o.files o'.files o.output o'.output
    → WorkDone (quel user) (standing m at.Reading got []) (standing m' here got out) (known o) (known o')
read_done user m m' here got out o o' db h = record {
  act = read_act m' (event_of h.event m'.buffer.text);
  is = rw (h.stands, h.gives) (stands_behind user h.event m' got);
  shape = record { monitor = m'; event = event_of h.event m'.buffer.text; spelled = sends_spelled user h.event m'.buffer.text; is = refl };
  fit = λ now shelf there files. tt;
  exact = λ room k.
      let t : ReadThrough m room.shelf room.script h.event m' o'.script o'.files o.output o'.output = h.exact room.shelf room.script k.shelf k.script in
      let shelf = files_behind h.event room.shelf m'.buffer.text in
      let came : read m room.script room.shelf ≡ record { monitor = m'; script = t.rest; shelf = shelf; bytes = t.bytes; event = event_of h.event m'.buffer.text } = t.is ∙ was_as h.event m' room.shelf t.bytes t.rest in
      record {
        room' = record { db = room.db; shelf = shelf; script = t.rest; out = room.out ++ t.bytes };
        known = record { db = db ∙ k.db; shelf = t.files_so; script = t.left_so };
        wrote = (t.bytes, refl, t.wrote);
        works = reads_so user m room _ _ came refl;
      };
}

-- the same, wherever it stands
pub work_read : (user : User) (m m' : Monitor) (here now : At) (got out out' : List Frame) (o o' : Outside) → here ≡ at.Reading → want (standing m here got out) ≡ work → o'.database ≡ o.database
    → HasDone m m' now out' o.script o'.script o.files o'.files o.output o'.output → WorkDone (quel user) (standing m here got out) (standing m' now got out') (known o) (known o')
work_read user m m' here now got out out' o o' is e db h = rw (nothing_out m here got out e, is) (read_done user m m' now got out' o o' db h)

read_writes : (user : User) (m : Monitor) (room : NetworkRoom quel_sorts) → work_bytes (quel user) (reading m) room ≡ (read m room.script room.shelf).bytes
unfolding quel
read_writes user m room = refl

-- reading this script stores this file
stores_so : (user : User) (m : Monitor) (room : NetworkRoom quel_sorts) (name bytes : List ℕ) → (read m room.script room.shelf).shelf ≡ stored room.shelf name bytes → StoresFile (quel user) (reading m) room name bytes
unfolding quel
stores_so user m room name bytes e =
    let got = read m room.script room.shelf in
    (read_act got.monitor got.event, record { db = room.db; shelf = got.shelf; script = got.script; out = room.out ++ got.bytes }, (refl, refl), e)

left_files : (user : User) (m : Monitor) (room : NetworkRoom quel_sorts) (files : Option Files) → LeavesStored m room.shelf room.script files → LeavesFiles (quel user) (reading m) room files
left_files user m room files (inl e) = inl e
left_files user m room files (inr h) = inr (h.0, h.1, stores_so user m room h.0 h.1 h.2, h.3)

-- a room with these files and this script
abbrev some_room : Files → List ℕ → NetworkRoom quel_sorts
some_room files script = record { db = record { dba = []; relations = []; indexes = []; views = []; rules = []; permits = [] }; shelf = files; script = script; out = [] }

spared_files : (user : User) (m : Monitor) (files : Files) (script : List ℕ) (files' : Option Files) → LeavesStored m files script files' → SparesFiles (quel user) (reading m) files files'
spared_files user m files script files' (inl e) = inl e
spared_files user m files script files' (inr h) = inr (h.0, h.1, (some_room files script, refl, stores_so user m (some_room files script) h.0 h.1 h.2), h.3)

-- it has read in part
pub read_partly : (user : User) (m : Monitor) (here : At) (o o' : Outside) → here ≡ at.Reading → o'.database ≡ o.database → ReadPartly m o.script o.files o'.files o.output o'.output → FailedWork (quel user) (mode_at m here) o o'
read_partly user m here o o' is db h = subst (λ (x : At). FailedWork (quel user) (mode_at m x) o o') (sym is) (record {
  part = λ room k.
      let wrote = h.wrote room.shelf room.script k.shelf k.script in
      record {
        front = wrote.0;
        begins = subst (λ (bs : List ℕ). Begins wrote.0 bs) (sym (read_writes user m room)) wrote.2;
        wrote = wrote.1;
        files = left_files user m room o'.files (h.kept room.shelf room.script k.shelf k.script);
        database = λ now there. inl (same_db now room.db o.database o'.database there db k.db);
      };
  files = λ files there. let any = h.any files there in spared_files user m files any.0 o'.files any.1;
})

-- where it has given the turn away, the database was handed over
pub hands_reading : (m : Monitor) (here : At) (event : Came) (schema database : Option Db) → here ≡ at_behind event → (waits here ≡ true → IsForgotten schema database) → has_turn first (mode_at m here) ≡ false → IsForgotten schema database
hands_reading m here event schema database is handed has =
    go event (subst (λ (x : At). waits x ≡ true → IsForgotten schema database) is handed) (subst (λ (x : At). has_turn first (mode_at m x) ≡ false) is has)
  where
    go : (event : Came) → (waits (at_behind event) ≡ true → IsForgotten schema database) → has_turn first (mode_at m (at_behind event)) ≡ false → IsForgotten schema database
    go came.GoesOn h e = absurd (cc e)
    go came.Sends h e = h refl
    go came.Leaves h e = absurd (cc e)
    go (came.Stores name) h e = absurd (cc e)
