-- The work that is left: a number that each step lowers.
use Rattle.std.specs.Prelude.{◌≤◌, ◌+◌, ◌*◌, ℕ, List, [], ◌∷◌, ◌++◌, length, Some, None, map}
use Rattle.std.specs.declared.option.Option.{Option}
use Rattle.network_meaning.specs.Sorts.{Sorts, Message, Outcome, Meaning, Next, Event, Read}
use Rattle.network_meaning.specs.Sorts.{Cargo.tree, Cargo.change, Reply.done, Reply.refused, Said.shown, Said.replied, Message.text, Message.cargo, Message.said, Message.end, Message.quit, Outcome.tables, Outcome.made, Outcome.refuses, Meaning.names, Meaning.objects, Meaning.runs, Next.no_more, Next.bad, Next.found, Event.goes_on, Event.sends, Event.leaves}
use Rattle.network_meaning.specs.Language.{Language, db_after, shelf_after}
use Rattle.network_meaning.specs.Frames.{frames}
use Rattle.network_meaning.specs.LocalSteps.{Want, all_shown, outcome_of, Want.work, want_of}
use Rattle.network_meaning.specs.MessageNetwork.{MessageNetwork, StageNumber, beside}
use Rattle.network_meaning.specs.Network.{Network, as_messages}
use Rattle.network_meaning.specs.Held.{with_line, kept, line_at, ranges_at, monitor_at, batches, travels, at_four, at_three}

-- how much work the rest of a batch and of a script is, and the most frames that a tree or a change has
pub record Work {S : Sorts} (L : Language S) : Type 0 where
  pub batch_work : S.Db → S.Shelf → S.Ranges → S.Batch → ℕ
  pub script_work : S.Db → S.Shelf → S.Ranges → S.Monitor → S.Script → ℕ
  -- no fit tree and no lawful change has more frames
  pub most : ℕ

-- how many frames a message has
abbrev pub count : {S : Sorts} → Language S → Message S → ℕ
count L m = length (frames L m)

-- how many frames messages have
abbrev pub size : {S : Sorts} → Language S → List (Message S) → ℕ
size L [] = 0
size L (m ∷ ms) = count L m + size L ms

-- to be given to F, taken and printed
abbrev pub e_cost : {S : Sorts} → Language S → ℕ → List (Message S) → ℕ
e_cost L line [] = 0
e_cost L line (m ∷ ms) = 2 * count L (with_line L line m) + (1 + e_cost L line ms)

-- to be given to E before
abbrev pub d_cost : {S : Sorts} → Language S → ℕ → List (Message S) → ℕ
d_cost L line [] = 0
d_cost L line (m ∷ ms) = 2 * count L m + (2 * count L (with_line L line m) + (1 + d_cost L line ms))

-- what is said of an outcome
abbrev pub said_of : {S : Sorts} → Outcome S → List (Message S)
said_of (tables ts) = map (λ s. said (shown s)) (all_shown ts) ++ end ∷ []
said_of (made db shelf) = said (replied done) ∷ []
said_of (refuses r) = said (replied (refused r)) ∷ []

-- the work at stage 4 or 3 until an outcome is printed
abbrev pub near : {S : Sorts} → Language S → ℕ → Outcome S → ℕ
near L line outcome = 1 + (2 * size L (said_of outcome) + d_cost L line (said_of outcome))

-- the work from stage 3 on, where stage 4 carries out
abbrev pub far : {S : Sorts} (L : Language S) → Work L → ℕ → Outcome S → ℕ
far L W line outcome = 1 + (2 * W.most + near L line outcome)

-- the work of a statement of this meaning and of the rest of its batch
abbrev pub meaning_work : {S : Sorts} (L : Language S) → Work L → S.Db → S.Shelf → S.Ranges → ℕ → S.Batch → Meaning S → ℕ
meaning_work L W db shelf ranges line b (names ranges') = W.batch_work db shelf ranges' b
meaning_work L W db shelf ranges line b (objects r) = 2 * count L (said (replied (refused (L.lined line r)))) + (1 + W.batch_work db shelf ranges b)
meaning_work L W db shelf ranges line b (runs outcome) = 2 * W.most + (far L W line outcome + W.batch_work (db_after db outcome) (shelf_after shelf outcome) ranges b)

-- the work of a batch, by its next statement
abbrev pub next_work : {S : Sorts} (L : Language S) → Work L → S.Db → S.Shelf → S.Ranges → Next S → ℕ
next_work L W db shelf ranges no_more = 2 * count L end + 1
next_work L W db shelf ranges (bad r) = 2 * count L (said (replied (refused r))) + (2 * count L end + 2)
next_work L W db shelf ranges (found s line b) = meaning_work L W db shelf ranges line b (L.meaning db shelf ranges s)

-- the work of a script, by what reading comes to
abbrev pub event_work : {S : Sorts} (L : Language S) → Work L → S.Db → S.Ranges → Read S → Event S → ℕ
event_work L W db ranges got goes_on = W.script_work db got.shelf ranges got.monitor got.script
event_work L W db ranges got (sends t) =
    let a = L.batch_runs db got.shelf ranges (L.start t) in
    2 * count L (text t) + (W.batch_work db got.shelf ranges (L.start t) + W.script_work a.db a.shelf a.ranges got.monitor got.script)
event_work L W db ranges got leaves = 6 * count L quit

-- each next statement and each next read leaves less
pub record WorkLaws {S : Sorts} (L : Language S) (W : Work L) : Type 0 where
  pub batch : (db : S.Db) (shelf : S.Shelf) (ranges : S.Ranges) (b : S.Batch) → 1 + next_work L W db shelf ranges (L.next b) ≤ W.batch_work db shelf ranges b
  pub script : (db : S.Db) (shelf : S.Shelf) (ranges : S.Ranges) (m : S.Monitor) (script : S.Script) → 1 + (let got = L.read m script shelf in event_work L W db ranges got got.event) ≤ W.script_work db shelf ranges m script
  pub tree : (t : S.Tree) (db : S.Db) → L.Fits t db → count {S = S} L (cargo (tree t)) ≤ W.most
  pub change : (c : S.Change) (db : S.Db) → L.IsLawful c db → count {S = S} L (cargo (change c)) ≤ W.most

-- the work of what stage 4 has or is about to take
abbrev pub near_of : {S : Sorts} → Language S → ℕ → S.Db → S.Shelf → List (Message S) → ℕ
near_of L line db shelf [] = 0
near_of L line db shelf (cargo x ∷ xs) = near L line (outcome_of L x db shelf) + near_of L line db shelf xs
near_of L line db shelf (_ ∷ xs) = near_of L line db shelf xs

-- the work of what stage 3 has or is about to take
abbrev pub far_of : {S : Sorts} (L : Language S) → Work L → ℕ → S.Db → S.Shelf → List (Message S) → ℕ
far_of L W line db shelf [] = 0
far_of L W line db shelf (cargo x ∷ xs) = far L W line (outcome_of L x db shelf) + far_of L W line db shelf xs
far_of L W line db shelf (_ ∷ xs) = far_of L W line db shelf xs

-- what the messages on their way, and the statement that travels, cost. `later` is what the rest costs
abbrev pub quit_cost : {S : Sorts} → Language S → List (Message S) → ℕ
quit_cost L [] = 0
quit_cost L (quit ∷ ms) = count L quit + quit_cost L ms
quit_cost L (text t ∷ ms) = quit_cost L ms
quit_cost L (cargo x ∷ ms) = quit_cost L ms
quit_cost L (said s ∷ ms) = quit_cost L ms
quit_cost L (end ∷ ms) = quit_cost L ms

-- the work of all that is on its way
abbrev pub moving : {S : Sorts} (L : Language S) → Work L → MessageNetwork S → ℕ
moving L W v =
    length (kept v.one) + (length v.f + (e_cost L (line_at v.two) v.e + (d_cost L (line_at v.two) v.d
    + (near_of L (line_at v.two) v.room.db v.room.shelf (at_four v.four ++ v.c) + far_of L W (line_at v.two) v.room.db v.room.shelf (at_three v.three ++ v.b)))))

-- the frames that stage k has given, all the way
abbrev pub gifts : {S : Sorts} → Language S → StageNumber → MessageNetwork S → ℕ
gifts L k v = size L (beside v k).left_out + size L (beside v k).right_out

-- the work of the rest of the script
abbrev pub script_later : {S : Sorts} (L : Language S) → Work L → S.Db → S.Shelf → S.Ranges → Option S.Monitor → S.Script → ℕ
script_later L W db shelf ranges None script = 0
script_later L W db shelf ranges (Some m) script = W.script_work db shelf ranges m script

-- the work of the rest of the batches and of the script
abbrev pub batch_later : {S : Sorts} (L : Language S) → Work L → S.Db → S.Shelf → S.Ranges → List S.Batch → Option S.Monitor → S.Script → ℕ
batch_later L W db shelf ranges [] m script = script_later L W db shelf ranges m script
batch_later L W db shelf ranges (b ∷ bs) m script =
    let a = L.batch_runs db shelf ranges b in
    W.batch_work db shelf ranges b + batch_later L W a.db a.shelf a.ranges bs m script

-- the same, behind what travels as a tree or a change
abbrev pub cargo_later : {S : Sorts} (L : Language S) → Work L → S.Db → S.Shelf → S.Ranges → List (Message S) → List S.Batch → Option S.Monitor → S.Script → ℕ
cargo_later L W db shelf ranges [] bs m script = batch_later L W db shelf ranges bs m script
cargo_later L W db shelf ranges (cargo x ∷ xs) bs m script = cargo_later L W (db_after db (outcome_of L x db shelf)) (shelf_after shelf (outcome_of L x db shelf)) ranges xs bs m script
cargo_later L W db shelf ranges (_ ∷ xs) bs m script = cargo_later L W db shelf ranges xs bs m script

-- the work of the rest, where stage 2 has these ranges; none where it has ended
abbrev pub later_from : {S : Sorts} (L : Language S) → Work L → MessageNetwork S → Option S.Ranges → ℕ
later_from L W v None = 0
later_from L W v (Some ranges) = cargo_later L W v.room.db v.room.shelf ranges (travels v) (batches L v) (monitor_at v.one) v.room.script

-- the work that is left in the network of messages
abbrev pub weight : {S : Sorts} (L : Language S) → Work L → MessageNetwork S → ℕ
weight L W v = moving L W v + (4 * quit_cost L v.a + (2 * quit_cost L v.b + later_from L W v (ranges_at v.two)))

-- a piece of work counts one
abbrev pub cost : Want → ℕ
cost work = 1
cost _ = 0

-- what is left falls by what a step gives, and by one where it works
pub record Lowers {S : Sorts} (L : Language S) (W : Work L) (k : StageNumber) (v v' : MessageNetwork S) : Type 0 where
  pub lower : weight L W v' + (2 * gifts L k v' + cost (want_of (beside v k).mode)) ≤ weight L W v + 2 * gifts L k v

-- the frames to be given, each counted twice, and those in pipes
abbrev pub frames_in : {S : Sorts} → Network S → ℕ
frames_in n =
    (2 * (length n.one.out_left + length n.one.out_right) + (2 * (length n.two.out_left + length n.two.out_right)
    + (2 * (length n.three.out_left + length n.three.out_right) + 2 * (length n.four.out_left + length n.four.out_right))))
    + (length n.a + (length n.b + (length n.c + (length n.d + (length n.e + length n.f)))))

-- the work that is left
abbrev pub work_left : {S : Sorts} (L : Language S) → Work L → Network S → ℕ
work_left L W n = weight L W (as_messages L n) + frames_in n
