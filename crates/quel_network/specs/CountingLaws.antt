-- What is counted falls.
use Rattle.std.specs.Prelude.{◌≡◌, ◌⊎◌, ◌≤◌, ◌<◌, ◌+◌, ◌*◌, ℕ, zero, suc}
use Rattle.std.proofs.Common.{inl, inr, refl, arith}
use Rattle.network_meaning.specs.Sorts.{Sorts, Meaning, Next, Read, Event}
use Rattle.network_meaning.specs.Sorts.{Reply.refused, Said.replied, Message.text, Message.said, Meaning.names, Meaning.objects, Meaning.runs, Next.no_more, Next.bad, Next.found, Event.goes_on, Event.sends, Event.leaves}
use Rattle.network_meaning.specs.Language.{Language, db_after, shelf_after}
use Rattle.network_meaning.specs.WorkLeft.{count, far, meaning_work, next_work, event_work}
use Rattle.quel_network.specs.Counting.{BatchWork, ScriptWork, costs, no_script, batch_within, script_within, batch_of, script_of, counted, StatementsFall, ReadsFall}
use Rattle.quel_network.specs.Orders.{within_itself, more_within}

-- ---- batches

-- the work of a statement, where the rest of its batch costs no less
meaning_grows : {S : Sorts} (L : Language S) (most : ℕ) (f g : BatchWork S) (h k : ScriptWork S) (db : S.Db) (shelf : S.Shelf) (ranges : S.Ranges) (line : ℕ) (b : S.Batch) (x : Meaning S)
    → ((d : S.Db) (s : S.Shelf) (r : S.Ranges) → f d s r b ≤ g d s r b)
    → meaning_work L (costs L most f h) db shelf ranges line b x ≤ meaning_work L (costs L most g k) db shelf ranges line b x
meaning_grows L most f g h k db shelf ranges line b (names ranges') le = le db shelf ranges'
meaning_grows {S = S} L most f g h k db shelf ranges line b (objects r) le =
    more_within (2 * count {S = S} L (said (replied (refused (L.lined line r))))) _ _ (more_within 1 _ _ (le db shelf ranges))
meaning_grows L most f g h k db shelf ranges line b (runs outcome) le =
    more_within (2 * most) _ _ (more_within (far L (costs L most f h) line outcome) _ _ (le (db_after db outcome) (shelf_after shelf outcome) ranges))

next_grows : {S : Sorts} (L : Language S) (most : ℕ) (f g : BatchWork S) (h k : ScriptWork S) (db : S.Db) (shelf : S.Shelf) (ranges : S.Ranges) (x : Next S)
    → ((s : S.Statement) (line : ℕ) (b : S.Batch) → x ≡ found s line b → (d : S.Db) (shelf' : S.Shelf) (r : S.Ranges) → f d shelf' r b ≤ g d shelf' r b)
    → next_work L (costs L most f h) db shelf ranges x ≤ next_work L (costs L most g k) db shelf ranges x
next_grows L most f g h k db shelf ranges no_more le = within_itself _
next_grows L most f g h k db shelf ranges (bad r) le = within_itself _
next_grows L most f g h k db shelf ranges (found s line b) le = meaning_grows L most f g h k db shelf ranges line b (L.meaning db shelf ranges s) (le s line b refl)

batch_grows : {S : Sorts} (L : Language S) (most n k : ℕ) → n ≤ k → (db : S.Db) (shelf : S.Shelf) (ranges : S.Ranges) (b : S.Batch) → batch_within L most n db shelf ranges b ≤ batch_within L most k db shelf ranges b
unfolding batch_within
batch_grows L most zero k h db shelf ranges b = omega arith
batch_grows L most (suc n) zero h db shelf ranges b = absurd (omega arith)
batch_grows L most (suc n) (suc k) h db shelf ranges b =
    more_within 1 _ _ (next_grows L most (batch_within L most n) (batch_within L most k) (no_script L) (no_script L) db shelf ranges (L.next b) (λ s line rest e d t r. batch_grows L most n k (omega arith) d t r rest))

-- the next statement leaves less
pub batch_falls : {S : Sorts} (L : Language S) (most : ℕ) (statements : S.Batch → ℕ) (reads : S.Monitor → S.Script → ℕ) → StatementsFall L statements
    → (db : S.Db) (shelf : S.Shelf) (ranges : S.Ranges) (b : S.Batch) → 1 + next_work L (counted L most statements reads) db shelf ranges (L.next b) ≤ batch_of L most statements db shelf ranges b
unfolding batch_within
batch_falls L most statements reads fall db shelf ranges b =
    more_within 1 _ _ (next_grows L most (batch_of L most statements) (batch_within L most (statements b)) (script_of L most statements reads) (no_script L) db shelf ranges (L.next b)
    (λ s line rest e d t r. batch_grows L most (suc (statements rest)) (statements b) (let h : statements rest < statements b = fall b s line rest e in omega arith) d t r rest))

-- ---- scripts

event_grows : {S : Sorts} (L : Language S) (most : ℕ) (f : BatchWork S) (h k : ScriptWork S) (db : S.Db) (ranges : S.Ranges) (got : Read S) (event : Event S)
    → (event ≡ leaves) ⊎ ((d : S.Db) (s : S.Shelf) (r : S.Ranges) → h d s r got.monitor got.script ≤ k d s r got.monitor got.script)
    → event_work L (costs L most f h) db ranges got event ≤ event_work L (costs L most f k) db ranges got event
event_grows L most f h k db ranges got goes_on (inl e) = absurd (cc e)
event_grows L most f h k db ranges got goes_on (inr le) = le db got.shelf ranges
event_grows L most f h k db ranges got (sends t) (inl e) = absurd (cc e)
event_grows {S = S} L most f h k db ranges got (sends t) (inr le) =
    let a = L.batch_runs db got.shelf ranges (L.start t) in
    more_within (2 * count {S = S} L (text t)) _ _ (more_within (f db got.shelf ranges (L.start t)) _ _ (le a.db a.shelf a.ranges))
event_grows L most f h k db ranges got leaves either = within_itself _

script_grows : {S : Sorts} (L : Language S) (most : ℕ) (f : BatchWork S) (n k : ℕ) → n ≤ k → (db : S.Db) (shelf : S.Shelf) (ranges : S.Ranges) (m : S.Monitor) (script : S.Script) → script_within L most f n db shelf ranges m script ≤ script_within L most f k db shelf ranges m script
unfolding script_within
script_grows L most f zero k h db shelf ranges m script = omega arith
script_grows L most f (suc n) zero h db shelf ranges m script = absurd (omega arith)
script_grows L most f (suc n) (suc k) h db shelf ranges m script =
    let got = L.read m script shelf in
    more_within 1 _ _ (event_grows L most f (script_within L most f n) (script_within L most f k) db ranges got got.event (inr (λ d s r. script_grows L most f n k (omega arith) d s r got.monitor got.script)))

-- the next read leaves less
pub script_falls : {S : Sorts} (L : Language S) (most : ℕ) (statements : S.Batch → ℕ) (reads : S.Monitor → S.Script → ℕ) → ReadsFall L reads
    → (db : S.Db) (shelf : S.Shelf) (ranges : S.Ranges) (m : S.Monitor) (script : S.Script)
    → 1 + (let got = L.read m script shelf in event_work L (counted L most statements reads) db ranges got got.event) ≤ script_of L most statements reads db shelf ranges m script
unfolding script_within
script_falls L most statements reads fall db shelf ranges m script =
    let got = L.read m script shelf in
    let f = batch_of L most statements in
    more_within 1 _ _ (event_grows L most f (script_of L most statements reads) (script_within L most f (reads m script)) db ranges got got.event
    (elim (fall m script shelf) [
      | inl e ↦ inl e
      | inr h ↦ inr (λ d s r. script_grows L most f (suc (reads got.monitor got.script)) (reads m script) (omega (arith, h)) d s r got.monitor got.script)
    ]))
