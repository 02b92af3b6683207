-- What a crash leaves while a run goes on, behind one step more.
use Rattle.std.proofs.Common.{◌≡◌, ℕ, List, [], ◌++◌, Option, refl, sym, ap, subst, ◌∙◌, append_assoc, append-nil}
use Rattle.base_trait.proofs.Crashes.{leaves_as, leaves_more, nothing_else}
use Rattle.calculus.specs.Database.{Db}
use Rattle.net_core.specs.Crashes.{StepLeaves, StepMayLeave}
use Rattle.net_core.specs.Moves.{At, LocalRun, Move, StepsBy, gave_left, gave_right, took_left, took_right, worked}
use Rattle.net_core.specs.Known.{Outside, known}
use Rattle.net_core.specs.WholeLoop.{LoopLeaves, MovesMayLeave}
use Rattle.network_meaning.specs.Calls.{Knows}
use Rattle.network_meaning.specs.Language.{Language}
use Rattle.network_meaning.specs.LocalSteps.{Room as NetworkRoom}
use Rattle.quel_network.specs.Sorts.{quel_sorts}

-- where one room is known, another is
abbrev pub KnowsOn : At → At → Type 0
KnowsOn a b = (room : NetworkRoom quel_sorts) → Knows (known a.outside) room → (room' : NetworkRoom quel_sorts) × Knows (known b.outside) room'

same_knows : (a b : Outside) (room : NetworkRoom quel_sorts) → b ≡ a → Knows (known a) room → (room' : NetworkRoom quel_sorts) × Knows (known b) room'
same_knows a b room e t = (room, subst (λ (o : Outside). Knows (known o) room) (sym e) t)

-- a room that is known before a step is known behind it
pub step_knows : (L : Language quel_sorts) (m : Move) (a b : At) → StepsBy L m a b → KnowsOn a b
step_knows L (took_left frame) a b (w, t, (e, k)) room known = same_knows a.outside b.outside room e known
step_knows L (took_right frame) a b (w, t, (e, k)) room known = same_knows a.outside b.outside room e known
step_knows L (gave_left frame) a b (w, t, (e, k)) room known = same_knows a.outside b.outside room e known
step_knows L (gave_right frame) a b (w, t, (e, k)) room known = same_knows a.outside b.outside room e known
step_knows L worked a b (w, done, q, h) room known = let x = done.exact room known in (x.room', x.known)

pub nothing_left : (L : Language quel_sorts) (start : At) (left : ℕ → Option Db → Type 0) → LoopLeaves L [] start start.outside.clock left left
nothing_left L start left room t = nothing_else (MovesMayLeave L [] start) start.outside.clock left

-- what some steps may leave they may with others behind them
may_leave_on : (L : Language quel_sorts) (ms ls : List Move) (start : At) (o : Option Db) → MovesMayLeave L ms start o → MovesMayLeave L (ms ++ ls) start o
may_leave_on L ms ls start o m = record {
  first = m.first;
  later = m.later ++ ls;
  is = ap (λ (x : List Move). x ++ ls) m.is ∙ append_assoc m.first m.later ls;
  before = m.before;
  room = m.room;
  runs = m.runs;
  known = m.known;
  leaves = m.leaves;
}

pub leaves_on : (L : Language quel_sorts) (ms ls : List Move) (start : At) (now : ℕ) (left left' : ℕ → Option Db → Type 0) → LoopLeaves L ms start now left left' → LoopLeaves L (ms ++ ls) start now left left'
leaves_on L ms ls start now left left' c room t = leaves_as (MovesMayLeave L ms start) (MovesMayLeave L (ms ++ ls) start) start.outside.clock now left left' (may_leave_on L ms ls start) (c room t)

-- a step behind these, whether it failed or not
pub leaves_behind : (L : Language quel_sorts) (ms ls : List Move) (start p : At) (new : Outside) (left left' left'' : ℕ → Option Db → Type 0) → LocalRun L ms start p → KnowsOn start p →
    LoopLeaves L ms start p.outside.clock left left' → StepLeaves L p.state p.outside new left' left'' → LoopLeaves L (ms ++ ls) start new.clock left left''
leaves_behind L ms ls start p new left left' left'' runs knows c step room t =
    let mid = knows room t in
    leaves_more (MovesMayLeave L (ms ++ ls) start) (StepMayLeave L p.state mid.0) start.outside.clock p.outside.clock new.clock left left' left''
    (λ o may. record { first = ms; later = ls; is = refl; before = p; room = mid.0; runs = runs; known = mid.1; leaves = may })
    (leaves_on L ms ls start p.outside.clock left left' c room t) (step mid.0 mid.1)

pub leaves_at : (L : Language quel_sorts) (ms ls : List Move) (start : At) (now : ℕ) (left left' : ℕ → Option Db → Type 0) → ls ≡ ms → LoopLeaves L ms start now left left' → LoopLeaves L ls start now left left'
leaves_at L ms ls start now left left' e c = subst (λ (x : List Move). LoopLeaves L x start now left left') (sym e) c

pub leaves_alone : (L : Language quel_sorts) (ms : List Move) (start : At) (now : ℕ) (left left' : ℕ → Option Db → Type 0) → LoopLeaves L (ms ++ []) start now left left' → LoopLeaves L ms start now left left'
leaves_alone L ms start now left left' c = leaves_at L (ms ++ []) ms start now left left' (sym (append-nil ms)) c
