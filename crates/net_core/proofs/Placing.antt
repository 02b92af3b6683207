-- A step of a stage between its pipes, as a step of the network.
use Rattle.std.proofs.Common.{IfOk, IsOk, OnErr, IsErrOf, ◌≡◌, ◌+◌, ℕ, Bool, true, false, [], Result, refl, sym, ap, subst, arith}
use Rattle.net_core.specs.declared.fault.WorkFault.{WorkFault}
use Rattle.net_core.specs.declared.fault.WorkFault.TheVariants as faults
use Rattle.net_core.specs.Reads.{Within}
use Rattle.net_core.specs.declared.steps.Moved.{Moved}
use Rattle.net_core.specs.Steps.{FitUnlessBlocked, Piped, PipedDone, PipedMayNot, PipedMoves, PipedStepsBy, StepDone, in_room}
use Rattle.net_core.specs.Known.{FailedStep, Outside, known}
use Rattle.net_core.specs.Wants.{was_blocked}
use Rattle.net_core.specs.Whole.{MayNotStep, state_at}
use Rattle.network_meaning.specs.Calls.{FitStep, Moves, Shape, Known, join}
use Rattle.network_meaning.specs.Language.{Language}
use Rattle.network_meaning.specs.LocalSteps.{Act, Mode, Works, Room as NetworkRoom, Want.work}
use Rattle.network_meaning.specs.MessageNetwork.{StageNumber, StageNumber.first, StageNumber.second, StageNumber.third, StageNumber.fourth}
use Rattle.network_meaning.specs.Network.{Between, LocalState, StepsUnlessBlockedBy, between, is_blocked, left_room, put_between, right_room, want}
use Rattle.network_meaning.specs.WorkShape.{WorksInShape}
use Rattle.quel_network.specs.Quel.{quel}
use Rattle.quel_network.specs.Sorts.{User, quel_sorts}
use Rattle.net_core.proofs.AtPipes.{if_ok}
use Rattle.net_core.proofs.Faulty.{caused_more, reads_more}

-- stage k between its pipes
abbrev pub piped_of : Shape quel_sorts → StageNumber → Piped
piped_of n first = record { stage = n.one; left_in = []; left_out = []; right_out = n.a; right_in = n.f }
piped_of n second = record { stage = n.two; left_in = n.a; left_out = n.f; right_out = n.b; right_in = n.e }
piped_of n third = record { stage = n.three; left_in = n.b; left_out = n.e; right_out = n.c; right_in = n.d }
piped_of n fourth = record { stage = n.four; left_in = n.c; left_out = n.d; right_out = []; right_in = [] }

-- the network with stage k and its pipes as they are now
abbrev pub with_piped : Shape quel_sorts → StageNumber → Piped → Shape quel_sorts
with_piped n first s = record { one = s.stage; two = n.two; three = n.three; four = n.four; a = s.right_out; b = n.b; c = n.c; d = n.d; e = n.e; f = s.right_in }
with_piped n second s = record { one = n.one; two = s.stage; three = n.three; four = n.four; a = s.left_in; b = s.right_out; c = n.c; d = n.d; e = s.right_in; f = s.left_out }
with_piped n third s = record { one = n.one; two = n.two; three = s.stage; four = n.four; a = n.a; b = s.left_in; c = s.right_out; d = s.right_in; e = s.left_out; f = n.f }
with_piped n fourth s = record { one = n.one; two = n.two; three = n.three; four = s.stage; a = n.a; b = n.b; c = s.left_in; d = s.left_out; e = n.e; f = n.f }

between_is : (k : StageNumber) (n : Shape quel_sorts) (r : NetworkRoom quel_sorts) → in_room (piped_of n k) r ≡ between (join n r) k
between_is first n r = refl
between_is second n r = refl
between_is third n r = refl
between_is fourth n r = refl

state_is : (k : StageNumber) (n : Shape quel_sorts) → (piped_of n k).stage ≡ state_at n k
state_is first n = refl
state_is second n = refl
state_is third n = refl
state_is fourth n = refl

fit_as : (L : Language quel_sorts) (k : StageNumber) (blocked : Bool) (n : Shape quel_sorts) (r : NetworkRoom quel_sorts) → FitUnlessBlocked L (between (join n r) k) blocked → FitStep L k (join n r) blocked
fit_as L k true n r h = tt
fit_as L k false n r h = h

step_as : (W : Mode quel_sorts → NetworkRoom quel_sorts → Act quel_sorts → NetworkRoom quel_sorts → Type 0) (L : Language quel_sorts) (k : StageNumber) (blocked : Bool) (n : Shape quel_sorts) (s : Piped) (r r' : NetworkRoom quel_sorts) →
    PipedStepsBy W L (in_room (piped_of n k) r) (in_room s r') blocked → StepsUnlessBlockedBy W L k (join n r) (join (with_piped n k s) r') blocked
step_as W L first true n s r r' e = ap (put_between (join n r) first) e
step_as W L second true n s r r' e = ap (put_between (join n r) second) e
step_as W L third true n s r r' e = ap (put_between (join n r) third) e
step_as W L fourth true n s r r' e = ap (put_between (join n r) fourth) e
step_as W L first false n s r r' st = (in_room s r', st, refl)
step_as W L second false n s r r' st = (in_room s r', st, refl)
step_as W L third false n s r r' st = (in_room s r', st, refl)
step_as W L fourth false n s r r' st = (in_room s r', st, refl)

moves_as : (L : Language quel_sorts) (capacity : ℕ) (k : StageNumber) (blocked : Bool) (n : Shape quel_sorts) (s : Piped) (o o' : Known quel_sorts) → PipedMoves L (left_room capacity k) (right_room capacity k) blocked (piped_of n k) s o o' →
    Moves L capacity k blocked (record { shape = n; known = o }) (record { shape = with_piped n k s; known = o' })
moves_as L capacity k blocked n s o o' m = record {
  is = λ r. subst (λ (b : Between quel_sorts). is_blocked (left_room capacity k) (right_room capacity k) b (want b.stage) ≡ blocked) (between_is k n r) (m.is r);
  shape = λ r. step_as (WorksInShape L) L k blocked n s r r (m.shape r);
  fit = λ r d s. fit_as L k blocked n r (subst (λ (b : Between quel_sorts). FitUnlessBlocked L b blocked) (between_is k n r) (m.fit r d s));
  exact = λ r t. let x = m.exact r t in record {
    room' = x.room';
    known = x.known;
    wrote = x.wrote;
    step = step_as (Works L) L k blocked n s r x.room' x.step;
  };
}

may_not_as : (L : Language quel_sorts) (k : StageNumber) (n : Shape quel_sorts) (o : Outside) → PipedMayNot L (piped_of n k) o → MayNotStep L k n o
may_not_as L first n o h = h
may_not_as L second n o h = h
may_not_as L third n o h = h
may_not_as L fourth n o h = h

-- what stage k has done between its pipes, where nothing else of the network has changed, and these parts belong to the stage
pub step_done : (capacity : ℕ) (k : StageNumber) (n n' : Shape quel_sorts) (s : Piped) (o o' : Outside) (h h' p p' whole whole' one one' rest : ℕ) (serves serves' all all' : User → Type 0) (numbers numbers' : Type 0) (result : Result Moved WorkFault) →
    PipedDone (left_room capacity k) (right_room capacity k) (piped_of n k) s o o' h h' p p' serves serves' result → n' ≡ with_piped n k s → whole ≡ h + rest → whole' ≡ h' + rest →
    ((user : User) → all user → serves user) → ((user : User) → serves' user → all user → all' user) → (p' ≡ p → numbers → numbers') →
    (numbers → (k ≡ first → ⊥) → p ≡ 1 → ⊥) → (numbers → Within one one' result) → StepDone capacity k n n' o o' whole whole' one one' all all' numbers numbers' result
step_done capacity k n n' s o o' h h' p p' whole whole' one one' rest serves serves' all all' numbers numbers' result d new sum sum' part join number apart within = record {
  blocked = λ r. subst (λ (b : Between quel_sorts). IfOk result (λ moved. is_blocked (left_room capacity k) (right_room capacity k) b (want b.stage) ≡ was_blocked moved)) (between_is k n r) (d.blocked r);
  steps = λ user x. if_ok result _ _ (λ moved m. subst (λ (a : Shape quel_sorts). Moves (quel user) capacity k (was_blocked moved) (record { shape = n; known = known o }) (record { shape = a; known = known o' })) (sym new)
      (moves_as (quel user) capacity k (was_blocked moved) n s (known o) (known o') m)) (d.steps user (part user x));
  failed = λ user x. subst (λ (a : LocalState quel_sorts). OnErr result (FailedStep (quel user) a o o')) (state_is k n) (d.failed user (part user x));
  unlawful = λ user x u. may_not_as (quel user) k n o (d.unlawful user (part user x) u);
  untouched = λ no. d.untouched (λ e. no (subst (λ (a : LocalState quel_sorts). want a ≡ work) (state_is k n) e));
  cause = caused_more h whole rest o o' result sum d.cause;
  later = d.later;
  counts = d.counts;
  spares = d.spares;
  reads = reads_more (piped_of n k).stage.mode (state_at n k).mode h h' whole whole' rest o o' (IsErrOf result faults.Source) (IsOk result) (ap (λ (a : LocalState quel_sorts). a.mode) (state_is k n)) sum sum' d.reads;
  within = within;
  ends = λ numbered not_first. let e = d.ends (apart numbered not_first) in record { same = e.same; unread = (let same = e.unread in omega (arith, same, sum, sum')); inside = e.inside };
  database = d.database;
  serve = λ user x. join user (d.serve user (part user x)) x;
  numbered = number d.placed;
}

-- ---- what all stages have read, by the one that reads

pub first_part : (a b c d : ℕ) → a + (b + (c + d)) ≡ a + (b + (c + d))
first_part a b c d = refl

pub second_part : (a b c d : ℕ) → a + (b + (c + d)) ≡ b + (a + (c + d))
second_part a b c d = omega arith

pub third_part : (a b c d : ℕ) → a + (b + (c + d)) ≡ c + (a + (b + d))
third_part a b c d = omega arith

pub fourth_part : (a b c d : ℕ) → a + (b + (c + d)) ≡ d + (a + (b + c))
fourth_part a b c d = omega arith
