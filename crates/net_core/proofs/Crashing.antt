-- What a crash leaves while stages work: of one stage between its pipes, of a step, and of a list of turns.
use Rattle.std.proofs.Common.{OnOk, ◌≡◌, ◌<◌, ◌≤◌, ℕ, Bool, true, false, List, length, take, get_or, Some, Result, Ok, Err, refl, sym, subst, ◌∙◌}
use Rattle.std.specs.declared.option.Option.{Option}
use Rattle.std.proofs.lemmas.Option.{same_Some}
use Rattle.base_trait.proofs.Crashes.{asked_leaves, leaves_as, leaves_more, nothing_else, still_stands}
use Rattle.base_trait.specs.Crashes.{LeavesBut, AllDenote}
use Rattle.calculus.specs.Database.{Db}
use Rattle.net_core.specs.Crashes.{HandsOver, MayLeave, QuietWithout, StaysDurable, StepCrash, StepLeaves, TurnsLeave, WorkLeaves}
use Rattle.net_core.specs.Known.{KeepsDatabase, Outside, known}
use Rattle.net_core.specs.Whole.{seen, state_at}
use Rattle.net_core.proofs.Turning.{TurnsDone}
use Rattle.network_meaning.specs.Calls.{Moves, Shape, Knows, stage_number}
use Rattle.network_meaning.specs.Language.{Language}
use Rattle.network_meaning.specs.LocalSteps.{Mode, Want as Wish, Want.work, Room as NetworkRoom}
use Rattle.network_meaning.specs.Network.{LocalState, want}
use Rattle.quel_network.specs.Quel.{quel}
use Rattle.quel_network.specs.Sorts.{User, quel_sorts}

-- ---- what is left by one behind another

stands_same : (clock : ℕ) (left : ℕ → Option Db → Type 0) (d : Option Db) (db db' : Db) → d ≡ Some db → d ≡ Some db' → AllDenote clock left db → AllDenote clock left db'
stands_same clock left d db db' e e' = subst (λ x. AllDenote clock left x) (same_Some db db' (sym e ∙ e'))

pub durable_same : (o : Outside) (left : ℕ → Option Db → Type 0) → StaysDurable o o left left
durable_same o left db db' e e' = stands_same o.clock left o.database db db' e e'

pub durable_more : (a b c : Outside) (left left' left'' : ℕ → Option Db → Type 0) → KeepsDatabase a b → StaysDurable a b left left' → StaysDurable b c left' left'' → StaysDurable a c left left''
durable_more a b c left left' left'' keeps one two db db'' e e'' s =
    let mid = keeps db e in
    two mid.0 db'' mid.1 e'' (one db mid.0 e mid.1 s)

-- ---- what a stage's author owes

-- work that leaves the database alone
pub work_alone : (L : Language quel_sorts) (mode : Mode quel_sorts) (o o' : Outside) (left : ℕ → Option Db → Type 0) → o'.clock ≡ o.clock → WorkLeaves L mode o o' left left
work_alone L mode o o' left e room t = subst (λ (n : ℕ). LeavesBut (MayLeave L mode room) o.clock n left left) (sym e) (nothing_else (MayLeave L mode room) o.clock left)

-- work that only asks
pub work_asked : (L : Language quel_sorts) (mode : Mode quel_sorts) (o o' : Outside) (left left' : ℕ → Option Db → Type 0) → LeavesBut (λ d. ⊥) o.clock o'.clock left left' → WorkLeaves L mode o o' left left'
work_asked L mode o o' left left' asked room t = asked_leaves _ o.clock o'.clock left left' asked

pub durable_asked : (o o' : Outside) (left left' : ℕ → Option Db → Type 0) → o'.database ≡ o.database → ((t : ℕ) (d : Option Db) → t ≤ o'.clock → left' o'.clock d → left' t d) → LeavesBut (λ d. ⊥) o.clock o'.clock left left' → StaysDurable o o' left left'
durable_asked o o' left left' same counts asked db db' e e' s =
    subst (λ x. AllDenote o'.clock left' x) (same_Some db db' (sym e ∙ sym same ∙ e')) (still_stands o.clock o'.clock left left' db counts asked s)

-- ---- one stage

on_any_ok : {T E : Type 0} (r : Result T E) (P : Type 0) → P → OnOk r P
on_any_ok (Ok x) P h = h
on_any_ok (Err e) P h = tt

abbrev pub is_work : Wish → Bool
is_work work = true
is_work _ = false

apart : (s : LocalState quel_sorts) (w : Wish) → want s ≡ w → is_work w ≡ false → want s ≡ work → ⊥
apart s w e never works = let same : w ≡ work = sym e ∙ works in let is : is_work w ≡ true = rw same refl in cc

-- a step that leaves the disk alone
pub left_alone : {T E : Type 0} (serves : User → Type 0) (s s' : LocalState quel_sorts) (o : Outside) (left : ℕ → Option Db → Type 0) (schema : Option Db) (result : Result T E) (w : Wish) → want s ≡ w → is_work w ≡ false → StepCrash serves s s' o o left left schema result
left_alone serves s s' o left schema result w e never = record {
  crash = λ user x room t. nothing_else _ o.clock left;
  durable = on_any_ok result _ (durable_same o left);
  quiet = λ k without. (refl, refl);
  handed = on_any_ok result _ (λ works. absurd (apart s w e never works));
}

-- a step that worked
pub left_by_work : {T E : Type 0} (serves : User → Type 0) (s s' : LocalState quel_sorts) (o o' : Outside) (left left' : ℕ → Option Db → Type 0) (schema : Option Db) (result : Result T E) → want s ≡ work →
    ((user : User) → serves user → WorkLeaves (quel user) s.mode o o' left left') → OnOk result (StaysDurable o o' left left') → QuietWithout s o o' → OnOk result (HandsOver s s' schema o'.database) → StepCrash serves s s' o o' left left' schema result
left_by_work serves s s' o o' left left' schema result e crash durable quiet handed = record {
  crash = λ user x room t. leaves_as _ _ o.clock o'.clock left left' (λ d h. (e, h)) (crash user x room t);
  durable = durable;
  quiet = quiet;
  handed = handed;
}

-- the step of one stage, as one of the network
pub left_by_stage : {T E : Type 0} (serves all : User → Type 0) (s s' t : LocalState quel_sorts) (o o' : Outside) (left left' : ℕ → Option Db → Type 0) (schema : Option Db) (result : Result T E) → s' ≡ s → ((user : User) → all user → serves user) →
    StepCrash serves s t o o' left left' schema result → StepCrash all s' t o o' left left' schema result
left_by_stage serves all s s' t o o' left left' schema result e part d = record {
  crash = λ user x. subst (λ (a : LocalState quel_sorts). StepLeaves (quel user) a o o' left left') (sym e) (d.crash user (part user x));
  durable = d.durable;
  quiet = subst (λ (a : LocalState quel_sorts). QuietWithout a o o') (sym e) d.quiet;
  handed = subst (λ (a : LocalState quel_sorts). OnOk result (HandsOver a t schema o'.database)) (sym e) d.handed;
}

-- ---- a list of turns

-- what the turns so far have done to the disk, of these in all
pub record TurnsCrash (capacity : ℕ) (turns : List ℕ) (serves : User → Type 0) (old : Shape quel_sorts) (before after : Outside) (left left' : ℕ → Option Db → Type 0) : Type 0 where
  pub knows : (user : User) → serves user → (r : NetworkRoom quel_sorts) → Knows (known before) r → (r' : NetworkRoom quel_sorts) × Knows (known after) r'
  pub crash : (user : User) → serves user → TurnsLeave (quel user) capacity turns (seen old before) before.clock after.clock left left'
  pub durable : StaysDurable before after left left'

pub no_turn : (capacity : ℕ) (turns : List ℕ) (serves : User → Type 0) (old : Shape quel_sorts) (o : Outside) (left : ℕ → Option Db → Type 0) → TurnsCrash capacity turns serves old o o left left
no_turn capacity turns serves old o left = record {
  knows = λ user x r t. (r, t);
  crash = λ user x r t. nothing_else _ o.clock left;
  durable = durable_same o left;
}

-- a step behind the turns so far, whether it failed or not
pub turns_leave : (capacity : ℕ) (turns : List ℕ) (i : ℕ) (a b : Shape quel_sorts) (o o' o'' : Outside) (h h' one one' : ℕ) (serves serves' : User → Type 0) (numbers numbers' : Type 0) (left left' left'' : ℕ → Option Db → Type 0) → i < length turns →
    TurnsDone capacity (take i turns) a b o o' h h' one one' serves serves' numbers numbers' → TurnsCrash capacity turns serves a o o' left left' →
    ((user : User) → serves' user → StepLeaves (quel user) (state_at b (stage_number (get_or turns i 0))) o' o'' left' left'') →
    (user : User) → serves user → TurnsLeave (quel user) capacity turns (seen a o) o.clock o''.clock left left''
turns_leave capacity turns i a b o o' o'' h h' one one' serves serves' numbers numbers' left left' left'' lt d c step user x r t =
    let mid = c.knows user x r t in
    leaves_more _ _ o.clock o'.clock o''.clock left left' left'' (λ db may. record {
      at = i;
      there = lt;
      before = seen b o';
      room = mid.0;
      runs = d.runs user x;
      known = mid.1;
      leaves = may;
    }) (c.crash user x r t) (step user (d.serve user x) mid.0 mid.1)

pub one_more_turn : (capacity capacity' : ℕ) (turns : List ℕ) (i : ℕ) (blocked : Bool) (a b c : Shape quel_sorts) (o o' o'' : Outside) (h h' one one' : ℕ) (serves serves' : User → Type 0) (numbers numbers' : Type 0) (left left' left'' : ℕ → Option Db → Type 0) → i < length turns →
    TurnsDone capacity (take i turns) a b o o' h h' one one' serves serves' numbers numbers' → TurnsCrash capacity turns serves a o o' left left' →
    ((user : User) → serves' user → Moves (quel user) capacity' (stage_number (get_or turns i 0)) blocked (seen b o') (seen c o'')) →
    ((user : User) → serves' user → StepLeaves (quel user) (state_at b (stage_number (get_or turns i 0))) o' o'' left' left'') →
    StaysDurable o' o'' left' left'' → TurnsCrash capacity turns serves a o o'' left left''
one_more_turn capacity capacity' turns i blocked a b c o o' o'' h h' one one' serves serves' numbers numbers' left left' left'' lt d was moves step durable = record {
  knows = λ user x r t. let mid = was.knows user x r t in let x' = (moves user (d.serve user x)).exact mid.0 mid.1 in (x'.room', x'.known);
  crash = turns_leave capacity turns i a b o o' o'' h h' one one' serves serves' numbers numbers' left left' left'' lt d was step;
  durable = durable_more o o' o'' left left' left'' d.database was.durable durable;
}
