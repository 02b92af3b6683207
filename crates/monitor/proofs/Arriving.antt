-- What the first stage took and gave, as what the network has.
use Rattle.std.proofs.Common.{◌≡◌, inl, inr, refl, sym, ap, subst, ◌∙◌, Bool, true, false, List, [], ◌∷◌, ◌++◌, Some, None}
use Rattle.std.specs.declared.option.Option.{Option}
use Rattle.calculus.specs.declared.reply.Column.{Column}
use Rattle.calculus.specs.Rows.{Row}
use Rattle.frame_codec.specs.declared.frame.Frame.{Frame}
use Rattle.message_codec.specs.Coming.{HasCome}
use Rattle.message_codec.specs.declared.gathered.Came.TheVariants as came
use Rattle.message_codec.specs.declared.messages.StageMessage.{StageMessage}
use Rattle.message_codec.specs.declared.messages.StageMessage.TheVariants as stage
use Rattle.message_codec.specs.Messages.{message}
use Rattle.message_codec.specs.TakingLaws.{right_no_whole, right_part, right_unlawful, right_whole}
use Rattle.net_core.specs.Causes.{MayNotTake}
use Rattle.net_core.specs.Wants.{IsToGive, IsToTake}
use Rattle.network_meaning.specs.Calls.{Given, Taken}
use Rattle.network_meaning.specs.LocalSteps.{Act, Mode.printing, Mode.waiting, Want.give_left, Want.give_right, Want.take_left, Want.take_right, takes, turns_to}
use Rattle.network_meaning.specs.Network.{LocalState, want}
use Rattle.quel_network.specs.Quel.{quel}
use Rattle.quel_network.specs.Sorts.{Monitor, User, quel_sorts}
use Rattle.monitor.specs.declared.at.At.{At}
use Rattle.monitor.specs.declared.at.At.TheVariants as at
use Rattle.monitor.specs.Standing.{IsDueAt, is_due_here, row_stands, standing}
use Rattle.monitor.specs.Taking.{at_taking, comes_due}

-- ---- it is to take

-- it waits, with nothing to give
data Waits (m : Monitor) (here : At) (got out : List Frame) : Type 0 where
  waits : (begun : Option (List Column)) → here ≡ at.Waiting begun → out ≡ [] → Waits m here got out

no_take : {A : Type 0} (s : LocalState quel_sorts) → (want s ≡ take_left → ⊥) → (want s ≡ take_right → ⊥) → IsToTake s → A
no_take s left right (inl e) = absurd (left e)
no_take s left right (inr e) = absurd (right e)

is_waiting : (m : Monitor) (here : At) (got out : List Frame) → IsToTake (standing m here got out) → Waits m here got out
is_waiting m here got (f ∷ fs) h = no_take (standing m here got (f ∷ fs)) (λ e. cc e) (λ e. cc e) h
is_waiting m at.Reading got [] h = no_take (standing m at.Reading got []) (λ e. cc e) (λ e. cc e) h
is_waiting m (at.Waiting begun) got [] h = waits begun refl refl
is_waiting m (at.Printing begun s) got [] h = no_take (standing m (at.Printing begun s) got []) (λ e. cc e) (λ e. cc e) h
is_waiting m at.Ended got [] h = no_take (standing m at.Ended got []) (λ e. cc e) (λ e. cc e) h

-- a frame behind which its message goes on
pub taken_part : (user : User) (m : Monitor) (here : At) (got got' out : List Frame) (frame : Frame) → IsToTake (standing m here got out) → HasCome got frame came.Part → got' ≡ got ++ frame ∷ [] → Taken (quel user) (standing m here got out) frame (standing m here got' out)
taken_part user m here got got' out frame h part e = go (is_waiting m here got out h)
  where
    go : Waits m here got out → Taken (quel user) (standing m here got out) frame (standing m here got' out)
    go (waits begun a b) = rw (a, b) (right_part user (standing m (at.Waiting begun) got []) (standing m (at.Waiting begun) got' []) frame refl refl part (ap (λ (fs : List Frame). standing m (at.Waiting begun) fs []) e))

-- ---- the last frame

row_taken : (user : User) (m : Monitor) (begun : Option (List Column)) (values : Row) (b : Bool) → row_stands begun values ≡ b
    → takes (quel user) (waiting m begun) (message (stage.Row values)) ≡ elim b as (λ b. Option (Act quel_sorts)) [ true ↦ Some (turns_to (printing m begun (message (stage.Row values)))) | false ↦ None ]
unfolding quel
row_taken user m None values true e = absurd (cc e)
row_taken user m None values false e = refl
row_taken user m (Some columns) values true e = rw e refl
row_taken user m (Some columns) values false e = rw e refl

due_taken : (user : User) (m : Monitor) (begun : Option (List Column)) (s : StageMessage) → is_due_here begun s ≡ true → takes (quel user) (waiting m begun) (message s) ≡ Some (turns_to (printing m begun (message s)))
due_taken user m begun (stage.Head columns) e = refl
due_taken user m begun (stage.Row values) e = row_taken user m begun values true e
due_taken user m begun stage.Done e = refl
due_taken user m begun (stage.Refused r) e = refl
due_taken user m begun stage.End e = refl
due_taken user m begun (stage.Text t) e = absurd (cc e)
due_taken user m begun (stage.Tree t) e = absurd (cc e)
due_taken user m begun (stage.Change c) e = absurd (cc e)
due_taken user m begun stage.Quit e = absurd (cc e)

undue_taken : (user : User) (m : Monitor) (begun : Option (List Column)) (s : StageMessage) → is_due_here begun s ≡ false → takes (quel user) (waiting m begun) (message s) ≡ None
undue_taken user m begun (stage.Head columns) e = absurd (cc e)
undue_taken user m begun (stage.Row values) e = row_taken user m begun values false e
undue_taken user m begun stage.Done e = absurd (cc e)
undue_taken user m begun (stage.Refused r) e = absurd (cc e)
undue_taken user m begun stage.End e = absurd (cc e)
undue_taken user m begun (stage.Text t) e = refl
undue_taken user m begun (stage.Tree t) e = refl
undue_taken user m begun (stage.Change c) e = refl
undue_taken user m begun stage.Quit e = refl

-- the last frame came, and the message is due
pub taken_whole : (user : User) (m : Monitor) (here now : At) (got got' out : List Frame) (frame : Frame) (s : StageMessage) → IsToTake (standing m here got out) → HasCome got frame (came.Whole s) → comes_due here s ≡ true → now ≡ at_taking here s → got' ≡ []
    → Taken (quel user) (standing m here got out) frame (standing m now got' out)
taken_whole user m here now got got' out frame s h whole due then none = go (is_waiting m here got out h)
  where
    go : Waits m here got out → Taken (quel user) (standing m here got out) frame (standing m now got' out)
    go (waits begun a b) =
        let due' : is_due_here begun s ≡ true = subst (λ (x : At). comes_due x s ≡ true) a due in
        let now' : now ≡ at.Printing begun s = then ∙ ap (λ (x : At). at_taking x s) a in
        rw (now', none, a, b)
        (right_whole user (standing m (at.Waiting begun) got []) (standing m (at.Printing begun s) [] []) frame s (turns_to (printing m begun (message s))) refl whole (due_taken user m begun s due') refl)

-- then it is due where it stands
pub due_taking : (here now : At) (s : StageMessage) → comes_due here s ≡ true → now ≡ at_taking here s → IsDueAt now
due_taking (at.Waiting begun) now s due then = subst (λ (x : At). IsDueAt x) (sym then) due
due_taking at.Reading now s due then = absurd (cc due)
due_taking (at.Printing begun printed) now s due then = absurd (cc due)
due_taking at.Ended now s due then = absurd (cc due)

-- ---- what may not come

pub not_lawful : (user : User) (m : Monitor) (here : At) (got out : List Frame) (frame : Frame) → IsToTake (standing m here got out) → HasCome got frame came.Unlawful → MayNotTake (quel user) (standing m here got out) frame
not_lawful user m here got out frame h unlawful = go (is_waiting m here got out h)
  where
    go : Waits m here got out → MayNotTake (quel user) (standing m here got out) frame
    go (waits begun a b) = rw (a, b) (right_unlawful user (standing m (at.Waiting begun) got []) frame refl unlawful)

pub not_due : (user : User) (m : Monitor) (here : At) (got out : List Frame) (frame : Frame) (s : StageMessage) → IsToTake (standing m here got out) → HasCome got frame (came.Whole s) → comes_due here s ≡ false → MayNotTake (quel user) (standing m here got out) frame
not_due user m here got out frame s h whole undue = go (is_waiting m here got out h)
  where
    go : Waits m here got out → MayNotTake (quel user) (standing m here got out) frame
    go (waits begun a b) =
        let undue' : is_due_here begun s ≡ false = subst (λ (x : At). comes_due x s ≡ false) a undue in
        rw (a, b) (right_no_whole user (standing m (at.Waiting begun) got []) frame s refl whole (undue_taken user m begun s undue'))

-- ---- it is to give

no_give : {A : Type 0} (s : LocalState quel_sorts) → (want s ≡ give_left → ⊥) → (want s ≡ give_right → ⊥) → IsToGive s → A
no_give s left right (inl e) = absurd (left e)
no_give s left right (inr e) = absurd (right e)

-- it has frames to give
pub has_frames : (m : Monitor) (here : At) (got out : List Frame) → IsToGive (standing m here got out) → out ≡ [] → ⊥
has_frames m here got (f ∷ fs) h e = cc e
has_frames m at.Reading got [] h e = no_give (standing m at.Reading got []) (λ e. cc e) (λ e. cc e) h
has_frames m (at.Waiting begun) got [] h e = no_give (standing m (at.Waiting begun) got []) (λ e. cc e) (λ e. cc e) h
has_frames m (at.Printing begun s) got [] h e = no_give (standing m (at.Printing begun s) got []) (λ e. cc e) (λ e. cc e) h
has_frames m at.Ended got [] h e = no_give (standing m at.Ended got []) (λ e. cc e) (λ e. cc e) h

-- the first of them is given
pub given_first : (m : Monitor) (here : At) (got out out' : List Frame) (frame : Frame) → out ≡ frame ∷ out' → Given (standing m here got out) frame (standing m here got out')
given_first m here got out out' frame e = rw e (refl, refl)
