-- Frames that a stage takes or may not take, by what comes with them: the laws.
use Rattle.std.specs.Prelude.{◌≡◌, Bool, true, false, List, [], ◌∷◌, ◌++◌, Some, None, Option}
use Rattle.std.proofs.Common.{inl, inr, sym, ap, subst, ◌∙◌}
use Rattle.frame_codec.specs.declared.frame.Frame.{Frame}
use Rattle.message_codec.specs.Coming.{HasCome, with_left, with_right}
use Rattle.message_codec.specs.declared.gathered.Came.TheVariants as came
use Rattle.message_codec.specs.declared.messages.StageMessage.{StageMessage}
use Rattle.message_codec.specs.MessageLaws.{whole_behind}
use Rattle.message_codec.specs.Messages.{message}
use Rattle.network_meaning.specs.Calls.{Taken, TakenAs}
use Rattle.network_meaning.specs.Frames.{is_more, payloads, whole}
use Rattle.network_meaning.specs.LocalSteps.{Act, Mode, Want, Want.take_left, Want.take_right, may_go_on, takes}
use Rattle.network_meaning.specs.Network.{HasTakenLeft, HasTakenRight, LocalState, act_on, done_act, want}
use Rattle.network_meaning.specs.Sorts.{Message}
use Rattle.quel_network.specs.Quel.{quel}
use Rattle.quel_network.specs.Sorts.{User, quel_sorts}
use Rattle.quel_network.specs.Spelling.{message_by}

not_both : (b : Bool) → b ≡ true → b ≡ false → ⊥
not_both b t f = let no : ◌≡◌ {A = Bool} true false = sym t ∙ f in cc no

no_act : (o : Option (Act quel_sorts)) (act : Act quel_sorts) → o ≡ None → o ≡ Some act → ⊥
no_act o act n s = let no : ◌≡◌ {A = Option (Act quel_sorts)} None (Some act) = sym n ∙ s in cc no

-- what a stage does with the last frame of what is read so
act_with : (user : User) (mode : Mode quel_sorts) (got : List Frame) (f : Frame) (o : Option (Message quel_sorts)) → message_by f.kind (payloads got ++ f.payload) ≡ o
    → act_on (quel user) mode (whole (quel user) (got ++ f ∷ [])) ≡ act_on (quel user) mode o
act_with user mode got f o e = ap (λ (x : Option (Message quel_sorts)). act_on (quel user) mode x) (whole_behind user got f ∙ e)

-- ---- from the left

taken_left : (user : User) (s after : LocalState quel_sorts) (f : Frame) (b : Bool) → want s ≡ take_left → is_more f ≡ b → Taken (quel user) s f after → HasTakenLeft (quel user) s f b after
taken_left user s after f b w e t = subst (λ (x : Bool). HasTakenLeft (quel user) s f x after) e (subst (λ (x : Want). TakenAs (quel user) s f x after) w t.1)

left_taken : (user : User) (s after : LocalState quel_sorts) (f : Frame) (b : Bool) → want s ≡ take_left → is_more f ≡ b → HasTakenLeft (quel user) s f b after → TakenAs (quel user) s f (want s) after
left_taken user s after f b w e t = subst (λ (x : Want). TakenAs (quel user) s f x after) (sym w) (subst (λ (x : Bool). HasTakenLeft (quel user) s f x after) (sym e) t)

-- a part of a message is kept where one may go on
pub left_part : (user : User) (s s' : LocalState quel_sorts) (f : Frame) → want s ≡ take_left → may_go_on s.mode ≡ true → HasCome s.got_left f came.Part → s' ≡ with_left s f → Taken (quel user) s f s'
left_part user s s' f w goes h is = (h.0, left_taken user s s' f true w h.1 (goes, is))

-- a whole message is taken where something is done with it
pub left_whole : (user : User) (s s' : LocalState quel_sorts) (f : Frame) (m : StageMessage) (act : Act quel_sorts) → want s ≡ take_left → HasCome s.got_left f (came.Whole m) → takes (quel user) s.mode (message m) ≡ Some act
    → s' ≡ done_act (quel user) s act [] s.got_right → Taken (quel user) s f s'
left_whole user s s' f m act w h e is = (h.0, left_taken user s s' f false w h.1 (act, act_with user s.mode s.got_left f (Some (message m)) h.2 ∙ e, is))

-- what is no frame of the protocol, or of no message, is not taken
pub left_unlawful : (user : User) (s : LocalState quel_sorts) (f : Frame) → want s ≡ take_left → HasCome s.got_left f came.Unlawful → (after : LocalState quel_sorts) → Taken (quel user) s f after → ⊥
left_unlawful user s f w h after t = by h
  where
    by : HasCome s.got_left f came.Unlawful → ⊥
    by (inl e) = not_both _ t.0 e
    by (inr e) = let a = taken_left user s after f false w e.0 t in no_act _ a.0 (act_with user s.mode s.got_left f None e.1) a.1

-- nor a part of one where none may go on
pub left_no_part : (user : User) (s : LocalState quel_sorts) (f : Frame) → want s ≡ take_left → may_go_on s.mode ≡ false → HasCome s.got_left f came.Part → (after : LocalState quel_sorts) → Taken (quel user) s f after → ⊥
left_no_part user s f w stops h after t = not_both _ (taken_left user s after f true w h.1 t).0 stops

-- nor a message with which nothing is done
pub left_no_whole : (user : User) (s : LocalState quel_sorts) (f : Frame) (m : StageMessage) → want s ≡ take_left → HasCome s.got_left f (came.Whole m) → takes (quel user) s.mode (message m) ≡ None
    → (after : LocalState quel_sorts) → Taken (quel user) s f after → ⊥
left_no_whole user s f m w h none after t =
    let a = taken_left user s after f false w h.1 t in
    no_act _ a.0 (act_with user s.mode s.got_left f (Some (message m)) h.2 ∙ none) a.1

-- ---- from the right

taken_right : (user : User) (s after : LocalState quel_sorts) (f : Frame) (b : Bool) → want s ≡ take_right → is_more f ≡ b → Taken (quel user) s f after → HasTakenRight (quel user) s f b after
taken_right user s after f b w e t = subst (λ (x : Bool). HasTakenRight (quel user) s f x after) e (subst (λ (x : Want). TakenAs (quel user) s f x after) w t.1)

right_taken : (user : User) (s after : LocalState quel_sorts) (f : Frame) (b : Bool) → want s ≡ take_right → is_more f ≡ b → HasTakenRight (quel user) s f b after → TakenAs (quel user) s f (want s) after
right_taken user s after f b w e t = subst (λ (x : Want). TakenAs (quel user) s f x after) (sym w) (subst (λ (x : Bool). HasTakenRight (quel user) s f x after) (sym e) t)

pub right_part : (user : User) (s s' : LocalState quel_sorts) (f : Frame) → want s ≡ take_right → may_go_on s.mode ≡ true → HasCome s.got_right f came.Part → s' ≡ with_right s f → Taken (quel user) s f s'
right_part user s s' f w goes h is = (h.0, right_taken user s s' f true w h.1 (goes, is))

pub right_whole : (user : User) (s s' : LocalState quel_sorts) (f : Frame) (m : StageMessage) (act : Act quel_sorts) → want s ≡ take_right → HasCome s.got_right f (came.Whole m) → takes (quel user) s.mode (message m) ≡ Some act
    → s' ≡ done_act (quel user) s act s.got_left [] → Taken (quel user) s f s'
right_whole user s s' f m act w h e is = (h.0, right_taken user s s' f false w h.1 (act, act_with user s.mode s.got_right f (Some (message m)) h.2 ∙ e, is))

pub right_unlawful : (user : User) (s : LocalState quel_sorts) (f : Frame) → want s ≡ take_right → HasCome s.got_right f came.Unlawful → (after : LocalState quel_sorts) → Taken (quel user) s f after → ⊥
right_unlawful user s f w h after t = by h
  where
    by : HasCome s.got_right f came.Unlawful → ⊥
    by (inl e) = not_both _ t.0 e
    by (inr e) = let a = taken_right user s after f false w e.0 t in no_act _ a.0 (act_with user s.mode s.got_right f None e.1) a.1

pub right_no_part : (user : User) (s : LocalState quel_sorts) (f : Frame) → want s ≡ take_right → may_go_on s.mode ≡ false → HasCome s.got_right f came.Part → (after : LocalState quel_sorts) → Taken (quel user) s f after → ⊥
right_no_part user s f w stops h after t = not_both _ (taken_right user s after f true w h.1 t).0 stops

pub right_no_whole : (user : User) (s : LocalState quel_sorts) (f : Frame) (m : StageMessage) → want s ≡ take_right → HasCome s.got_right f (came.Whole m) → takes (quel user) s.mode (message m) ≡ None
    → (after : LocalState quel_sorts) → Taken (quel user) s f after → ⊥
right_no_whole user s f m w h none after t =
    let a = taken_right user s after f false w h.1 t in
    no_act _ a.0 (act_with user s.mode s.got_right f (Some (message m)) h.2 ∙ none) a.1
