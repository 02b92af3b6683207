-- What the query processor took, as what the network has taken.
use Rattle.std.proofs.Common.{◌≡◌, inl, inr, refl, sym, ap, subst, ◌∙◌, ℕ, true, false, List, [], ◌∷◌, ◌++◌, None}
use Rattle.std.proofs.lemmas.List.{append-nil}
use Rattle.calculus.specs.declared.request.Checked.{Checked}
use Rattle.frame_codec.specs.declared.frame.Frame.{Frame}
use Rattle.frame_codec.specs.Messages.{is_message_kind, message_frames}
use Rattle.message_codec.specs.Coming.{HasCome}
use Rattle.message_codec.specs.declared.gathered.Came.TheVariants as came
use Rattle.message_codec.specs.declared.messages.StageMessage.{StageMessage}
use Rattle.message_codec.specs.declared.messages.StageMessage.TheVariants as stage
use Rattle.message_codec.specs.MessageLaws.{by_frames, by_only}
use Rattle.message_codec.specs.Messages.{message}
use Rattle.message_codec.specs.TakingLaws.{left_no_whole, left_part, left_unlawful, left_whole, right_no_part, right_no_whole, right_unlawful, right_whole}
use Rattle.net_core.specs.Causes.{MayNotTake}
use Rattle.net_core.specs.declared.stage.Want.{Want as Wanted}
use Rattle.net_core.specs.declared.stage.Want.TheVariants as wanted
use Rattle.net_core.specs.Wants.{IsToTake, wish}
use Rattle.network_meaning.specs.Calls.{Taken}
use Rattle.network_meaning.specs.Frames.{payloads, spell}
use Rattle.network_meaning.specs.LocalSteps.{Mode, Mode.idle3, Mode.passing3, Mode.ended as over, Mode.working3, Want.take_left, Want.take_right, hands, may_go_on, says, takes, turns_to}
use Rattle.network_meaning.specs.Network.{LocalState, want}
use Rattle.network_meaning.specs.Sorts.{Message.quit, Message.said, Said.replied, Reply.done, Reply.refused}
use Rattle.quel_network.specs.Quel.{quel}
use Rattle.quel_network.specs.Sorts.{User, quel_sorts}
use Rattle.stage_proc.specs.declared.at.At.{At}
use Rattle.stage_proc.specs.declared.at.At.TheVariants as at
use Rattle.stage_proc.specs.Standing.{mode_at, standing}
use Rattle.stage_proc.specs.Taking.{IsWhole, is_reply}

-- ---- where it may take

-- it waits for a tree, and has nothing to give
pub record Waits (here : At) (left right : List Frame) : Type 0 where
  pub idle : here ≡ at.Idle
  pub none_left : left ≡ []
  pub none_right : right ≡ []

pub waits : (here : At) (got left right : List Frame) → want (standing here got left right) ≡ take_left → Waits here left right
waits here got (f ∷ fs) right e = absurd (cc e)
waits here got [] (f ∷ fs) e = absurd (cc e)
waits at.Idle got [] [] e = record { idle = refl; none_left = refl; none_right = refl }
waits (at.Working t) got [] [] e = absurd (cc e)
waits at.Passing got [] [] e = absurd (cc e)
waits at.Ended got [] [] e = absurd (cc e)

-- it waits for a reply, and has nothing to give
pub record WaitsForReply (here : At) (left right : List Frame) : Type 0 where
  pub passing : here ≡ at.Passing
  pub none_left : left ≡ []
  pub none_right : right ≡ []

pub waits_for_reply : (here : At) (got left right : List Frame) → want (standing here got left right) ≡ take_right → WaitsForReply here left right
waits_for_reply here got (f ∷ fs) right e = absurd (cc e)
waits_for_reply here got [] (f ∷ fs) e = absurd (cc e)
waits_for_reply at.Idle got [] [] e = absurd (cc e)
waits_for_reply (at.Working t) got [] [] e = absurd (cc e)
waits_for_reply at.Passing got [] [] e = record { passing = refl; none_left = refl; none_right = refl }
waits_for_reply at.Ended got [] [] e = absurd (cc e)

-- where it is to take it wants to, from one side or from the other
pub takes_somewhere : (w : Wanted) (s : LocalState quel_sorts) → (w ≡ wanted.TakeLeft → ⊥) → (w ≡ wanted.TakeRight → ⊥) → wish w ≡ want s → IsToTake s → ⊥
takes_somewhere wanted.TakeLeft s left right e h = left refl
takes_somewhere wanted.TakeRight s left right e h = right refl
takes_somewhere wanted.GiveLeft s left right e (inl h) = let no : wish wanted.GiveLeft ≡ take_left = e ∙ h in cc no
takes_somewhere wanted.GiveLeft s left right e (inr h) = let no : wish wanted.GiveLeft ≡ take_right = e ∙ h in cc no
takes_somewhere wanted.GiveRight s left right e (inl h) = let no : wish wanted.GiveRight ≡ take_left = e ∙ h in cc no
takes_somewhere wanted.GiveRight s left right e (inr h) = let no : wish wanted.GiveRight ≡ take_right = e ∙ h in cc no
takes_somewhere wanted.Work s left right e (inl h) = let no : wish wanted.Work ≡ take_left = e ∙ h in cc no
takes_somewhere wanted.Work s left right e (inr h) = let no : wish wanted.Work ≡ take_right = e ∙ h in cc no
takes_somewhere wanted.Ended s left right e (inl h) = let no : wish wanted.Ended ≡ take_left = e ∙ h in cc no
takes_somewhere wanted.Ended s left right e (inr h) = let no : wish wanted.Ended ≡ take_right = e ∙ h in cc no

-- ---- frames of a message that is passed on

-- what is whole is of a kind that a message may have
pub is_sent : (got : List Frame) (f : Frame) (kind : ℕ) → IsWhole got f → kind ≡ f.kind → is_message_kind kind ≡ true
is_sent got f kind (m, e) is = subst (λ (k : ℕ). is_message_kind k ≡ true) (sym is) (by_only f.kind (payloads got ++ f.payload) m e).is_kind

pub passed_frames : (out out' : List Frame) (kind kind' : ℕ) (bytes bytes' : List ℕ) → out' ≡ out ++ message_frames kind bytes → kind ≡ kind' → bytes ≡ bytes' → out' ≡ out ++ message_frames kind' bytes'
passed_frames out out' kind kind' bytes bytes' e ek eb = e ∙ (λ i. out ++ message_frames (ek i) (eb i))

-- the same state where these frames are the same
same_state : (mode : Mode quel_sorts) (got left left' right right' : List Frame) → left ≡ left' → right ≡ right' →
    ◌≡◌ {A = LocalState quel_sorts} (record { mode = mode; got_left = got; got_right = []; out_left = left; out_right = right }) (record { mode = mode; got_left = got; got_right = []; out_left = left'; out_right = right' })
same_state mode got left left' right right' e f = λ i. record { mode = mode; got_left = got; got_right = []; out_left = e i; out_right = f i }

-- ---- from the left

module _ (user : User) (got left right : List Frame) (f : Frame) where
  -- a part of a tree
  part_at : want (standing at.Idle got left right) ≡ take_left → HasCome got f came.Part → (got' : List Frame) → got' ≡ got ++ f ∷ [] → Taken (quel user) (standing at.Idle got left right) f (standing at.Idle got' left right)
  part_at w h got' e = left_part user (standing at.Idle got left right) (standing at.Idle got' left right) f w refl h (ap (λ (fs : List Frame). standing at.Idle fs left right) e)

  -- a whole tree
  tree_at : (t : Checked) → want (standing at.Idle got left right) ≡ take_left → HasCome got f (came.Whole (stage.Tree t)) → Taken (quel user) (standing at.Idle got left right) f (standing (at.Working t) [] left right)
  tree_at t w h =
      left_whole user (standing at.Idle got left right) (standing (at.Working t) [] left right) f (stage.Tree t) (turns_to (working3 t)) w h refl
      (same_state (working3 t) [] left (left ++ []) right (right ++ []) (sym (append-nil left)) (sym (append-nil right)))

  -- the end of all, which is passed on
  quit_at : want (standing at.Idle got left right) ≡ take_left → HasCome got f (came.Whole stage.Quit) → (right' : List Frame) → right' ≡ right ++ message_frames f.kind (payloads got ++ f.payload)
      → Taken (quel user) (standing at.Idle got left right) f (standing at.Ended [] left right')
  quit_at w h right' e =
      left_whole user (standing at.Idle got left right) (standing at.Ended [] left right') f stage.Quit (hands over quit) w h refl
      (same_state over [] left (left ++ []) right' (right ++ spell (quel user) (quit ∷ [])) (sym (append-nil left))
      (e ∙ ap (λ (fs : List Frame). right ++ fs) (sym (by_frames user f.kind (payloads got ++ f.payload) quit h.2))))

pub took_part : (user : User) (here : At) (got got' left right : List Frame) (f : Frame) → want (standing here got left right) ≡ take_left → HasCome got f came.Part → got' ≡ got ++ f ∷ []
    → Taken (quel user) (standing here got left right) f (standing here got' left right)
took_part user here got got' left right f w h e =
    let idle = (waits here got left right w).idle in
    subst (λ (x : At). want (standing x got left right) ≡ take_left → Taken (quel user) (standing x got left right) f (standing x got' left right)) (sym idle) (λ v. part_at user got left right f v h got' e) w

pub took_tree : (user : User) (here here' : At) (got got' left right : List Frame) (f : Frame) (t : Checked) → want (standing here got left right) ≡ take_left → HasCome got f (came.Whole (stage.Tree t)) → here' ≡ at.Working t → got' ≡ []
    → Taken (quel user) (standing here got left right) f (standing here' got' left right)
took_tree user here here' got got' left right f t w h e none =
    let idle = (waits here got left right w).idle in
    subst (λ (x : At). want (standing x got left right) ≡ take_left → Taken (quel user) (standing x got left right) f (standing here' got' left right)) (sym idle)
    (λ v. subst (λ (x : At). Taken (quel user) (standing at.Idle got left right) f (standing x got' left right)) (sym e)
    (subst (λ (fs : List Frame). Taken (quel user) (standing at.Idle got left right) f (standing (at.Working t) fs left right)) (sym none) (tree_at user got left right f t v h))) w

pub took_quit : (user : User) (here here' : At) (got got' left right right' : List Frame) (f : Frame) → want (standing here got left right) ≡ take_left → HasCome got f (came.Whole stage.Quit) → here' ≡ at.Ended → got' ≡ []
    → right' ≡ right ++ message_frames f.kind (payloads got ++ f.payload) → Taken (quel user) (standing here got left right) f (standing here' got' left right')
took_quit user here here' got got' left right right' f w h e none sent =
    let idle = (waits here got left right w).idle in
    subst (λ (x : At). want (standing x got left right) ≡ take_left → Taken (quel user) (standing x got left right) f (standing here' got' left right')) (sym idle)
    (λ v. subst (λ (x : At). Taken (quel user) (standing at.Idle got left right) f (standing x got' left right')) (sym e)
    (subst (λ (fs : List Frame). Taken (quel user) (standing at.Idle got left right) f (standing at.Ended fs left right')) (sym none) (quit_at user got left right f v h right' sent))) w

-- a message that is neither
other_message : (user : User) (m : StageMessage) → ((t : Checked) → m ≡ stage.Tree t → ⊥) → (m ≡ stage.Quit → ⊥) → takes (quel user) idle3 (message m) ≡ None
other_message user (stage.Text t) no_tree no_quit = refl
other_message user (stage.Tree t) no_tree no_quit = absurd (no_tree t refl)
other_message user (stage.Head h) no_tree no_quit = refl
other_message user (stage.Row r) no_tree no_quit = refl
other_message user (stage.Change c) no_tree no_quit = refl
other_message user stage.End no_tree no_quit = refl
other_message user (stage.Refused r) no_tree no_quit = refl
other_message user stage.Done no_tree no_quit = refl
other_message user stage.Quit no_tree no_quit = absurd (no_quit refl)

pub no_message : (user : User) (here : At) (got left right : List Frame) (f : Frame) (m : StageMessage) → want (standing here got left right) ≡ take_left → HasCome got f (came.Whole m)
    → ((t : Checked) → m ≡ stage.Tree t → ⊥) → (m ≡ stage.Quit → ⊥) → MayNotTake (quel user) (standing here got left right) f
no_message user here got left right f m w h no_tree no_quit =
    let idle = (waits here got left right w).idle in
    left_no_whole user (standing here got left right) f m w h (subst (λ (x : At). takes (quel user) (mode_at x) (message m) ≡ None) (sym idle) (other_message user m no_tree no_quit))

pub no_frame : (user : User) (here : At) (got left right : List Frame) (f : Frame) → want (standing here got left right) ≡ take_left → HasCome got f came.Unlawful → MayNotTake (quel user) (standing here got left right) f
no_frame user here got left right f w h = left_unlawful user (standing here got left right) f w h

-- ---- from the right

-- the reply that a message is
passed : (user : User) (got left right : List Frame) (f : Frame) (m : StageMessage) → is_reply m ≡ true → want (standing at.Passing got left right) ≡ take_right → HasCome [] f (came.Whole m)
    → (left' : List Frame) → left' ≡ left ++ message_frames f.kind (payloads [] ++ f.payload) → Taken (quel user) (standing at.Passing got left right) f (standing at.Idle got left' right)
passed user got left right f (stage.Refused r) reply w h left' e =
    right_whole user (standing at.Passing got left right) (standing at.Idle got left' right) f (stage.Refused r) (says idle3 (said (replied (refused r)) ∷ [])) w h refl
    (same_state idle3 got left' (left ++ spell (quel user) (said (replied (refused r)) ∷ [])) right (right ++ [])
    (e ∙ ap (λ (fs : List Frame). left ++ fs) (sym (by_frames user f.kind (payloads [] ++ f.payload) (said (replied (refused r))) h.2))) (sym (append-nil right)))
passed user got left right f stage.Done reply w h left' e =
    right_whole user (standing at.Passing got left right) (standing at.Idle got left' right) f stage.Done (says idle3 (said (replied done) ∷ [])) w h refl
    (same_state idle3 got left' (left ++ spell (quel user) (said (replied done) ∷ [])) right (right ++ [])
    (e ∙ ap (λ (fs : List Frame). left ++ fs) (sym (by_frames user f.kind (payloads [] ++ f.payload) (said (replied done)) h.2))) (sym (append-nil right)))
passed user got left right f (stage.Text t) reply w h left' e = absurd (cc reply)
passed user got left right f (stage.Tree t) reply w h left' e = absurd (cc reply)
passed user got left right f (stage.Head x) reply w h left' e = absurd (cc reply)
passed user got left right f (stage.Row r) reply w h left' e = absurd (cc reply)
passed user got left right f (stage.Change c) reply w h left' e = absurd (cc reply)
passed user got left right f stage.End reply w h left' e = absurd (cc reply)
passed user got left right f stage.Quit reply w h left' e = absurd (cc reply)

pub took_reply : (user : User) (here here' : At) (got none left left' right : List Frame) (f : Frame) (m : StageMessage) → want (standing here got left right) ≡ take_right → none ≡ [] → HasCome none f (came.Whole m) → is_reply m ≡ true → here' ≡ at.Idle
    → left' ≡ left ++ message_frames f.kind (payloads none ++ f.payload) → Taken (quel user) (standing here got left right) f (standing here' got left' right)
took_reply user here here' got none left left' right f m w nothing h reply e sent =
    let passing = (waits_for_reply here got left right w).passing in
    subst (λ (x : At). want (standing x got left right) ≡ take_right → Taken (quel user) (standing x got left right) f (standing here' got left' right)) (sym passing)
    (λ v. subst (λ (x : At). Taken (quel user) (standing at.Passing got left right) f (standing x got left' right)) (sym e)
    (passed user got left right f m reply v (subst (λ (fs : List Frame). HasCome fs f (came.Whole m)) nothing h) left'
    (subst (λ (fs : List Frame). left' ≡ left ++ message_frames f.kind (payloads fs ++ f.payload)) nothing sent))) w

-- a message that is none
other_reply : (user : User) (m : StageMessage) → is_reply m ≡ false → takes (quel user) passing3 (message m) ≡ None
other_reply user (stage.Text t) e = refl
other_reply user (stage.Tree t) e = refl
other_reply user (stage.Head h) e = refl
other_reply user (stage.Row r) e = refl
other_reply user (stage.Change c) e = refl
other_reply user stage.End e = refl
other_reply user (stage.Refused r) e = absurd (cc e)
other_reply user stage.Done e = absurd (cc e)
other_reply user stage.Quit e = refl

pub no_reply : (user : User) (here : At) (got none left right : List Frame) (f : Frame) (m : StageMessage) → want (standing here got left right) ≡ take_right → none ≡ [] → HasCome none f (came.Whole m) → is_reply m ≡ false
    → MayNotTake (quel user) (standing here got left right) f
no_reply user here got none left right f m w nothing h other =
    let passing = (waits_for_reply here got left right w).passing in
    right_no_whole user (standing here got left right) f m w (subst (λ (fs : List Frame). HasCome fs f (came.Whole m)) nothing h)
    (subst (λ (x : At). takes (quel user) (mode_at x) (message m) ≡ None) (sym passing) (other_reply user m other))

pub no_part : (user : User) (here : At) (got none left right : List Frame) (f : Frame) → want (standing here got left right) ≡ take_right → none ≡ [] → HasCome none f came.Part → MayNotTake (quel user) (standing here got left right) f
no_part user here got none left right f w nothing h =
    let passing = (waits_for_reply here got left right w).passing in
    right_no_part user (standing here got left right) f w (subst (λ (x : At). may_go_on (mode_at x) ≡ false) (sym passing) refl) (subst (λ (fs : List Frame). HasCome fs f came.Part) nothing h)

pub no_right_frame : (user : User) (here : At) (got none left right : List Frame) (f : Frame) → want (standing here got left right) ≡ take_right → none ≡ [] → HasCome none f came.Unlawful → MayNotTake (quel user) (standing here got left right) f
no_right_frame user here got none left right f w nothing h = right_unlawful user (standing here got left right) f w (subst (λ (fs : List Frame). HasCome fs f came.Unlawful) nothing h)
