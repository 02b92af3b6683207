-- What came to the parser, as what the network's second stage takes.
use Rattle.std.proofs.Common.{◌≡◌, ℕ, true, List, [], ◌∷◌, ◌++◌, Option, Some, None, refl, sym, ap, subst, ◌∙◌, append-nil}
use Rattle.calculus.specs.declared.reply.Refusal.{Refusal}
use Rattle.frame_codec.specs.declared.frame.Frame.{Frame}
use Rattle.frame_codec.specs.Messages.{is_message_kind, message_frames}
use Rattle.message_codec.specs.Coming.{HasCome}
use Rattle.message_codec.specs.declared.gathered.Came.TheVariants as came
use Rattle.message_codec.specs.declared.messages.StageMessage.{StageMessage}
use Rattle.message_codec.specs.declared.messages.StageMessage.TheVariants as stage
use Rattle.message_codec.specs.MessageLaws.{by_frames, by_only}
use Rattle.message_codec.specs.Messages.{IsSpelled, message}
use Rattle.message_codec.specs.TakingLaws.{left_no_whole, left_part, left_unlawful, left_whole, right_no_whole, right_part, right_unlawful, right_whole}
use Rattle.net_core.specs.Causes.{MayNotTake}
use Rattle.network_meaning.specs.Calls.{Taken}
use Rattle.network_meaning.specs.Frames.{payloads, spell}
use Rattle.network_meaning.specs.LocalSteps.{Act, Mode, Mode.idle2, Mode.parsing, Mode.passing2, Mode.ended, Want.take_left, Want.take_right, hands, may_go_on, says, takes, turns_to}
use Rattle.network_meaning.specs.Network.{LocalState, done_act, want}
use Rattle.network_meaning.specs.Sorts.{Message, Reply.refused, Said.replied, Message.said, Message.quit}
use Rattle.quel_meaning.specs.Ranges.{Ranges}
use Rattle.quel_network.specs.Quel.{quel}
use Rattle.quel_network.specs.RefusalLaws.{refused_only}
use Rattle.quel_network.specs.Sorts.{Batch, User, quel_sorts}
use Rattle.quel_network.specs.Spelling.{is_refusal_number, message_by, payload_of}
use Rattle.stage_parse.specs.declared.arriving.FromLeft.TheVariants as left
use Rattle.stage_parse.specs.declared.arriving.FromRight.{FromRight}
use Rattle.stage_parse.specs.declared.arriving.FromRight.TheVariants as right
use Rattle.stage_parse.specs.declared.at.At.{At}
use Rattle.stage_parse.specs.declared.at.At.TheVariants as at
use Rattle.stage_parse.specs.Arriving.{CameAs, from_left, from_right}
use Rattle.stage_parse.specs.Judging.{refused_at}
use Rattle.stage_parse.specs.Parsing.{Gives}
use Rattle.stage_parse.specs.Standing.{mode_at, standing}
use Rattle.stage_parse.proofs.Places.{is_idle}

-- ---- behind an act

-- a stage behind an act that leaves this mode and gives this
stands_behind : (L : User) (s : LocalState quel_sorts) (act : Act quel_sorts) (mode : Mode quel_sorts) (gl gr ol or : List Frame)
    → mode ≡ act.mode → ol ≡ s.out_left ++ spell (quel L) act.left → or ≡ s.out_right ++ spell (quel L) act.right
    → record { mode = mode; got_left = gl; got_right = gr; out_left = ol; out_right = or } ≡ done_act (quel L) s act gl gr
stands_behind L s act mode gl gr ol or a b c = λ i. record { mode = a i; got_left = gl; got_right = gr; out_left = b i; out_right = c i }

-- nothing more is given
same_out : (fs : List Frame) → fs ≡ fs ++ []
same_out fs = sym (append-nil fs)

-- the frames of a message that is given
more_out : (who : User) (m : Message quel_sorts) (kind : ℕ) (bytes : List ℕ) (old new : List Frame) → message_by kind bytes ≡ Some m → new ≡ old ++ message_frames kind bytes → new ≡ old ++ spell (quel who) (m ∷ [])
more_out who m kind bytes old new is e = e ∙ ap (λ (fs : List Frame). old ++ fs) (sym (by_frames who kind bytes m is))

-- ---- from the left

goes_on_idle : (ranges : Ranges) (here : At) (b : Batch) → here ≡ at.Idle → may_go_on (mode_at ranges here b) ≡ true
goes_on_idle ranges here b e = subst (λ (x : At). may_go_on (mode_at ranges x b) ≡ true) (sym e) refl

pub part_left : (who : User) (ranges : Ranges) (here : At) (b : Batch) (gl gl' gr ol or : List Frame) (f : Frame) → want (standing ranges here b gl gr ol or) ≡ take_left
    → HasCome gl f came.Part → gl' ≡ gl ++ f ∷ [] → Taken (quel who) (standing ranges here b gl gr ol or) f (standing ranges here b gl' gr ol or)
part_left who ranges here b gl gl' gr ol or f w come e =
    left_part who (standing ranges here b gl gr ol or) (standing ranges here b gl' gr ol or) f w (goes_on_idle ranges here b (is_idle ranges here b gl gr ol or w)) come
    (ap (λ (g : List Frame). standing ranges here b g gr ol or) e)

takes_text : (who : User) (ranges : Ranges) (m : StageMessage) (text : List ℕ) → left.Text text ≡ from_left m → takes (quel who) (idle2 ranges) (message m) ≡ Some (turns_to (parsing ranges (record { text = text; from = 0 })))
unfolding quel
takes_text who ranges (stage.Text t) text e = let same : text ≡ t = cc e in ap (λ (x : List ℕ). Some (turns_to (parsing ranges (record { text = x; from = 0 })))) (sym same)
takes_text who ranges stage.Quit text e = absurd (cc e)
takes_text who ranges (stage.Tree t) text e = absurd (cc e)
takes_text who ranges (stage.Head h) text e = absurd (cc e)
takes_text who ranges (stage.Row r) text e = absurd (cc e)
takes_text who ranges (stage.Change c) text e = absurd (cc e)
takes_text who ranges stage.End text e = absurd (cc e)
takes_text who ranges (stage.Refused r) text e = absurd (cc e)
takes_text who ranges stage.Done text e = absurd (cc e)

takes_quit : (who : User) (ranges : Ranges) (m : StageMessage) → left.Quit ≡ from_left m → takes (quel who) (idle2 ranges) (message m) ≡ Some (hands ended quit)
takes_quit who ranges stage.Quit e = refl
takes_quit who ranges (stage.Text t) e = absurd (cc e)
takes_quit who ranges (stage.Tree t) e = absurd (cc e)
takes_quit who ranges (stage.Head h) e = absurd (cc e)
takes_quit who ranges (stage.Row r) e = absurd (cc e)
takes_quit who ranges (stage.Change c) e = absurd (cc e)
takes_quit who ranges stage.End e = absurd (cc e)
takes_quit who ranges (stage.Refused r) e = absurd (cc e)
takes_quit who ranges stage.Done e = absurd (cc e)

strange_left : (who : User) (ranges : Ranges) (m : StageMessage) → left.Strange ≡ from_left m → takes (quel who) (idle2 ranges) (message m) ≡ None
strange_left who ranges stage.Quit e = absurd (cc e)
strange_left who ranges (stage.Text t) e = absurd (cc e)
strange_left who ranges (stage.Tree t) e = refl
strange_left who ranges (stage.Head h) e = refl
strange_left who ranges (stage.Row r) e = refl
strange_left who ranges (stage.Change c) e = refl
strange_left who ranges stage.End e = refl
strange_left who ranges (stage.Refused r) e = refl
strange_left who ranges stage.Done e = refl

-- the same, wherever it waits for a batch
idle_takes : (who : User) (ranges : Ranges) (here : At) (b : Batch) (m : StageMessage) (o : Option (Act quel_sorts)) → here ≡ at.Idle → takes (quel who) (idle2 ranges) (message m) ≡ o → takes (quel who) (mode_at ranges here b) (message m) ≡ o
idle_takes who ranges here b m o e is = subst (λ (x : At). takes (quel who) (mode_at ranges x b) (message m) ≡ o) (sym e) is

-- a batch has come
pub text_left : (who : User) (ranges : Ranges) (here : At) (b b' : Batch) (gl gl' gr ol or : List Frame) (f : Frame) (m : StageMessage) (text : List ℕ) → want (standing ranges here b gl gr ol or) ≡ take_left
    → HasCome gl f (came.Whole m) → left.Text text ≡ from_left m → b' ≡ record { text = text; from = 0 } → gl' ≡ []
    → Taken (quel who) (standing ranges here b gl gr ol or) f (standing ranges at.Parsing b' gl' gr ol or)
text_left who ranges here b b' gl gl' gr ol or f m text w come e begins none =
    left_whole who (standing ranges here b gl gr ol or) (standing ranges at.Parsing b' gl' gr ol or) f m (turns_to (parsing ranges (record { text = text; from = 0 }))) w come
    (idle_takes who ranges here b m _ (is_idle ranges here b gl gr ol or w) (takes_text who ranges m text e))
    (ap (λ (x : Batch). standing ranges at.Parsing x gl' gr ol or) begins ∙ ap (λ (g : List Frame). standing ranges at.Parsing (record { text = text; from = 0 }) g gr ol or) none
    ∙ stands_behind who (standing ranges here b gl gr ol or) (turns_to (parsing ranges (record { text = text; from = 0 }))) (parsing ranges (record { text = text; from = 0 })) [] gr ol or refl (same_out ol) (same_out or))

-- the end of all has come
pub quit_left : (who : User) (ranges : Ranges) (here : At) (b : Batch) (gl gl' gr ol or or' : List Frame) (f : Frame) (m : StageMessage) → want (standing ranges here b gl gr ol or) ≡ take_left
    → HasCome gl f (came.Whole m) → left.Quit ≡ from_left m → Gives quit or or' → gl' ≡ []
    → Taken (quel who) (standing ranges here b gl gr ol or) f (standing ranges at.Ended b gl' gr ol or')
quit_left who ranges here b gl gl' gr ol or or' f m w come e gives none =
    left_whole who (standing ranges here b gl gr ol or) (standing ranges at.Ended b gl' gr ol or') f m (hands ended quit) w come
    (idle_takes who ranges here b m _ (is_idle ranges here b gl gr ol or w) (takes_quit who ranges m e))
    (ap (λ (g : List Frame). standing ranges at.Ended b g gr ol or') none
    ∙ stands_behind who (standing ranges here b gl gr ol or) (hands ended quit) ended [] gr ol or' refl (same_out ol) (more_out who quit gives.kind gives.bytes or or' gives.spells gives.behind))

pub not_left : (who : User) (ranges : Ranges) (here : At) (b : Batch) (gl gr ol or : List Frame) (f : Frame) (m : StageMessage) → want (standing ranges here b gl gr ol or) ≡ take_left
    → HasCome gl f (came.Whole m) → left.Strange ≡ from_left m → MayNotTake (quel who) (standing ranges here b gl gr ol or) f
not_left who ranges here b gl gr ol or f m w come e =
    left_no_whole who (standing ranges here b gl gr ol or) f m w come (idle_takes who ranges here b m None (is_idle ranges here b gl gr ol or w) (strange_left who ranges m e))

pub bad_left : (who : User) (ranges : Ranges) (here : At) (b : Batch) (gl gr ol or : List Frame) (f : Frame) → want (standing ranges here b gl gr ol or) ≡ take_left
    → HasCome gl f came.Unlawful → MayNotTake (quel who) (standing ranges here b gl gr ol or) f
bad_left who ranges here b gl gr ol or f w come = left_unlawful who (standing ranges here b gl gr ol or) f w come

-- ---- from the right

pub part_right : (who : User) (ranges : Ranges) (here : At) (line : ℕ) (b : Batch) (gl gr gr' ol or : List Frame) (f : Frame) → here ≡ at.Passing line → want (standing ranges here b gl gr ol or) ≡ take_right
    → HasCome gr f came.Part → gr' ≡ gr ++ f ∷ [] → Taken (quel who) (standing ranges here b gl gr ol or) f (standing ranges here b gl gr' ol or)
part_right who ranges here line b gl gr gr' ol or f there w come e =
    right_part who (standing ranges here b gl gr ol or) (standing ranges here b gl gr' ol or) f w (subst (λ (x : At). may_go_on (mode_at ranges x b) ≡ true) (sym there) refl) come
    (ap (λ (g : List Frame). standing ranges here b gl g ol or) e)

-- what it does with a message of which this is taken
abbrev replies : Ranges → ℕ → Batch → StageMessage → FromRight → Option (Act quel_sorts)
replies ranges line b m right.Shown = Some (says (passing2 ranges line b) (message m ∷ []))
replies ranges line b m right.Done = Some (says (parsing ranges b) (message m ∷ []))
replies ranges line b m (right.Refused r) = Some (says (parsing ranges b) (refused_at line r ∷ []))
replies ranges line b m right.End = Some (turns_to (parsing ranges b))
replies ranges line b m right.Strange = None

takes_reply : (who : User) (ranges : Ranges) (line : ℕ) (b : Batch) (m : StageMessage) → takes (quel who) (passing2 ranges line b) (message m) ≡ replies ranges line b m (from_right m)
unfolding quel
takes_reply who ranges line b (stage.Head h) = refl
takes_reply who ranges line b (stage.Row r) = refl
takes_reply who ranges line b stage.Done = refl
takes_reply who ranges line b (stage.Refused r) = refl
takes_reply who ranges line b stage.End = refl
takes_reply who ranges line b (stage.Text t) = refl
takes_reply who ranges line b (stage.Tree t) = refl
takes_reply who ranges line b (stage.Change c) = refl
takes_reply who ranges line b stage.Quit = refl

-- the same, wherever it waits for an answer
passing_takes : (who : User) (ranges : Ranges) (here : At) (line : ℕ) (b : Batch) (m : StageMessage) (reply : FromRight) → here ≡ at.Passing line → reply ≡ from_right m → takes (quel who) (mode_at ranges here b) (message m) ≡ replies ranges line b m reply
passing_takes who ranges here line b m reply there e =
    subst (λ (x : At). takes (quel who) (mode_at ranges x b) (message m) ≡ replies ranges line b m reply) (sym there)
    (takes_reply who ranges line b m ∙ ap (λ (x : FromRight). replies ranges line b m x) (sym e))

-- its kind is one of a message
pub kind_known : (gr : List Frame) (f : Frame) (reply : FromRight) → CameAs gr f reply → is_message_kind f.kind ≡ true
kind_known gr f reply c = (by_only f.kind (payloads gr ++ f.payload) (message c.message) c.come.2).is_kind

refusal_is : (r : Refusal) (m : StageMessage) → right.Refused r ≡ from_right m → message m ≡ said (replied (refused r))
refusal_is r (stage.Refused x) e = let same : r ≡ x = cc e in ap (λ (y : Refusal). said (replied (refused y))) (sym same)
refusal_is r (stage.Head h) e = absurd (cc e)
refusal_is r (stage.Row x) e = absurd (cc e)
refusal_is r stage.Done e = absurd (cc e)
refusal_is r stage.End e = absurd (cc e)
refusal_is r (stage.Text t) e = absurd (cc e)
refusal_is r (stage.Tree t) e = absurd (cc e)
refusal_is r (stage.Change c) e = absurd (cc e)
refusal_is r stage.Quit e = absurd (cc e)

spelled_known : (r : Refusal) → IsSpelled (said (replied (refused r))) → is_refusal_number r.code ≡ true
unfolding message_by payload_of
spelled_known r h = (refused_only r h).known

-- the number of a refusal that came is one of the language's
pub number_known : (gr : List Frame) (f : Frame) (r : Refusal) → CameAs gr f (right.Refused r) → is_refusal_number r.code ≡ true
number_known gr f r c =
    spelled_known r (subst IsSpelled (refusal_is r c.message c.is) (by_only f.kind (payloads gr ++ f.payload) (message c.message) c.come.2).spelled)

module _ (who : User) (ranges : Ranges) (here : At) (line : ℕ) (b : Batch) (gl gr ol or : List Frame) (f : Frame) (there : here ≡ at.Passing line) (w : want (standing ranges here b gl gr ol or) ≡ take_right) where
  -- a head or a row was passed on
  pub shown_right : (gr' ol' : List Frame) → CameAs gr f right.Shown → gr' ≡ [] → ol' ≡ ol ++ message_frames f.kind (payloads gr ++ f.payload)
      → Taken (quel who) (standing ranges here b gl gr ol or) f (standing ranges here b gl gr' ol' or)
  shown_right gr' ol' c none gives =
      right_whole who (standing ranges here b gl gr ol or) (standing ranges here b gl gr' ol' or) f c.message (says (passing2 ranges line b) (message c.message ∷ [])) w c.come
      (passing_takes who ranges here line b c.message right.Shown there c.is)
      (ap (λ (x : At). standing ranges x b gl gr' ol' or) there ∙ ap (λ (g : List Frame). standing ranges (at.Passing line) b gl g ol' or) none
      ∙ stands_behind who (standing ranges here b gl gr ol or) (says (passing2 ranges line b) (message c.message ∷ [])) (passing2 ranges line b) gl [] ol' or refl
      (more_out who (message c.message) f.kind (payloads gr ++ f.payload) ol ol' c.come.2 gives) (same_out or))

  -- it was said that the statement was carried out
  pub done_right : (gr' ol' : List Frame) → CameAs gr f right.Done → gr' ≡ [] → ol' ≡ ol ++ message_frames f.kind (payloads gr ++ f.payload)
      → Taken (quel who) (standing ranges here b gl gr ol or) f (standing ranges at.Parsing b gl gr' ol' or)
  done_right gr' ol' c none gives =
      right_whole who (standing ranges here b gl gr ol or) (standing ranges at.Parsing b gl gr' ol' or) f c.message (says (parsing ranges b) (message c.message ∷ [])) w c.come
      (passing_takes who ranges here line b c.message right.Done there c.is)
      (ap (λ (g : List Frame). standing ranges at.Parsing b gl g ol' or) none
      ∙ stands_behind who (standing ranges here b gl gr ol or) (says (parsing ranges b) (message c.message ∷ [])) (parsing ranges b) gl [] ol' or refl
      (more_out who (message c.message) f.kind (payloads gr ++ f.payload) ol ol' c.come.2 gives) (same_out or))

  -- a refusal was passed on with its line
  pub refused_right : (r : Refusal) (gr' ol' : List Frame) → CameAs gr f (right.Refused r) → gr' ≡ [] → Gives (refused_at line r) ol ol'
      → Taken (quel who) (standing ranges here b gl gr ol or) f (standing ranges at.Parsing b gl gr' ol' or)
  refused_right r gr' ol' c none gives =
      right_whole who (standing ranges here b gl gr ol or) (standing ranges at.Parsing b gl gr' ol' or) f c.message (says (parsing ranges b) (refused_at line r ∷ [])) w c.come
      (passing_takes who ranges here line b c.message (right.Refused r) there c.is)
      (ap (λ (g : List Frame). standing ranges at.Parsing b gl g ol' or) none
      ∙ stands_behind who (standing ranges here b gl gr ol or) (says (parsing ranges b) (refused_at line r ∷ [])) (parsing ranges b) gl [] ol' or refl
      (more_out who (refused_at line r) gives.kind gives.bytes ol ol' gives.spells gives.behind) (same_out or))

  -- the end of tables was kept
  pub end_right : (gr' : List Frame) → CameAs gr f right.End → gr' ≡ [] → Taken (quel who) (standing ranges here b gl gr ol or) f (standing ranges at.Parsing b gl gr' ol or)
  end_right gr' c none =
      right_whole who (standing ranges here b gl gr ol or) (standing ranges at.Parsing b gl gr' ol or) f c.message (turns_to (parsing ranges b)) w c.come
      (passing_takes who ranges here line b c.message right.End there c.is)
      (ap (λ (g : List Frame). standing ranges at.Parsing b gl g ol or) none
      ∙ stands_behind who (standing ranges here b gl gr ol or) (turns_to (parsing ranges b)) (parsing ranges b) gl [] ol or refl (same_out ol) (same_out or))

  -- nothing else may come
  pub not_right : CameAs gr f right.Strange → MayNotTake (quel who) (standing ranges here b gl gr ol or) f
  not_right c = right_no_whole who (standing ranges here b gl gr ol or) f c.message w c.come (passing_takes who ranges here line b c.message right.Strange there c.is)

  pub bad_right : HasCome gr f came.Unlawful → MayNotTake (quel who) (standing ranges here b gl gr ol or) f
  bad_right come = right_unlawful who (standing ranges here b gl gr ol or) f w come
