-- What the fourth stage takes.
use Rattle.std.specs.Prelude.{option_map}
use Rattle.std.proofs.Common.{◌≡◌, ◌⊎◌, inl, inr, refl, sym, ap, subst, ◌∙◌, ℕ, List, [], ◌∷◌, ◌++◌, Some, None, Option}
use Rattle.calculus.specs.declared.request.Checked.{Checked}
use Rattle.calculus.specs.declared.request.Checked.TheVariants as checked
use Rattle.frame_codec.specs.declared.frame.Frame.{Frame}
use Rattle.message_codec.specs.Coming.{HasCome}
use Rattle.message_codec.specs.declared.gathered.Came.{Came}
use Rattle.message_codec.specs.declared.gathered.Came.TheVariants as came
use Rattle.message_codec.specs.declared.messages.StageMessage.{StageMessage}
use Rattle.message_codec.specs.declared.messages.StageMessage.TheVariants as stage
use Rattle.message_codec.specs.MessageLaws.{by_spelled, change_fits, tree_fits}
use Rattle.message_codec.specs.Messages.{message}
use Rattle.message_codec.specs.TakingLaws.{left_no_whole, left_part, left_unlawful, left_whole}
use Rattle.net_core.specs.Causes.{MayNotTake}
use Rattle.net_core.specs.Wants.{IsToGive, IsToTake}
use Rattle.network_meaning.specs.Calls.{Given, Taken}
use Rattle.network_meaning.specs.LocalSteps.{Mode.idle4, Want, Want.give_left, Want.give_right, Want.take_left, Want.take_right, Want.work, Want.none, takes, turns_to}
use Rattle.network_meaning.specs.Sorts.{Cargo.change, Cargo.tree, Message.cargo}
use Rattle.quel_network.specs.Quel.{quel}
use Rattle.quel_network.specs.Sorts.{User}
use Rattle.quel_network.specs.Spelling.{message_by}
use Rattle.stage_util.specs.declared.at.At.{At}
use Rattle.stage_util.specs.declared.at.At.TheVariants as at
use Rattle.stage_util.specs.Standing.{IsHeldSpelled, at_taking, mode_at, standing, tree_taken}

-- ---- where it takes

-- it is idle, and has nothing to give
pub record Waits (here : At) (out : List Frame) : Type 0 where
  pub idle : here ≡ at.Idle
  pub none : out ≡ []

no_take : {P : Type 0} (w : Want) → (w ≡ take_left → ⊥) → (w ≡ take_right → ⊥) → (w ≡ take_left) ⊎ (w ≡ take_right) → P
no_take w l r (inl e) = absurd (l e)
no_take w l r (inr e) = absurd (r e)

pub is_waiting : (here : At) (got out : List Frame) → IsToTake (standing here got out) → Waits here out
is_waiting here got (f ∷ fs) h = no_take give_left (λ e. cc e) (λ e. cc e) h
is_waiting at.Idle got [] h = record { idle = refl; none = refl }
is_waiting (at.Tree t) got [] h = no_take work (λ e. cc e) (λ e. cc e) h
is_waiting (at.Change c) got [] h = no_take work (λ e. cc e) (λ e. cc e) h
is_waiting at.Ended got [] h = no_take none (λ e. cc e) (λ e. cc e) h

-- where it waits it stands so
waits_so : (P : At → List Frame → Type 0) (here : At) (out : List Frame) → Waits here out → P at.Idle [] → P here out
waits_so P here out w p = subst (λ (a : At). P a out) (sym w.idle) (subst (λ (fs : List Frame). P at.Idle fs) (sym w.none) p)

-- ---- what it takes

tree_takes : (user : User) (t : Checked) → takes (quel user) idle4 (cargo (tree t)) ≡ option_map (λ a. turns_to (mode_at a)) (tree_taken t)
unfolding quel
tree_takes user (checked.Answer asked) = refl
tree_takes user (checked.Update u) = refl
tree_takes user (checked.Utility w) = refl

takes_as : (user : User) (m : StageMessage) → takes (quel user) idle4 (message m) ≡ option_map (λ a. turns_to (mode_at a)) (at_taking m)
takes_as user (stage.Tree t) = tree_takes user t
takes_as user (stage.Change c) = refl
takes_as user stage.Quit = refl
takes_as user (stage.Text t) = refl
takes_as user (stage.Head h) = refl
takes_as user (stage.Row r) = refl
takes_as user stage.End = refl
takes_as user (stage.Refused r) = refl
takes_as user stage.Done = refl

pub taken_part : (user : User) (here : At) (got got' out : List Frame) (f : Frame) → IsToTake (standing here got out) → HasCome got f came.Part → got' ≡ got ++ f ∷ [] → Taken (quel user) (standing here got out) f (standing here got' out)
taken_part user here got got' out f h c e =
    waits_so (λ a fs. Taken (quel user) (standing a got fs) f (standing a got' fs)) here out (is_waiting here got out h)
    (left_part user (standing at.Idle got []) (standing at.Idle got' []) f refl refl c (ap (λ (fs : List Frame). standing at.Idle fs []) e))

pub taken_whole : (user : User) (here now : At) (got got' out : List Frame) (f : Frame) (m : StageMessage) → IsToTake (standing here got out) → HasCome got f (came.Whole m) → Some now ≡ at_taking m → got' ≡ []
    → Taken (quel user) (standing here got out) f (standing now got' out)
taken_whole user here now got got' out f m h c is cleared =
    waits_so (λ a fs. Taken (quel user) (standing a got fs) f (standing now got' fs)) here out (is_waiting here got out h)
    (left_whole user (standing at.Idle got []) (standing now got' []) f m (turns_to (mode_at now)) refl c (takes_as user m ∙ ap (λ (o : Option At). option_map (λ a. turns_to (mode_at a)) o) (sym is))
    (ap (λ (fs : List Frame). standing now fs []) cleared))

pub not_whole : (user : User) (here : At) (got out : List Frame) (f : Frame) (m : StageMessage) → IsToTake (standing here got out) → HasCome got f (came.Whole m) → None ≡ at_taking m → MayNotTake (quel user) (standing here got out) f
not_whole user here got out f m h c is =
    waits_so (λ a fs. MayNotTake (quel user) (standing a got fs) f) here out (is_waiting here got out h)
    (left_no_whole user (standing at.Idle got []) f m refl c (takes_as user m ∙ ap (λ (o : Option At). option_map (λ a. turns_to (mode_at a)) o) (sym is)))

pub not_lawful : (user : User) (here : At) (got out : List Frame) (f : Frame) → IsToTake (standing here got out) → HasCome got f came.Unlawful → MayNotTake (quel user) (standing here got out) f
not_lawful user here got out f h c =
    waits_so (λ a fs. MayNotTake (quel user) (standing a got fs) f) here out (is_waiting here got out h) (left_unlawful user (standing at.Idle got []) f refl c)

-- ---- what it takes has a spelling

tree_held : (user : User) (t : Checked) (now : At) (kind : ℕ) (bytes : List ℕ) → message_by kind bytes ≡ Some (cargo (tree t)) → Some now ≡ tree_taken t → IsHeldSpelled now
tree_held user (checked.Answer asked) now kind bytes e is = absurd (cc is)
tree_held user (checked.Update u) now kind bytes e is = absurd (cc is)
tree_held user (checked.Utility w) now kind bytes e is =
    let same : now ≡ at.Tree (checked.Utility w) = cc is in
    subst IsHeldSpelled (sym same) (tree_fits user (checked.Utility w) (by_spelled user kind bytes (cargo (tree (checked.Utility w))) e))

pub held_spelled : (user : User) (m : StageMessage) (now : At) (kind : ℕ) (bytes : List ℕ) → message_by kind bytes ≡ Some (message m) → Some now ≡ at_taking m → IsHeldSpelled now
held_spelled user (stage.Tree t) now kind bytes e is = tree_held user t now kind bytes e is
held_spelled user (stage.Change c) now kind bytes e is =
    let same : now ≡ at.Change c = cc is in
    subst IsHeldSpelled (sym same) (change_fits user c (by_spelled user kind bytes (cargo (change c)) e))
held_spelled user stage.Quit now kind bytes e is = let same : now ≡ at.Ended = cc is in subst IsHeldSpelled (sym same) tt
held_spelled user (stage.Text t) now kind bytes e is = absurd (cc is)
held_spelled user (stage.Head h) now kind bytes e is = absurd (cc is)
held_spelled user (stage.Row r) now kind bytes e is = absurd (cc is)
held_spelled user stage.End now kind bytes e is = absurd (cc is)
held_spelled user (stage.Refused r) now kind bytes e is = absurd (cc is)
held_spelled user stage.Done now kind bytes e is = absurd (cc is)

-- ---- what it gives

no_give : {P : Type 0} (w : Want) → (w ≡ give_left → ⊥) → (w ≡ give_right → ⊥) → (w ≡ give_left) ⊎ (w ≡ give_right) → P
no_give w l r (inl e) = absurd (l e)
no_give w l r (inr e) = absurd (r e)

idle_gives : (here : At) (got : List Frame) → IsToGive (standing here got []) → ⊥
idle_gives at.Idle got h = no_give take_left (λ e. cc e) (λ e. cc e) h
idle_gives (at.Tree t) got h = no_give work (λ e. cc e) (λ e. cc e) h
idle_gives (at.Change c) got h = no_give work (λ e. cc e) (λ e. cc e) h
idle_gives at.Ended got h = no_give none (λ e. cc e) (λ e. cc e) h

-- it has something to give
pub some_to_give : (here : At) (got out : List Frame) → IsToGive (standing here got out) → out ≡ [] → ⊥
some_to_give here got out h e = idle_gives here got (subst (λ (fs : List Frame). IsToGive (standing here got fs)) e h)

pub gave : (here : At) (got out out' : List Frame) (f : Frame) → out ≡ f ∷ out' → Given (standing here got out) f (standing here got out')
gave here got out out' f e = subst (λ (fs : List Frame). Given (standing here got fs) f (standing here got out')) (sym e) (refl, refl)

-- ---- as the code has it

-- what came with the frame
pub came_as : (got : List Frame) (f : Frame) (x y : Came) → HasCome got f x → x ≡ y → HasCome got f y
came_as got f x y h e = subst (λ (z : Came). HasCome got f z) e h
