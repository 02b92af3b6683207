-- Where the parser stands, by what it wants, and what it gives there.
use Rattle.std.proofs.Common.{◌≡◌, ◌⊎◌, inl, inr, ℕ, true, false, List, [], ◌∷◌, Option, refl, sym, subst, ◌∙◌}
use Rattle.calculus.specs.Database.{Db}
use Rattle.frame_codec.specs.declared.frame.Frame.{Frame}
use Rattle.net_core.specs.Crashes.{HandsOver, QuietWithout}
use Rattle.net_core.specs.Known.{Outside}
use Rattle.net_core.specs.Wants.{IsToGive, IsToTake}
use Rattle.network_meaning.specs.Calls.{Given}
use Rattle.network_meaning.specs.LocalSteps.{Want, Want.take_left, Want.take_right, Want.give_left, Want.give_right, Want.work, Want.none, want_of}
use Rattle.network_meaning.specs.Network.{LocalState, want}
use Rattle.network_meaning.specs.Turn.{has_turn}
use Rattle.quel_meaning.specs.Ranges.{Ranges}
use Rattle.quel_network.specs.Sorts.{Batch, quel_sorts}
use Rattle.stage_parse.specs.declared.at.At.{At}
use Rattle.stage_parse.specs.declared.at.At.TheVariants as at
use Rattle.stage_parse.specs.Standing.{IsHanded, mode_at, standing}

-- ---- what it wants

-- it takes from the left where it waits for a batch alone
pub is_idle : (ranges : Ranges) (here : At) (b : Batch) (gl gr ol or : List Frame) → want (standing ranges here b gl gr ol or) ≡ take_left → here ≡ at.Idle
is_idle ranges here b gl gr (f ∷ fs) or e = absurd (cc e)
is_idle ranges here b gl gr [] (f ∷ fs) e = absurd (cc e)
is_idle ranges at.Idle b gl gr [] [] e = refl
is_idle ranges at.Parsing b gl gr [] [] e = absurd (cc e)
is_idle ranges (at.Passing line) b gl gr [] [] e = absurd (cc e)
is_idle ranges at.Ended b gl gr [] [] e = absurd (cc e)

-- it works where it parses alone
pub is_parsing : (ranges : Ranges) (here : At) (b : Batch) (gl gr ol or : List Frame) → want (standing ranges here b gl gr ol or) ≡ work → here ≡ at.Parsing
is_parsing ranges here b gl gr (f ∷ fs) or e = absurd (cc e)
is_parsing ranges here b gl gr [] (f ∷ fs) e = absurd (cc e)
is_parsing ranges at.Idle b gl gr [] [] e = absurd (cc e)
is_parsing ranges at.Parsing b gl gr [] [] e = refl
is_parsing ranges (at.Passing line) b gl gr [] [] e = absurd (cc e)
is_parsing ranges at.Ended b gl gr [] [] e = absurd (cc e)

-- where it is to take it has nothing to give
pub data Takes (here : At) (ol or : List Frame) : Type 0 where
  takes_there : ol ≡ [] → or ≡ [] → (here ≡ at.Parsing → ⊥) → (here ≡ at.Ended → ⊥) → Takes here ol or

no_take : {A : Type 0} (w : Want) → (w ≡ take_left → ⊥) → (w ≡ take_right → ⊥) → (w ≡ take_left) ⊎ (w ≡ take_right) → A
no_take w left right (inl e) = absurd (left e)
no_take w left right (inr e) = absurd (right e)

pub is_taking : (ranges : Ranges) (here : At) (b : Batch) (gl gr ol or : List Frame) → IsToTake (standing ranges here b gl gr ol or) → Takes here ol or
is_taking ranges here b gl gr (f ∷ fs) or h = no_take give_left (λ e. cc e) (λ e. cc e) h
is_taking ranges here b gl gr [] (f ∷ fs) h = no_take give_right (λ e. cc e) (λ e. cc e) h
is_taking ranges at.Idle b gl gr [] [] h = takes_there refl refl (λ e. cc e) (λ e. cc e)
is_taking ranges at.Parsing b gl gr [] [] h = no_take work (λ e. cc e) (λ e. cc e) h
is_taking ranges (at.Passing line) b gl gr [] [] h = takes_there refl refl (λ e. cc e) (λ e. cc e)
is_taking ranges at.Ended b gl gr [] [] h = no_take none (λ e. cc e) (λ e. cc e) h

wants_there : {w : Want} (ranges : Ranges) (here there : At) (b : Batch) (gl gr ol or : List Frame) → here ≡ there → want_of (mode_at ranges there b) ≡ w → Takes here ol or → want (standing ranges here b gl gr ol or) ≡ w
wants_there {w} ranges here there b gl gr ol or e is (takes_there a c no_parsing no_ended) =
    subst (λ (x : List Frame). want (standing ranges here b gl gr x or) ≡ w) (sym a)
    (subst (λ (x : List Frame). want (standing ranges here b gl gr [] x) ≡ w) (sym c)
    (subst (λ (x : At). want (standing ranges x b gl gr [] []) ≡ w) (sym e) is))

pub wants_left : (ranges : Ranges) (here : At) (b : Batch) (gl gr ol or : List Frame) → here ≡ at.Idle → IsToTake (standing ranges here b gl gr ol or) → want (standing ranges here b gl gr ol or) ≡ take_left
wants_left ranges here b gl gr ol or e h = wants_there ranges here at.Idle b gl gr ol or e refl (is_taking ranges here b gl gr ol or h)

pub wants_right : (ranges : Ranges) (here : At) (line : ℕ) (b : Batch) (gl gr ol or : List Frame) → here ≡ at.Passing line → IsToTake (standing ranges here b gl gr ol or) → want (standing ranges here b gl gr ol or) ≡ take_right
wants_right ranges here line b gl gr ol or e h = wants_there ranges here (at.Passing line) b gl gr ol or e refl (is_taking ranges here b gl gr ol or h)

pub not_parsing : (ranges : Ranges) (here : At) (b : Batch) (gl gr ol or : List Frame) → IsToTake (standing ranges here b gl gr ol or) → here ≡ at.Parsing → ⊥
not_parsing ranges here b gl gr ol or h = go (is_taking ranges here b gl gr ol or h)
  where
    go : Takes here ol or → here ≡ at.Parsing → ⊥
    go (takes_there a c no_parsing no_ended) = no_parsing

pub not_ended : (ranges : Ranges) (here : At) (b : Batch) (gl gr ol or : List Frame) → IsToTake (standing ranges here b gl gr ol or) → here ≡ at.Ended → ⊥
not_ended ranges here b gl gr ol or h = go (is_taking ranges here b gl gr ol or h)
  where
    go : Takes here ol or → here ≡ at.Ended → ⊥
    go (takes_there a c no_parsing no_ended) = no_ended

-- ---- what it gives

pub given_left : (ranges : Ranges) (here : At) (b : Batch) (gl gr ol ol' or : List Frame) (f : Frame) → ol ≡ f ∷ ol' → Given (standing ranges here b gl gr ol or) f (standing ranges here b gl gr ol' or)
given_left ranges here b gl gr ol ol' or f e = subst (λ (x : List Frame). Given (standing ranges here b gl gr x or) f (standing ranges here b gl gr ol' or)) (sym e) (refl, refl)

given_right_alone : (ranges : Ranges) (here : At) (b : Batch) (gl gr or or' : List Frame) (f : Frame) → or ≡ f ∷ or' → Given (standing ranges here b gl gr [] or) f (standing ranges here b gl gr [] or')
given_right_alone ranges here b gl gr or or' f e = subst (λ (x : List Frame). Given (standing ranges here b gl gr [] x) f (standing ranges here b gl gr [] or')) (sym e) (refl, refl)

pub given_right : (ranges : Ranges) (here : At) (b : Batch) (gl gr ol or or' : List Frame) (f : Frame) → ol ≡ [] → or ≡ f ∷ or' → Given (standing ranges here b gl gr ol or) f (standing ranges here b gl gr ol or')
given_right ranges here b gl gr ol or or' f nothing e =
    subst (λ (x : List Frame). Given (standing ranges here b gl gr x or) f (standing ranges here b gl gr x or')) (sym nothing) (given_right_alone ranges here b gl gr or or' f e)

no_give : {A : Type 0} (w : Want) → (w ≡ give_left → ⊥) → (w ≡ give_right → ⊥) → (w ≡ give_left) ⊎ (w ≡ give_right) → A
no_give w left right (inl e) = absurd (left e)
no_give w left right (inr e) = absurd (right e)

gives_nothing : (ranges : Ranges) (here : At) (b : Batch) (gl gr : List Frame) → IsToGive (standing ranges here b gl gr [] []) → ⊥
gives_nothing ranges at.Idle b gl gr h = no_give take_left (λ e. cc e) (λ e. cc e) h
gives_nothing ranges at.Parsing b gl gr h = no_give work (λ e. cc e) (λ e. cc e) h
gives_nothing ranges (at.Passing line) b gl gr h = no_give take_right (λ e. cc e) (λ e. cc e) h
gives_nothing ranges at.Ended b gl gr h = no_give none (λ e. cc e) (λ e. cc e) h

-- where it is to give, and has nothing for the left, it has something for the right
pub right_some : (ranges : Ranges) (here : At) (b : Batch) (gl gr ol or : List Frame) → ol ≡ [] → IsToGive (standing ranges here b gl gr ol or) → or ≡ [] → ⊥
right_some ranges here b gl gr ol or nothing h e =
    gives_nothing ranges here b gl gr
    (subst (λ (x : List Frame). IsToGive (standing ranges here b gl gr [] x)) e (subst (λ (x : List Frame). IsToGive (standing ranges here b gl gr x or)) nothing h))

-- ---- the turn

-- it has it while it parses
pub quiet_any : (ranges : Ranges) (here : At) (b : Batch) (gl gr ol or : List Frame) (o o' : Outside) → here ≡ at.Parsing → QuietWithout (standing ranges here b gl gr ol or) o o'
quiet_any ranges here b gl gr ol or o o' e = λ k no.
    let is : has_turn k (mode_at ranges here b) ≡ true = subst (λ (x : At). has_turn k (mode_at ranges x b) ≡ true) (sym e) refl in
    let both : true ≡ false = sym is ∙ no in
    absurd (cc both)

-- and else it has handed the base over
pub hands_over : (s : LocalState quel_sorts) (ranges : Ranges) (here : At) (b : Batch) (gl gr ol or : List Frame) (schema database : Option Db) → IsHanded here schema database → HandsOver s (standing ranges here b gl gr ol or) schema database
hands_over s ranges at.Idle b gl gr ol or schema database h = λ works turn away. h
hands_over s ranges at.Parsing b gl gr ol or schema database h = λ works turn away. absurd (cc away)
hands_over s ranges (at.Passing line) b gl gr ol or schema database h = λ works turn away. h
hands_over s ranges at.Ended b gl gr ol or schema database h = λ works turn away. h

-- while it parses nothing has to be handed over
pub handed_parsing : (here : At) (schema database : Option Db) → here ≡ at.Parsing → IsHanded here schema database
handed_parsing here schema database e = subst (λ (x : At). IsHanded x schema database) (sym e) tt
