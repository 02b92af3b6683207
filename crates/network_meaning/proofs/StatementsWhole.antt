-- Each step of the network of frames finishes the first of the statements that are left, or none, and keeps where the session ends.
use Rattle.std.proofs.Common.{◌≡◌, inl, inr, ℕ, Bool, true, false, List, [], ◌∷◌, ◌++◌, None, refl, sym, ap, subst, ◌∙◌, append_assoc}
use Rattle.network_meaning.specs.Sorts.{SessionEnd, Sorts, Finished}
use Rattle.network_meaning.specs.Ending.{Ends, KeepsEnd}
use Rattle.network_meaning.specs.Language.{HasStopped, Language}
use Rattle.network_meaning.specs.Laws.{Laws}
use Rattle.network_meaning.specs.LocalSteps.{Works, Mode.reading, Mode.waiting, Mode.printing, Mode.idle2}
use Rattle.network_meaning.specs.MessageNetwork.{MessageNetwork, StageNumber}
use Rattle.network_meaning.specs.Orderly.{Phase, spread, Phase.reads, Phase.closes, Phase.sends, Phase.away, Phase.quits_a, Phase.quits_b, Phase.quits_c, Phase.over}
use Rattle.network_meaning.specs.Network.{Network, put_between, NetworkStep, StepsUnlessBlocked, Shows, as_messages, Orderly}
use Rattle.network_meaning.specs.Going.{AllEnded}
use Rattle.network_meaning.specs.Statements.{statements_left, Finishes, FinishesFront, db_behind}
use Rattle.network_meaning.proofs.Whole.{Next, any_next, next_spelled, shown_view}
use Rattle.network_meaning.proofs.Ends.{known_end, not_away}
use Rattle.network_meaning.proofs.StatementsStages.{OneStep, none}
use Rattle.network_meaning.proofs.StatementsFirst.{step_finishes}

-- a step of frames is one of messages or changes none
steps_by : {S : Sorts} (L : Language S) (laws : Laws L) (k : StageNumber) (n n' : Network S) (o : Orderly L n) → Next L k (spread o.phase n.room) n n' → OneStep L (as_messages L n) (as_messages L n')
steps_by {S} L laws k n n' o next =
    rw (shown_view L n (spread o.phase n.room) o.shows o.spelled, shown_view L n' next.now next.shows (next_spelled L laws k n n' o next)) (elim next.step [
      | inl (e, fewer) ↦ rw e (none L _ _ refl refl (λ x h. h))
      | inr (st, fewer, wants) ↦ step_finishes L laws o.phase n.room k next.now st
    ])

steps_or : {S : Sorts} (L : Language S) (laws : Laws L) (k : StageNumber) (n n' : Network S) (blocked : Bool) → Orderly L n → StepsUnlessBlocked L k n n' blocked → OneStep L (as_messages L n) (as_messages L n')
steps_or L laws k n n' true o e = rw e (none L _ _ refl refl (λ x h. h))
steps_or L laws k n n' false o (s', g, e) = rw e (steps_by L laws k n (put_between n k s') o (any_next (Works L) L k n o.phase s' o.shows o.spelled g))

pub finishes : {S : Sorts} (L : Language S) (laws : Laws L) (capacity : ℕ) (k : StageNumber) (n n' : Network S) → Orderly L n → NetworkStep L capacity k n n' → Finishes L (as_messages L n) (as_messages L n')
finishes L laws capacity k n n' o h = (steps_or L laws k n n' _ o h).finishes

pub keeps_end : {S : Sorts} (L : Language S) (laws : Laws L) (capacity : ℕ) (k : StageNumber) (n n' : Network S) → Orderly L n → NetworkStep L capacity k n n' → KeepsEnd L (as_messages L n) (as_messages L n')
keeps_end L laws capacity k n n' o h = (steps_or L laws k n n' _ o h).ends

-- what is left where all have ended, by the phase
none_left : {S : Sorts} (L : Language S) (n : Network S) (p : Phase S) → Shows L n (spread p n.room) → AllEnded n → statements_left L (spread p n.room) ≡ []
none_left L n (reads m ranges) h e = let x = known_end n.one (reading m) h.one e.one in cc
none_left L n (closes m o ranges) h e = let x = known_end n.one (printing m o _) h.one e.one in cc
none_left L n (sends m ranges t) h e = let x = known_end n.one (waiting m None) h.one e.one in cc
none_left L n (away w p) h e = absurd (not_away w.monitor w.open_head w.prints (known_end n.one _ h.one e.one))
none_left L n (quits_a ranges) h e = let x = known_end n.two (idle2 ranges) h.two e.two in cc
none_left L n quits_b h e = refl
none_left L n quits_c h e = refl
none_left L n over h e = refl

pub none_at_end : {S : Sorts} (L : Language S) (n : Network S) → Orderly L n → AllEnded n → statements_left L (as_messages L n) ≡ []
none_at_end L n o e = ap (statements_left L) (shown_view L n (spread o.phase n.room) o.shows o.spelled) ∙ none_left L n o.phase o.shows e

-- where all have ended, the session has come to its end, by the phase
stopped_by : {S : Sorts} (L : Language S) (n : Network S) (p : Phase S) → Shows L n (spread p n.room) → AllEnded n → (e : SessionEnd S) → Ends L (spread p n.room) e → HasStopped L n.room.db n.room.shelf n.room.script e
stopped_by L n (reads m ranges) h e x s = let y = known_end n.one (reading m) h.one e.one in cc
stopped_by L n (closes m o ranges) h e x s = let y = known_end n.one (printing m o _) h.one e.one in cc
stopped_by L n (sends m ranges t) h e x s = let y = known_end n.one (waiting m None) h.one e.one in cc
stopped_by L n (away w p) h e x s = absurd (not_away w.monitor w.open_head w.prints (known_end n.one _ h.one e.one))
stopped_by L n (quits_a ranges) h e x s = let y = known_end n.two (idle2 ranges) h.two e.two in cc
stopped_by L n quits_b h e x s = s
stopped_by L n quits_c h e x s = s
stopped_by L n over h e x s = s

pub stopped_at_end : {S : Sorts} (L : Language S) (n : Network S) → Orderly L n → AllEnded n → (e : SessionEnd S) → Ends L (as_messages L n) e → HasStopped L n.room.db n.room.shelf n.room.script e
stopped_at_end L n o ended e s = stopped_by L n o.phase o.shows ended e (subst (λ v. Ends L v e) (shown_view L n (spread o.phase n.room) o.shows o.spelled) s)

behind-append : {S : Sorts} (db : S.Db) (xs ys : List (Finished S)) → db_behind {S = S} db (xs ++ ys) ≡ db_behind {S = S} (db_behind {S = S} db xs) ys
behind-append db [] ys = refl
behind-append db (x ∷ xs) ys = behind-append x.db xs ys

pub front_of : {S : Sorts} (L : Language S) (old new : MessageNetwork S) → Finishes L old new → FinishesFront L old new
front_of L old new (inl h) = record { finished = []; left = h.left; database = h.database }
front_of L old new (inr h) = record { finished = h.finished ∷ []; left = h.left; database = h.database }

-- one front, and then another
pub fronts : {S : Sorts} (L : Language S) (old mid new : MessageNetwork S) → FinishesFront L old mid → FinishesFront L mid new → FinishesFront L old new
fronts L old mid new h k = record {
  finished = h.finished ++ k.finished;
  left = h.left ∙ ap (λ x. h.finished ++ x) k.left ∙ sym (append_assoc h.finished k.finished (statements_left L new));
  database = k.database ∙ ap (λ x. db_behind x k.finished) h.database ∙ sym (behind-append old.room.db h.finished k.finished);
}
