-- What the turns of a list lead to.
use Rattle.std.proofs.Common.{◌≡◌, ◌⊎◌, inl, inr, refl, sym, ap, subst, ◌∙◌, ◌<◌, ◌≤◌, ℕ, Bool, true, false, List, [], ◌∷◌, ◌++◌, arith}
use Rattle.network_meaning.specs.Calls.{Moves, MovesIn, RunsTurns, Seen, Knows, Wrote, join, stage_number}
use Rattle.network_meaning.specs.Ending.{KeepsEnd}
use Rattle.network_meaning.specs.Going.{AllEnded, SomeGoes, SomeGoes.goes}
use Rattle.network_meaning.specs.Language.{Language}
use Rattle.network_meaning.specs.Laws.{Laws}
use Rattle.network_meaning.specs.LocalSteps.{Room}
use Rattle.network_meaning.specs.MessageNetwork.{StageNumber}
use Rattle.network_meaning.specs.Network.{Network, NetworkStep, Orderly, StepsUnlessBlocked, as_messages, is_stuck}
use Rattle.network_meaning.specs.Rounds.{Has, HasAll, LeadsOn}
use Rattle.network_meaning.specs.Sorts.{Sorts}
use Rattle.network_meaning.specs.Statements.{FinishesFront}
use Rattle.network_meaning.specs.WorkLeft.{Work, WorkLaws, work_left}
use Rattle.network_meaning.proofs.Ends.{whole_at_end}
use Rattle.network_meaning.proofs.Progress.{progress}
use Rattle.network_meaning.proofs.Runs.{wrote_more, wrote_nothing}
use Rattle.network_meaning.proofs.StatementsWhole.{finishes, front_of, fronts, keeps_end, none_at_end, stopped_at_end}
use Rattle.network_meaning.proofs.Turn.{one_turn}
use Rattle.network_meaning.proofs.Whole.{Kept, equation, lowers}

-- ---- the room behind a list

-- where these turns leave this room
abbrev behind : {S : Sorts} (L : Language S) (capacity : ℕ) (ks : List ℕ) (old new : Seen S) → RunsTurns L capacity ks old new → (r : Room S) → Knows old.known r → Room S
behind L capacity [] old new e r t = r
behind L capacity (k ∷ ks) old new (mid, blocked, m, rest) r t = behind L capacity ks mid new rest (m.exact r t).room' (m.exact r t).known

behind_known : {S : Sorts} (L : Language S) (capacity : ℕ) (ks : List ℕ) (old new : Seen S) (run : RunsTurns L capacity ks old new) (r : Room S) (t : Knows old.known r) → Knows new.known (behind L capacity ks old new run r t)
behind_known {S} L capacity [] old new e r t = subst (λ (x : Seen S). Knows x.known r) (sym e) t
behind_known L capacity (k ∷ ks) old new (mid, blocked, m, rest) r t = behind_known L capacity ks mid new rest (m.exact r t).room' (m.exact r t).known

behind_wrote : {S : Sorts} (L : Language S) (capacity : ℕ) (ks : List ℕ) (old new : Seen S) (run : RunsTurns L capacity ks old new) (r : Room S) (t : Knows old.known r) → Wrote old.known new.known r (behind L capacity ks old new run r t)
behind_wrote {S} L capacity [] old new e r t = subst (λ (x : Seen S). Wrote old.known x.known r r) (sym e) (wrote_nothing old.known r)
behind_wrote L capacity (k ∷ ks) old new (mid, blocked, m, rest) r t =
    let x = m.exact r t in
    wrote_more old.known mid.known new.known r x.room' (behind L capacity ks mid new rest x.room' x.known) x.wrote (behind_wrote L capacity ks mid new rest x.room' x.known)

-- ---- one step

step_as : {S : Sorts} (L : Language S) (capacity : ℕ) (k : StageNumber) (blocked : Bool) (old new : Seen S) (m : Moves L capacity k blocked old new) (r : Room S) (t : Knows old.known r) → NetworkStep L capacity k (join old.shape r) (join new.shape (m.exact r t).room')
step_as L capacity k blocked old new m r t =
    let x : MovesIn L k blocked old new r = m.exact r t in
    subst (λ b. StepsUnlessBlocked L k (join old.shape r) (join new.shape x.room') b) (sym (m.is r)) x.step

step_kept : {S : Sorts} (L : Language S) (laws : Laws L) (capacity : ℕ) (k : StageNumber) (blocked : Bool) (old new : Seen S) (m : Moves L capacity k blocked old new) (r : Room S) (t : Knows old.known r)
    → Orderly L (join old.shape r) → Kept L (join old.shape r) (join new.shape (m.exact r t).room')
step_kept L laws capacity k blocked old new m r t o = equation L laws capacity k (join old.shape r) (join new.shape (m.exact r t).room') o (step_as L capacity k blocked old new m r t)

no_more_by : {S : Sorts} (L : Language S) (laws : Laws L) (W : Work L) (wl : WorkLaws L W) (k : StageNumber) (b : Bool) (n n' : Network S) → Orderly L n → StepsUnlessBlocked L k n n' b → work_left L W n' ≤ work_left L W n
no_more_by L laws W wl k true n n' o step = rw step (omega arith)
no_more_by L laws W wl k false n n' o step = let less = lowers L laws W wl k n n' o step in omega (arith, less)

-- ---- a list

behind_kept : {S : Sorts} (L : Language S) (laws : Laws L) (capacity : ℕ) (ks : List ℕ) (old new : Seen S) (run : RunsTurns L capacity ks old new) (r : Room S) (t : Knows old.known r)
    → Orderly L (join old.shape r) → Kept L (join old.shape r) (join new.shape (behind L capacity ks old new run r t))
behind_kept {S} L laws capacity [] old new e r t o = subst (λ (x : Seen S). Kept L (join old.shape r) (join x.shape r)) (sym e) (record { orderly = o; same = refl })
behind_kept {S} L laws capacity (k ∷ ks) old new (mid, blocked, m, rest) r t o =
    let x : MovesIn L (stage_number k) blocked old mid r = m.exact r t in
    let now : Kept L (join old.shape r) (join mid.shape x.room') = step_kept L laws capacity (stage_number k) blocked old mid m r t o in
    let later : Kept L (join mid.shape x.room') (join new.shape (behind L capacity ks mid new rest x.room' x.known)) = behind_kept L laws capacity ks mid new rest x.room' x.known now.orderly in
    record { orderly = later.orderly; same = later.same ∙ now.same }

behind_front : {S : Sorts} (L : Language S) (laws : Laws L) (capacity : ℕ) (ks : List ℕ) (old new : Seen S) (run : RunsTurns L capacity ks old new) (r : Room S) (t : Knows old.known r)
    → Orderly L (join old.shape r) → FinishesFront L (as_messages L (join old.shape r)) (as_messages L (join new.shape (behind L capacity ks old new run r t)))
behind_front {S} L laws capacity [] old new e r t o = subst (λ (x : Seen S). FinishesFront L (as_messages L (join old.shape r)) (as_messages L (join x.shape r))) (sym e) (record { finished = []; left = refl; database = refl })
behind_front {S} L laws capacity (k ∷ ks) old new (mid, blocked, m, rest) r t o =
    let x : MovesIn L (stage_number k) blocked old mid r = m.exact r t in
    let now : Kept L (join old.shape r) (join mid.shape x.room') = step_kept L laws capacity (stage_number k) blocked old mid m r t o in
    fronts L _ _ _ (front_of L _ _ (finishes L laws capacity (stage_number k) (join old.shape r) (join mid.shape x.room') o (step_as L capacity (stage_number k) blocked old mid m r t)))
    (behind_front L laws capacity ks mid new rest x.room' x.known now.orderly)

behind_ends : {S : Sorts} (L : Language S) (laws : Laws L) (capacity : ℕ) (ks : List ℕ) (old new : Seen S) (run : RunsTurns L capacity ks old new) (r : Room S) (t : Knows old.known r)
    → Orderly L (join old.shape r) → KeepsEnd L (as_messages L (join old.shape r)) (as_messages L (join new.shape (behind L capacity ks old new run r t)))
behind_ends {S} L laws capacity [] old new e r t o = subst (λ (x : Seen S). KeepsEnd L (as_messages L (join old.shape r)) (as_messages L (join x.shape r))) (sym e) (λ x h. h)
behind_ends {S} L laws capacity (k ∷ ks) old new (mid, blocked, m, rest) r t o =
    let x : MovesIn L (stage_number k) blocked old mid r = m.exact r t in
    let now : Kept L (join old.shape r) (join mid.shape x.room') = step_kept L laws capacity (stage_number k) blocked old mid m r t o in
    let first = keeps_end L laws capacity (stage_number k) (join old.shape r) (join mid.shape x.room') o (step_as L capacity (stage_number k) blocked old mid m r t) in
    λ e h. behind_ends L laws capacity ks mid new rest x.room' x.known now.orderly e (first e h)

behind_most : {S : Sorts} (L : Language S) (laws : Laws L) (W : Work L) (wl : WorkLaws L W) (capacity : ℕ) (ks : List ℕ) (old new : Seen S) (run : RunsTurns L capacity ks old new) (r : Room S) (t : Knows old.known r)
    → Orderly L (join old.shape r) → work_left L W (join new.shape (behind L capacity ks old new run r t)) ≤ work_left L W (join old.shape r)
behind_most {S} L laws W wl capacity [] old new e r t o = subst (λ (x : Seen S). work_left L W (join x.shape r) ≤ work_left L W (join old.shape r)) (sym e) (omega arith)
behind_most {S} L laws W wl capacity (k ∷ ks) old new (mid, blocked, m, rest) r t o =
    let x : MovesIn L (stage_number k) blocked old mid r = m.exact r t in
    let now : Kept L (join old.shape r) (join mid.shape x.room') = step_kept L laws capacity (stage_number k) blocked old mid m r t o in
    let one = no_more_by L laws W wl (stage_number k) blocked (join old.shape r) (join mid.shape x.room') o x.step in
    let two = behind_most L laws W wl capacity ks mid new rest x.room' x.known now.orderly in
    omega (arith, one, two)

-- where a stage isn't blocked and has a turn, less is left
behind_less : {S : Sorts} (L : Language S) (laws : Laws L) (W : Work L) (wl : WorkLaws L W) (capacity : ℕ) (k : StageNumber) (ks : List ℕ) (old new : Seen S) → Has k ks → (run : RunsTurns L capacity ks old new) (r : Room S) (t : Knows old.known r)
    → Orderly L (join old.shape r) → is_stuck capacity k (join old.shape r) ≡ false → work_left L W (join new.shape (behind L capacity ks old new run r t)) < work_left L W (join old.shape r)
behind_less L laws W wl capacity k [] old new h run r t o free = absurd h
behind_less {S} L laws W wl capacity k (j ∷ ks) old new h (mid, false, m, rest) r t o free =
    let x : MovesIn L (stage_number j) false old mid r = m.exact r t in
    let now : Kept L (join old.shape r) (join mid.shape x.room') = step_kept L laws capacity (stage_number j) false old mid m r t o in
    let one = lowers L laws W wl (stage_number j) (join old.shape r) (join mid.shape x.room') o x.step in
    let two = behind_most L laws W wl capacity ks mid new rest x.room' x.known now.orderly in
    omega (arith, one, two)
behind_less {S} L laws W wl capacity k (j ∷ ks) old new (inl here) (mid, true, m, rest) r t o free =
    let stuck : is_stuck capacity k (join old.shape r) ≡ true = subst (λ (i : StageNumber). is_stuck capacity i (join old.shape r) ≡ true) here (m.is r) in
    let no : ◌≡◌ {A = Bool} true false = sym stuck ∙ free in
    absurd (cc no)
behind_less {S} L laws W wl capacity k (j ∷ ks) old new (inr h) (mid, true, m, rest) r t o free =
    let x : MovesIn L (stage_number j) true old mid r = m.exact r t in
    let now : Kept L (join old.shape r) (join mid.shape x.room') = step_kept L laws capacity (stage_number j) true old mid m r t o in
    let same : join mid.shape x.room' ≡ join old.shape r = x.step in
    let free' : is_stuck capacity k (join mid.shape x.room') ≡ false = subst (λ (n : Network S). is_stuck capacity k n ≡ false) (sym same) free in
    let one : work_left L W (join mid.shape x.room') ≡ work_left L W (join old.shape r) = ap (λ (n : Network S). work_left L W n) same in
    let two = behind_less L laws W wl capacity k ks mid new h rest x.room' x.known now.orderly free' in
    omega (arith, one, two)

pub runs_lead : {S : Sorts} (L : Language S) (laws : Laws L) (W : Work L) (wl : WorkLaws L W) (capacity : ℕ) (ks : List ℕ) (old new : Seen S) → RunsTurns L capacity ks old new → LeadsOn L W capacity ks old new
runs_lead {S} L laws W wl capacity ks old new run r t o =
    let kept : Kept L (join old.shape r) (join new.shape (behind L capacity ks old new run r t)) = behind_kept L laws capacity ks old new run r t o in
    let o' = kept.orderly in
    record {
      room = behind L capacity ks old new run r t;
      known = behind_known L capacity ks old new run r t;
      wrote = behind_wrote L capacity ks old new run r t;
      orderly = kept.orderly;
      same = kept.same;
      finished = behind_front L laws capacity ks old new run r t o;
      one = one_turn L _ o';
      goes = λ le. progress L capacity _ o'.phase le o'.shows;
      most = behind_most L laws W wl capacity ks old new run r t o;
      less = λ le all. less all (progress L capacity (join old.shape r) o.phase le o.shows);
      whole = λ ended. sym (whole_at_end L _ o' ended) ∙ kept.same;
      none_left = λ ended. none_at_end L _ o' ended;
      ends = behind_ends L laws capacity ks old new run r t o;
      stopped = λ ended e h. stopped_at_end L _ o' ended e (behind_ends L laws capacity ks old new run r t o e h);
    }
  where
    less : HasAll ks → SomeGoes capacity (join old.shape r) ⊎ AllEnded (join old.shape r)
        → (work_left L W (join new.shape (behind L capacity ks old new run r t)) < work_left L W (join old.shape r)) ⊎ AllEnded (join old.shape r)
    less all (inl (goes k free)) = inl (behind_less L laws W wl capacity k ks old new (all k) run r t o free)
    less all (inr ended) = inr ended

-- two lists, one behind the other, are one
pub runs_on : {S : Sorts} (L : Language S) (capacity : ℕ) (xs ys : List ℕ) (a b c : Seen S) → RunsTurns L capacity xs a b → RunsTurns L capacity ys b c → RunsTurns L capacity (xs ++ ys) a c
runs_on {S} L capacity [] ys a b c e run = subst (λ (x : Seen S). RunsTurns L capacity ys x c) e run
runs_on L capacity (k ∷ xs) ys a b c (mid, blocked, m, rest) run = (mid, blocked, m, runs_on L capacity xs ys mid b c rest run)
