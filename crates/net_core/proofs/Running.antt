-- A run, from its start to its end.
use Rattle.std.proofs.Common.{◌≡◌, Option, refl, sym, ap, subst, ◌∙◌, ℕ, ◌+◌, ◌-◌, ◌^◌, ◌≤◌, List, [], ◌∷◌, ◌++◌, length, length-append, arith, inl, inr, Ok, Err}
use Rattle.calculus.specs.Database.{Db}
use Rattle.std.proofs.KnownBytes.{Appends-nil, Consumes-nil}
use Rattle.net_core.proofs.Faulty.{database_more, database_same, heard_more, heard_same, later_more, later_same, may_come_from, script_more, script_same}
use Rattle.net_core.specs.declared.steps.Moved.{Moved}
use Rattle.net_core.specs.declared.steps.Moved.TheVariants.{Stepped, Blocked}
use Rattle.net_core.specs.Crashes.{StepLeaves}
use Rattle.net_core.specs.Known.{KeepsDatabase, KeepsScript, Later, Outside}
use Rattle.network_meaning.specs.Language.{Language}
use Rattle.network_meaning.specs.Network.{LocalState}
use Rattle.quel_network.specs.Quel.{quel}
use Rattle.quel_network.specs.Sorts.{User, quel_sorts}
use Rattle.net_core.specs.declared.loop_fault.LoopFault.{LoopFault}
use Rattle.net_core.specs.declared.loop_fault.LoopFault.TheVariants as fault
use Rattle.net_core.specs.declared.incoming.Incoming.{Incoming}
use Rattle.net_core.specs.Incoming.{Holds}
use Rattle.net_core.specs.Moves.{At, LocalRun, Move, StepsBy, given_left, given_right, taken_left, taken_right}
use Rattle.net_core.specs.Sides.{Side, Sides}
use Rattle.net_core.specs.LoopSteps.{Goes, Hand, Past, Ran, RanWhole, RoomKept, SideGoes, StepDone, at_hand}
use Rattle.net_core.specs.WholeLoop.{Ending, HowEnded, LoopLeaves}
use Rattle.net_core.proofs.Going.{side_read, stays_later, wrote_all}
use Rattle.net_core.proofs.GivingSteps.{nothing_more}
use Rattle.net_core.proofs.LoopCrashing.{KnowsOn, leaves_alone, leaves_at, leaves_behind, leaves_on, nothing_left, step_knows}
use Rattle.net_core.proofs.TakingSteps.{ending, places_at}

-- ---- steps, one after the other

pub run_both : (L : Language quel_sorts) (ms ls : List Move) (a b c : At) → LocalRun L ms a b → LocalRun L ls b c → LocalRun L (ms ++ ls) a c
run_both L [] ls a b c e r = subst (λ (x : At). LocalRun L ls x c) e r
run_both L (m ∷ ms) ls a b c (mid, step, rest) r = (mid, step, run_both L ms ls mid b c rest r)

run_more : (L : Language quel_sorts) (ms : List Move) (m : Move) (a b c : At) → LocalRun L ms a b → StepsBy L m b c → LocalRun L (ms ++ m ∷ []) a c
run_more L ms m a b c r s = run_both L ms (m ∷ []) a b c r (c, s, refl)

-- ---- a run that goes on

-- a run that began here, with this at hand now, behind so many steps; and what a crash might leave before and may leave now
pub record Running (serves : User → Type 0) (start : At) (before : Sides) (made : ℕ) (p : Hand) (left left' : ℕ → Option Db → Type 0) : Type 0 where
  pub past : Past
  pub began : past.before ≡ before
  pub counted : length past.moves ≡ made
  pub goes : Goes past p
  pub runs : (user : User) → serves user → LocalRun (quel user) past.moves start (at_hand p)
  pub knows : (user : User) → serves user → KnowsOn start (at_hand p)
  pub crash : (user : User) → serves user → LoopLeaves (quel user) past.moves start p.outside.clock left left'

side_begins : (b : Side) (i : Incoming) → Holds [] [] i → SideGoes b b [] [] [] i
side_begins b i h = record { holds = h; heard = Consumes-nil b.left; needed = inl refl; wrote = Appends-nil b.out.written; faults = refl; counts = record { faults = refl; stalls = refl } }

pub running_begins : (serves : User → Type 0) (s : LocalState quel_sorts) (o : Outside) (schema : Option Db) (before : Sides) (l r : Incoming) (heard : ℕ) (left : ℕ → Option Db → Type 0) → Holds [] [] l → Holds [] [] r →
    Running serves (record { state = s; outside = o; schema = schema }) before 0 (record { state = s; outside = o; schema = schema; sides = before; talk = record { left = l; right = r; last = 0 }; heard = heard }) left left
running_begins serves s o schema before l r heard left hl hr = record {
  past = record { before = before; moves = []; left = []; right = [] };
  began = refl;
  counted = refl;
  goes = record {
    plain = λ k d lt. absurd (omega arith);
    left = side_begins before.left l hl;
    right = side_begins before.right r hr;
    places = ap (λ (x : ℕ). places_at x r.place 0) hl.place ∙ ap (λ (x : ℕ). places_at 0 x 0) hr.place;
  };
  runs = λ user x. refl;
  knows = λ user x room t. (room, t);
  crash = λ user x. nothing_left (quel user) (record { state = s; outside = o; schema = schema }) left;
}

pub running_on : (serves serves' : User → Type 0) (start : At) (before : Sides) (made : ℕ) (p p' : Hand) (left left' left'' : ℕ → Option Db → Type 0) (moved : Moved) → moved ≡ Stepped → Running serves start before made p left left' → ((user : User) → serves user → serves' user) →
    ((past : Past) → Goes past p → StepDone serves' past p p' (Ok moved)) → ((user : User) → serves' user → StepLeaves (quel user) p.state p.outside p'.outside left' left'') → Running serves start before (made + 1) p' left left''
running_on serves serves' start before made p p' left left' left'' moved e r keep step crash =
    let (m, ls, rs, by, goes) = subst (λ (x : Moved). StepDone serves' r.past p p' (Ok x)) e (step r.past r.goes) in
    let sum = length-append r.past.moves (m ∷ []) in
    let was = r.counted in
    record {
      past = record { before = r.past.before; moves = r.past.moves ++ m ∷ []; left = ls; right = rs };
      began = r.began;
      counted = omega (arith, sum, was);
      goes = goes;
      runs = λ user x. run_more (quel user) r.past.moves m start (at_hand p) (at_hand p') (r.runs user x) (by user (keep user x));
      knows = λ user x room t. let mid = r.knows user x room t in step_knows (quel user) m (at_hand p) (at_hand p') (by user (keep user x)) mid.0 mid.1;
      crash = λ user x. leaves_behind (quel user) r.past.moves (m ∷ []) start (at_hand p) p'.outside left left' left'' (r.runs user x) (r.knows user x) (r.crash user x) (crash user (keep user x));
    }

-- ---- a run that has ended

how_from : (serves serves' : User → Type 0) (heard heard' : ℕ) (s' : LocalState quel_sorts) (old mid new : Outside) (before after : Sides) (e : Ending) (f : LoopFault) → ((user : User) → serves user → serves' user) → Later old mid → KeepsScript heard heard' old mid → KeepsDatabase old mid →
    HowEnded serves' heard' s' mid new before after e (Err f) → HowEnded serves heard s' old new before after e (Err f)
how_from serves serves' heard heard' s' old mid new before after e (fault.Work f) keep l k d (w, ne, may, front) = (w, ne, may_come_from heard heard' old mid new f l k d may, λ user x. front user (keep user x))
how_from serves serves' heard heard' s' old mid new before after e fault.LeftRead keep l k d h = h
how_from serves serves' heard heard' s' old mid new before after e fault.LeftWrite keep l k d h = h
how_from serves serves' heard heard' s' old mid new before after e fault.Right keep l k d h = h
how_from serves serves' heard heard' s' old mid new before after e fault.EndedEarly keep l k d h = h
how_from serves serves' heard heard' s' old mid new before after e fault.Spent keep l k d h = h
how_from serves serves' heard heard' s' old mid new before after e (fault.BadFrame at) keep l k d ((inl (inl (w, inl b))), u) = (inl (inl (w, inl b)), u)
how_from serves serves' heard heard' s' old mid new before after e (fault.BadFrame at) keep l k d ((inl (inl (w, inr (frame, more, is, there, never)))), u) = (inl (inl (w, inr (frame, more, is, there, λ user x. never user (keep user x)))), u)
how_from serves serves' heard heard' s' old mid new before after e (fault.BadFrame at) keep l k d ((inl (inr (w, inl b))), u) = (inl (inr (w, inl b)), u)
how_from serves serves' heard heard' s' old mid new before after e (fault.BadFrame at) keep l k d ((inl (inr (w, inr (frame, more, is, there, never)))), u) = (inl (inr (w, inr (frame, more, is, there, λ user x. never user (keep user x)))), u)
how_from serves serves' heard heard' s' old mid new before after e (fault.BadFrame at) keep l k d ((inr (w, there, never, part)), u) = (inr (w, there, (λ user x. never user (keep user x)), λ user x. part user (keep user x)), u)
how_from serves serves' heard heard' s' old mid new before after e (fault.Told status) keep l k d h = h
how_from serves serves' heard heard' s' old mid new before after e fault.OutOfMemory keep l k d h = tt

-- a run that ends behind earlier steps
abbrev ran_behind : (serves serves' : User → Type 0) (start : At) (heard : ℕ) (s' : LocalState quel_sorts) (old new : Outside) (after : Sides) (past : Past) (p : Hand) (f : LoopFault) → ((user : User) → serves user → LocalRun (quel user) past.moves start (at_hand p)) → ((user : User) → serves user → serves' user) →
    Later old p.outside → KeepsScript heard p.heard old p.outside → KeepsDatabase old p.outside →
    Ran serves' (at_hand p) p.heard s' p.outside new past.before after past.moves (Err f) → Ran serves start heard s' old new past.before after [] (Err f)
ran_behind serves serves' start heard s' old new after past p f runs keep l k d r = record {
  moves = r.moves;
  later = r.moves;
  is = refl;
  end = r.end;
  left_read = r.left_read;
  left_unread = r.left_unread;
  right_read = r.right_read;
  right_unread = r.right_unread;
  runs = λ user x. subst (λ (ms : List Move). LocalRun (quel user) ms start r.end) (sym r.is) (run_both (quel user) past.moves r.later start (at_hand p) r.end (runs user x) (r.runs user (keep user x)));
  left = r.left;
  right = r.right;
  plain = r.plain;
  left_wrote = r.left_wrote;
  left_all = r.left_all;
  right_wrote = r.right_wrote;
  left_later = r.left_later;
  right_later = r.right_later;
  all = tt;
  room = r.room;
  ended = how_from serves serves' heard p.heard s' old p.outside new past.before after (ending r.moves r.end r.left_read r.left_unread after.left.left r.right_read r.right_unread after.right.left) f keep l k d r.ended;
}

pub ran_failed : (serves serves' : User → Type 0) (start : At) (place heard : ℕ) (s' : LocalState quel_sorts) (schema' : Option Db) (old new : Outside) (before after : Sides) (left left' left'' : ℕ → Option Db → Type 0) (made : ℕ) (p : Hand) (f : LoopFault) → Running serves start before made p left left' →
    ((user : User) → serves user → serves' user) → RoomKept place heard p.heard old p.outside (Ok Stepped) → ((past : Past) → Goes past p → Ran serves' (at_hand p) p.heard s' p.outside new past.before after past.moves (Err f)) →
    ((user : User) → serves' user → StepLeaves (quel user) p.state p.outside new left' left'') → RanWhole serves start heard s' schema' old new before after left left'' (Err f)
ran_failed serves serves' start place heard s' schema' old new before after left left' left'' made p f r keep room step crash =
    let last : Ran serves' (at_hand p) p.heard s' p.outside new r.past.before after r.past.moves (Err f) = step r.past r.goes in
    subst (λ (x : Sides). RanWhole serves start heard s' schema' old new x after left left'' (Err f)) r.began
    (record {
      ran = ran_behind serves serves' start heard s' old new after r.past p f r.runs keep room.later room.script room.database last;
      known = tt;
      crash = λ user x. leaves_at (quel user) (r.past.moves ++ last.later) last.moves start new.clock left left'' last.is
          (leaves_behind (quel user) r.past.moves last.later start (at_hand p) new left left' left'' (r.runs user x) (r.knows user x) (r.crash user x) (crash user (keep user x)));
    })

-- no more steps are counted
pub ran_spent : (serves : User → Type 0) (start : At) (place heard : ℕ) (schema' : Option Db) (old : Outside) (before : Sides) (left left' : ℕ → Option Db → Type 0) (made : ℕ) (p : Hand) → Running serves start before made p left left' → 2 ^ 64 - 1 ≤ made → made ≤ 2 ^ 64 - 1 →
    RoomKept place heard p.heard old p.outside (Ok Stepped) → RanWhole serves start heard p.state schema' old p.outside before p.sides left left' (Err fault.Spent)
ran_spent serves start place heard schema' old before left left' made p r low high room =
    let was = r.counted in
    let last : Ran serves (at_hand p) p.heard p.state p.outside p.outside r.past.before p.sides r.past.moves (Err fault.Spent) = nothing_more serves r.past p p.state p.outside fault.Spent r.goes refl (inl (omega (arith, was, low, high))) in
    subst (λ (x : Sides). RanWhole serves start heard p.state schema' old p.outside x p.sides left left' (Err fault.Spent)) r.began
    (record {
      ran = ran_behind serves serves start heard p.state old p.outside p.sides r.past p fault.Spent r.runs (λ user x. x) room.later room.script room.database last;
      known = tt;
      crash = λ user x. leaves_at (quel user) (r.past.moves ++ last.later) last.moves start p.outside.clock left left' last.is
          (leaves_on (quel user) r.past.moves last.later start p.outside.clock left left' (r.crash user x));
    })

-- the stage has ended
pub ran_ended : (serves serves' : User → Type 0) (start : At) (heard : ℕ) (old : Outside) (before : Sides) (left left' left'' : ℕ → Option Db → Type 0) (made : ℕ) (p p' : Hand) (x : Unit {0}) (moved : Moved) → moved ≡ Blocked → Running serves start before made p left left' →
    ((user : User) → serves user → serves' user) → ((past : Past) → Goes past p → StepDone serves' past p p' (Ok moved)) → ((user : User) → serves' user → StepLeaves (quel user) p.state p.outside p'.outside left' left'') →
    RanWhole serves start heard p'.state p'.schema old p'.outside before p'.sides left left'' (Ok x)
ran_ended serves serves' start heard old before left left' left'' made p p' x moved e r keep step crash =
    let done = subst (λ (y : Moved). StepDone serves' r.past p p' (Ok y)) e (step r.past r.goes) in
    let g = r.goes in
    let past = r.past in
    let still : (user : User) → serves user → LoopLeaves (quel user) past.moves start p.outside.clock left left'' = λ user s. leaves_alone (quel user) past.moves start p.outside.clock left left''
    (leaves_behind (quel user) past.moves [] start (at_hand p) p.outside left left' left'' (r.runs user s) (r.knows user s) (r.crash user s) (subst (λ (q : Hand). StepLeaves (quel user) p.state p.outside q.outside left' left'') done.1 (crash user (keep user s)))) in
    subst (λ (q : Hand). RanWhole serves start heard q.state q.schema old q.outside before q.sides left left'' (Ok x)) (sym done.1)
    (subst (λ (b : Sides). RanWhole serves start heard p.state p.schema old p.outside b p.sides left left'' (Ok x)) r.began
    (record {
      ran = record {
        moves = past.moves;
        later = past.moves;
        is = refl;
        end = at_hand p;
        left_read = past.left;
        left_unread = p.talk.left.reader;
        right_read = past.right;
        right_unread = p.talk.right.reader;
        runs = r.runs;
        left = side_read past.before.left p.sides.left (taken_left past.moves) (given_left past.moves) past.left p.talk.left _ p.sides.left.faults p.sides.left.out g.left (omega arith);
        right = side_read past.before.right p.sides.right (taken_right past.moves) (given_right past.moves) past.right p.talk.right _ p.sides.right.faults p.sides.right.out g.right (omega arith);
        plain = g.plain;
        left_wrote = wrote_all past.before.left.out p.sides.left.out _ g.left.wrote;
        left_all = λ _. g.left.wrote;
        right_wrote = wrote_all past.before.right.out p.sides.right.out _ g.right.wrote;
        left_later = stays_later past.before.left p.sides.left (taken_left past.moves) (given_left past.moves) past.left p.talk.left g.left;
        right_later = stays_later past.before.right p.sides.right (taken_right past.moves) (given_right past.moves) past.right p.talk.right g.right;
        all = record { left = g.left.wrote; right = g.right.wrote; left_counts = g.left.counts; right_counts = g.right.counts };
        room = refl;
        ended = (done.0, refl, refl);
      };
      known = refl;
      crash = still;
    }))

-- ---- the room

pub room_begins : (place heard : ℕ) (o : Outside) → RoomKept place heard heard o o (Ok Stepped)
room_begins place heard o = record {
  later = later_same o;
  script = script_same heard heard o refl;
  database = database_same o;
  ends = λ apart. record { same = refl; unread = refl; inside = tt };
  given = heard_same heard heard o.given refl;
  within = λ le. le;
  counts = refl;
}

pub room_on : (place place' h h' h'' : ℕ) (a b c : Outside) (moved : Moved) → place' ≡ place → RoomKept place h h' a b (Ok Stepped) → RoomKept place' h' h'' b c (Ok moved) → RoomKept place h h'' a c (Ok Stepped)
room_on place place' h h' h'' a b c moved e f g = record {
  later = later_more a b c f.later g.later;
  script = script_more h h' h'' a b c f.script g.script;
  database = database_more a b c f.database g.database;
  ends = λ apart. let x = f.ends apart in let y = g.ends (λ k. apart (sym e ∙ k)) in record { same = y.same ∙ x.same; unread = y.unread ∙ x.unread; inside = tt };
  given = heard_more h h' h'' a.given b.given c.given f.given g.given;
  within = λ le. g.within (f.within le);
  counts = g.counts ∙ f.counts;
}
