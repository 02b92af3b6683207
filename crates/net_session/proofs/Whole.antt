-- What a session has done, whose source keeps a piece of another.
use Rattle.std.proofs.Common.{◌≡◌, ◌⊎◌, ◌+◌, ◌-◌, ◌^◌, ◌<◌, ◌≤◌, inl, inr, refl, sym, ap, subst, ◌∙◌, ℕ, Bool, List, [], ◌∷◌, ◌++◌, Some, None, Result, Ok, Err, length, length-append, drop, drop-drop, arith}
use Rattle.std.proofs.Math.Seq.{drop-append_seam}
use Rattle.std.proofs.lemmas.Option.{same_Some}
use Rattle.std.specs.Prelude.{⊤}
use Rattle.std.specs.declared.option.Option.{Option}
use Rattle.std.specs.Io.KnownBytes.{prepend_known}
use Rattle.calculus.specs.Who.{Asker}
use Rattle.fault_io.specs.Causes.{Rose}
use Rattle.fault_io.specs.Pieces.{IsSmall}
use Rattle.net_core.proofs.Faulty.{counts_from, heard_more, later_more, may_come_from, script_more, whole_unended}
use Rattle.net_core.proofs.Lawful.{disorderly_behind}
use Rattle.net_core.proofs.Turning.{stops_behind}
use Rattle.net_core.specs.Causes.{MayCome, most_script}
use Rattle.net_core.specs.declared.fault.WorkFault.{WorkFault}
use Rattle.net_core.specs.declared.fault.WorkFault.TheVariants as faults
use Rattle.net_core.specs.Known.{KeepsScript, Later, Outside, known}
use Rattle.net_core.specs.Reads.{CountsHeard, EndsWithin}
use Rattle.net_core.specs.Spares.{CountsOnlyBy}
use Rattle.net_core.specs.Whole.{HaveEnded, StopsAt, seen, start_shape}
use Rattle.net_session.proofs.Lists.{front_more}
use Rattle.net_session.specs.Made.{Broke, Made, RanAll, RoundsDone, at_start, first_of, kept_of, position}
use Rattle.net_session.specs.Rounds.{AreFirst, capacity_of, turns_of}
use Rattle.net_session.specs.Runs.{Ran}
use Rattle.net_session.specs.Session.{KeptUp, SessionDone}
use Rattle.network_meaning.proofs.Ends.{start_orderly}
use Rattle.network_meaning.proofs.Runs.{runs_keeps}
use Rattle.network_meaning.specs.Calls.{Known, Knows, RunsTurns, Seen, Shape}
use Rattle.network_meaning.specs.LocalSteps.{Room}
use Rattle.quel_network.specs.Laws.{quel_laws}
use Rattle.quel_network.specs.Quel.{quel}
use Rattle.quel_network.specs.Sorts.{User, first_monitor, quel_sorts}
use Rattle.session_laws.proofs.Printed.{run_ended, run_keeps_up, run_partly}
use Rattle.session_laws.proofs.Stopped.{stop_broken, stop_cut, stop_keeps_up, stop_partly}
use Rattle.session_laws.specs.Heard.{AllDone, BrokenOff, IsBrokenOff}
use Rattle.session_laws.specs.Heard.{KeptUp as KeptUpBut}

-- ---- a piece in front

no_piece : (left : Option (List ℕ)) → prepend_known [] left ≡ left
no_piece None = refl
no_piece (Some xs) = refl

behind : (piece : List ℕ) (left : Option (List ℕ)) (xs : List ℕ) → prepend_known piece left ≡ Some xs → (rest : List ℕ) × (left ≡ Some rest) × (xs ≡ piece ++ rest)
behind piece None xs e = absurd (cc e)
behind piece (Some rest) xs e = (rest, refl, sym (same_Some (piece ++ rest) xs e))

none_behind : (piece rest : List ℕ) → piece ++ rest ≡ [] → rest ≡ []
none_behind [] rest e = e
none_behind (b ∷ piece) rest e = absurd (cc e)

known_first : (o : Outside) → known (first_of o) ≡ known o
known_first o = λ i. record { db = o.database; shelf = o.files; script = no_piece o.script i; out = o.output }

abbrev with_start : Known quel_sorts → Seen quel_sorts
with_start k = record { shape = start_shape; known = k }

seen_first : (o : Outside) → seen start_shape (first_of o) ≡ seen start_shape o
seen_first o = ap (λ (k : Known quel_sorts). with_start k) (known_first o)

-- ---- by each fault

caused_so : (fault : WorkFault) (old new : Outside) (piece : List ℕ) (given : ℕ) (ended : Bool) → MayCome 0 (first_of old) (kept_of new piece given ended) fault → MayCome 0 old new fault
caused_so faults.Source old new piece given ended c = c
caused_so faults.Sink old new piece given ended c = c
caused_so faults.Disk old new piece given ended c = c
caused_so (faults.Damaged file page) old new piece given ended c = c
caused_so faults.Shelf old new piece given ended c = c
caused_so faults.TooLong old new piece given ended c = λ script known. c script (no_piece old.script ∙ known)
caused_so faults.Unlawful old new piece given ended c = c
caused_so faults.OutOfMemory old new piece given ended c = c

counts_so : (fault : WorkFault) (old new : Outside) (piece : List ℕ) (given : ℕ) (ended : Bool) → CountsOnlyBy (first_of old) (kept_of new piece given ended) fault → CountsOnlyBy old new fault
counts_so faults.Source old new piece given ended c = c
counts_so faults.Sink old new piece given ended c = c
counts_so faults.Disk old new piece given ended c = c
counts_so (faults.Damaged file page) old new piece given ended c = c
counts_so faults.Shelf old new piece given ended c = c
counts_so faults.TooLong old new piece given ended c = c
counts_so faults.Unlawful old new piece given ended c = c
counts_so faults.OutOfMemory old new piece given ended c = c

too_long_by : (fault : WorkFault) (heard : ℕ) → EndsWithin heard fault → (heard ≤ most_script → ⊥) → fault ≡ faults.TooLong
too_long_by faults.Source heard within over = absurd (over within)
too_long_by faults.Sink heard within over = absurd (over within)
too_long_by faults.Disk heard within over = absurd (over within)
too_long_by (faults.Damaged file page) heard within over = absurd (over within)
too_long_by faults.Shelf heard within over = absurd (over within)
too_long_by faults.TooLong heard within over = refl
too_long_by faults.Unlawful heard within over = absurd (over within)
too_long_by faults.OutOfMemory heard within over = absurd (over within)

-- ---- how much was read

given_is : (heard given : ℕ) → CountsHeard 0 heard 0 given → (given ≡ heard) ⊎ (2 ^ 64 - 1 ≤ given)
given_is heard given (n, e, inl g) = inl (omega (arith, e, g))
given_is heard given (n, e, inr g) = inr g

not_over : (heard given faults : ℕ) (piece : List ℕ) → heard ≤ most_script → (given ≡ heard) ⊎ (2 ^ 64 - 1 ≤ given) → IsSmall given piece faults → heard + length piece ≤ 16777216
not_over heard given faults piece le g (short, inl e) = let none : length piece ≡ 0 = ap length e in omega (arith, le, none)
not_over heard given faults piece le (inl is) (short, inr (few, none)) = omega (arith, is, few)
not_over heard given faults piece le (inr much) (short, inr (few, none)) = absurd (omega (arith, much, few))

over_none : (heard given faults : ℕ) (piece : List ℕ) → heard ≡ most_script + 1 → (given ≡ heard) ⊎ (2 ^ 64 - 1 ≤ given) → IsSmall given piece faults → piece ≡ []
over_none heard given faults piece over g (short, inl e) = e
over_none heard given faults piece over (inl is) (short, inr (few, none)) = absurd (omega (arith, over, is, few))
over_none heard given faults piece over (inr much) (short, inr (few, none)) = absurd (omega (arith, much, few))

failed_none : (given before now : ℕ) (piece : List ℕ) → Rose before now → IsSmall given piece now → piece ≡ []
failed_none given before now piece rose (short, inl e) = e
failed_none given before now piece rose (short, inr (few, none)) = absurd (omega (arith, rose, none))

-- ---- from one outside to the other

module _ (asker : Asker) (number : ℕ) (old new : Outside) (piece : List ℕ) (given : ℕ) (ended : Bool) (small : IsSmall given piece new.source_faults) where
  abbrev o : Outside
  o = first_of old

  abbrev n : Outside
  n = kept_of new piece given ended

  abbrev serves : User → Type 0
  serves user = user.asker ≡ asker

  knows : (r : Room quel_sorts) → Knows (known old) r → Knows (known o) r
  knows r t = record { db = t.db; shelf = t.shelf; script = no_piece old.script ∙ t.script }

  later_so : Later o n → Later old new
  later_so l = record { base = l.base; shelf = l.shelf; source = l.source; sink = l.sink; stalls = l.stalls }

  unkept : piece ≡ [] → prepend_known piece new.script ≡ new.script
  unkept e = ap (λ (p : List ℕ). prepend_known p new.script) e ∙ no_piece new.script

  size_is : (heard : ℕ) → KeepsScript 0 heard o n → (script rest : List ℕ) → old.script ≡ Some script → new.script ≡ Some rest → length script ≡ heard + (length piece + length rest)
  size_is heard k script rest s t =
      let (bytes, left, is, all, counted) = k script (no_piece old.script ∙ s) in
      let e : left ≡ piece ++ rest = same_Some left (piece ++ rest) (sym is ∙ ap (λ (x : Option (List ℕ)). prepend_known piece x) t) in
      let a = ap length all ∙ length-append bytes left in
      let b = ap length e ∙ length-append piece rest in
      omega (arith, counted, a, b)

  within_so : (heard : ℕ) → KeepsScript 0 heard o n → CountsHeard 0 heard 0 given → heard ≤ most_script → (script rest : List ℕ) → old.script ≡ Some script → new.script ≡ Some rest → 16777216 + length rest < length script → ⊥
  within_so heard k g le script rest s t lt = let size = size_is heard k script rest s t in let few = not_over heard given new.source_faults piece le (given_is heard given g) small in omega (arith, size, few, lt)

  over_so : (heard : ℕ) → KeepsScript 0 heard o n → heard ≡ most_script + 1 → (script rest : List ℕ) → old.script ≡ Some script → new.script ≡ Some rest → 16777216 + length rest < length script
  over_so heard k e script rest s t = let size = size_is heard k script rest s t in omega (arith, size, e)

  past_so : (heard : ℕ) → KeepsScript 0 heard o n → CountsHeard 0 heard 0 given → heard ≡ most_script + 1 → (script : List ℕ) → old.script ≡ Some script → new.script ≡ Some (drop 16777217 script)
  past_so heard k g e script s =
      let (bytes, left, is, all, counted) = k script (no_piece old.script ∙ s) in
      let none = over_none heard given new.source_faults piece e (given_is heard given g) small in
      let long : length bytes ≡ 16777217 = omega (arith, counted, e) in
      let rest : left ≡ drop 16777217 script = sym (drop-append_seam bytes left) ∙ ap (λ (m : ℕ). drop m (bytes ++ left)) long ∙ ap (λ (x : List ℕ). drop 16777217 x) (sym all) in
      sym (unkept none) ∙ is ∙ ap (λ (x : List ℕ). Some x) rest

  done_so : (user : User) (r : Room quel_sorts) → AllDone user r (known o) (known n) → AllDone user r (known old) (known new)
  done_so user r a =
      let (rest, is, all) = behind piece new.script a.room.script a.known.script in
      record {
        room = record { db = a.room.db; shelf = a.room.shelf; script = rest; out = a.room.out };
        known = record { db = a.known.db; shelf = a.known.shelf; script = is };
        printed = a.printed;
        database = a.database;
        files = a.files;
        read = elim a.read [ inl e ↦ inl (none_behind piece rest (sym all ∙ e)) | inr e ↦ inr e ];
      }

  kept_so : (user : User) (r : Room quel_sorts) → KeptUpBut user r n.script o.output n.output → KeptUp user r new.script old.output new.output
  kept_so user r k =
      let (rest, is, all) = behind piece new.script (drop (k.heard + k.more) r.script) k.read in
      let far : (k.heard + k.more) + length piece ≡ k.heard + (k.more + length piece) = omega arith in
      let left : rest ≡ drop (k.heard + (k.more + length piece)) r.script = sym (drop-append_seam piece rest) ∙ ap (λ (x : List ℕ). drop (length piece) x) (sym all) ∙ drop-drop (length piece) (k.heard + k.more) r.script ∙ ap (λ (m : ℕ). drop m r.script) far in
      record {
        heard = k.heard;
        piece = k.more + length piece;
        small = let one = k.small in let few = small.0 in omega (arith, one, few);
        read = is ∙ ap (λ (x : List ℕ). Some x) left;
        goes_on = k.goes_on;
        printed = k.printed;
      }

  ran_so : (user : User) (turns : List ℕ) (shape : Shape quel_sorts) → AreFirst number turns → RunsTurns (quel user) (capacity_of number) turns (seen start_shape o) (seen shape n) → Ran user number old new shape
  ran_so user turns shape first runs = record {
    turns = turns;
    first = first;
    room = known n;
    runs = subst (λ (s : Seen quel_sorts). RunsTurns (quel user) (capacity_of number) turns s (seen shape n)) (seen_first old) runs;
    left = record { database = refl; files = refl; output = refl };
  }

  -- ---- all stages have ended

  pub all_ended : (x : Unit {0}) (turns : List ℕ) (shape : Shape quel_sorts) (heard : ℕ) → AreFirst number turns → Made serves (capacity_of number) turns (at_start o) (position shape n heard) → HaveEnded shape → SessionDone asker number old new (Ok x)
  all_ended x turns shape heard first m over =
      let zero : 0 ≤ most_script = omega arith in
      record {
        done = λ user is r t. done_so user r (run_ended user (capacity_of number) turns r o n shape (knows r t) (m.runs user is) over);
        partly = λ user is r t. run_partly user (capacity_of number) turns r o n shape (knows r t) (m.runs user is);
        keeps_up = λ user is r t. kept_so user r (run_keeps_up user (capacity_of number) turns r o n shape (knows r t) (m.runs user is));
        broken_off = λ user is r t e. absurd (cc e);
        cut_off = λ user is r t e. absurd (cc e);
        lawful = λ user is r t e. cc e;
        turns = λ user is. (shape, over, ran_so user turns shape first (m.runs user is));
        cause = tt;
        counts = m.counts;
        later = later_so m.later;
        database = m.database;
        too_long = λ script rest s t. (λ e. absurd (cc e), λ lt. absurd (within_so heard m.script m.given (m.within zero) script rest s t lt));
        past = λ e. absurd (cc e);
      }

  -- ---- memory was wanting between two turns

  none_left : (turns : List ℕ) (shape : Shape quel_sorts) (heard : ℕ) → AreFirst number turns → Made serves (capacity_of number) turns (at_start o) (position shape n heard) → SessionDone asker number old new (Err faults.OutOfMemory)
  none_left turns shape heard first m =
      let zero : 0 ≤ most_script = omega arith in
      record {
        done = λ user is r t. tt;
        partly = λ user is r t. run_partly user (capacity_of number) turns r o n shape (knows r t) (m.runs user is);
        keeps_up = λ user is r t. kept_so user r (run_keeps_up user (capacity_of number) turns r o n shape (knows r t) (m.runs user is));
        broken_off = λ user is r t e. absurd (cc e);
        cut_off = λ user is r t e. absurd (cc e);
        lawful = λ user is r t e. cc e;
        turns = λ user is. inr (refl, shape, ran_so user turns shape first (m.runs user is));
        cause = tt;
        counts = m.counts;
        later = later_so m.later;
        database = tt;
        too_long = λ script rest s t. (λ e. absurd (cc e), λ lt. absurd (within_so heard m.script m.given (m.within zero) script rest s t lt));
        past = λ e. absurd (cc e);
      }

  pub no_memory_left : (fault : WorkFault) (turns : List ℕ) (shape : Shape quel_sorts) (heard : ℕ) → fault ≡ faults.OutOfMemory → AreFirst number turns → Made serves (capacity_of number) turns (at_start o) (position shape n heard) → SessionDone asker number old new (Err fault)
  no_memory_left fault turns shape heard e first m = subst (λ (f : WorkFault). SessionDone asker number old new (Err f)) (sym e) (none_left turns shape heard first m)

  -- ---- a turn failed

  module _ (fault : WorkFault) (turns : List ℕ) (shape : Shape quel_sorts) (heard : ℕ) (first : AreFirst number turns) (b : Broke serves (capacity_of number) turns (at_start o) (position shape n heard) fault) where
    abbrev all_turns : List ℕ
    all_turns = b.made ++ b.stage ∷ []

    stopped : (user : User) → serves user → StopsAt (quel user) (capacity_of number) all_turns (1 ∷ 2 ∷ 3 ∷ 4 ∷ []) heard (seen start_shape o) n fault
    stopped user is = stops_behind (quel user) (capacity_of number) b.made (b.stage ∷ []) (1 ∷ 2 ∷ 3 ∷ 4 ∷ []) heard (seen start_shape o) (seen b.position.shape b.position.outside) n fault (b.run.runs user is)
        (λ e. whole_unended o b.position.outside ⊥ ⊤ tt b.run.over (b.failed.going e)) (b.failed.stops user is)

    script_all : KeepsScript 0 heard o n
    script_all = script_more 0 b.position.heard heard o b.position.outside n b.run.script b.failed.script

    given_all : CountsHeard 0 heard 0 given
    given_all = heard_more 0 b.position.heard heard 0 b.position.outside.given given b.run.given b.failed.given

    within_before : b.position.heard ≤ most_script
    within_before = b.run.within (omega arith)

    caused_all : MayCome 0 o n fault
    caused_all = may_come_from 0 b.position.heard o b.position.outside n fault b.run.later b.run.script b.run.database b.failed.cause

    source_failed : fault ≡ faults.Source → piece ≡ []
    source_failed e = failed_none given old.source_faults new.source_faults piece (subst (λ (f : WorkFault). MayCome 0 o n f) e caused_all) small

    one_over : fault ≡ faults.TooLong → heard ≡ most_script + 1
    one_over e = subst (λ (f : WorkFault). EndsWithin heard f) e (b.failed.within within_before)

    broken : (user : User) → serves user → (r : Room quel_sorts) → Knows (known old) r → fault ≡ faults.Source → IsBrokenOff user r new.script old.output new.output new.files
    broken user is r t e = subst (λ (s : Option (List ℕ)). IsBrokenOff user r s old.output new.output new.files) (unkept (source_failed e))
        (stop_broken user (capacity_of number) all_turns (1 ∷ 2 ∷ 3 ∷ 4 ∷ []) heard r o n (knows r t) (subst (λ (f : WorkFault). StopsAt (quel user) (capacity_of number) all_turns (1 ∷ 2 ∷ 3 ∷ 4 ∷ []) heard (seen start_shape o) n f) e (stopped user is)))

    cut : (user : User) → serves user → (r : Room quel_sorts) → Knows (known old) r → fault ≡ faults.TooLong → BrokenOff user r 16777217 16777216 new.script old.output new.output new.files
    cut user is r t e =
        let none = over_none heard given new.source_faults piece (one_over e) (given_is heard given given_all) small in
        subst (λ (s : Option (List ℕ)). BrokenOff user r 16777217 16777216 s old.output new.output new.files) (unkept none)
        (stop_cut user (capacity_of number) b.stage 16777216 b.position.heard b.made (1 ∷ 2 ∷ 3 ∷ 4 ∷ []) heard r o b.position.outside n b.position.shape (knows r t) (b.run.runs user is) b.run.script within_before
        (subst (λ (f : WorkFault). StopsAt (quel user) (capacity_of number) (b.stage ∷ []) (1 ∷ 2 ∷ 3 ∷ 4 ∷ []) heard (seen b.position.shape b.position.outside) n f) e (b.failed.stops user is))
        (subst (λ (m : ℕ). KeepsScript b.position.heard m b.position.outside n) (one_over e) b.failed.script))

    never_unlawful : (user : User) → serves user → (r : Room quel_sorts) → Knows (known old) r → fault ≡ faults.Unlawful → ⊥
    never_unlawful user is r t e =
        disorderly_behind (quel user) (seen start_shape o) (seen b.position.shape b.position.outside)
        (runs_keeps (quel user) (quel_laws user) (capacity_of number) b.made (seen start_shape o) (seen b.position.shape b.position.outside) (b.run.runs user is))
        (b.failed.lawful user is e) r (knows r t) (start_orderly (quel user) first_monitor [] r)

    pub one_failed : SessionDone asker number old new (Err fault)
    one_failed = record {
      done = λ user is r t. tt;
      partly = λ user is r t. stop_partly user (capacity_of number) all_turns (1 ∷ 2 ∷ 3 ∷ 4 ∷ []) heard r o n fault (knows r t) (stopped user is);
      keeps_up = λ user is r t. kept_so user r (stop_keeps_up user (capacity_of number) all_turns (1 ∷ 2 ∷ 3 ∷ 4 ∷ []) heard r o n fault (knows r t) (stopped user is));
      broken_off = λ user is r t e. broken user is r t (cc e);
      cut_off = λ user is r t e. cut user is r t (cc e);
      lawful = λ user is r t e. never_unlawful user is r t (cc e);
      turns = λ user is. inl (record {
        turns = all_turns;
        first = (first.0, front_more all_turns turns (turns_of first.0 number) b.front first.1);
        heard = heard;
        after = n;
        stops = subst (λ (s : Seen quel_sorts). StopsAt (quel user) (capacity_of number) all_turns (1 ∷ 2 ∷ 3 ∷ 4 ∷ []) heard s n fault) (seen_first old) (stopped user is);
        database = refl;
        files = refl;
        output = refl;
      });
      cause = caused_so fault old new piece given ended caused_all;
      counts = counts_so fault old new piece given ended (counts_from o b.position.outside n fault b.run.counts b.failed.counts);
      later = later_so (later_more o b.position.outside n b.run.later b.failed.later);
      database = tt;
      too_long = λ script rest s t. (
        λ e. over_so heard script_all (one_over (cc e)) script rest s t,
        λ lt. ap (λ (f : WorkFault). Err f) (too_long_by fault heard (b.failed.within within_before) (λ le. within_so heard script_all given_all le script rest s t lt)),
      );
      past = λ e. past_so heard script_all given_all (one_over (cc e));
    }

  -- ---- whichever it was

  by_rounds : (result : Result (Unit {0}) WorkFault) (shape : Shape quel_sorts) (heard : ℕ) → RoundsDone serves (capacity_of number) number (at_start o) (position shape n heard) result → SessionDone asker number old new result
  by_rounds (Ok x) shape heard (turns, first, m, over) = all_ended x turns shape heard first m over
  by_rounds (Err fault) shape heard (inl (turns, first, b)) = one_failed fault turns shape heard first b
  by_rounds (Err fault) shape heard (inr (e, turns, first, m)) = no_memory_left fault turns shape heard e first m

  pub session_done : (result : Result (Unit {0}) WorkFault) → RanAll asker number o n result → SessionDone asker number old new result
  session_done result (shape, heard, d) = by_rounds result shape heard d
