-- What a run from the start on has printed.
use Rattle.std.proofs.Common.{◌≡◌, inl, inr, refl, sym, ap, subst, ◌∙◌, ℕ, List, [], ◌++◌, Some, append_assoc}
use Rattle.std.proofs.lemmas.Bool.{cases_Bool}
use Rattle.std.proofs.lemmas.List.{append_cancel_left}
use Rattle.std.specs.Io.KnownBytes.{Appends}
use Rattle.std.specs.declared.option.Option.{Option}
use Rattle.fault_io.specs.Known.{IsFront}
use Rattle.network_meaning.proofs.Ends.{start_orderly}
use Rattle.network_meaning.proofs.Leading.{runs_lead}
use Rattle.network_meaning.proofs.Runs.{runs_keeps}
use Rattle.network_meaning.specs.Calls.{Knows, KeptNow, RunsTurns, Seen, Shape, join}
use Rattle.network_meaning.specs.Failing.{Begins}
use Rattle.network_meaning.specs.Going.{AllEnded}
use Rattle.network_meaning.specs.Held.{begun, held, printed, rest as rest_of}
use Rattle.network_meaning.specs.Language.{HasStopped}
use Rattle.network_meaning.specs.LocalSteps.{Room}
use Rattle.network_meaning.specs.MessageNetwork.{MessageNetwork}
use Rattle.network_meaning.specs.Network.{as_messages, bytes_in_all}
use Rattle.network_meaning.specs.Rounds.{LeadsTo}
use Rattle.network_meaning.specs.Sorts.{SessionEnd}
use Rattle.quel_meaning.specs.Session.{output}
use Rattle.quel_network.specs.Laws.{quel_laws}
use Rattle.quel_network.specs.Quel.{quel}
use Rattle.quel_network.specs.Sorts.{User, first_monitor, quel_sorts}
use Rattle.quel_network.specs.Work.{quel_work}
use Rattle.quel_network.specs.WorkLaws.{quel_work_laws}
use Rattle.session_laws.proofs.AtTheStart.{bytes_at_start, end_at_start, nothing_left}
use Rattle.session_laws.proofs.Reached.{RunTo, Up, reached_start, runs_reach}
use Rattle.net_core.specs.Known.{Outside, known}
use Rattle.net_core.specs.Whole.{HaveEnded, seen, start_shape}
use Rattle.session_laws.specs.Heard.{AllDone, IsPartly, KeptUp, before_all, whole, within}

-- ---- a front was written

-- what begins the bytes in all at the start is a front of the output
pub partly : (user : User) (r : Room quel_sorts) (old after : Option (List ℕ)) (bytes : List ℕ) → Appends old after bytes → Begins (r.out ++ bytes) (bytes_in_all (quel user) (join start_shape r)) → IsPartly user r old after
partly user r old after bytes grew (more, e) =
    let all : r.out ++ output (whole user r) ≡ r.out ++ (bytes ++ more) = ap (λ (x : List ℕ). r.out ++ x) (sym (bytes_at_start user (before_all r) r.script)) ∙ e ∙ append_assoc r.out bytes more in
    (bytes, grew, (more, append_cancel_left r.out (output (whole user r)) (bytes ++ more) all))

begins_so : (user : User) (r : Room quel_sorts) (n : Shape quel_sorts) (room : Room quel_sorts) (bytes : List ℕ) → room.out ≡ r.out ++ bytes → bytes_in_all (quel user) (join n room) ≡ bytes_in_all (quel user) (join start_shape r) → Begins (r.out ++ bytes) (bytes_in_all (quel user) (join start_shape r))
begins_so user r n room bytes is same =
    let L = quel user in
    let v : MessageNetwork quel_sorts = as_messages L (join n room) in
    let more = printed L (begun v.one) (held L v) ++ rest_of L v in
    (more, sym same ∙ ap (λ (x : List ℕ). x ++ more) is)

pub run_partly : (user : User) (capacity : ℕ) (turns : List ℕ) (r : Room quel_sorts) (old after : Outside) (now : Shape quel_sorts) → Knows (known old) r → RunsTurns (quel user) capacity turns (seen start_shape old) (seen now after) → IsPartly user r old.output after.output
run_partly user capacity turns r old after now t runs =
    let kept : KeptNow (quel user) r (seen start_shape old) (seen now after) = runs_keeps (quel user) (quel_laws user) capacity turns (seen start_shape old) (seen now after) runs r t (start_orderly (quel user) first_monitor [] r) in
    let (bytes, is, grew) = kept.wrote in
    partly user r old.output after.output bytes grew (begins_so user r now kept.room bytes is kept.same)

-- ---- where all have ended

all_done : (user : User) (r room : Room quel_sorts) (old after : Outside) (bytes : List ℕ) → Knows (known after) room → room.out ≡ r.out ++ bytes → Appends old.output after.output bytes → room.out ≡ bytes_in_all (quel user) (join start_shape r)
    → HasStopped (quel user) room.db room.shelf room.script ((quel user).script_end r.db r.shelf [] first_monitor r.script) → AllDone user r (known old) (known after)
all_done user r room old after bytes t is grew all stopped =
    let same = end_at_start user (before_all r) r.script in
    let output_is : bytes ≡ output (whole user r) = append_cancel_left r.out bytes (output (whole user r)) (sym is ∙ all ∙ ap (λ (x : List ℕ). r.out ++ x) (bytes_at_start user (before_all r) r.script)) in
    record {
      room = room;
      known = t;
      printed = subst (λ (x : List ℕ). Appends old.output after.output x) output_is grew;
      database = stopped.database ∙ ap (λ (e : SessionEnd quel_sorts). e.db) same;
      files = stopped.files ∙ ap (λ (e : SessionEnd quel_sorts). e.shelf) same;
      read = elim (cases_Bool (whole user r).quit) [ inl q ↦ inr q | inr q ↦ inl (nothing_left user room.script (stopped.read (ap (λ (e : SessionEnd quel_sorts). e.quit) same ∙ q))) ];
    }

pub run_ended : (user : User) (capacity : ℕ) (turns : List ℕ) (r : Room quel_sorts) (old after : Outside) (now : Shape quel_sorts) → Knows (known old) r → RunsTurns (quel user) capacity turns (seen start_shape old) (seen now after) → HaveEnded now → AllDone user r (known old) (known after)
run_ended user capacity turns r old after now t runs done =
    let L = quel user in
    let lead : LeadsTo L (quel_work user) capacity turns r (seen start_shape old) (seen now after) =
    runs_lead L (quel_laws user) (quel_work user) (quel_work_laws user) capacity turns (seen start_shape old) (seen now after) runs r t (start_orderly L first_monitor [] r) in
    let all : AllEnded (join now lead.room) = record { one = done.0; two = done.1; three = done.2; four = done.3 } in
    let (bytes, is, grew) = lead.wrote in
    all_done user r lead.room old after bytes lead.known is grew (lead.whole all) (lead.stopped all (L.script_end r.db r.shelf [] first_monitor r.script) refl)

-- ---- what was read is kept up with

pub kept_up : (user : User) (r : Room quel_sorts) (script out bytes : List ℕ) (left old after : Option (List ℕ)) → Up user r script out → left ≡ Some script → out ≡ r.out ++ bytes → Appends old after bytes → KeptUp user r left old after
kept_up user r script out bytes left old after up e is grew =
    let same : up.bytes ≡ bytes = append_cancel_left r.out up.bytes bytes (sym up.wrote ∙ is) in
    record {
      heard = up.heard;
      more = up.more;
      small = up.small;
      read = e ∙ ap (λ (x : List ℕ). Some x) up.read;
      goes_on = up.goes_on;
      printed = (bytes, grew, subst (λ (x : List ℕ). IsFront (output (within up.heard user r)) x) same up.front);
    }

pub started : (user : User) (capacity : ℕ) (turns : List ℕ) (r : Room quel_sorts) (old : Outside) (new : Seen quel_sorts) → Knows (known old) r → RunsTurns (quel user) capacity turns (seen start_shape old) new → RunTo user r (seen start_shape old) new r
started user capacity turns r old new t runs = runs_reach user capacity turns (seen start_shape old) new runs r r t (reached_start user r)

pub run_keeps_up : (user : User) (capacity : ℕ) (turns : List ℕ) (r : Room quel_sorts) (old after : Outside) (now : Shape quel_sorts) → Knows (known old) r → RunsTurns (quel user) capacity turns (seen start_shape old) (seen now after) → KeptUp user r after.script old.output after.output
run_keeps_up user capacity turns r old after now t runs =
    let to = started user capacity turns r old (seen now after) t runs in
    let (bytes, is, grew) = to.wrote in
    kept_up user r to.room.script to.room.out bytes after.script old.output after.output to.reached.up to.known.script is grew
