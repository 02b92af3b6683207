-- The steps of a list so far, and where they stop.
use Rattle.std.proofs.Common.{IsOk, OnErr, IsErrOf, ◌≡◌, ◌⊎◌, inl, inr, ℕ, ◌+◌, ◌<◌, ◌≤◌, Bool, List, [], ◌∷◌, ◌++◌, length, take, drop, get_or, Result, Ok, Err, refl, sym, ap, subst, ◌∙◌, add-one, append_assoc, take-append-drop, drop-cons}
use Rattle.std.specs.Prelude.{⊤}
use Rattle.std.proofs.lemmas.List.{take_all}
use Rattle.net_core.specs.Causes.{most_script}
use Rattle.net_core.specs.declared.fault.WorkFault.{WorkFault}
use Rattle.net_core.specs.declared.net.Net.{Net}
use Rattle.net_core.specs.declared.fault.WorkFault.TheVariants as faults
use Rattle.net_core.specs.Reads.{CountsHeard, ReadsNothing, ReadsOn, ReadsScript, ReadsWhole, SeesEnd}
use Rattle.net_core.specs.Spares.{CountsOnlyBy, LeavesEnds, SparesBy, counts}
use Rattle.net_core.specs.Known.{FailedStep, KeepsDatabase, KeepsScript, Later, Outside}
use Rattle.net_core.specs.Whole.{AreNumbered, IsDisorderly, StopsAt, numbers_by, WroteFront, seen, state_at}
use Rattle.network_meaning.specs.Calls.{KeepsAll, Moves, RunsTurns, Seen, Shape, stage_number}
use Rattle.network_meaning.specs.Language.{Language}
use Rattle.network_meaning.specs.LocalSteps.{Mode}
use Rattle.network_meaning.specs.MessageNetwork.{StageNumber.first}
use Rattle.network_meaning.specs.Rounds.{LeadsOn}
use Rattle.network_meaning.specs.Statements.{FinishesInOrder}
use Rattle.network_meaning.proofs.Leading.{runs_lead, runs_on}
use Rattle.network_meaning.proofs.Runs.{one_more, runs_keeps}
use Rattle.network_meaning.proofs.StatementsRuns.{runs_finish}
use Rattle.quel_network.specs.Quel.{quel}
use Rattle.quel_network.specs.Sorts.{User, quel_sorts}
use Rattle.net_core.proofs.Lawful.{disorderly_behind, wrote_behind}
use Rattle.quel_network.specs.Laws.{quel_laws}
use Rattle.quel_network.specs.Work.{quel_work}
use Rattle.quel_network.specs.WorkLaws.{quel_work_laws}
use Rattle.net_core.proofs.Faulty.{database_more, database_same, heard_more, heard_same, later_more, later_same, script_more, script_of, script_same, sees_more, sees_nothing, whole_more, whole_unended}

-- these turns were made, from the first network and room to the second
pub record TurnsDone (capacity : ℕ) (turns : List ℕ) (old now : Shape quel_sorts) (before after : Outside) (heard heard' one one' : ℕ) (serves serves' : User → Type 0) (numbers numbers' : Type 0) : Type 0 where
  pub runs : (user : User) → serves user → RunsTurns (quel user) capacity turns (seen old before) (seen now after)
  pub serve : (user : User) → serves user → serves' user
  pub numbered : numbers → numbers'
  pub later : Later before after
  pub script : KeepsScript heard heard' before after
  pub given : CountsHeard heard heard' before.given after.given
  pub within : numbers → one ≤ most_script → one' ≤ most_script
  pub counts : counts after ≡ counts before
  pub over : SeesEnd before after ⊥ ⊤
  pub database : KeepsDatabase before after

pub none_done : (capacity : ℕ) (n : Shape quel_sorts) (o : Outside) (h one : ℕ) (serves : User → Type 0) (numbers : Type 0) → TurnsDone capacity [] n n o o h h one one serves serves numbers numbers
none_done capacity n o h one serves numbers = record {
  runs = λ user x. refl;
  serve = λ user x. x;
  numbered = λ x. x;
  later = later_same o;
  script = script_same h h o refl;
  given = heard_same h h o.given refl;
  within = λ x le. le;
  counts = refl;
  over = sees_nothing o o ⊥ ⊤ refl refl (λ f. f);
  database = database_same o;
}

pub one_more_done : (capacity capacity' : ℕ) (turns : List ℕ) (i : ℕ) (blocked : Bool) (a b c : Shape quel_sorts) (o o' o'' : Outside) (h h' h'' one one' one'' : ℕ) (serves serves' serves'' : User → Type 0) (numbers numbers' numbers'' failed done : Type 0) (mode : Mode quel_sorts) → done →
    capacity' ≡ capacity → i < length turns → TurnsDone capacity (take i turns) a b o o' h h' one one' serves serves' numbers numbers' →
    ((user : User) → serves' user → Moves (quel user) capacity' (stage_number (get_or turns i 0)) blocked (seen b o') (seen c o'')) →
    ((user : User) → serves' user → serves'' user) → (numbers' → numbers'') → Later o' o'' → ReadsOn mode h' h'' o' o'' failed done → (numbers' → one' ≤ most_script → one'' ≤ most_script) → counts o'' ≡ counts o' → KeepsDatabase o' o'' →
    TurnsDone capacity (take (i + 1) turns) a c o o'' h h'' one one'' serves serves'' numbers numbers''
one_more_done capacity capacity' turns i blocked a b c o o' o'' h h' h'' one one' one'' serves serves' serves'' numbers numbers' numbers'' failed done mode y e lt d moves serve numbered later reads within same database = record {
  runs = λ user x. one_more (quel user) capacity turns i blocked (seen a o) (seen b o') (seen c o'') lt (d.runs user x) (subst (λ (n : ℕ). Moves (quel user) n (stage_number (get_or turns i 0)) blocked (seen b o') (seen c o'')) e (moves user (d.serve user x)));
  serve = λ user x. serve user (d.serve user x);
  numbered = λ x. numbered (d.numbered x);
  later = later_more o o' o'' d.later later;
  script = script_more h h' h'' o o' o'' d.script (script_of mode h' h'' o' o'' failed done reads);
  given = heard_more h h' h'' o.given o'.given o''.given d.given reads.given;
  within = λ x le. within (d.numbered x) (d.within x le);
  counts = same ∙ d.counts;
  over = let s = sees_more o o' o'' failed done ⊤ tt d.over reads.over in record { stays = λ t. s.stays y; whole = λ t. s.whole y; going = λ f. absurd f };
  database = database_more o o' o'' d.database database;
}

cut_at : (turns : List ℕ) (i : ℕ) → i < length turns → turns ≡ take i turns ++ (get_or turns i 0 ∷ drop (i + 1) turns)
cut_at turns i lt = sym (take-append-drop i turns) ∙ ap (λ t. take i turns ++ t) (drop-cons turns i 0 lt ∙ ap (λ j. get_or turns i 0 ∷ drop j turns) (sym (add-one i)))

on_any : {A E : Type 0} (r : Result A E) (P : Type 0) → P → OnErr r P
on_any (Ok x) P h = tt
on_any (Err e) P h = h

-- ---- all of them

pub turns_keep : (capacity : ℕ) (turns : List ℕ) (a b : Shape quel_sorts) (o o' : Outside) (h h' one one' : ℕ) (serves serves' : User → Type 0) (numbers numbers' : Type 0) → TurnsDone capacity turns a b o o' h h' one one' serves serves' numbers numbers' →
    (user : User) → serves user → KeepsAll (quel user) (seen a o) (seen b o')
turns_keep capacity turns a b o o' h h' one one' serves serves' numbers numbers' d user x = runs_keeps (quel user) (quel_laws user) capacity turns (seen a o) (seen b o') (d.runs user x)

pub turns_finish : (capacity : ℕ) (turns : List ℕ) (a b : Shape quel_sorts) (o o' : Outside) (h h' one one' : ℕ) (serves serves' : User → Type 0) (numbers numbers' : Type 0) → TurnsDone capacity turns a b o o' h h' one one' serves serves' numbers numbers' →
    (user : User) → serves user → FinishesInOrder (quel user) (seen a o) (seen b o')
turns_finish capacity turns a b o o' h h' one one' serves serves' numbers numbers' d user x = runs_finish (quel user) (quel_laws user) capacity turns (seen a o) (seen b o') (d.runs user x)

pub turns_lead : (capacity : ℕ) (turns : List ℕ) (i : ℕ) (a b : Shape quel_sorts) (o o' : Outside) (h h' one one' : ℕ) (serves serves' : User → Type 0) (numbers numbers' : Type 0) → length turns ≤ i → TurnsDone capacity (take i turns) a b o o' h h' one one' serves serves' numbers numbers' →
    (user : User) → serves user → LeadsOn (quel user) (quel_work user) capacity turns (seen a o) (seen b o')
turns_lead capacity turns i a b o o' h h' one one' serves serves' numbers numbers' all d user x =
    runs_lead (quel user) (quel_laws user) (quel_work user) (quel_work_laws user) capacity turns (seen a o) (seen b o')
    (subst (λ (ks : List ℕ). RunsTurns (quel user) capacity ks (seen a o) (seen b o')) (take_all i turns all) (d.runs user x))

-- ---- where one of them failed

pub turns_stopped : {T : Type 0} (fault : WorkFault) (capacity : ℕ) (turns : List ℕ) (i : ℕ) (a b : Shape quel_sorts) (o o' after : Outside) (h h' h'' one one' : ℕ) (serves serves' : User → Type 0) (numbers numbers' : Type 0) (list : List ℕ) →
    i < length turns → TurnsDone capacity (take i turns) a b o o' h h' one one' serves serves' numbers numbers' → ((user : User) → serves' user → WroteFront (quel user) (seen b o') after) →
    ((user : User) → serves' user → FailedStep (quel user) (state_at b (stage_number (get_or turns i 0))) o' after) → (list ≡ 1 ∷ 2 ∷ 3 ∷ 4 ∷ [] → numbers) →
    ReadsOn (state_at b (stage_number (get_or turns i 0))).mode h' h'' o' after (IsErrOf {T = T} (Err fault) faults.Source) (IsOk {T = T} (Err fault)) → CountsOnlyBy o' after fault → SparesBy o' after fault →
    (numbers' → (stage_number (get_or turns i 0) ≡ first → ⊥) → LeavesEnds {T = T} h' h'' o' after (Err fault)) →
    (user : User) → serves user → StopsAt (quel user) capacity turns list h'' (seen a o) after fault
turns_stopped {T} fault capacity turns i a b o o' after h h' h'' one one' serves serves' numbers numbers' list lt d wrote part number reads same spares ends user x = record {
  made = take i turns;
  failed = get_or turns i 0;
  later = drop (i + 1) turns;
  is = cut_at turns i lt;
  before = seen b o';
  outside = o';
  knows = refl;
  runs = d.runs user x;
  part = part user (d.serve user x);
  wrote = wrote user (d.serve user x);
  read = h';
  reads = record { line = reads.line; broken = λ e. reads.broken (source e); given = reads.given; asks = asked reads.asks; over = record { stays = λ d. absurd d; whole = λ d. absurd d; going = λ e. reads.over.going (source e) } };
  whole = λ e. whole_unended o o' ⊥ ⊤ tt d.over (reads.over.going (source e));
  counts = same;
  spares = spares;
  apart = λ numbered not_first. let e = ends (d.numbered (number numbered)) not_first in (e.same, e.unread, e.inside);
}
  where
    source : fault ≡ faults.Source → IsErrOf {T = T} (Err fault) faults.Source
    source e = ap (λ (f : WorkFault). Err f) e

    asked : ReadsScript (state_at b (stage_number (get_or turns i 0))).mode ⊎ ReadsNothing h' h'' o' after (IsErrOf {T = T} (Err fault) faults.Source) → ReadsScript (state_at b (stage_number (get_or turns i 0))).mode ⊎ ReadsNothing h' h'' o' after (fault ≡ faults.Source)
    asked (inl s) = inl s
    asked (inr n) = inr (record { unread = n.unread; script = n.script; fine = λ e. n.fine (source e) })

-- stages with these numbers, by their list
pub are_numbered : {A1 A2 A3 A4 : Type 0} (one : A1 → ℕ) (two : A2 → ℕ) (three : A3 → ℕ) (four : A4 → ℕ) (n : Net A1 A2 A3 A4) → numbers_by one two three four n ≡ 1 ∷ 2 ∷ 3 ∷ 4 ∷ [] → AreNumbered one two three four n
are_numbered one two three four n e = record { first = cc; second = cc; third = cc; fourth = cc }

-- a list that stops behind one that didn't
pub stops_behind : (L : Language quel_sorts) (capacity : ℕ) (xs ys numbers : List ℕ) (heard : ℕ) (old mid : Seen quel_sorts) (after : Outside) (fault : WorkFault) → RunsTurns L capacity xs old mid → (fault ≡ faults.Source → ReadsWhole old.known.script mid.known.script) →
    StopsAt L capacity ys numbers heard mid after fault → StopsAt L capacity (xs ++ ys) numbers heard old after fault
stops_behind L capacity xs ys numbers heard old mid after fault run whole s = record {
  made = xs ++ s.made;
  failed = s.failed;
  later = s.later;
  is = ap (λ (l : List ℕ). xs ++ l) s.is ∙ sym (append_assoc xs s.made (s.failed ∷ s.later));
  before = s.before;
  outside = s.outside;
  knows = s.knows;
  runs = runs_on L capacity xs s.made old mid s.before run s.runs;
  part = s.part;
  wrote = s.wrote;
  read = s.read;
  reads = s.reads;
  whole = λ e. whole_more old.known.script mid.known.script s.outside.script (whole e) (s.whole e);
  counts = s.counts;
  spares = s.spares;
  apart = s.apart;
}

pub turns_failed : {T : Type 0} (result : Result T WorkFault) (capacity : ℕ) (turns : List ℕ) (a b : Shape quel_sorts) (o o' after : Outside) (h h' one one' : ℕ) (serves serves' : User → Type 0) (numbers numbers' : Type 0) →
    TurnsDone capacity turns a b o o' h h' one one' serves serves' numbers numbers' → ((user : User) → serves' user → WroteFront (quel user) (seen b o') after) →
    (user : User) → serves user → OnErr result (WroteFront (quel user) (seen a o) after)
turns_failed result capacity turns a b o o' after h h' one one' serves serves' numbers numbers' d wrote user x =
    on_any result _ (wrote_behind (quel user) (seen a o) (seen b o') after (turns_keep capacity turns a b o o' h h' one one' serves serves' numbers numbers' d user x) (wrote user (d.serve user x)))

pub turns_disorderly : (capacity : ℕ) (turns : List ℕ) (a b : Shape quel_sorts) (o o' : Outside) (h h' one one' : ℕ) (serves serves' : User → Type 0) (numbers numbers' : Type 0) →
    TurnsDone capacity turns a b o o' h h' one one' serves serves' numbers numbers' → (user : User) → serves user → (serves' user → IsDisorderly (quel user) (seen b o')) → IsDisorderly (quel user) (seen a o)
turns_disorderly capacity turns a b o o' h h' one one' serves serves' numbers numbers' d user x refused =
    disorderly_behind (quel user) (seen a o) (seen b o') (turns_keep capacity turns a b o o' h h' one one' serves serves' numbers numbers' d user x) (refused (d.serve user x))
