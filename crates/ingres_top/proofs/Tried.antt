-- What a session of `try` says of the objects of the outside.
use Rattle.std.proofs.Common.{◌≡◌, ◌⊎◌, ◌≤◌, ◌<◌, ◌+◌, refl, sym, ap, subst, ◌∙◌, ℕ, true, false, List, [], length, Some, None, Result, Ok, Err, IsErrOf, OnOk, inl, inr, arith}
use Rattle.std.specs.Prelude.{◌↔◌, IfSome, drop}
use Rattle.std.proofs.lemmas.Result.{on_ok_weaker}
use Rattle.std.specs.declared.option.Option.{Option}
use Rattle.calculus.specs.Who.{asker_of}
use Rattle.fault_io.specs.Causes.{Rose}
use Rattle.fault_io.specs.Files.{Files}
use Rattle.ingres_top.proofs.Statuses.{IsTooLong}
use Rattle.ingres_top.specs.Status.{status_of}
use Rattle.ingres_top.specs.Top.{AreSame, IsBrokenOff, IsCutOff, IsDone, IsKeptUp, IsPartlyDone, empty_db}
use Rattle.ingres_top.specs.Trying.{Objects, TryDone, objects_of}
use Rattle.ingres_top.specs.Turns.{TriedBy}
use Rattle.net_core.specs.Causes.{IsCaused}
use Rattle.net_core.specs.declared.fault.WorkFault.{WorkFault}
use Rattle.net_core.specs.declared.fault.WorkFault.TheVariants as faults
use Rattle.net_core.specs.Known.{Outside, known}
use Rattle.net_core.specs.Spares.{Counts, CountsOnly}
use Rattle.net_session.proofs.Unbegun.{not_begun}
use Rattle.network_meaning.specs.Calls.{Knows}
use Rattle.network_meaning.specs.LocalSteps.{Room}
use Rattle.quel_grammar.specs.NextReader.{next_at}
use Rattle.quel_grammar.proofs.Answered.{reads}
use Rattle.quel_network.specs.Sorts.{User, quel_sorts}

-- ---- what an outside says that isn't of one script

if_some : (left : Option (List ℕ)) (P : List ℕ → Type 0) → ((script : List ℕ) → left ≡ Some script → P script) → IfSome left P
if_some None P f = tt
if_some (Some script) P f = f script refl

on_ok_some : (outcome : Result (Unit {0}) WorkFault) (left : Option (List ℕ)) (P : List ℕ → Type 0) → ((script : List ℕ) → left ≡ Some script → OnOk outcome (P script)) → OnOk outcome (IfSome left P)
on_ok_some (Ok done) left P f = if_some left P f
on_ok_some (Err fault) left P f = tt

counts_source : (outcome : Result (Unit {0}) WorkFault) (old new : Outside) → CountsOnly old new outcome → (IsErrOf outcome faults.Source → ⊥) → new.source_faults ≡ old.source_faults
counts_source (Ok done) old new c other = ap (λ (k : Counts). k.source) c
counts_source (Err faults.Source) old new c other = absurd (other refl)
counts_source (Err faults.Sink) old new c other = ap (λ (k : Counts). k.source) c
counts_source (Err faults.Disk) old new c other = ap (λ (k : Counts). k.source) c
counts_source (Err (faults.Damaged file page)) old new c other = ap (λ (k : Counts). k.source) c
counts_source (Err faults.Shelf) old new c other = ap (λ (k : Counts). k.source) c
counts_source (Err faults.TooLong) old new c other = ap (λ (k : Counts). k.source) c
counts_source (Err faults.Unlawful) old new c other = ap (λ (k : Counts). k.source) c
counts_source (Err faults.OutOfMemory) old new c other = ap (λ (k : Counts). k.source) c

counts_sink : (outcome : Result (Unit {0}) WorkFault) (old new : Outside) → CountsOnly old new outcome → (IsErrOf outcome faults.Sink → ⊥) → AreSame old.sink_faults new.sink_faults old.sink_stalls new.sink_stalls
counts_sink (Ok done) old new c other = record { faults = ap (λ (k : Counts). k.sink) c; stalls = ap (λ (k : Counts). k.stalls) c }
counts_sink (Err faults.Source) old new c other = record { faults = ap (λ (k : Counts). k.sink) c; stalls = ap (λ (k : Counts). k.stalls) c }
counts_sink (Err faults.Sink) old new c other = absurd (other refl)
counts_sink (Err faults.Disk) old new c other = record { faults = ap (λ (k : Counts). k.sink) c; stalls = ap (λ (k : Counts). k.stalls) c }
counts_sink (Err (faults.Damaged file page)) old new c other = record { faults = ap (λ (k : Counts). k.sink) c; stalls = ap (λ (k : Counts). k.stalls) c }
counts_sink (Err faults.Shelf) old new c other = record { faults = ap (λ (k : Counts). k.sink) c; stalls = ap (λ (k : Counts). k.stalls) c }
counts_sink (Err faults.TooLong) old new c other = record { faults = ap (λ (k : Counts). k.sink) c; stalls = ap (λ (k : Counts). k.stalls) c }
counts_sink (Err faults.Unlawful) old new c other = record { faults = ap (λ (k : Counts). k.sink) c; stalls = ap (λ (k : Counts). k.stalls) c }
counts_sink (Err faults.OutOfMemory) old new c other = record { faults = ap (λ (k : Counts). k.sink) c; stalls = ap (λ (k : Counts). k.stalls) c }

counts_shelf : (outcome : Result (Unit {0}) WorkFault) (old new : Outside) → CountsOnly old new outcome → (IsErrOf outcome faults.Shelf → ⊥) → new.shelf_faults ≡ old.shelf_faults
counts_shelf (Ok done) old new c other = ap (λ (k : Counts). k.shelf) c
counts_shelf (Err faults.Source) old new c other = ap (λ (k : Counts). k.shelf) c
counts_shelf (Err faults.Sink) old new c other = ap (λ (k : Counts). k.shelf) c
counts_shelf (Err faults.Disk) old new c other = ap (λ (k : Counts). k.shelf) c
counts_shelf (Err (faults.Damaged file page)) old new c other = ap (λ (k : Counts). k.shelf) c
counts_shelf (Err faults.Shelf) old new c other = absurd (other refl)
counts_shelf (Err faults.TooLong) old new c other = ap (λ (k : Counts). k.shelf) c
counts_shelf (Err faults.Unlawful) old new c other = ap (λ (k : Counts). k.shelf) c
counts_shelf (Err faults.OutOfMemory) old new c other = ap (λ (k : Counts). k.shelf) c

rose_source : (outcome : Result (Unit {0}) WorkFault) (old new : Outside) → IsCaused 0 old new outcome → IsErrOf outcome faults.Source → Rose old.source_faults new.source_faults
rose_source outcome old new c e = let h : IsCaused {T = Unit {0}} 0 old new (Err faults.Source) = subst (λ (x : Result (Unit {0}) WorkFault). IsCaused 0 old new x) e c in h

rose_sink : (outcome : Result (Unit {0}) WorkFault) (old new : Outside) → IsCaused 0 old new outcome → IsErrOf outcome faults.Sink → Rose old.sink_faults new.sink_faults ⊎ Rose old.sink_stalls new.sink_stalls
rose_sink outcome old new c e = let h : IsCaused {T = Unit {0}} 0 old new (Err faults.Sink) = subst (λ (x : Result (Unit {0}) WorkFault). IsCaused 0 old new x) e c in h

rose_shelf : (outcome : Result (Unit {0}) WorkFault) (old new : Outside) → IsCaused 0 old new outcome → IsErrOf outcome faults.Shelf → Rose old.shelf_faults new.shelf_faults
rose_shelf outcome old new c e = let h : IsCaused {T = Unit {0}} 0 old new (Err faults.Shelf) = subst (λ (x : Result (Unit {0}) WorkFault). IsCaused 0 old new x) e c in h

-- the user whom the words name, as the grammar reads
abbrev user_for : List ℕ → User
user_for user = record { asker = asker_of user; reading = next_at; grammatical = reads }

-- ---- a session that didn't begin

-- an outside of these objects, with an empty database
abbrev empty_of : List ℕ → Objects → Outside
empty_of user b = record {
  database = Some (empty_db user);
  base_faults = 0;
  clock = 0;
  reads = 0;
  files = b.files;
  shelf_faults = b.shelf_faults;
  script = b.script;
  given = b.given;
  source_faults = b.source_faults;
  source_ended = b.source_ended;
  output = b.output;
  sink_faults = b.sink_faults;
  sink_stalls = b.sink_stalls;
}

pub unbegun : (user : List ℕ) (b : Objects) → TryDone user b b (Err faults.OutOfMemory)
unbegun user b = record {
  old = empty_of user b;
  new = empty_of user b;
  empty = refl;
  sound = λ rose. omega (arith, rose);
  began = refl;
  left = refl;
  session = not_begun (asker_of user) 0 (empty_of user b);
}

-- ---- the clauses

module _ (user : List ℕ) (before after : Objects) (outcome : Result (Unit {0}) WorkFault) (t : TryDone user before after outcome) where
  -- what holds of the two outsides holds of the objects
  moved : (P : Objects → Objects → Type 0) → P (objects_of t.old) (objects_of t.new) → P before after
  moved P h = subst (λ (a : Objects). P before a) t.left (subst (λ (b : Objects). P b (objects_of t.new)) t.began h)

  abbrev room : Files → List ℕ → Room quel_sorts
  room files script = record { db = empty_db user; shelf = files; script = script; out = [] }

  knows : (files : Files) (script : List ℕ) → t.old.files ≡ Some files → t.old.script ≡ Some script → Knows (known t.old) (room files script)
  knows files script f s = record { db = t.empty; shelf = f; script = s }

  pub done : (files : Files) → before.files ≡ Some files → OnOk outcome (IsDone user files before.script after.script before.output after.output after.files)
  done files = moved (λ b a. b.files ≡ Some files → OnOk outcome (IsDone user files b.script a.script b.output a.output a.files))
      (λ there. on_ok_some outcome t.old.script _ (λ script is. on_ok_weaker outcome (λ all. (
        elim all.read [ inl e ↦ inl (all.known.script ∙ ap (λ (s : List ℕ). Some s) e) | inr e ↦ inr e ],
        all.printed,
        all.known.shelf ∙ ap (λ (s : Files). Some s) all.files,
      )) (t.session.done (user_for user) refl (room files script) (knows files script there is))))

  pub partly : (files : Files) → before.files ≡ Some files → IsPartlyDone user files before.script before.output after.output
  partly files = moved (λ b a. b.files ≡ Some files → IsPartlyDone user files b.script b.output a.output)
      (λ there. if_some t.old.script _ (λ script is. t.session.partly (user_for user) refl (room files script) (knows files script there is)))

  pub keeps_up : (files : Files) → before.files ≡ Some files → IsKeptUp user files before.script after.script before.output after.output
  keeps_up files = moved (λ b a. b.files ≡ Some files → IsKeptUp user files b.script a.script b.output a.output)
      (λ there. if_some t.old.script _ (λ script is.
      let k = t.session.keeps_up (user_for user) refl (room files script) (knows files script there is) in
      record { heard = k.heard; piece = k.piece; small = k.small; read = k.read; goes_on = k.goes_on; printed = k.printed }))

  pub broken_off : (files : Files) → before.files ≡ Some files → IsErrOf outcome faults.Source → IsBrokenOff user files before.script after.script before.output after.output after.files
  broken_off files = moved (λ b a. b.files ≡ Some files → IsErrOf outcome faults.Source → IsBrokenOff user files b.script a.script b.output a.output a.files)
      (λ there e. if_some t.old.script _ (λ script is.
      let (read, k) = t.session.broken_off (user_for user) refl (room files script) (knows files script there is) e in
      record { heard = read; read = k.left; goes_on = k.goes_on; printed = k.printed; shelved = k.shelved }))

  pub cut_off : (files : Files) → before.files ≡ Some files → IsErrOf outcome faults.TooLong → IsCutOff user files before.script after.script before.output after.output after.files
  cut_off files = moved (λ b a. b.files ≡ Some files → IsErrOf outcome faults.TooLong → IsCutOff user files b.script a.script b.output a.output a.files)
      (λ there e. if_some t.old.script _ (λ script is.
      let k = t.session.cut_off (user_for user) refl (room files script) (knows files script there is) e in
      record { read = k.left; goes_on = k.goes_on; printed = k.printed; shelved = k.shelved }))

  pub source_fault : IsErrOf outcome faults.Source → Rose before.source_faults after.source_faults
  source_fault = moved (λ b a. IsErrOf outcome faults.Source → Rose b.source_faults a.source_faults) (rose_source outcome t.old t.new t.session.cause)

  pub sink_fault : IsErrOf outcome faults.Sink → Rose before.sink_faults after.sink_faults ⊎ Rose before.sink_stalls after.sink_stalls
  sink_fault = moved (λ b a. IsErrOf outcome faults.Sink → Rose b.sink_faults a.sink_faults ⊎ Rose b.sink_stalls a.sink_stalls) (rose_sink outcome t.old t.new t.session.cause)

  pub shelf_fault : IsErrOf outcome faults.Shelf → Rose before.shelf_faults after.shelf_faults
  shelf_fault = moved (λ b a. IsErrOf outcome faults.Shelf → Rose b.shelf_faults a.shelf_faults) (rose_shelf outcome t.old t.new t.session.cause)

  pub source_same : (IsErrOf outcome faults.Source → ⊥) → after.source_faults ≡ before.source_faults
  source_same = moved (λ b a. (IsErrOf outcome faults.Source → ⊥) → a.source_faults ≡ b.source_faults) (counts_source outcome t.old t.new t.session.counts)

  pub sink_same : (IsErrOf outcome faults.Sink → ⊥) → AreSame before.sink_faults after.sink_faults before.sink_stalls after.sink_stalls
  sink_same = moved (λ b a. (IsErrOf outcome faults.Sink → ⊥) → AreSame b.sink_faults a.sink_faults b.sink_stalls a.sink_stalls) (counts_sink outcome t.old t.new t.session.counts)

  pub shelf_same : (IsErrOf outcome faults.Shelf → ⊥) → after.shelf_faults ≡ before.shelf_faults
  shelf_same = moved (λ b a. (IsErrOf outcome faults.Shelf → ⊥) → a.shelf_faults ≡ b.shelf_faults) (counts_shelf outcome t.old t.new t.session.counts)

  pub too_long : IsTooLong before.script after.script (IsErrOf outcome faults.TooLong)
  too_long = moved (λ b a. IsTooLong b.script a.script (IsErrOf outcome faults.TooLong))
      (if_some t.old.script _ (λ script is. if_some t.new.script _ (λ rest left. t.session.too_long script rest is left)))

  pub past : IsErrOf outcome faults.TooLong → IfSome before.script (λ script. after.script ≡ Some (drop 16777217 script))
  past = moved (λ b a. IsErrOf outcome faults.TooLong → IfSome b.script (λ script. a.script ≡ Some (drop 16777217 script)))
      (λ e. if_some t.old.script _ (λ script is. t.session.past e script is))

  pub turns : TriedBy user (record { files = before.files; script = before.script; output = before.output }) (record { files = after.files; script = after.script; output = after.output }) (status_of outcome)
  turns = moved (λ b a. TriedBy user (record { files = b.files; script = b.script; output = b.output }) (record { files = a.files; script = a.script; output = a.output }) (status_of outcome))
      (record { old = t.old; new = t.new; empty = t.empty; began = refl; left = refl; result = outcome; ended = refl; ran = λ who is. t.session.turns who is })
