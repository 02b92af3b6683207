-- What the fourth stage has carried out, as the work of the network.
use Rattle.std.proofs.Common.{◌≡◌, ◌⊎◌, inl, inr, refl, sym, ap, subst, ◌∙◌, ℕ, List, [], ◌∷◌, ◌++◌, Some, Option, Result, Ok, Err, arith}
use Rattle.std.proofs.KnownBytes.{Appends-nil}
use Rattle.std.proofs.lemmas.List.{append-nil}
use Rattle.std.proofs.lemmas.Option.{same_Some}
use Rattle.base_trait.proofs.Crashes.{leaves_as}
use Rattle.base_trait.specs.Crashes.{LeavesBut}
use Rattle.calculus.specs.declared.request.Checked.TheVariants as checked
use Rattle.calculus.specs.Database.{Db}
use Rattle.calculus.specs.IsDatabase.{IsDatabase}
use Rattle.fault_io.specs.Files.{Files, stored}
use Rattle.frame_codec.specs.declared.frame.Frame.{Frame}
use Rattle.message_codec.specs.MessageLaws.{spell_alone}
use Rattle.net_core.specs.Causes.{MayCome, MayNotWork}
use Rattle.net_core.specs.Crashes.{HandsOver, MayLeave, QuietWithout, StaysDurable, WorkLeaves}
use Rattle.net_core.specs.declared.fault.WorkFault.{WorkFault}
use Rattle.net_core.specs.declared.fault.WorkFault.TheVariants as faults
use Rattle.net_core.specs.Known.{FailedWork, IsBeforeOrAfter, KeepsDatabase, Later, LeavesFiles, Outside, SparesFiles, StoresFile, known}
use Rattle.net_core.specs.Spares.{Counts, CountsOnlyBy, IsNoFaultOfEnds, SparesBy, counts}
use Rattle.net_core.specs.Wants.{IsToWork}
use Rattle.network_meaning.specs.Calls.{Knows, WorkDone, WorkedIn}
use Rattle.network_meaning.specs.Lawful.{FitWork}
use Rattle.network_meaning.specs.LocalSteps.{CarriesOut, Mode.idle4, Mode.working4, Room as NetworkRoom, Works, outcome_of, says}
use Rattle.network_meaning.specs.Network.{LocalState}
use Rattle.network_meaning.specs.Sorts.{Cargo, Cargo.change, Cargo.tree, Outcome}
use Rattle.network_meaning.specs.WorkShape.{CarryShape, UtilityShape.does as shape_does, UtilityShape.refuses as shape_refuses}
use Rattle.quel_network.specs.Quel.{quel}
use Rattle.quel_network.specs.Sorts.{User, quel_sorts}
use Rattle.quel_network.specs.SpellingLaws.{refused_spelled_law}
use Rattle.quel_network.specs.Trees.{outcome_of_effect}
use Rattle.quel_tree.specs.Changes.{change as change_codec}
use Rattle.quel_tree.specs.Message.{most_tree_levels}
use Rattle.quel_tree.specs.Requests.{checked as checked_codec}
use Rattle.stage_util.proofs.Effects.{outcome_is}
use Rattle.stage_util.specs.declared.at.At.{At}
use Rattle.stage_util.specs.declared.at.At.TheVariants as at
use Rattle.stage_util.specs.declared.carried.Carried.{Carried}
use Rattle.stage_util.specs.declared.carried.Carried.TheVariants as carried
use Rattle.stage_util.specs.Standing.{IsHeldSpelled, IsHolding, Serves, standing}
use Rattle.stage_util.specs.Working.{After, CarriesAt, Did, DidNot, FitsFor, HasWorkCause, IsForFour, Leaves, Makes, MayAnswer, MayComeHere, MayStoreOf, SparesDatabase, answer_of, frames_of, outside_after, span_of}

-- ---- of one piece of cargo

-- it has a spelling
abbrev SpelledCargo : Cargo quel_sorts → Type 0
SpelledCargo (tree t) = (checked_codec most_tree_levels).Fits t
SpelledCargo (change c) = (change_codec most_tree_levels).Fits c

fit_cargo : (user : User) (x : Cargo quel_sorts) (db : Db) → SpelledCargo x → IsDatabase db → IsForFour x → FitsFor user.asker.user x db → FitWork (quel user) (working4 x) db
unfolding quel
fit_cargo user (tree (checked.Utility work)) db spelled is four fits = (record { fit = fits; spelled = spelled; database = is }, refl)
fit_cargo user (tree (checked.Answer asked)) db spelled is four fits = absurd four
fit_cargo user (tree (checked.Update u)) db spelled is four fits = absurd four
fit_cargo user (change c) db spelled is four fits = (record { lawful = fits; spelled = spelled }, refl)

cargo_fits : (user : User) (x : Cargo quel_sorts) (db : Db) → FitWork (quel user) (working4 x) db → FitsFor user.asker.user x db
unfolding quel
cargo_fits user (tree (checked.Utility work)) db fit = fit.0.fit
cargo_fits user (tree (checked.Answer asked)) db fit = absurd (cc fit.1)
cargo_fits user (tree (checked.Update u)) db fit = absurd (cc fit.1)
cargo_fits user (change c) db fit = fit.0.lawful

shape_of : (user : User) (x : Cargo quel_sorts) (c : Carried) → MayAnswer x c → CarryShape (quel user) x (says idle4 (answer_of c ∷ []))
shape_of user (tree t) carried.Done may = shape_does refl
shape_of user (tree t) (carried.Refused r) may = shape_refuses (record { refusal = r; spelled = refused_spelled_law user r may; is = refl })
shape_of user (change c) carried.Done may = refl
shape_of user (change c) (carried.Refused r) may = absurd may

-- a room with this database and these files
abbrev with_both : NetworkRoom quel_sorts → Db → Files → NetworkRoom quel_sorts
with_both room db files = record { db = db; shelf = files; script = room.script; out = room.out }

-- the work is that of the network where it makes this
made_works : (user : User) (x : Cargo quel_sorts) (room room' : NetworkRoom quel_sorts) (c : Carried) (outcome : Outcome quel_sorts) → outcome_of (quel user) x room.db room.shelf ≡ outcome → CarriesOut room outcome (says idle4 (answer_of c ∷ [])) room'
    → Works (quel user) (working4 x) room (says idle4 (answer_of c ∷ [])) room'
made_works user x room room' c outcome e h = subst (λ (y : Outcome quel_sorts). CarriesOut room y (says idle4 (answer_of c ∷ [])) room') (sym e) h

exact_with : (user : User) (x : Cargo quel_sorts) (o : Outside) (a : After) (room : NetworkRoom quel_sorts) (c : Carried) → Knows (known o) room → Leaves user.asker.user x room.db room.shelf a.database a.files c
    → WorkedIn (quel user) (working4 x) (says idle4 (answer_of c ∷ [])) room (known o) (known (outside_after o a))
exact_with user x o a room carried.Done t h = record {
  room' = with_both room h.0 h.1;
  known = record { db = h.2; shelf = h.3; script = t.script };
  wrote = ([], sym (append-nil room.out), Appends-nil o.output);
  works = made_works user x room (with_both room h.0 h.1) carried.Done _ (outcome_is user x room.db room.shelf ∙ ap outcome_of_effect h.4) (refl, refl);
}
exact_with user x o a room (carried.Refused r) t h = record {
  room' = room;
  known = record { db = h.0; shelf = h.1; script = t.script };
  wrote = ([], sym (append-nil room.out), Appends-nil o.output);
  works = made_works user x room room (carried.Refused r) _ (outcome_is user x room.db room.shelf ∙ ap outcome_of_effect h.2) (refl, refl);
}

abbrev holding_at : Cargo quel_sorts → List Frame → LocalState quel_sorts
holding_at x got = record { mode = working4 x; got_left = got; got_right = []; out_left = []; out_right = [] }

works_with : (user : User) (x : Cargo quel_sorts) (got frames : List Frame) (o : Outside) (a : After) (c : Carried) → SpelledCargo x → ((db : Db) → o.database ≡ Some db → IsDatabase db) → frames ≡ frames_of c → Did user.asker.user x (span_of o a) o.files a.files c
    → WorkDone (quel user) (holding_at x got) (standing at.Idle got frames) (known o) (known (outside_after o a))
works_with user x got frames o a c spelled lawful are d = record {
  act = says idle4 (answer_of c ∷ []);
  is = ap (λ (fs : List Frame). standing at.Idle got fs) (are ∙ sym (spell_alone user (answer_of c)));
  shape = shape_of user x c d.answers;
  fit = λ db shelf e g. fit_cargo user x db spelled (lawful db e) d.is_for_four (d.fits db e);
  exact = λ room t. exact_with user x o a room c t (d.leaves room.db room.shelf t.db t.shelf);
}

-- what it makes is what the work of the network may leave
makes_leaves : (user : User) (x : Cargo quel_sorts) (room : NetworkRoom quel_sorts) (b : Option Db) → Makes user.asker.user x room.db room.shelf b → MayLeave (quel user) (working4 x) room b
makes_leaves user x room b h = (
  says idle4 (answer_of carried.Done ∷ []),
  with_both room h.0 h.1,
  made_works user x room (with_both room h.0 h.1) carried.Done _ (outcome_is user x room.db room.shelf ∙ ap outcome_of_effect h.3) (refl, refl),
  h.2,
)

stores_as : (user : User) (x : Cargo quel_sorts) (room : NetworkRoom quel_sorts) (files : Option Files) (h : MayStoreOf user.asker.user x room.db room.shelf files) → StoresFile (quel user) (working4 x) room h.0 h.1
stores_as user x room files h = (
  says idle4 (answer_of carried.Done ∷ []),
  with_both room h.2 (stored room.shelf h.0 h.1),
  made_works user x room (with_both room h.2 (stored room.shelf h.0 h.1)) carried.Done _ (outcome_is user x room.db room.shelf ∙ ap outcome_of_effect h.3) (refl, refl),
  refl,
)

crash_with : (user : User) (x : Cargo quel_sorts) (o : Outside) (a : After)
    → ((db : Db) (fs : Files) → o.database ≡ Some db → o.files ≡ Some fs → LeavesBut (Makes user.asker.user x db fs) o.clock a.clock a.left_before a.left_now)
    → WorkLeaves (quel user) (working4 x) o (outside_after o a) a.left_before a.left_now
crash_with user x o a h room t =
    leaves_as (Makes user.asker.user x room.db room.shelf) (MayLeave (quel user) (working4 x) room) o.clock a.clock a.left_before a.left_now (makes_leaves user x room) (h room.db room.shelf t.db t.shelf)

failed_files : (user : User) (x : Cargo quel_sorts) (room : NetworkRoom quel_sorts) (files : Option Files) → (files ≡ Some room.shelf) ⊎ MayStoreOf user.asker.user x room.db room.shelf files → LeavesFiles (quel user) (working4 x) room files
failed_files user x room files (inl e) = inl e
failed_files user x room files (inr h) = inr (h.0, h.1, stores_as user x room files h, h.4)

failed_database : (user : User) (x : Cargo quel_sorts) (room : NetworkRoom quel_sorts) (now : Db) → (now ≡ room.db) ⊎ Makes user.asker.user x room.db room.shelf (Some now) → IsBeforeOrAfter (quel user) (working4 x) room now
failed_database user x room now (inl e) = inl e
failed_database user x room now (inr h) = let l = makes_leaves user x room (Some now) h in inr (l.0, l.1, l.2, same_Some now l.1.db l.3)

-- some room with this database and these files
abbrev some_room : Db → Files → NetworkRoom quel_sorts
some_room db files = record { db = db; shelf = files; script = []; out = [] }

spared_files : (user : User) (x : Cargo quel_sorts) (fs : Files) (files : Option Files) → (files ≡ Some fs) ⊎ ((db : Db) × MayStoreOf user.asker.user x db fs files) → SparesFiles (quel user) (working4 x) fs files
spared_files user x fs files (inl e) = inl e
spared_files user x fs files (inr h) = inr (h.1.0, h.1.1, (some_room h.0 fs, refl, stores_as user x (some_room h.0 fs) files h.1), h.1.4)

failed_with : (user : User) (x : Cargo quel_sorts) (o : Outside) (a : After) (f : WorkFault) → DidNot user.asker.user x (span_of o a) o.files a.files f → FailedWork (quel user) (working4 x) o (outside_after o a)
failed_with user x o a f d = record {
  part = λ room t. record {
    front = [];
    begins = (_, refl);
    wrote = Appends-nil o.output;
    files = failed_files user x room a.files (d.part room.db room.shelf t.db t.shelf);
    database = λ now then. failed_database user x room now (d.database room.db now room.shelf t.db t.shelf then);
  };
  files = λ fs e. spared_files user x fs a.files (d.files_left fs e);
}

unfit_with : (user : User) (x : Cargo quel_sorts) (o : Outside) (a : After) (f : WorkFault) → f ≡ faults.Unlawful → DidNot user.asker.user x (span_of o a) o.files a.files f → MayNotWork (quel user) (working4 x) o
unfit_with user x o a f u d db fs e g fit = d.unfit u db fs e g (cargo_fits user x db fit)

-- ---- of what is in its hands

-- it has something in its hands, and nothing to give
pub record Working (here : At) (out : List Frame) : Type 0 where
  pub holds : IsHolding here
  pub none : out ≡ []

pub is_working : (here : At) (got out : List Frame) → IsToWork (standing here got out) → Working here out
is_working here got (f ∷ fs) e = absurd (cc e)
is_working at.Idle got [] e = absurd (cc e)
is_working (at.Tree t) got [] e = record { holds = tt; none = refl }
is_working (at.Change c) got [] e = record { holds = tt; none = refl }
is_working at.Ended got [] e = absurd (cc e)

-- a fault of what is in its hands
pub at_err : {P : Type 0} (name : List ℕ) (here : At) (o : Outside) (a : After) (f : WorkFault) → IsHolding here → CarriesAt name here (span_of o a) o.files a.files (Err f) → ((x : Cargo quel_sorts) → DidNot name x (span_of o a) o.files a.files f → P) → P
at_err name (at.Tree t) o a f holds d k = k (tree t) d
at_err name (at.Change c) o a f holds d k = k (change c) d
at_err name at.Idle o a f holds d k = absurd holds
at_err name at.Ended o a f holds d k = absurd holds

-- an answer
pub at_ok : {P : Type 0} (name : List ℕ) (here : At) (o : Outside) (a : After) (c : Carried) → IsHolding here → CarriesAt name here (span_of o a) o.files a.files (Ok c) → ((x : Cargo quel_sorts) → Did name x (span_of o a) o.files a.files c → P) → P
at_ok name (at.Tree t) o a c holds d k = k (tree t) d
at_ok name (at.Change x) o a c holds d k = k (change x) d
at_ok name at.Idle o a c holds d k = absurd holds
at_ok name at.Ended o a c holds d k = absurd holds

works_at : (user : User) (here : At) (got frames : List Frame) (o : Outside) (a : After) (c : Carried) → IsHolding here → IsHeldSpelled here → ((db : Db) → o.database ≡ Some db → IsDatabase db) → frames ≡ frames_of c
    → CarriesAt user.asker.user here (span_of o a) o.files a.files (Ok c) → WorkDone (quel user) (standing here got []) (standing at.Idle got frames) (known o) (known (outside_after o a))
works_at user (at.Tree t) got frames o a c holds spelled lawful are d = works_with user (tree t) got frames o a c spelled lawful are d
works_at user (at.Change x) got frames o a c holds spelled lawful are d = works_with user (change x) got frames o a c spelled lawful are d
works_at user at.Idle got frames o a c holds spelled lawful are d = absurd holds
works_at user at.Ended got frames o a c holds spelled lawful are d = absurd holds

failed_at : (user : User) (here : At) (o : Outside) (a : After) (f : WorkFault) → IsHolding here → CarriesAt user.asker.user here (span_of o a) o.files a.files (Err f) → FailedWork (quel user) (standing here [] []).mode o (outside_after o a)
failed_at user (at.Tree t) o a f holds d = failed_with user (tree t) o a f d
failed_at user (at.Change c) o a f holds d = failed_with user (change c) o a f d
failed_at user at.Idle o a f holds d = absurd holds
failed_at user at.Ended o a f holds d = absurd holds

unfit_at : (user : User) (here : At) (o : Outside) (a : After) (f : WorkFault) → IsHolding here → f ≡ faults.Unlawful → CarriesAt user.asker.user here (span_of o a) o.files a.files (Err f) → MayNotWork (quel user) (standing here [] []).mode o
unfit_at user (at.Tree t) o a f holds u d = unfit_with user (tree t) o a f u d
unfit_at user (at.Change c) o a f holds u d = unfit_with user (change c) o a f u d
unfit_at user at.Idle o a f holds u d = absurd holds
unfit_at user at.Ended o a f holds u d = absurd holds

crash_at : (user : User) (here : At) (o : Outside) (a : After) (r : Result Carried WorkFault) → IsHolding here → CarriesAt user.asker.user here (span_of o a) o.files a.files r → WorkLeaves (quel user) (standing here [] []).mode o (outside_after o a) a.left_before a.left_now
crash_at user (at.Tree t) o a (Ok c) holds d = crash_with user (tree t) o a d.crash
crash_at user (at.Tree t) o a (Err f) holds d = crash_with user (tree t) o a d.crash
crash_at user (at.Change x) o a (Ok c) holds d = crash_with user (change x) o a d.crash
crash_at user (at.Change x) o a (Err f) holds d = crash_with user (change x) o a d.crash
crash_at user at.Idle o a r holds d = absurd holds
crash_at user at.Ended o a r holds d = absurd holds

-- ---- of the stage

pub works_ok : (user : User) (name : List ℕ) (here : At) (got out frames begun : List Frame) (o : Outside) (a : After) (c : Carried) → Serves name here user → IsToWork (standing here got out) → ((db : Db) → o.database ≡ Some db → IsDatabase db) → begun ≡ [] → frames ≡ begun ++ frames_of c
    → CarriesAt name here (span_of o a) o.files a.files (Ok c) → WorkDone (quel user) (standing here got out) (standing at.Idle got frames) (known o) (known (outside_after o a))
works_ok user name here got out frames begun o a c served work lawful nothing are d =
    let w = is_working here got out work in
    subst (λ (fs : List Frame). WorkDone (quel user) (standing here got fs) (standing at.Idle got frames) (known o) (known (outside_after o a))) (sym w.none)
    (works_at user here got frames o a c w.holds served.1 lawful (are ∙ ap (λ (fs : List Frame). fs ++ frames_of c) nothing)
    (subst (λ (n : List ℕ). CarriesAt n here (span_of o a) o.files a.files (Ok c)) (sym served.0) d))

pub failed_err : (user : User) (name : List ℕ) (here : At) (got out : List Frame) (o : Outside) (a : After) (f : WorkFault) → Serves name here user → IsToWork (standing here got out) → CarriesAt name here (span_of o a) o.files a.files (Err f)
    → FailedWork (quel user) (standing here got out).mode o (outside_after o a)
failed_err user name here got out o a f served work d =
    failed_at user here o a f (is_working here got out work).holds (subst (λ (n : List ℕ). CarriesAt n here (span_of o a) o.files a.files (Err f)) (sym served.0) d)

pub unlawful_err : (user : User) (name : List ℕ) (here : At) (got out : List Frame) (o : Outside) (a : After) (f : WorkFault) → Serves name here user → IsToWork (standing here got out) → f ≡ faults.Unlawful → CarriesAt name here (span_of o a) o.files a.files (Err f)
    → MayNotWork (quel user) (standing here got out).mode o
unlawful_err user name here got out o a f served work u d =
    unfit_at user here o a f (is_working here got out work).holds u (subst (λ (n : List ℕ). CarriesAt n here (span_of o a) o.files a.files (Err f)) (sym served.0) d)

pub crash_any : (user : User) (name : List ℕ) (here : At) (got out : List Frame) (o : Outside) (a : After) (r : Result Carried WorkFault) → Serves name here user → IsToWork (standing here got out) → CarriesAt name here (span_of o a) o.files a.files r
    → WorkLeaves (quel user) (standing here got out).mode o (outside_after o a) a.left_before a.left_now
crash_any user name here got out o a r served work d =
    crash_at user here o a r (is_working here got out work).holds (subst (λ (n : List ℕ). CarriesAt n here (span_of o a) o.files a.files r) (sym served.0) d)

pub database_ok : (name : List ℕ) (here : At) (got out : List Frame) (o : Outside) (a : After) (c : Carried) → IsToWork (standing here got out) → CarriesAt name here (span_of o a) o.files a.files (Ok c) → KeepsDatabase o (outside_after o a)
database_ok name here got out o a c work d = at_ok name here o a c (is_working here got out work).holds d (λ x h. h.known)

pub durable_ok : (name : List ℕ) (here : At) (got out : List Frame) (o : Outside) (a : After) (c : Carried) → IsToWork (standing here got out) → CarriesAt name here (span_of o a) o.files a.files (Ok c)
    → StaysDurable o (outside_after o a) a.left_before a.left_now
durable_ok name here got out o a c work d = at_ok name here o a c (is_working here got out work).holds d (λ x h. h.durable)

pub handed_ok : (name : List ℕ) (here : At) (got out got' out' : List Frame) (o : Outside) (a : After) (c : Carried) → IsToWork (standing here got out) → CarriesAt name here (span_of o a) o.files a.files (Ok c)
    → HandsOver (standing here got out) (standing at.Idle got' out') a.schema a.database
handed_ok name here got out got' out' o a c work d = λ works turn away. at_ok name here o a c (is_working here got out work).holds d (λ x h. h.handed)

quiet_at : (here : At) (o o' : Outside) → IsHolding here → QuietWithout (standing here [] []) o o'
quiet_at (at.Tree t) o o' holds = λ k without. absurd (cc without)
quiet_at (at.Change c) o o' holds = λ k without. absurd (cc without)
quiet_at at.Idle o o' holds = absurd holds
quiet_at at.Ended o o' holds = absurd holds

pub quiet_any : (here : At) (got out : List Frame) (o o' : Outside) → IsToWork (standing here got out) → QuietWithout (standing here got out) o o'
quiet_any here got out o o' work = quiet_at here o o' (is_working here got out work).holds

-- ---- counts and causes

abbrev counts_both : Outside → ℕ → ℕ → Counts
counts_both o n m = record { base = n; shelf = m; source = o.source_faults; sink = o.sink_faults; stalls = o.sink_stalls }

same_counts : (o : Outside) (a : After) → a.base_faults ≡ o.base_faults → a.shelf_faults ≡ o.shelf_faults → counts (outside_after o a) ≡ counts o
same_counts o a e f = ap (λ (n : ℕ). counts_both o n a.shelf_faults) e ∙ ap (λ (m : ℕ). counts_both o o.base_faults m) f

pub counts_ok : (o : Outside) (a : After) (c : Carried) → HasWorkCause o.database o.base_faults a.base_faults o.shelf_faults a.shelf_faults (Ok c) → counts (outside_after o a) ≡ counts o
counts_ok o a c h = same_counts o a h.caused.0 h.caused.1

counts_by : (o : Outside) (a : After) (f : WorkFault) → MayComeHere o.database o.base_faults a.base_faults o.shelf_faults a.shelf_faults f → CountsOnlyBy o (outside_after o a) f
counts_by o a faults.Disk m = ap (λ (k : ℕ). counts_both o a.base_faults k) m.1
counts_by o a (faults.Damaged file page) m = same_counts o a m.1 m.2
counts_by o a faults.Shelf m = ap (λ (k : ℕ). counts_both o k a.shelf_faults) m.0
counts_by o a faults.Unlawful m = same_counts o a m.0 m.1
counts_by o a faults.OutOfMemory m = same_counts o a m.0 m.1
counts_by o a faults.Source m = absurd m
counts_by o a faults.Sink m = absurd m
counts_by o a faults.TooLong m = absurd m

pub counts_err : (o : Outside) (a : After) (f : WorkFault) → HasWorkCause {T = Carried} o.database o.base_faults a.base_faults o.shelf_faults a.shelf_faults (Err f) → CountsOnlyBy o (outside_after o a) f
counts_err o a f h = counts_by o a f h.caused

cause_by : (heard : ℕ) (o : Outside) (a : After) (f : WorkFault) → MayComeHere o.database o.base_faults a.base_faults o.shelf_faults a.shelf_faults f → MayCome heard o (outside_after o a) f
cause_by heard o a faults.Disk m = m.0
cause_by heard o a (faults.Damaged file page) m = m.0
cause_by heard o a faults.Shelf m = m.1
cause_by heard o a faults.Unlawful m = tt
cause_by heard o a faults.OutOfMemory m = tt
cause_by heard o a faults.Source m = absurd m
cause_by heard o a faults.Sink m = absurd m
cause_by heard o a faults.TooLong m = absurd m

pub cause_err : (o : Outside) (a : After) (f : WorkFault) → HasWorkCause {T = Carried} o.database o.base_faults a.base_faults o.shelf_faults a.shelf_faults (Err f) → MayCome 0 o (outside_after o a) f
cause_err o a f h = cause_by 0 o a f h.caused

inside_by : (known : Option Db) (n n' m m' : ℕ) (f : WorkFault) → MayComeHere known n n' m m' f → IsNoFaultOfEnds f
inside_by known n n' m m' faults.Disk c = tt
inside_by known n n' m m' (faults.Damaged file page) c = tt
inside_by known n n' m m' faults.Shelf c = tt
inside_by known n n' m m' faults.Unlawful c = tt
inside_by known n n' m m' faults.OutOfMemory c = tt
inside_by known n n' m m' faults.Source c = c
inside_by known n n' m m' faults.Sink c = c
inside_by known n n' m m' faults.TooLong c = c

pub inside_err : (o : Outside) (a : After) (f : WorkFault) → HasWorkCause {T = Carried} o.database o.base_faults a.base_faults o.shelf_faults a.shelf_faults (Err f) → IsNoFaultOfEnds f
inside_err o a f h = inside_by o.database o.base_faults a.base_faults o.shelf_faults a.shelf_faults f h.caused

spares_by : (o : Outside) (a : After) (f : WorkFault) → IsNoFaultOfEnds f → SparesDatabase o.database a.database f → SparesBy o (outside_after o a) f
spares_by o a faults.Disk i s = tt
spares_by o a (faults.Damaged file page) i s = tt
spares_by o a faults.Shelf i s = s
spares_by o a faults.Unlawful i s = s
spares_by o a faults.OutOfMemory i s = s
spares_by o a faults.Source i s = absurd i
spares_by o a faults.Sink i s = absurd i
spares_by o a faults.TooLong i s = absurd i

pub spares_err : (name : List ℕ) (here : At) (got out : List Frame) (o : Outside) (a : After) (f : WorkFault) → IsToWork (standing here got out) → HasWorkCause {T = Carried} o.database o.base_faults a.base_faults o.shelf_faults a.shelf_faults (Err f)
    → CarriesAt name here (span_of o a) o.files a.files (Err f) → SparesBy o (outside_after o a) f
spares_err name here got out o a f work h d = spares_by o a f (inside_err o a f h) (at_err name here o a f (is_working here got out work).holds d (λ x k. k.spares))

pub later_any : {T : Type 0} (o : Outside) (a : After) (r : Result T WorkFault) → HasWorkCause o.database o.base_faults a.base_faults o.shelf_faults a.shelf_faults r → Later o (outside_after o a)
later_any o a r h = record { base = h.later; shelf = h.shelf_later; source = omega arith; sink = omega arith; stalls = omega arith }
