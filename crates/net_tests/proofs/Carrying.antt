-- A change that any database takes, carried out as the work of the network.
use Rattle.std.proofs.Common.{◌≡◌, ◌≤◌, ◌⊎◌, inl, inr, ℕ, Bool, true, List, [], ◌∷◌, filter, Some, Result, Ok, Err, IsErrOf, arith, refl, sym, ap, subst, ◌∙◌}
use Rattle.std.proofs.lemmas.List.{append-nil}
use Rattle.std.proofs.KnownBytes.{Appends-nil}
use Rattle.std.proofs.lemmas.Option.{same_Some}
use Rattle.std.specs.declared.option.Option.{Option}
use Rattle.base_trait.proofs.Crashes.{leaves_as, leaves_more, still_stands}
use Rattle.base_trait.specs.Causes.{MayCome as BaseMayCome}
use Rattle.base_trait.specs.declared.fault.BaseFault.{BaseFault}
use Rattle.base_trait.specs.declared.fault.BaseFault.TheVariants as base_faults
use Rattle.calculus.specs.declared.change.DbChange.TheVariants.{Destroy}
use Rattle.calculus.specs.declared.query.RelKey.{RelKey}
use Rattle.base_trait.specs.Crashes.{LeavesBut, AllDenote}
use Rattle.calculus.specs.Change.{IsLawful, laid, names_what_is_there, adds_what_is_new, lists_once}
use Rattle.calculus.specs.Database.{Db}
use Rattle.calculus.specs.IsDatabase.{IsDatabase}
use Rattle.frame_codec.specs.Messages.{message_frames}
use Rattle.net_core.specs.Causes.{MayCome}
use Rattle.net_core.specs.Crashes.{IsForgotten, MayLeave, QuietWithout, StaysDurable, WorkLeaves}
use Rattle.net_core.specs.declared.fault.WorkFault.{WorkFault}
use Rattle.net_core.specs.declared.fault.WorkFault.TheVariants as faults
use Rattle.net_core.specs.Spares.{Counts, CountsOnlyBy, IsNoFaultOfEnds, SparesBy}
use Rattle.net_core.specs.Known.{FailedWork, IsBeforeOrAfter, Outside, known}
use Rattle.net_tests.specs.Carrying.{CarriedOut, MayComeOf, carrying, done_frame, no_change, of_base}
use Rattle.net_tests.specs.declared.carrier.Stand.{Stand}
use Rattle.net_tests.specs.declared.carrier.Stand.TheVariants.{Holds, Answers, Rests}
use Rattle.network_meaning.specs.Calls.{WorkDone}
use Rattle.network_meaning.specs.LocalSteps.{Want.work, says, Mode.idle4, Room as NetworkRoom}
use Rattle.network_meaning.specs.Network.{want}
use Rattle.network_meaning.specs.Sorts.{Message.said, Said.replied, Reply.done}
use Rattle.network_meaning.specs.Frames.{spell}
use Rattle.quel_network.specs.Quel.{quel}
use Rattle.quel_network.specs.Sorts.{User, quel_sorts}
use Rattle.quel_network.specs.Spelling.{payload_of}
use Rattle.quel_tree.specs.Changes.{change as change_codec}
use Rattle.quel_tree.specs.Message.{most_tree_levels}
use Rattle.tree_words.specs.Words.{list, number16}

-- ---- the change

all_kept : {X : Type 0} (p : X → Bool) → ((x : X) → p x ≡ true) → (xs : List X) → filter p xs ≡ xs
all_kept p h [] = refl
all_kept p h (x ∷ xs) = rw (h x) (ap (λ ys. x ∷ ys) (all_kept p h xs))

-- it leaves each database as it is
pub laid_same : (db : Db) → laid db no_change ≡ db
unfolding laid
laid_same db = λ i. record db {
  relations = all_kept (λ r. true) (λ r. refl) db.relations i;
  indexes = all_kept (λ x. true) (λ x. refl) db.indexes i;
  views = all_kept (λ v. true) (λ v. refl) db.views i;
  rules = all_kept (λ r. true) (λ r. refl) db.rules i;
  permits = all_kept (λ p. true) (λ p. refl) db.permits i;
}

pub any_takes : (db : Db) → IsDatabase db → IsLawful db no_change
unfolding names_what_is_there adds_what_is_new lists_once
any_takes db is = record { names_are_there = refl; additions_are_new = refl; nothing_is_listed_twice = refl; leaves_a_database = subst IsDatabase (sym (laid_same db)) is }

-- ---- its work

pub holds_it : (s : Stand) → want (carrying s) ≡ work → s ≡ Holds
holds_it Holds e = refl
holds_it Answers e = absurd (cc e)
holds_it Rests e = absurd (cc e)

done_frames : (user : User) → spell (quel user) (said (replied done) ∷ []) ≡ done_frame ∷ []
unfolding quel payload_of message_frames
done_frames user = refl

spelled : (change_codec most_tree_levels).Fits no_change
unfolding change_codec list number16
spelled = ((omega arith, omega arith), tt)

carried : (user : User) (o o' : Outside) → ((db : Db) → o.database ≡ Some db → IsDatabase db × (o'.database ≡ Some (laid db no_change))) → o'.files ≡ o.files → o'.script ≡ o.script → o'.output ≡ o.output →
    WorkDone (quel user) (carrying Holds) (carrying Answers) (known o) (known o')
unfolding quel
carried user o o' made files script output = record {
  act = says idle4 (said (replied done) ∷ []);
  is = ap (λ fs. record { mode = idle4; got_left = []; got_right = []; out_left = fs; out_right = [] }) (sym (done_frames user));
  shape = refl;
  fit = λ db shelf is_there known_files. (record { lawful = any_takes db (made db is_there).0; spelled = spelled }, refl);
  exact = λ room t.
      let after = made room.db t.db in
      record {
        room' = record { db = laid room.db no_change; shelf = room.shelf; script = room.script; out = room.out };
        known = record { db = after.1; shelf = files ∙ t.shelf; script = script ∙ t.script };
        wrote = ([], sym (append-nil room.out), rw output (Appends-nil o.output));
        works = (refl, refl);
      };
}

-- the outside, where only the database is another one
abbrev pub changed : Outside → Option Db → ℕ → ℕ → ℕ → Outside
changed o database count clock reads = record o { database = database; base_faults = count; clock = clock; reads = reads }

pub works_ok : (user : User) (s : Stand) (o : Outside) (db' schema' : Option Db) (count' clock' reads' : ℕ) (left left' : ℕ → Option Db → Type 0) (x : Unit {0}) → s ≡ Holds → ((db : Db) → o.database ≡ Some db → IsDatabase db) →
    CarriedOut o.database db' schema' o.base_faults count' o.clock clock' left left' (Ok x) → WorkDone (quel user) (carrying s) (carrying Answers) (known o) (known (changed o db' count' clock' reads'))
works_ok user s o db' schema' count' clock' reads' left left' x e is d =
    subst (λ (z : Stand). WorkDone (quel user) (carrying z) (carrying Answers) (known o) (known (changed o db' count' clock' reads'))) (sym e)
    (carried user o (changed o db' count' clock' reads') (λ db is_there. (is db is_there, d.done db is_there)) refl refl refl)

pub durable_ok : (o : Outside) (db' schema' : Option Db) (count' clock' reads' : ℕ) (left left' : ℕ → Option Db → Type 0) (x : Unit {0}) →
    CarriedOut o.database db' schema' o.base_faults count' o.clock clock' left left' (Ok x) → StaysDurable o (changed o db' count' clock' reads') left left'
durable_ok o db' schema' count' clock' reads' left left' x d db now is_there then stands = subst (λ (z : Db). AllDenote clock' left' z) (same_Some (laid db no_change) now (sym (d.done db is_there) ∙ then)) (d.durable db is_there)

pub crash_any : (user : User) (s : Stand) (o : Outside) (db' schema' : Option Db) (count' clock' reads' : ℕ) (left left' : ℕ → Option Db → Type 0) (result : Result (Unit {0}) WorkFault) → s ≡ Holds →
    CarriedOut o.database db' schema' o.base_faults count' o.clock clock' left left' result → WorkLeaves (quel user) (carrying s).mode o (changed o db' count' clock' reads') left left'
unfolding quel
crash_any user s o db' schema' count' clock' reads' left left' result e d room t =
    subst (λ (z : Stand). LeavesBut (MayLeave (quel user) (carrying z).mode room) o.clock clock' left left') (sym e)
    (leaves_as (λ x. x ≡ Some (laid room.db no_change)) (MayLeave (quel user) (carrying Holds).mode room) o.clock clock' left left'
    (λ x h. (says idle4 (said (replied done) ∷ []), record { db = laid room.db no_change; shelf = room.shelf; script = room.script; out = room.out }, (refl, refl), h)) (d.crash room.db t.db))

pub quiet_any : (s : Stand) (o o' : Outside) → s ≡ Holds → QuietWithout (carrying s) o o'
quiet_any s o o' e = subst (λ (z : Stand). QuietWithout (carrying z) o o') (sym e) (λ k without. absurd (cc without))

failed_by : (user : User) (o : Outside) (db' schema' : Option Db) (count' clock' reads' : ℕ) (left left' : ℕ → Option Db → Type 0) (f : WorkFault) →
    CarriedOut o.database db' schema' o.base_faults count' o.clock clock' left left' (Err f) → FailedWork (quel user) (carrying Holds).mode o (changed o db' count' clock' reads')
unfolding quel
failed_by user o db' schema' count' clock' reads' left left' f d = record {
  part = λ room t. record {
    front = [];
    begins = (_, refl);
    wrote = Appends-nil o.output;
    files = inl t.shelf;
    database = λ now then. by room now (d.failed room.db now t.db then);
  };
  files = λ files is_there. inl is_there;
}
  where
    by : (room : NetworkRoom quel_sorts) (now : Db) → (now ≡ room.db) ⊎ (now ≡ laid room.db no_change) → IsBeforeOrAfter (quel user) (carrying Holds).mode room now
    by room now (inl before) = inl before
    by room now (inr after) = inr (says idle4 (said (replied done) ∷ []), record { db = laid room.db no_change; shelf = room.shelf; script = room.script; out = room.out }, (refl, refl), after)

pub failed_err : (user : User) (s : Stand) (o : Outside) (db' schema' : Option Db) (count' clock' reads' : ℕ) (left left' : ℕ → Option Db → Type 0) (f : WorkFault) → s ≡ Holds →
    CarriedOut o.database db' schema' o.base_faults count' o.clock clock' left left' (Err f) → FailedWork (quel user) (carrying s).mode o (changed o db' count' clock' reads')
failed_err user s o db' schema' count' clock' reads' left left' f e d =
    subst (λ (z : Stand). FailedWork (quel user) (carrying z).mode o (changed o db' count' clock' reads')) (sym e) (failed_by user o db' schema' count' clock' reads' left left' f d)

-- ---- faults of a database

pub never_unlawful : {P : Type 0} (db : Option Db) (before now : ℕ) (f : WorkFault) → MayComeOf db before now f → IsErrOf {T = Unit {0}} (Err f) faults.Unlawful → P
never_unlawful db before now faults.Unlawful m e = absurd m
never_unlawful db before now faults.Disk m e = absurd (cc e)
never_unlawful db before now (faults.Damaged file page) m e = absurd (cc e)
never_unlawful db before now faults.OutOfMemory m e = absurd (cc e)
never_unlawful db before now faults.Source m e = absurd m
never_unlawful db before now faults.Sink m e = absurd m
never_unlawful db before now faults.Shelf m e = absurd m
never_unlawful db before now faults.TooLong m e = absurd m

pub inside_err : (db : Option Db) (before now : ℕ) (f : WorkFault) → MayComeOf db before now f → IsNoFaultOfEnds f
inside_err db before now faults.Unlawful m = tt
inside_err db before now faults.Disk m = tt
inside_err db before now (faults.Damaged file page) m = tt
inside_err db before now faults.OutOfMemory m = tt
inside_err db before now faults.Source m = m
inside_err db before now faults.Sink m = m
inside_err db before now faults.Shelf m = tt
inside_err db before now faults.TooLong m = m

pub cause_err : (heard : ℕ) (o : Outside) (db' : Option Db) (count' clock' reads' : ℕ) (f : WorkFault) → MayComeOf o.database o.base_faults count' f → MayCome heard o (changed o db' count' clock' reads') f
cause_err heard o db' count' clock' reads' faults.Disk m = m
cause_err heard o db' count' clock' reads' (faults.Damaged file page) m = m.0
cause_err heard o db' count' clock' reads' faults.OutOfMemory m = tt
cause_err heard o db' count' clock' reads' faults.Unlawful m = absurd m
cause_err heard o db' count' clock' reads' faults.Source m = absurd m
cause_err heard o db' count' clock' reads' faults.Sink m = absurd m
cause_err heard o db' count' clock' reads' faults.Shelf m = absurd m
cause_err heard o db' count' clock' reads' faults.TooLong m = absurd m

-- the counts of the outside, where only that of the base is another one
abbrev counts_with : Outside → ℕ → Counts
counts_with o count = record { base = count; shelf = o.shelf_faults; source = o.source_faults; sink = o.sink_faults; stalls = o.sink_stalls }

same_counts : (o : Outside) (count' : ℕ) → count' ≡ o.base_faults → counts_with o count' ≡ counts_with o o.base_faults
same_counts o count' e = ap (λ n. counts_with o n) e

pub counts_err : (o : Outside) (db' : Option Db) (count' clock' reads' : ℕ) (f : WorkFault) → MayComeOf o.database o.base_faults count' f → CountsOnlyBy o (changed o db' count' clock' reads') f
counts_err o db' count' clock' reads' faults.Disk m = refl
counts_err o db' count' clock' reads' (faults.Damaged file page) m = same_counts o count' m.1
counts_err o db' count' clock' reads' faults.OutOfMemory m = same_counts o count' m
counts_err o db' count' clock' reads' faults.Unlawful m = absurd m
counts_err o db' count' clock' reads' faults.Source m = absurd m
counts_err o db' count' clock' reads' faults.Sink m = absurd m
counts_err o db' count' clock' reads' faults.Shelf m = absurd m
counts_err o db' count' clock' reads' faults.TooLong m = absurd m

pub spares_err : (o : Outside) (db' : Option Db) (count' clock' reads' : ℕ) (f : WorkFault) → MayComeOf o.database o.base_faults count' f → (IsErrOf {T = Unit {0}} (Err f) faults.OutOfMemory → db' ≡ o.database) → SparesBy o (changed o db' count' clock' reads') f
spares_err o db' count' clock' reads' faults.Disk m k = tt
spares_err o db' count' clock' reads' (faults.Damaged file page) m k = tt
spares_err o db' count' clock' reads' faults.OutOfMemory m k = k refl
spares_err o db' count' clock' reads' faults.Unlawful m k = absurd m
spares_err o db' count' clock' reads' faults.Source m k = absurd m
spares_err o db' count' clock' reads' faults.Sink m k = absurd m
spares_err o db' count' clock' reads' faults.Shelf m k = absurd m
spares_err o db' count' clock' reads' faults.TooLong m k = absurd m

-- ---- carried out by a base

destroys : (rels : List RelKey) → rels ≡ [] → Destroy rels ≡ no_change
destroys rels e = ap Destroy e

pub takes : (rels : List RelKey) (db : Db) → rels ≡ [] → IsDatabase db → IsLawful db (Destroy rels)
takes rels db e is = subst (λ change. IsLawful db change) (sym (destroys rels e)) (any_takes db is)

pub carried_ok : (rels : List RelKey) (db mid now schema : Option Db) (n n' n'' k k' k'' : ℕ) (l l' l'' : ℕ → Option Db → Type 0) (x : Unit {0}) → rels ≡ [] →
    ((d : Db) → db ≡ Some d → mid ≡ Some (laid d (Destroy rels))) → ((d : Db) → db ≡ Some d → LeavesBut (λ o. o ≡ Some (laid d (Destroy rels))) k k' l l') → ((d : Db) → db ≡ Some d → AllDenote k' l' (laid d (Destroy rels))) →
    n' ≡ n → now ≡ mid → n'' ≡ n' → IsForgotten schema now → LeavesBut (λ o. ⊥) k' k'' l' l'' → ((t : ℕ) (o : Option Db) → t ≤ k'' → l'' k'' o → l'' t o) →
    CarriedOut db now schema n n'' k k'' l l'' (Ok x)
carried_ok rels db mid now schema n n' n'' k k' k'' l l' l'' x e known crash durable same kept faults forgotten asked counts = record {
  done = λ d is_there. kept ∙ known d is_there ∙ ap (λ change. Some (laid d change)) (destroys rels e);
  failed = λ d other is_there then. tt;
  no_memory = λ err. absurd (cc err);
  later = omega (arith, same, faults);
  counted = faults ∙ same;
  cause = tt;
  crash = λ d is_there. subst (λ change. LeavesBut (λ o. o ≡ Some (laid d change)) k k'' l l'') (destroys rels e)
      (leaves_more (λ o. o ≡ Some (laid d (Destroy rels))) (λ o. ⊥) k k' k'' l l' l'' (λ o never. absurd never) (crash d is_there) asked);
  durable = λ d is_there. subst (λ change. AllDenote k'' l'' (laid d change)) (destroys rels e) (still_stands k' k'' l' l'' (laid d (Destroy rels)) counts asked (durable d is_there));
  handed = forgotten;
}

may_come : (db : Option Db) (n n' : ℕ) (f : BaseFault) → BaseMayCome db n n' f → MayComeOf db n n' (of_base f)
may_come db n n' base_faults.Disk m = m
may_come db n n' (base_faults.Damaged file page) m = m
may_come db n n' base_faults.OutOfMemory m = m

memory_of : (f : BaseFault) → IsErrOf {T = Unit {0}} (Err (of_base f)) faults.OutOfMemory → f ≡ base_faults.OutOfMemory
memory_of base_faults.Disk e = absurd (cc e)
memory_of (base_faults.Damaged file page) e = absurd (cc e)
memory_of base_faults.OutOfMemory e = refl

pub carried_err : (rels : List RelKey) (db now schema : Option Db) (n n' k k' : ℕ) (l l' : ℕ → Option Db → Type 0) (f : BaseFault) (fault : WorkFault) → rels ≡ [] → fault ≡ of_base f →
    ((d other : Db) → db ≡ Some d → now ≡ Some other → (other ≡ d) ⊎ (other ≡ laid d (Destroy rels))) → ((d : Db) → db ≡ Some d → LeavesBut (λ o. o ≡ Some (laid d (Destroy rels))) k k' l l') →
    (IsErrOf {T = Unit {0}} (Err f) base_faults.OutOfMemory → now ≡ db) → n ≤ n' → BaseMayCome db n n' f → CarriedOut db now schema n n' k k' l l' (Err fault)
carried_err rels db now schema n n' k k' l l' f fault e is failed crash memory later may =
    subst (λ x. CarriedOut db now schema n n' k k' l l' (Err x)) (sym is) (record {
      done = λ d is_there. tt;
      failed = λ d other is_there then. subst (λ change. (other ≡ d) ⊎ (other ≡ laid d change)) (destroys rels e) (failed d other is_there then);
      no_memory = λ err. memory (ap (λ x. Err x) (memory_of f err));
      later = later;
      counted = tt;
      cause = may_come db n n' f may;
      crash = λ d is_there. subst (λ change. LeavesBut (λ o. o ≡ Some (laid d change)) k k' l l') (destroys rels e) (crash d is_there);
      durable = λ d is_there. tt;
      handed = tt;
    })
