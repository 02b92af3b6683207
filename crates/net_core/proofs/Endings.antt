-- A run that has ended, and what is known of it to the left.
use Rattle.std.proofs.Common.{◌≡◌, ◌⊎◌, refl, sym, ap, subst, ◌∙◌, ℕ, Bool, true, false, List, [], ◌∷◌, ◌++◌, append-nil, arith, inl, inr, Ok, Err, if◌then◌else◌}
use Rattle.std.specs.Prelude.{◌==◌, Contains}
use Rattle.std.proofs.lemmas.Cmp.{eq_by_cmp_equiv, nat_cmp_total}
use Rattle.std.proofs.lemmas.Map.Views.{list_any-from_Contains}
use Rattle.calculus.specs.Database.{Db}
use Rattle.std.specs.declared.option.Option.{Option}
use Rattle.std.specs.Io.KnownBytes.{Appends}
use Rattle.std.proofs.KnownBytes.{Appends-trans}
use Rattle.fault_io.specs.Known.{GrewBy, IsFront}
use Rattle.frame_codec.specs.Frames.{frames_bytes}
use Rattle.net_core.specs.declared.fault.WorkFault.{WorkFault}
use Rattle.net_core.specs.declared.fault.WorkFault.TheVariants as faults
use Rattle.net_core.specs.Spares.{IsNoFaultOfEnds}
use Rattle.net_core.specs.Known.{Outside}
use Rattle.network_meaning.specs.Network.{LocalState}
use Rattle.quel_network.specs.Quel.{quel}
use Rattle.quel_network.specs.Sorts.{User, quel_sorts}
use Rattle.net_core.specs.declared.loop_fault.LoopFault.{LoopFault}
use Rattle.net_core.specs.declared.loop_fault.LoopFault.TheVariants as fault
use Rattle.net_core.specs.LoopFaults.{fault_bytes, status_of, telling, told_statuses, work_status}
use Rattle.net_core.specs.Moves.{At, LocalRun, Move, given_left}
use Rattle.net_core.specs.Sides.{Faltered, Outlet, OutletLater, Sides, Wrote}
use Rattle.net_core.specs.LoopSteps.{RanWhole}
use Rattle.net_core.specs.WholeLoop.{Ending, HowEnded, IsLoopInside, LoopDone}
use Rattle.net_core.proofs.Going.{front_behind, rose_earlier}
use Rattle.net_core.proofs.TakingSteps.{ending}

-- ---- an end without a fault

pub done_ok : (serves : User → Type 0) (place heard : ℕ) (s s' : LocalState quel_sorts) (schema schema' : Option Db) (old new : Outside) (before after : Sides) (left left' : ℕ → Option Db → Type 0) (x : Unit {0}) → RanWhole serves (record { state = s; outside = old; schema = schema }) heard s' schema' old new before after left left' (Ok x) →
    LoopDone serves place heard s s' schema schema' old new before after left left' (Ok x)
done_ok serves place heard s s' schema schema' old new before after left left' x w = let r = w.ran in record {
  moves = r.moves;
  end = r.end;
  left_read = r.left_read;
  left_unread = r.left_unread;
  right_read = r.right_read;
  right_unread = r.right_unread;
  runs = λ user y. subst (λ (ms : List Move). LocalRun (quel user) ms (record { state = s; outside = old; schema = schema }) r.end) (sym r.is) (r.runs user y);
  left = r.left;
  right = r.right;
  plain = r.plain;
  left_wrote = subst (Wrote before.left.out after.left.out) (sym (append-nil (frames_bytes (given_left r.moves)))) r.left_wrote;
  right_wrote = r.right_wrote;
  left_later = r.left_later;
  right_later = r.right_later;
  all = r.all;
  room = r.room;
  known = w.known;
  crash = w.crash;
  ended = r.ended;
}

-- ---- what is known behind all frames

-- counts rise on
faltered_more : (b m a : Outlet) → OutletLater b m → Faltered m a → Faltered b a
faltered_more b m a l (inl r) = inl (rose_earlier b.faults m.faults a.faults l.faults r)
faltered_more b m a l (inr r) = inr (rose_earlier b.stalls m.stalls a.stalls l.stalls r)

faltered_on : (b m a : Outlet) → OutletLater m a → Faltered b m → Faltered b a
faltered_on b m a l (inl r) = inl (let k = l.faults in omega (arith, r, k))
faltered_on b m a l (inr r) = inr (let k = l.stalls in omega (arith, r, k))

pub later_both : (b m a : Outlet) → OutletLater b m → OutletLater m a → OutletLater b a
later_both b m a f g = record { faults = let x = f.faults in let y = g.faults in omega (arith, x, y); stalls = let x = f.stalls in let y = g.stalls in omega (arith, x, y) }

all_behind : (b m a : Outlet) (all tail : List ℕ) → OutletLater b m → Appends b.written m.written all → Appends m.written a.written tail ⊎ Faltered m a → Appends b.written a.written (all ++ tail) ⊎ Faltered b a
all_behind b m a all tail l w (inl t) = inl (Appends-trans b.written m.written a.written all tail w t)
all_behind b m a all tail l w (inr f) = inr (faltered_more b m a l f)

-- what is known is written behind all frames
told_behind : (b m a : Outlet) (all tail : List ℕ) → OutletLater b m → Appends b.written m.written all → Wrote m a tail → Wrote b a (all ++ tail)
told_behind b m a all tail l w t = record { front = front_behind b.written m.written a.written all tail (all ++ tail) w refl t.front; all = all_behind b m a all tail l w t.all }

no_front : (front rest : List ℕ) → [] ≡ front ++ rest → front ≡ []
no_front [] rest e = refl
no_front (x ∷ front) rest e = absurd (cc e)

nothing_written : (m a : Option (List ℕ)) → GrewBy m a (λ more. IsFront more []) → Appends m a []
nothing_written m a (front, w, (rest, e)) = subst (Appends m a) (no_front front rest e) w

front_on : (b m a : Option (List ℕ)) (bytes : List ℕ) → GrewBy b m (λ more. IsFront more bytes) → Appends m a [] → GrewBy b a (λ more. IsFront more bytes)
front_on b m a bytes (front, w, rest) t = (front, subst (Appends b a) (append-nil front) (Appends-trans b m a front [] w t), rest)

all_on : (b m a : Outlet) (bytes : List ℕ) → OutletLater b m → OutletLater m a → Appends m.written a.written [] → Appends b.written m.written bytes ⊎ Faltered b m → Appends b.written a.written bytes ⊎ Faltered b a
all_on b m a bytes l k t (inl w) = inl (subst (Appends b.written a.written) (append-nil bytes) (Appends-trans b.written m.written a.written bytes [] w t))
all_on b m a bytes l k t (inr f) = inr (faltered_on b m a k f)

-- nothing is known
none_behind : (b m a : Outlet) (bytes tail : List ℕ) → OutletLater b m → OutletLater m a → Wrote b m bytes → tail ≡ [] → Wrote m a tail → Wrote b a (bytes ++ tail)
none_behind b m a bytes tail l k w e t =
    let same : GrewBy m.written a.written (λ more. IsFront more []) = subst (λ (x : List ℕ). GrewBy m.written a.written (λ more. IsFront more x)) e t.front in
    let still : Appends m.written a.written [] = nothing_written m.written a.written same in
    subst (Wrote b a) (sym (ap (λ (x : List ℕ). bytes ++ x) e ∙ append-nil bytes)) (record { front = front_on b.written m.written a.written bytes w.front still; all = all_on b m a bytes l k still w.all })

quiet_by : (b : Bool) → (if b then [] else telling 4) ≡ []
quiet_by true = refl
quiet_by false = refl

left_told : (n : ℕ) (f : LoopFault) (b m a : Outlet) (bytes : List ℕ) → OutletLater b m → OutletLater m a → Wrote b m bytes → ((f ≡ fault.LeftWrite → ⊥) → Appends b.written m.written bytes) → Wrote m a (fault_bytes n (Err f)) →
    Wrote b a (bytes ++ fault_bytes n (Err f))
left_told n fault.LeftWrite b m a bytes l k w all t = none_behind b m a bytes (fault_bytes n (Err fault.LeftWrite)) l k w (quiet_by (n == 1)) t
left_told n (fault.Work f) b m a bytes l k w all t = told_behind b m a bytes (fault_bytes n (Err (fault.Work f))) l (all (λ e. cc)) t
left_told n fault.LeftRead b m a bytes l k w all t = told_behind b m a bytes (fault_bytes n (Err fault.LeftRead)) l (all (λ e. cc)) t
left_told n fault.Right b m a bytes l k w all t = told_behind b m a bytes (fault_bytes n (Err fault.Right)) l (all (λ e. cc)) t
left_told n fault.EndedEarly b m a bytes l k w all t = told_behind b m a bytes (fault_bytes n (Err fault.EndedEarly)) l (all (λ e. cc)) t
left_told n fault.Spent b m a bytes l k w all t = told_behind b m a bytes (fault_bytes n (Err fault.Spent)) l (all (λ e. cc)) t
left_told n (fault.BadFrame at) b m a bytes l k w all t = told_behind b m a bytes (fault_bytes n (Err (fault.BadFrame at))) l (all (λ e. cc)) t
left_told n (fault.Told status) b m a bytes l k w all t = told_behind b m a bytes (fault_bytes n (Err (fault.Told status))) l (all (λ e. cc)) t
left_told n fault.OutOfMemory b m a bytes l k w all t = told_behind b m a bytes (fault_bytes n (Err fault.OutOfMemory)) l (all (λ e. cc)) t

-- ---- an end by a fault

-- both sides, where something was told to the left
abbrev pub told_left : Sides → Outlet → Sides
told_left mid out = record { left = record { left = mid.left.left; faults = mid.left.faults; out = out }; right = mid.right }

how_told : (serves : User → Type 0) (heard : ℕ) (s' : LocalState quel_sorts) (old new : Outside) (before mid : Sides) (out : Outlet) (e : Ending) (f : LoopFault) → OutletLater mid.left.out out →
    HowEnded serves heard s' old new before mid e (Err f) → HowEnded serves heard s' old new before (told_left mid out) e (Err f)
how_told serves heard s' old new before mid out e (fault.Work f) l h = h
how_told serves heard s' old new before mid out e fault.LeftRead l h = h
how_told serves heard s' old new before mid out e fault.LeftWrite l h = faltered_on before.left.out mid.left.out out l h
how_told serves heard s' old new before mid out e fault.Right l h = h
how_told serves heard s' old new before mid out e fault.EndedEarly l h = h
how_told serves heard s' old new before mid out e fault.Spent l h = h
how_told serves heard s' old new before mid out e (fault.BadFrame at) l h = h
how_told serves heard s' old new before mid out e (fault.Told status) l h = h
how_told serves heard s' old new before mid out e fault.OutOfMemory l h = tt

pub done_err : (serves : User → Type 0) (place heard : ℕ) (s s' : LocalState quel_sorts) (schema schema' : Option Db) (old new : Outside) (before mid : Sides) (left left' : ℕ → Option Db → Type 0) (out : Outlet) (f : LoopFault) → RanWhole serves (record { state = s; outside = old; schema = schema }) heard s' schema' old new before mid left left' (Err f) →
    Wrote mid.left.out out (fault_bytes place (Err f)) → OutletLater mid.left.out out → LoopDone serves place heard s s' schema schema' old new before (told_left mid out) left left' (Err f)
done_err serves place heard s s' schema schema' old new before mid left left' out f w t k = let r = w.ran in record {
  moves = r.moves;
  end = r.end;
  left_read = r.left_read;
  left_unread = r.left_unread;
  right_read = r.right_read;
  right_unread = r.right_unread;
  runs = λ user y. subst (λ (ms : List Move). LocalRun (quel user) ms (record { state = s; outside = old; schema = schema }) r.end) (sym r.is) (r.runs user y);
  left = record { heard = r.left.heard; frames = r.left.frames; needed = r.left.needed };
  right = r.right;
  plain = r.plain;
  left_wrote = left_told place f before.left.out mid.left.out out (frames_bytes (given_left r.moves)) r.left_later.out k r.left_wrote (λ ne. r.left_all (λ e. ne cc)) t;
  right_wrote = r.right_wrote;
  left_later = record { faults = r.left_later.faults; out = later_both before.left.out mid.left.out out r.left_later.out k };
  right_later = r.right_later;
  all = tt;
  room = r.room;
  known = w.known;
  crash = w.crash;
  ended = how_told serves heard s' old new before mid out (ending r.moves r.end r.left_read r.left_unread mid.left.left r.right_read r.right_unread mid.right.left) f k r.ended;
}

-- ---- the status

seven : Contains told_statuses 7 → ⊥
seven c = let found = list_any-from_Contains (eq_by_cmp_equiv nat_cmp_total) 7 told_statuses c in cc found

work_seven : (f : WorkFault) → IsNoFaultOfEnds f → work_status f ≡ 7 → ⊥
work_seven faults.Source n e = n
work_seven faults.Sink n e = n
work_seven faults.TooLong n e = n
work_seven faults.Disk n e = omega (arith, e)
work_seven (faults.Damaged file page) n e = omega (arith, e)
work_seven faults.Shelf n e = omega (arith, e)
work_seven faults.Unlawful n e = omega (arith, e)
work_seven faults.OutOfMemory n e = omega (arith, e)

-- where no work failed by the source, the sink or the script's length, no script is too long
no_seven : (serves : User → Type 0) (heard : ℕ) (s' : LocalState quel_sorts) (old new : Outside) (before after : Sides) (e : Ending) (f : LoopFault) → IsLoopInside {T = Unit {0}} (Err f) → HowEnded serves heard s' old new before after e (Err f) → status_of f ≡ 7 → ⊥
no_seven serves heard s' old new before after e (fault.Work f) n h is = work_seven f n is
no_seven serves heard s' old new before after e fault.LeftRead n h is = omega (arith, is)
no_seven serves heard s' old new before after e fault.LeftWrite n h is = omega (arith, is)
no_seven serves heard s' old new before after e fault.Right n h is = omega (arith, is)
no_seven serves heard s' old new before after e fault.EndedEarly n h is = omega (arith, is)
no_seven serves heard s' old new before after e fault.Spent n h is = omega (arith, is)
no_seven serves heard s' old new before after e (fault.BadFrame at) n h is = omega (arith, is)
no_seven serves heard s' old new before after e (fault.Told status) n h is = seven (subst (λ (x : ℕ). Contains told_statuses x) is h.1.2)
no_seven serves heard s' old new before after e fault.OutOfMemory n h is = omega (arith, is)

pub ran_seven : (serves : User → Type 0) (start : At) (heard : ℕ) (s' : LocalState quel_sorts) (schema' : Option Db) (old new : Outside) (before after : Sides) (left left' : ℕ → Option Db → Type 0) (f : LoopFault) →
    RanWhole serves start heard s' schema' old new before after left left' (Err f) → IsLoopInside {T = Unit {0}} (Err f) → status_of f ≡ 7 → ⊥
ran_seven serves start heard s' schema' old new before after left left' f w n is =
    let r = w.ran in
    no_seven serves heard s' old new before after (ending r.moves r.end r.left_read r.left_unread after.left.left r.right_read r.right_unread after.right.left) f n r.ended is
