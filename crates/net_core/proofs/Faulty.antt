-- Faults that come of one part or of one step, as those of the whole.
use Rattle.std.proofs.Common.{IsErrOf, IsOk, ◌≡◌, ◌==◌, ◌⊎◌, ◌+◌, ◌-◌, ◌^◌, ◌≤◌, ◌++◌, [], ◌∷◌, inl, inr, ℕ, Bool, true, false, List, Some, None, Result, Ok, Err, refl, sym, ap, subst, ◌∙◌, append_assoc, append-nil, length, length-append, arith}
use Rattle.std.specs.Prelude.{⊤}
use Rattle.std.proofs.lemmas.Grind.{common_steps}
use Rattle.std.specs.declared.option.Option.{Option}
use Rattle.calculus.specs.Database.{Db}
use Rattle.fault_io.specs.Causes.{Rose}
use Rattle.net_core.specs.Causes.{IsCaused, MayCome}
use Rattle.net_core.specs.declared.fault.WorkFault.{WorkFault}
use Rattle.net_core.specs.declared.fault.WorkFault.TheVariants as faults
use Rattle.net_core.specs.Reads.{CountsHeard, IsWhole, ReadsNothing, ReadsOn, ReadsScript, ReadsWhole, SeesEnd, Within}
use Rattle.net_core.specs.Spares.{Counts, CountsOnlyBy, IsInside, counts}
use Rattle.net_core.specs.Known.{KeepsDatabase, KeepsScript, Later, Outside}
use Rattle.network_meaning.specs.LocalSteps.{Mode}
use Rattle.quel_network.specs.Sorts.{quel_sorts}

-- ---- one part of those that read

pub may_come_more : (heard whole rest : ℕ) (before after : Outside) (fault : WorkFault) → whole ≡ heard + rest → MayCome heard before after fault → MayCome whole before after fault
may_come_more heard whole rest before after faults.Source e c = c
may_come_more heard whole rest before after faults.Sink e c = c
may_come_more heard whole rest before after faults.Disk e c = c
may_come_more heard whole rest before after (faults.Damaged file page) e c = c
may_come_more heard whole rest before after faults.Shelf e c = c
may_come_more heard whole rest before after faults.TooLong e c = λ script known. omega (arith, c script known)
may_come_more heard whole rest before after faults.Unlawful e c = tt
may_come_more heard whole rest before after faults.OutOfMemory e c = tt

pub caused_more : {T : Type 0} (heard whole rest : ℕ) (before after : Outside) (result : Result T WorkFault) → whole ≡ heard + rest → IsCaused heard before after result → IsCaused whole before after result
caused_more heard whole rest before after (Ok x) e c = tt
caused_more heard whole rest before after (Err fault) e c = may_come_more heard whole rest before after fault e c

nothing_more : (heard heard' whole whole' rest : ℕ) (before after : Outside) (failed : Type 0) → whole ≡ heard + rest → whole' ≡ heard' + rest → ReadsNothing heard heard' before after failed → ReadsNothing whole whole' before after failed
nothing_more heard heard' whole whole' rest before after failed e e' n = record { unread = (let same = n.unread in omega (arith, same, e, e')); script = n.script; fine = n.fine }

pub reads_more : (mode mode' : Mode quel_sorts) (heard heard' whole whole' rest : ℕ) (before after : Outside) (failed done : Type 0) → mode ≡ mode' → whole ≡ heard + rest → whole' ≡ heard' + rest → ReadsOn mode heard heard' before after failed done → ReadsOn mode' whole whole' before after failed done
reads_more mode mode' heard heard' whole whole' rest before after failed done m e e' k = record {
  line = λ script known. let (front, last, left, is, all, counted, free, one) = k.line script known in (front, last, left, is, all, omega (arith, counted, e, e'), free, one);
  broken = k.broken;
  given = let (n, counted, gave) = k.given in (n, omega (arith, counted, e, e'), gave);
  asks = asked k.asks;
  over = k.over;
}
  where
    asked : ReadsScript mode ⊎ ReadsNothing heard heard' before after failed → ReadsScript mode' ⊎ ReadsNothing whole whole' before after failed
    asked (inl s) = inl (subst ReadsScript m s)
    asked (inr n) = inr (nothing_more heard heard' whole whole' rest before after failed e e' n)

-- ---- one step behind others

pub later_same : (o : Outside) → Later o o
later_same o = record { base = omega arith; shelf = omega arith; source = omega arith; sink = omega arith; stalls = omega arith }

pub later_more : (a b c : Outside) → Later a b → Later b c → Later a c
later_more a b c f g = record {
  base = omega (arith, f.base, g.base);
  shelf = omega (arith, f.shelf, g.shelf);
  source = omega (arith, f.source, g.source);
  sink = omega (arith, f.sink, g.sink);
  stalls = omega (arith, f.stalls, g.stalls);
}

pub script_same : (heard heard' : ℕ) (o : Outside) → heard' ≡ heard → KeepsScript heard heard' o o
script_same heard heard' o e script known = ([], script, known, refl, omega (arith, e))

pub script_more : (h h' h'' : ℕ) (a b c : Outside) → KeepsScript h h' a b → KeepsScript h' h'' b c → KeepsScript h h'' a c
script_more h h' h'' a b c f g script known =
    let (xs, mid, is, all, counted) = f script known in
    let (ys, rest, is', all', counted') = g mid is in
    let sum = length-append xs ys in
    (xs ++ ys, rest, is', all ∙ ap (λ x. xs ++ x) all' ∙ sym (append_assoc xs ys rest), omega (arith, counted, counted', sum))

-- what one step reads
pub script_of : (mode : Mode quel_sorts) (h h' : ℕ) (before after : Outside) (failed done : Type 0) → ReadsOn mode h h' before after failed done → KeepsScript h h' before after
script_of mode h h' before after failed done k script known = let (front, last, rest, is, all, counted, free, one) = k.line script known in (front ++ last, rest, is, all, counted)

pub heard_same : (h h' given : ℕ) → h' ≡ h → CountsHeard h h' given given
heard_same h h' given e = (0, omega (arith, e), inl (omega arith))

pub heard_more : (h h' h'' a b c : ℕ) → CountsHeard h h' a b → CountsHeard h' h'' b c → CountsHeard h h'' a c
heard_more h h' h'' a b c (n, e, f) (m, e', g) = (n + m, omega (arith, e, e'), gave f g)
  where
    gave : (b ≡ a + n) ⊎ (2 ^ 64 - 1 ≤ b) → (c ≡ b + m) ⊎ (2 ^ 64 - 1 ≤ c) → (c ≡ a + (n + m)) ⊎ (2 ^ 64 - 1 ≤ c)
    gave (inl x) (inl y) = inl (omega (arith, x, y))
    gave (inr x) (inl y) = inr (omega (arith, x, y))
    gave x (inr y) = inr y

-- nothing was read, and the source is as it was
pub sees_nothing : (before after : Outside) (failed done : Type 0) → after.script ≡ before.script → after.source_ended ≡ before.source_ended → (failed → ⊥) → SeesEnd before after failed done
sees_nothing before after failed done same ended fine = record {
  stays = λ d e. ended ∙ e;
  whole = λ d. inl (λ script known. ([], script, same ∙ known, refl, inl refl));
  going = λ f. absurd (fine f);
}

pub reads_same : (mode : Mode quel_sorts) (h h' : ℕ) (o : Outside) (failed done : Type 0) → (failed → ⊥) → h' ≡ h → ReadsOn mode h h' o o failed done
reads_same mode h h' o failed done fine e = record {
  line = λ script known. ([], [], script, known, refl, omega (arith, e), refl, omega arith);
  broken = λ f script known. ([], script, known, refl, refl);
  given = heard_same h h' o.given e;
  asks = inr (record { unread = e; script = refl; fine = fine });
  over = sees_nothing o o failed done refl refl fine;
}

pub database_same : (o : Outside) → KeepsDatabase o o
database_same o db known = (db, known)

pub database_more : (a b c : Outside) → KeepsDatabase a b → KeepsDatabase b c → KeepsDatabase a c
database_more a b c f g db known = let first = f db known in g first.0 first.1

none_before : (o o' : Option Db) → ((db : Db) → o ≡ Some db → (later : Db) × (o' ≡ Some later)) → o' ≡ None → o ≡ None
none_before None o' k e = refl
none_before (Some db) o' k e = let kept = k db refl in let there : o' ≡ Some kept.0 = kept.1 in cc

rose_from : (a b c : ℕ) → a ≤ b → Rose b c → Rose a c
rose_from a b c le r = omega arith

pub may_come_from : (heard heard' : ℕ) (old mid after : Outside) (fault : WorkFault) → Later old mid → KeepsScript heard heard' old mid → KeepsDatabase old mid → MayCome heard' mid after fault → MayCome heard old after fault
may_come_from heard heard' old mid after faults.Source l s d c = rose_from _ _ _ l.source c
may_come_from heard heard' old mid after faults.Sink l s d (inl c) = inl (rose_from _ _ _ l.sink c)
may_come_from heard heard' old mid after faults.Sink l s d (inr c) = inr (rose_from _ _ _ l.stalls c)
may_come_from heard heard' old mid after faults.Disk l s d c = rose_from _ _ _ l.base c
may_come_from heard heard' old mid after (faults.Damaged file page) l s d c = none_before old.database mid.database d c
may_come_from heard heard' old mid after faults.Shelf l s d c = rose_from _ _ _ l.shelf c
may_come_from heard heard' old mid after faults.TooLong l s d c = λ script known. let (bytes, rest, is, all, counted) = s script known in let sum = ap length all ∙ length-append bytes rest in omega (arith, counted, sum, c rest is)
may_come_from heard heard' old mid after faults.Unlawful l s d c = tt
may_come_from heard heard' old mid after faults.OutOfMemory l s d c = tt

-- ---- what faults leave alone

pub counts_from : (old mid after : Outside) (fault : WorkFault) → counts mid ≡ counts old → CountsOnlyBy mid after fault → CountsOnlyBy old after fault
counts_from old mid after faults.Source e c = c ∙ ap (λ (k : Counts). record { base = k.base; shelf = k.shelf; source = after.source_faults; sink = k.sink; stalls = k.stalls }) e
counts_from old mid after faults.Sink e c = c ∙ ap (λ (k : Counts). record { base = k.base; shelf = k.shelf; source = k.source; sink = after.sink_faults; stalls = after.sink_stalls }) e
counts_from old mid after faults.Shelf e c = c ∙ ap (λ (k : Counts). record { base = k.base; shelf = after.shelf_faults; source = k.source; sink = k.sink; stalls = k.stalls }) e
counts_from old mid after faults.Disk e c = c ∙ ap (λ (k : Counts). record { base = after.base_faults; shelf = k.shelf; source = k.source; sink = k.sink; stalls = k.stalls }) e
counts_from old mid after (faults.Damaged file page) e c = c ∙ e
counts_from old mid after faults.TooLong e c = c ∙ e
counts_from old mid after faults.Unlawful e c = c ∙ e
counts_from old mid after faults.OutOfMemory e c = c ∙ e

-- a stage has one number
pub apart_numbers : (p n m : ℕ) → p ≡ n → p ≡ m → (n == m) ≡ false → ⊥
apart_numbers p n m e f never = let same : n ≡ m = sym e ∙ f in let is : (n == m) ≡ true = rw same (grind (arith, common_steps)) in cc

-- where no more is read, a fault that isn't of the script's length
pub within_apart : {T : Type 0} (one : ℕ) (result : Result T WorkFault) → IsInside result → Within one one result
within_apart one (Ok x) h le = le
within_apart one (Err faults.Source) h le = absurd h
within_apart one (Err faults.Sink) h le = absurd h
within_apart one (Err faults.TooLong) h le = absurd h
within_apart one (Err faults.Disk) h le = le
within_apart one (Err (faults.Damaged file page)) h le = le
within_apart one (Err faults.Shelf) h le = le
within_apart one (Err faults.Unlawful) h le = le
within_apart one (Err faults.OutOfMemory) h le = le

-- ---- what the author of a stage owes that reads nothing

-- the script, the count and the end of the source are as they were, and no fault is the source's
pub reads_nothing : (mode : Mode quel_sorts) (h : ℕ) (before after : Outside) (failed done : Type 0) → after.script ≡ before.script → after.given ≡ before.given → after.source_ended ≡ before.source_ended → (failed → ⊥) → ReadsOn mode h h before after failed done
reads_nothing mode h before after failed done same given ended fine = record {
  line = λ script known. ([], [], script, same ∙ known, refl, omega arith, refl, omega arith);
  broken = λ f script known. ([], script, same ∙ known, refl, refl);
  given = (0, omega arith, inl (omega (arith, given)));
  asks = inr (record { unread = refl; script = same; fine = fine });
  over = sees_nothing before after failed done same ended fine;
}

-- a result whose fault is none of the source, the sink or the script's length is no fault of the source
pub no_source : {T : Type 0} (result : Result T WorkFault) → IsInside result → IsErrOf result faults.Source → ⊥
no_source (Ok x) inside is = cc is
no_source (Err faults.Source) inside is = inside
no_source (Err faults.Sink) inside is = inside
no_source (Err faults.TooLong) inside is = inside
no_source (Err faults.Disk) inside is = cc is
no_source (Err (faults.Damaged file page)) inside is = cc is
no_source (Err faults.Shelf) inside is = cc is
no_source (Err faults.Unlawful) inside is = cc is
no_source (Err faults.OutOfMemory) inside is = cc is

-- ---- whole lines

pub whole_behind : (xs ys : List ℕ) → IsWhole xs → IsWhole ys → IsWhole (xs ++ ys)
whole_behind xs ys w (inl e) = subst IsWhole (sym (ap (λ (y : List ℕ). xs ++ y) e ∙ append-nil xs)) w
whole_behind xs ys w (inr (front, e)) = inr (xs ++ front, ap (λ (y : List ℕ). xs ++ y) e ∙ sym (append_assoc xs front (10 ∷ [])))

pub whole_more : (a b c : Option (List ℕ)) → ReadsWhole a b → ReadsWhole b c → ReadsWhole a c
whole_more a b c f g script known =
    let (xs, mid, is, all, w) = f script known in
    let (ys, rest, is', all', w') = g mid is in
    (xs ++ ys, rest, is', all ∙ ap (λ x. xs ++ x) all' ∙ sym (append_assoc xs ys rest), whole_behind xs ys w w')

pub whole_same : (a : Option (List ℕ)) → ReadsWhole a a
whole_same a script known = ([], script, known, refl, inl refl)

-- the end of the source, behind steps that came to their end
pub sees_more : (a b c : Outside) (failed done first : Type 0) → first → SeesEnd a b ⊥ first → SeesEnd b c failed done → SeesEnd a c failed done
sees_more a b c failed done first y f g = record {
  stays = λ d e. g.stays d (f.stays y e);
  whole = λ d. joined d (f.whole y) (g.whole d);
  going = λ x. earlier (a.source_ended) refl (g.going x);
}
  where
    joined : done → ReadsWhole a.script b.script ⊎ (b.source_ended ≡ true) → ReadsWhole b.script c.script ⊎ (c.source_ended ≡ true) → ReadsWhole a.script c.script ⊎ (c.source_ended ≡ true)
    joined d (inr e) w = inr (g.stays d e)
    joined d (inl w) (inl v) = inl (whole_more a.script b.script c.script w v)
    joined d (inl w) (inr e) = inr e

    earlier : (was : Bool) → a.source_ended ≡ was → b.source_ended ≡ false → a.source_ended ≡ false
    earlier false is e = is
    earlier true is e = absurd (let still = f.stays y is in cc (still, e))

-- the end of the source, where the last step failed
pub sees_failed : {T U : Type 0} (a b c : Outside) (fault : WorkFault) → SeesEnd a b ⊥ ⊤ → SeesEnd b c (IsErrOf {T = T} (Err fault) faults.Source) (IsOk {T = T} (Err fault)) → SeesEnd a c (IsErrOf {T = U} (Err fault) faults.Source) (IsOk {T = U} (Err fault))
sees_failed {T} {U} a b c fault f g = record {
  stays = λ d. absurd (cc d);
  whole = λ d. absurd (cc d);
  going = λ e. (sees_more a b c (IsErrOf {T = T} (Err fault) faults.Source) (IsOk {T = T} (Err fault)) ⊤ tt f g).going (source_of e);
}
  where
    source_of : IsErrOf {T = U} (Err fault) faults.Source → IsErrOf {T = T} (Err fault) faults.Source
    source_of e = let is : fault ≡ faults.Source = cc e in ap (λ (x : WorkFault). Err x) is

-- whole lines were read up to a place where the source hadn't ended
pub whole_unended : (a b : Outside) (failed done : Type 0) → done → SeesEnd a b failed done → b.source_ended ≡ false → ReadsWhole a.script b.script
whole_unended a b failed done y s e = by (s.whole y)
  where
    by : ReadsWhole a.script b.script ⊎ (b.source_ended ≡ true) → ReadsWhole a.script b.script
    by (inl w) = w
    by (inr is) = absurd (cc (is, e))

-- the script isn't too long
pub within_nothing : {T : Type 0} (one : ℕ) (result : Result T WorkFault) → (IsErrOf result faults.TooLong → ⊥) → Within one one result
within_nothing one (Ok x) h le = le
within_nothing one (Err faults.TooLong) h le = absurd (h refl)
within_nothing one (Err faults.Source) h le = le
within_nothing one (Err faults.Sink) h le = le
within_nothing one (Err faults.Disk) h le = le
within_nothing one (Err (faults.Damaged file page)) h le = le
within_nothing one (Err faults.Shelf) h le = le
within_nothing one (Err faults.Unlawful) h le = le
within_nothing one (Err faults.OutOfMemory) h le = le
