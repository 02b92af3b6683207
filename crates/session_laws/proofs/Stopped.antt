-- What a run from the start on has printed that stopped by a fault.
use Rattle.std.proofs.Common.{◌≡◌, inl, inr, refl, sym, ap, subst, ◌∙◌, ℕ, ◌+◌, ◌≤◌, true, List, [], ◌∷◌, ◌++◌, Some, append_assoc, append-nil, arith, length, length-append, drop}
use Rattle.std.proofs.KnownBytes.{Appends-nil, Appends-trans}
use Rattle.std.proofs.Math.Seq.{drop-append_seam}
use Rattle.std.proofs.lemmas.List.{append_cancel_left, append_cancel_right}
use Rattle.std.specs.Io.KnownBytes.{Appends}
use Rattle.std.specs.List.{list_all}
use Rattle.std.specs.declared.option.Option.{Option}
use Rattle.network_meaning.proofs.Ends.{start_orderly}
use Rattle.network_meaning.proofs.Runs.{runs_keeps}
use Rattle.network_meaning.specs.Calls.{Known, Knows, KeptNow, RunsTurns, Seen, Shape, join, stage_number}
use Rattle.network_meaning.specs.LocalSteps.{Mode, Mode.reading, Mode.waiting, Mode.printing, Mode.idle2, Mode.parsing, Mode.passing2, Mode.idle3, Mode.working3, Mode.passing3, Mode.idle4, Mode.working4, Mode.ended, Room}
use Rattle.network_meaning.specs.MessageNetwork.{StageNumber, StageNumber.first, StageNumber.second, StageNumber.third, StageNumber.fourth}
use Rattle.network_meaning.specs.Network.{LocalState, between}
use Rattle.quel_meaning.specs.Lines.{is_no_newline}
use Rattle.quel_meaning.specs.Session.{Session, output}
use Rattle.quel_network.specs.Laws.{quel_laws}
use Rattle.quel_network.specs.Quel.{quel}
use Rattle.quel_network.specs.Sorts.{Monitor, User, first_monitor, quel_sorts}
use Rattle.net_core.specs.declared.fault.WorkFault.TheVariants as faults
use Rattle.net_core.specs.declared.fault.WorkFault.{WorkFault}
use Rattle.session_laws.proofs.Fronts.{heard_exactly, heard_of}
use Rattle.session_laws.proofs.Reached.{AtScript, Reached, at_script, first_reads, is_orderly, up_from, up_still}
use Rattle.net_core.specs.Known.{FailedStep, KeepsScript, Outside, known}
use Rattle.net_core.specs.Reads.{IsWhole, NoLineOpen, ReadsScript}
use Rattle.net_core.specs.Spares.{IsUnwritten}
use Rattle.net_core.specs.Whole.{StopsAt, seen, start_shape, state_at}
use Rattle.session_laws.proofs.Texts.{but_last, free_front}
use Rattle.session_laws.specs.Heard.{BrokenOff, IsBrokenOff, IsPartly, KeptUp, within}
use Rattle.session_laws.proofs.Printed.{kept_up, partly, started}

-- ---- a front was written

pub stop_partly : (user : User) (capacity : ℕ) (turns numbers : List ℕ) (heard : ℕ) (r : Room quel_sorts) (old after : Outside) (fault : WorkFault) → Knows (known old) r → StopsAt (quel user) capacity turns numbers heard (seen start_shape old) after fault → IsPartly user r old.output after.output
stop_partly user capacity turns numbers heard r old after fault t s =
    let kept : KeptNow (quel user) r (seen start_shape old) s.before = runs_keeps (quel user) (quel_laws user) capacity s.made (seen start_shape old) s.before s.runs r t (start_orderly (quel user) first_monitor [] r) in
    let (xs, is, grew) = kept.wrote in
    let (ys, grew', begins) = s.wrote kept.room kept.known kept.orderly in
    partly user r old.output after.output (xs ++ ys) (Appends-trans old.output s.before.known.out after.output xs ys grew grew')
    (begins.0, sym kept.same ∙ begins.1 ∙ ap (λ (x : List ℕ). (x ++ ys) ++ begins.0) is ∙ ap (λ (x : List ℕ). x ++ begins.0) (append_assoc r.out xs ys))

-- ---- where a turn fails

-- the room in front of the step that failed
record InFront (user : User) (r : Room quel_sorts) (old outside : Outside) (n : Shape quel_sorts) : Type 0 where
  pub room : Room quel_sorts
  pub known : Knows (known outside) room
  pub bytes : List ℕ
  pub is : room.out ≡ r.out ++ bytes
  pub grew : Appends old.output outside.output bytes
  pub reached : Reached user r n room

in_front : (user : User) (capacity : ℕ) (turns : List ℕ) (r : Room quel_sorts) (old outside : Outside) (before : Seen quel_sorts) → Knows (known old) r → RunsTurns (quel user) capacity turns (seen start_shape old) before → before.known ≡ known outside → InFront user r old outside before.shape
in_front user capacity turns r old outside before t runs e =
    let to = started user capacity turns r old before t runs in
    let (bytes, is, grew) = to.wrote in
    record {
      room = to.room;
      known = subst (λ (k : Known quel_sorts). Knows k to.room) e to.known;
      bytes = bytes;
      is = is;
      grew = subst (λ (k : Known quel_sorts). Appends old.output k.out bytes) e grew;
      reached = to.reached;
    }

-- what work that failed has written
written_by : (user : User) (s : LocalState quel_sorts) (outside after : Outside) (room : Room quel_sorts) → Knows (known outside) room → FailedStep (quel user) s outside after → (more : List ℕ) × Appends outside.output after.output more
written_by user s outside after room t (inl (w, f)) = let part = f.part room t in (part.front, part.wrote)
written_by user s outside after room t (inr e) = ([], rw e (Appends-nil outside.output))

-- it is the monitor that reads
script_mode : (mode : Mode quel_sorts) → ReadsScript mode → (m : Monitor) × (mode ≡ reading m) × (m.parts ≡ []) × NoLineOpen m.files
script_mode (reading m) h = (m, refl, h.0, h.1)
script_mode (waiting m o) h = absurd h
script_mode (printing m o x) h = absurd h
script_mode (idle2 ranges) h = absurd h
script_mode (parsing ranges b) h = absurd h
script_mode (passing2 ranges line b) h = absurd h
script_mode idle3 h = absurd h
script_mode (working3 t) h = absurd h
script_mode passing3 h = absurd h
script_mode idle4 h = absurd h
script_mode (working4 x) h = absurd h
script_mode ended h = absurd h

stage_is : (k : StageNumber) (n : Shape quel_sorts) (room : Room quel_sorts) → (between (join n room) k).stage ≡ state_at n k
stage_is first n room = refl
stage_is second n room = refl
stage_is third n room = refl
stage_is fourth n room = refl

at_line : (user : User) (r room : Room quel_sorts) (n : Shape quel_sorts) (k : StageNumber) → Reached user r n room → ReadsScript (state_at n k).mode → AtScript user r room
at_line user r room n k reached reads =
    let (m, mode, parts, unopened) = script_mode (state_at n k).mode reads in
    at_script user r room n m reached (first_reads user n room k m (is_orderly user r room n reached) (ap (λ (s : LocalState quel_sorts). s.mode) (stage_is k n room) ∙ mode)) parts unopened

pub stop_keeps_up : (user : User) (capacity : ℕ) (turns numbers : List ℕ) (heard : ℕ) (r : Room quel_sorts) (old after : Outside) (fault : WorkFault) → Knows (known old) r → StopsAt (quel user) capacity turns numbers heard (seen start_shape old) after fault
    → KeptUp user r after.script old.output after.output
stop_keeps_up user capacity turns numbers heard r old after fault t s =
    let f = in_front user capacity s.made r old s.outside s.before t s.runs s.knows in
    let (more, wrote) = written_by user (state_at s.before.shape (stage_number s.failed)) s.outside after f.room f.known s.part in
    let all : f.room.out ++ more ≡ r.out ++ (f.bytes ++ more) = ap (λ (x : List ℕ). x ++ more) f.is ∙ append_assoc r.out f.bytes more in
    let grew : Appends old.output after.output (f.bytes ++ more) = Appends-trans old.output s.outside.output after.output f.bytes more f.grew wrote in
    elim s.reads.asks [
      | inl reads ↦ (let (front, last, rest, left, cut, counted, free, small) = s.reads.line f.room.script f.known.script in
          let at = at_line user r f.room s.before.shape (stage_number s.failed) f.reached reads in
          kept_up user r rest (f.room.out ++ more) (f.bytes ++ more) after.script old.output after.output (up_from user r f.room front last rest (f.room.out ++ more) more at (cut ∙ append_assoc front last rest) free small refl) left all grew)
      | inr nothing ↦ kept_up user r f.room.script (f.room.out ++ more) (f.bytes ++ more) after.script old.output after.output (up_still user r f.room.script f.room.script f.room.out (f.room.out ++ more) more f.reached.up refl refl) (nothing.script ∙ f.known.script) all grew
    ]

-- ---- where the source failed, or the script is too long

some_same : (x y : List ℕ) → Some x ≡ Some y → x ≡ y
some_same x y e = cc

-- where the same is left, the same was read
same_read : (script bytes rest heard left : List ℕ) → rest ≡ left → script ≡ bytes ++ rest → script ≡ heard ++ left → bytes ≡ heard
same_read script bytes rest heard left e is was = append_cancel_right bytes heard left (ap (λ (x : List ℕ). bytes ++ x) (sym e) ∙ sym is ∙ was)

broken_off : (user : User) (r : Room quel_sorts) (old outside after : Outside) (n : Shape quel_sorts) (f : InFront user r old outside n) (at : AtScript user r f.room) (front rest : List ℕ) (read lines : ℕ) → IsWhole at.heard → list_all is_no_newline front ≡ true → r.script ≡ (at.heard ++ front) ++ rest →
    IsUnwritten outside after → length (at.heard ++ front) ≡ lines → after.script ≡ Some (drop read r.script) → BrokenOff user r read lines after.script old.output after.output after.files
broken_off user r old outside after n f at front rest read lines w free script unwritten long left =
    let exactly : within lines user r ≡ heard_of user r at.heard = ap (λ (k : ℕ). within k user r) (sym long) ∙ heard_exactly user r at.heard front rest script w free in
    let bytes : f.bytes ≡ output (within lines user r) = append_cancel_left r.out f.bytes (output (heard_of user r at.heard)) (sym f.is ∙ at.wrote) ∙ ap (λ (s : Session). output s) (sym exactly) in
    record {
      left = left;
      goes_on = ap (λ (s : Session). s.quit) exactly ∙ at.goes_on;
      printed = subst (λ (x : List ℕ). Appends old.output after.output x) bytes (subst (λ (o : Option (List ℕ)). Appends old.output o f.bytes) (sym unwritten.output) f.grew);
      shelved = unwritten.files ∙ f.known.shelf ∙ ap (λ x. Some x) (at.files ∙ ap (λ (s : Session). s.state.shelf) (sym exactly));
    }

pub stop_broken : (user : User) (capacity : ℕ) (turns numbers : List ℕ) (heard : ℕ) (r : Room quel_sorts) (old after : Outside) → Knows (known old) r → StopsAt (quel user) capacity turns numbers heard (seen start_shape old) after faults.Source
    → IsBrokenOff user r after.script old.output after.output after.files
stop_broken user capacity turns numbers heard r old after t s =
    let f = in_front user capacity s.made r old s.outside s.before t s.runs s.knows in
    elim s.reads.asks [
      | inl reads ↦ (let at = at_line user r f.room s.before.shape (stage_number s.failed) f.reached reads in
          let (bytes, rest, there, cut, w) = s.whole refl r.script t.script in
          let same : rest ≡ f.room.script = some_same rest f.room.script (sym there ∙ f.known.script) in
          let heard_is = same_read r.script bytes rest at.heard f.room.script same cut at.is in
          let (front, later, left, line, free) = s.reads.broken refl f.room.script f.known.script in
          let script : r.script ≡ (at.heard ++ front) ++ later = at.is ∙ ap (λ (x : List ℕ). at.heard ++ x) line ∙ sym (append_assoc at.heard front later) in
          let gone : later ≡ drop (length (at.heard ++ front)) r.script = sym (ap (λ (x : List ℕ). drop (length (at.heard ++ front)) x) script ∙ drop-append_seam (at.heard ++ front) later) in
          (length (at.heard ++ front), broken_off user r old s.outside after s.before.shape f at front later (length (at.heard ++ front)) (length (at.heard ++ front)) (subst IsWhole heard_is w) free script s.spares refl (left ∙ ap (λ (x : List ℕ). Some x) gone)))
      | inr nothing ↦ absurd (nothing.fine refl)
    ]

-- ---- one byte too much

-- what was read of a line, without its last byte
record OneLess (front last : List ℕ) : Type 0 where
  pub kept : List ℕ
  pub byte : ℕ
  pub is : front ++ last ≡ kept ++ byte ∷ []
  pub free : list_all is_no_newline kept ≡ true

one_less : (front last : List ℕ) → list_all is_no_newline front ≡ true → length last ≤ 1 → 1 ≤ length (front ++ last) → OneLess front last
one_less front (b ∷ []) free small some = record { kept = front; byte = b; is = refl; free = free }
one_less front (b ∷ c ∷ last) free small some = absurd (omega (arith, small))
one_less [] [] free small some = absurd (omega (arith, some))
one_less (b ∷ l) [] free small some =
    let (kept, byte, cut) = but_last b l in
    record { kept = kept; byte = byte; is = append-nil (b ∷ l) ∙ cut; free = free_front kept (byte ∷ []) (ap (λ (x : List ℕ). list_all is_no_newline x) (sym cut) ∙ free) }

-- the first of the turns failed
first_failed : (k failed : ℕ) (made later : List ℕ) → k ∷ [] ≡ made ++ failed ∷ later → made ≡ []
first_failed k failed [] later e = refl
first_failed k failed (x ∷ []) later e = absurd (cc e)
first_failed k failed (x ∷ y ∷ made) later e = absurd (cc e)

none_made : (user : User) (capacity : ℕ) (made : List ℕ) (old new : Seen quel_sorts) → made ≡ [] → RunsTurns (quel user) capacity made old new → new ≡ old
none_made user capacity [] old new e runs = runs
none_made user capacity (x ∷ made) old new e runs = absurd (cc e)

-- how much was read before, and by the step that failed
too_much : (limit read bytes front last : ℕ) → read ≤ limit → limit + 1 ≡ read + bytes → bytes ≡ front + last → (read + (front + last) ≡ limit + 1) × (1 ≤ front + last)
too_much limit read bytes front last h e is = (omega (arith, e, is), omega (arith, h, e, is))

same_length : (bytes rest front last : List ℕ) → bytes ++ rest ≡ front ++ (last ++ rest) → length bytes ≡ length front + length last
same_length bytes rest front last e =
    ap (λ (x : List ℕ). length x) (append_cancel_right bytes (front ++ last) rest (e ∙ sym (append_assoc front last rest))) ∙ length-append front last

nothing_more : (bytes rest : List ℕ) → rest ≡ bytes ++ rest → length bytes ≡ 0
nothing_more bytes rest e = let same : length rest ≡ length bytes + length rest = ap (λ (x : List ℕ). length x) e ∙ length-append bytes rest in omega (arith, same)

-- what was read before is whole lines, since more follows
was_whole : (user : User) (r room : Room quel_sorts) (n : Shape quel_sorts) (at : AtScript user r room) → Reached user r n room → 1 ≤ length room.script → IsWhole at.heard
was_whole user r room n at reached some =
    let read = reached.read in
    let same = same_read r.script read.heard room.script at.heard room.script refl read.is at.is in
    elim read.whole [
      | inl w ↦ subst IsWhole same w
      | inr none ↦ (let no : length room.script ≡ 0 = ap (λ (x : List ℕ). length x) none in absurd (omega (arith, no, some)))
    ]

cut_here : (user : User) (limit read : ℕ) (r : Room quel_sorts) (old outside after : Outside) (n : Shape quel_sorts) (f : InFront user r old outside n) (at : AtScript user r f.room) (bytes front last rest : List ℕ) → read ≤ limit → length at.heard ≡ read → limit + 1 ≡ read + length bytes →
    f.room.script ≡ bytes ++ rest → f.room.script ≡ front ++ (last ++ rest) → list_all is_no_newline front ≡ true → length last ≤ 1 → after.script ≡ Some rest → IsUnwritten outside after → BrokenOff user r (limit + 1) limit after.script old.output after.output after.files
cut_here user limit read r old outside after n f at bytes front last rest small_read heard much there cut free small left unwritten =
    let counts = too_much limit read (length bytes) (length front) (length last) small_read much (same_length bytes rest front last (sym there ∙ cut)) in
    let line_long : length (front ++ last) ≡ length front + length last = length-append front last in
    let less = one_less front last free small (omega (arith, counts.1, line_long)) in
    let kept_long : length (front ++ last) ≡ length less.kept + 1 = ap (λ (x : List ℕ). length x) less.is ∙ length-append less.kept (less.byte ∷ []) in
    let heard_long : length (at.heard ++ less.kept) ≡ length at.heard + length less.kept = length-append at.heard less.kept in
    let all_long : length (at.heard ++ (front ++ last)) ≡ length at.heard + length (front ++ last) = length-append at.heard (front ++ last) in
    let long : length (at.heard ++ less.kept) ≡ limit = omega (arith, counts.0, line_long, kept_long, heard_long, heard) in
    let read_long : length (at.heard ++ (front ++ last)) ≡ limit + 1 = omega (arith, counts.0, line_long, all_long, heard) in
    let script : r.script ≡ (at.heard ++ (front ++ last)) ++ rest = at.is ∙ ap (λ (x : List ℕ). at.heard ++ x) (cut ∙ sym (append_assoc front last rest)) ∙ sym (append_assoc at.heard (front ++ last) rest) in
    let parted : r.script ≡ (at.heard ++ less.kept) ++ (less.byte ∷ rest) =
    script ∙ ap (λ (x : List ℕ). (at.heard ++ x) ++ rest) less.is ∙ ap (λ (x : List ℕ). x ++ rest) (sym (append_assoc at.heard less.kept (less.byte ∷ []))) ∙ append_assoc (at.heard ++ less.kept) (less.byte ∷ []) rest in
    let gone : rest ≡ drop (limit + 1) r.script = sym (ap (λ (k : ℕ). drop k r.script) (sym read_long) ∙ ap (λ (x : List ℕ). drop (length (at.heard ++ (front ++ last))) x) script ∙ drop-append_seam (at.heard ++ (front ++ last)) rest) in
    let script_long : length f.room.script ≡ length bytes + length rest = ap (λ (x : List ℕ). length x) there ∙ length-append bytes rest in
    broken_off user r old outside after n f at less.kept (less.byte ∷ rest) (limit + 1) limit (was_whole user r f.room n at f.reached (omega (arith, script_long, small_read, much))) less.free parted unwritten long (left ∙ ap (λ (x : List ℕ). Some x) gone)

pub stop_cut : (user : User) (capacity k limit read : ℕ) (turns numbers : List ℕ) (heard : ℕ) (r : Room quel_sorts) (old mid after : Outside) (now : Shape quel_sorts) → Knows (known old) r → RunsTurns (quel user) capacity turns (seen start_shape old) (seen now mid) → KeepsScript 0 read old mid → read ≤ limit
    → StopsAt (quel user) capacity (k ∷ []) numbers heard (seen now mid) after faults.TooLong → KeepsScript read (limit + 1) mid after → BrokenOff user r (limit + 1) limit after.script old.output after.output after.files
stop_cut user capacity k limit read turns numbers heard r old mid after now t runs before small_read s behind =
    let stays : s.before ≡ seen now mid = none_made user capacity s.made (seen now mid) s.before (first_failed k s.failed s.made s.later s.is) s.runs in
    let same : known mid ≡ known s.outside = ap (λ (x : Seen quel_sorts). x.known) (sym stays) ∙ s.knows in
    let f = in_front user capacity turns r old s.outside (seen now mid) t runs same in
    let (before_bytes, before_rest, there, before_cut, before_count) = before r.script t.script in
    let (step_bytes, step_rest, step_left, step_cut, step_count) = behind before_rest there in
    let here : before_rest ≡ f.room.script = some_same before_rest f.room.script (sym there ∙ ap (λ (x : Known quel_sorts). x.script) same ∙ f.known.script) in
    elim s.reads.asks [
      | inl reads ↦ (let at = at_line user r f.room now (stage_number s.failed) f.reached (subst (λ (x : Seen quel_sorts). ReadsScript (state_at x.shape (stage_number s.failed)).mode) stays reads) in
          let heard_is = same_read r.script before_bytes before_rest at.heard f.room.script here before_cut at.is in
          let (front, last, rest, left, cut, counted, free, small) = s.reads.line f.room.script f.known.script in
          let rest_is : step_rest ≡ rest = some_same step_rest rest (sym step_left ∙ left) in
          cut_here user limit read r old s.outside after now f at step_bytes front last rest small_read (let same_long : length at.heard ≡ length before_bytes = ap (λ (x : List ℕ). length x) (sym heard_is) in omega (arith, same_long, before_count)) step_count (sym here ∙ step_cut ∙ ap (λ (x : List ℕ). step_bytes ++ x) rest_is) (cut ∙ append_assoc front last rest) free small left s.spares)
      | inr nothing ↦ (let rest_is : step_rest ≡ before_rest = some_same step_rest before_rest (sym step_left ∙ nothing.script ∙ f.known.script ∙ ap (λ (x : List ℕ). Some x) (sym here)) in
          let none : length step_bytes ≡ 0 = nothing_more step_bytes before_rest (step_cut ∙ ap (λ (x : List ℕ). step_bytes ++ x) rest_is) in
          absurd (omega (arith, none, step_count, small_read)))
    ]
