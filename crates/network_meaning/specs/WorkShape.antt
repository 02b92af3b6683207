-- The shape of a piece of work: which mode follows on which, and which messages are given, in which order and to which side. What is worked out is left free.
use Rattle.std.specs.Prelude.{◌≡◌, ℕ, List, [], ◌∷◌, ◌++◌, map, ⊤}
use Rattle.network_meaning.specs.Sorts.{Sorts, Cargo, Table, Next, Event, Kind}
use Rattle.network_meaning.specs.Sorts.{Cargo.tree, Cargo.change, Reply.done, Reply.refused, Said.shown, Said.replied, Message.text, Message.cargo, Message.said, Message.end, Next.no_more, Next.bad, Next.found, Event.sends, Kind.answer, Kind.update, Kind.utility}
use Rattle.network_meaning.specs.Language.{Language, tops}
use Rattle.network_meaning.specs.Laws.{TablesFit}
use Rattle.network_meaning.specs.Spelled.{Spelled, EachSpelled}
use Rattle.network_meaning.specs.LocalSteps.{Mode, Act, Room, turns_to, says, hands, read_act, open_after, all_shown}
use Rattle.network_meaning.specs.LocalSteps.{Mode.reading, Mode.waiting, Mode.printing, Mode.idle2, Mode.parsing, Mode.passing2, Mode.idle3, Mode.working3, Mode.passing3, Mode.idle4, Mode.working4}

-- a batch that is sent is spelled
abbrev pub SendsSpelled : {S : Sorts} → Language S → Event S → Type 0
SendsSpelled L (sends t) = Spelled L (text t)
SendsSpelled L _ = ⊤

-- stage 1 has read: it reads on, sends a batch and waits, or quits and has ended
pub record ReadShape {S : Sorts} (L : Language S) (act : Act S) : Type 0 where
  pub monitor : S.Monitor
  pub event : Event S
  pub spelled : SendsSpelled L event
  pub is : act ≡ read_act monitor event

-- it goes to this mode and gives one refusal to the left, which is spelled
pub record RefusalShape {S : Sorts} (L : Language S) (mode : Mode S) (act : Act S) : Type 0 where
  pub refusal : S.Refusal
  pub spelled : Spelled L (said (replied (refused refusal)))
  pub is : act ≡ says mode (said (replied (refused refusal)) ∷ [])

-- stage 2 has checked a statement: it has new ranges or refuses with the statement's line, and parses on; or it hands a tree to the right, and passes on what comes back
pub data CheckShape {S : Sorts} (L : Language S) (ranges : S.Ranges) (line : ℕ) (b : S.Batch) (act : Act S) : Type 0 where
  names : (ranges' : S.Ranges) → act ≡ turns_to (parsing ranges' b) → CheckShape L ranges line b act
  objects : (r : S.Refusal) → Spelled L (said (replied (refused (L.lined line r)))) → act ≡ says (parsing ranges b) (said (replied (refused (L.lined line r))) ∷ []) → CheckShape L ranges line b act
  runs : (t : S.Tree) → Spelled L (cargo (tree t)) → act ≡ hands (passing2 ranges line b) (cargo (tree t)) → CheckShape L ranges line b act

-- stage 2, at what is next in its batch: at its end it gives the end, at what is no statement a refusal and the end
abbrev pub ParseShape : {S : Sorts} → Language S → S.Ranges → Next S → Act S → Type 0
ParseShape L ranges no_more act = act ≡ says (idle2 ranges) (end ∷ [])
ParseShape L ranges (bad r) act = act ≡ says (idle2 ranges) (said (replied (refused r)) ∷ end ∷ [])
ParseShape L ranges (found s line b) act = CheckShape L ranges line b act

-- stage 3 at a query: the tables that it asks for, each its head and rows that fit it, and then the end; or a refusal
pub data AnswerShape {S : Sorts} (L : Language S) (t : S.Tree) (act : Act S) : Type 0 where
  tables : (ts : List (Table S)) → tops ts ≡ L.heads t → TablesFit L ts → EachSpelled L (map (λ s. said (shown s)) (all_shown ts)) → act ≡ says idle3 (map (λ s. said (shown s)) (all_shown ts) ++ end ∷ []) → AnswerShape L t act
  refuses : RefusalShape L idle3 act → AnswerShape L t act

-- stage 3 at an update: a change for stage 4, whose reply it passes on; or a refusal
pub data UpdateShape {S : Sorts} (L : Language S) (act : Act S) : Type 0 where
  changes : (c : S.Change) → Spelled L (cargo (change c)) → act ≡ hands passing3 (cargo (change c)) → UpdateShape L act
  refuses : RefusalShape L idle3 act → UpdateShape L act

-- stage 3, by the kind of its tree: one of a utility is handed on to stage 4, whose reply it passes on
abbrev pub ProcessShape : {S : Sorts} → Language S → S.Tree → Kind → Act S → Type 0
ProcessShape L t answer act = AnswerShape L t act
ProcessShape L t update act = UpdateShape L act
ProcessShape L t utility act = Spelled L (cargo (tree t)) × (act ≡ hands passing3 (cargo (tree t)))

-- stage 4 with a utility: done, or a refusal
pub data UtilityShape {S : Sorts} (L : Language S) (act : Act S) : Type 0 where
  does : act ≡ says idle4 (said (replied done) ∷ []) → UtilityShape L act
  refuses : RefusalShape L idle4 act → UtilityShape L act

-- stage 4, by what it has: a change isn't refused
abbrev pub CarryShape : {S : Sorts} → Language S → Cargo S → Act S → Type 0
CarryShape L (tree t) act = UtilityShape L act
CarryShape L (change c) act = act ≡ says idle4 (said (replied done) ∷ [])

-- the shape of a piece of work: what its act is at this mode, whatever the room holds
abbrev pub WorkShape : {S : Sorts} → Language S → Mode S → Act S → Type 0
WorkShape L (reading m) act = ReadShape L act
WorkShape L (printing m o (said s)) act = act ≡ turns_to (waiting m (open_after o s))
WorkShape L (printing m o end) act = act ≡ turns_to (reading m)
WorkShape L (parsing ranges b) act = ParseShape L ranges (L.next b) act
WorkShape L (working3 t) act = ProcessShape L t (L.kind t) act
WorkShape L (working4 x) act = CarryShape L x act
WorkShape L _ act = ⊥

-- a piece of work of this shape, in a room that is not looked at
abbrev pub WorksInShape : {S : Sorts} → Language S → Mode S → Room S → Act S → Room S → Type 0
WorksInShape L mode room act room' = WorkShape L mode act × (room' ≡ room)
