-- What the parser has done at what is next in its batch, as the work of the network's second stage.
use Rattle.std.proofs.Common.{◌≡◌, ℕ, true, List, [], ◌∷◌, ◌++◌, Option, Some, None, Ok, Err, refl, sym, ap, subst, ◌∙◌, append-nil, append_assoc}
use Rattle.calculus.specs.declared.reply.Refusal.{Refusal}
use Rattle.calculus.specs.declared.request.Checked.{Checked}
use Rattle.calculus.specs.declared.statement.Statement.{Statement}
use Rattle.calculus.specs.Database.{Db}
use Rattle.calculus.specs.Who.{Asker, asker_of}
use Rattle.fault_io.specs.Files.{Files}
use Rattle.frame_codec.specs.declared.frame.Frame.{Frame}
use Rattle.frame_codec.specs.declared.message.Message.{Message as Bytes}
use Rattle.frame_codec.specs.Messages.{is_message_kind, message_frames}
use Rattle.message_codec.specs.MessageLaws.{by_frames, by_only, by_spelled}
use Rattle.network_meaning.specs.Frames.{frames, spell}
use Rattle.network_meaning.specs.LocalSteps.{Act, Checks, Mode, Mode.idle2, Mode.parsing, Mode.passing2, Parses, Room, hands, says, turns_to}
use Rattle.network_meaning.specs.Network.{LocalState, done_act}
use Rattle.network_meaning.specs.Sorts.{Meaning, Message, Next, Cargo.tree, Reply.refused, Said.replied, Message.cargo, Message.said, Message.end, Meaning.names, Meaning.objects, Meaning.runs, Next.no_more, Next.bad, Next.found}
use Rattle.network_meaning.specs.WorkShape.{CheckShape.names as declares, CheckShape.objects as refuses, CheckShape.runs as asks, ParseShape}
use Rattle.quel_grammar.specs.Next.{Next as Came, Nothing, Read, Syntax, Reading, first_offset, line_at}
use Rattle.quel_grammar.specs.NextReader.{next_at}
use Rattle.quel_grammar.proofs.Answered.{only_reading}
use Rattle.quel_meaning.specs.Ranges.{Ranges}
use Rattle.quel_parse.specs.declared.next.ParseFault.{ParseFault}
use Rattle.quel_parse.specs.declared.next.ParseFault.TheVariants as fault
use Rattle.quel_parse.specs.Next.{Answers}
use Rattle.quel_network.specs.Quel.{quel}
use Rattle.quel_network.specs.Sorts.{Batch, User, quel_sorts}
use Rattle.quel_network.specs.Trees.{IsFitTree, meaning_of, next_in, next_of, outcome_of_tree}
use Rattle.stage_parse.specs.declared.at.At.{At}
use Rattle.stage_parse.specs.declared.at.At.TheVariants as at
use Rattle.stage_parse.specs.declared.judged.Judged.{Judged}
use Rattle.stage_parse.specs.declared.judged.Judged.TheVariants as judged
use Rattle.stage_parse.specs.Judging.{AsksIt, IsRefusal, IsShaped, IsTree, Judges, KeepsRanges, RefusesIt, Spells, left_frames, refused_at, right_frames}
use Rattle.stage_parse.specs.Parsing.{Gives, HasParsed, IsBad, at_behind}
use Rattle.stage_parse.specs.Standing.{standing}

-- ---- what is next

-- the grammar allows one reading alone
next_is : (who : User) (b : Batch) (n : Came) → next_at b.text b.from ≡ n → (quel who).next b ≡ next_of b n
unfolding quel next_in
next_is who b n e = ap (λ (reading : Reading). next_of b (reading b.text b.from)) (only_reading who.reading who.grammatical) ∙ ap (λ (x : Came). next_of b x) e

-- what is left of a batch behind a place
abbrev behind : Batch → ℕ → Batch
behind b stop = record { text = b.text; from = stop }

next_found : (who : User) (b : Batch) (s : Statement) (line stop : ℕ) → next_at b.text b.from ≡ Read s stop → line ≡ line_at b.text (first_offset b.text b.from) → (quel who).next b ≡ found s line (behind b stop)
next_found who b s line stop e is = next_is who b (Read s stop) e ∙ ap (λ (n : ℕ). found s n (behind b stop)) (sym is)

next_bad : (who : User) (b : Batch) (line : ℕ) → IsBad b line → (quel who).next b ≡ bad (record { code = 1; line = line; row = 0 })
next_bad who b line is = next_is who b (Syntax is.place) is.is ∙ ap (λ (n : ℕ). bad (record { code = 1; line = n; row = 0 })) (sym is.line_is)

-- ---- what the reader answered

pub none_next : (text : List ℕ) (next : Came) (o : Option (Statement × ℕ)) → Answers text next (Ok o) → o ≡ None → next ≡ Nothing
none_next text next o answers e = subst (λ (x : Option (Statement × ℕ)). Answers text next (Ok x)) e answers

pub some_next : (text : List ℕ) (next : Came) (o : Option (Statement × ℕ)) (s : Statement) (stop : ℕ) → Answers text next (Ok o) → o ≡ Some (s, stop) → next ≡ Read s stop
some_next text next o s stop answers e = subst (λ (x : Option (Statement × ℕ)). Answers text next (Ok x)) e answers

pub bad_next : (b : Batch) (f : ParseFault) (line place : ℕ) → f ≡ fault.Syntax line place → Answers b.text (next_at b.text b.from) (Err f) → IsBad b line
bad_next b f line place e answers =
    let h = subst (λ (x : ParseFault). Answers b.text (next_at b.text b.from) (Err x)) e answers in
    record { place = place; is = h.0; line_is = h.1 }

-- ---- an act

module _ (who : User) (ranges : Ranges) (b : Batch) (gl gr ol or : List Frame) (known : Option Db) where
  -- an act of that shape at what is next, which is the network's where the database is known
  parsed_so : (n : Next quel_sorts) (act : Act quel_sorts) (s' : LocalState quel_sorts) → (quel who).next b ≡ n → ParseShape (quel who) ranges n act
      → ((room : Room quel_sorts) → known ≡ Some room.db → Parses (quel who) room ranges n act)
      → s' ≡ done_act (quel who) (standing ranges at.Parsing b gl gr ol or) act gl gr → HasParsed (quel who) (standing ranges at.Parsing b gl gr ol or) s' known
  parsed_so n act s' e shape exact is = record {
    act = act;
    is = is;
    shape = subst (λ (x : Next quel_sorts). ParseShape (quel who) ranges x act) (sym e) shape;
    exact = λ room k. (subst (λ (x : Next quel_sorts). Parses (quel who) room ranges x act) (sym e) (exact room k), refl);
  }

  -- where it stands then, with this given to both sides
  stands_so : (act : Act quel_sorts) (mode : Mode quel_sorts) (ol' or' : List Frame) → mode ≡ act.mode → ol' ≡ ol ++ spell (quel who) act.left → or' ≡ or ++ spell (quel who) act.right
      → record { mode = mode; got_left = gl; got_right = gr; out_left = ol'; out_right = or' } ≡ done_act (quel who) (standing ranges at.Parsing b gl gr ol or) act gl gr
  stands_so act mode ol' or' x y z = λ i. record { mode = x i; got_left = gl; got_right = gr; out_left = y i; out_right = z i }

same_out : (fs : List Frame) → fs ≡ fs ++ []
same_out fs = sym (append-nil fs)

gives_alone : (who : User) (m : Message quel_sorts) (old new : List Frame) → Gives m old new → new ≡ old ++ spell (quel who) (m ∷ [])
gives_alone who m old new g = g.behind ∙ ap (λ (fs : List Frame). old ++ fs) (sym (by_frames who g.kind g.bytes m g.spells))

-- the frames of one message, in front of those of another
spell_two : (who : User) (m n : Message quel_sorts) → spell (quel who) (m ∷ n ∷ []) ≡ spell (quel who) (m ∷ []) ++ spell (quel who) (n ∷ [])
spell_two who m n = ap (λ (fs : List Frame). fs ++ spell (quel who) (n ∷ [])) (sym (append-nil (frames (quel who) m)))

gives_both : (who : User) (m n : Message quel_sorts) (old mid new : List Frame) → Gives m old mid → Gives n mid new → new ≡ old ++ spell (quel who) (m ∷ n ∷ [])
gives_both who m n old mid new g h =
    gives_alone who n mid new h ∙ ap (λ (fs : List Frame). fs ++ spell (quel who) (n ∷ [])) (gives_alone who m old mid g)
    ∙ append_assoc old (spell (quel who) (m ∷ [])) (spell (quel who) (n ∷ [])) ∙ ap (λ (fs : List Frame). old ++ fs) (sym (spell_two who m n))

-- ---- the end of a batch

pub ended_so : (who : User) (ranges : Ranges) (here here' : At) (b b' : Batch) (gl gr ol ol' or : List Frame) (known : Option Db) → here ≡ at.Parsing → next_at b.text b.from ≡ Nothing → here' ≡ at.Idle → Gives end ol ol'
    → HasParsed (quel who) (standing ranges here b gl gr ol or) (standing ranges here' b' gl gr ol' or) known
ended_so who ranges here here' b b' gl gr ol ol' or known parses over idle gives =
    subst (λ (x : At). HasParsed (quel who) (standing ranges x b gl gr ol or) (standing ranges here' b' gl gr ol' or) known) (sym parses)
    (subst (λ (x : At). HasParsed (quel who) (standing ranges at.Parsing b gl gr ol or) (standing ranges x b' gl gr ol' or) known) (sym idle)
    (parsed_so who ranges b gl gr ol or known no_more (says (idle2 ranges) (end ∷ [])) (standing ranges at.Idle b' gl gr ol' or) (next_is who b Nothing over) refl (λ room k. refl)
    (stands_so who ranges b gl gr ol or known (says (idle2 ranges) (end ∷ [])) (idle2 ranges) ol' or refl (gives_alone who end ol ol' gives) (same_out or))))

-- the syntax refusal of a line
abbrev syntax_at : ℕ → Refusal
syntax_at line = record { code = 1; line = line; row = 0 }

pub refused_so : (who : User) (ranges : Ranges) (here here' : At) (b b' : Batch) (gl gr ol mid ol' or : List Frame) (line : ℕ) (known : Option Db) → here ≡ at.Parsing → IsBad b line → here' ≡ at.Idle
    → Gives (said (replied (refused (syntax_at line)))) ol mid → Gives end mid ol' → HasParsed (quel who) (standing ranges here b gl gr ol or) (standing ranges here' b' gl gr ol' or) known
refused_so who ranges here here' b b' gl gr ol mid ol' or line known parses is idle gives ends =
    subst (λ (x : At). HasParsed (quel who) (standing ranges x b gl gr ol or) (standing ranges here' b' gl gr ol' or) known) (sym parses)
    (subst (λ (x : At). HasParsed (quel who) (standing ranges at.Parsing b gl gr ol or) (standing ranges x b' gl gr ol' or) known) (sym idle)
    (parsed_so who ranges b gl gr ol or known (bad (syntax_at line)) (says (idle2 ranges) (said (replied (refused (syntax_at line))) ∷ end ∷ [])) (standing ranges at.Idle b' gl gr ol' or) (next_bad who b line is) refl (λ room k. refl)
    (stands_so who ranges b gl gr ol or known (says (idle2 ranges) (said (replied (refused (syntax_at line))) ∷ end ∷ [])) (idle2 ranges) ol' or refl
    (gives_both who (said (replied (refused (syntax_at line)))) end ol mid ol' gives ends) (same_out or))))

-- ---- a statement

-- it means the same for each user of that name
meaning_for : (who : User) (user : List ℕ) (db : Db) (shelf : Files) (ranges : Ranges) (s : Statement) → who.asker ≡ asker_of user → (quel who).meaning db shelf ranges s ≡ meaning_of (asker_of user) db shelf ranges s
unfolding quel
meaning_for who user db shelf ranges s e = ap (λ (a : Asker). meaning_of a db shelf ranges s) e

module _ (who : User) (user : List ℕ) (ranges ranges' : Ranges) (b : Batch) (s : Statement) (line stop : ℕ) (gl gr ol or : List Frame) (known : Option Db) (asks_for : who.asker ≡ asker_of user) (next : (quel who).next b ≡ found s line (behind b stop)) where
  -- its meaning, in a room whose database is known
  meaning_there : (m : Meaning quel_sorts) (room : Room quel_sorts) → meaning_of (asker_of user) room.db room.shelf ranges s ≡ m → (quel who).meaning room.db room.shelf ranges s ≡ m
  meaning_there m room e = meaning_for who user room.db room.shelf ranges s asks_for ∙ e

  -- a variable was declared
  declared_so : ((db : Db) → known ≡ Some db → Judges db user ranges s line ranges' judged.Declared)
      → HasParsed (quel who) (standing ranges at.Parsing b gl gr ol or) (standing ranges' at.Parsing (behind b stop) gl gr (ol ++ []) (or ++ [])) known
  declared_so means =
      parsed_so who ranges b gl gr ol or known (found s line (behind b stop)) (turns_to (parsing ranges' (behind b stop))) (standing ranges' at.Parsing (behind b stop) gl gr (ol ++ []) (or ++ [])) next (declares ranges' refl)
      (λ room k. subst (λ (m : Meaning quel_sorts). Checks (quel who) room ranges line (behind b stop) m (turns_to (parsing ranges' (behind b stop)))) (sym (meaning_there (names ranges') room (means room.db k room.shelf))) refl)
      (stands_so who ranges b gl gr ol or known (turns_to (parsing ranges' (behind b stop))) (parsing ranges' (behind b stop)) (ol ++ []) (or ++ []) refl refl refl)

  -- what a refusal says of this line
  same_refusal : (m : Bytes) (x y : Refusal) → Spells m (refused_at line x) → Spells m (refused_at line y) → refused_at line x ≡ refused_at line y
  same_refusal m x y e f = let both : ◌≡◌ {A = Option (Message quel_sorts)} (Some (refused_at line x)) (Some (refused_at line y)) = sym e ∙ f in cc

  -- it was refused
  objected_so : (m : Bytes) → IsRefusal line m → ((db : Db) → known ≡ Some db → RefusesIt db user ranges s line m)
      → HasParsed (quel who) (standing ranges at.Parsing b gl gr ol or) (standing ranges at.Parsing (behind b stop) gl gr (ol ++ message_frames m.kind m.bytes) (or ++ [])) known
  unfolding quel
  objected_so m is means =
      parsed_so who ranges b gl gr ol or known (found s line (behind b stop)) (says (parsing ranges (behind b stop)) (refused_at line is.refusal ∷ [])) (standing ranges at.Parsing (behind b stop) gl gr (ol ++ message_frames m.kind m.bytes) (or ++ [])) next
      (refuses is.refusal (by_spelled who m.kind m.bytes (refused_at line is.refusal) is.spells) refl)
      (λ room k.
      let it = means room.db k in
      subst (λ (x : Meaning quel_sorts). Checks (quel who) room ranges line (behind b stop) x (says (parsing ranges (behind b stop)) (refused_at line is.refusal ∷ []))) (sym (meaning_there (objects it.refusal) room (it.means room.shelf)))
      (ap (λ (x : Message quel_sorts). says (parsing ranges (behind b stop)) (x ∷ [])) (same_refusal m is.refusal it.refusal is.spells it.spells)))
      (stands_so who ranges b gl gr ol or known (says (parsing ranges (behind b stop)) (refused_at line is.refusal ∷ [])) (parsing ranges (behind b stop)) (ol ++ message_frames m.kind m.bytes) (or ++ []) refl
      (ap (λ (fs : List Frame). ol ++ fs) (sym (by_frames who m.kind m.bytes (refused_at line is.refusal) is.spells))) refl)

  same_tree : (m : Bytes) (x y : Checked) → Spells m (cargo (tree x)) → Spells m (cargo (tree y)) → y ≡ x
  same_tree m x y e f = let both : ◌≡◌ {A = Option (Message quel_sorts)} (Some (cargo (tree x))) (Some (cargo (tree y))) = sym e ∙ f in cc

  -- its tree was handed on
  asked_so : (m : Bytes) → IsTree m → ((db : Db) → known ≡ Some db → AsksIt db user ranges s m)
      → HasParsed (quel who) (standing ranges at.Parsing b gl gr ol or) (standing ranges (at.Passing line) (behind b stop) gl gr (ol ++ []) (or ++ message_frames m.kind m.bytes)) known
  unfolding quel
  asked_so m is means =
      parsed_so who ranges b gl gr ol or known (found s line (behind b stop)) (hands (passing2 ranges line (behind b stop)) (cargo (tree is.asked))) (standing ranges (at.Passing line) (behind b stop) gl gr (ol ++ []) (or ++ message_frames m.kind m.bytes)) next
      (asks is.asked (by_spelled who m.kind m.bytes (cargo (tree is.asked)) is.spells) refl)
      (λ room k.
      let it = means room.db k in
      subst (λ (x : Meaning quel_sorts). Checks (quel who) room ranges line (behind b stop) x (hands (passing2 ranges line (behind b stop)) (cargo (tree is.asked)))) (sym (meaning_there (runs (outcome_of_tree (asker_of user) it.asked room.db room.shelf)) room (it.means room.shelf))) (
        it.asked,
        subst (λ (a : Asker). IsFitTree a it.asked room.db) (sym asks_for) it.fit,
        ap (λ (a : Asker). outcome_of_tree a it.asked room.db room.shelf) asks_for,
        ap (λ (x : Checked). hands (passing2 ranges line (behind b stop)) (cargo (tree x))) (sym (same_tree m is.asked it.asked is.spells it.spells)),
      ))
      (stands_so who ranges b gl gr ol or known (hands (passing2 ranges line (behind b stop)) (cargo (tree is.asked))) (passing2 ranges line (behind b stop)) (ol ++ []) (or ++ message_frames m.kind m.bytes) refl refl
      (ap (λ (fs : List Frame). or ++ fs) (sym (by_frames who m.kind m.bytes (cargo (tree is.asked)) is.spells))))

  -- whatever came of it
  judged_so : (j : Judged) → IsShaped line j → KeepsRanges ranges ranges' j → ((db : Db) → known ≡ Some db → Judges db user ranges s line ranges' j)
      → HasParsed (quel who) (standing ranges at.Parsing b gl gr ol or) (standing ranges' (at_behind line j) (behind b stop) gl gr (ol ++ left_frames j) (or ++ right_frames j)) known
  judged_so judged.Declared shape keeps means = declared_so means
  judged_so (judged.Refused m) shape keeps means =
      subst (λ (x : Ranges). HasParsed (quel who) (standing ranges at.Parsing b gl gr ol or) (standing x at.Parsing (behind b stop) gl gr (ol ++ message_frames m.kind m.bytes) (or ++ [])) known) (sym keeps) (objected_so m shape means)
  judged_so (judged.Asks m) shape keeps means =
      subst (λ (x : Ranges). HasParsed (quel who) (standing ranges at.Parsing b gl gr ol or) (standing x (at.Passing line) (behind b stop) gl gr (ol ++ []) (or ++ message_frames m.kind m.bytes)) known) (sym keeps) (asked_so m shape means)

-- a statement is settled
pub settled_so : (who : User) (user : List ℕ) (ranges ranges' : Ranges) (here here' : At) (b b' : Batch) (s : Statement) (line stop : ℕ) (gl gr ol ol' or or' : List Frame) (j : Judged) (known : Option Db)
    → who.asker ≡ asker_of user → here ≡ at.Parsing → next_at b.text b.from ≡ Read s stop → line ≡ line_at b.text (first_offset b.text b.from)
    → IsShaped line j → KeepsRanges ranges ranges' j → ((db : Db) → known ≡ Some db → Judges db user ranges s line ranges' j)
    → here' ≡ at_behind line j → b' ≡ record { text = b.text; from = stop } → ol' ≡ ol ++ left_frames j → or' ≡ or ++ right_frames j
    → HasParsed (quel who) (standing ranges here b gl gr ol or) (standing ranges' here' b' gl gr ol' or') known
settled_so who user ranges ranges' here here' b b' s line stop gl gr ol ol' or or' j known asker parses read line_is shape keeps means a c d e =
    subst (λ (x : At). HasParsed (quel who) (standing ranges x b gl gr ol or) (standing ranges' here' b' gl gr ol' or') known) (sym parses)
    (subst (λ (x : LocalState quel_sorts). HasParsed (quel who) (standing ranges at.Parsing b gl gr ol or) x known) (λ i. standing ranges' (sym a i) (sym c i) gl gr (sym d i) (sym e i))
    (judged_so who user ranges ranges' b s line stop gl gr ol or known asker (next_found who b s line stop read line_is) j shape keeps means))

-- ---- what is given has the kind of a message

pub refusal_kind : (line : ℕ) (m : Bytes) (j : Judged) → j ≡ judged.Refused m → IsShaped line j → is_message_kind m.kind ≡ true
refusal_kind line m j e shape =
    let is : IsRefusal line m = subst (λ (x : Judged). IsShaped line x) e shape in
    (by_only m.kind m.bytes (refused_at line is.refusal) is.spells).is_kind

pub tree_kind : (line : ℕ) (m : Bytes) (j : Judged) → j ≡ judged.Asks m → IsShaped line j → is_message_kind m.kind ≡ true
tree_kind line m j e shape =
    let is : IsTree m = subst (λ (x : Judged). IsShaped line x) e shape in
    (by_only m.kind m.bytes (cargo (tree is.asked)) is.spells).is_kind
