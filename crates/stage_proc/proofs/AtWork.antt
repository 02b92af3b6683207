-- What a tree comes to, as the work of the network.
use Rattle.std.proofs.Common.{◌≡◌, inl, inr, true, refl, sym, ap, subst, ◌∙◌, append_assoc, ℕ, List, [], ◌∷◌, ◌++◌, map, Some, Result, Ok, Err, IsErrOf}
use Rattle.std.specs.Prelude.{IfErr}
use Rattle.std.proofs.lemmas.List.{append-nil}
use Rattle.std.specs.declared.option.Option.{Option}
use Rattle.calculus.specs.declared.change.DbChange.{DbChange}
use Rattle.calculus.specs.declared.reply.Column.{Column}
use Rattle.calculus.specs.declared.reply.Reply.{Reply}
use Rattle.calculus.specs.declared.reply.Reply.TheVariants as reply
use Rattle.calculus.specs.declared.reply.Table.{Table as Printed}
use Rattle.calculus.specs.declared.request.Asked.{Asked}
use Rattle.calculus.specs.declared.request.Checked.{Checked}
use Rattle.calculus.specs.declared.request.Checked.TheVariants as checked
use Rattle.calculus.specs.declared.request.Update.{Update}
use Rattle.calculus.specs.declared.request.Utility.{Utility}
use Rattle.calculus.specs.Change.{laid}
use Rattle.calculus.specs.Database.{Db}
use Rattle.calculus.specs.IsDatabase.{IsDatabase}
use Rattle.calculus.specs.Replacement.{updated}
use Rattle.calculus.specs.Rows.{Row}
use Rattle.calculus.specs.Who.{Asker, Unrestricted}
use Rattle.fault_io.specs.Files.{Files}
use Rattle.frame_codec.specs.declared.frame.Frame.{Frame}
use Rattle.frame_codec.specs.Messages.{message_frames}
use Rattle.message_codec.specs.MessageLaws.{by_frames, by_spelled, spell_alone}
use Rattle.net_core.specs.declared.fault.WorkFault.{WorkFault}
use Rattle.net_core.specs.declared.fault.WorkFault.TheVariants as faults
use Rattle.network_meaning.specs.Frames.{spell}
use Rattle.network_meaning.specs.Language.{tops}
use Rattle.network_meaning.specs.Laws.{RowsFit, TablesFit}
use Rattle.network_meaning.specs.LocalSteps.{Mode.idle3, Mode.passing3, Want.work, all_shown, hands, says}
use Rattle.network_meaning.specs.Network.{want}
use Rattle.network_meaning.specs.Sorts.{Shown, Table, Message, Cargo.tree, Cargo.change, Said.shown, Said.replied, Reply.refused, Message.cargo, Message.said, Message.end, Outcome.made, Outcome.refuses, Outcome.tables}
use Rattle.network_meaning.specs.Spelled.{EachSpelled, Spelled}
use Rattle.network_meaning.specs.WorkShape.{AnswerShape.tables as shape_tables, AnswerShape.refuses as answer_refuses, UpdateShape.changes as shape_change, UpdateShape.refuses as update_refuses}
use Rattle.quel_meaning.proofs.Each.{Each}
use Rattle.quel_meaning.specs.Copying.{refusal}
use Rattle.quel_meaning.specs.Fit.{is_fit}
use Rattle.quel_meaning.specs.Meaning.{answer_reply, numbered_effect, tree_meaning}
use Rattle.quel_network.specs.Quel.{quel}
use Rattle.quel_network.specs.RefusalLaws.{numbered_has}
use Rattle.quel_network.specs.Sorts.{User, quel_sorts}
use Rattle.quel_network.specs.Spelling.{is_refusal_number, payload_of}
use Rattle.quel_network.specs.SpellingLaws.{head_spelled_law, refused_spelled_law, row_spelled_law}
use Rattle.quel_network.specs.TableFits.{RowStands, TableStands}
use Rattle.quel_network.specs.Trees.{IsFitTree, outcome_by, outcome_of_effect, outcome_of_tree, sent_table}
use Rattle.quel_tree.specs.Message.{most_tree_levels}
use Rattle.quel_tree.specs.Relations.{columns as columns_codec}
use Rattle.quel_tree.specs.Requests.{checked as checked_codec}
use Rattle.quel_tree.specs.Values.{row as row_codec}
use Rattle.stage_proc.specs.Comes.{Comes, ComesTo, HandsChange, IsUnfit, ShowsRefusal, ShowsTables, head_of}
use Rattle.stage_proc.specs.declared.at.At.{At}
use Rattle.stage_proc.specs.declared.at.At.TheVariants as at
use Rattle.stage_proc.specs.declared.processed.Processed.{Processed}
use Rattle.stage_proc.specs.declared.processed.Processed.TheVariants as processed
use Rattle.stage_proc.specs.Sending.{answer_frames, refusal_frames, rows_frames, tables_frames}
use Rattle.stage_proc.specs.Standing.{AreBytesAt, HasSettled, IsWorking, standing}
use Rattle.stage_proc.specs.Stopping.{IsCausedHere, MayComeHere}
use Rattle.stage_proc.specs.Worked.{HasWorked, MayNotBeWorkedOn}

-- ---- what is shown, as messages

abbrev as_messages : List (Shown quel_sorts) → List (Message quel_sorts)
as_messages ss = map (λ s. said (shown s)) ss

-- the tables as they are sent
abbrev sent_tables : List Printed → List (Table quel_sorts)
sent_tables ts = map sent_table ts

-- what shows an answer: its tables, and the end
abbrev answer_messages : List Printed → List (Message quel_sorts)
answer_messages ts = as_messages (all_shown (sent_tables ts)) ++ end ∷ []

rows_are : (user : User) (rows : List Row) (behind : List (Shown quel_sorts)) (fs : List Frame) → spell (quel user) (as_messages behind ++ end ∷ []) ≡ fs
    → spell (quel user) (as_messages (map Shown.row rows ++ behind) ++ end ∷ []) ≡ rows_frames rows ++ fs
unfolding quel payload_of
rows_are user [] behind fs e = e
rows_are user (r ∷ rows) behind fs e =
    ap (λ (gs : List Frame). message_frames 4 (row_codec.write r) ++ gs) (rows_are user rows behind fs e) ∙ sym (append_assoc (message_frames 4 (row_codec.write r)) (rows_frames rows) fs)

four : (a b c d : List Frame) → a ++ (b ++ (c ++ d)) ≡ ((a ++ b) ++ c) ++ d
four a b c d = sym (append_assoc a b (c ++ d)) ∙ sym (append_assoc (a ++ b) c d)

answer_is : (user : User) (ts : List Printed) → spell (quel user) (answer_messages ts) ≡ answer_frames ts
unfolding quel payload_of
answer_is user [] = append-nil (message_frames 6 [])
answer_is user (t ∷ ts) =
    ap (λ (gs : List Frame). message_frames 3 (columns_codec.write t.columns) ++ gs) (rows_are user t.rows (all_shown (sent_tables ts)) (answer_frames ts) (answer_is user ts))
    ∙ four (message_frames 3 (columns_codec.write t.columns)) (rows_frames t.rows) (tables_frames ts) (message_frames 6 [])

refusal_is : (user : User) (number : ℕ) → spell (quel user) (said (replied (refused (refusal number))) ∷ []) ≡ refusal_frames number
unfolding payload_of
refusal_is user number = spell_alone user (said (replied (refused (refusal number))))

-- ---- it suits, and is spelled

rows_suit : (user : User) (columns : List Column) (rows : List Row) → Each (RowStands columns) rows → RowsFit (quel user) columns rows
unfolding quel
rows_suit user columns [] h = tt
rows_suit user columns (values ∷ rows) h = (h.0.suits, rows_suit user columns rows h.1)

tables_suit : (user : User) (ts : List (Table quel_sorts)) → Each TableStands ts → TablesFit (quel user) ts
tables_suit user [] h = tt
tables_suit user (t ∷ ts) h = (rows_suit user t.top t.rows h.0.rows, tables_suit user ts h.1)

rows_spelled : (user : User) (columns : List Column) (rows : List Row) (behind : List (Shown quel_sorts)) → Each (RowStands columns) rows → EachSpelled (quel user) (as_messages behind)
    → EachSpelled (quel user) (as_messages (map Shown.row rows ++ behind))
rows_spelled user columns [] behind h later = later
rows_spelled user columns (values ∷ rows) behind h later = (row_spelled_law user values h.0.spelled, rows_spelled user columns rows behind h.1 later)

tables_spelled : (user : User) (ts : List (Table quel_sorts)) → Each TableStands ts → EachSpelled (quel user) (as_messages (all_shown ts))
tables_spelled user [] h = tt
tables_spelled user (t ∷ ts) h = (head_spelled_law user t.top h.0.head, rows_spelled user t.top t.rows (all_shown ts) h.0.rows (tables_spelled user ts h.1))

tops_are : (ts : List Printed) (asked : List Asked) → map (λ t. t.columns) ts ≡ map head_of asked → tops (sent_tables ts) ≡ map head_of asked
tops_are ts asked e = go ts ∙ e
  where
    go : (ts : List Printed) → tops (sent_tables ts) ≡ map (λ t. t.columns) ts
    go [] = refl
    go (t ∷ ts) = ap (λ (hs : List (List Column)). t.columns ∷ hs) (go ts)

refusal_spelled : (user : User) (number : ℕ) → is_refusal_number number ≡ true → Spelled (quel user) (said (replied (refused (refusal number))))
refusal_spelled user number among = refused_spelled_law user (refusal number) (numbered_has number among)

-- ---- the outcome

answered : (asker : Asker) (db : Db) (shelf : Files) (asked : List Asked) (ts : List Printed) → answer_reply db Unrestricted asked ≡ reply.Tables ts → outcome_of_tree asker (checked.Answer asked) db shelf ≡ tables (sent_tables ts)
unfolding outcome_of_tree tree_meaning
answered asker db shelf asked ts e = ap (λ (r : Reply). outcome_by db shelf r) e

answer_refused : (asker : Asker) (db : Db) (shelf : Files) (asked : List Asked) (number : ℕ) → answer_reply db Unrestricted asked ≡ reply.Refused (refusal number) → outcome_of_tree asker (checked.Answer asked) db shelf ≡ refuses (refusal number)
unfolding outcome_of_tree tree_meaning
answer_refused asker db shelf asked number e = ap (λ (r : Reply). outcome_by db shelf r) e

changed : (asker : Asker) (db : Db) (shelf : Files) (u : Update) (c : DbChange) → updated db Unrestricted u ≡ Ok c → outcome_of_tree asker (checked.Update u) db shelf ≡ made (laid db c) shelf
unfolding outcome_of_tree tree_meaning
changed asker db shelf u c e = ap (λ (r : Result DbChange ℕ). outcome_of_effect (numbered_effect db shelf r)) e

update_refused : (asker : Asker) (db : Db) (shelf : Files) (u : Update) (number : ℕ) → updated db Unrestricted u ≡ Err number → outcome_of_tree asker (checked.Update u) db shelf ≡ refuses (refusal number)
unfolding outcome_of_tree tree_meaning
update_refused asker db shelf u number e = ap (λ (r : Result DbChange ℕ). outcome_of_effect (numbered_effect db shelf r)) e

-- ---- where it stands then

-- it has these frames to give to its left, and is idle
idle_with : (got given frames : List Frame) → given ≡ frames → standing at.Idle got given [] ≡ record { mode = idle3; got_left = got; got_right = []; out_left = [] ++ frames; out_right = [] ++ [] }
idle_with got given frames e = ap (λ (fs : List Frame). standing at.Idle got fs []) e

-- it has these frames to give to its right, and passes on what comes back
passing_with : (got handed frames : List Frame) → handed ≡ frames → standing at.Passing got [] handed ≡ record { mode = passing3; got_left = got; got_right = []; out_left = [] ++ []; out_right = [] ++ frames }
passing_with got handed frames e = ap (λ (fs : List Frame). standing at.Passing got [] fs) e

-- ---- the work

-- what is known of a fit tree
fit_tree_for : (user : User) (t : Checked) (db : Db) (name : List ℕ) → user.asker.user ≡ name → is_fit db name t ≡ true → (checked_codec most_tree_levels).Fits t → IsDatabase db → IsFitTree user.asker t db
fit_tree_for user t db name en fit spelled is = record { fit = subst (λ (n : List ℕ). is_fit db n t ≡ true) (sym en) fit; spelled = spelled; database = is }

-- tables were shown
shows_tables : (user : User) (asked : List Asked) (known : Option Db) (got frames : List Frame) → ((db : Db) → known ≡ Some db → IsFitTree user.asker (checked.Answer asked) db) → ShowsTables asked known frames
    → HasWorked user (standing (at.Working (checked.Answer asked)) got [] []) (standing at.Idle got frames []) known
unfolding quel
shows_tables user asked known got frames fit w = record {
  act = says idle3 (answer_messages w.tables);
  is = idle_with got frames (spell (quel user) (answer_messages w.tables)) (w.are ∙ sym (answer_is user w.tables));
  shape = shape_tables (sent_tables w.tables) (tops_are w.tables asked w.heads) (tables_suit user (sent_tables w.tables) w.stand) (tables_spelled user (sent_tables w.tables) w.stand) refl;
  fit = fit;
  exact = λ room e. (rw (answered user.asker room.db room.shelf asked w.tables (w.exact room.db e)) refl, refl);
}

-- a refusal was shown in place of tables
refuses_answer : (user : User) (asked : List Asked) (known : Option Db) (got frames : List Frame) → ((db : Db) → known ≡ Some db → IsFitTree user.asker (checked.Answer asked) db)
    → ShowsRefusal (λ db number. answer_reply db Unrestricted asked ≡ reply.Refused (refusal number)) known frames
    → HasWorked user (standing (at.Working (checked.Answer asked)) got [] []) (standing at.Idle got frames []) known
unfolding quel
refuses_answer user asked known got frames fit w = record {
  act = says idle3 (said (replied (refused (refusal w.number))) ∷ []);
  is = idle_with got frames (spell (quel user) (said (replied (refused (refusal w.number))) ∷ [])) (w.are ∙ sym (refusal_is user w.number));
  shape = answer_refuses (record { refusal = refusal w.number; spelled = refusal_spelled user w.number w.among; is = refl });
  fit = fit;
  exact = λ room e. (rw (answer_refused user.asker room.db room.shelf asked w.number (w.exact room.db e)) refl, refl);
}

-- a refusal was shown in place of a change
refuses_update : (user : User) (u : Update) (known : Option Db) (got frames : List Frame) → ((db : Db) → known ≡ Some db → IsFitTree user.asker (checked.Update u) db)
    → ShowsRefusal (λ db number. updated db Unrestricted u ≡ Err number) known frames
    → HasWorked user (standing (at.Working (checked.Update u)) got [] []) (standing at.Idle got frames []) known
unfolding quel
refuses_update user u known got frames fit w = record {
  act = says idle3 (said (replied (refused (refusal w.number))) ∷ []);
  is = idle_with got frames (spell (quel user) (said (replied (refused (refusal w.number))) ∷ [])) (w.are ∙ sym (refusal_is user w.number));
  shape = update_refuses (record { refusal = refusal w.number; spelled = refusal_spelled user w.number w.among; is = refl });
  fit = fit;
  exact = λ room e. (rw (update_refused user.asker room.db room.shelf u w.number (w.exact room.db e)) refl, refl);
}

-- a change was handed on
hands_change : (user : User) (u : Update) (known : Option Db) (got : List Frame) (bytes : List ℕ) → ((db : Db) → known ≡ Some db → IsFitTree user.asker (checked.Update u) db) → ((db : Db) → known ≡ Some db → IsDatabase db) → HandsChange u known bytes
    → HasWorked user (standing (at.Working (checked.Update u)) got [] []) (standing at.Passing got [] (message_frames 5 bytes)) known
unfolding quel
hands_change user u known got bytes fit database w = record {
  act = hands passing3 (cargo (change w.sent));
  is = passing_with got (message_frames 5 bytes) (spell (quel user) (cargo (change w.sent) ∷ [])) (sym (by_frames user 5 bytes (cargo (change w.sent)) w.are));
  shape = shape_change w.sent (by_spelled user 5 bytes (cargo (change w.sent)) w.are) refl;
  fit = fit;
  exact = λ room e. (
    rw (changed user.asker room.db room.shelf u w.sent (w.exact room.db e).0)
        (w.sent, record { lawful = (w.exact room.db e).1; spelled = w.fits }, refl, refl, refl),
    refl,
  );
}

-- a tree was handed on
hands_tree : (user : User) (task : Utility) (known : Option Db) (got : List Frame) (bytes : List ℕ) → ((db : Db) → known ≡ Some db → IsFitTree user.asker (checked.Utility task) db) → AreBytesAt (at.Working (checked.Utility task)) bytes
    → HasWorked user (standing (at.Working (checked.Utility task)) got [] []) (standing at.Passing got [] (message_frames 2 bytes)) known
unfolding quel
hands_tree user task known got bytes fit are = record {
  act = hands passing3 (cargo (tree (checked.Utility task)));
  is = passing_with got (message_frames 2 bytes) (spell (quel user) (cargo (tree (checked.Utility task)) ∷ [])) (sym (by_frames user 2 bytes (cargo (tree (checked.Utility task))) (are (checked.Utility task) refl)));
  shape = (by_spelled user 2 bytes (cargo (tree (checked.Utility task))) (are (checked.Utility task) refl), refl);
  fit = fit;
  exact = λ room e. (refl, refl);
}

-- this is where it stands then
shown_by : (user : User) (t : Checked) (known : Option Db) (got right : List Frame) (here' : At) (left' right' frames : List Frame) → right ≡ [] → here' ≡ at.Idle → left' ≡ frames → right' ≡ right
    → HasWorked user (standing (at.Working t) got [] []) (standing at.Idle got frames []) known → HasWorked user (standing (at.Working t) got [] []) (standing here' got left' right') known
shown_by user t known got right here' left' right' frames nr h l r w =
    subst (λ (x : At). HasWorked user (standing (at.Working t) got [] []) (standing x got left' right') known) (sym h)
    (subst (λ (fs : List Frame). HasWorked user (standing (at.Working t) got [] []) (standing at.Idle got fs right') known) (sym l)
    (subst (λ (fs : List Frame). HasWorked user (standing (at.Working t) got [] []) (standing at.Idle got frames fs) known) (sym (r ∙ nr)) w))

handed_by : (user : User) (t : Checked) (known : Option Db) (got left right : List Frame) (here' : At) (left' right' frames : List Frame) → left ≡ [] → right ≡ [] → here' ≡ at.Passing → left' ≡ left → right' ≡ right ++ frames
    → HasWorked user (standing (at.Working t) got [] []) (standing at.Passing got [] frames) known → HasWorked user (standing (at.Working t) got [] []) (standing here' got left' right') known
handed_by user t known got left right here' left' right' frames nl nr h l r w =
    subst (λ (x : At). HasWorked user (standing (at.Working t) got [] []) (standing x got left' right') known) (sym h)
    (subst (λ (fs : List Frame). HasWorked user (standing (at.Working t) got [] []) (standing at.Passing got fs right') known) (sym (l ∙ nl))
    (subst (λ (fs : List Frame). HasWorked user (standing (at.Working t) got [] []) (standing at.Passing got [] fs) known) (sym (r ∙ ap (λ (fs : List Frame). fs ++ frames) nr)) w))

-- by the tree and by what it came to
by_tree : (user : User) (t : Checked) (known : Option Db) (got left right : List Frame) (here' : At) (left' right' : List Frame) (made_of : Processed) → ((db : Db) → known ≡ Some db → IsFitTree user.asker t db) → ((db : Db) → known ≡ Some db → IsDatabase db)
    → left ≡ [] → right ≡ [] → ComesTo t known made_of → HasSettled (at.Working t) left right made_of here' left' right' → HasWorked user (standing (at.Working t) got [] []) (standing here' got left' right') known
by_tree user (checked.Answer asked) known got left right here' left' right' (processed.Shows frames) fit database nl nr (inl w) (h, l, r) = shown_by user (checked.Answer asked) known got right here' left' right' frames nr h l r (shows_tables user asked known got frames fit w)
by_tree user (checked.Answer asked) known got left right here' left' right' (processed.Shows frames) fit database nl nr (inr w) (h, l, r) = shown_by user (checked.Answer asked) known got right here' left' right' frames nr h l r (refuses_answer user asked known got frames fit w)
by_tree user (checked.Answer asked) known got left right here' left' right' (processed.Changes bytes) fit database nl nr w s = absurd w
by_tree user (checked.Answer asked) known got left right here' left' right' processed.HandsOn fit database nl nr w s = absurd w
by_tree user (checked.Update u) known got left right here' left' right' (processed.Shows frames) fit database nl nr w (h, l, r) = shown_by user (checked.Update u) known got right here' left' right' frames nr h l r (refuses_update user u known got frames fit w)
by_tree user (checked.Update u) known got left right here' left' right' (processed.Changes bytes) fit database nl nr w (h, l, r) = handed_by user (checked.Update u) known got left right here' left' right' (message_frames 5 bytes) nl nr h l r (hands_change user u known got bytes fit database w)
by_tree user (checked.Update u) known got left right here' left' right' processed.HandsOn fit database nl nr w s = absurd w
by_tree user (checked.Utility task) known got left right here' left' right' (processed.Shows frames) fit database nl nr w s = absurd w
by_tree user (checked.Utility task) known got left right here' left' right' (processed.Changes bytes) fit database nl nr w s = absurd w
by_tree user (checked.Utility task) known got left right here' left' right' processed.HandsOn fit database nl nr w (h, l, (bytes, are, r)) = handed_by user (checked.Utility task) known got left right here' left' right' (message_frames 2 bytes) nl nr h l r (hands_tree user task known got bytes fit are)

-- ---- the stage

-- it has a tree to work on, and nothing to give
pub record IsAtWork (here : At) (left right : List Frame) : Type 0 where
  pub working : IsWorking here
  pub none_left : left ≡ []
  pub none_right : right ≡ []

pub is_at_work : (here : At) (got left right : List Frame) → want (standing here got left right) ≡ work → IsAtWork here left right
is_at_work here got (f ∷ fs) right e = absurd (cc e)
is_at_work here got [] (f ∷ fs) e = absurd (cc e)
is_at_work at.Idle got [] [] e = absurd (cc e)
is_at_work (at.Working t) got [] [] e = record { working = tt; none_left = refl; none_right = refl }
is_at_work at.Passing got [] [] e = absurd (cc e)
is_at_work at.Ended got [] [] e = absurd (cc e)

-- what it has done
pub has_worked : (user : User) (name : List ℕ) (here : At) (t : Checked) (got got' left right : List Frame) (here' : At) (left' right' : List Frame) (made_of : Processed) (known : Option Db) → want (standing here got left right) ≡ work → here ≡ at.Working t
    → user.asker.user ≡ name → (checked_codec most_tree_levels).Fits t → ((db : Db) → known ≡ Some db → IsDatabase db) → Comes name t known made_of → got' ≡ got → HasSettled here left right made_of here' left' right'
    → HasWorked user (standing here got left right) (standing here' got' left' right') known
has_worked user name here t got got' left right here' left' right' made_of known w is en spelled database c same settled =
    let n = is_at_work here got left right w in
    let done : HasWorked user (standing (at.Working t) got [] []) (standing here' got left' right') known =
    by_tree user t known got left right here' left' right' made_of (λ db e. fit_tree_for user t db name en (c.fit db e) spelled (database db e)) database n.none_left n.none_right c.how
    (subst (λ (x : At). HasSettled x left right made_of here' left' right') is settled) in
    subst (λ (fs : List Frame). HasWorked user (standing here got left right) (standing here' fs left' right') known) (sym same)
    (subst (λ (x : At). HasWorked user (standing x got left right) (standing here' got left' right') known) (sym is)
    (subst (λ (fs : List Frame). HasWorked user (standing (at.Working t) got fs right) (standing here' got left' right') known) (sym n.none_left)
    (subst (λ (fs : List Frame). HasWorked user (standing (at.Working t) got [] fs) (standing here' got left' right') known) (sym n.none_right) done)))

unfit_at : (user : User) (name : List ℕ) (t : Checked) (got left right : List Frame) (known : Option Db) → user.asker.user ≡ name → IsUnfit name t known → MayNotBeWorkedOn user (standing (at.Working t) got left right) known
unfolding quel
unfit_at user name t got left right known en unfit db e fit =
    unfit db e (record { fit = subst (λ (n : List ℕ). is_fit db n t ≡ true) en fit.fit; spelled = fit.spelled; database = fit.database })

-- what it found unfit
pub found_unfit : (user : User) (name : List ℕ) (here : At) (t : Checked) (got left right : List Frame) (known : Option Db) → here ≡ at.Working t → user.asker.user ≡ name → IsUnfit name t known → MayNotBeWorkedOn user (standing here got left right) known
found_unfit user name here t got left right known is en unfit =
    subst (λ (x : At). MayNotBeWorkedOn user (standing x got left right) known) (sym is) (unfit_at user name t got left right known en unfit)

-- memory was wanting behind what was asked
pub memory_cause : {T : Type 0} (known : Option Db) (before now : ℕ) (r : Result T WorkFault) → now ≡ before → IfErr r (λ f. f ≡ faults.OutOfMemory) → IsCausedHere known before now r
memory_cause known before now (Ok x) e h = e
memory_cause known before now (Err f) e h = subst (λ (x : WorkFault). MayComeHere known before now x) (sym h) e

pub memory_lawful : {T : Type 0} (r : Result T WorkFault) → IfErr r (λ f. f ≡ faults.OutOfMemory) → IsErrOf r faults.Unlawful → ⊥
memory_lawful (Ok x) h e = cc e
memory_lawful (Err f) h e = let is : f ≡ faults.Unlawful = cc e in let no : faults.OutOfMemory ≡ faults.Unlawful = sym h ∙ is in cc no
