-- Frames that are put one behind the other.
use Rattle.std.proofs.Common.{◌≡◌, sym, ap, subst, ◌∙◌, append_assoc, ℕ, List, [], ◌∷◌, ◌++◌, length, map, arith, Result, Ok, Err}
use Rattle.std.specs.Prelude.{OnOk, Some}
use Rattle.std.proofs.lemmas.List.{append-nil}
use Rattle.calculus.specs.declared.reply.Table.{Table as Printed}
use Rattle.calculus.specs.Rows.{Row}
use Rattle.frame_codec.specs.declared.frame.Frame.{Frame}
use Rattle.frame_codec.specs.Messages.{message_frames}
use Rattle.message_codec.specs.MessageLaws.{by_only}
use Rattle.network_meaning.specs.Sorts.{Message.said, Reply.refused, Said.replied}
use Rattle.quel_meaning.proofs.Each.{Each}
use Rattle.quel_meaning.specs.Copying.{refusal}
use Rattle.quel_network.specs.Spelling.{message_by, payload_of}
use Rattle.quel_network.specs.TableFits.{RowStands, TableStands}
use Rattle.quel_network.specs.Trees.{sent_table}
use Rattle.quel_tree.specs.Relations.{columns as columns_codec}
use Rattle.quel_tree.specs.Values.{row as row_codec}
use Rattle.calculus.specs.declared.reply.Column.{Column}
use Rattle.stage_proc.specs.Sending.{refusal_frames, rows_frames, table_frames}

-- the frames of a message of these bytes are behind others
pub put_so : {E : Type 0} (r : Result (Unit {0}) E) (old new : List Frame) (kind : ℕ) (bytes written : List ℕ) → bytes ≡ written → OnOk r (new ≡ old ++ message_frames kind bytes) → OnOk r (new ≡ old ++ message_frames kind written)
put_so r old new kind bytes written e h = subst (λ (bs : List ℕ). OnOk r (new ≡ old ++ message_frames kind bs)) e h

-- ---- items that are put one by one

-- one is put, and the rest is left
pub next_put : {X : Type 0} (framed : X → List Frame) (all_framed : List X → List Frame) → ((x : X) (xs : List X) → all_framed (x ∷ xs) ≡ framed x ++ all_framed xs) → (now then whole : List Frame) (x : X) (xs rest : List X)
    → then ≡ now ++ framed x → rest ≡ x ∷ xs → now ++ all_framed rest ≡ whole → then ++ all_framed xs ≡ whole
next_put framed all_framed more now then whole x xs rest put is inv =
    ap (λ fs. fs ++ all_framed xs) put ∙ append_assoc now (framed x) (all_framed xs) ∙ ap (λ fs. now ++ fs) (sym (more x xs)) ∙ ap (λ ys. now ++ all_framed ys) (sym is) ∙ inv

-- none is left
pub none_left : {X : Type 0} (all_framed : List X → List Frame) → all_framed [] ≡ [] → (now whole : List Frame) (rest : List X) → length rest ≡ 0 → now ++ all_framed rest ≡ whole → now ≡ whole
none_left all_framed empty now whole [] none inv = sym (append-nil now) ∙ ap (λ fs. now ++ fs) (sym empty) ∙ inv
none_left all_framed empty now whole (x ∷ rest) none inv = absurd (omega (arith, none))

-- what holds of each of some items holds of the first and of those behind it
pub first_of_rest : {X : Type 0} (P : X → Type 0) (x : X) (xs rest : List X) → rest ≡ x ∷ xs → Each P rest → P x × Each P xs
first_of_rest P x xs rest e h = subst (λ ys. Each P ys) e h

pub first_table : (t : Printed) (ts rest : List Printed) → rest ≡ t ∷ ts → Each TableStands (map sent_table rest) → TableStands (sent_table t) × Each TableStands (map sent_table ts)
first_table t ts rest e h = subst (λ (xs : List Printed). Each TableStands (map sent_table xs)) e h

-- ---- a table

rows_fit : (head : List Column) (rows : List Row) → Each (RowStands head) rows → Each (λ (r : Row). row_codec.Fits r) rows
rows_fit head [] h = tt
rows_fit head (r ∷ rows) h = (h.0.spelled, rows_fit head rows h.1)

-- the rows of a table that stands have spellings
pub rows_of_table : (t : Printed) (rows : List Row) → TableStands (sent_table t) → rows ≡ t.rows → Each (λ (r : Row). row_codec.Fits r) rows
rows_of_table t rows s e = subst (λ (rs : List Row). Each (λ (r : Row). row_codec.Fits r) rs) (sym e) (rows_fit t.columns t.rows s.rows)

pub table_put : {E : Type 0} (r : Result (Unit {0}) E) (t : Printed) (rows : List Row) (old mid new : List Frame) → rows ≡ t.rows → mid ≡ old ++ message_frames 3 (columns_codec.write t.columns) → OnOk r (new ≡ mid ++ rows_frames rows)
    → OnOk r (new ≡ old ++ table_frames t)
table_put (Ok x) t rows old mid new e head h =
    h ∙ ap (λ (rs : List Row). mid ++ rows_frames rs) e ∙ ap (λ (fs : List Frame). fs ++ rows_frames t.rows) head ∙ append_assoc old (message_frames 3 (columns_codec.write t.columns)) (rows_frames t.rows)
table_put (Err e) t rows old mid new is head h = tt

-- ---- a refusal

pub refusal_put : (number kind : ℕ) (bytes : List ℕ) (out : List Frame) → message_by kind bytes ≡ Some (said (replied (refused (refusal number)))) → out ≡ [] ++ message_frames kind bytes → out ≡ refusal_frames number
unfolding payload_of
refusal_put number kind bytes out e put =
    let o = by_only kind bytes (said (replied (refused (refusal number)))) e in
    put ∙ (λ i. message_frames (o.kind_is i) (o.bytes_are i))
