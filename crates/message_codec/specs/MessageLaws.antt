-- What bytes are read as, and what messages are as frames: the laws.
use Rattle.std.specs.Prelude.{◌≡◌, ◌==◌, ℕ, Bool, true, false, List, [], ◌∷◌, ◌++◌, Some, None, Option, option_map}
use Rattle.std.proofs.Common.{refl, sym, ap, subst, ◌∙◌, append_assoc}
use Rattle.std.proofs.lemmas.Bool.{eqb-true}
use Rattle.std.proofs.lemmas.Grind.{flat_map-append}
use Rattle.std.proofs.lemmas.List.{append-nil}
use Rattle.calculus.specs.declared.change.DbChange.{DbChange}
use Rattle.calculus.specs.declared.reply.Column.{Column}
use Rattle.calculus.specs.declared.reply.Refusal.{Refusal}
use Rattle.calculus.specs.declared.request.Checked.{Checked}
use Rattle.calculus.specs.Rows.{Row}
use Rattle.frame_codec.specs.declared.frame.Frame.{Frame}
use Rattle.frame_codec.specs.Messages.{message_frames}
use Rattle.message_codec.specs.Messages.{IsOf, IsSpelled}
use Rattle.network_meaning.specs.Frames.{frames, kind_of, last_of, payloads, read_by, spell, whole}
use Rattle.network_meaning.specs.Sorts.{Message, Cargo.tree, Cargo.change, Shown.head, Shown.row, Reply.done, Reply.refused, Said.shown, Said.replied, Message.text, Message.cargo, Message.said, Message.end, Message.quit}
use Rattle.network_meaning.specs.Spelled.{Spelled}
use Rattle.quel_network.specs.CodecLaws.{made_again, only_spelled, refusal_exact}
use Rattle.quel_network.specs.Quel.{quel}
use Rattle.quel_network.specs.RefusalLaws.{HasSpelling, as_refused, refused_again, refused_of, refused_only, was_refused}
use Rattle.quel_network.specs.Sorts.{User, quel_sorts}
use Rattle.quel_network.specs.Spelling.{if_empty, message_by, payload_of, refusal_codec, spelled_by}
use Rattle.quel_tree.specs.ChangeLaws.{change_exact}
use Rattle.quel_tree.specs.Changes.{change as change_codec}
use Rattle.quel_tree.specs.Message.{most_tree_levels}
use Rattle.quel_tree.specs.MessageLaws.{two_of_them}
use Rattle.quel_tree.specs.RelationLaws.{columns_exact}
use Rattle.quel_tree.specs.Relations.{columns as columns_codec}
use Rattle.quel_tree.specs.RequestLaws.{checked_exact}
use Rattle.quel_tree.specs.Requests.{checked as checked_codec}
use Rattle.quel_tree.specs.ValueLaws.{row_exact}
use Rattle.quel_tree.specs.Values.{row as row_codec}
use Rattle.tree_words.specs.Codec.{Codec}
use Rattle.tree_words.specs.Exact.{Exact}

-- ---- messages of values that have a spelling

-- a value as a message
abbrev as_tree : Checked → Message quel_sorts
as_tree t = cargo (tree t)

abbrev as_change : DbChange → Message quel_sorts
as_change c = cargo (change c)

abbrev as_head : List Column → Message quel_sorts
as_head h = said (shown (head h))

abbrev as_row : Row → Message quel_sorts
as_row r = said (shown (row r))

text_is : (t : List ℕ) → IsOf 1 t (text t)
unfolding payload_of message_by
text_is t = record { kind_is = refl; bytes_are = refl; spelled = refl; is_kind = refl }

tree_is : (t : Checked) → (checked_codec most_tree_levels).Fits t → IsOf 2 ((checked_codec most_tree_levels).write t) (cargo (tree t))
unfolding payload_of message_by
tree_is t fits = record { kind_is = refl; bytes_are = refl; spelled = made_again (checked_codec most_tree_levels) as_tree (checked_exact most_tree_levels two_of_them) t fits; is_kind = refl }

head_is : (h : List Column) → columns_codec.Fits h → IsOf 3 (columns_codec.write h) (said (shown (head h)))
unfolding payload_of message_by
head_is h fits = record { kind_is = refl; bytes_are = refl; spelled = made_again columns_codec as_head columns_exact h fits; is_kind = refl }

row_is : (r : Row) → row_codec.Fits r → IsOf 4 (row_codec.write r) (said (shown (row r)))
unfolding payload_of message_by
row_is r fits = record { kind_is = refl; bytes_are = refl; spelled = made_again row_codec as_row row_exact r fits; is_kind = refl }

change_is : (c : DbChange) → (change_codec most_tree_levels).Fits c → IsOf 5 ((change_codec most_tree_levels).write c) (cargo (change c))
unfolding payload_of message_by
change_is c fits = record { kind_is = refl; bytes_are = refl; spelled = made_again (change_codec most_tree_levels) as_change (change_exact most_tree_levels two_of_them) c fits; is_kind = refl }

refused_is : (r : Refusal) → HasSpelling r → IsOf 7 (refusal_codec.write r) (said (replied (refused r)))
unfolding payload_of message_by
refused_is r has = record { kind_is = refl; bytes_are = refl; spelled = refused_again r has; is_kind = refl }

end_is : IsOf 6 [] end
unfolding payload_of message_by
end_is = record { kind_is = refl; bytes_are = refl; spelled = refl; is_kind = refl }

done_is : IsOf 8 [] (said (replied done))
unfolding payload_of message_by
done_is = record { kind_is = refl; bytes_are = refl; spelled = refl; is_kind = refl }

quit_is : IsOf 10 [] quit
unfolding payload_of message_by
quit_is = record { kind_is = refl; bytes_are = refl; spelled = refl; is_kind = refl }

-- ---- what is read is what was written

-- a test picks one of two
picks : {A : Type 0} (b : Bool) (x y : Option A) (m : A) (P : Type 0) → ◌≡◌ {A = Option A} (elim b [ true ↦ x | false ↦ y ]) (Some m) → (b ≡ true → x ≡ Some m → P) → (b ≡ false → y ≡ Some m → P) → P
picks true x y m P e h k = h refl e
picks false x y m P e h k = k refl e

-- the same message, of another kind that is the same
of_kind : (n kind : ℕ) (bytes : List ℕ) (m : Message quel_sorts) → (kind == n) ≡ true → IsOf n bytes m → IsOf kind bytes m
of_kind n kind bytes m e is = subst (λ (k : ℕ). IsOf k bytes m) (sym (eqb-true kind n e)) is

text_only : (kind : ℕ) (bytes : List ℕ) (m : Message quel_sorts) → (kind == 1) ≡ true → ◌≡◌ {A = Option (Message quel_sorts)} (Some (text bytes)) (Some m) → IsOf kind bytes m
text_only kind bytes m e is = let same : text bytes ≡ m = cc is in of_kind 1 kind bytes m e (subst (λ (x : Message quel_sorts). IsOf 1 bytes x) same (text_is bytes))

empty_only : (n kind : ℕ) (bytes : List ℕ) (x m : Message quel_sorts) → IsOf n [] x → (kind == n) ≡ true → if_empty x bytes ≡ Some m → IsOf kind bytes m
empty_only n kind [] x m h e is = let same : x ≡ m = cc is in of_kind n kind [] m e (subst (λ (y : Message quel_sorts). IsOf n [] y) same h)
empty_only n kind (b ∷ bytes) x m h e is = absurd (cc is)

-- what was read of a codec's bytes, and made into a message
made_only : {A : Type 0} (codec : Codec A) (make : A → Message quel_sorts) (n kind : ℕ) (bytes : List ℕ) (m : Message quel_sorts) → Exact codec → ((a : A) → codec.Fits a → IsOf n (codec.write a) (make a)) → (kind == n) ≡ true
    → option_map make (spelled_by codec bytes) ≡ Some m → IsOf kind bytes m
made_only {A = A} codec make n kind bytes m exact h e is = go (spelled_by codec bytes) refl is
  where
    go : (o : Option A) → spelled_by codec bytes ≡ o → option_map make o ≡ Some m → IsOf kind bytes m
    go None f is = absurd (cc is)
    go (Some a) f is =
        let o = only_spelled codec exact bytes a f in
        let same : make a ≡ m = cc is in
        of_kind n kind bytes m e (subst (λ (x : Message quel_sorts). IsOf n bytes x) same (subst (λ (bs : List ℕ). IsOf n bs (make a)) (sym o.1) (h a o.0)))

refused_by_kind : (kind : ℕ) (bytes : List ℕ) (m : Message quel_sorts) → (kind == 7) ≡ true → refused_of (spelled_by refusal_codec bytes) ≡ Some m → IsOf kind bytes m
refused_by_kind kind bytes m e is =
    let was = was_refused (spelled_by refusal_codec bytes) m is in
    let o = only_spelled refusal_codec refusal_exact bytes was.one was.is in
    let has : HasSpelling was.one = record { known = was.known; fits = o.0 } in
    of_kind 7 kind bytes m e (subst (λ (x : Message quel_sorts). IsOf 7 bytes x) was.message (subst (λ (bs : List ℕ). IsOf 7 bs (as_refused was.one)) (sym o.1) (refused_is was.one has)))

-- bytes that are read as a message are its bytes, and their kind is its own; and it has a spelling
pub by_only : (kind : ℕ) (bytes : List ℕ) (m : Message quel_sorts) → message_by kind bytes ≡ Some m → IsOf kind bytes m
unfolding message_by
by_only kind bytes m e =
    let P : Type 0 = IsOf kind bytes m in
    picks (kind == 1) _ _ m P e (λ t is. text_only kind bytes m t is) (λ f1 e1.
    picks (kind == 2) _ _ m P e1 (λ t is. made_only (checked_codec most_tree_levels) as_tree 2 kind bytes m (checked_exact most_tree_levels two_of_them) tree_is t is) (λ f2 e2.
    picks (kind == 3) _ _ m P e2 (λ t is. made_only columns_codec as_head 3 kind bytes m columns_exact head_is t is) (λ f3 e3.
    picks (kind == 4) _ _ m P e3 (λ t is. made_only row_codec as_row 4 kind bytes m row_exact row_is t is) (λ f4 e4.
    picks (kind == 5) _ _ m P e4 (λ t is. made_only (change_codec most_tree_levels) as_change 5 kind bytes m (change_exact most_tree_levels two_of_them) change_is t is) (λ f5 e5.
    picks (kind == 6) _ _ m P e5 (λ t is. empty_only 6 kind bytes end m end_is t is) (λ f6 e6.
    picks (kind == 7) _ _ m P e6 (λ t is. refused_by_kind kind bytes m t is) (λ f7 e7.
    picks (kind == 8) _ _ m P e7 (λ t is. empty_only 8 kind bytes (said (replied done)) m done_is t is) (λ f8 e8.
    picks (kind == 10) _ _ m P e8 (λ t is. empty_only 10 kind bytes quit m quit_is t is) (λ f9 e9. absurd (cc e9))))))))))

-- ---- a spelling for each user

pub spelled_for : (user : User) (m : Message quel_sorts) → IsSpelled m → Spelled (quel user) m
unfolding quel
spelled_for user m is = is

pub spelled_from : (user : User) (m : Message quel_sorts) → Spelled (quel user) m → IsSpelled m
unfolding quel
spelled_from user m is = is

pub by_spelled : (user : User) (kind : ℕ) (bytes : List ℕ) (m : Message quel_sorts) → message_by kind bytes ≡ Some m → Spelled (quel user) m
by_spelled user kind bytes m e = spelled_for user m (by_only kind bytes m e).spelled

-- a refusal that is read has a number that refusals have
pub refused_known : (r : Refusal) (kind : ℕ) (bytes : List ℕ) → message_by kind bytes ≡ Some (said (replied (refused r))) → HasSpelling r
unfolding payload_of message_by
refused_known r kind bytes e = refused_only r (by_only kind bytes (said (replied (refused r))) e).spelled

-- ---- values that fit

pub tree_by : (t : Checked) (bytes : List ℕ) → (checked_codec most_tree_levels).Fits t → bytes ≡ (checked_codec most_tree_levels).write t → message_by 2 bytes ≡ Some (cargo (tree t))
unfolding message_by
tree_by t bytes fits e = ap (λ (bs : List ℕ). message_by 2 bs) e ∙ made_again (checked_codec most_tree_levels) as_tree (checked_exact most_tree_levels two_of_them) t fits

pub head_by : (h : List Column) (bytes : List ℕ) → columns_codec.Fits h → bytes ≡ columns_codec.write h → message_by 3 bytes ≡ Some (said (shown (head h)))
unfolding message_by
head_by h bytes fits e = ap (λ (bs : List ℕ). message_by 3 bs) e ∙ made_again columns_codec as_head columns_exact h fits

pub row_by : (r : Row) (bytes : List ℕ) → row_codec.Fits r → bytes ≡ row_codec.write r → message_by 4 bytes ≡ Some (said (shown (row r)))
unfolding message_by
row_by r bytes fits e = ap (λ (bs : List ℕ). message_by 4 bs) e ∙ made_again row_codec as_row row_exact r fits

pub change_by : (c : DbChange) (bytes : List ℕ) → (change_codec most_tree_levels).Fits c → bytes ≡ (change_codec most_tree_levels).write c → message_by 5 bytes ≡ Some (cargo (change c))
unfolding message_by
change_by c bytes fits e = ap (λ (bs : List ℕ). message_by 5 bs) e ∙ made_again (change_codec most_tree_levels) as_change (change_exact most_tree_levels two_of_them) c fits

pub refused_by : (r : Refusal) (bytes : List ℕ) → HasSpelling r → bytes ≡ refusal_codec.write r → message_by 7 bytes ≡ Some (said (replied (refused r)))
unfolding message_by
refused_by r bytes has e = ap (λ (bs : List ℕ). message_by 7 bs) e ∙ refused_again r has

-- a value whose message is read again fits
made_fits : {A : Type 0} (codec : Codec A) (make : A → Message quel_sorts) (a : A) (bytes : List ℕ) → ((x y : A) → make x ≡ make y → x ≡ y) → Exact codec → option_map make (spelled_by codec bytes) ≡ Some (make a) → codec.Fits a
made_fits {A = A} codec make a bytes one exact is = go (spelled_by codec bytes) refl is
  where
    go : (o : Option A) → spelled_by codec bytes ≡ o → option_map make o ≡ Some (make a) → codec.Fits a
    go None f is = absurd (cc is)
    go (Some b) f is =
        let made : make b ≡ make a = cc is in
        subst codec.Fits (one b a made) (only_spelled codec exact bytes b f).0

one_tree : (x y : Checked) → as_tree x ≡ as_tree y → x ≡ y
one_tree x y e = cc e

one_head : (x y : List Column) → as_head x ≡ as_head y → x ≡ y
one_head x y e = cc e

one_row : (x y : Row) → as_row x ≡ as_row y → x ≡ y
one_row x y e = cc e

one_change : (x y : DbChange) → as_change x ≡ as_change y → x ≡ y
one_change x y e = cc e

pub tree_fits : (user : User) (t : Checked) → Spelled (quel user) (cargo (tree t)) → (checked_codec most_tree_levels).Fits t
unfolding quel payload_of message_by
tree_fits user t is = made_fits (checked_codec most_tree_levels) as_tree t ((checked_codec most_tree_levels).write t) one_tree (checked_exact most_tree_levels two_of_them) is

pub head_fits : (user : User) (h : List Column) → Spelled (quel user) (said (shown (head h))) → columns_codec.Fits h
unfolding quel payload_of message_by
head_fits user h is = made_fits columns_codec as_head h (columns_codec.write h) one_head columns_exact is

pub row_fits : (user : User) (r : Row) → Spelled (quel user) (said (shown (row r))) → row_codec.Fits r
unfolding quel payload_of message_by
row_fits user r is = made_fits row_codec as_row r (row_codec.write r) one_row row_exact is

pub change_fits : (user : User) (c : DbChange) → Spelled (quel user) (cargo (change c)) → (change_codec most_tree_levels).Fits c
unfolding quel payload_of message_by
change_fits user c is = made_fits (change_codec most_tree_levels) as_change c ((change_codec most_tree_levels).write c) one_change (change_exact most_tree_levels two_of_them) is

pub refused_has : (user : User) (r : Refusal) → Spelled (quel user) (said (replied (refused r))) → HasSpelling r
unfolding quel payload_of message_by
refused_has user r is = refused_only r is

pub tree_spelled : (user : User) (t : Checked) → (checked_codec most_tree_levels).Fits t → Spelled (quel user) (cargo (tree t))
tree_spelled user t fits = spelled_for user (cargo (tree t)) (tree_is t fits).spelled

pub change_spelled : (user : User) (c : DbChange) → (change_codec most_tree_levels).Fits c → Spelled (quel user) (cargo (change c))
change_spelled user c fits = spelled_for user (cargo (change c)) (change_is c fits).spelled

-- ---- frames

-- one message is spelled as the frames of its kind and its bytes
pub spell_alone : (user : User) (m : Message quel_sorts) → spell (quel user) (m ∷ []) ≡ message_frames (kind_of m) (payload_of m)
unfolding quel
spell_alone user m = append-nil (message_frames (kind_of m) (payload_of m))

-- messages behind others are spelled behind those
pub spell_behind : (user : User) (ms ns : List (Message quel_sorts)) → spell (quel user) (ms ++ ns) ≡ spell (quel user) ms ++ spell (quel user) ns
spell_behind user [] ns = refl
spell_behind user (m ∷ ms) ns = ap (λ (fs : List Frame). frames (quel user) m ++ fs) (spell_behind user ms ns) ∙ sym (append_assoc (frames (quel user) m) (spell (quel user) ms) (spell (quel user) ns))

-- what was read is spelled as the frames of its kind and its bytes
pub by_frames : (user : User) (kind : ℕ) (bytes : List ℕ) (m : Message quel_sorts) → message_by kind bytes ≡ Some m → spell (quel user) (m ∷ []) ≡ message_frames kind bytes
by_frames user kind bytes m e =
    let o = by_only kind bytes m e in
    spell_alone user m ∙ ap (λ (k : ℕ). message_frames k (payload_of m)) (sym o.kind_is) ∙ ap (λ (bs : List ℕ). message_frames kind bs) (sym o.bytes_are)

last_behind : (fs : List Frame) (f : Frame) → last_of (fs ++ f ∷ []) ≡ Some f
last_behind [] f = refl
last_behind (g ∷ []) f = refl
last_behind (g ∷ h ∷ fs) f = last_behind (h ∷ fs) f

-- the last frame of a message gives its kind, and all of them the bytes
pub whole_behind : (user : User) (got : List Frame) (f : Frame) → whole (quel user) (got ++ f ∷ []) ≡ message_by f.kind (payloads got ++ f.payload)
unfolding quel
whole_behind user got f =
    ap (λ (o : Option Frame). read_by (quel user) o (payloads (got ++ f ∷ []))) (last_behind got f)
    ∙ ap (λ (bs : List ℕ). message_by f.kind bs) (flat_map-append (λ (x : Frame). x.payload) got (f ∷ []) ∙ ap (λ (bs : List ℕ). payloads got ++ bs) (append-nil f.payload))
