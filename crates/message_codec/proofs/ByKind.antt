-- What bytes are read as, kind by kind.
use Rattle.std.specs.Prelude.{◌≡◌, ◌==◌, ℕ, Bool, true, false, List, [], ◌∷◌, Some, None, Option, option_and_then, option_map}
use Rattle.std.proofs.Common.{refl, sym, ap, ◌∙◌}
use Rattle.calculus.specs.declared.change.DbChange.{DbChange}
use Rattle.calculus.specs.declared.reply.Column.{Column}
use Rattle.calculus.specs.declared.reply.Refusal.{Refusal}
use Rattle.calculus.specs.declared.request.Checked.{Checked}
use Rattle.calculus.specs.Rows.{Row}
use Rattle.message_codec.specs.declared.messages.StageMessage.{StageMessage}
use Rattle.message_codec.specs.declared.messages.StageMessage.TheVariants as stage
use Rattle.message_codec.specs.Messages.{message}
use Rattle.network_meaning.specs.Sorts.{Message, Cargo.tree, Cargo.change, Shown.head, Shown.row, Reply.refused, Said.shown, Said.replied, Message.text, Message.cargo, Message.said}
use Rattle.quel_network.specs.Sorts.{quel_sorts}
use Rattle.quel_network.specs.Spelling.{if_empty, is_refusal_number, known_refusal, message_by, refusal_codec, spelled_by}
use Rattle.quel_tree.specs.Changes.{change as change_codec}
use Rattle.quel_tree.specs.Message.{most_tree_levels}
use Rattle.quel_tree.specs.Relations.{columns as columns_codec}
use Rattle.quel_tree.specs.Requests.{checked as checked_codec}
use Rattle.quel_tree.specs.Values.{row as row_codec}

-- ---- a value that was read, or none

pub text_read : (bytes : List ℕ) → ◌≡◌ {A = Option (Message quel_sorts)} (Some (text bytes)) (message_by 1 bytes)
unfolding message_by
text_read bytes = refl

tree_read : (o : Option Checked) (bytes : List ℕ) → o ≡ spelled_by (checked_codec most_tree_levels) bytes → option_map (λ (x : Checked). cargo (tree x)) o ≡ message_by 2 bytes
unfolding message_by
tree_read o bytes e = ap (λ (y : Option Checked). option_map (λ (x : Checked). cargo (tree x)) y) e

pub tree_came : (o : Option Checked) (x y : Checked) (bytes : List ℕ) → o ≡ spelled_by (checked_codec most_tree_levels) bytes → o ≡ Some x → y ≡ x → ◌≡◌ {A = Option (Message quel_sorts)} (Some (cargo (tree y))) (message_by 2 bytes)
tree_came o x y bytes e is same = ap (λ (z : Checked). Some (cargo (tree z))) same ∙ tree_read (Some x) bytes (sym is ∙ e)

pub tree_none : (o : Option Checked) (bytes : List ℕ) → o ≡ spelled_by (checked_codec most_tree_levels) bytes → o ≡ None → ◌≡◌ {A = Option (Message quel_sorts)} None (message_by 2 bytes)
tree_none o bytes e is = tree_read None bytes (sym is ∙ e)

head_read : (o : Option (List Column)) (bytes : List ℕ) → o ≡ spelled_by columns_codec bytes → option_map (λ (x : List Column). said (shown (head x))) o ≡ message_by 3 bytes
unfolding message_by
head_read o bytes e = ap (λ (y : Option (List Column)). option_map (λ (x : List Column). said (shown (head x))) y) e

pub head_came : (o : Option (List Column)) (x y : List Column) (bytes : List ℕ) → o ≡ spelled_by columns_codec bytes → o ≡ Some x → y ≡ x → ◌≡◌ {A = Option (Message quel_sorts)} (Some (said (shown (head y)))) (message_by 3 bytes)
head_came o x y bytes e is same = ap (λ (z : List Column). Some (said (shown (head z)))) same ∙ head_read (Some x) bytes (sym is ∙ e)

pub head_none : (o : Option (List Column)) (bytes : List ℕ) → o ≡ spelled_by columns_codec bytes → o ≡ None → ◌≡◌ {A = Option (Message quel_sorts)} None (message_by 3 bytes)
head_none o bytes e is = head_read None bytes (sym is ∙ e)

row_read : (o : Option Row) (bytes : List ℕ) → o ≡ spelled_by row_codec bytes → option_map (λ (x : Row). said (shown (row x))) o ≡ message_by 4 bytes
unfolding message_by
row_read o bytes e = ap (λ (y : Option Row). option_map (λ (x : Row). said (shown (row x))) y) e

pub row_came : (o : Option Row) (x y : Row) (bytes : List ℕ) → o ≡ spelled_by row_codec bytes → o ≡ Some x → y ≡ x → ◌≡◌ {A = Option (Message quel_sorts)} (Some (said (shown (row y)))) (message_by 4 bytes)
row_came o x y bytes e is same = ap (λ (z : Row). Some (said (shown (row z)))) same ∙ row_read (Some x) bytes (sym is ∙ e)

pub row_none : (o : Option Row) (bytes : List ℕ) → o ≡ spelled_by row_codec bytes → o ≡ None → ◌≡◌ {A = Option (Message quel_sorts)} None (message_by 4 bytes)
row_none o bytes e is = row_read None bytes (sym is ∙ e)

change_read : (o : Option DbChange) (bytes : List ℕ) → o ≡ spelled_by (change_codec most_tree_levels) bytes → option_map (λ (x : DbChange). cargo (change x)) o ≡ message_by 5 bytes
unfolding message_by
change_read o bytes e = ap (λ (y : Option DbChange). option_map (λ (x : DbChange). cargo (change x)) y) e

pub change_came : (o : Option DbChange) (x y : DbChange) (bytes : List ℕ) → o ≡ spelled_by (change_codec most_tree_levels) bytes → o ≡ Some x → y ≡ x → ◌≡◌ {A = Option (Message quel_sorts)} (Some (cargo (change y))) (message_by 5 bytes)
change_came o x y bytes e is same = ap (λ (z : DbChange). Some (cargo (change z))) same ∙ change_read (Some x) bytes (sym is ∙ e)

pub change_none : (o : Option DbChange) (bytes : List ℕ) → o ≡ spelled_by (change_codec most_tree_levels) bytes → o ≡ None → ◌≡◌ {A = Option (Message quel_sorts)} None (message_by 5 bytes)
change_none o bytes e is = change_read None bytes (sym is ∙ e)

-- the refusal that was read, where some refusal has its number
abbrev known_as : Option Refusal → Option (Message quel_sorts)
known_as o = option_map (λ (r : Refusal). said (replied (refused r))) (option_and_then known_refusal o)

refusals_read : (o : Option Refusal) (bytes : List ℕ) → o ≡ spelled_by refusal_codec bytes → known_as o ≡ message_by 7 bytes
unfolding message_by
refusals_read o bytes e = ap known_as e

-- a refusal as a message, where this holds
abbrev told : Refusal → Bool → Option (Message quel_sorts)
told r b = option_map (λ (x : Refusal). said (replied (refused x))) (elim b as (λ _. Option Refusal) [ true ↦ Some r | false ↦ None ])

known_by : (r : Refusal) (b : Bool) → is_refusal_number r.code ≡ b → known_as (Some r) ≡ told r b
known_by r b e = ap (λ (x : Bool). told r x) e

pub refusal_read : (r : Refusal) (bytes : List ℕ) → Some r ≡ spelled_by refusal_codec bytes → is_refusal_number r.code ≡ true → Some (said (replied (refused r))) ≡ message_by 7 bytes
refusal_read r bytes e known = sym (known_by r true known) ∙ refusals_read (Some r) bytes e

pub refusal_unknown : (r : Refusal) (bytes : List ℕ) → Some r ≡ spelled_by refusal_codec bytes → is_refusal_number r.code ≡ false → ◌≡◌ {A = Option (Message quel_sorts)} None (message_by 7 bytes)
refusal_unknown r bytes e known = sym (known_by r false known) ∙ refusals_read (Some r) bytes e

pub refusal_unread : (bytes : List ℕ) → None ≡ spelled_by refusal_codec bytes → ◌≡◌ {A = Option (Message quel_sorts)} None (message_by 7 bytes)
refusal_unread bytes e = refusals_read None bytes e

-- ---- a message without bytes, or none

empty_as : (m : StageMessage) (bytes : List ℕ) → option_map message (if_empty m bytes) ≡ if_empty (message m) bytes
empty_as m [] = refl
empty_as m (b ∷ bytes) = refl

pub end_read : (o : Option StageMessage) (bytes : List ℕ) → o ≡ if_empty stage.End bytes → option_map message o ≡ message_by 6 bytes
unfolding message_by
end_read o bytes e = ap (λ (x : Option StageMessage). option_map message x) e ∙ empty_as stage.End bytes

pub done_read : (o : Option StageMessage) (bytes : List ℕ) → o ≡ if_empty stage.Done bytes → option_map message o ≡ message_by 8 bytes
unfolding message_by
done_read o bytes e = ap (λ (x : Option StageMessage). option_map message x) e ∙ empty_as stage.Done bytes

pub quit_read : (o : Option StageMessage) (bytes : List ℕ) → o ≡ if_empty stage.Quit bytes → option_map message o ≡ message_by 10 bytes
unfolding message_by
quit_read o bytes e = ap (λ (x : Option StageMessage). option_map message x) e ∙ empty_as stage.Quit bytes

-- ---- no message at all

-- a test that fails picks the second
passes : {A : Type 0} (b : Bool) (x y z : Option A) → b ≡ false → y ≡ z → ◌≡◌ {A = Option A} (elim b [ true ↦ x | false ↦ y ]) z
passes true x y z e h = absurd (cc e)
passes false x y z e h = h

pub other_read : (kind : ℕ) (bytes : List ℕ) → (kind == 1) ≡ false → (kind == 2) ≡ false → (kind == 3) ≡ false → (kind == 4) ≡ false → (kind == 5) ≡ false → (kind == 6) ≡ false → (kind == 7) ≡ false → (kind == 8) ≡ false → (kind == 10) ≡ false
    → ◌≡◌ {A = Option (Message quel_sorts)} (message_by kind bytes) None
unfolding message_by
other_read kind bytes e1 e2 e3 e4 e5 e6 e7 e8 e10 =
    passes (kind == 1) _ _ None e1 (passes (kind == 2) _ _ None e2 (passes (kind == 3) _ _ None e3 (passes (kind == 4) _ _ None e4 (passes (kind == 5) _ _ None e5
    (passes (kind == 6) _ _ None e6 (passes (kind == 7) _ _ None e7 (passes (kind == 8) _ _ None e8 (passes (kind == 10) _ _ None e10 refl))))))))
