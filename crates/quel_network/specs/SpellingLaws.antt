-- What the stages give one another has a spelling.
use Rattle.std.specs.Prelude.{◌≡◌, ℕ, ◌<◌, List}
use Rattle.std.proofs.Common.{refl, subst, arith}
use Rattle.calculus.specs.declared.change.DbChange.{DbChange}
use Rattle.calculus.specs.declared.reply.Column.{Column}
use Rattle.calculus.specs.declared.reply.Refusal.{Refusal}
use Rattle.calculus.specs.declared.request.Checked.{Checked}
use Rattle.calculus.specs.declared.statement.Statement.{Statement}
use Rattle.calculus.specs.Database.{Db}
use Rattle.calculus.specs.Rows.{Row}
use Rattle.fault_io.specs.Files.{Files}
use Rattle.quel_grammar.specs.Next.{Next as Read, Nothing, Read as WasRead, Syntax, first_offset, line_at}
use Rattle.quel_meaning.specs.Ranges.{Ranges}
use Rattle.quel_tree.specs.ChangeLaws.{change_exact}
use Rattle.quel_tree.specs.Changes.{change as change_codec}
use Rattle.quel_tree.specs.Message.{most_tree_levels}
use Rattle.quel_tree.specs.MessageLaws.{two_of_them}
use Rattle.quel_tree.specs.RelationLaws.{columns_exact}
use Rattle.quel_tree.specs.Relations.{columns as columns_codec}
use Rattle.quel_tree.specs.RequestLaws.{checked_exact}
use Rattle.quel_tree.specs.Requests.{checked as checked_codec}
use Rattle.quel_tree.specs.ValueLaws.{row_exact}
use Rattle.quel_tree.specs.Values.{row as row_codec}
use Rattle.network_meaning.specs.Sorts.{Cargo.tree, Cargo.change, Shown.head, Shown.row, Reply.done, Reply.refused, Said.shown, Said.replied, Message.text, Message.cargo, Message.said, Message.end, Message.quit, Meaning.objects, Outcome.refuses, Next.bad, Next.found as read_next}
use Rattle.network_meaning.specs.Spelled.{Spelled, IsLine}
use Rattle.quel_network.specs.Sorts.{User, Batch}
use Rattle.quel_network.specs.Spelling.{payload_of, message_by}
use Rattle.quel_network.specs.Trees.{next_of, next_in, IsFitTree, IsFitChange}
use Rattle.quel_network.specs.Quel.{quel}
use Rattle.quel_network.specs.CodecLaws.{made_again}
use Rattle.quel_network.specs.RefusalLaws.{HasSpelling, spelling_of, lined_has, refused_again, refused_only}
use Rattle.quel_network.specs.TreeRefusals.{outcome_has, objection_has}

-- a batch
pub text_spelled_law : (user : User) (t : List ℕ) → Spelled (quel user) (text t)
unfolding quel payload_of message_by
text_spelled_law user t = refl

-- a tree that suits a database
pub tree_spelled_law : (user : User) (t : Checked) (db : Db) → IsFitTree user.asker t db → Spelled (quel user) (cargo (tree t))
unfolding quel payload_of message_by
tree_spelled_law user t db fit = made_again (checked_codec most_tree_levels) (λ x. cargo (tree x)) (checked_exact most_tree_levels two_of_them) t fit.spelled

-- a change that is lawful for a database
pub change_spelled_law : (user : User) (c : DbChange) (db : Db) → IsFitChange c db → Spelled (quel user) (cargo (change c))
unfolding quel payload_of message_by
change_spelled_law user c db fit = made_again (change_codec most_tree_levels) (λ x. cargo (change x)) (change_exact most_tree_levels two_of_them) c fit.spelled

-- a head, and a row
pub head_spelled_law : (user : User) (h : List Column) → columns_codec.Fits h → Spelled (quel user) (said (shown (head h)))
unfolding quel payload_of message_by
head_spelled_law user h fits = made_again columns_codec (λ x. said (shown (head x))) columns_exact h fits

pub row_spelled_law : (user : User) (r : Row) → row_codec.Fits r → Spelled (quel user) (said (shown (row r)))
unfolding quel payload_of message_by
row_spelled_law user r fits = made_again row_codec (λ x. said (shown (row x))) row_exact r fits

-- what has no bytes
pub done_spelled_law : (user : User) → Spelled (quel user) (said (replied done))
unfolding quel payload_of message_by
done_spelled_law user = refl

pub end_spelled_law : (user : User) → Spelled (quel user) end
unfolding quel payload_of message_by
end_spelled_law user = refl

pub quit_spelled_law : (user : User) → Spelled (quel user) quit
unfolding quel payload_of message_by
quit_spelled_law user = refl

-- ---- refusals

-- a refusal with its number, its line and its row
pub refused_spelled_law : (user : User) (r : Refusal) → HasSpelling r → Spelled (quel user) (said (replied (refused r)))
unfolding quel payload_of message_by
refused_spelled_law user r has = refused_again r has

spelled_has : (user : User) (r : Refusal) → Spelled (quel user) (said (replied (refused r))) → HasSpelling r
unfolding quel payload_of message_by
spelled_has user r spelled = refused_only r spelled

-- the refusal that is the outcome of a fit tree
pub outcome_spelled_law : (user : User) (t : Checked) (db : Db) (shelf : Files) (r : Refusal) → IsFitTree user.asker t db → (quel user).outcome t db shelf ≡ refuses r → Spelled (quel user) (said (replied (refused r)))
unfolding quel
outcome_spelled_law user t db shelf r fit e = refused_spelled_law user r (outcome_has user.asker t db shelf r fit.database e)

-- the refusal of a statement
pub objection_spelled_law : (user : User) (db : Db) (shelf : Files) (ranges : Ranges) (s : Statement) (r : Refusal) → (quel user).meaning db shelf ranges s ≡ objects r → Spelled (quel user) (said (replied (refused r)))
unfolding quel
objection_spelled_law user db shelf ranges s r e = refused_spelled_law user r (objection_has user.asker db shelf ranges s r e)

line_below : (bytes : List ℕ) (at : ℕ) → line_at bytes at < 4294967296
unfolding line_at
line_below bytes at = omega arith

bad_has : (b : Batch) (next : Read) (r : Refusal) → next_of b next ≡ bad r → HasSpelling r
bad_has b Nothing r e = absurd (cc e)
bad_has b (WasRead s behind) r e = absurd (cc e)
bad_has b (Syntax place) r e =
    let one : Refusal = record { code = 1; line = line_at b.text place; row = 0 } in
    let same : one ≡ r = cc e in
    subst HasSpelling same (spelling_of one refl (line_below b.text place) (omega arith))

-- the refusal of what is no statement
pub syntax_spelled_law : (user : User) (b : Batch) (r : Refusal) → (quel user).next b ≡ bad r → Spelled (quel user) (said (replied (refused r)))
unfolding quel next_in
syntax_spelled_law user b r e = refused_spelled_law user r (bad_has b (user.reading b.text b.from) r e)

found_below : (b : Batch) (next : Read) (s : Statement) (line : ℕ) (later : Batch) → next_of b next ≡ read_next s line later → line < 4294967296
found_below b Nothing s line later e = absurd (cc e)
found_below b (WasRead one behind) s line later e =
    let same : line_at b.text (first_offset b.text b.from) ≡ line = cc e in
    subst (λ n. n < 4294967296) same (line_below b.text (first_offset b.text b.from))
found_below b (Syntax place) s line later e = absurd (cc e)

is_line_below : (user : User) (line : ℕ) → IsLine (quel user) line → line < 4294967296
unfolding quel next_in
is_line_below user line is = found_below is.batch (user.reading is.batch.text is.batch.from) is.statement line is.later is.is

-- a refusal that is spelled, with the line of a statement
pub line_spelled_law : (user : User) (line : ℕ) (r : Refusal) → IsLine (quel user) line → Spelled (quel user) (said (replied (refused r))) → Spelled (quel user) (said (replied (refused ((quel user).lined line r))))
unfolding quel
line_spelled_law user line r is spelled = refused_spelled_law user (record r { line = line }) (lined_has line r (is_line_below user line is) (spelled_has user r spelled))
