-- Each next statement and each next read leaves less work.
use Rattle.std.specs.Prelude.{◌≡◌, ◌≤◌, ◌<◌, ◌-◌, ◌/◌, ℕ, zero, suc, nat_le, List, length, drop}
use Rattle.std.proofs.Common.{inl, inr, refl, sym, ap, ◌∙◌, arith}
use Rattle.std.proofs.lemmas.Bool.{leb-true, leb-false, cases_Bool}
use Rattle.calculus.specs.declared.change.DbChange.{DbChange}
use Rattle.calculus.specs.declared.request.Checked.{Checked}
use Rattle.calculus.specs.declared.statement.Statement.{Statement}
use Rattle.calculus.specs.Database.{Db}
use Rattle.frame_codec.specs.Messages.{cut_into, message_frames}
use Rattle.network_meaning.specs.Sorts.{Cargo.tree, Cargo.change, Message.cargo, Next.found as read_next}
use Rattle.network_meaning.specs.WorkLeft.{WorkLaws, count}
use Rattle.quel_grammar.specs.Next.{Next as Read, Nothing, Read as WasRead, Syntax, Reading}
use Rattle.quel_meaning.proofs.Grammatical.{moves_on}
use Rattle.quel_meaning.specs.Batch.{MovesOn}
use Rattle.quel_tree.specs.Changes.{change as change_codec}
use Rattle.quel_tree.specs.Message.{most_tree_levels}
use Rattle.quel_tree.specs.Requests.{checked as checked_codec}
use Rattle.quel_network.specs.Counting.{StatementsFall, ReadsFall}
use Rattle.quel_network.specs.CountingLaws.{batch_falls, script_falls}
use Rattle.quel_network.specs.Quel.{quel}
use Rattle.quel_network.specs.ReadingLaws.{read_falls}
use Rattle.quel_network.specs.Sorts.{User, Batch, quel_sorts}
use Rattle.quel_network.specs.Spelling.{payload_of}
use Rattle.quel_network.specs.TreeBounds.{checked_bounded, change_bounded}
use Rattle.quel_network.specs.Trees.{next_of, next_in, IsFitTree, IsFitChange}
use Rattle.quel_network.specs.Work.{bytes_left, reads_left, most_frames, quel_work}
use Rattle.quel_network.specs.Orders.{within_first, within_second}

-- ---- statements

fewer : (n from end : ℕ) → from < end → from < n → n - end < n - from
fewer n from end h g = omega arith

next_fewer : (reading : Reading) (b : Batch) (next : Read) → MovesOn reading b.text → reading b.text b.from ≡ next
    → (s : Statement) (line : ℕ) (rest : Batch) → next_of b next ≡ read_next s line rest → bytes_left rest < bytes_left b
next_fewer reading b Nothing moves was s line rest e = absurd (cc e)
next_fewer reading b (Syntax place) moves was s line rest e = absurd (cc e)
next_fewer reading b (WasRead statement end) moves was s line rest e =
    let same : ◌≡◌ {A = Batch} (record { text = b.text; from = end }) rest = cc e in
    rw (← same) (elim (cases_Bool (nat_le (length b.text) b.from)) [
      | inl past ↦ (let none : Nothing ≡ WasRead statement end = sym (moves.ends b.from (leb-true _ _ past)) ∙ was in absurd (cc none))
      | inr before ↦ fewer (length b.text) b.from end (moves.advances b.from statement end was) (leb-false _ _ before)
    ])

-- behind each statement fewer bytes are left
statements_fall : (user : User) → StatementsFall (quel user) bytes_left
unfolding quel next_in
statements_fall user b s line rest e = next_fewer user.reading b (user.reading b.text b.from) (moves_on user.reading user.grammatical b.text) refl s line rest e

reads_fall : (user : User) → ReadsFall (quel user) reads_left
unfolding quel
reads_fall user m script shelf = read_falls m script shelf

-- ---- frames

cut_length : (n kind : ℕ) (bytes : List ℕ) → length (cut_into n kind bytes) ≡ suc n
cut_length zero kind bytes = refl
cut_length (suc n) kind bytes = ap (λ (k : ℕ). suc k) (cut_length n kind (drop 4096 bytes))

frames_within : (k n most : ℕ) → k ≡ suc (n / 4096) → n ≤ most → k ≤ suc most
frames_within k n most e h = omega (arith, e)

-- a message of so many bytes has no more frames but one
frames_few : (kind : ℕ) (bytes : List ℕ) (most : ℕ) → length bytes ≤ most → length (message_frames kind bytes) ≤ suc most
unfolding message_frames
frames_few kind bytes most h = frames_within _ (length bytes) most (cut_length (length bytes / 4096) kind bytes) h

tree_few : (user : User) (t : Checked) (db : Db) → IsFitTree user.asker t db → count {S = quel_sorts} (quel user) (cargo (tree t)) ≤ most_frames
unfolding quel payload_of most_frames
tree_few user t db fit =
    frames_few 2 ((checked_codec most_tree_levels).write t) _ (within_first _ (checked_bounded most_tree_levels).most (change_bounded most_tree_levels).most ((checked_bounded most_tree_levels).within t fit.spelled))

change_few : (user : User) (c : DbChange) (db : Db) → IsFitChange c db → count {S = quel_sorts} (quel user) (cargo (change c)) ≤ most_frames
unfolding quel payload_of most_frames
change_few user c db fit =
    frames_few 5 ((change_codec most_tree_levels).write c) _ (within_second _ (checked_bounded most_tree_levels).most (change_bounded most_tree_levels).most ((change_bounded most_tree_levels).within c fit.spelled))

-- ---- the laws

tree_law : (user : User) (t : Checked) (db : Db) → (quel user).Fits t db → count {S = quel_sorts} (quel user) (cargo (tree t)) ≤ most_frames
unfolding quel
tree_law user t db fit = tree_few user t db fit

change_law : (user : User) (c : DbChange) (db : Db) → (quel user).IsLawful c db → count {S = quel_sorts} (quel user) (cargo (change c)) ≤ most_frames
unfolding quel
change_law user c db fit = change_few user c db fit

-- each next statement and each next read leaves less, and no tree and no change has more frames
pub quel_work_laws : (user : User) → WorkLaws (quel user) (quel_work user)
unfolding quel_work
quel_work_laws user = record {
  batch = batch_falls (quel user) most_frames bytes_left reads_left (statements_fall user);
  script = script_falls (quel user) most_frames bytes_left reads_left (reads_fall user);
  tree = tree_law user;
  change = change_law user;
}
