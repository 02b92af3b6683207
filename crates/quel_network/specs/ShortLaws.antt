-- A reply, an end and a quit are read from few bytes.
use Rattle.std.specs.Prelude.{◌≡◌, ◌==◌, ℕ, ◌<◌, Bool, true, false, List, [], ◌∷◌, length, Option, Some, None, option_map}
use Rattle.std.proofs.Common.{refl, sym, ap, ◌∙◌, arith}
use Rattle.network_meaning.specs.Frames.{may_be_cut}
use Rattle.network_meaning.specs.Sorts.{Message, Cargo.tree, Cargo.change, Shown.head, Shown.row, Reply.done, Said.shown, Said.replied, Message.text, Message.cargo, Message.said, Message.end, Message.quit}
use Rattle.quel_tree.specs.Changes.{change as change_codec}
use Rattle.quel_tree.specs.Message.{most_tree_levels}
use Rattle.quel_tree.specs.Relations.{columns as columns_codec}
use Rattle.quel_tree.specs.Requests.{checked as checked_codec}
use Rattle.quel_tree.specs.Values.{row as row_codec}
use Rattle.quel_network.specs.Sorts.{User, quel_sorts}
use Rattle.quel_network.specs.Spelling.{spelled_by, if_empty, refusal_codec, message_by}
use Rattle.quel_network.specs.Quel.{quel}
use Rattle.quel_network.specs.CodecLaws.{only_spelled, refusal_exact, length-refusal}
use Rattle.quel_network.specs.RefusalLaws.{refused_of, was_refused}

-- bytes that are read as a message which may not be cut are few
abbrev FewFor : List ℕ → Option (Message quel_sorts) → Type 0
FewFor bytes o = (m : Message quel_sorts) → o ≡ Some m → may_be_cut m ≡ false → length bytes < 4096

either_few : (bytes : List ℕ) (b : Bool) (first second : Option (Message quel_sorts)) → FewFor bytes first → FewFor bytes second → FewFor bytes (elim b [ true ↦ first | false ↦ second ])
either_few bytes true first second few more = few
either_few bytes false first second few more = more

none_few : (bytes : List ℕ) → FewFor bytes None
none_few bytes m e cut = absurd (cc e)

cut_few : (bytes : List ℕ) (m : Message quel_sorts) → may_be_cut m ≡ true → FewFor bytes (Some m)
cut_few bytes m long n e cut =
    let same : m ≡ n = cc e in
    let both : true ≡ false = sym long ∙ ap (λ (x : Message quel_sorts). may_be_cut x) same ∙ cut in
    absurd (cc both)

made_few : {A : Type 0} (bytes : List ℕ) (make : A → Message quel_sorts) → ((a : A) → may_be_cut (make a) ≡ true) → (o : Option A) → FewFor bytes (option_map make o)
made_few bytes make long None = none_few bytes
made_few bytes make long (Some a) = cut_few bytes (make a) (long a)

empty_few : (bytes : List ℕ) (m : Message quel_sorts) → FewFor bytes (if_empty m bytes)
empty_few [] m n e cut = omega arith
empty_few (b ∷ bytes) m n e cut = absurd (cc e)

refused_few : (bytes : List ℕ) → FewFor bytes (refused_of (spelled_by refusal_codec bytes))
refused_few bytes m e cut =
    let was = was_refused (spelled_by refusal_codec bytes) m e in
    let spelled = only_spelled refusal_codec refusal_exact bytes was.one was.is in
    let nine : length bytes ≡ 9 = ap (λ (bs : List ℕ). length bs) spelled.1 ∙ length-refusal was.one in
    omega (arith, nine)

message_few : (kind : ℕ) (bytes : List ℕ) → FewFor bytes (message_by kind bytes)
unfolding message_by
message_few kind bytes =
    either_few bytes (kind == 1) _ _ (cut_few bytes (text bytes) refl)
    (either_few bytes (kind == 2) _ _ (made_few bytes (λ t. cargo (tree t)) (λ t. refl) (spelled_by (checked_codec most_tree_levels) bytes))
    (either_few bytes (kind == 3) _ _ (made_few bytes (λ h. said (shown (head h))) (λ h. refl) (spelled_by columns_codec bytes))
    (either_few bytes (kind == 4) _ _ (made_few bytes (λ r. said (shown (row r))) (λ r. refl) (spelled_by row_codec bytes))
    (either_few bytes (kind == 5) _ _ (made_few bytes (λ c. cargo (change c)) (λ c. refl) (spelled_by (change_codec most_tree_levels) bytes))
    (either_few bytes (kind == 6) _ _ (empty_few bytes end)
    (either_few bytes (kind == 7) _ _ (refused_few bytes)
    (either_few bytes (kind == 8) _ _ (empty_few bytes (said (replied done)))
    (either_few bytes (kind == 10) _ _ (empty_few bytes quit) (none_few bytes)))))))))

-- a message that may not be cut is read from fewer bytes than a More frame has
pub short_law : (user : User) (kind : ℕ) (bytes : List ℕ) (m : Message quel_sorts) → (quel user).message_of kind bytes ≡ Some m → may_be_cut m ≡ false → length bytes < 4096
unfolding quel
short_law user kind bytes m e cut = message_few kind bytes m e cut
