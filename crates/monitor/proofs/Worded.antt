-- The command of a word is what the table says beside it.
use Rattle.std.proofs.Common.{◌≡◌, refl, ap, ◌∙◌, ℕ, List, Bor, Option, Some, None, map}
use Rattle.std.specs.Prelude.{option_map, unwrap_or}
use Rattle.std.specs.List.{find}
use Rattle.std.specs.Str.{bytes_eq}
use Rattle.quel_meaning.specs.Monitor.{Command, Unknown, words}
use Rattle.monitor.specs.declared.command.Word.{Word}
use Rattle.monitor.specs.Seen.{given}
use Rattle.monitor.proofs.Found.{seen}

-- one after the other, or both at once
mapped : {A B C : Type 0} (f : B → C) (g : A → B) (o : Option A) → option_map f (option_map g o) ≡ option_map (λ x. f (g x)) o
mapped f g None = refl
mapped f g (Some x) = refl

-- an entry of the table, as a word and its command
abbrev pub entry : List ℕ → Bor (List ℕ) × Word → List ℕ × Command
entry file e = (e.0.now, given file e.1)

pub command_is : (word file : List ℕ) (found : Option Word) (table : List (Bor (List ℕ) × Word)) → found ≡ option_map (λ e. e.1) (find (λ e. bytes_eq e.0.now word) table)
    → map (entry file) table ≡ words file
    → unwrap_or (option_map (given file) found) Unknown ≡ unwrap_or (option_map (λ c. c.1) (find (λ c. bytes_eq c.0 word) (words file))) Unknown
command_is word file found table e same =
    let is_word = λ (c : List ℕ × Command). bytes_eq c.0 word in
    ap (λ o. unwrap_or o Unknown) (
    ap (option_map (given file)) e ∙ mapped (given file) (λ e. e.1) (find (λ e. bytes_eq e.0.now word) table)
    ∙ seen (λ c. c.1) is_word (entry file) table
    ∙ ap (λ t. option_map (λ c. c.1) (find is_word t)) same)
