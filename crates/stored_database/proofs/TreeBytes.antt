-- Trees and their bytes.
use Rattle.std.proofs.Common.{◌≡◌, refl, sym, ap, ◌∙◌, ℕ, List, [], ◌∷◌, ◌++◌, Some}
use Rattle.std.specs.Prelude.{◌↔◌, Ok, Err}
use Rattle.std.proofs.lemmas.Option.{same_Some}
use Rattle.quel_tree.specs.Message.{IsSpelled, most_tree_levels}
use Rattle.quel_tree.specs.MessageLaws.{one_of_them, two_of_them}
use Rattle.quel_tree.specs.PermitLaws.{permit_exact, rule_exact}
use Rattle.quel_tree.specs.QueryLaws.{query_exact}
use Rattle.quel_tree.specs.Permits as spellings
use Rattle.quel_tree.specs.Queries as queries
use Rattle.tree_words.specs.Codec.{Codec, Reading}
use Rattle.tree_words.specs.Exact.{Exact}
use Rattle.tree_words.specs.Whole.{ended, whole, reads_whole}
use Rattle.stored_database.specs.Laws.{TreesAreTheirBytes}
use Rattle.stored_database.specs.Trees.{given, tree_of}

append_none : (xs : List ℕ) → xs ++ [] ≡ xs
append_none [] = refl
append_none (x ∷ xs) = ap (λ l. x ∷ l) (append_none xs)

-- a value and the bytes behind it
abbrev reading : {A : Type 0} → A → List ℕ → Reading A
reading a rest = Ok (a, rest)

-- what was read to the end
all_read : {A : Type 0} (r : Reading A) (a : A) → given (whole r) ≡ Some a → r ≡ reading a []
all_read (Err left) a h = cc
all_read {A} (Ok x) a h = go x.0 x.1 h
  where
    go : (b : A) (rest : List ℕ) → given (ended b rest) ≡ Some a → reading b rest ≡ reading a []
    go b [] h = ap (λ b. reading b []) (same_Some b a h)
    go b (c ∷ rest) h = cc

-- bytes are read as a tree exactly where they are its spelling
spelled_alone : {A : Type 0} (codec : ℕ → Codec A) → Exact (codec most_tree_levels) → (bytes : List ℕ) (a : A) → (tree_of codec bytes ≡ Some a) ↔ IsSpelled codec a bytes
unfolding tree_of reads_whole
spelled_alone {A} codec exact bytes a =
    let c = codec most_tree_levels in (
      λ h. (let o = exact.only bytes a [] (all_read (c.read bytes) a h) in (o.0, o.1 ∙ append_none (c.write a))),
      λ s. ap (λ r. given (whole r)) (ap c.read (s.1 ∙ sym (append_none (c.write a))) ∙ exact.again a [] s.0),
    )

pub trees_are_their_bytes : TreesAreTheirBytes
trees_are_their_bytes = record {
  queries = spelled_alone queries.query (query_exact most_tree_levels two_of_them);
  rules = spelled_alone spellings.rule (rule_exact most_tree_levels one_of_them);
  permits = spelled_alone spellings.permit (permit_exact most_tree_levels one_of_them);
}
