-- Bytes that are read as trees.
use Rattle.std.proofs.Common.{◌≡◌, refl, sym, ap, ◌∙◌, ℕ, List, [], ◌∷◌, Option, Some, None}
use Rattle.std.specs.Prelude.{Ok, Err}
use Rattle.std.proofs.lemmas.List.{append-nil}
use Rattle.std.proofs.lemmas.Option.{same_Some}
use Rattle.quel_tree.specs.Message.{IsSpelled, most_tree_levels}
use Rattle.tree_words.specs.Codec.{Codec, Reading}
use Rattle.tree_words.specs.Exact.{Exact}
use Rattle.tree_words.specs.Whole.{ended, whole, reads_whole}
use Rattle.stored_database.specs.Trees.{given, tree_of}

-- a value and the bytes behind it
abbrev reading : {A : Type 0} → A → List ℕ → Reading A
reading a rest = Ok (a, rest)

-- what was read to the end
all_read : {A : Type 0} (r : Reading A) (a : A) → given (whole r) ≡ Some a → r ≡ reading a []
all_read (Err left) a h = cc
all_read {A} (Ok x) a h = go x.0 x.1 h
  where
    go : (b : A) (rest : List ℕ) → given (ended b rest) ≡ Some a → reading b rest ≡ reading a []
    go b [] h = ap (λ b. reading b []) (same_Some b a h)
    go b (c ∷ rest) h = cc

module _ {A : Type 0} (codec : ℕ → Codec A) (exact : Exact (codec most_tree_levels)) (bytes : List ℕ) where
  -- the tree whose spelling they are
  pub tree_read : (a : A) → IsSpelled codec a bytes → Some a ≡ tree_of codec bytes
  unfolding tree_of reads_whole
  tree_read a s =
      let c = codec most_tree_levels in
      sym (ap (λ r. given (whole r)) (ap c.read (s.1 ∙ sym (append-nil (c.write a))) ∙ exact.again a [] s.0))

  -- none where they are the spelling of none
  pub none_read : ((a : A) → IsSpelled codec a bytes → ⊥) → None ≡ tree_of codec bytes
  unfolding tree_of reads_whole
  none_read none = go (tree_of codec bytes) refl
    where
      go : (o : Option A) → tree_of codec bytes ≡ o → None ≡ o
      go None e = refl
      go (Some a) e = (let c = codec most_tree_levels in
          let o = exact.only bytes a [] (all_read (c.read bytes) a e) in absurd (none a (o.0, o.1 ∙ append-nil (c.write a))))
