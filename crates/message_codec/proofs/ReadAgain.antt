-- Values that were read of bytes, or read again.
use Rattle.std.specs.Prelude.{◌≡◌, ℕ, List, Some, None, Option, Ok, Err}
use Rattle.std.proofs.Common.{refl, sym, ap, subst, ◌∙◌}
use Rattle.message_codec.specs.Messages.{IsAgain}
use Rattle.quel_network.specs.CodecLaws.{only_spelled, spelled_again}
use Rattle.quel_network.specs.Spelling.{spelled_by}
use Rattle.quel_tree.specs.declared.tree.TreeFault.{TreeFault}
use Rattle.quel_tree.specs.declared.tree.TreeFault.TheVariants as faults
use Rattle.quel_tree.specs.Message.{IsGiven, IsSpelled, most_tree_levels}
use Rattle.tree_words.specs.Codec.{Codec}
use Rattle.tree_words.specs.Exact.{Exact}

pub value_read : {A : Type 0} (codec : ℕ → Codec A) (bytes : List ℕ) (a : A) → Exact (codec most_tree_levels) → IsSpelled codec a bytes → Some a ≡ spelled_by (codec most_tree_levels) bytes
value_read codec bytes a exact h = sym (ap (spelled_by (codec most_tree_levels)) h.1 ∙ spelled_again (codec most_tree_levels) exact a h.0)

pub none_read : {A : Type 0} (codec : ℕ → Codec A) (bytes : List ℕ) (f : TreeFault) (at : ℕ) → Exact (codec most_tree_levels) → f ≡ faults.NotATree at → ((tree : A) → IsSpelled codec tree bytes → IsGiven {A = A} (Err f) tree)
    → None ≡ spelled_by (codec most_tree_levels) bytes
none_read {A = A} codec bytes f at exact is only = go (spelled_by (codec most_tree_levels) bytes) refl
  where
    go : (o : Option A) → spelled_by (codec most_tree_levels) bytes ≡ o → None ≡ spelled_by (codec most_tree_levels) bytes
    go None e = sym e
    go (Some a) e = absurd (subst (λ (x : TreeFault). IsGiven {A = A} (Err x) a) is (only a (only_spelled (codec most_tree_levels) exact bytes a e)))

pub again_is : {A : Type 0} (codec : ℕ → Codec A) (value sent : A) (bytes listed given : List ℕ) → listed ≡ bytes → given ≡ bytes → IsSpelled codec sent given → ((codec most_tree_levels).Fits value → IsSpelled codec value bytes)
    → ((tree : A) → IsSpelled codec tree given → IsGiven {A = A} (Ok sent) tree) → IsAgain (codec most_tree_levels) value sent listed
again_is {A = A} codec value sent bytes listed given same e found written only = record {
  fits = found.0;
  bytes_are = same ∙ (sym e ∙ found.1);
  same = λ fits. only value (subst (λ (bs : List ℕ). IsSpelled codec value bs) (sym e) (written fits));
}

pub no_again : {A : Type 0} (codec : ℕ → Codec A) (value : A) (bytes given : List ℕ) (f : TreeFault) (at : ℕ) → given ≡ bytes → f ≡ faults.NotATree at → ((codec most_tree_levels).Fits value → IsSpelled codec value bytes)
    → ((tree : A) → IsSpelled codec tree given → IsGiven {A = A} (Err f) tree) → (codec most_tree_levels).Fits value → ⊥
no_again {A = A} codec value bytes given f at e is written only fits = subst (λ (x : TreeFault). IsGiven {A = A} (Err x) value) is (only value (subst (λ (bs : List ℕ). IsSpelled codec value bs) (sym e) (written fits)))
