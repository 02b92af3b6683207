-- The number of a variant and its fields, one behind the other, are the value that they are of.
use Rattle.std.proofs.Common.{◌≡◌, ℕ, List, [], ◌∷◌, ◌++◌, sym, ap, ◌∙◌, append_assoc}
use Rattle.tree_words.specs.Codec.{Codec, Writes, IsVariant}

pub wrote_variant : {A B : Type 0} (codec : ℕ → Codec A) (whole : A) (tag : ℕ) (inner : ℕ → Codec B) (fields : B) (old mid new : List ℕ) → IsVariant codec whole tag inner fields → mid ≡ old ++ (tag ∷ []) → Writes inner fields mid new → Writes codec whole old new
wrote_variant codec whole tag inner fields old mid new is e w n f =
    let v = is n f in
    w n v.0 ∙ ap (λ bs. bs ++ (inner n).write fields) e ∙ append_assoc old (tag ∷ []) ((inner n).write fields) ∙ ap (λ bs. old ++ bs) (sym v.1)
