-- What is found in a table through a view, and what a text that is added adds.
use Rattle.std.proofs.Common.{◌≡◌, Bool, true, false, cond, List, [], ◌∷◌, ◌++◌, ◌∙◌, Option, Some, Result, Ok, Err, refl, ap, map}
use Rattle.std.specs.Prelude.{option_map, is_ok, OnOk}
use Rattle.std.specs.List.{find}

chosen : {A B C : Type 0} (f : B → C) (v : A → B) (a : A) (b : Bool) (o : Option A) (q : Option B) → option_map (λ x. f (v x)) o ≡ option_map f q → option_map (λ x. f (v x)) (cond b (Some a) o) ≡ option_map f (cond b (Some (v a)) q)
chosen f v a true o q e = refl
chosen f v a false o q e = e

-- what is found in a table is found in what is seen of it
pub seen : {A B C : Type 0} (f : B → C) (p : B → Bool) (v : A → B) (xs : List A) → option_map (λ x. f (v x)) (find (λ x. p (v x)) xs) ≡ option_map f (find p (map v xs))
seen f p v [] = refl
seen f p v (x ∷ xs) = chosen f v x (p (v x)) _ _ (seen f p v xs)

-- what was added is the same as what is meant
pub added : {A T E : Type 0} (r : Result T E) (new old given meant : List A) → new ≡ cond (is_ok r) (old ++ given) old → given ≡ meant → OnOk r (new ≡ old ++ meant)
added (Ok x) new old given meant e same = e ∙ ap (λ bytes. old ++ bytes) same
added (Err x) new old given meant e same = tt
