-- An answer that is known, said in another way.
use Rattle.std.proofs.Common.{◌≡◌, refl, subst, false, Option, Some, None, is_some, Result}
use Rattle.std.specs.Result.{IfOk}
use Rattle.base_trait.specs.declared.fault.BaseFault.{BaseFault}

-- what is one value is any that is the same
pub known_as : {T : Type 0} (r : Result T BaseFault) (x y : T) → x ≡ y → IfOk r (λ n. n ≡ x) → IfOk r (λ n. n ≡ y)
known_as r x y e h = subst (λ z. IfOk r (λ n. n ≡ z)) e h

pub none_if : {X : Type 0} (o : Option X) → is_some o ≡ false → o ≡ None
none_if None h = refl
none_if (Some x) h = absurd (cc h)
