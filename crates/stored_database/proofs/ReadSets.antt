-- Sets that are read of lists.
use Rattle.std.proofs.Common.{◌≡◌, Bool, List, Option, Some}
use Rattle.std.specs.Cmp.{IsTotalOrder}
use Rattle.std.specs.Ordering.{is_eq}
use Rattle.std.specs.declared.cmp.Ordering.{Ordering}
use Rattle.page_chain.specs.Lists.{◌>>=◌, each, once}
use Rattle.stored_database.proofs.Members.{IsIn, Apart, each_read, read_of, read_apart}
use Rattle.stored_database.proofs.Reading.{bind_some}
use Rattle.stored_database.proofs.Sets.{IsOnce, is_once}

-- What is known of a set that is read: each item is read into it, what is in it is read of an item, and items are apart where what is read of them is.
pub record IsRead {A B : Type 0} (f : A → Option B) (cmp : B → B → Ordering) (xs : List A) (ys : List B) : Type 0 where
  pub to : (x : A) → IsIn x xs → (y : B) × IsIn y ys × (f x ≡ Some y)
  pub from : (y : B) → IsIn y ys → (x : A) × IsIn x xs × (f x ≡ Some y)
  pub apart : (same : A → A → Bool) → ((a b : A) (x y : B) → f a ≡ Some x → f b ≡ Some y → is_eq (cmp x y) ≡ same a b) → Apart same xs

pub is_read : {A B : Type 0} (f : A → Option B) (cmp : B → B → Ordering) (order : IsTotalOrder cmp) (xs : List A) (ys : List B) → (each f xs >>= once cmp) ≡ Some ys → IsRead f cmp xs ys
is_read {A} {B} f cmp order xs ys h =
    let b = bind_some (each f xs) (once cmp) ys h in
    let o : IsOnce order b.0 ys = is_once order b.0 ys b.2 in
    record {
      to = λ x at. (let s = each_read f xs b.0 x b.1 at in (s.0, o.to s.0 s.1, s.2));
      from = λ y at. read_of f xs b.0 y b.1 (o.from y at);
      apart = λ same keeps. read_apart same (λ a b. is_eq (cmp a b)) f keeps xs b.0 b.1 o.apart;
    }
