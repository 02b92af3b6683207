-- What is said of what stands under a key, through the views that stand on each other there: the one way in which rows, rights, levels, sizes and
-- what is read are told of views from what is known of the keys that they name.
use Rattle.std.specs.Prelude.{ℕ, zero, suc, Option}
use Rattle.calculus.specs.declared.query.RelKey.{RelKey}
use Rattle.calculus.specs.Database.{Db, View}
use Rattle.calculus.specs.Stored.{Range, range_at}

-- what is said of a variable that ranges over what has this key, where it is told what is said of a view
abbrev pub Saying : Type 0 → Type 0
Saying X = (View → X) → RelKey → Option Range → X

-- what is said of a view, where it is told what is said of the keys that it names
abbrev pub FromBelow : Type 0 → Type 0
FromBelow X = (RelKey → X) → View → X

-- what is said of what stands under a key, through at most so many levels of views; `past` is said of a view past these
abbrev pub through : {X : Type 0} → Saying X → FromBelow X → X → ℕ → Db → RelKey → X
through of_range of_view past zero db key = of_range (λ view. past) key (range_at db key)
through of_range of_view past (suc n) db key = of_range (of_view (through of_range of_view past n db)) key (range_at db key)
