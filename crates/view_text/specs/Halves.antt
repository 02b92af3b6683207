-- Qualifications joined by halves, so that many of them make a tree of few levels.
use Rattle.std.specs.Prelude.{ℕ, zero, suc, List, [], ◌∷◌, length}
use Rattle.calculus.specs.declared.query.QQual.{QQual, True}
use Rattle.calculus.specs.Tree.{both, either, negated}

-- what joins two qualifications
abbrev pub Joining : Type 0
Joining = QQual → QQual → QQual

-- each two neighbours joined
unfoldable pub paired : Joining → List QQual → List QQual
paired join [] = []
paired join (p ∷ []) = p ∷ []
paired join (p ∷ q ∷ more) = join p q ∷ paired join more

-- joined one behind the other; `none` where there is nothing to join
unfoldable pub chained : Joining → QQual → List QQual → QQual
chained join none [] = none
chained join none (p ∷ []) = p
chained join none (p ∷ q ∷ more) = join p (chained join none (q ∷ more))

-- joined by pairing neighbours so many times
unfoldable pub joined_within : ℕ → Joining → QQual → List QQual → QQual
joined_within zero join none qs = chained join none qs
joined_within (suc n) join none qs = joined_within n join none (paired join qs)

-- joined by pairing neighbours as long as there are two, which so many pairings are enough for
abbrev pub joined : Joining → QQual → List QQual → QQual
joined join none qs = joined_within (length qs) join none qs

-- all of them hold
abbrev pub all_of : List QQual → QQual
all_of qs = joined both True qs

-- at least one of them holds
abbrev pub any_of : List QQual → QQual
any_of qs = joined either (negated True) qs
