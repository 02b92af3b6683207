-- Worked values: how permits and rules are numbered and refused, computed.
use Rattle.std.proofs.Common.{refl}
use Rattle.std.specs.Prelude.{◌≡◌, ℕ, pos, List, [], ◌∷◌, Some, None, codes, Ok, Err}
use Rattle.calculus.specs.declared.value.Value.TheVariants as value
use Rattle.calculus.specs.declared.value.Domain.TheVariants.{I1}
use Rattle.calculus.specs.declared.value.Kind.TheVariants.{Of}
use Rattle.calculus.specs.declared.operator.CmpOp.TheVariants.{Eq, Gt}
use Rattle.calculus.specs.declared.query.QTerm.{Int, Attr}
use Rattle.calculus.specs.declared.query.QQual.{QQual, True, Cmp}
use Rattle.calculus.specs.declared.schema.Permit.{Permit}
use Rattle.calculus.specs.declared.request.Checked.TheVariants.{Utility}
use Rattle.calculus.specs.declared.request.Utility.TheVariants as utility
use Rattle.calculus.specs.declared.change.DbChange.TheVariants as change
use Rattle.calculus.specs.declared.reply.Reply.TheVariants.{Done, Refused}
use Rattle.calculus.specs.Catalogue.{catalogue_at}
use Rattle.calculus.specs.Change.{laid}
use Rattle.calculus.specs.Database.{Db}
use Rattle.calculus.specs.Stored.{range_at, info_at}
use Rattle.calculus.specs.Term.{val, holds, attribute_value, compared_values}
use Rattle.quel_meaning.proofs.Small.{ann, key, attr, heap, nothing, one_relation, effects, replies}
use Rattle.quel_meaning.specs.Copying.{refusal}
use Rattle.quel_meaning.specs.Meaning.{tree_meaning, utility_effect}
use Rattle.quel_meaning.specs.Planned.{planned, plan_refusals, plan_change}

-- a permit without a number
abbrev permit : ℕ → List ℕ → QQual → Permit
permit ops user qual = record { number = 0; ops = ops; attrs = []; user = Some user; qual = qual }

-- create p (a = i1), permits 1 and 2, destroy permit p 2, a permit that is 2 again, destroy permit p 1, 3, destroy permit p 1, 2
numbers_again : replies (effects nothing []
    (Utility (utility.Create (key (codes "p")) (attr (codes "a") (Of I1) ∷ []))
    ∷ Utility (utility.Permit (key (codes "p")) (record (permit 1 [] True) { user = None }))
    ∷ Utility (utility.Permit (key (codes "p")) (permit 2 (codes "bob") True))
    ∷ Utility (utility.DropPermits (key (codes "p")) (2 ∷ []))
    ∷ Utility (utility.Permit (key (codes "p")) (permit 8 (codes "bob") (Cmp Eq (Attr 0 0) (Int (pos 1)))))
    ∷ Utility (utility.DropPermits (key (codes "p")) (1 ∷ 3 ∷ []))
    ∷ Utility (utility.DropPermits (key (codes "p")) (2 ∷ 1 ∷ 2 ∷ []))
    ∷ Utility (utility.DropPermits (key (codes "p")) [])
    ∷ []))
    ≡ Done ∷ Done ∷ Done ∷ Done ∷ Done ∷ Refused (refusal 19) ∷ Done ∷ Done ∷ []
unfolding tree_meaning utility_effect planned plan_refusals plan_change laid range_at info_at catalogue_at
numbers_again = refl

-- p (a) of ann holds 3 and 5
abbrev db : Db
db = one_relation (heap (codes "p") (attr (codes "a") (Of I1) ∷ []) ((value.Int (pos 3) ∷ []) ∷ (value.Int (pos 5) ∷ []) ∷ []))

-- a > 3
abbrev above_three : QQual
above_three = Cmp Gt (Attr 0 0) (Int (pos 3))

-- a > 2
abbrev above_two : QQual
above_two = Cmp Gt (Attr 0 0) (Int (pos 2))

-- a rule that a standing row breaks is refused, another one gets the number 1
broken_rule : planned db ann (utility.Rule (key (codes "p")) (record { number = 0; qual = above_three })) ≡ Err 27
unfolding planned plan_refusals plan_change range_at info_at catalogue_at val holds attribute_value compared_values
broken_rule = refl

kept_rule : planned db ann (utility.Rule (key (codes "p")) (record { number = 0; qual = above_two }))
    ≡ Ok (change.Rule (key (codes "p")) (record { number = 1; qual = above_two }))
unfolding planned plan_refusals plan_change range_at info_at catalogue_at val holds attribute_value compared_values
kept_rule = refl

-- another user is refused, as his own relation is no matter for permits of another administrator
anothers_rule : planned db (codes "bob") (utility.Rule (key (codes "p")) (record { number = 0; qual = above_two })) ≡ Err 24
unfolding planned plan_refusals plan_change range_at info_at catalogue_at val holds attribute_value compared_values
anothers_rule = refl

-- the numbers of dropped permits are listed ascending, each once
dropped_numbers : planned (record db { permits = (key (codes "p"), permit 1 ann True) ∷ [] }) ann (utility.DropPermits (key (codes "p")) (0 ∷ 0 ∷ []))
    ≡ Ok (change.DropPermits (key (codes "p")) (0 ∷ []))
unfolding planned plan_refusals plan_change range_at info_at catalogue_at
dropped_numbers = refl
