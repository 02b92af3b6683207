use Rattle.std.proofs.Common.{◌≡◌, [], ◌∷◌, ◌++◌, subst, ◌∙◌, OnOk}
use Rattle.scalar_eval.proofs.Groups.{none_tabled}
use Rattle.aggregates.proofs.members.put_with.Goals as goal

pub returns-in-Ok : goal.returns-in-Ok
returns-in-Ok c =
    subst (λ v. OnOk c.put_behind.result (c.put_behind.new.members.items ≡ c.args.members.now.items ++ (c.args.by, v) ∷ []))
    (c.in-Ok.ensures ∙ none_tabled c.args.agg.now.arg c.args.at.now) c.put_behind.ensures
