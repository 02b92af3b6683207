use Rattle.std.proofs.Common.{◌≡◌, ◌∙◌, sym, ap, refl, List, ℕ}
use Rattle.calculus.specs.Who.{asker_of}
use Rattle.net_session.proofs.Serving.{all_serve, user_of}
use Rattle.net_session.proofs.stages.stages.Goals as goal

pub new-requires-5-clause-served : goal.new-requires-5-clause-served
new-requires-5-clause-served c =
    let second = ap (λ (name : List ℕ). asker_of name) (sym c.in_ok-second.ensures) in
    let third = ap (λ (name : List ℕ). asker_of name) (sym c.in_ok-third.ensures) in
    (user_of c.args.user, c.new.ensures.serves (user_of c.args.user), c.new-2.ensures.serves (user_of c.args.user) second, c.new-3.ensures.serves (user_of c.args.user) third, c.new-4.ensures.serves (user_of c.args.user) refl)

pub returns-clause-serve : goal.returns-clause-serve
returns-clause-serve c =
    let second = ap (λ (name : List ℕ). asker_of name) (sym c.in_ok-second.ensures) in
    let third = ap (λ (name : List ℕ). asker_of name) (sym c.in_ok-third.ensures) in
    all_serve c.new-5.result c.new.result c.new-2.result c.new-3.result c.new-4.result _ _ _ _ (λ user. user.asker ≡ asker_of c.args.user) c.new-5.ensures.stages
    (λ user is. c.new.ensures.serves user) (λ user is. c.new-2.ensures.serves user (is ∙ second)) (λ user is. c.new-3.ensures.serves user (is ∙ third)) (λ user is. c.new-4.ensures.serves user is)
