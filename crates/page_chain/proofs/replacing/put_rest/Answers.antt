use Rattle.std.proofs.Common.{◌<◌, ℕ, List, [], ◌∷◌, ◌++◌, length, sym, ◌∙◌}
use Rattle.std.proofs.lemmas.Bool.{eqb-true}
use Rattle.std.proofs.lemmas.List.{nil_from_length}
use Rattle.std.proofs.lemmas.Result.{IfOk-weaker}
use Rattle.page_chain.specs.Chains.{IsChain}
use Rattle.page_chain.specs.Grown.{IsGrown}
use Rattle.page_chain.specs.Pages.{pages_of}
use Rattle.page_chain.proofs.Replaced.{grown_nothing}
use Rattle.page_chain.proofs.replacing.put_rest.Goals as goal

pub returns-then-is_empty-clause-grown : goal.returns-then-is_empty-clause-grown
returns-then-is_empty-clause-grown g c m is earlier below chain =
    grown_nothing c.args.chain.file c.args.chain.bound earlier c.args.chain.last c.args.rows.now m (g.S.PageStore.pages c.args.store.now)
    (nil_from_length c.args.rows.now (eqb-true (length c.args.rows.now) 0 (sym c.is_empty.ensures ∙ c.if-is_empty.true))) is chain

pub returns-clause-grown : goal.returns-clause-grown
returns-clause-grown g c m is =
    IfOk-weaker c.extend.result
    (λ now. (bound : ℕ) (earlier : List ℕ) → c.args.chain.last < bound → IsChain bound (pages_of m c.args.chain.file) (earlier ++ c.args.chain.last ∷ [])
    → IsGrown c.args.chain.file bound earlier c.args.chain.last now c.args.rows.now m (g.S.PageStore.pages c.extend.new.store))
    (λ now. (earlier : List ℕ) → c.args.chain.last < c.args.chain.bound → IsChain c.args.chain.bound (pages_of m c.args.chain.file) (earlier ++ c.args.chain.last ∷ [])
    → IsGrown c.args.chain.file c.args.chain.bound earlier c.args.chain.last now c.args.rows.now m (g.S.PageStore.pages c.extend.new.store))
    (λ now grown earlier. grown c.args.chain.bound earlier) (c.extend.ensures.grown m is)

pub returns-clause-came : goal.returns-clause-came
returns-clause-came g c = c.extend.ensures.came
