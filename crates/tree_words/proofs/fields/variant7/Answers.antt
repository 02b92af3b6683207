use Rattle.std.proofs.lemmas.Result.{on_ok_weaker}
use Rattle.tree_words.specs.Words.{both}
use Rattle.tree_words.proofs.Variants.{wrote_variant}
use Rattle.tree_words.proofs.fields.variant7.Goals as goal

pub returns : goal.returns
returns g c = on_ok_weaker c.fields7.result (wrote_variant g.T.Spelled.codec c.args.whole.now c.args.tag (λ n. (both (g.A.Spelled.codec n) (both (g.B.Spelled.codec n) (both (g.C.Spelled.codec n) (both (g.D.Spelled.codec n) (both (g.E.Spelled.codec n) (both (g.F.Spelled.codec n) (g.G.Spelled.codec n)))))))) (c.args.a.now, (c.args.b.now, (c.args.c.now, (c.args.d.now, (c.args.e.now, (c.args.f.now, c.args.g.now)))))) c.args.out.now.items c.push.new.self.items c.fields7.new.out.items c.requires c.in_ok-push.ensures.items) c.fields7.ensures
