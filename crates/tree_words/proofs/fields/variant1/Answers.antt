use Rattle.std.proofs.lemmas.Result.{on_ok_weaker}
use Rattle.tree_words.proofs.Variants.{wrote_variant}
use Rattle.tree_words.proofs.fields.variant1.Goals as goal

pub returns : goal.returns
returns g c = on_ok_weaker c.write.result (wrote_variant g.T.Spelled.codec c.args.whole.now c.args.tag (λ n. (g.A.Spelled.codec n)) c.args.a.now c.args.out.now.items c.push.new.self.items c.write.new.out.items c.requires c.in_ok-push.ensures.items) c.write.ensures
