-- Operators as bytes: the laws.
use Rattle.std.proofs.Common.{inl, inr, refl}
use Rattle.tree_words.specs.Exact.{Exact}
use Rattle.tree_words.specs.FormLaws.{mapped_exact}
use Rattle.tree_words.specs.LetterLaws.{nothing_exact}
use Rattle.tree_words.specs.WayLaws.{tagged_exact, or_exact, last_exact}
use Rattle.calculus.specs.declared.operator.ArithOp.TheVariants as ariths
use Rattle.calculus.specs.declared.operator.CmpOp.TheVariants as cmps
use Rattle.calculus.specs.declared.operator.AggOp.TheVariants as aggs
use Rattle.calculus.specs.declared.request.UpdateOp.TheVariants as updates
use Rattle.quel_tree.specs.Operators.{arith_op, cmp_op, agg_op, update_op}

pub arith_op_exact : Exact arith_op
unfolding arith_op
arith_op_exact = mapped_exact _ _ _
    (elim [ inl _ ↦ λ f. refl | inr (inl _) ↦ λ f. refl | inr (inr (inl _)) ↦ λ f. refl | inr (inr (inr (inl _))) ↦ λ f. refl | inr (inr (inr (inr (inl _)))) ↦ λ f. refl | inr (inr (inr (inr (inr _)))) ↦ λ f. refl ])
    (elim [ ariths.Add ↦ λ f. refl | ariths.Sub ↦ λ f. refl | ariths.Mul ↦ λ f. refl | ariths.Div ↦ λ f. refl | ariths.Pow ↦ λ f. refl | ariths.Mod ↦ λ f. refl ])
    (tagged_exact _ (inl tt) tt (or_exact _ _ nothing_exact (or_exact _ _ nothing_exact (or_exact _ _ nothing_exact (or_exact _ _ nothing_exact (or_exact _ _ nothing_exact (last_exact _ nothing_exact)))))))

pub cmp_op_exact : Exact cmp_op
unfolding cmp_op
cmp_op_exact = mapped_exact _ _ _
    (elim [ inl _ ↦ λ f. refl | inr (inl _) ↦ λ f. refl | inr (inr (inl _)) ↦ λ f. refl | inr (inr (inr (inl _))) ↦ λ f. refl | inr (inr (inr (inr (inl _)))) ↦ λ f. refl | inr (inr (inr (inr (inr _)))) ↦ λ f. refl ])
    (elim [ cmps.Eq ↦ λ f. refl | cmps.Ne ↦ λ f. refl | cmps.Lt ↦ λ f. refl | cmps.Le ↦ λ f. refl | cmps.Gt ↦ λ f. refl | cmps.Ge ↦ λ f. refl ])
    (tagged_exact _ (inl tt) tt (or_exact _ _ nothing_exact (or_exact _ _ nothing_exact (or_exact _ _ nothing_exact (or_exact _ _ nothing_exact (or_exact _ _ nothing_exact (last_exact _ nothing_exact)))))))

pub agg_op_exact : Exact agg_op
unfolding agg_op
agg_op_exact = mapped_exact _ _ _
    (elim [ inl _ ↦ λ f. refl | inr (inl _) ↦ λ f. refl | inr (inr (inl _)) ↦ λ f. refl | inr (inr (inr (inl _))) ↦ λ f. refl | inr (inr (inr (inr (inl _)))) ↦ λ f. refl | inr (inr (inr (inr (inr (inl _))))) ↦ λ f. refl | inr (inr (inr (inr (inr (inr (inl _)))))) ↦ λ f. refl | inr (inr (inr (inr (inr (inr (inr (inl _))))))) ↦ λ f. refl | inr (inr (inr (inr (inr (inr (inr (inr _))))))) ↦ λ f. refl ])
    (elim [ aggs.Count ↦ λ f. refl | aggs.Countu ↦ λ f. refl | aggs.Sum ↦ λ f. refl | aggs.Sumu ↦ λ f. refl | aggs.Avg ↦ λ f. refl | aggs.Avgu ↦ λ f. refl | aggs.Min ↦ λ f. refl | aggs.Max ↦ λ f. refl | aggs.Any ↦ λ f. refl ])
    (tagged_exact _ (inl tt) tt (or_exact _ _ nothing_exact (or_exact _ _ nothing_exact (or_exact _ _ nothing_exact (or_exact _ _ nothing_exact (or_exact _ _ nothing_exact (or_exact _ _ nothing_exact (or_exact _ _ nothing_exact (or_exact _ _ nothing_exact (last_exact _ nothing_exact))))))))))

pub update_op_exact : Exact update_op
unfolding update_op
update_op_exact = mapped_exact _ _ _
    (elim [ inl _ ↦ λ f. refl | inr (inl _) ↦ λ f. refl | inr (inr (inl _)) ↦ λ f. refl | inr (inr (inr _)) ↦ λ f. refl ])
    (elim [ updates.Append ↦ λ f. refl | updates.Replace ↦ λ f. refl | updates.Delete ↦ λ f. refl | updates.Into ↦ λ f. refl ])
    (tagged_exact _ (inl tt) tt (or_exact _ _ nothing_exact (or_exact _ _ nothing_exact (or_exact _ _ nothing_exact (last_exact _ nothing_exact)))))
