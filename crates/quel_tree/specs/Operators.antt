-- Operators as bytes: the number of each.
use Rattle.std.specs.Prelude.{◌⊎◌}
use Rattle.std.proofs.Common.{inl, inr}
use Rattle.tree_words.specs.Codec.{Codec}
use Rattle.tree_words.specs.Words.{nothing, mapped}
use Rattle.tree_words.specs.Ways.{tagged, ◌or◌, last}
use Rattle.calculus.specs.declared.operator.ArithOp.{ArithOp}
use Rattle.calculus.specs.declared.operator.ArithOp.TheVariants as ariths
use Rattle.calculus.specs.declared.operator.CmpOp.{CmpOp}
use Rattle.calculus.specs.declared.operator.CmpOp.TheVariants as cmps
use Rattle.calculus.specs.declared.operator.AggOp.{AggOp}
use Rattle.calculus.specs.declared.operator.AggOp.TheVariants as aggs
use Rattle.calculus.specs.declared.request.UpdateOp.{UpdateOp}
use Rattle.calculus.specs.declared.request.UpdateOp.TheVariants as updates

abbrev pub One : Type 0
One = Unit {0}

abbrev pub arith_op_of : One ⊎ (One ⊎ (One ⊎ (One ⊎ (One ⊎ One)))) → ArithOp
arith_op_of (inl _) = ariths.Add
arith_op_of (inr (inl _)) = ariths.Sub
arith_op_of (inr (inr (inl _))) = ariths.Mul
arith_op_of (inr (inr (inr (inl _)))) = ariths.Div
arith_op_of (inr (inr (inr (inr (inl _))))) = ariths.Pow
arith_op_of (inr (inr (inr (inr (inr _))))) = ariths.Mod

abbrev pub arith_op_way : ArithOp → One ⊎ (One ⊎ (One ⊎ (One ⊎ (One ⊎ One))))
arith_op_way ariths.Add = inl tt
arith_op_way ariths.Sub = inr (inl tt)
arith_op_way ariths.Mul = inr (inr (inl tt))
arith_op_way ariths.Div = inr (inr (inr (inl tt)))
arith_op_way ariths.Pow = inr (inr (inr (inr (inl tt))))
arith_op_way ariths.Mod = inr (inr (inr (inr (inr tt))))

-- an operation on two numbers: its number, from 0 for `+` to 5 for `mod`
unfoldable pub arith_op : Codec ArithOp
arith_op = mapped arith_op_of arith_op_way (tagged (nothing or nothing or nothing or nothing or nothing or last nothing))

abbrev pub cmp_op_of : One ⊎ (One ⊎ (One ⊎ (One ⊎ (One ⊎ One)))) → CmpOp
cmp_op_of (inl _) = cmps.Eq
cmp_op_of (inr (inl _)) = cmps.Ne
cmp_op_of (inr (inr (inl _))) = cmps.Lt
cmp_op_of (inr (inr (inr (inl _)))) = cmps.Le
cmp_op_of (inr (inr (inr (inr (inl _))))) = cmps.Gt
cmp_op_of (inr (inr (inr (inr (inr _))))) = cmps.Ge

abbrev pub cmp_op_way : CmpOp → One ⊎ (One ⊎ (One ⊎ (One ⊎ (One ⊎ One))))
cmp_op_way cmps.Eq = inl tt
cmp_op_way cmps.Ne = inr (inl tt)
cmp_op_way cmps.Lt = inr (inr (inl tt))
cmp_op_way cmps.Le = inr (inr (inr (inl tt)))
cmp_op_way cmps.Gt = inr (inr (inr (inr (inl tt))))
cmp_op_way cmps.Ge = inr (inr (inr (inr (inr tt))))

-- a comparison: its number, from 0 for `=` to 5 for `>=`
unfoldable pub cmp_op : Codec CmpOp
cmp_op = mapped cmp_op_of cmp_op_way (tagged (nothing or nothing or nothing or nothing or nothing or last nothing))

abbrev pub agg_op_of : One ⊎ (One ⊎ (One ⊎ (One ⊎ (One ⊎ (One ⊎ (One ⊎ (One ⊎ One))))))) → AggOp
agg_op_of (inl _) = aggs.Count
agg_op_of (inr (inl _)) = aggs.Countu
agg_op_of (inr (inr (inl _))) = aggs.Sum
agg_op_of (inr (inr (inr (inl _)))) = aggs.Sumu
agg_op_of (inr (inr (inr (inr (inl _))))) = aggs.Avg
agg_op_of (inr (inr (inr (inr (inr (inl _)))))) = aggs.Avgu
agg_op_of (inr (inr (inr (inr (inr (inr (inl _))))))) = aggs.Min
agg_op_of (inr (inr (inr (inr (inr (inr (inr (inl _)))))))) = aggs.Max
agg_op_of (inr (inr (inr (inr (inr (inr (inr (inr _)))))))) = aggs.Any

abbrev pub agg_op_way : AggOp → One ⊎ (One ⊎ (One ⊎ (One ⊎ (One ⊎ (One ⊎ (One ⊎ (One ⊎ One)))))))
agg_op_way aggs.Count = inl tt
agg_op_way aggs.Countu = inr (inl tt)
agg_op_way aggs.Sum = inr (inr (inl tt))
agg_op_way aggs.Sumu = inr (inr (inr (inl tt)))
agg_op_way aggs.Avg = inr (inr (inr (inr (inl tt))))
agg_op_way aggs.Avgu = inr (inr (inr (inr (inr (inl tt)))))
agg_op_way aggs.Min = inr (inr (inr (inr (inr (inr (inl tt))))))
agg_op_way aggs.Max = inr (inr (inr (inr (inr (inr (inr (inl tt)))))))
agg_op_way aggs.Any = inr (inr (inr (inr (inr (inr (inr (inr tt)))))))

-- an aggregate: its number, from 0 for `count` to 8 for `any`
unfoldable pub agg_op : Codec AggOp
agg_op = mapped agg_op_of agg_op_way (tagged (nothing or nothing or nothing or nothing or nothing or nothing or nothing or nothing or last nothing))

abbrev pub update_op_of : One ⊎ (One ⊎ (One ⊎ One)) → UpdateOp
update_op_of (inl _) = updates.Append
update_op_of (inr (inl _)) = updates.Replace
update_op_of (inr (inr (inl _))) = updates.Delete
update_op_of (inr (inr (inr _))) = updates.Into

abbrev pub update_op_way : UpdateOp → One ⊎ (One ⊎ (One ⊎ One))
update_op_way updates.Append = inl tt
update_op_way updates.Replace = inr (inl tt)
update_op_way updates.Delete = inr (inr (inl tt))
update_op_way updates.Into = inr (inr (inr tt))

-- what an update does: its number, from 0 for an append to 3 for a relation made of an answer
unfoldable pub update_op : Codec UpdateOp
update_op = mapped update_op_of update_op_way (tagged (nothing or nothing or nothing or last nothing))
