-- What a name calls, as the grammar says it.
use Rattle.quel_grammar.specs.TermReaders.{Call as Called}
use Rattle.quel_grammar.specs.TermReaders.Call.{CallAbs, CallMod, CallConcat, CallAggregate}
use Rattle.quel_terms.specs.declared.called.Call.{Call}
use Rattle.quel_terms.specs.declared.called.Call.TheVariants as calls

-- what the program's value calls
abbrev pub call_of : Call → Called
call_of calls.Abs = CallAbs
call_of calls.Mod = CallMod
call_of calls.Concat = CallConcat
call_of (calls.Aggregate op) = CallAggregate op
