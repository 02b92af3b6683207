use Rattle.std.proofs.Common.{◌≡◌, ◌+◌, ◌-◌, ◌^◌, min, refl}
use Rattle.monitor.proofs.Lined.{byte_failed, byte_none, byte_over, byte_some, too_long_before}
use Rattle.monitor.proofs.lines.read_byte.Goals as goal

pub returns-then-heard-gt-MOST_SCRIPT_BYTES-clause-source : goal.returns-then-heard-gt-MOST_SCRIPT_BYTES-clause-source
returns-then-heard-gt-MOST_SCRIPT_BYTES-clause-source g c = too_long_before c.args.heard.now _ _ _ c.if-heard-gt-MOST_SCRIPT_BYTES.true

pub returns-in-Err-clause-source : goal.returns-in-Err-clause-source
returns-in-Err-clause-source g c = byte_failed c.args.heard.now _ _ _ _ _ _ c.in-Err.ensures.kept c.in-Err.ensures.same c.in-Err.ensures.cause.later c.in-Err.ensures.cause.failed

pub returns-in-Ok-None-clause-byte : goal.returns-in-Ok-None-clause-byte
returns-in-Ok-None-clause-byte g c = rw c.in-Ok-None.field-0-is at c.in-Ok-None.ensures.byte

pub returns-in-Ok-None-clause-source : goal.returns-in-Ok-None-clause-source
returns-in-Ok-None-clause-source g c =
    let gave : g.S.Source.given c.next_byte.new.source ≡ min (g.S.Source.given c.args.source.now + 0) (2 ^ 64 - 1) = rw c.in-Ok-None.field-0-is at c.in-Ok-None.ensures.given in
    byte_none c.args.heard.now _ (g.S.Source.left c.next_byte.new.source) _ _ _ _ _ (rw c.in-Ok-None.field-0-is at c.in-Ok-None.ensures.byte) gave c.in-Ok-None.ensures.cause.answered

pub returns-then-heard-gt-MOST_SCRIPT_BYTES-2-clause-source : goal.returns-then-heard-gt-MOST_SCRIPT_BYTES-2-clause-source
returns-then-heard-gt-MOST_SCRIPT_BYTES-2-clause-source g c =
    let gave : g.S.Source.given c.next_byte.new.source ≡ min (g.S.Source.given c.args.source.now + 1) (2 ^ 64 - 1) = rw c.in-Ok-Some.field-0-is at c.in-Ok-Some.ensures.given in
    byte_over c.args.heard.now _ _ (g.S.Source.left c.next_byte.new.source) _ _ _ _ c.in-Ok-Some.byte (rw c.in-Ok-Some.field-0-is at c.in-Ok-Some.ensures.byte) refl c.if-heard-gt-MOST_SCRIPT_BYTES-2.true gave c.in-Ok-Some.ensures.cause.answered

pub returns-else-heard-gt-MOST_SCRIPT_BYTES-2-clause-byte : goal.returns-else-heard-gt-MOST_SCRIPT_BYTES-2-clause-byte
returns-else-heard-gt-MOST_SCRIPT_BYTES-2-clause-byte g c = rw c.in-Ok-Some.field-0-is at c.in-Ok-Some.ensures.byte

pub returns-else-heard-gt-MOST_SCRIPT_BYTES-2-clause-source : goal.returns-else-heard-gt-MOST_SCRIPT_BYTES-2-clause-source
returns-else-heard-gt-MOST_SCRIPT_BYTES-2-clause-source g c =
    let gave : g.S.Source.given c.next_byte.new.source ≡ min (g.S.Source.given c.args.source.now + 1) (2 ^ 64 - 1) = rw c.in-Ok-Some.field-0-is at c.in-Ok-Some.ensures.given in
    byte_some c.args.heard.now _ _ (g.S.Source.left c.next_byte.new.source) _ _ _ _ c.in-Ok-Some.byte _ (rw c.in-Ok-Some.field-0-is at c.in-Ok-Some.ensures.byte) refl c.if-heard-gt-MOST_SCRIPT_BYTES-2.false gave c.in-Ok-Some.ensures.cause.answered
