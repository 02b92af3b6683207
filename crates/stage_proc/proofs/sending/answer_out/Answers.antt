use Rattle.std.proofs.Common.{◌≡◌, ◌++◌, ◌∙◌, refl, sym, ap, subst, true, [], List, ℕ}
use Rattle.frame_codec.specs.declared.frame.Frame.{Frame}
use Rattle.frame_codec.specs.Messages.{is_message_kind, message_frames}
use Rattle.stage_proc.specs.Sending.{tables_frames}
use Rattle.stage_proc.proofs.sending.answer_out.Goals as goal

pub returns : goal.returns
returns c =
    c.in_ok-put.ensures.ok ∙ (λ i. c.put_tables.new.out ++ message_frames (c.end_message.ensures.kind i) (c.end_message.ensures.bytes i))
    ∙ ap (λ (fs : List Frame). fs ++ message_frames 6 []) (c.in_ok-put_tables.ensures ∙ ap (λ (fs : List Frame). fs ++ tables_frames c.args.tables) c.new-out.ensures)

pub put-requires : goal.put-requires
put-requires c = subst (λ (k : ℕ). is_message_kind k ≡ true) (sym c.end_message.ensures.kind) refl
