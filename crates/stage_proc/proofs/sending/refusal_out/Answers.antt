use Rattle.std.proofs.Common.{◌≡◌, ◌++◌, ◌∙◌, refl, sym, ap, subst, true, false, List, ℕ, Option, IfSome}
use Rattle.std.specs.Prelude.{IfNone}
use Rattle.frame_codec.specs.declared.frame.Frame.{Frame}
use Rattle.frame_codec.specs.declared.message.Message.{Message as Sent}
use Rattle.frame_codec.specs.Messages.{is_message_kind, message_frames}
use Rattle.message_codec.specs.Messages.{IsMessageOf}
use Rattle.network_meaning.specs.Sorts.{Message.said, Reply.refused, Said.replied}
use Rattle.quel_meaning.specs.Copying.{refusal}
use Rattle.quel_network.specs.Spelling.{is_refusal_number}
use Rattle.stage_proc.proofs.Framed.{refusal_put}
use Rattle.stage_proc.proofs.sending.refusal_out.Goals as goal

pub returns : goal.returns
returns c =
    let told : IsMessageOf (said (replied (refused (refusal c.args.number)))) c.in-Some.message.kind c.in-Some.message.bytes = subst (λ (o : Option Sent). IfSome o (λ m. IsMessageOf (said (replied (refused (refusal c.args.number)))) m.kind m.bytes)) c.in-Some.is c.in_ok-message.ensures.some in
    refusal_put c.args.number c.in-Some.message.kind c.in-Some.message.bytes c.put.new.self told
    (c.in_ok-put-in-Some.ensures.ok ∙ ap (λ (fs : List Frame). fs ++ message_frames c.in-Some.message.kind c.in-Some.message.bytes) c.new-out.ensures)

pub unreachable-requires : goal.unreachable-requires
unreachable-requires c =
    let unknown : is_refusal_number c.args.number ≡ false = subst (λ (o : Option Sent). IfNone o (is_refusal_number c.args.number ≡ false)) c.in-None.is c.in_ok-message.ensures.none in
    let no : true ≡ false = sym c.requires ∙ unknown in
    cc no

pub put-requires : goal.put-requires
put-requires c =
    let seven : c.in-Some.message.kind ≡ 7 = subst (λ (o : Option Sent). IfSome o (λ m. m.kind ≡ 7)) c.in-Some.is c.in_ok-message.ensures.kind in
    subst (λ (k : ℕ). is_message_kind k ≡ true) (sym seven) refl
