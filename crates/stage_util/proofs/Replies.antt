-- Answers as frames.
use Rattle.std.proofs.Common.{◌≡◌, ap, ◌∙◌, ℕ, List, [], ◌++◌}
use Rattle.calculus.specs.declared.reply.Refusal.{Refusal}
use Rattle.frame_codec.specs.declared.frame.Frame.{Frame}
use Rattle.frame_codec.specs.Messages.{message_frames}
use Rattle.message_codec.specs.MessageLaws.{by_only}
use Rattle.message_codec.specs.Messages.{IsMessageOf}
use Rattle.network_meaning.specs.Frames.{kind_of}
use Rattle.network_meaning.specs.Sorts.{Message.said, Reply.refused, Said.replied}
use Rattle.quel_network.specs.Sorts.{quel_sorts}
use Rattle.quel_network.specs.Spelling.{payload_of}
use Rattle.stage_util.specs.declared.carried.Carried.TheVariants as carried
use Rattle.stage_util.specs.Working.{frames_of}

pub done_frames : (kind : ℕ) (bytes : List ℕ) (old new : List Frame) → kind ≡ 8 → bytes ≡ [] → new ≡ old ++ message_frames kind bytes → new ≡ old ++ frames_of carried.Done
unfolding payload_of
done_frames kind bytes old new k b e = e ∙ ap (λ (fs : List Frame). old ++ fs) (ap (λ (n : ℕ). message_frames n bytes) k ∙ ap (λ (bs : List ℕ). message_frames 8 bs) b)

pub refused_frames : (r : Refusal) (kind : ℕ) (bytes : List ℕ) (old new : List Frame) → IsMessageOf (said (replied (refused r))) kind bytes → new ≡ old ++ message_frames kind bytes → new ≡ old ++ frames_of (carried.Refused r)
refused_frames r kind bytes old new is e =
    let o = by_only kind bytes (said (replied (refused r))) is in
    e ∙ ap (λ (fs : List Frame). old ++ fs) (ap (λ (n : ℕ). message_frames n bytes) o.kind_is ∙ ap (λ (bs : List ℕ). message_frames (kind_of {S = quel_sorts} (said (replied (refused r)))) bs) o.bytes_are)
