-- 0 or 1, and 0, or 1 and a value: the laws.
use Rattle.std.specs.Prelude.{true, false, Some, None}
use Rattle.std.proofs.Common.{inl, inr, refl}
use Rattle.tree_words.specs.Codec.{Codec}
use Rattle.tree_words.specs.Words.{nothing}
use Rattle.tree_words.specs.Ways.{last, ◌or◌, tagged, flag, flag_of, flag_way, option, option_of, option_way}
use Rattle.tree_words.specs.Exact.{Exact}
use Rattle.tree_words.specs.FormLaws.{mapped_exact}
use Rattle.tree_words.specs.LetterLaws.{nothing_exact}
use Rattle.tree_words.specs.WayLaws.{last_exact, or_exact, tagged_exact}

pub flag_exact : Exact flag
unfolding flag
flag_exact = mapped_exact flag_of flag_way (tagged (nothing or last nothing))
    (elim [ inl u ↦ λ f. refl | inr u ↦ λ f. refl ]) (elim [ true ↦ λ f. refl | false ↦ λ f. refl ])
    (tagged_exact (nothing or last nothing) (inl tt) tt (or_exact nothing (last nothing) nothing_exact (last_exact nothing nothing_exact)))

pub option_exact : {A : Type 0} (c : Codec A) → Exact c → Exact (option c)
unfolding option
option_exact c ce = mapped_exact option_of option_way (tagged (nothing or last c))
    (elim [ inl u ↦ λ f. refl | inr a ↦ λ f. refl ]) (elim [ None ↦ λ f. refl | Some a ↦ λ f. refl ])
    (tagged_exact (nothing or last c) (inl tt) tt (or_exact nothing (last c) nothing_exact (last_exact c ce)))
