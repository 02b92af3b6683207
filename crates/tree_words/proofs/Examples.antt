-- Worked examples.
use Rattle.std.proofs.Common.{◌≡◌, ℕ, zero, suc, ◌&&◌, Bool, true, false, nat_le, negsuc, [], ◌∷◌, Some, Ok, Err, refl, inl, inr, ◌⊎◌}
use Rattle.tree_words.specs.Codec.{Codec}
use Rattle.tree_words.specs.Words.{byte, both, nothing, list, short, spelt, items_read, number16, number32, number64}
use Rattle.tree_words.specs.Ways.{tagged, ◌or◌, gated, last, flag, option}
use Rattle.tree_words.specs.Whole.{reads_whole}

numbers_are_written_high_byte_first : number32.write 66051 ≡ 0 ∷ 1 ∷ 2 ∷ 3 ∷ []
unfolding number32 number16
numbers_are_written_high_byte_first = refl

numbers_are_read_high_byte_first : number16.read (1 ∷ 2 ∷ 9 ∷ []) ≡ Ok (258, 9 ∷ [])
unfolding number16
numbers_are_read_high_byte_first = refl

minus_two_is_written : number64.write (negsuc 1) ≡ 255 ∷ 255 ∷ 255 ∷ 255 ∷ 255 ∷ 255 ∷ 255 ∷ 254 ∷ []
unfolding number64 number32 number16
minus_two_is_written = refl

minus_two_is_read : number64.read (255 ∷ 255 ∷ 255 ∷ 255 ∷ 255 ∷ 255 ∷ 255 ∷ 254 ∷ []) ≡ Ok (negsuc 1, [])
unfolding number64 number32 number16
minus_two_is_read = refl

a_number_that_ends_early : number16.read (1 ∷ []) ≡ Err 0
unfolding number16
a_number_that_ends_early = refl

two_is_no_flag : flag.read (2 ∷ 7 ∷ []) ≡ Err 2
unfolding flag
two_is_no_flag = refl

a_value_stands_behind_one : (option byte).write (Some 7) ≡ 1 ∷ 7 ∷ []
unfolding option
a_value_stands_behind_one = refl

a_list_stands_behind_its_count : (list number16 byte).write (7 ∷ 8 ∷ []) ≡ 0 ∷ 2 ∷ 7 ∷ 8 ∷ []
unfolding list number16
a_list_stands_behind_its_count = refl

a_count_of_four_bytes : (list number32 byte).read (0 ∷ 0 ∷ 0 ∷ 1 ∷ 7 ∷ 8 ∷ []) ≡ Ok (7 ∷ [], 8 ∷ [])
unfolding list number32 number16 items_read
a_count_of_four_bytes = refl

an_item_is_missing : (list number16 byte).read (0 ∷ 2 ∷ 7 ∷ []) ≡ Err 0
unfolding list number16 items_read
an_item_is_missing = refl

-- one to three bytes, of which the last is no 32
abbrev is_length : ℕ → Bool
is_length n = nat_le 1 n && nat_le n 3

abbrev may_stand : ℕ → ℕ → ℕ → Bool
may_stand size zero b = nat_le 33 b
may_stand size (suc following) b = nat_le 32 b

short_bytes_are_read : (short is_length may_stand).read (2 ∷ 32 ∷ 65 ∷ 9 ∷ []) ≡ Ok (32 ∷ 65 ∷ [], 9 ∷ [])
unfolding short spelt items_read
short_bytes_are_read = refl

the_last_byte_may_not_stand : (short is_length may_stand).read (2 ∷ 65 ∷ 32 ∷ 9 ∷ []) ≡ Err 2
unfolding short spelt items_read
the_last_byte_may_not_stand = refl

four_bytes_are_too_many : (short is_length may_stand).read (4 ∷ 65 ∷ 65 ∷ 65 ∷ 65 ∷ []) ≡ Err 5
unfolding short spelt items_read
four_bytes_are_too_many = refl

-- a byte, a number of two bytes where the test holds, or nothing
abbrev three_ways : Bool → Codec (ℕ ⊎ (ℕ ⊎ Unit {0}))
three_ways test = tagged (byte or gated test number16 (last nothing))

the_second_way_is_open : (three_ways true).read (1 ∷ 0 ∷ 5 ∷ []) ≡ Ok (inr (inl 5), [])
unfolding number16
the_second_way_is_open = refl

the_second_way_is_shut : (three_ways false).read (1 ∷ 0 ∷ 5 ∷ []) ≡ Err 3
the_second_way_is_shut = refl

there_is_no_fourth_way : (three_ways true).read (3 ∷ 0 ∷ []) ≡ Err 2
there_is_no_fourth_way = refl

what_follows_is_wrong : reads_whole byte (1 ∷ 2 ∷ 3 ∷ []) ≡ Err 2
unfolding reads_whole
what_follows_is_wrong = refl

what_is_missing_is_wrong_at_the_end : reads_whole (both byte number16) (1 ∷ 2 ∷ []) ≡ Err 0
unfolding reads_whole number16
what_is_missing_is_wrong_at_the_end = refl
