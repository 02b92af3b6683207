-- The messages of the stages as bytes.
use Rattle.std.specs.Prelude.{ℕ, ◌==◌, ◌&&◌, Bool, true, false, List, [], ◌∷◌, map, Option, Some, None, Ok, Err, option_map, option_and_then}
use Rattle.std.specs.List.{list_any}
use Rattle.calculus.specs.declared.reply.Column.{Column}
use Rattle.calculus.specs.declared.reply.Refusal.{Refusal}
use Rattle.calculus.specs.declared.value.Kind.{Kind}
use Rattle.calculus.specs.declared.value.Kind.TheVariants.{Of, Wide}
use Rattle.calculus.specs.declared.value.Value.{Value}
use Rattle.calculus.specs.declared.value.Value.TheVariants.{Int, Text}
use Rattle.calculus.specs.Rows.{Row}
use Rattle.calculus.specs.Value.{fits}
use Rattle.network_meaning.specs.Sorts.{Message, Cargo.tree, Cargo.change, Shown.head, Shown.row, Reply.done, Reply.refused, Said.shown, Said.replied, Message.text, Message.cargo, Message.said, Message.end, Message.quit}
use Rattle.quel_meaning.specs.Printed.{refusal_texts}
use Rattle.quel_tree.specs.Changes.{change as change_codec}
use Rattle.quel_tree.specs.Message.{most_tree_levels}
use Rattle.quel_tree.specs.Relations.{columns as columns_codec}
use Rattle.quel_tree.specs.Requests.{checked as checked_codec}
use Rattle.quel_tree.specs.Values.{row as row_codec}
use Rattle.tree_words.specs.Codec.{Codec, Reading}
use Rattle.tree_words.specs.Words.{both, byte, number32, mapped}
use Rattle.quel_network.specs.Sorts.{quel_sorts}

-- ---- what bytes are read as

-- the value, where nothing stands behind it
abbrev pub whole_value : {A : Type 0} → Reading A → Option A
whole_value (Ok (x, [])) = Some x
whole_value (Ok (x, b ∷ bytes)) = None
whole_value (Err left) = None

-- the value that all these bytes spell, where they spell one
abbrev pub spelled_by : {A : Type 0} → Codec A → List ℕ → Option A
spelled_by codec bytes = whole_value (codec.read bytes)

-- nothing else, where there are no bytes
abbrev pub if_empty : {A : Type 0} → A → List ℕ → Option A
if_empty x [] = Some x
if_empty x (b ∷ bytes) = None

-- ---- refusals

-- a refusal: its number in a byte, its line and its row in four bytes each
abbrev pub refusal_codec : Codec Refusal
refusal_codec = mapped (λ p. record { code = p.0; line = p.1.0; row = p.1.1 }) (λ r. (r.code, (r.line, r.row))) (both byte (both number32 number32))

-- some refusal has this number
abbrev pub is_refusal_number : ℕ → Bool
is_refusal_number code = list_any (λ n. n == code) (31 ∷ map (λ t. t.0) refusal_texts)

-- the refusal, where some refusal has its number
abbrev pub known_refusal : Refusal → Option Refusal
known_refusal r = elim (is_refusal_number r.code) [ true ↦ Some r | false ↦ None ]

-- ---- rows behind their head

-- the value is one of the kind: of a domain, a number of its bits or a text that is no longer than its width; else any number, each of which has 64 bits
abbrev pub is_of_kind : Kind → Value → Bool
is_of_kind Wide (Int n) = true
is_of_kind Wide (Text bytes) = false
is_of_kind (Of domain) v = fits v domain

-- the row has one value for each column, of its kind
abbrev pub row_suits : List Column → Row → Bool
row_suits [] [] = true
row_suits [] (v ∷ vs) = false
row_suits (c ∷ cs) [] = false
row_suits (c ∷ cs) (v ∷ vs) = is_of_kind c.kind v && row_suits cs vs

-- ---- messages

-- the bytes of a message
unfoldable pub payload_of : Message quel_sorts → List ℕ
payload_of (text t) = t
payload_of (cargo (tree t)) = (checked_codec most_tree_levels).write t
payload_of (cargo (change c)) = (change_codec most_tree_levels).write c
payload_of (said (shown (head h))) = columns_codec.write h
payload_of (said (shown (row r))) = row_codec.write r
payload_of (said (replied (refused r))) = refusal_codec.write r
payload_of (said (replied done)) = []
payload_of end = []
payload_of quit = []

-- the message that these bytes are where its last frame is of this kind: 1 a batch, 2 a tree, 3 a head, 4 a row, 5 a change, 6 an end, 7 a refusal, 8 done, 10 a quit
unfoldable pub message_by : ℕ → List ℕ → Option (Message quel_sorts)
message_by kind bytes = elim (kind == 1) [
  | true ↦ Some (text bytes)
  | false ↦
      elim (kind == 2) [
        | true ↦ option_map (λ t. cargo (tree t)) (spelled_by (checked_codec most_tree_levels) bytes)
        | false ↦
            elim (kind == 3) [
              | true ↦ option_map (λ h. said (shown (head h))) (spelled_by columns_codec bytes)
              | false ↦
                  elim (kind == 4) [
                    | true ↦ option_map (λ r. said (shown (row r))) (spelled_by row_codec bytes)
                    | false ↦
                        elim (kind == 5) [
                          | true ↦ option_map (λ c. cargo (change c)) (spelled_by (change_codec most_tree_levels) bytes)
                          | false ↦
                              elim (kind == 6) [
                                | true ↦ if_empty end bytes
                                | false ↦
                                    elim (kind == 7) [
                                      | true ↦ option_map (λ r. said (replied (refused r))) (option_and_then known_refusal (spelled_by refusal_codec bytes))
                                      | false ↦
                                          elim (kind == 8) [
                                            | true ↦ if_empty (said (replied done)) bytes
                                            | false ↦
                                                elim (kind == 10) [ true ↦ if_empty quit bytes | false ↦ None ]
                                          ]
                                    ]
                              ]
                        ]
                  ]
            ]
      ]
]
