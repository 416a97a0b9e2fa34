-- Bits of documents, one each, 64 in a number.
use Rattle.std.specs.Prelude.{ℕ, ◌≡◌, ◌*◌, ◌/◌, ◌%◌, ◌<◌, ◌≤◌, List, Bool, length, get_or, map, nat_eq, []}
use Rattle.std.specs.Int.{bit_at}
use Rattle.fan_base.specs.declared.doc.Doc.{Doc}
use Rattle.fan_base.specs.declared.word.Word.{Word}
use Rattle.word_table.specs.declared.sorted.Sorted.{Sorted}
use Rattle.word_table.specs.Numbers.{IsAt, number_in}
use Rattle.word_table.specs.Told.{HasPlaces}
use Rattle.shard_index.specs.declared.frequent.Frequent.{Frequent}
use Rattle.shard_index.specs.Places.{has_word, standing_of}

-- whether the bit of a place is set
abbrev pub bit_of : List ℕ → ℕ → Bool
bit_of bits place = nat_eq (bit_at (get_or bits (place / 64) 0) (place % 64)) 1

-- there is a bit for each of the documents, which is set where the document passes a test
pub record AreBits (bits : List ℕ) (test : Doc → Bool) (docs : List Doc) : Type 0 where
  pub enough : length docs ≤ 64 * length bits
  pub are : (i : ℕ) (d : Doc) → i < length docs → bit_of bits i ≡ test (get_or docs i d)

-- beside the number of each word are its bits
pub record StandBeside (numbers : List ℕ) (bits : List (List ℕ)) (known : List Word) (docs : List Doc) : Type 0 where
  pub many : length bits ≡ length numbers
  pub each : (i : ℕ) (word : Word) → i < length numbers → get_or numbers i 0 ≡ number_in known word → AreBits (get_or bits i []) (has_word word) docs

-- the bits of each word are those of the documents where it stands
abbrev pub HasBits : Frequent → List Word → List Doc → Type 0
HasBits frequent known docs = StandBeside frequent.numbers.items (map (λ bits. bits.items) frequent.bits.items) known docs

-- the sorted places are those where these words, which differ, stand in documents
pub record AreSortedFor (sorted : Sorted) (known : List Word) (docs : List Doc) : Type 0 where
  pub places : HasPlaces sorted known (λ word. standing_of word docs)
  pub differ : (number : ℕ) (word : Word) → IsAt known number word → number_in known word ≡ number
