-- What a release answers.
use Rattle.std.specs.Prelude.{◌≡◌, ◌<◌}
use Rattle.keep_alive.specs.Seen.{ReceiptSeen}
use Rattle.keep_alive.specs.declared.keep.Released.{Released}
use Rattle.keep_alive.specs.declared.keep.Released.TheVariants.{Last, More}

abbrev pub receipt_of : Released → ReceiptSeen
receipt_of (Last receipt) = receipt
receipt_of (More receipt) = receipt

-- the last exactly where the count found was 1, and more exactly where it was above
abbrev pub SaysWhatWasFound : Released → Type 0
SaysWhatWasFound (Last receipt) = receipt.found ≡ 1
SaysWhatWasFound (More receipt) = 1 < receipt.found
