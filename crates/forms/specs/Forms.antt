use Rattle.std.specs.Prelude.{ℕ, ◌+◌, ◌^◌, cond, length, None, Option, nat_lt}
use Rattle.forms.specs.Extended.{extended_of}
use Rattle.forms.specs.Orders.{Order}
use Rattle.forms.specs.Plain.{plain_of}
use Rattle.words.specs.Words.{Piece, WordSeen}

-- The command that a word is by its form, if it has one; a value has at most `longest` digits.
unfoldable pub form_of : ℕ → WordSeen → Option Order
form_of longest w = cond w.extended (extended_of w.content) (plain_of longest w.content)

-- Only what ends below the last address is read.
abbrev pub within : Piece → Option Order → Option Order
within c o = cond (nat_lt (c.at + length c.text) (2 ^ 64)) o None
