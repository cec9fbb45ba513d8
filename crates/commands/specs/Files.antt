use Rattle.std.specs.Prelude.{ℕ, zero, suc, ◌+◌, ◌<◌, ◌≤◌, Bool, true, false, cond, List, length, Some, None, Ok, Err, Option, Result}
use Rattle.std.specs.Result as results
use Rattle.ticks.specs.Ticks.{places_of}
use Rattle.words.specs.Words.{Told, WordSeen, closing, fault, next_word, onward, text_told}
use Rattle.forms.specs.Forms.{form_of}
use Rattle.forms.specs.Orders as order
use Rattle.forms.specs.Orders.{Order, seen_command}
use Rattle.forms.specs.declared.Format.{Format}
use Rattle.commands.specs.declared.CommandFault.{CommandFault}
use Rattle.commands.specs.declared.CommandFault.TheVariants.{Text, Form}
use Rattle.commands.specs.declared.Read.{Read}

-- A refusal of the text tells what the text layer tells; a command of none of the forms is refusal 20.
abbrev pub command_told : CommandFault → Told
command_told (Text t) = text_told t
command_told (Form p k) = fault 20 p k

-- A value has at most the digits of the format in force, and 12 before there is one.
abbrev pub longest_of : Option Format → ℕ
longest_of None = 12
longest_of (Some f) = f.whole + places_of f.decimals

-- A command, the place of its first content byte, and the place behind it.
pub record ReadSeen : Type 0 where
  pub order : Order
  pub place : ℕ
  pub next : ℕ

-- An answer of the program, with what its refusal tells.
abbrev pub told_command : {A : Type 0} → Result A CommandFault → Result A Told
told_command r = results.result_map_both (λ x. x) command_told r

-- The same of a command that was read, as plain values.
abbrev pub seen_read : Result Read CommandFault → Result ReadSeen Told
seen_read r = results.result_map_both (λ x. record { order = seen_command x.command; place = x.place; next = x.next }) command_told r

-- A word of none of the forms is refused at its first content byte.
abbrev pub formed : ℕ → WordSeen → Option Order → Result ReadSeen Told
formed k w None = Err (fault 20 w.content.at k)
formed k w (Some o) = Ok (record { order = o; place = w.content.at; next = w.next })

-- The next command of the file xs from i on: first its text, then its form.
abbrev pub next_command : ℕ → List ℕ → ℕ → Option Format → Result ReadSeen Told
next_command k xs i f = onward (next_word k xs i) (λ w. formed k w (form_of (longest_of f) w))

-- A command ends behind the place where it was looked for, and within the file.
abbrev pub Goes : ℕ → ℕ → Result Read CommandFault → Type 0
Goes at n (Ok r) = (at < r.next) × (r.next ≤ n)
Goes at n (Err e) = Unit {0}

-- What a command means to the reading of those behind it: it sets the format, ends the file, or neither.
pub data Turn : Type 0 where
  sets : Format → Turn
  ends : Turn
  passes : Turn

abbrev pub turn_of : Order → Turn
turn_of (order.format d f) = sets f
turn_of (order.unit u) = passes
turn_of (order.circle k d) = passes
turn_of (order.rectangle k w h) = passes
turn_of (order.obround k w h) = passes
turn_of (order.block_open k) = passes
turn_of order.block_close = passes
turn_of (order.repeat_open i j x y) = passes
turn_of order.repeat_close = passes
turn_of (order.polarity p) = passes
turn_of (order.mirror x y) = passes
turn_of (order.attribute k t) = passes
turn_of (order.comment t) = passes
turn_of (order.mode m) = passes
turn_of order.multi_quadrant = passes
turn_of order.region_open = passes
turn_of order.region_close = passes
turn_of order.end_of_file = ends
turn_of (order.select k) = passes
turn_of (order.draw x y i j) = passes
turn_of (order.move x y) = passes
turn_of (order.flash x y) = passes

abbrev ends_by : Turn → Bool
ends_by (sets f) = false
ends_by ends = true
ends_by passes = false

abbrev pub is_end : Order → Bool
is_end o = ends_by (turn_of o)

abbrev set_by : Turn → Option Format → Option Format
set_by (sets f) before = Some f
set_by ends before = before
set_by passes before = before

-- The format in force behind a command.
abbrev pub format_after : Order → Option Format → Option Format
format_after o before = set_by (turn_of o) before

-- `next_command` under a name that proofs do not open.
unfoldable pub command_at : ℕ → List ℕ → ℕ → Option Format → Result ReadSeen Told
command_at k xs i f = next_command k xs i f

-- The last of k commands ends at i, and nothing but CR and LF follows.
unfoldable pub ended : ℕ → List ℕ → ℕ → Result ℕ Told
ended k xs i = onward (closing k xs i) (λ _. Ok k)

-- Behind M02 the file ends; behind any other command `more` reads on.
abbrev pub behind : ℕ → List ℕ → Option Format → (ℕ → Option Format → Result ℕ Told) → ReadSeen → Result ℕ Told
behind k xs f more r = cond (is_end r.order) (ended k xs r.next) (more r.next (format_after r.order f))

-- k commands were taken, and the file xs is read on from i under the format f, over at most `fuel` commands.
abbrev pub run : ℕ → ℕ → List ℕ → ℕ → Option Format → Result ℕ Told
run zero k xs i f = Ok k
run (suc fuel) k xs i f = onward (command_at k xs i f) (behind (k + 1) xs f (run fuel (k + 1) xs))

-- How many commands the file xs has: every command has a byte or more, so the fuel never runs out.
abbrev pub count_commands : List ℕ → Result ℕ Told
count_commands xs = run (suc (length xs)) 0 xs 0 None
