use Rattle.std.specs.Prelude.{ℕ, ◌+◌, ◌<◌, ◌≤◌, Bool, true, false, cond, not, ◌&&◌, ◌||◌, List, length, drop, Ok, Err, Result, ◌==◌, nat_le, slice_index}
use Rattle.std.specs.Result as results
use Rattle.std.specs.List.{between, prefix_len}
use Rattle.words.specs.declared.Part.{Part}
use Rattle.words.specs.declared.TextFault.TheVariants.{Byte, End}
use Rattle.words.specs.declared.TextFault.{TextFault}
use Rattle.words.specs.declared.Word.{Word}

-- What any refusal tells: its number, its place in the file, and how many commands were taken before it.
pub record Told : Type 0 where
  pub number : ℕ
  pub place : ℕ
  pub taken : ℕ

-- The refusal n at the place p, after k commands.
abbrev pub fault : ℕ → ℕ → ℕ → Told
fault n p k = record { number = n; place = p; taken = k }

-- A byte that is not allowed there is refusal 10; a file that ends too early is 11.
abbrev pub text_told : TextFault → Told
text_told (Byte p k) = fault 10 p k
text_told (End p k) = fault 11 p k

-- A gap byte is LF or CR.
abbrev pub is_gap : ℕ → Bool
is_gap b = b == 10 || b == 13

-- A content byte is one from 32 to 126, and neither `*` nor `%`.
abbrev pub is_content : ℕ → Bool
is_content b = (nat_le 32 b && nat_le b 126) && (not (b == 42) && not (b == 37))

-- Bytes, and where they stand in the file.
pub record Piece : Type 0 where
  pub at : ℕ
  pub text : List ℕ

-- A part of the file as plain bytes with their place.
abbrev pub piece : Part → Piece
piece p = record { at = p.at; text = p.text.now }

-- A word: whether it is extended, its content, and the place behind it.
pub record WordSeen : Type 0 where
  pub extended : Bool
  pub content : Piece
  pub next : ℕ

-- A word of the program as plain values.
abbrev pub seen : Word → WordSeen
seen w = record { extended = w.extended; content = piece w.content; next = w.next }

-- An answer of the program, with what its refusal tells.
abbrev pub told_text : {A : Type 0} → Result A TextFault → Result A Told
told_text r = results.result_map_both (λ x. x) text_told r

-- The same of a word, as plain values.
abbrev pub seen_word : Result Word TextFault → Result WordSeen Told
seen_word r = results.result_map_both seen text_told r

-- A word begins behind the gap bytes at i.
abbrev pub word_start : List ℕ → ℕ → ℕ
word_start xs i = i + prefix_len is_gap (drop i xs)

-- Content at i ends behind its last content byte.
abbrev pub content_end : List ℕ → ℕ → ℕ
content_end xs i = i + prefix_len is_content (drop i xs)

-- At the end e of the content at i there is a `*`, and the content is not empty.
abbrev pub star_at : ℕ → List ℕ → ℕ → ℕ → Result ℕ Told
star_at k xs i e =
    cond (nat_le (length xs) e) (Err (fault 11 (length xs) k))
    (cond (slice_index xs e == 42 && not (e == i)) (Ok e) (Err (fault 10 e k)))

-- The place of the `*` behind the content at i.
abbrev pub star_after : ℕ → List ℕ → ℕ → Result ℕ Told
star_after k xs i = star_at k xs i (content_end xs i)

-- The content from i to its `*` at e.
abbrev content_of : List ℕ → ℕ → ℕ → Piece
content_of xs i e = record { at = i; text = between i e xs }

-- A word command is content and `*`.
abbrev pub plain_word : List ℕ → ℕ → ℕ → Result WordSeen Told
plain_word xs i e = Ok (record { extended = false; content = content_of xs i e; next = e + 1 })

-- An extended command has `%` before its content, and `%` right behind the `*`.
abbrev pub extended_word : ℕ → List ℕ → ℕ → ℕ → Result WordSeen Told
extended_word k xs i e =
    cond (nat_le (length xs) (e + 1)) (Err (fault 11 (length xs) k))
    (cond (slice_index xs (e + 1) == 37) (Ok (record { extended = true; content = content_of xs i e; next = e + 2 }))
    (Err (fault 10 (e + 1) k)))

-- What follows from a good answer; a refusal stays.
abbrev pub onward : {A B E : Type 0} → Result A E → (A → Result B E) → Result B E
onward (Ok x) f = f x
onward (Err e) f = Err e

-- The word that begins at i, where no gap byte stands.
abbrev pub word_from : ℕ → List ℕ → ℕ → Result WordSeen Told
word_from k xs i =
    cond (nat_le (length xs) i) (Err (fault 11 (length xs) k))
    (cond (slice_index xs i == 37) (onward (star_after k xs (i + 1)) (extended_word k xs (i + 1)))
    (onward (star_after k xs i) (plain_word xs i)))

-- The next word of the file xs from i on, behind a gap, k commands having been taken.
-- (A caller whose proofs grow long by it gives it a shut name of its own.)
abbrev pub next_word : ℕ → List ℕ → ℕ → Result WordSeen Told
next_word k xs i = word_from k xs (word_start xs i)

-- From i on the file xs has nothing but gap bytes, k commands having been taken.
abbrev pub closing : ℕ → List ℕ → ℕ → Result (Unit {0}) Told
closing k xs i = cond (nat_le (length xs) (word_start xs i)) (Ok tt) (Err (fault 10 (word_start xs i) k))

-- A word ends behind the place where it was looked for, and its content and mark lie in the file.
abbrev pub Moves : ℕ → ℕ → Result Word TextFault → Type 0
Moves at n (Ok w) = (at < w.next) × (w.next ≤ n) × (w.content.at + length w.content.text.now < n)
Moves at n (Err e) = Unit {0}
