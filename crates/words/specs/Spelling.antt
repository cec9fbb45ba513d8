use Rattle.std.specs.Prelude.{◌≡◌, ℕ, ◌+◌, ◌≤◌, true, cond, List, [], ◌∷◌, ◌++◌, length, drop, Ok}
use Rattle.std.specs.List.{AllByRecursion}
use Rattle.words.specs.Words.{WordSeen, closing, is_content, is_gap, next_word}

-- A gap has nothing but LF and CR.
abbrev pub Gap : List ℕ → Type 0
Gap g = AllByRecursion (λ b. is_gap b ≡ true) g

-- Content has one byte or more, and content bytes only.
abbrev pub Content : List ℕ → Type 0
Content t = (1 ≤ length t) × AllByRecursion (λ b. is_content b ≡ true) t

-- A word as it is written: content and `*`, or `%`, content and `*%`.
abbrev pub spelled : WordSeen → List ℕ
spelled w = cond w.extended (37 ∷ (w.content.text ++ (42 ∷ (37 ∷ [])))) (w.content.text ++ (42 ∷ []))

-- The words ws stand one after another in the file xs, from `at` to `end`, the first after k commands.
abbrev pub Stand : ℕ → List ℕ → ℕ → List WordSeen → ℕ → Type 0
Stand k xs at [] end = at ≡ end
Stand k xs at (w ∷ ws) end = (next_word k xs at ≡ Ok w) × Stand (k + 1) xs w.next ws end

-- The bytes ys are a gap and a word as it is written, for each of the words ws, and then the bytes rest.
abbrev pub Woven : List ℕ → List WordSeen → List ℕ → Type 0
Woven ys [] rest = ys ≡ rest
Woven ys (w ∷ ws) rest = (g : List ℕ) × (zs : List ℕ) × Gap g × Content w.content.text × (ys ≡ g ++ (spelled w ++ zs)) × Woven zs ws rest

-- Words that stand in a file are, with their marks and the gaps between them, its bytes.
abbrev pub WordsAreTheFile : Type 0
WordsAreTheFile = (k : ℕ) (xs : List ℕ) (at : ℕ) (ws : List WordSeen) (end : ℕ) → Stand k xs at ws end → Woven (drop at xs) ws (drop end xs)

-- What is left of a file that closes is a gap.
abbrev pub ClosedByGap : Type 0
ClosedByGap = (k : ℕ) (xs : List ℕ) (at : ℕ) → closing k xs at ≡ Ok tt → Gap (drop at xs)
