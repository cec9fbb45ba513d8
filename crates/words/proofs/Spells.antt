use Rattle.std.proofs.Common.{◌≡◌, ℕ, ◌+◌, ◌-◌, ◌<◌, ◌≤◌, Bool, true, false, cond, eqb, leb, List, [], ◌∷◌, ◌++◌, length, get_or, take, drop, Ok, Err, Result, sym, refl, ap, ◌∙◌, subst, append_assoc, one-add, arith, length-drop, take-append-drop, length-take, take_all, drop-drop}
use Rattle.std.proofs.lemmas.List.{drop_more}
use Rattle.std.proofs.lemmas.Bool.Decides.{nat_tests}
use Rattle.std.specs.List.{between, prefix_len, AllByRecursion}
use Rattle.words.specs.Spelling.{ClosedByGap, Content, WordsAreTheFile, spelled}
use Rattle.words.specs.Words.{WordSeen, content_end, extended_word, fault, is_content, is_gap, next_word, onward, plain_word, star_after, star_at, word_from, word_start}

-- the front that passes a test has only bytes that pass it
front_passes : (p : ℕ → Bool) (ys : List ℕ) → AllByRecursion (λ b. p b ≡ true) (take (prefix_len p ys) ys)
front_passes p [] = tt
front_passes p (y ∷ ys) =
    let step : (b : Bool) → p y ≡ b → AllByRecursion (λ x. p x ≡ true) (take (cond b (1 + prefix_len p ys) 0) (y ∷ ys)) = λ b. elim b as (λ b. p y ≡ b → AllByRecursion (λ x. p x ≡ true) (take (cond b (1 + prefix_len p ys) 0) (y ∷ ys))) [ true ↦ (λ e. rw one-add (e, front_passes p ys)) | false ↦ (λ e. tt) ]
    in step (p y) refl

-- a list from i on, cut behind its next n bytes
cut_at : (xs : List ℕ) (i n : ℕ) → drop i xs ≡ take n (drop i xs) ++ drop (i + n) xs
cut_at xs i n = sym (take-append-drop n (drop i xs)) ∙ ap (λ z. take n (drop i xs) ++ z) (drop-drop n i xs)

same_ok : {A E : Type 0} (x y : A) → ◌≡◌ {A = Result A E} (Ok x) (Ok y) → x ≡ y
same_ok x y h = cc

-- a good answer came from a good answer
onward_ok : {A B E : Type 0} (r : Result A E) (f : A → Result B E) (w : B) → onward r f ≡ Ok w → (x : A) × (r ≡ Ok x) × (f x ≡ Ok w)
onward_ok (Ok x) f w h = (x, refl, h)
onward_ok (Err e) f w h = cc

-- the word w stands at i, as it is written
pub record Spells (xs : List ℕ) (i : ℕ) (w : WordSeen) : Type 0 where
  pub content : Content w.content.text
  pub bytes : drop i xs ≡ spelled w ++ drop w.next xs

-- where the content at i ends by a `*`
star_found : (k : ℕ) (xs : List ℕ) (i m e : ℕ) → star_at k xs i (i + m) ≡ Ok e → (e ≡ i + m) × (e < length xs) × (get_or xs e 0 ≡ 42) × (1 ≤ m)
star_found k xs i m e h = grind (arith, nat_tests)

-- content and `*`, and what follows
content_spelled : (xs : List ℕ) (i e : ℕ) → e ≡ content_end xs i → e < length xs → get_or xs e 0 ≡ 42 → drop i xs ≡ (between i e xs ++ (42 ∷ [])) ++ drop (e + 1) xs
content_spelled xs i e p l s =
    let m : e - i ≡ prefix_len is_content (drop i xs) = omega arith in
    let q : i + (e - i) ≡ e = omega arith in
    cut_at xs i (e - i) ∙ ap (λ n. between i e xs ++ drop n xs) q ∙ ap (λ z. between i e xs ++ z) (drop_more xs e 0 l ∙ ap (λ b. b ∷ drop (e + 1) xs) s) ∙ sym (append_assoc (between i e xs) (42 ∷ []) (drop (e + 1) xs))

content_good : (xs : List ℕ) (i e : ℕ) → e ≡ content_end xs i → e < length xs → i < e → Content (between i e xs)
content_good xs i e p l h =
    let m : prefix_len is_content (drop i xs) ≡ e - i = omega arith in
    let long : 1 ≤ length (between i e xs) = simp (length-take, length-drop) (omega arith) in
    (long, subst (λ n. AllByRecursion (λ b. is_content b ≡ true) (take n (drop i xs))) m (front_passes is_content (drop i xs)))

plain_spells : (xs : List ℕ) (i e : ℕ) (w : WordSeen) → e ≡ content_end xs i → e < length xs → get_or xs e 0 ≡ 42 → i < e → plain_word xs i e ≡ Ok w → Spells xs i w
plain_spells xs i e w p l s h k =
    subst (Spells xs i) (same_ok _ w k) (record { content = content_good xs i e p l h; bytes = content_spelled xs i e p l s })

-- an extended word behind its `%` at i
extended_spells : (k : ℕ) (xs : List ℕ) (i e : ℕ) (w : WordSeen) → i < length xs → get_or xs i 0 ≡ 37 → e ≡ content_end xs (i + 1) → e < length xs → get_or xs e 0 ≡ 42 → i + 1 < e → extended_word k xs (i + 1) e ≡ Ok w → Spells xs i w
extended_spells k xs i e w b a p l s h g =
    let split : (e + 1 < length xs) × (get_or xs (e + 1) 0 ≡ 37) × (record { extended = true; content = record { at = i + 1; text = between (i + 1) e xs }; next = e + 2 } ≡ w) = grind (arith, nat_tests) in
    let inner = content_spelled xs (i + 1) e p l s in
    let mark : drop (e + 1) xs ≡ 37 ∷ drop (e + 2) xs = drop_more xs (e + 1) 0 split.0 ∙ ap (λ z. z ∷ drop (e + 1 + 1) xs) split.1 ∙ ap (λ n. 37 ∷ drop n xs) (omega arith) in
    let text = between (i + 1) e xs in
    let whole : drop i xs ≡ (37 ∷ (text ++ (42 ∷ (37 ∷ [])))) ++ drop (e + 2) xs =
    drop_more xs i 0 b ∙ ap (λ z. z ∷ drop (i + 1) xs) a ∙ ap (λ z. 37 ∷ z) (inner ∙ append_assoc text (42 ∷ []) (drop (e + 1) xs) ∙ ap (λ z. text ++ (42 ∷ z)) mark ∙ sym (append_assoc text (42 ∷ (37 ∷ [])) (drop (e + 2) xs))) in
    subst (Spells xs i) split.2 (record { content = content_good xs (i + 1) e p l h; bytes = whole })

-- the word at i, by whether the file ends there and whether a `%` stands there
spells_by : (k : ℕ) (xs : List ℕ) (i : ℕ) (w : WordSeen) (a b : Bool) → leb (length xs) i ≡ a → eqb (get_or xs i 0) 37 ≡ b → cond a (Err (fault 11 (length xs) k)) (cond b (onward (star_after k xs (i + 1)) (extended_word k xs (i + 1))) (onward (star_after k xs i) (plain_word xs i))) ≡ Ok w → Spells xs i w
spells_by k xs i w true b p q h = cc
spells_by k xs i w false true p q h =
    let o = onward_ok (star_after k xs (i + 1)) (extended_word k xs (i + 1)) w h in
    let f = star_found k xs (i + 1) (prefix_len is_content (drop (i + 1) xs)) o.0 o.1 in
    extended_spells k xs i o.0 w (grind (arith, nat_tests)) (grind (arith, nat_tests)) f.0 f.1 f.2 (omega arith) o.2
spells_by k xs i w false false p q h =
    let o = onward_ok (star_after k xs i) (plain_word xs i) w h in
    let f = star_found k xs i (prefix_len is_content (drop i xs)) o.0 o.1 in
    plain_spells xs i o.0 w f.0 f.1 f.2 (omega arith) o.2

word_from_spells : (k : ℕ) (xs : List ℕ) (i : ℕ) (w : WordSeen) → word_from k xs i ≡ Ok w → Spells xs i w
word_from_spells k xs i w = spells_by k xs i w (leb (length xs) i) (eqb (get_or xs i 0) 37) refl refl

-- the gap before a word
pub next_spells : (k : ℕ) (xs : List ℕ) (at : ℕ) (w : WordSeen) → next_word k xs at ≡ Ok w → Spells xs (word_start xs at) w
next_spells k xs at w h = word_from_spells k xs (word_start xs at) w h

pub words_are_the_file : WordsAreTheFile
words_are_the_file k xs at [] end h = ap (λ n. drop n xs) h
words_are_the_file k xs at (w ∷ ws) end h =
    let s = next_spells k xs at w h.0 in
    let n = prefix_len is_gap (drop at xs) in
    (take n (drop at xs), drop w.next xs, front_passes is_gap (drop at xs), s.content, cut_at xs at n ∙ ap (λ z. take n (drop at xs) ++ z) s.bytes, words_are_the_file (k + 1) xs w.next ws end h.1)

pub closed_by_gap : ClosedByGap
closed_by_gap k xs at h =
    let n = prefix_len is_gap (drop at xs) in
    let l : length (drop at xs) ≤ n = simp length-drop (grind (arith, nat_tests)) in
    subst (AllByRecursion (λ b. is_gap b ≡ true)) (take_all n (drop at xs) l) (front_passes is_gap (drop at xs))
