-- A command that is read in a file is read in the file with more bytes behind it.
use Rattle.std.proofs.Common.{◌≡◌, ℕ, suc, ◌+◌, ◌-◌, ◌<◌, ◌≤◌, Bool, true, false, cond, eqb, leb, List, [], ◌∷◌, ◌++◌, length, get_or, take, drop, Some, None, Ok, Err, Option, refl, ap, ◌∙◌, arith}
use Rattle.commands.specs.Files.{ReadSeen, command_at, formed, longest_of}
use Rattle.filelaws.proofs.Answers.{onward_ok}
use Rattle.forms.specs.Forms.{form_of}
use Rattle.forms.specs.Orders.{Order}
use Rattle.forms.specs.declared.Format.{Format}
use Rattle.std.proofs.lemmas.List.{drop-append-le, get_or_append_left, length-append, length-drop, take-append-le}
use Rattle.std.proofs.lemmas.Bool.{cond-false, cond-true, eq-eqb, eqb-true, leb-false, lt-leb}
use Rattle.std.proofs.lemmas.Bool.Decides.{nat_tests}
use Rattle.std.specs.List.{between, prefix_len}
use Rattle.words.specs.Words.{WordSeen, content_end, extended_word, fault, is_content, is_gap, next_word, onward, plain_word, star_after, star_at, word_from, word_start}

-- a front that ends before the list does
front_ends : (p : ℕ → Bool) (us vs : List ℕ) → prefix_len p us < length us → prefix_len p (us ++ vs) ≡ prefix_len p us
front_ends p [] vs h = absurd (omega arith)
front_ends p (u ∷ us) vs h =
    let step : (b : Bool) → cond b (1 + prefix_len p us) 0 < suc (length us) → cond b (1 + prefix_len p (us ++ vs)) 0 ≡ cond b (1 + prefix_len p us) 0 = λ b. elim b as (λ b. cond b (1 + prefix_len p us) 0 < suc (length us) → cond b (1 + prefix_len p (us ++ vs)) 0 ≡ cond b (1 + prefix_len p us) 0) [ true ↦ (λ l. ap (λ n. 1 + n) (front_ends p us vs (omega arith))) | false ↦ (λ l. refl) ]
    in step (p u) h

module _ (ys zs : List ℕ) where
  front_same : (p : ℕ → Bool) (i : ℕ) → i + prefix_len p (drop i ys) < length ys → prefix_len p (drop i (ys ++ zs)) ≡ prefix_len p (drop i ys)
  front_same p i h =
      ap (prefix_len p) (drop-append-le i ys zs (omega arith)) ∙ front_ends p (drop i ys) zs (omega (arith, length-drop i ys))

  between_same : (i e : ℕ) → i ≤ e → e ≤ length ys → between i e (ys ++ zs) ≡ between i e ys
  between_same i e h l =
      ap (take (e - i)) (drop-append-le i ys zs (omega arith)) ∙ take-append-le (e - i) (drop i ys) zs (omega (arith, length-drop i ys))

  longer : length ys ≤ length (ys ++ zs)
  longer = omega (arith, length-append ys zs)

  -- the `*` behind the content at i stands at e
  record Star (i e : ℕ) : Type 0 where
    is : e ≡ content_end ys i
    within : e < length ys
    star : get_or ys e 0 ≡ 42
    behind : i < e

  star_found : (k i m e : ℕ) → star_at k ys i (i + m) ≡ Ok e → (e ≡ i + m) × (e < length ys) × (get_or ys e 0 ≡ 42) × (i < e)
  star_found k i m e h = grind (arith, nat_tests)

  star_of : (k i e : ℕ) → star_after k ys i ≡ Ok e → Star i e
  star_of k i e h =
      let f = star_found k i (prefix_len is_content (drop i ys)) e h in
      record { is = f.0; within = f.1; star = f.2; behind = f.3 }

  star_there : (k i e : ℕ) (xs : List ℕ) → e < length xs → get_or xs e 0 ≡ 42 → i < e → star_at k xs i e ≡ Ok e
  star_there k i e xs l s h = grind (arith, nat_tests)

  star_same : (k i e : ℕ) → Star i e → star_after k (ys ++ zs) i ≡ Ok e
  star_same k i e s =
      let m : content_end (ys ++ zs) i ≡ e = omega (arith, s.is, s.within, front_same is_content i (omega (arith, s.is, s.within))) in
      ap (star_at k (ys ++ zs) i) m
      ∙ star_there k i e (ys ++ zs) (omega (arith, s.within, longer)) (get_or_append_left ys zs 0 e s.within ∙ s.star) s.behind

  plain_same : (i e : ℕ) → Star i e → plain_word (ys ++ zs) i e ≡ plain_word ys i e
  plain_same i e s = ap (λ t. Ok (record { extended = false; content = record { at = i; text = t }; next = e + 1 })) (between_same i e (omega (arith, s.behind)) (omega (arith, s.within)))

  -- a `%` stands right behind the `*` at e
  mark_found : (k i e : ℕ) (w : WordSeen) → extended_word k ys i e ≡ Ok w → (e + 1 < length ys) × (get_or ys (e + 1) 0 ≡ 37) × (record { extended = true; content = record { at = i; text = between i e ys }; next = e + 2 } ≡ w)
  mark_found k i e w h = grind (arith, nat_tests)

  mark_there : (k i e : ℕ) (xs : List ℕ) → e + 1 < length xs → get_or xs (e + 1) 0 ≡ 37
      → extended_word k xs i e ≡ Ok (record { extended = true; content = record { at = i; text = between i e xs }; next = e + 2 })
  mark_there k i e xs l m = grind (arith, nat_tests)

  extended_same : (k i e : ℕ) (w : WordSeen) → Star i e → extended_word k ys i e ≡ Ok w → (extended_word k (ys ++ zs) i e ≡ Ok w) × (w.next ≤ length ys)
  extended_same k i e w s h =
      let f = mark_found k i e w h in (
        mark_there k i e (ys ++ zs) (omega (arith, f.0, longer)) (get_or_append_left ys zs 0 (e + 1) f.0 ∙ f.1)
            ∙ ap (λ t. Ok (record { extended = true; content = record { at = i; text = t }; next = e + 2 })) (between_same i e (omega (arith, s.behind)) (omega (arith, s.within)))
            ∙ ap Ok f.2,
        omega (arith, f.0, ap (λ w. w.next) f.2),
      )

  -- the word at i, by whether the file ends there and whether a `%` stands there
  word_by : (k i : ℕ) (w : WordSeen) (a b : Bool) → leb (length ys) i ≡ a → eqb (get_or ys i 0) 37 ≡ b
      → cond a (Err (fault 11 (length ys) k)) (cond b (onward (star_after k ys (i + 1)) (extended_word k ys (i + 1))) (onward (star_after k ys i) (plain_word ys i))) ≡ Ok w
      → (word_from k (ys ++ zs) i ≡ Ok w) × (i < length ys) × (w.next ≤ length ys)
  word_by k i w true b p q h = absurd (cc)
  word_by k i w false true p q h =
      let l : i < length ys = leb-false (length ys) i p in
      let o = onward_ok (star_after k ys (i + 1)) (extended_word k ys (i + 1)) w h in
      let s = star_of k (i + 1) o.0 o.1 in
      let x = extended_same k (i + 1) o.0 w s o.2 in (
        cond-false _ _ _ (lt-leb (length (ys ++ zs)) i (omega (arith, longer)))
            ∙ cond-true _ _ _ (eq-eqb (get_or (ys ++ zs) i 0) 37 (get_or_append_left ys zs 0 i l ∙ eqb-true (get_or ys i 0) 37 q))
            ∙ ap (λ r. onward r (extended_word k (ys ++ zs) (i + 1))) (star_same k (i + 1) o.0 s)
            ∙ x.0,
        l,
        x.1,
      )
  word_by k i w false false p q h =
      let l : i < length ys = leb-false (length ys) i p in
      let o = onward_ok (star_after k ys i) (plain_word ys i) w h in
      let s = star_of k i o.0 o.1 in (
        cond-false _ _ _ (lt-leb (length (ys ++ zs)) i (omega (arith, longer)))
            ∙ cond-false _ _ _ (ap (λ c. eqb c 37) (get_or_append_left ys zs 0 i l) ∙ q)
            ∙ ap (λ r. onward r (plain_word (ys ++ zs) i)) (star_same k i o.0 s)
            ∙ plain_same i o.0 s
            ∙ o.2,
        l,
        (let q = o.2 in let e : o.0 + 1 ≡ w.next = cc in omega (arith, s.within)),
      )

  word_same : (k i : ℕ) (w : WordSeen) → next_word k ys i ≡ Ok w → (next_word k (ys ++ zs) i ≡ Ok w) × (w.next ≤ length ys)
  word_same k i w h =
      let f = word_by k (word_start ys i) w (leb (length ys) (word_start ys i)) (eqb (get_or ys (word_start ys i) 0) 37) refl refl h in
      let m : word_start (ys ++ zs) i ≡ word_start ys i = ap (λ n. i + n) (front_same is_gap i f.1) in
      (ap (word_from k (ys ++ zs)) m ∙ f.0, f.2)

  formed_next : (k : ℕ) (w : WordSeen) (o : Option Order) (r : ReadSeen) → formed k w o ≡ Ok r → w.next ≡ r.next
  formed_next k w None r h = absurd (cc)
  formed_next k w (Some o) r h = cc

  pub command_same : (k i : ℕ) (f : Option Format) (r : ReadSeen) → command_at k ys i f ≡ Ok r → (command_at k (ys ++ zs) i f ≡ Ok r) × (r.next ≤ length ys)
  unfolding command_at
  command_same k i f r h =
      let o = onward_ok (next_word k ys i) (λ w. formed k w (form_of (longest_of f) w)) r h in
      let x = word_same k i o.0 o.1 in
      (ap (λ w. onward w (λ w. formed k w (form_of (longest_of f) w))) x.0 ∙ o.2, omega (arith, x.1, formed_next k o.0 (form_of (longest_of f) o.0) r o.2))
