use Rattle.std.proofs.Common.{◌≡◌, ℕ, suc, ◌+◌, ◌-◌, ◌≤◌, true, eqb, leb, List, [], ◌∷◌, ◌++◌, length, get_or, take, drop, sym, refl, ap, ◌∙◌, subst, add-zero, arith}
use Rattle.forms.specs.Extended.{agrees, begins, is}
use Rattle.forms.specs.Numbers.{is_numeral, numeral, numeral_run, past}
use Rattle.forms.specs.Orders.{Order}
use Rattle.spellings.specs.Spellings.{Bit, Placed, Spelled, bytes, letters, part, spelling, written}
use Rattle.std.proofs.lemmas.List.{append_assoc, append-nil, drop_all, drop_more, length-append, length-take-le, take-append-drop, take_rest}
use Rattle.std.proofs.lemmas.List.Sums.{prefix_len-le-length}
use Rattle.std.proofs.lemmas.Bool.{and_parts, eqb-true, leb-true}
use Rattle.words.specs.Words.{Piece}

-- c is the bits bs, written in order, and then d
pub record Tiles (c : Piece) (bs : List Bit) (d : Piece) : Type 0 where
  pub text : c.text ≡ written bs ++ d.text
  pub at : d.at ≡ c.at + length (written bs)
  pub placed : Placed c.at bs

written_join : (bs cs : List Bit) → written (bs ++ cs) ≡ written bs ++ written cs
written_join [] cs = refl
written_join (b ∷ bs) cs = ap (λ xs. bytes b ++ xs) (written_join bs cs) ∙ sym (append_assoc (bytes b) (written bs) (written cs))

moved : (cs : List Bit) (m n : ℕ) → m ≡ n → Placed m cs → Placed n cs
moved cs m n e p = subst (λ (k : ℕ). Placed k cs) e p

placed_join : (a : ℕ) (bs cs : List Bit) → Placed a bs → Placed (a + length (written bs)) cs → Placed a (bs ++ cs)
placed_join a [] cs p q = moved cs (a + 0) a (omega arith) q
placed_join a (letters xs ∷ bs) cs p q =
    placed_join (a + length xs) bs cs p (moved cs (a + length (xs ++ written bs)) (a + length xs + length (written bs)) (omega (arith, length-append xs (written bs))) q)
placed_join a (part t ∷ bs) cs p q =
    (p.0, placed_join (a + length t.text) bs cs p.1 (moved cs (a + length (t.text ++ written bs)) (a + length t.text + length (written bs)) (omega (arith, length-append t.text (written bs))) q))

pub join : {c d e : Piece} {bs cs : List Bit} → Tiles c bs d → Tiles d cs e → Tiles c (bs ++ cs) e
join {c} {d} {e} {bs} {cs} p q =
    record {
      text = p.text ∙ ap (λ xs. written bs ++ xs) q.text ∙ sym (append_assoc (written bs) (written cs) e.text) ∙ ap (λ xs. xs ++ e.text) (sym (written_join bs cs));
      at = omega (arith, p.at, q.at, ap length (written_join bs cs), length-append (written bs) (written cs));
      placed = placed_join c.at bs cs p.placed (moved cs d.at (c.at + length (written bs)) p.at q.placed);
    }

-- nothing is left
pub spelled : {c d : Piece} (o : Order) → Tiles c (spelling o) d → d.text ≡ [] → Spelled c o
spelled {c} {d} o p e = record { text = p.text ∙ ap (λ xs. written (spelling o) ++ xs) e ∙ append-nil (written (spelling o)); placed = p.placed }

agrees_drop : (p xs : List ℕ) (i : ℕ) → i + length p ≤ length xs → agrees p xs i ≡ true → drop i xs ≡ p ++ drop (i + length p) xs
agrees_drop [] xs i h e = ap (λ n. drop n xs) (sym (add-zero i))
agrees_drop (a ∷ p) xs i h e =
    let t = and_parts (eqb (get_or xs i 0) a) (agrees p xs (suc i)) e in
    let m : i + 1 ≡ suc i = omega arith in
    let n : suc i + length p ≡ i + suc (length p) = omega arith in
    drop_more xs i 0 (omega arith)
    ∙ ap (λ x. x ∷ drop (i + 1) xs) (eqb-true (get_or xs i 0) a t.0)
    ∙ ap (λ ys. a ∷ ys) (ap (λ k. drop k xs) m ∙ agrees_drop p xs (suc i) (omega arith) t.1 ∙ ap (λ k. p ++ drop k xs) n)

-- letters at the front
pub head : (p : List ℕ) (k : ℕ) (c : Piece) → length p ≡ k → begins p c.text ≡ true → Tiles c (letters p ∷ []) (past k c)
head p k c n e =
    let t = and_parts (leb (length p) (length c.text)) (agrees p c.text 0) e in
    let z : 0 + length p ≡ k = omega arith in
    record {
      text = agrees_drop p c.text 0 (omega (arith, leb-true (length p) (length c.text) t.0)) t.1
          ∙ ap (λ j. p ++ drop j c.text) z
          ∙ ap (λ ys. p ++ ys) (sym (take_rest c.text k))
          ∙ ap (λ ys. ys ++ take (length c.text - k) (drop k c.text)) (sym (append-nil p));
      at = omega (arith, n, ap length (append-nil p));
      placed = tt;
    }

-- where a piece ends
abbrev pub end : Piece → Piece
end c = record { at = c.at + length c.text; text = [] }

-- the letters are the whole piece
pub whole_letters : (p : List ℕ) (c : Piece) → is p c.text ≡ true → Tiles c (letters p ∷ []) (end c)
whole_letters p c e =
    let t = and_parts (eqb (length c.text) (length p)) (agrees p c.text 0) e in
    let n : length c.text ≡ length p = eqb-true (length c.text) (length p) t.0 in
    record {
      text = agrees_drop p c.text 0 (omega arith) t.1 ∙ ap (λ ys. p ++ ys) (drop_all (0 + length p) c.text (omega arith)) ∙ sym (append-nil (p ++ []));
      at = omega (arith, n, ap length (append-nil p));
      placed = tt;
    }

-- a part that is the whole piece
pub whole_part : (c : Piece) → Tiles c (part c ∷ []) (end c)
whole_part c =
    record { text = sym (append-nil c.text) ∙ sym (append-nil (c.text ++ [])); at = omega (arith, ap length (append-nil c.text)); placed = (refl, tt) }

-- the numeral at the front
pub numeral_tiles : (c : Piece) → Tiles c (part (numeral c).value ∷ []) (numeral c).rest
numeral_tiles c =
    let k : ℕ = numeral_run c.text in
    let z : numeral_run c.text - 0 ≡ numeral_run c.text = omega arith in
    record {
      text = sym (take-append-drop (numeral_run c.text) c.text)
          ∙ ap (λ j. take j c.text ++ drop (numeral_run c.text) c.text) (sym z)
          ∙ ap (λ ys. ys ++ drop (numeral_run c.text) c.text) (sym (append-nil (take (numeral_run c.text - 0) c.text)))
          ∙ ap (λ ys. (take (numeral_run c.text - 0) c.text ++ []) ++ ys) (sym (take_rest c.text (numeral_run c.text)));
      at = omega (arith, ap length (append-nil (take (numeral_run c.text - 0) c.text)), length-take-le (numeral_run c.text - 0) c.text (omega (arith, prefix_len-le-length is_numeral c.text)), prefix_len-le-length is_numeral c.text);
      placed = (refl, tt);
    }

-- nothing written
pub nothing : (c : Piece) → Tiles c [] c
nothing c = record { text = refl; at = omega arith; placed = tt }
