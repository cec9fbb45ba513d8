-- More room in the tables.
use Rattle.std.proofs.Common.{◌≡◌, ℕ, zero, suc, ◌+◌, ◌≤◌, Bool, true, false, cond, ltb, leb, ◌⊎◌, List, length, Ok, Err, Result, sym, refl, ap, ◌∙◌, inl, inr, arith}
use Rattle.commands.specs.Files.{ReadSeen, command_at, is_end}
use Rattle.drawing.specs.Books.{Books, Rooms, Standing, begin, stepped, taken}
use Rattle.drawing.specs.Reading.{Outcome, after_read, after_step, ended, read_file, read_on, refused}
use Rattle.filelaws.proofs.Answers.{entered}
use Rattle.filelaws.specs.Laws.{FullTablesOnlyDecide29, Roomier, says_full}
use Rattle.forms.specs.Orders.{Order}
use Rattle.rules.specs.Rules.{decided, otherwise}
use Rattle.rules.specs.States as state
use Rattle.rules.specs.States.{Decided, EffectSeen}
use Rattle.std.proofs.lemmas.Bool.{cond-true, lt-ltb, ltb-true, true≢false}
use Rattle.words.specs.Words.{Told, closing, fault, onward}

-- a table is full, or a larger one does the same
abbrev Alike : {A : Type 0} → Result A ℕ → Result A ℕ → Type 0
Alike x y = (x ≡ Err 29) ⊎ (y ≡ x)

room_left : {A : Type 0} (n a b : ℕ) (x : Result A ℕ) → a ≤ b → Alike (otherwise (ltb n a) 29 x) (otherwise (ltb n b) 29 x)
room_left {A} n a b x h =
    let step : (t : Bool) → ltb n a ≡ t → Alike {A = A} (otherwise t 29 x) (otherwise (ltb n b) 29 x) = λ t. elim t as (λ t. ltb n a ≡ t → Alike {A = A} (otherwise t 29 x) (otherwise (ltb n b) 29 x)) [ true ↦ (λ e. inr (cond-true (ltb n b) x (Err 29) (lt-ltb n b (omega (arith, ltb-true n a e))))) | false ↦ (λ e. inl refl) ]
    in step (ltb n a) refl

taken_alike : (r s : Rooms) (b : Books) (e : EffectSeen) → Roomier r s → Alike (taken r b e) (taken s b e)
taken_alike r s b state.nothing h = inr refl
taken_alike r s b (state.aperture a) h = room_left (length b.apertures) r.apertures s.apertures _ h.apertures
taken_alike r s b (state.object o) h = room_left (length b.objects) r.objects s.objects _ h.objects
taken_alike r s b (state.piece p) h = room_left (length b.pieces) r.pieces s.pieces _ h.pieces

-- what follows of answers that are alike is alike
alike_onward : {A B : Type 0} (x y : Result A ℕ) (f : A → Result B ℕ) → Alike x y → Alike (onward x f) (onward y f)
alike_onward x y f (inl e) = inl (ap (λ z. onward z f) e)
alike_onward x y f (inr e) = inr (ap (λ z. onward z f) e)

entered_alike : (r s : Rooms) (b : Books) (d : Decided) → Roomier r s → Alike (onward d (entered r b)) (onward d (entered s b))
entered_alike r s b (Ok d) h = alike_onward (taken r b d.1) (taken s b d.1) _ (taken_alike r s b d.1 h)
entered_alike r s b (Err n) h = inr refl

stepped_alike : (r s : Rooms) (st : Standing) (o : Order) → Roomier r s → Alike (stepped r st o) (stepped s st o)
unfolding stepped
stepped_alike r s st o h = entered_alike r s st.books (decided st.state st.books.apertures (length st.books.objects) (length st.books.pieces) o) h

-- readings from anywhere that do the same where the first is not refused with 29
abbrev Follows : (ℕ → Standing → Outcome) → (ℕ → Standing → Outcome) → Type 0
Follows f g = (j : ℕ) (next : Standing) → says_full (f j next).refusal ≡ false → g j next ≡ f j next

by_end : (b : Bool) (o p q : Outcome) → (says_full p.refusal ≡ false → q ≡ p) → says_full (cond b o p).refusal ≡ false → cond b o q ≡ cond b o p
by_end true o p q h e = refl
by_end false o p q h e = h e

step_follows : (k : ℕ) (xs : List ℕ) (c : ReadSeen) (f g : ℕ → Standing → Outcome) → Follows f g → (st : Standing) (x : Result Standing ℕ)
    → says_full (after_step k xs c f st x).refusal ≡ false → after_step k xs c g st x ≡ after_step k xs c f st x
step_follows k xs c f g h st (Err n) e = refl
step_follows k xs c f g h st (Ok next) e =
    by_end (is_end c.order) (ended next (closing (k + 1) xs c.next)) (f c.next next) (g c.next next) (h c.next next) e

alike_follows : (k : ℕ) (xs : List ℕ) (c : ReadSeen) (f g : ℕ → Standing → Outcome) → Follows f g → (st : Standing) (x y : Result Standing ℕ) → Alike x y
    → says_full (after_step k xs c f st x).refusal ≡ false → after_step k xs c g st y ≡ after_step k xs c f st x
alike_follows k xs c f g h st x y (inl z) e = absurd (true≢false (ap (λ t. says_full (after_step k xs c f st t).refusal) (sym z) ∙ e))
alike_follows k xs c f g h st x y (inr z) e = ap (after_step k xs c g st) z ∙ step_follows k xs c f g h st x e

read_follows : (r s : Rooms) → Roomier r s → (k : ℕ) (xs : List ℕ) (f g : ℕ → Standing → Outcome) → Follows f g → (st : Standing) (c : Result ReadSeen Told)
    → says_full (after_read r k xs f st c).refusal ≡ false → after_read s k xs g st c ≡ after_read r k xs f st c
read_follows r s m k xs f g h st (Err t) e = refl
read_follows r s m k xs f g h st (Ok c) e = alike_follows k xs c f g h st (stepped r st c.order) (stepped s st c.order) (stepped_alike r s st c.order m) e

reading_follows : (fuel : ℕ) (r s : Rooms) → Roomier r s → (xs : List ℕ) (k : ℕ) → Follows (λ i st. read_on fuel r xs i k st) (λ i st. read_on fuel s xs i k st)
reading_follows zero r s m xs k i st e = refl
reading_follows (suc fuel) r s m xs k i st e =
    read_follows r s m k xs (λ j next. read_on fuel r xs j (k + 1) next) (λ j next. read_on fuel s xs j (k + 1) next)
    (reading_follows fuel r s m xs (k + 1)) st (command_at k xs i st.state.format) e

by_length : (b : Bool) (o p q : Outcome) → (says_full p.refusal ≡ false → q ≡ p) → says_full (cond b p o).refusal ≡ false → cond b q o ≡ cond b p o
by_length true o p q h e = h e
by_length false o p q h e = refl

pub full_tables_only_decide_29 : FullTablesOnlyDecide29
unfolding read_file
full_tables_only_decide_29 r s xs m e =
    by_length (leb (length xs) 1048576) (refused (fault 7 0 0) begin) (read_on (suc (length xs)) r xs 0 0 begin) (read_on (suc (length xs)) s xs 0 0 begin)
    (reading_follows (suc (length xs)) r s m xs 0 0 begin) e
