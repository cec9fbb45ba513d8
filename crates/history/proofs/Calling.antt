-- One call after another.
use Rattle.std.proofs.Common.{◌≡◌, ℕ, ◌+◌, ◌<◌, List, [], ◌∷◌, ◌++◌, length, get_or, take, sym, refl, ap, ◌∙◌, subst, append_assoc, append-nil}
use Rattle.film.specs.Film.{Meaning}
use Rattle.film.specs.Frame.{Frame}
use Rattle.history.proofs.Overlaying.{Overlaid, leaves, leaves_append, leaves_left, left_leaves, overlaid_then}
use Rattle.history.specs.Calls.{AllAnswered, Answers, Call, Said, Tables, clear, lays, look, part, past, said_by, tables_after, tables_past, whole}
use Rattle.history.specs.Coverings.{Covering, Left, on}
use Rattle.history.specs.Verdicts.{entire, numbers, verdict}
use Rattle.std.proofs.lemmas.List.{take_more}

pub past_append : (f : Frame) (xs ys : List Call) → past f (xs ++ ys) ≡ past f xs ++ past f ys
past_append f [] ys = refl
past_append f (q ∷ qs) ys = ap (λ zs. lays f q ++ zs) (past_append f qs ys) ∙ sym (append_assoc (lays f q) (past f qs) (past f ys))

-- an answer from the film as it stands, seen from the film before
pub earlier_answer : {a b : Meaning} {cs : List Covering} (ds : List Covering) (q : Call) (x : Said) → Overlaid a cs b → Answers b ds q x → Answers a (cs ++ ds) q x
earlier_answer ds (whole s xs) x p h = h ∙ ap (λ f. said_by (numbers (verdict f s (entire f) xs))) p.framed
earlier_answer ds (part s v xs) x p h = h ∙ ap (λ f. said_by (numbers (verdict f s v xs))) p.framed
earlier_answer ds clear x p h = h
earlier_answer {a} {b} {cs} ds (look c r) x p h =
    let f = a.frame in (
      λ here.
          let k = h.0 (ap (λ n. on n c r) p.framed ∙ here) in
          let is : k.0 ≡ leaves f c r (a.pixel c r) (cs ++ ds) =
          leaves_left b.frame c r (b.pixel c r) ds _ k.1.1 ∙ ap (λ n. leaves n c r (b.pixel c r) ds) p.framed
          ∙ ap (λ v. leaves f c r v ds) (p.pixels c r here) ∙ sym (leaves_append f c r (a.pixel c r) cs ds) in
          (k.0, (k.1.0, subst (Left f c r (a.pixel c r) (cs ++ ds)) (sym is) (left_leaves f c r (a.pixel c r) (cs ++ ds)))),
      λ off. h.1 (ap (λ n. on n c r) p.framed ∙ off),
    )

pub earlier_answers : {a b : Meaning} {cs : List Covering} (ds : List Covering) (qs : List Call) (xs : List Said) → Overlaid a cs b → AllAnswered b ds qs xs → AllAnswered a (cs ++ ds) qs xs
earlier_answers ds [] [] p h = tt
earlier_answers ds [] (x ∷ xs) p h = absurd h
earlier_answers ds (q ∷ qs) [] p h = absurd h
earlier_answers {a} {b} {cs} ds (q ∷ qs) (x ∷ xs) p h = (
  earlier_answer ds q x p h.0,
  subst (λ l. AllAnswered a l qs xs) (sym (append_assoc cs ds (lays a.frame q)))
      (subst (λ n. AllAnswered a (cs ++ (ds ++ lays n q)) qs xs) p.framed (earlier_answers (ds ++ lays b.frame q) qs xs p h.1)),
)

-- the answers to some calls, and to those after them
pub answers_join : (a : Meaning) (cs : List Covering) (qs rs : List Call) (xs ys : List Said) → AllAnswered a cs qs xs → AllAnswered a (cs ++ past a.frame qs) rs ys → AllAnswered a cs (qs ++ rs) (xs ++ ys)
answers_join a cs [] rs [] ys h k = subst (λ l. AllAnswered a l rs ys) (append-nil cs) k
answers_join a cs [] rs (x ∷ xs) ys h k = absurd h
answers_join a cs (q ∷ qs) rs [] ys h k = absurd h
answers_join a cs (q ∷ qs) rs (x ∷ xs) ys h k =
    (h.0, answers_join a (cs ++ lays a.frame q) qs rs xs ys h.1 (subst (λ l. AllAnswered a l rs ys) (sym (append_assoc cs (lays a.frame q) (past a.frame qs))) k))

tables_append : (f : Frame) (t : Tables) (xs ys : List Call) → tables_past f t (xs ++ ys) ≡ tables_past f (tables_past f t xs) ys
tables_append f t [] ys = refl
tables_append f t (q ∷ qs) ys = tables_append f (tables_after f t q) qs ys

-- one call more on the film
pub overlaid_call : {before mid after : Meaning} (qs : List Call) (i : ℕ) → i < length qs
    → Overlaid before (past before.frame (take i qs)) mid → Overlaid mid (lays mid.frame (get_or qs i clear)) after
    → Overlaid before (past before.frame (take (i + 1) qs)) after
overlaid_call {before} {mid} {after} qs i lt p q =
    let f = before.frame in
    let here = get_or qs i clear in
    let lists : past f (take (i + 1) qs) ≡ past f (take i qs) ++ lays f here =
    ap (past f) (take_more qs i clear lt) ∙ past_append f (take i qs) (here ∷ []) ∙ ap (λ cs. past f (take i qs) ++ cs) (append-nil (lays f here)) in
    subst (λ cs. Overlaid before cs after) (sym lists) (overlaid_then p (subst (λ n. Overlaid mid (lays n here) after) p.framed q))

-- one answer more
pub answered_call : {before mid : Meaning} (qs : List Call) (answers : List Said) (i : ℕ) (a : Said) → i < length qs
    → Overlaid before (past before.frame (take i qs)) mid → AllAnswered before [] (take i qs) answers → Answers mid [] (get_or qs i clear) a
    → AllAnswered before [] (take (i + 1) qs) (answers ++ (a ∷ []))
answered_call {before} {mid} qs answers i a lt p h k =
    let here = get_or qs i clear in
    let cs = past before.frame (take i qs) in
    let late = subst (λ l. Answers before l here a) (append-nil cs) (earlier_answer [] here a p k) in
    subst (λ xs. AllAnswered before [] xs (answers ++ (a ∷ []))) (sym (take_more qs i clear lt))
    (answers_join before [] (take i qs) (here ∷ []) answers (a ∷ []) h (late, tt))

-- one call more into the tables
pub tables_call : (f : Frame) (t now next : Tables) (qs : List Call) (i : ℕ) → i < length qs → now ≡ tables_past f t (take i qs)
    → next ≡ tables_after f now (get_or qs i clear) → next ≡ tables_past f t (take (i + 1) qs)
tables_call f t now next qs i lt h k =
    let here = get_or qs i clear in
    k ∙ ap (λ x. tables_after f x here) h ∙ sym (ap (tables_past f t) (take_more qs i clear lt) ∙ tables_append f t (take i qs) (here ∷ []))
